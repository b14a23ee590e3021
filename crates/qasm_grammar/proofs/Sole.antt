-- Tokens that pieces of a statement spell are spelled by no others.
use Rattle.std.proofs.Common.{◌≡◌, ℕ, ◌+◌, Bool, true, false, List, [], ◌∷◌, ◌++◌, Some, refl, sym, ap, subst, ◌∙◌}
use Rattle.std.specs.List.{slice_get, flat_map}
use Rattle.qasm_grammar.specs.declared.terminal.Terminal.{Terminal}
use Rattle.qasm_grammar.specs.declared.terminal.Terminal.TheVariants.{Name, Comma, Open, OpenBracket, Semicolon}
use Rattle.qasm_grammar.specs.declared.spoken.Argument.{Argument}
use Rattle.qasm_grammar.specs.declared.spoken.Argument.TheVariants as arguments
use Rattle.qasm_grammar.specs.Forms.{fits}
use Rattle.qasm_grammar.specs.Spelling.{Piece, Stands, fixed, given, Spells, listed, arg_text, args_text, names_text, brackets_text}
use Rattle.qasm_grammar.proofs.Steps.{own}

pub found_same : (found : List Terminal) (at : ℕ) (t u : Terminal) → slice_get found at ≡ Some t → slice_get found at ≡ Some u → t ≡ u
found_same found at t u e f = cc

not_both : (b : Bool) → b ≡ false → b ≡ true → ⊥
not_both b e f = cc

-- a token of the grammar that one token of a text alone fits
abbrev pub IsOwn : Terminal → Type 0
IsOwn s = (t : Terminal) → fits t s ≡ true → t ≡ s

-- the token that stands there is this one
pub own_stands : (s : Terminal) (found : List Terminal) (at : ℕ) → IsOwn s → Stands s found at → slice_get found at ≡ Some s
own_stands s found at p h = h.1 ∙ ap (λ (t : Terminal). Some t) (p h.0 h.2)

-- such a token, and one that it doesn't fit, don't stand at one place
pub clash : (s r : Terminal) (found : List Terminal) (at : ℕ) → IsOwn s → fits s r ≡ false → Stands s found at → Stands r found at → ⊥
clash s r found at p apart h k =
    let sk : s ≡ k.0 = found_same found at s k.0 (own_stands s found at p h) k.1 in
    not_both (fits s r) apart (ap (λ (t : Terminal). fits t r) sk ∙ k.2)

-- none of these tokens stands there
abbrev pub NoneStands : List Terminal → List Terminal → ℕ → Type 0
NoneStands [] found at = Unit {0}
NoneStands (s ∷ ss) found at = (Stands s found at → ⊥) × NoneStands ss found at

-- a token fits none of these
abbrev pub FitsNone : Terminal → List Terminal → Type 0
FitsNone t [] = Unit {0}
FitsNone t (s ∷ ss) = (fits t s ≡ false) × FitsNone t ss

-- where this token stands, none of these does
abbrev pub Bars : Terminal → List Terminal → Type 0
Bars t others = (found : List Terminal) (at : ℕ) → Stands t found at → NoneStands others found at

pub bars : (t : Terminal) → IsOwn t → (others : List Terminal) → FitsNone t others → Bars t others
bars t p [] a found at h = tt
bars t p (s ∷ ss) a found at h = ((λ k. clash t s found at p a.0 h k), bars t p ss a.1 found at h)

pub split : (ps qs : List Piece) (found : List Terminal) (at end : ℕ) → Spells (ps ++ qs) found at end → (mid : ℕ) × Spells ps found at mid × Spells qs found mid end
split [] qs found at end s = (at, refl, s)
split (p ∷ ps) qs found at end s =
    let r = split ps qs found (at + 1) end s.1 in
    (r.0, (s.0, r.1), r.2)

-- tokens spell one value alone, and end at one place, where none of these others stands after them
abbrev pub IsSole : {X : Type 0} → (X → List Piece) → List Terminal → Type 0
IsSole {X} text others =
    (x y : X) (found : List Terminal) (at m n : ℕ) → NoneStands others found m → NoneStands others found n → Spells (text x) found at m → Spells (text y) found at n → (x ≡ y) × (m ≡ n)

-- a value and the token after it
pub closed : {X : Type 0} (text : X → List Piece) (others : List Terminal) (t : Terminal) → IsSole text others → Bars t others → (x y : X) (ps qs : List Piece) (found : List Terminal) (at m n : ℕ)
    → Spells (text x ++ (fixed t ∷ ps)) found at m → Spells (text y ++ (fixed t ∷ qs)) found at n → (x ≡ y) × ((mid : ℕ) × Spells ps found mid m × Spells qs found mid n)
closed text others t one apart x y ps qs found at m n s u =
    let p = split (text x) (fixed t ∷ ps) found at m s in
    let q = split (text y) (fixed t ∷ qs) found at n u in
    let h = one x y found at p.0 q.0 (apart found p.0 p.2.0) (apart found q.0 q.2.0) p.1 q.1 in
    let Q : ℕ → Type 0 = λ i. Spells qs found (i + 1) n in
    (h.0, (p.0 + 1, p.2.1, subst Q (sym h.1) q.2.1))

abbrev pub name_text : ℕ → List Piece
name_text n = given Name n ∷ []

pub name_sole : IsSole name_text []
name_sole x y found at m n u v s t = (s.0.1 ∙ sym t.0.1, sym s.1 ∙ t.1)

same_single : (a b i j : ℕ) → a ≡ b → i ≡ j → arguments.Single a i ≡ arguments.Single b j
same_single a b i j e f = cc

pub arg_sole : IsSole arg_text (OpenBracket ∷ [])
arg_sole (arguments.Whole a) (arguments.Whole b) found at m n u v s t = (ap (λ (k : ℕ). arguments.Whole k) (s.0.1 ∙ sym t.0.1), sym s.1 ∙ t.1)
arg_sole (arguments.Whole a) (arguments.Single b j) found at m n u v s t =
    let P : ℕ → Type 0 = λ k. Stands OpenBracket found k in
    absurd (u.0 (subst P s.1 t.1.0))
arg_sole (arguments.Single a i) (arguments.Whole b) found at m n u v s t =
    let P : ℕ → Type 0 = λ k. Stands OpenBracket found k in
    absurd (v.0 (subst P t.1 s.1.0))
arg_sole (arguments.Single a i) (arguments.Single b j) found at m n u v s t = (same_single a b i j (s.0.1 ∙ sym t.0.1) (s.1.1.0.1 ∙ sym t.1.1.0.1), sym s.1.1.1.1 ∙ t.1.1.1.1)

-- each further one of a list stands after a comma
abbrev pub further : {X : Type 0} → (X → List Piece) → List X → List Piece
further text xs = flat_map (λ y. fixed Comma ∷ text y) xs

-- after one of a list stands a comma, or what stands after the list
behind_one : {X : Type 0} (text : X → List Piece) (others : List Terminal) → Bars Comma others → (xs : List X) (found : List Terminal) (at m : ℕ) → NoneStands (Comma ∷ others) found m → Spells (further text xs) found at m → NoneStands others found at
behind_one text others apart [] found at m u s =
    let P : ℕ → Type 0 = λ k. NoneStands others found k in
    subst P (sym s) u.1
behind_one text others apart (x ∷ xs) found at m u s = apart found at s.0

further_sole : {X : Type 0} (text : X → List Piece) (others : List Terminal) → IsSole text others → Bars Comma others → IsSole (further text) (Comma ∷ others)
further_sole text others one apart [] [] found at m n u v s t = (refl, sym s ∙ t)
further_sole text others one apart [] (y ∷ ys) found at m n u v s t =
    let P : ℕ → Type 0 = λ k. Stands Comma found k in
    absurd (u.0 (subst P s t.0))
further_sole text others one apart (x ∷ xs) [] found at m n u v s t =
    let P : ℕ → Type 0 = λ k. Stands Comma found k in
    absurd (v.0 (subst P t s.0))
further_sole text others one apart (x ∷ xs) (y ∷ ys) found at m n u v s t =
    let p = split (text x) (further text xs) found (at + 1) m s.1 in
    let q = split (text y) (further text ys) found (at + 1) n t.1 in
    let h = one x y found (at + 1) p.0 q.0 (behind_one text others apart xs found p.0 m u p.2) (behind_one text others apart ys found q.0 n v q.2) p.1 q.1 in
    let Q : ℕ → Type 0 = λ i. Spells (further text ys) found i n in
    let r = further_sole text others one apart xs ys found p.0 m n u v p.2 (subst Q (sym h.1) q.2) in
    ((λ i. h.0 i ∷ r.0 i), r.1)

-- each one begins with a name
abbrev pub IsNamed : {X : Type 0} → (X → List Piece) → Type 0
IsNamed {X} text = (x : X) (ps : List Piece) (found : List Terminal) (at end : ℕ) → Spells (text x ++ ps) found at end → Stands Name found at

pub name_named : IsNamed name_text
name_named x ps found at end s = s.0.0

pub arg_named : IsNamed arg_text
arg_named (arguments.Whole a) ps found at end s = s.0.0
arg_named (arguments.Single a i) ps found at end s = s.0.0

pub listed_sole : {X : Type 0} (text : X → List Piece) (others : List Terminal) → IsNamed text → IsSole text others → Bars Comma others → IsSole (listed text) (Name ∷ Comma ∷ others)
listed_sole text others named one apart [] [] found at m n u v s t = (refl, sym s ∙ t)
listed_sole text others named one apart [] (y ∷ ys) found at m n u v s t =
    let P : ℕ → Type 0 = λ k. Stands Name found k in
    absurd (u.0 (subst P s (named y (further text ys) found at n t)))
listed_sole text others named one apart (x ∷ xs) [] found at m n u v s t =
    let P : ℕ → Type 0 = λ k. Stands Name found k in
    absurd (v.0 (subst P t (named x (further text xs) found at m s)))
listed_sole text others named one apart (x ∷ xs) (y ∷ ys) found at m n u v s t =
    let p = split (text x) (further text xs) found at m s in
    let q = split (text y) (further text ys) found at n t in
    let h = one x y found at p.0 q.0 (behind_one text others apart xs found p.0 m u.1 p.2) (behind_one text others apart ys found q.0 n v.1 q.2) p.1 q.1 in
    let Q : ℕ → Type 0 = λ i. Spells (further text ys) found i n in
    let r = further_sole text others one apart xs ys found p.0 m n u.1 v.1 p.2 (subst Q (sym h.1) q.2) in
    ((λ i. h.0 i ∷ r.0 i), r.1)

-- what begins with a list, up to this token, doesn't begin with a bracket
pub unopened : {X : Type 0} (text : X → List Piece) → IsNamed text → (t : Terminal) → fits Open t ≡ false → (xs : List X) (ps : List Piece) (found : List Terminal) (at end : ℕ)
    → Spells (listed text xs ++ (fixed t ∷ ps)) found at end → Stands Open found at → ⊥
unopened text named t apart [] ps found at end s h = clash Open t found at (own Open refl) apart h s.0
unopened text named t apart (x ∷ xs) ps found at end s h =
    let p = split (listed text (x ∷ xs)) (fixed t ∷ ps) found at end s in
    clash Open Name found at (own Open refl) refl h (named x (further text xs) found at p.0 p.1)

-- brackets, and what doesn't begin with one
pub bracketed : (b c : Bool) (ps qs : List Piece) (found : List Terminal) (at m n : ℕ) → ((i : ℕ) → Spells ps found i m → Stands Open found i → ⊥) → ((i : ℕ) → Spells qs found i n → Stands Open found i → ⊥)
    → Spells (brackets_text b ++ ps) found at m → Spells (brackets_text c ++ qs) found at n → (b ≡ c) × ((mid : ℕ) × Spells ps found mid m × Spells qs found mid n)
bracketed true true ps qs found at m n u v s t = (refl, (at + 1 + 1, s.1.1, t.1.1))
bracketed true false ps qs found at m n u v s t = absurd (v at t s.0)
bracketed false true ps qs found at m n u v s t = absurd (u at s t.0)
bracketed false false ps qs found at m n u v s t = (refl, (at, s, t))

pub args_sole : IsSole args_text (Name ∷ Comma ∷ OpenBracket ∷ [])
args_sole = listed_sole arg_text (OpenBracket ∷ []) arg_named arg_sole (bars Comma (own Comma refl) (OpenBracket ∷ []) (refl, tt))

pub names_sole : IsSole names_text (Name ∷ Comma ∷ [])
names_sole = listed_sole name_text [] name_named name_sole (bars Comma (own Comma refl) [] tt)

-- arguments up to a semicolon
pub args_closed : (xs ys : List Argument) (ps qs : List Piece) (found : List Terminal) (at m n : ℕ) → Spells (args_text xs ++ (fixed Semicolon ∷ ps)) found at m → Spells (args_text ys ++ (fixed Semicolon ∷ qs)) found at n → (xs ≡ ys) × ((mid : ℕ) × Spells ps found mid m × Spells qs found mid n)
args_closed = closed args_text (Name ∷ Comma ∷ OpenBracket ∷ []) Semicolon args_sole (bars Semicolon (own Semicolon refl) (Name ∷ Comma ∷ OpenBracket ∷ []) (refl, (refl, (refl, tt))))

-- names up to a semicolon, or up to a brace
pub names_closed : (t : Terminal) → IsOwn t → FitsNone t (Name ∷ Comma ∷ []) → (xs ys : List ℕ) (ps qs : List Piece) (found : List Terminal) (at m n : ℕ) → Spells (names_text xs ++ (fixed t ∷ ps)) found at m → Spells (names_text ys ++ (fixed t ∷ qs)) found at n → (xs ≡ ys) × ((mid : ℕ) × Spells ps found mid m × Spells qs found mid n)
names_closed t o a = closed names_text (Name ∷ Comma ∷ []) t names_sole (bars t o (Name ∷ Comma ∷ []) a)

-- an argument up to a token that opens no index
pub arg_closed : (t : Terminal) → IsOwn t → fits t OpenBracket ≡ false → (x y : Argument) (ps qs : List Piece) (found : List Terminal) (at m n : ℕ) → Spells (arg_text x ++ (fixed t ∷ ps)) found at m → Spells (arg_text y ++ (fixed t ∷ qs)) found at n → (x ≡ y) × ((mid : ℕ) × Spells ps found mid m × Spells qs found mid n)
arg_closed t o a = closed arg_text (OpenBracket ∷ []) t arg_sole (bars t o (OpenBracket ∷ []) (a, tt))
