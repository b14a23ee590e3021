-- Each text stands for a grid, or is refused for its form.
use Rattle.std.proofs.Common.{◌≡◌, ◌⊎◌, ℕ, zero, suc, ◌+◌, ◌*◌, ◌<◌, ◌≤◌, ◌^◌, ◌==◌, Bool, true, false, Option, Some, None, List, [], ◌∷◌, ◌++◌, length, slice_get, slice_set, replicate, codes, decimal, Contains, inl, inr, refl, sym, ◌∙◌, ap, subst, arith, length-set}
use Rattle.std.specs.Bool.{Decides}
use Rattle.std.specs.Str.{bytes_eq}
use Rattle.std.specs.Str.Parse.{AllDigits, digits_value}
use Rattle.std.proofs.lemmas.Bool.{cases_lt, eq-eqb, eqb-true, false≢true}
use Rattle.std.proofs.lemmas.Bool.Decides.{Decides-ltb}
use Rattle.std.proofs.lemmas.Fmt.{digits_value-decimal}
use Rattle.std.proofs.lemmas.List.{length-replicate}
use Rattle.std.proofs.lemmas.List.Elements.{Contains-append_right, Contains-append_cases, Contains-push_cases}
use Rattle.std.proofs.lemmas.Slice.Eq.{bytes_eq-Decides}
use Rattle.std.proofs.lemmas.Str.Parse.{numerals_by_value, tells_digits}
use Rattle.patch_base.specs.Texts.{lines, words, IsSkipped}
use Rattle.patch_layout.specs.declared.line.Line.{Line}
use Rattle.patch_layout.specs.declared.line.Line.TheVariants as line
use Rattle.patch_layout.specs.declared.layout.Site.{Site}
use Rattle.patch_layout.specs.declared.layout.Site.TheVariants as site
use Rattle.patch_layout.specs.declared.fault.LayoutFault.TheVariants as fault
use Rattle.patch_layout.specs.Grid.{Grid}
use Rattle.patch_layout.specs.Kept.{grid_of}
use Rattle.patch_layout.specs.Openness.{Least}
use Rattle.patch_layout.specs.inside.Reading.{Lays}
use Rattle.patch_layout.specs.LayoutText.{side_word, words_of, InRange, cell_of, site_of, Doubles, Takes, Breaks, Body, BadBody, Header, Formed, FirstBadText, Sized, Twice, Laid}
use Rattle.patch_layout.specs.Laws.{GridOrFault}
use Rattle.patch_layout.proofs.Bodies.{words_of_same}
use Rattle.patch_layout.proofs.Laying.{equal_or, lays_none, lays_laid, lays_double, doubled_all, laid_all}
use Rattle.patch_layout.proofs.Places.{get_below, get_from_Contains, Contains_from_get, same_entry}

-- a fact or its refutation
abbrev Decided : Type 0 → Type 0
Decided P = P ⊎ (P → ⊥)

decided : (b : Bool) (P : Type 0) → Decides b P → Decided P
decided true P d = inl (d.0 refl)
decided false P d = inr (λ p. false≢true (d.1 p))

turned : (P Q : Type 0) → (P → Q) → (Q → P) → Decided P → Decided Q
turned P Q f g (inl p) = inl (f p)
turned P Q f g (inr isnt) = inr (λ q. isnt (g q))

-- ---- words

abbrev Is : List ℕ → List ℕ → Type 0
Is v w = w ≡ v

is_decided : (v w : List ℕ) → Decided (Is v w)
is_decided v w = decided (bytes_eq w v) (w ≡ v) (bytes_eq-Decides w v)

-- the decimal of a number from low on, below high
abbrev IsNumber : ℕ → ℕ → List ℕ → Type 0
IsNumber low high w = (n : ℕ) × (low ≤ n) × (n < high) × (w ≡ decimal n)

value_of_decimal : (v : ℕ) → v < 2 ^ 32 → digits_value 10 (decimal v) ≡ v
value_of_decimal v small = digits_value-decimal (numerals_by_value (AllDigits 10) tells_digits) v (omega arith)

number_decided : (low high : ℕ) → high ≤ 2 ^ 32 → (w : List ℕ) → Decided (IsNumber low high w)
number_decided low high top w =
    let v = digits_value 10 w in
    turned ((low < v + 1) × (v < high) × (w ≡ decimal v)) (IsNumber low high w) forth back
    (both3 (low < v + 1) (v < high) (w ≡ decimal v) (decided _ _ (Decides-ltb low (v + 1))) (decided _ _ (Decides-ltb v high)) (is_decided (decimal v) w))
  where
    both3 : (P Q R : Type 0) → Decided P → Decided Q → Decided R → Decided (P × Q × R)
    both3 P Q R (inl p) (inl q) (inl r) = inl (p, q, r)
    both3 P Q R (inr isnt) q r = inr (λ h. isnt h.0)
    both3 P Q R (inl p) (inr isnt) r = inr (λ h. isnt h.1)
    both3 P Q R (inl p) (inl q) (inr isnt) = inr (λ h. isnt h.2)

    forth : (low < digits_value 10 w + 1) × (digits_value 10 w < high) × (w ≡ decimal (digits_value 10 w)) → IsNumber low high w
    forth p = (digits_value 10 w, omega (arith, p.0), p.1, p.2)

    back : IsNumber low high w → (low < digits_value 10 w + 1) × (digits_value 10 w < high) × (w ≡ decimal (digits_value 10 w))
    back p =
        let small : p.0 < 2 ^ 32 = omega (arith, p.2) in
        let same : digits_value 10 w ≡ p.0 = ap (digits_value 10) p.3 ∙ value_of_decimal p.0 small in
        (omega (arith, p.1), rw same p.2, rw same p.3)

abbrev IsSide : List ℕ → Type 0
IsSide w = (level : Bool) × (w ≡ side_word level)

side_decided : (w : List ℕ) → Decided (IsSide w)
side_decided w = elim (is_decided (codes "h") w) [
  | inl e ↦ inl (true, e)
  | inr isnt ↦ elim (is_decided (codes "v") w) [
    | inl e ↦ inl (false, e)
    | inr none ↦ inr (λ h. neither isnt none h.0 h.1)
  ]
]
  where
    neither : (w ≡ codes "h" → ⊥) → (w ≡ codes "v" → ⊥) → (level : Bool) → w ≡ side_word level → ⊥
    neither p q true e = p e
    neither p q false e = q e

-- no word is left
abbrev Ends : List (List ℕ) → Type 0
Ends ws = ws ≡ []

ends_decided : (ws : List (List ℕ)) → Decided (Ends ws)
ends_decided [] = inl refl
ends_decided (w ∷ ws) = inr (λ e. cc)

-- a first word of a kind, and others of a kind
record Seq (W : List ℕ → Type 0) (Q : List (List ℕ) → Type 0) (ws : List (List ℕ)) : Type 0 where
  word : List ℕ
  rest : List (List ℕ)
  is : ws ≡ word ∷ rest
  first : W word
  others : Q rest

same_head : (v w : List ℕ) (vs ws : List (List ℕ)) → v ∷ vs ≡ w ∷ ws → (w ≡ v) × (ws ≡ vs)
same_head v w vs ws e = (cc, cc)

seq_decided : (W : List ℕ → Type 0) (Q : List (List ℕ) → Type 0) → ((w : List ℕ) → Decided (W w)) → ((ws : List (List ℕ)) → Decided (Q ws)) → (ws : List (List ℕ)) → Decided (Seq W Q ws)
seq_decided W Q one more [] = inr (λ h. let e = h.is in cc)
seq_decided W Q one more (w ∷ ws) = elim (one w) [
  | inr isnt ↦ inr (λ h. isnt (subst W (same_head w h.word ws h.rest h.is).0 h.first))
  | inl a ↦ elim (more ws) [
    | inr isnt ↦ inr (λ h. isnt (subst Q (same_head w h.word ws h.rest h.is).1 h.others))
    | inl b ↦ inl (record { word = w; rest = ws; is = refl; first = a; others = b })
  ]
]

-- ---- lines

abbrev Cell : List ℕ → Type 0
Cell = IsNumber 0 (2 ^ 32)

cell_decided : (w : List ℕ) → Decided (Cell w)
cell_decided = number_decided 0 (2 ^ 32) (omega arith)

abbrev PatchWords : List (List ℕ) → Type 0
PatchWords = Seq (Is (codes "patch")) (Seq (IsNumber 0 1024) (Seq Cell (Seq IsSide Ends)))

abbrev PortWords : List (List ℕ) → Type 0
PortWords = Seq (Is (codes "port")) (Seq (IsNumber 0 16) (Seq Cell (Seq IsSide (Seq (IsNumber 1 17) Ends))))

abbrev WallWords : List (List ℕ) → Type 0
WallWords = Seq (Is (codes "wall")) (Seq Cell Ends)

abbrev HeaderWords : List (List ℕ) → Type 0
HeaderWords = Seq (Is (codes "layout")) (Seq (Is (codes "1")) (Seq Cell (Seq Cell Ends)))

patch_decided : (ws : List (List ℕ)) → Decided (PatchWords ws)
patch_decided = seq_decided _ _ (is_decided (codes "patch")) (seq_decided _ _ (number_decided 0 1024 (omega arith)) (seq_decided _ _ cell_decided (seq_decided IsSide Ends side_decided ends_decided)))

port_decided : (ws : List (List ℕ)) → Decided (PortWords ws)
port_decided = seq_decided _ _ (is_decided (codes "port")) (seq_decided _ _ (number_decided 0 16 (omega arith)) (seq_decided _ _ cell_decided (seq_decided _ _ side_decided (seq_decided (IsNumber 1 17) Ends (number_decided 1 17 (omega arith)) ends_decided))))

wall_decided : (ws : List (List ℕ)) → Decided (WallWords ws)
wall_decided = seq_decided _ _ (is_decided (codes "wall")) (seq_decided Cell Ends cell_decided ends_decided)

header_words_decided : (ws : List (List ℕ)) → Decided (HeaderWords ws)
header_words_decided = seq_decided _ _ (is_decided (codes "layout")) (seq_decided _ _ (is_decided (codes "1")) (seq_decided _ _ cell_decided (seq_decided Cell Ends cell_decided ends_decided)))

-- a word before words of a kind
put : (W : List ℕ → Type 0) (Q : List (List ℕ) → Type 0) (w : List ℕ) (ws : List (List ℕ)) → W w → Q ws → Seq W Q (w ∷ ws)
put W Q w ws a b = record { word = w; rest = ws; is = refl; first = a; others = b }

abbrev SpellsWords : List (List ℕ) → Line → Type 0
SpellsWords ws l = (ws ≡ words_of l) × InRange l

patch_said : (ws : List (List ℕ)) → PatchWords ws → (l : Line) × SpellsWords ws l
patch_said ws h =
    let (q, qlow, qhigh, qe) = h.others.first in
    let (c, clow, chigh, ce) = h.others.others.first in
    let (level, se) = h.others.others.others.first in
    (line.Patch q c level, (joined5 ws _ _ _ _ _ _ _ _ _ _ _ _ h.is h.others.is h.others.others.is h.others.others.others.is h.others.others.others.others h.first qe ce se, (qhigh, chigh)))
  where
    joined5 : (ws a b c d : List (List ℕ)) (t u v w x y z s : List ℕ) → ws ≡ t ∷ a → a ≡ u ∷ b → b ≡ v ∷ c → c ≡ w ∷ d → d ≡ [] → t ≡ x → u ≡ y → v ≡ z → w ≡ s → ws ≡ x ∷ y ∷ z ∷ s ∷ []
    joined5 ws a b c d t u v w x y z s e f g h i j k l m = cc

port_said : (ws : List (List ℕ)) → PortWords ws → (l : Line) × SpellsWords ws l
port_said ws h =
    let (f, flow, fhigh, fe) = h.others.first in
    let (c, clow, chigh, ce) = h.others.others.first in
    let (level, se) = h.others.others.others.first in
    let (t, tlow, thigh, te) = h.others.others.others.others.first in
    (line.Port f c level t, (joined6 ws _ _ _ _ _ _ _ _ _ _ _ _ _ _ _ h.is h.others.is h.others.others.is h.others.others.others.is h.others.others.others.others.is h.others.others.others.others.others h.first fe ce se te, (fhigh, chigh, tlow, omega (arith, thigh))))
  where
    joined6 : (ws a b c d e : List (List ℕ)) (t u v w p x y z s q : List ℕ) → ws ≡ t ∷ a → a ≡ u ∷ b → b ≡ v ∷ c → c ≡ w ∷ d → d ≡ p ∷ e → e ≡ [] → t ≡ x → u ≡ y → v ≡ z → w ≡ s → p ≡ q → ws ≡ x ∷ y ∷ z ∷ s ∷ q ∷ []
    joined6 ws a b c d e t u v w p x y z s q e1 f g h i j k l m n o = cc

wall_said : (ws : List (List ℕ)) → WallWords ws → (l : Line) × SpellsWords ws l
wall_said ws h =
    let (c, clow, chigh, ce) = h.others.first in
    (line.Wall c, (joined2 ws _ _ _ _ _ _ h.is h.others.is h.others.others h.first ce, chigh))
  where
    joined2 : (ws a b : List (List ℕ)) (t u x y : List ℕ) → ws ≡ t ∷ a → a ≡ u ∷ b → b ≡ [] → t ≡ x → u ≡ y → ws ≡ x ∷ y ∷ []
    joined2 ws a b t u x y e f g h i = cc

words_of_patch : (q c : ℕ) (level : Bool) → InRange (line.Patch q c level) → PatchWords (words_of (line.Patch q c level))
words_of_patch q c level (ql, cl) =
    put _ _ _ _ refl (put _ _ _ _ (q, omega arith, ql, refl) (put _ _ _ _ (c, omega arith, cl, refl) (put IsSide Ends _ _ (level, refl) refl)))

words_of_port : (f c : ℕ) (level : Bool) (s : ℕ) → InRange (line.Port f c level s) → PortWords (words_of (line.Port f c level s))
words_of_port f c level s (fl, cl, slow, shigh) =
    put _ _ _ _ refl (put _ _ _ _ (f, omega arith, fl, refl) (put _ _ _ _ (c, omega arith, cl, refl) (put _ _ _ _ (level, refl) (put (IsNumber 1 17) Ends _ _ (s, slow, omega arith, refl) refl))))

words_of_wall : (c : ℕ) → InRange (line.Wall c) → WallWords (words_of (line.Wall c))
words_of_wall c cl = put _ _ _ _ refl (put Cell Ends _ _ (c, omega arith, cl, refl) refl)

no_form : (ws : List (List ℕ)) → (PatchWords ws → ⊥) → (PortWords ws → ⊥) → (WallWords ws → ⊥) → (l : Line) → SpellsWords ws l → ⊥
no_form ws p q r (line.Patch a c level) (e, h) = p (subst PatchWords (sym e) (words_of_patch a c level h))
no_form ws p q r (line.Port f c level s) (e, h) = q (subst PortWords (sym e) (words_of_port f c level s h))
no_form ws p q r (line.Wall c) (e, h) = r (subst WallWords (sym e) (words_of_wall c h))

-- words spell a line, or none
line_or : (ws : List (List ℕ)) → ((l : Line) × SpellsWords ws l) ⊎ ((l : Line) → SpellsWords ws l → ⊥)
line_or ws = elim (patch_decided ws) [
  | inl h ↦ inl (patch_said ws h)
  | inr p ↦ elim (port_decided ws) [
    | inl h ↦ inl (port_said ws h)
    | inr q ↦ elim (wall_decided ws) [
      | inl h ↦ inl (wall_said ws h)
      | inr r ↦ inr (no_form ws p q r)
    ]
  ]
]

header_said : (text : List ℕ) → HeaderWords (words text) → (rows : ℕ) × (columns : ℕ) × Header rows columns text
header_said text h =
    let (r, rlow, rhigh, re) = h.others.others.first in
    let (c, clow, chigh, ce) = h.others.others.others.first in
    (r, c, (joined4 (words text) _ _ _ _ _ _ _ _ _ _ _ _ h.is h.others.is h.others.others.is h.others.others.others.is h.others.others.others.others h.first h.others.first re ce, rhigh, chigh))
  where
    joined4 : (ws a b c d : List (List ℕ)) (t u v w x y z s : List ℕ) → ws ≡ t ∷ a → a ≡ u ∷ b → b ≡ v ∷ c → c ≡ w ∷ d → d ≡ [] → t ≡ x → u ≡ y → v ≡ z → w ≡ s → ws ≡ x ∷ y ∷ z ∷ s ∷ []
    joined4 ws a b c d t u v w x y z s e f g h i j k l m = cc

header_words : (text : List ℕ) (rows columns : ℕ) → Header rows columns text → HeaderWords (words text)
header_words text rows columns (e, rl, cl) =
    subst HeaderWords (sym e) (put _ _ _ _ refl (put _ _ _ _ refl (put _ _ _ _ (rows, omega arith, rl, refl) (put Cell Ends _ _ (columns, omega arith, cl, refl) refl))))

-- a text is a header, or none
header_or : (text : List ℕ) → ((rows : ℕ) × (columns : ℕ) × Header rows columns text) ⊎ ((rows columns : ℕ) → Header rows columns text → ⊥)
header_or text = elim (header_words_decided (words text)) [
  | inl h ↦ inl (header_said text h)
  | inr isnt ↦ inr (λ rows columns h. isnt (header_words text rows columns h))
]

skipped_decided : (text : List ℕ) → Decided (IsSkipped text)
skipped_decided [] = inl tt
skipped_decided (b ∷ bs) = by_test (b == 35) refl
  where
    by_test : (t : Bool) → (b == 35) ≡ t → Decided (b ≡ 35)
    by_test true e = inl (eqb-true b 35 e)
    by_test false e = inr (λ s. false≢true (sym e ∙ eq-eqb b 35 s))

-- ---- lines after others

head_or : (x : Line) (xs : List Line) (y : Line) → Contains (x ∷ xs) y → (x ≡ y) ⊎ Contains xs y
head_or x xs y h = elim (Contains-append_cases (x ∷ []) xs y h) [
  | inl c ↦ elim (Contains-push_cases [] x y c) [ inl none ↦ absurd (omega (arith, none.1)) | inr e ↦ inl e ]
  | inr c ↦ inr c
]

-- some line is of this kind, or none is
some_or : (P : Line → Type 0) → ((l : Line) → Decided (P l)) → (ls : List Line) → ((l : Line) × Contains ls l × P l) ⊎ ((l : Line) → Contains ls l → P l → ⊥)
some_or P each [] = inr (λ l has p. let (k, is) = get_from_Contains [] l has in cc)
some_or P each (x ∷ xs) = elim (each x) [
  | inl p ↦ inl (x, Contains_from_get (x ∷ xs) 0 x refl, p)
  | inr isnt ↦ elim (some_or P each xs) [
    | inl (l, has, p) ↦ inl (l, Contains-append_right (x ∷ []) xs l has, p)
    | inr none ↦ inr (λ l has p. elim (head_or x xs l has) [ inl e ↦ isnt (subst P (sym e) p) | inr c ↦ none l c p ])
  ]
]

doubles_decided : (k l : Line) → Decided (Doubles k l)
doubles_decided (line.Patch q c a) (line.Patch r d b) = equal_or q r
doubles_decided (line.Port f c a s) (line.Port g d b t) = equal_or f g
doubles_decided (line.Patch q c a) (line.Port g d b t) = inr (λ h. h)
doubles_decided (line.Patch q c a) (line.Wall d) = inr (λ h. h)
doubles_decided (line.Port f c a s) (line.Patch r d b) = inr (λ h. h)
doubles_decided (line.Port f c a s) (line.Wall d) = inr (λ h. h)
doubles_decided (line.Wall c) l = inr (λ h. h)

-- a text line is taken up after these lines, or breaks the form
takes_or : (before : List Line) (text : List ℕ) → ((after : List Line) × Takes before text after) ⊎ Breaks before text
takes_or before text = elim (skipped_decided text) [
  | inl s ↦ inl (before, inl (s, refl))
  | inr kept ↦ elim (line_or (words text)) [
    | inr none ↦ inr (kept, λ l s fresh. none l s)
    | inl (l, s) ↦ elim (some_or (λ other. Doubles other l) (λ other. doubles_decided other l) before) [
      | inr fresh ↦ inl (before ++ l ∷ [], inr (l, s, fresh, refl))
      | inl (other, has, double) ↦ inr (
        kept,
        λ m t fresh.
            let P : Line → Type 0 = λ x. Doubles other x in
            fresh other has (subst P (words_of_same l m s.1 t.1 (sym s.0 ∙ t.0)) double),
      )
    ]
  ]
]

body_or : (before : List Line) (texts : List (List ℕ)) → ((all : List Line) × Body before texts all) ⊎ ((n : ℕ) × BadBody before texts n)
body_or before [] = inl (before, refl)
body_or before (text ∷ texts) = elim (takes_or before text) [
  | inr breaks ↦ inr (0, breaks)
  | inl (after, takes) ↦ elim (body_or after texts) [
    | inl (all, body) ↦ inl (all, (after, takes, body))
    | inr (n, bad) ↦ inr (suc n, (after, takes, bad))
  ]
]

abbrev Shape : List (List ℕ) → Type 0
Shape texts = (rows : ℕ) × (columns : ℕ) × (ls : List Line) × Formed texts rows columns ls

formed_or : (texts : List (List ℕ)) → Shape texts ⊎ ((n : ℕ) × FirstBadText texts n)
formed_or [] = inr (0, refl)
formed_or (head ∷ rest) = elim (header_or head) [
  | inr none ↦ inr (0, none)
  | inl (rows, columns, h) ↦ elim (body_or [] rest) [
    | inl (all, body) ↦ inl (rows, columns, all, (h, body))
    | inr (n, bad) ↦ inr (suc n, ((rows, columns, h), bad))
  ]
]

-- ---- the grid

within_or : (n : ℕ) (ls : List Line) → ((l : Line) → Contains ls l → cell_of l < n) ⊎ ((l : Line) × Contains ls l × (n ≤ cell_of l))
within_or n ls = elim (some_or (λ l. n ≤ cell_of l) (λ l. past (cell_of l)) ls) [
  | inl some ↦ inr some
  | inr none ↦ inl (λ l has. below l (none l has))
]
  where
    past : (c : ℕ) → Decided (n ≤ c)
    past c = elim (cases_lt c n) [ inl lt ↦ inr (λ le. omega arith) | inr le ↦ inl le ]

    below : (l : Line) → (n ≤ cell_of l → ⊥) → cell_of l < n
    below l none = elim (cases_lt (cell_of l) n) [ inl lt ↦ lt | inr le ↦ absurd (none le) ]

sized_decided : (rows columns : ℕ) (ls : List Line) → Decided (Sized rows columns ls)
sized_decided rows columns ls = elim (cases_lt 0 (rows * columns)) [
  | inr none ↦ inr (λ s. let some = s.some in omega arith)
  | inl some ↦ elim (cases_lt 4096 (rows * columns)) [
    | inl many ↦ inr (λ s. let few = s.few in omega arith)
    | inr few ↦ elim (within_or (rows * columns) ls) [
      | inl within ↦ inl (record { some = some; few = few; within = within })
      | inr (l, has, past) ↦ inr (λ s. let w = s.within l has in omega arith)
    ]
  ]
]

-- m sites that the first n lines make, and the least cell that two of them name
record Stage (ls : List Line) (m n : ℕ) : Type 0 where
  sites : List Site
  double : Option ℕ
  size : length sites ≡ m
  lays : Lays ls n sites double

replicate_at : (m c : ℕ) → c < m → slice_get (replicate m site.Ancilla) c ≡ Some site.Ancilla
replicate_at zero c lt = absurd (omega arith)
replicate_at (suc m) zero lt = refl
replicate_at (suc m) (suc c) lt = replicate_at m c (omega arith)

stage_none : (ls : List Line) (m : ℕ) → Stage ls m 0
stage_none ls m = record {
  sites = replicate m site.Ancilla;
  double = None;
  size = length-replicate m site.Ancilla;
  lays = lays_none ls (replicate m site.Ancilla) (λ c lt. replicate_at m c (let w : length (replicate m site.Ancilla) ≡ m = length-replicate m site.Ancilla in omega arith));
}

site_clear : (s : Site) → Decided (s ≡ site.Ancilla)
site_clear site.Ancilla = inl refl
site_clear site.Wall = inr (λ e. cc)
site_clear (site.Patch q level) = inr (λ e. cc)
site_clear (site.Port f level store) = inr (λ e. cc)

stage_more : (ls : List Line) (m n : ℕ) (l : Line) → slice_get ls n ≡ Some l → cell_of l < m → Stage ls m n → Stage ls m (n + 1)
stage_more ls m n l at-n in' s =
    let size = s.size in
    let (t, is) = get_below s.sites (cell_of l) (omega arith) in
    elim (site_clear t) [
      | inl clear ↦
          let P : Site → Type 0 = λ x. slice_get s.sites (cell_of l) ≡ Some x in
          record {
            sites = slice_set s.sites (cell_of l) (site_of l);
            double = s.double;
            size = length-set s.sites (cell_of l) (site_of l) ∙ size;
            lays = lays_laid ls n s.sites s.double l s.lays at-n (omega arith) (subst P clear is);
          }
      | inr other ↦ doubled s.double s.lays (λ e. other (same_entry s.sites (cell_of l) t site.Ancilla is e))
    ]
  where
    doubled : (d : Option ℕ) → Lays ls n s.sites d → (slice_get s.sites (cell_of l) ≡ Some site.Ancilla → ⊥) → Stage ls m (n + 1)
    doubled None y other = record {
      sites = s.sites;
      double = Some (cell_of l);
      size = s.size;
      lays = lays_double ls n s.sites None l (cell_of l) y at-n (let size = s.size in omega arith) other refl tt;
    }
    doubled (Some x) y other = elim (cases_lt x (cell_of l)) [
      | inl lt ↦ record {
        sites = s.sites;
        double = Some x;
        size = s.size;
        lays = lays_double ls n s.sites (Some x) l x y at-n (let size = s.size in omega arith) other tt (omega arith, omega arith, inl refl);
      }
      | inr ge ↦ record {
        sites = s.sites;
        double = Some (cell_of l);
        size = s.size;
        lays = lays_double ls n s.sites (Some x) l (cell_of l) y at-n (let size = s.size in omega arith) other tt (omega arith, omega arith, inr refl);
      }
    ]

stage : (ls : List Line) (m : ℕ) → ((l : Line) → Contains ls l → cell_of l < m) → (n : ℕ) → n ≤ length ls → Stage ls m n
stage ls m within zero le = stage_none ls m
stage ls m within (suc n) le =
    let (l, at-n) = get_below ls n (omega arith) in
    let next : n + 1 ≡ suc n = omega arith in
    let P : ℕ → Type 0 = λ k. Stage ls m k in
    subst P next (stage_more ls m n l at-n (within l (Contains_from_get ls n l at-n)) (stage ls m within n (omega arith)))

abbrev Drawn : ℕ → ℕ → List Line → Type 0
Drawn rows columns ls = ((c : ℕ) → Twice ls c → ⊥) × ((g : Grid) × Laid rows columns ls g)

-- lines make a grid, or two of them name a cell
laid_or : (rows columns : ℕ) (ls : List Line) → Sized rows columns ls → Drawn rows columns ls ⊎ ((c : ℕ) × Least (Twice ls) c)
laid_or rows columns ls sized = by_double st.sites st.double st.size st.lays
  where
    st : Stage ls (rows * columns) (length ls)
    st = stage ls (rows * columns) sized.within (length ls) (omega arith)

    by_double : (sites : List Site) (d : Option ℕ) → length sites ≡ rows * columns → Lays ls (length ls) sites d → Drawn rows columns ls ⊎ ((c : ℕ) × Least (Twice ls) c)
    by_double sites None size y = inl (doubled_all ls None y.least, (grid_of rows columns sites, laid_all rows columns ls sites size sized.within y))
    by_double sites (Some c) size y = inr (c, doubled_all ls (Some c) y.least)

pub grid_or_fault : GridOrFault
grid_or_fault text = elim (cases_lt 4194304 (length text)) [
  | inl long ↦ inr (fault.TooLong, tt, λ w. long)
  | inr short ↦ elim (formed_or (lines text)) [
    | inr (n, bad) ↦ inr (fault.Form (n + 1), tt, λ w. (short, (n, refl, bad)))
    | inl (rows, columns, ls, formed) ↦ elim (sized_decided rows columns ls) [
      | inr isnt ↦ inr (fault.Size, tt, λ w. (short, (rows, columns, ls, formed, isnt)))
      | inl sized ↦ elim (laid_or rows columns ls sized) [
        | inl (once, (g, laid)) ↦ inl (g, (rows, columns, ls, short, formed, sized, once, laid))
        | inr (c, least) ↦ inr (fault.Overlap c, tt, λ w. (short, (rows, columns, ls, formed, sized, least)))
      ]
    ]
  ]
]
