-- The pieces of a text, one more at a time.
use Rattle.std.proofs.Common.{◌≡◌, ℕ, ◌+◌, ◌-◌, ◌≤◌, ◌<◌, List, [], ◌∷◌, ◌++◌, length, take, drop, sym, subst, ◌∙◌, ap, arith, append_assoc, Bool, zero, suc}
use Rattle.std.specs.Prelude.{Option, Some, flat_map, slice_get, map, decimal, codes, All}
use Rattle.std.proofs.lemmas.List.{append-nil, take_more, take-append-drop}
use Rattle.std.proofs.lemmas.Grind.{flat_map-append}
use Rattle.std.proofs.lemmas.List.Folds.{flat_map-map}
use Rattle.std.proofs.lemmas.List.Sums.{sum_by-cons}
use Rattle.patch_base.specs.Outside.{AppendsPrefix}
use Rattle.patch_base.specs.Passes.{Passes}
use Rattle.patch_base.specs.Texts.{spaced, digit}
use Rattle.patch_base.proofs.Passing.{passes_then, began_rest}
use Rattle.source_model.specs.declared.Register.{Register}
use Rattle.source_model.specs.Circuits.{FirstsRunOn, bits_in}
use Rattle.board_core.specs.declared.Noted.{Noted}
use Rattle.board_core.specs.declared.Entry.{Entry}
use Rattle.board_core.specs.declared.Entry.TheVariants.{Claim, Deliver, Release, Step, Settle}
use Rattle.schedule_text.specs.Text.{digits, entry_words, text_of, bits_text, header_line, entry_line, bits_line, ended, two}
use Rattle.schedule_text.specs.Pens.{IsWithin}
use Rattle.schedule_text.specs.inside.Pens.{spread, head_words, cells_in, cell_word, entry_text, register_text}
use Rattle.std.proofs.lemmas.Option.{slice_get_within, get_or_from_slice_get}

-- one more of a list
pub take_one : {X : Type 0} (xs : List X) (i : ℕ) (x : X) → slice_get xs i ≡ Some x → take (i + 1) xs ≡ take i xs ++ x ∷ []
take_one xs i x e =
    let within : i < length xs = slice_get_within xs i x e in
    cc (take_more xs i x within, get_or_from_slice_get xs i x x e)

-- the pieces so far, and the one of the next
pub pieces_more : {X : Type 0} (f : X → List ℕ) (xs : List X) (i : ℕ) (x : X) → slice_get xs i ≡ Some x → flat_map f (take (i + 1) xs) ≡ flat_map f (take i xs) ++ f x
pieces_more f xs i x e =
    cc (ap (flat_map f) (take_one xs i x e), flat_map-append f (take i xs) (x ∷ []), append-nil (f x))

-- all pieces begin with those so far and that of the next
pub pieces_in : {X : Type 0} (f : X → List ℕ) (xs : List X) (i : ℕ) (x : X) → slice_get xs i ≡ Some x → flat_map f xs ≡ (flat_map f (take i xs) ++ f x) ++ flat_map f (drop (i + 1) xs)
pieces_in f xs i x e =
    cc (pieces_more f xs i x e, flat_map-append f (take (i + 1) xs) (drop (i + 1) xs), ap (flat_map f) (take-append-drop (i + 1) xs))

-- the pieces so far went through a pen, and then the one of the next
pub passes_more : {X : Type 0} (f : X → List ℕ) (xs : List X) (n : ℕ) (x : X) {a b c : Option (List ℕ)} {h i j : List ℕ} → slice_get xs n ≡ Some x → Passes a b h i (flat_map f (take n xs)) → Passes b c i j (f x) → Passes a c h j (flat_map f (take (n + 1) xs))
passes_more f xs n x {a} {b} {c} {h} {i} {j} e p q =
    let P : List ℕ → Type 0 = λ z. Passes a c h j z in subst P (sym (pieces_more f xs n x e)) (passes_then p q)

-- what is begun of the piece of the next is begun of all pieces
pub began_more_of : {X : Type 0} (f : X → List ℕ) (xs : List X) (n : ℕ) (x : X) {a b : Option (List ℕ)} {h i : List ℕ} (c : Option (List ℕ)) → slice_get xs n ≡ Some x → Passes a b h i (flat_map f (take n xs)) → AppendsPrefix b c (i ++ f x) → AppendsPrefix a c (h ++ flat_map f xs)
began_more_of f xs n x c e p q = began_rest c (f x) (flat_map f (drop (n + 1) xs)) (flat_map f xs) p (pieces_in f xs n x e) q

-- one byte more for one element more
pub byte_more : {X : Type 0} (f : X → List ℕ) (xs : List X) (i : ℕ) (x : X) (b : ℕ) (start self next : List ℕ) → slice_get xs i ≡ Some x → f x ≡ b ∷ [] → next ≡ self ++ b ∷ [] → self ≡ start ++ flat_map f (take i xs) → next ≡ start ++ flat_map f (take (i + 1) xs)
byte_more f xs i x b start self next at is e so = cc (pieces_more f xs i x at, append_assoc start (flat_map f (take i xs)) (b ∷ []), is, e, so)

-- words with a space between each two, as words behind a space
pub spaced_spread : (w : List ℕ) (ws : List (List ℕ)) → spaced (w ∷ ws) ≡ w ++ spread ws
spaced_spread w [] = sym (append-nil w)
spaced_spread w (v ∷ vs) = ap (λ t. w ++ (32 ∷ t)) (spaced_spread v vs)

-- an entry's words are its head and its cells
pub words_in : (e : Entry) → spread (entry_words e) ≡ spread (head_words e) ++ flat_map cell_word (cells_in e)
words_in (Claim p axis port state cells) =
    flat_map-append (λ w. 32 ∷ w) (head_words (Claim p axis port state cells)) (map decimal cells)
    ∙ ap (λ t. spread (head_words (Claim p axis port state cells)) ++ t) (flat_map-map (λ w. 32 ∷ w) decimal cells)
words_in (Deliver p g) = sym (append-nil (spread (entry_words (Deliver p g))))
words_in (Release p) = sym (append-nil (spread (entry_words (Release p))))
words_in (Step f) = sym (append-nil (spread (entry_words (Step f))))
words_in (Settle p flip) = sym (append-nil (spread (entry_words (Settle p flip))))

-- the parts of an entry's line
pub entry_parts : (n : Noted) → entry_text n ≡ ((decimal n.by ++ spread (head_words n.entry)) ++ flat_map cell_word (cells_in n.entry)) ++ 10 ∷ []
entry_parts n =
    cc (spaced_spread (decimal n.by) (entry_words n.entry), words_in n.entry, append_assoc (decimal n.by) (spread (head_words n.entry)) (flat_map cell_word (cells_in n.entry)))

-- one digit more
pub digits_more : (bit : ℕ → Bool) (b k : ℕ) → 0 < b → digits bit (b - 1) (suc k) ≡ digits bit b k ++ digit (bit (b - 1))
digits_more bit b k low =
    let e : (b - 1) + 1 ≡ b = omega arith in
    ap (λ n. digits bit n k ++ digit (bit (b - 1))) e

-- the digits of bits from the first on begin with those from a later one on
pub digits_begin : (bit : ℕ → Bool) (m first size b k : ℕ) → first + m ≡ b → size ≡ m + k → (rest : List ℕ) × (digits bit first size ≡ digits bit b k ++ rest)
digits_begin bit zero first size b k e f =
    let at : first ≡ b = omega arith in
    let as' : size ≡ k = omega arith in
    ([], ap (λ n. digits bit n size) at ∙ ap (λ n. digits bit b n) as' ∙ sym (append-nil (digits bit b k)))
digits_begin bit (suc m) first zero b k e f = absurd (omega arith)
digits_begin bit (suc m) first (suc size) b k e f =
    let (rest, whole) = digits_begin bit m (first + 1) size b k (omega arith) (omega arith) in
    (rest ++ digit (bit first), ap (λ t. t ++ digit (bit first)) whole ∙ append_assoc (digits bit b k) rest (digit (bit first)))

-- a register's line from its name on
pub register_parts : (bit : ℕ → Bool) (r : Register) → register_text bit r ≡ (codes "bits " ++ r.name) ++ (32 ∷ (digits bit r.first r.size ++ 10 ∷ []))
register_parts bit r = append_assoc ((codes "bits " ++ r.name) ++ codes " ") (digits bit r.first r.size) (10 ∷ []) ∙ append_assoc (codes "bits " ++ r.name) (codes " ") (digits bit r.first r.size ++ 10 ∷ [])

-- the registers' bits are among all bits
pub firsts_within : (n before : ℕ) (rs : List Register) → before + bits_in rs ≤ n → FirstsRunOn before rs → All (IsWithin n) rs
firsts_within n before [] fits runs k d h = absurd (omega arith)
firsts_within n before (r ∷ rs) fits (first, runs) zero d h = omega (arith, first, fits, sum_by-cons (λ (s : Register). s.size) r rs)
firsts_within n before (r ∷ rs) fits (first, runs) (suc k) d h = firsts_within n (before + r.size) rs (omega (arith, fits, sum_by-cons (λ (s : Register). s.size) r rs)) runs k d (omega arith)

-- the lines of the registers' bits, one for each
pub bits_parts : (bit : ℕ → Bool) (rs ss : List Register) → rs ≡ ss → flat_map (register_text bit) rs ≡ bits_text ss bit
bits_parts bit rs ss e = ap (flat_map (register_text bit)) e ∙ sym (flat_map-map ended (bits_line bit) ss)

-- the parts of a history's text
pub text_parts : (h : List Noted) (rs : List Register) (bit : ℕ → Bool) → text_of two h rs bit ≡ ((header_line two ++ 10 ∷ []) ++ flat_map entry_text h) ++ bits_text rs bit
text_parts h rs bit =
    cc (flat_map-append ended (header_line two ∷ map (entry_line two) h) (map (bits_line bit) rs), flat_map-map ended (entry_line two) h)

-- pieces of what is done and of one more
pub done_more : {X : Type 0} (f : X → List ℕ) (done : List X) (x : X) → flat_map f (done ++ x ∷ []) ≡ flat_map f done ++ f x
done_more f done x = cc (flat_map-append f done (x ∷ []), append-nil (f x))

-- the pieces of all begin with those of what is done and of one more
pub done_in : {X : Type 0} (f : X → List ℕ) (done rest all : List X) (x : X) → done ++ x ∷ rest ≡ all → flat_map f all ≡ (flat_map f done ++ f x) ++ flat_map f rest
done_in f done rest all x e = cc (flat_map-append f done (x ∷ rest), append_assoc (flat_map f done) (f x) (flat_map f rest), e)

-- all digits begin with those so far and one more
pub digits_in : (bit : ℕ → Bool) (first size b k : ℕ) → first < b → b + k ≡ first + size → (rest : List ℕ) × (digits bit first size ≡ (digits bit b k ++ digit (bit (b - 1))) ++ rest)
digits_in bit first size b k low at =
    let positive : 0 < b = omega arith in
    let (rest, whole) = digits_begin bit (b - 1 - first) first size (b - 1) (suc k) (omega arith) (omega arith) in
    (rest, cc (whole, digits_more bit b k positive))
