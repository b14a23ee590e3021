-- Products with I before and after them: their products, and what leaves them.
use Rattle.std.proofs.Common.{◌≡◌, ℕ, zero, suc, ◌+◌, ◌%◌, ◌<◌, ◌≤◌, ◌==◌, inl, inr, true, if◌then◌else◌, List, [], ◌∷◌, ◌++◌, length, replicate, slice_index_or, refl, ap, ap₂, sym, ◌∙◌, arith}
use Rattle.std.proofs.lemmas.Bool.{cases_Bool}
use Rattle.pauli_product.specs.declared.Letter.{Letter}
use Rattle.pauli_product.specs.declared.Letter.TheVariants.{I}
use Rattle.pauli_product.specs.Letters.{letters_clash}
use Rattle.pauli_product.specs.Signed.{Signed, OfLength, letters_product, letters_phase, clashes, commute, sign_phase}
use Rattle.pauli_product.specs.Pulls.{Angle, Turn, quarter, half, moved, conj, pull, TurnsOfLength}
use Rattle.pauli_product.proofs.Algebra.{same_commute, commute_from_even, conj_commuting, conj_moved}
use Rattle.pauli_product.proofs.Turns.{turns_head, turns_tail, length_pull, pull-append}
use Rattle.side_by_side.specs.declared.place.Place.{Place}
use Rattle.side_by_side.specs.Places.{fill, pad}
use Rattle.side_by_side.specs.inside.Beside.{pads, IsClear, Leaves}

-- ---- lists of letters, one after another
product_append : (a b c d : List Letter) → length a ≡ length b → letters_product (a ++ c) (b ++ d) ≡ letters_product a b ++ letters_product c d
product_append [] [] c d e = refl
product_append [] (y ∷ b) c d e = absurd (omega arith)
product_append (x ∷ a) [] c d e = absurd (omega arith)
product_append (x ∷ a) (y ∷ b) c d e = ap₂ ◌∷◌ refl (product_append a b c d (omega arith))

phase_append : (a b c d : List Letter) → length a ≡ length b → letters_phase (a ++ c) (b ++ d) ≡ letters_phase a b + letters_phase c d
phase_append [] [] c d e = omega arith
phase_append [] (y ∷ b) c d e = absurd (omega arith)
phase_append (x ∷ a) [] c d e = absurd (omega arith)
phase_append (x ∷ a) (y ∷ b) c d e = omega (arith, phase_append a b c d (omega arith))

clashes_append : (a b c d : List Letter) → length a ≡ length b → clashes (a ++ c) (b ++ d) ≡ clashes a b + clashes c d
clashes_append [] [] c d e = omega arith
clashes_append [] (y ∷ b) c d e = absurd (omega arith)
clashes_append (x ∷ a) [] c d e = absurd (omega arith)
clashes_append (x ∷ a) (y ∷ b) c d e = omega (arith, clashes_append a b c d (omega arith))

product_idle : (n : ℕ) → letters_product (replicate n I) (replicate n I) ≡ replicate n I
product_idle zero = refl
product_idle (suc n) = ap (λ ls. I ∷ ls) (product_idle n)

phase_idle : (n : ℕ) → letters_phase (replicate n I) (replicate n I) ≡ 0
phase_idle zero = refl
phase_idle (suc n) = omega (arith, phase_idle n)

clashes_idle : (n : ℕ) → clashes (replicate n I) (replicate n I) ≡ 0
clashes_idle zero = refl
clashes_idle (suc n) = omega (arith, clashes_idle n)

product_fill : (q r : ℕ) (a b : List Letter) → length a ≡ length b → letters_product (fill q r a) (fill q r b) ≡ fill q r (letters_product a b)
product_fill q r a b e =
    product_append (replicate q I) (replicate q I) (a ++ replicate r I) (b ++ replicate r I) refl
    ∙ ap₂ ◌++◌ (product_idle q) (product_append a b (replicate r I) (replicate r I) e ∙ ap (λ ls. letters_product a b ++ ls) (product_idle r))

phase_fill : (q r : ℕ) (a b : List Letter) → length a ≡ length b → letters_phase (fill q r a) (fill q r b) ≡ letters_phase a b
phase_fill q r a b e =
    omega (
      arith,
      phase_append (replicate q I) (replicate q I) (a ++ replicate r I) (b ++ replicate r I) refl,
      phase_idle q,
      phase_append a b (replicate r I) (replicate r I) e,
      phase_idle r,
    )

clashes_fill : (q r : ℕ) (a b : List Letter) → length a ≡ length b → clashes (fill q r a) (fill q r b) ≡ clashes a b
clashes_fill q r a b e =
    omega (
      arith,
      clashes_append (replicate q I) (replicate q I) (a ++ replicate r I) (b ++ replicate r I) refl,
      clashes_idle q,
      clashes_append a b (replicate r I) (replicate r I) e,
      clashes_idle r,
    )

-- ---- conjugation among products of one program
pub commute_pad : (s : Place) (q p : Signed) → length q.letters ≡ length p.letters → commute (pad s q) (pad s p) ≡ commute q p
commute_pad s q p e = same_commute (pad s q) (pad s p) q p (ap (λ n. n % 2) (clashes_fill s.before s.after q.letters p.letters e))

moved_pad : (s : Place) (q : Signed) (a : Angle) (p : Signed) → length q.letters ≡ length p.letters → moved (pad s q) a (pad s p) ≡ pad s (moved q a p)
moved_pad s q half p e = refl
moved_pad s q quarter p e =
    let make : ℕ → List Letter → Signed = λ n ls. record { sign = (1 + (sign_phase q.sign + sign_phase p.sign + n) % 4) % 4 == 2; letters = ls } in
    ap₂ make (phase_fill s.before s.after q.letters p.letters e) (product_fill s.before s.after q.letters p.letters e)

-- conjugating one padded product by another is the padding of the conjugate
pub conj_pad : (s : Place) (q : Signed) (a : Angle) (p : Signed) → length q.letters ≡ length p.letters → conj (pad s q) a (pad s p) ≡ pad s (conj q a p)
conj_pad s q a p e = elim (cases_Bool (commute q p)) [
  | inl c ↦ conj_commuting (pad s q) a (pad s p) (commute_pad s q p e ∙ c) ∙ ap (pad s) (sym (conj_commuting q a p c))
  | inr c ↦ conj_moved (pad s q) a (pad s p) (commute_pad s q p e ∙ c) ∙ moved_pad s q a p e ∙ ap (pad s) (sym (conj_moved q a p c))
]

pub pull_pad : (n : ℕ) (s : Place) (ts : List Turn) (p : Signed) → TurnsOfLength n ts → OfLength n p → pull (pads s ts) (pad s p) ≡ pad s (pull ts p)
pull_pad n s [] p h e = refl
pull_pad n s (t ∷ ts) p h e =
    let more = turns_tail n t ts h in
    ap (conj (pad s t.axis) t.angle) (pull_pad n s ts p more e)
    ∙ conj_pad s t.axis t.angle (pull ts p) (turns_head n t ts h ∙ sym (length_pull n ts p more e))

-- ---- products with I on the program's qubits
abbrev clash : Letter → Letter → ℕ
clash a b = if letters_clash a b then 1 else 0

clash_behind : (a : Letter) → clash a I ≡ 0
clash_behind a = grind arith

clash_clear : (a b : Letter) → a ≡ I → clash a b ≡ 0
clash_clear a b e = grind arith

clashes_none : (x : List Letter) (r : ℕ) → clashes x (replicate r I) ≡ 0
clashes_none [] r = refl
clashes_none (a ∷ x) zero = refl
clashes_none (a ∷ x) (suc r) = omega (arith, clash_behind a, clashes_none x r)

clashes_front : (x ls : List Letter) (r : ℕ) → ((k : ℕ) → k < length ls → slice_index_or x k I ≡ I) → clashes x (ls ++ replicate r I) ≡ 0
clashes_front [] ls r h = refl
clashes_front (a ∷ x) [] r h = clashes_none (a ∷ x) r
clashes_front (a ∷ x) (l ∷ ls) r h = omega (arith, clash_clear a l (h 0 (omega arith)), clashes_front x ls r (λ k z. h (suc k) (omega arith)))

clashes_clear : (x : List Letter) (q r : ℕ) (ls : List Letter) → ((k : ℕ) → q ≤ k → k < q + length ls → slice_index_or x k I ≡ I) → clashes x (fill q r ls) ≡ 0
clashes_clear x zero r ls h = clashes_front x ls r (λ k z. h k (omega arith) (omega arith))
clashes_clear [] (suc q) r ls h = refl
clashes_clear (a ∷ x) (suc q) r ls h = omega (arith, clash_behind a, clashes_clear x q r ls (λ k y z. h (suc k) (omega arith) (omega arith)))

-- a padded product commutes with a product that has I on its qubits
pub commute_clear : (s : Place) (r p : Signed) → IsClear s.before (length p.letters) r → commute r (pad s p) ≡ true
commute_clear s r p h = commute_from_even r (pad s p) (omega (arith, clashes_clear r.letters s.before s.after p.letters h))

pub conj_clear : (s : Place) (r : Signed) (a : Angle) (p : Signed) → IsClear s.before (length p.letters) r → conj r a (pad s p) ≡ pad s p
conj_clear s r a p h = conj_commuting r a (pad s p) (commute_clear s r p h)

pub pull_clear : (n : ℕ) (s : Place) (ts : List Turn) (p : Signed) → OfLength n p → Leaves s.before n ts → pull ts (pad s p) ≡ pad s p
pull_clear n s [] p e h = refl
pull_clear n s (t ∷ ts) p e h =
    ap (conj t.axis t.angle) (pull_clear n s ts p e h.1)
    ∙ conj_clear s t.axis t.angle p (λ k y z. h.0 k y (omega arith))

-- through the turns of others and then its own, a program's product is pulled as alone
pub pull_beside : (n : ℕ) (s : Place) (others own : List Turn) (p : Signed) → Leaves s.before n others → TurnsOfLength n own → OfLength n p → pull (others ++ pads s own) (pad s p) ≡ pad s (pull own p)
pull_beside n s others own p h k e =
    pull-append others (pads s own) (pad s p)
    ∙ ap (pull others) (pull_pad n s own p k e)
    ∙ pull_clear n s others (pull own p) (length_pull n own p k e) h
