-- Pieces for the numbers below another, one more at a time.
use Rattle.std.proofs.Common.{◌≡◌, ℕ, zero, suc, ◌+◌, ◌<◌, List, [], ◌∷◌, ◌++◌, ap, sym, subst, ◌∙◌, arith, inl, inr, append_assoc}
use Rattle.std.specs.Prelude.{Option, flat_map}
use Rattle.std.proofs.lemmas.Bool.{cases_lt}
use Rattle.std.proofs.lemmas.List.{append-nil}
use Rattle.std.proofs.lemmas.Grind.{flat_map-append}
use Rattle.patch_base.specs.Outside.{AppendsPrefix}
use Rattle.patch_base.specs.Passes.{Passes}
use Rattle.patch_base.proofs.Passing.{passes_then, began_rest}
use Rattle.slice_write.specs.Slices.{upto}

pub upto_suc : (n : ℕ) → upto (n + 1) ≡ upto n ++ n ∷ []
upto_suc n = ap upto (let e : n + 1 ≡ suc n = omega arith in e)

pub upto_more : (f : ℕ → List ℕ) (n : ℕ) → flat_map f (upto (n + 1)) ≡ flat_map f (upto n) ++ f n
upto_more f n = ap (flat_map f) (upto_suc n) ∙ flat_map-append f (upto n) (n ∷ []) ∙ ap (λ l. flat_map f (upto n) ++ l) (append-nil (f n))

-- the pieces of all begin with those so far and that of the next
pub upto_in : (f : ℕ → List ℕ) (n m : ℕ) → n < m → (rest : List ℕ) × (flat_map f (upto m) ≡ (flat_map f (upto n) ++ f n) ++ rest)
upto_in f n zero low = absurd (omega arith)
upto_in f n (suc m) low = elim (cases_lt n m) [
  | inl below ↦
      let (rest, whole) = upto_in f n m below in
      (rest ++ f m, flat_map-append f (upto m) (m ∷ []) ∙ ap (λ l. flat_map f (upto m) ++ l) (append-nil (f m)) ∙ ap (λ l. l ++ f m) whole ∙ append_assoc (flat_map f (upto n) ++ f n) rest (f m))
  | inr past ↦
      let e : n ≡ m = omega arith in
      ([], flat_map-append f (upto m) (m ∷ []) ∙ ap (λ l. flat_map f (upto m) ++ l) (append-nil (f m)) ∙ ap (λ k. flat_map f (upto k) ++ f k) (sym e) ∙ sym (append-nil (flat_map f (upto n) ++ f n)))
]

-- the pieces so far went through a pen, and then that of the next
pub passes_more : (f : ℕ → List ℕ) (n : ℕ) {a b c : Option (List ℕ)} {h i j : List ℕ} → Passes a b h i (flat_map f (upto n)) → Passes b c i j (f n) → Passes a c h j (flat_map f (upto (n + 1)))
passes_more f n {a} {b} {c} {h} {i} {j} p q =
    let P : List ℕ → Type 0 = λ z. Passes a c h j z in subst P (sym (upto_more f n)) (passes_then p q)

-- what is begun of the piece of the next is begun of all pieces
pub began_more_of : (f : ℕ → List ℕ) (n m : ℕ) {a b : Option (List ℕ)} {h i : List ℕ} (c : Option (List ℕ)) → n < m → Passes a b h i (flat_map f (upto n)) → AppendsPrefix b c (i ++ f n) → AppendsPrefix a c (h ++ flat_map f (upto m))
began_more_of f n m c low p q =
    let (rest, whole) = upto_in f n m low in began_rest c (f n) rest (flat_map f (upto m)) p whole q
