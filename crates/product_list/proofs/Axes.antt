-- The axis that a word spells.
use Rattle.std.proofs.Common.{◌≡◌, ℕ, ◌+◌, ◌≤◌, ◌==◌, ◌||◌, ◌&&◌, not, Bool, true, false, if◌then◌else◌, List, [], ◌∷◌, ◌++◌, length, map, refl, sym, ap, ap₂, arith}
use Rattle.std.specs.List.{flat_map, list_all, list_any}
use Rattle.std.proofs.lemmas.Bool.{and_parts, eqb-true}
use Rattle.std.proofs.lemmas.List.{length-map}
use Rattle.pauli_product.specs.declared.Letter.TheVariants.{I, X, Y, Z}
use Rattle.pauli_product.specs.Spelling.{sign_text, letter_text, product_text, Spells}
use Rattle.product_list.specs.ListText.{is_letter, letter_of, is_axis, axis_in_text}

one_letter : (b : ℕ) (x y z : Bool) → (b == 88) ≡ x → (b == 89) ≡ y → (b == 90) ≡ z → (b == 73 || x || y || z) ≡ true → letter_text (if x then X else if y then Y else if z then Z else I) ≡ b ∷ []
one_letter b true y z e f g h = ap (λ n. n ∷ []) (sym (eqb-true b 88 e))
one_letter b false true z e f g h = ap (λ n. n ∷ []) (sym (eqb-true b 89 f))
one_letter b false false true e f g h = ap (λ n. n ∷ []) (sym (eqb-true b 90 g))
one_letter b false false false e f g h = ap (λ n. n ∷ []) (sym (eqb-true b 73 (last (b == 73) h)))
  where
    last : (i : Bool) → (i || false || false || false) ≡ true → i ≡ true
    last true h = refl
    last false h = h

pub letter_spelled : (b : ℕ) → is_letter b ≡ true → letter_text (letter_of b) ≡ b ∷ []
letter_spelled b h = one_letter b (b == 88) (b == 89) (b == 90) refl refl refl h

letters_spelled : (bs : List ℕ) → list_all is_letter bs ≡ true → flat_map letter_text (map letter_of bs) ≡ bs
letters_spelled [] h = refl
letters_spelled (b ∷ bs) h =
    let p = and_parts (is_letter b) (list_all is_letter bs) h in
    ap₂ (λ xs ys. xs ++ ys) (letter_spelled b p.0) (letters_spelled bs p.1)

sign_spelled : (b : ℕ) (m : Bool) → (b == 45) ≡ m → (b == 43 || m) ≡ true → sign_text m ≡ b ∷ []
sign_spelled b true e h = ap (λ n. n ∷ []) (sym (eqb-true b 45 e))
sign_spelled b false e h = ap (λ n. n ∷ []) (sym (eqb-true b 43 (last (b == 43) h)))
  where
    last : (i : Bool) → (i || false) ≡ true → i ≡ true
    last true h = refl
    last false h = h

pub record IsAxisText (w : List ℕ) : Type 0 where
  pub spelled : w ≡ product_text (axis_in_text w)
  pub long : length w ≡ length (axis_in_text w).letters + 1
  pub some : 1 ≤ length (axis_in_text w).letters

some_letter : (bs : List ℕ) → list_any (λ c. not (c == 73)) bs ≡ true → 1 ≤ length bs
some_letter [] h = absurd (let e : false ≡ true = h in cc)
some_letter (b ∷ bs) h = omega arith

pub axis_text : (w : List ℕ) → is_axis w ≡ true → IsAxisText w
unfolding is_axis axis_in_text
axis_text [] h = absurd (let e : false ≡ true = h in cc)
axis_text (b ∷ bs) h =
    let p = and_parts ((b == 43 || b == 45) && list_all is_letter bs) (list_any (λ c. not (c == 73)) bs) h in
    let q = and_parts (b == 43 || b == 45) (list_all is_letter bs) p.0 in
    let l : length (map letter_of bs) ≡ length bs = length-map bs letter_of in
    let s = some_letter bs p.1 in
    record {
      spelled = sym (ap₂ (λ xs ys. xs ++ ys) (sign_spelled b (b == 45) refl q.0) (letters_spelled bs q.1));
      long = omega arith;
      some = omega arith;
    }

pub spells : (w : List ℕ) → is_axis w ≡ true → length w ≤ 1025 → Spells w (axis_in_text w)
spells w h few = let t = axis_text w h in record { spelled = t.spelled; some = t.some; few = let l = t.long in omega arith }
