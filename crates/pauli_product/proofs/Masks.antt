-- Lists of letters in words of 64, and what holds of letters past the last qubit.
use Rattle.std.proofs.Common.{◌≡◌, ℕ, zero, suc, Bool, ◌+◌, ◌-◌, ◌*◌, ◌/◌, ◌%◌, ◌<◌, ◌≤◌, true, false, if◌then◌else◌, min, inl, inr, List, [], ◌∷◌, ◌++◌, length, take, drop, get_or, set, slice_get, Some, replicate, flat_map, refl, ap, ap₂, subst, sym, ◌∙◌, arith, length-append, append_assoc, append-nil}
use Rattle.std.proofs.lemmas.List.{get_or_append_left, get_or-append_right, set-append_left, set-append_right, drop_more, take_more, get_or_past, length-drop, length-take-le, length-replicate, get_or-set_other, get_or-take, take_at, set_at, take_all, take_min, take_more_set, drop-set-lt, replicate-append-replicate, take-replicate, take-append-le, flat_map_more}
use Rattle.std.proofs.lemmas.List.Concat.{flat_map-append}
use Rattle.std.proofs.lemmas.Option.{slice_get-get_or, get_or_from_slice_get, slice_get_within}
use Rattle.std.proofs.lemmas.Bool.{cases_lt}
use Rattle.std.proofs.Math.Seq.{take-add, take-append-add}
use Rattle.std.specs.List.{refill}
use mir.Val.{bool_byte}
use Rattle.pauli_product.specs.declared.Letter.{Letter}
use Rattle.pauli_product.specs.declared.Letter.TheVariants.{I}
use Rattle.pauli_product.specs.declared.word.Word.{Word}
use Rattle.pauli_product.specs.Letters.{letter_product, letter_phase, letters_clash}
use Rattle.pauli_product.specs.Signed.{Signed, letters_product, letters_phase, clashes, sign_phase, phase}
use Rattle.pauli_product.specs.Spelling.{letter_text}
use Rattle.pauli_product.specs.inside.Words.{word_letters}
use Rattle.pauli_product.specs.inside.Masks.{all_letters, first_letters, IsClearFrom, HoldsQubits}
use Rattle.pauli_product.proofs.WordLetters.{length-word_letters}

-- ---- the letters of a list of words
pub length-all_letters : (words : List Word) → length (all_letters words) ≡ 64 * length words
length-all_letters [] = refl
length-all_letters (w ∷ ws) = omega (arith, length-append (word_letters w) (all_letters ws), length-word_letters w, length-all_letters ws)

pub length-first_letters : (n : ℕ) (words : List Word) → HoldsQubits n words → length (first_letters n words) ≡ n
length-first_letters n words h = let enough : n ≤ length (all_letters words) = omega (arith, h.enough, length-all_letters words) in length-take-le n (all_letters words) enough

pub all_letters-drop : (words : List Word) (i : ℕ) (w : Word) → i < length words → all_letters (drop i words) ≡ word_letters (get_or words i w) ++ all_letters (drop (i + 1) words)
all_letters-drop words i w l = ap all_letters (drop_more words i w l)

-- the letter of a qubit is in its word
pub get_or-all_letters : (words : List Word) (i b : ℕ) (w : Word) (d : Letter) → i < length words → b < 64 → get_or (all_letters words) (64 * i + b) d ≡ get_or (word_letters (get_or words i w)) b d
get_or-all_letters [] i b w d l m = absurd (omega arith)
get_or-all_letters (v ∷ vs) zero b w d l m = let at : 64 * 0 + b ≡ b = omega arith in let within : b < length (word_letters v) = omega (arith, length-word_letters v) in ap (λ k. get_or (word_letters v ++ all_letters vs) k d) at ∙ get_or_append_left (word_letters v) (all_letters vs) d b within
get_or-all_letters (v ∷ vs) (suc i) b w d l m =
    let past : 64 ≤ 64 * suc i + b = omega arith in
    let at : 64 * suc i + b - 64 ≡ 64 * i + b = omega arith in
    let step : get_or (word_letters v ++ all_letters vs) (64 * suc i + b) d ≡ get_or (all_letters vs) (64 * suc i + b - 64) d = get_or-append_right (word_letters v) (all_letters vs) 64 (64 * suc i + b) d (length-word_letters v) past in
    step ∙ ap (λ k. get_or (all_letters vs) k d) at ∙ get_or-all_letters vs i b w d (omega arith) m

pub set-all_letters : (words : List Word) (i b : ℕ) (w new : Word) (l : Letter) → i < length words → b < 64 → word_letters new ≡ set (word_letters (get_or words i w)) b l → all_letters (set words i new) ≡ set (all_letters words) (64 * i + b) l
set-all_letters [] i b w new l h m e = absurd (omega arith)
set-all_letters (v ∷ vs) zero b w new l h m e =
    let at : 64 * 0 + b ≡ b = omega arith in
    let within : b < length (word_letters v) = omega (arith, length-word_letters v) in
    ap (λ ls. ls ++ all_letters vs) e ∙ sym (set-append_left (word_letters v) (all_letters vs) b l within) ∙ ap (λ k. set (word_letters v ++ all_letters vs) k l) (sym at)
set-all_letters (v ∷ vs) (suc i) b w new l h m e =
    let past : 64 ≤ 64 * suc i + b = omega arith in
    let at : 64 * i + b ≡ 64 * suc i + b - 64 = omega arith in
    ap (λ ls. word_letters v ++ ls) (set-all_letters vs i b w new l (omega arith) m e ∙ ap (λ k. set (all_letters vs) k l) at)
    ∙ sym (set-append_right (word_letters v) (all_letters vs) 64 (64 * suc i + b) l (length-word_letters v) past)

-- ---- a list of words is changed
pub refilled : (words new : List Word) → length new ≡ length words → refill (length words) words new ≡ new
refilled words new e = take_at new (drop (length new) words) (length words) e

pub all_letters-take-set : (words : List Word) (i : ℕ) (new : Word) → i < length words → all_letters (take (i + 1) (set words i new)) ≡ all_letters (take i words) ++ word_letters new
all_letters-take-set words i new l =
    ap all_letters (take_more_set words i new l)
    ∙ flat_map-append word_letters (take i words) (new ∷ [])
    ∙ ap (λ ls. all_letters (take i words) ++ ls) (append-nil (word_letters new))

all_letters-drop-set : (words : List Word) (i : ℕ) (new : Word) → all_letters (drop (i + 1) (set words i new)) ≡ all_letters (drop (i + 1) words)
all_letters-drop-set words i new = let past : i < i + 1 = omega arith in ap all_letters (drop-set-lt (i + 1) words i new past)

-- ---- letters past the last qubit
pub product-take : (n : ℕ) (as' bs : List Letter) → letters_product (take n as') (take n bs) ≡ take n (letters_product as' bs)
product-take zero as' bs = refl
product-take (suc n) [] bs = refl
product-take (suc n) (a ∷ as') [] = refl
product-take (suc n) (a ∷ as') (b ∷ bs) = ap (λ ls. letter_product a b ∷ ls) (product-take n as' bs)

clear_rest : (n : ℕ) (a : Letter) (as' : List Letter) → IsClearFrom (suc n) (a ∷ as') → IsClearFrom n as'
clear_rest n a as' h = λ k l. h (suc k) (omega arith)

clear_zero : (a : Letter) (as' : List Letter) → IsClearFrom 0 (a ∷ as') → IsClearFrom 0 as'
clear_zero a as' h = λ k l. h (suc k) (omega arith)

abbrev clash : Letter → Letter → ℕ
clash a b = if letters_clash a b then 1 else 0

clash_of_I : (b : Letter) → clash I b ≡ 0
clash_of_I b = grind arith

phase_of_I : (b : Letter) → letter_phase I b ≡ 0
phase_of_I b = grind arith

clashes_none : (as' bs : List Letter) → IsClearFrom 0 as' → clashes as' bs ≡ 0
clashes_none [] bs h = refl
clashes_none (a ∷ as') [] h = refl
clashes_none (a ∷ as') (b ∷ bs) h =
    let here : clash a b ≡ 0 = ap (λ l. clash l b) (h 0 (omega arith)) ∙ clash_of_I b in
    omega (arith, clashes_none as' bs (clear_zero a as' h))

phase_none : (as' bs : List Letter) → IsClearFrom 0 as' → letters_phase as' bs ≡ 0
phase_none [] bs h = refl
phase_none (a ∷ as') [] h = refl
phase_none (a ∷ as') (b ∷ bs) h =
    let here : letter_phase a b ≡ 0 = ap (λ l. letter_phase l b) (h 0 (omega arith)) ∙ phase_of_I b in
    omega (arith, phase_none as' bs (clear_zero a as' h))

pub clashes-take : (n : ℕ) (as' bs : List Letter) → IsClearFrom n as' → clashes (take n as') (take n bs) ≡ clashes as' bs
clashes-take zero as' bs h = sym (clashes_none as' bs h)
clashes-take (suc n) [] bs h = refl
clashes-take (suc n) (a ∷ as') [] h = refl
clashes-take (suc n) (a ∷ as') (b ∷ bs) h = omega (arith, clashes-take n as' bs (clear_rest n a as' h))

pub phase-take : (n : ℕ) (as' bs : List Letter) → IsClearFrom n as' → letters_phase (take n as') (take n bs) ≡ letters_phase as' bs
phase-take zero as' bs h = sym (phase_none as' bs h)
phase-take (suc n) [] bs h = refl
phase-take (suc n) (a ∷ as') [] h = refl
phase-take (suc n) (a ∷ as') (b ∷ bs) h = omega (arith, phase-take n as' bs (clear_rest n a as' h))

pub clear_product : (n : ℕ) (as' bs : List Letter) → IsClearFrom n as' → IsClearFrom n bs → IsClearFrom n (letters_product as' bs)
clear_product n [] bs h g k l = refl
clear_product n (a ∷ as') [] h g k l = refl
clear_product zero (a ∷ as') (b ∷ bs) h g zero l = ap₂ letter_product (h 0 l) (g 0 l)
clear_product zero (a ∷ as') (b ∷ bs) h g (suc k) l = clear_product 0 as' bs (clear_zero a as' h) (clear_zero b bs g) k (omega arith)
clear_product (suc n) (a ∷ as') (b ∷ bs) h g zero l = absurd (omega arith)
clear_product (suc n) (a ∷ as') (b ∷ bs) h g (suc k) l = clear_product n as' bs (clear_rest n a as' h) (clear_rest n b bs g) k (omega arith)

-- ---- letters in two parts
pub product-append : (a b as' bs : List Letter) → length b ≡ length a → letters_product (a ++ as') (b ++ bs) ≡ letters_product a b ++ letters_product as' bs
product-append [] [] as' bs e = refl
product-append [] (y ∷ b) as' bs e = absurd (omega arith)
product-append (x ∷ a) [] as' bs e = absurd (omega arith)
product-append (x ∷ a) (y ∷ b) as' bs e = ap (λ ls. letter_product x y ∷ ls) (product-append a b as' bs (omega arith))

pub clashes-append : (a b as' bs : List Letter) → length b ≡ length a → clashes (a ++ as') (b ++ bs) ≡ clashes a b + clashes as' bs
clashes-append [] [] as' bs e = omega arith
clashes-append [] (y ∷ b) as' bs e = absurd (omega arith)
clashes-append (x ∷ a) [] as' bs e = absurd (omega arith)
clashes-append (x ∷ a) (y ∷ b) as' bs e = omega (arith, clashes-append a b as' bs (omega arith))

pub phase-append : (a b as' bs : List Letter) → length b ≡ length a → letters_phase (a ++ as') (b ++ bs) ≡ letters_phase a b + letters_phase as' bs
phase-append [] [] as' bs e = omega arith
phase-append [] (y ∷ b) as' bs e = absurd (omega arith)
phase-append (x ∷ a) [] as' bs e = absurd (omega arith)
phase-append (x ∷ a) (y ∷ b) as' bs e = omega (arith, phase-append a b as' bs (omega arith))

-- ---- the words from one on
pub clashes-drop : (left right : List Word) (i : ℕ) (w v : Word) → i < length left → length right ≡ length left → clashes (all_letters (drop i left)) (all_letters (drop i right)) ≡ clashes (word_letters (get_or left i w)) (word_letters (get_or right i v)) + clashes (all_letters (drop (i + 1) left)) (all_letters (drop (i + 1) right))
clashes-drop left right i w v l e =
    ap₂ clashes (all_letters-drop left i w l) (all_letters-drop right i v (omega arith))
    ∙ clashes-append (word_letters (get_or left i w)) (word_letters (get_or right i v)) (all_letters (drop (i + 1) left)) (all_letters (drop (i + 1) right)) (length-word_letters (get_or right i v) ∙ sym (length-word_letters (get_or left i w)))

pub phase-drop : (left right : List Word) (i : ℕ) (w v : Word) → i < length left → length right ≡ length left → letters_phase (all_letters (drop i left)) (all_letters (drop i right)) ≡ letters_phase (word_letters (get_or left i w)) (word_letters (get_or right i v)) + letters_phase (all_letters (drop (i + 1) left)) (all_letters (drop (i + 1) right))
phase-drop left right i w v l e =
    ap₂ letters_phase (all_letters-drop left i w l) (all_letters-drop right i v (omega arith))
    ∙ phase-append (word_letters (get_or left i w)) (word_letters (get_or right i v)) (all_letters (drop (i + 1) left)) (all_letters (drop (i + 1) right)) (length-word_letters (get_or right i v) ∙ sym (length-word_letters (get_or left i w)))

pub product-drop : (left right : List Word) (i : ℕ) (w v : Word) → i < length left → length right ≡ length left → letters_product (all_letters (drop i left)) (all_letters (drop i right)) ≡ letters_product (word_letters (get_or left i w)) (word_letters (get_or right i v)) ++ letters_product (all_letters (drop (i + 1) left)) (all_letters (drop (i + 1) right))
product-drop left right i w v l e =
    ap₂ letters_product (all_letters-drop left i w l) (all_letters-drop right i v (omega arith))
    ∙ product-append (word_letters (get_or left i w)) (word_letters (get_or right i v)) (all_letters (drop (i + 1) left)) (all_letters (drop (i + 1) right)) (length-word_letters (get_or right i v) ∙ sym (length-word_letters (get_or left i w)))

pub count_step : (left right : List Word) (i count n total : ℕ) (w v : Word) → i < length left → length right ≡ length left → n ≡ clashes (word_letters (get_or left i w)) (word_letters (get_or right i v)) → count + clashes (all_letters (drop i left)) (all_letters (drop i right)) ≡ total → count + n + clashes (all_letters (drop (i + 1) left)) (all_letters (drop (i + 1) right)) ≡ total
count_step left right i count n total w v l e here h = omega (arith, clashes-drop left right i w v l e)

pub phase_step : (left right : List Word) (i sum n total : ℕ) (w v new : Word) → i < length left → length right ≡ length left → n ≡ letters_phase (word_letters (get_or left i w)) (word_letters (get_or right i v)) → sum + letters_phase (all_letters (drop i left)) (all_letters (drop i right)) ≡ total → sum + n + letters_phase (all_letters (drop (i + 1) (set left i new))) (all_letters (drop (i + 1) right)) ≡ total
phase_step left right i sum n total w v new l e here h =
    let rest = ap (λ ls. letters_phase ls (all_letters (drop (i + 1) right))) (all_letters-drop-set left i new) in
    omega (arith, phase-drop left right i w v l e, rest)

pub product_step : (left right : List Word) (i : ℕ) (total : List Letter) (w v new : Word) → i < length left → length right ≡ length left → word_letters new ≡ letters_product (word_letters (get_or left i w)) (word_letters (get_or right i v)) → all_letters (take i left) ++ letters_product (all_letters (drop i left)) (all_letters (drop i right)) ≡ total → all_letters (take (i + 1) (set left i new)) ++ letters_product (all_letters (drop (i + 1) (set left i new))) (all_letters (drop (i + 1) right)) ≡ total
product_step left right i total w v new l e here h =
    let front = all_letters (take i left) in
    let one = letters_product (word_letters (get_or left i w)) (word_letters (get_or right i v)) in
    let rest = letters_product (all_letters (drop (i + 1) left)) (all_letters (drop (i + 1) right)) in
    ap₂ (λ (a b : List Letter). a ++ letters_product b (all_letters (drop (i + 1) right))) (all_letters-take-set left i new l ∙ ap (λ ls. front ++ ls) here) (all_letters-drop-set left i new)
    ∙ append_assoc front one rest
    ∙ ap (λ ls. front ++ ls) (sym (product-drop left right i w v l e))
    ∙ h

-- ---- words that hold a product
pub record AreProduct (v w new : List Word) : Type 0 where
  pub count : length new ≡ length v
  pub letters : all_letters new ≡ letters_product (all_letters v) (all_letters w)

pub holds_product : (n : ℕ) (v w new : List Word) → HoldsQubits n v → HoldsQubits n w → AreProduct v w new → HoldsQubits n new
holds_product n v w new h g p = record {
  few = h.few;
  enough = omega (arith, h.enough, p.count);
  tight = omega (arith, h.tight, p.count);
  clear = let P : List Letter → Type 0 = λ ls. IsClearFrom n ls in subst P (sym p.letters) (clear_product n (all_letters v) (all_letters w) h.clear g.clear);
}

-- the product that words show
abbrev pub shown : Bool → ℕ → List Word → Signed
shown sign n words = record { sign = sign; letters = first_letters n words }

pub shown_letters : {p : Signed} (s : Bool) (n : ℕ) (words : List Word) → shown s n words ≡ p → first_letters n words ≡ p.letters
shown_letters s n words e = ap (λ (p : Signed). p.letters) e

pub shown_length : {p : Signed} (s : Bool) (n : ℕ) (words : List Word) → HoldsQubits n words → shown s n words ≡ p → length p.letters ≡ n
shown_length s n words h e = ap length (sym (shown_letters s n words e)) ∙ length-first_letters n words h

-- two products on as many qubits, as words show them
pub record AreShown (s t : Bool) (n m : ℕ) (v w : List Word) (p q : Signed) : Type 0 where
  pub left : HoldsQubits n v
  pub right : HoldsQubits m w
  pub left_is : shown s n v ≡ p
  pub right_is : shown t m w ≡ q
  pub equal : length q.letters ≡ length p.letters

module _ {s t : Bool} {n m : ℕ} {v w : List Word} {p q : Signed} where
  pub both_shown : HoldsQubits n v → HoldsQubits m w → shown s n v ≡ p → shown t m w ≡ q → length q.letters ≡ length p.letters → AreShown s t n m v w p q
  both_shown h g e f equal = record { left = h; right = g; left_is = e; right_is = f; equal = equal }

  pub same_qubits : AreShown s t n m v w p q → m ≡ n
  same_qubits h = sym (shown_length t m w h.right h.right_is) ∙ h.equal ∙ shown_length s n v h.left h.left_is

  pub same_count : AreShown s t n m v w p q → length w ≡ length v
  same_count h = omega (arith, same_qubits h, h.left.enough, h.left.tight, h.right.enough, h.right.tight)

  right_letters : AreShown s t n m v w p q → first_letters n w ≡ q.letters
  right_letters h = ap (λ k. first_letters k w) (sym (same_qubits h)) ∙ shown_letters t m w h.right_is

  pub shown_clashes : AreShown s t n m v w p q → clashes p.letters q.letters ≡ clashes (all_letters v) (all_letters w)
  shown_clashes h =
      ap₂ clashes (sym (shown_letters s n v h.left_is)) (sym (right_letters h))
      ∙ clashes-take n (all_letters v) (all_letters w) h.left.clear

  pub shown_phase : AreShown s t n m v w p q → letters_phase p.letters q.letters ≡ letters_phase (all_letters v) (all_letters w)
  shown_phase h =
      ap₂ letters_phase (sym (shown_letters s n v h.left_is)) (sym (right_letters h))
      ∙ phase-take n (all_letters v) (all_letters w) h.left.clear

  pub shown_product : (new : List Word) → AreShown s t n m v w p q → AreProduct v w new → first_letters n new ≡ letters_product p.letters q.letters
  shown_product new h g =
      ap (take n) g.letters
      ∙ sym (product-take n (all_letters v) (all_letters w))
      ∙ ap₂ letters_product (shown_letters s n v h.left_is) (right_letters h)

  pub shown_holds : (new : List Word) → AreShown s t n m v w p q → AreProduct v w new → HoldsQubits n new
  shown_holds new h g =
      let P : ℕ → Type 0 = λ k. HoldsQubits k w in
      holds_product n v w new h.left (subst P (same_qubits h) h.right) g

-- what is left of the words of the first of two products after a multiplication in place
pub record AreMultiplied (n : ℕ) (words : List Word) (p q : Signed) : Type 0 where
  pub holds : HoldsQubits n words
  pub letters : first_letters n words ≡ letters_product p.letters q.letters
  pub qubits : length (first_letters n words) ≡ length p.letters

pub multiplied : {s t : Bool} {n m : ℕ} {v w : List Word} {p q : Signed} (a b new : List Word) → AreShown s t n m v w p q → a ≡ v → b ≡ w → length new ≡ length a → all_letters new ≡ letters_product (all_letters a) (all_letters b) → AreMultiplied n (refill (length v) v new) p q
multiplied {s} {t} {n} {m} {v} {w} {p} {q} a b new h e f count letters =
    let same : length new ≡ length v = count ∙ ap length e in
    let is : AreProduct v w new = record { count = same; letters = letters ∙ ap₂ (λ v w. letters_product (all_letters v) (all_letters w)) e f } in
    let held = shown_holds new h is in
    let P : List Word → Type 0 = λ ws. AreMultiplied n ws p q in
    subst P (sym (refilled v new same)) (record {
      holds = held;
      letters = shown_product new h is;
      qubits = length-first_letters n new held ∙ sym (shown_length s n v h.left h.left_is);
    })

sign_twice : (b : Bool) → 2 * bool_byte b ≡ sign_phase b
sign_twice true = refl
sign_twice false = refl

pub multiplied_phase : {s t : Bool} {n m : ℕ} {v w : List Word} {p q : Signed} (a b : List Word) (k i j : ℕ) → AreShown s t n m v w p q → a ≡ v → b ≡ w → k ≡ letters_phase (all_letters a) (all_letters b) → i ≡ bool_byte s → j ≡ bool_byte t → (k + (2 * i + 2 * j)) % 4 ≡ phase p q
multiplied_phase {s} {t} {n} {m} {v} {w} {p} {q} a b k i j h e f power left right =
    let letters : k ≡ letters_phase p.letters q.letters = power ∙ ap₂ (λ v w. letters_phase (all_letters v) (all_letters w)) e f ∙ sym (shown_phase h) in
    let one : 2 * i ≡ sign_phase p.sign = ap (λ i. 2 * i) left ∙ sign_twice s ∙ ap (λ (p : Signed). sign_phase p.sign) h.left_is in
    let two : 2 * j ≡ sign_phase q.sign = ap (λ j. 2 * j) right ∙ sign_twice t ∙ ap (λ (p : Signed). sign_phase p.sign) h.right_is in
    let sum : k + (2 * i + 2 * j) ≡ sign_phase p.sign + sign_phase q.sign + letters_phase p.letters q.letters = omega arith in
    ap (λ k. k % 4) sum

-- the letter of a qubit
pub shown_letter : {p : Signed} {l : Letter} (s : Bool) (n q : ℕ) (words part : List Word) (w : Word) → HoldsQubits n words → shown s n words ≡ p → q < length p.letters → part ≡ words → slice_get (word_letters (get_or part (q / 64) w)) (q % 64) ≡ Some l → slice_get p.letters q ≡ Some l
shown_letter {p} {l} s n q words part w h e m same here =
    let within : q < n = omega (arith, shown_length s n words h e) in
    let word : q / 64 < length words = omega (arith, h.enough) in
    let bit : q % 64 < 64 = omega arith in
    let at : 64 * (q / 64) + q % 64 ≡ q = omega arith in
    slice_get-get_or p.letters q I m
    ∙ ap Some (
    ap (λ ls. get_or ls q I) (sym (shown_letters s n words e))
    ∙ get_or-take n (all_letters words) q I within
    ∙ ap (λ k. get_or (all_letters words) k I) (sym at)
    ∙ get_or-all_letters words (q / 64) (q % 64) w I word bit
    ∙ ap (λ us. get_or (word_letters (get_or us (q / 64) w)) (q % 64) I) (sym same)
    ∙ get_or_from_slice_get (word_letters (get_or part (q / 64) w)) (q % 64) l I here
    )

-- ---- I on each qubit
all_letters-replicate : (m : ℕ) (w : Word) → word_letters w ≡ replicate 64 I → all_letters (replicate m w) ≡ replicate (64 * m) I
all_letters-replicate zero w e = refl
all_letters-replicate (suc m) w e =
    let sum : 64 + 64 * m ≡ 64 * suc m = omega arith in
    ap₂ (λ (a b : List Letter). a ++ b) e (all_letters-replicate m w e)
    ∙ replicate-append-replicate 64 (64 * m) I
    ∙ ap (λ k. replicate k I) sum

replicate_clear : (m k : ℕ) → get_or (replicate m I) k I ≡ I
replicate_clear zero k = refl
replicate_clear (suc m) zero = refl
replicate_clear (suc m) (suc k) = replicate_clear m k

pub record AreIdentity (n : ℕ) (words : List Word) : Type 0 where
  pub holds : HoldsQubits n words
  pub letters : first_letters n words ≡ replicate n I

pub identity_words : (n m : ℕ) (w : Word) (words : List Word) → n ≤ 1024 → n ≤ 64 * m → 64 * m < n + 64 → word_letters w ≡ replicate 64 I → words ≡ replicate m w → AreIdentity n words
identity_words n m w words few enough tight e same =
    let all : all_letters words ≡ replicate (64 * m) I = ap all_letters same ∙ all_letters-replicate m w e in
    let count : length words ≡ m = ap length same ∙ length-replicate m w in
    record {
      holds = record {
        few = few;
        enough = omega arith;
        tight = omega arith;
        clear = λ k l. ap (λ ls. get_or ls k I) all ∙ replicate_clear (64 * m) k;
      };
      letters = ap (take n) all ∙ take-replicate n (64 * m) I enough;
    }

-- ---- words are filled
pub pack_step : (ls old new : List Letter) (i : ℕ) (l : Letter) → i < length ls → length ls ≤ 64 → old ≡ take i ls ++ replicate (64 - i) I → new ≡ set old i (get_or ls i l) → new ≡ take (i + 1) ls ++ replicate (64 - (i + 1)) I
pack_step ls old new i l m few before after =
    let rest : List Letter = replicate (64 - (i + 1)) I in
    let left : 64 - i ≡ suc (64 - (i + 1)) = omega arith in
    let within : i ≤ length ls = omega arith in
    after
    ∙ ap (λ xs. set xs i (get_or ls i l)) (before ∙ ap (λ k. take i ls ++ replicate k I) left)
    ∙ set_at (take i ls) I rest (get_or ls i l) i (length-take-le i ls within)
    ∙ sym (append_assoc (take i ls) (get_or ls i l ∷ []) rest)
    ∙ ap (λ xs. xs ++ rest) (sym (take_more ls i l m))

pub fill_step : (ls part : List Letter) (words : List Word) (i end : ℕ) (w : Word) → i < length words → 64 * length words < length ls + 64 → end ≡ min (length ls) (64 * i + 64) → part ≡ take (end - 64 * i) (drop (64 * i) ls) → word_letters w ≡ part ++ replicate (64 - length part) I → all_letters (take i words) ≡ take (64 * i) ls ++ replicate (64 * i - length ls) I → all_letters (take (i + 1) (set words i w)) ≡ take (64 * (i + 1)) ls ++ replicate (64 * (i + 1) - length ls) I
fill_step ls part words i end w l tight to is packed before =
    let none : 64 * i - length ls ≡ 0 = omega arith in
    let from : 64 * i ≤ length ls = omega arith in
    let size : length part ≡ end - 64 * i = ap length is ∙ length-take-le (end - 64 * i) (drop (64 * i) ls) (omega (arith, length-drop (64 * i) ls)) in
    let pad : 64 - length part ≡ 64 * (i + 1) - length ls = omega arith in
    let sum : 64 * i + (end - 64 * i) ≡ end = omega arith in
    let first : all_letters (take i words) ≡ take (64 * i) ls = before ∙ ap (λ k. take (64 * i) ls ++ replicate k I) none ∙ append-nil (take (64 * i) ls) in
    let front : take (64 * i) ls ++ part ≡ take (64 * (i + 1)) ls =
    ap (λ xs. take (64 * i) ls ++ xs) is
    ∙ sym (take-add (64 * i) (end - 64 * i) ls)
    ∙ ap (λ k. take k ls) (sum ∙ to)
    ∙ take_to ls i in
    all_letters-take-set words i w l
    ∙ ap₂ (λ (a b : List Letter). a ++ b) first packed
    ∙ sym (append_assoc (take (64 * i) ls) part (replicate (64 - length part) I))
    ∙ ap₂ (λ (a : List Letter) (k : ℕ). a ++ replicate k I) front pad
  where
    take_to : (ls : List Letter) (i : ℕ) → take (min (length ls) (64 * i + 64)) ls ≡ take (64 * (i + 1)) ls
    take_to ls i =
        let flip : min (length ls) (64 * i + 64) ≡ min (64 * (i + 1)) (length ls) = omega arith in
        ap (λ k. take k ls) flip ∙ take_min (64 * (i + 1)) ls

pub record AreFilled (ls : List Letter) (words : List Word) : Type 0 where
  pub holds : HoldsQubits (length ls) words
  pub letters : first_letters (length ls) words ≡ ls

pub fill_end : (ls : List Letter) (old words : List Word) (i : ℕ) → HoldsQubits (length ls) old → length words ≡ length old → length old ≤ i → i ≤ length old → all_letters (take i words) ≡ take (64 * i) ls ++ replicate (64 * i - length ls) I → AreFilled ls words
fill_end ls old words i h e low high before =
    let pad : List Letter = replicate (64 * i - length ls) I in
    let whole : length words ≤ i = omega arith in
    let enough : length ls ≤ 64 * i = omega (arith, h.enough) in
    let all : all_letters words ≡ ls ++ pad = ap all_letters (sym (take_all i words whole)) ∙ before ∙ ap (λ xs. xs ++ pad) (take_all (64 * i) ls enough) in
    record {
      holds = record {
        few = h.few;
        enough = omega (arith, h.enough);
        tight = omega (arith, h.tight);
        clear = λ k l. ap (λ xs. get_or xs k I) all ∙ get_or-append_right ls pad (length ls) k I refl l ∙ replicate_clear (64 * i - length ls) (k - length ls);
      };
      letters = ap (take (length ls)) all ∙ take_at ls pad (length ls) refl;
    }

-- ---- text
pub print_step : (ls : List Letter) (i b : ℕ) (l : Letter) (old new start : List ℕ) → slice_get ls i ≡ Some l → letter_text l ≡ b ∷ [] → old ≡ start ++ flat_map letter_text (take i ls) → new ≡ old ++ b ∷ [] → new ≡ start ++ flat_map letter_text (take (i + 1) ls)
print_step ls i b l old new start at byte before after =
    let within : i < length ls = slice_get_within ls i l at in
    let here : get_or ls i I ≡ l = get_or_from_slice_get ls i l I at in
    after
    ∙ ap₂ (λ (a b : List ℕ). a ++ b) before (sym byte)
    ∙ flat_map_more letter_text start (take i ls) l
    ∙ ap (λ k. start ++ flat_map letter_text (take i ls ++ k ∷ [])) (sym here)
    ∙ ap (λ xs. start ++ flat_map letter_text xs) (sym (take_more ls i I within))

take_two : (n : ℕ) (xs ys : List Letter) → take n (xs ++ ys) ≡ take (min n (length xs)) xs ++ take (n - min n (length xs)) ys
take_two n xs ys = elim (cases_lt n (length xs)) [
  | inl short ↦
      let le : n ≤ length xs = omega arith in
      let all : n ≡ min n (length xs) = omega arith in
      let none : 0 ≡ n - min n (length xs) = omega arith in
      take-append-le n xs ys le ∙ sym (append-nil (take n xs)) ∙ ap₂ (λ (k m : ℕ). take k xs ++ take m ys) all none
  | inr long ↦
      let all : length xs ≡ min n (length xs) = omega arith in
      let rest : n - length xs ≡ n - min n (length xs) = omega arith in
      let sum : n ≡ length xs + (n - length xs) = omega arith in
      ap (λ k. take k (xs ++ ys)) sum ∙ take-append-add xs ys (n - length xs)
      ∙ ap (λ zs. zs ++ take (n - length xs) ys) (sym (take_all (length xs) xs (omega arith)))
      ∙ ap₂ (λ (k m : ℕ). take k xs ++ take m ys) all rest
]

pub print_more : (words : List Word) (i left count : ℕ) (w : Word) (old new whole : List ℕ) → i < length words → count ≡ min left 64 → old ++ flat_map letter_text (take left (all_letters (drop i words))) ≡ whole → new ≡ old ++ flat_map letter_text (take count (word_letters (get_or words i w))) → new ++ flat_map letter_text (take (left - count) (all_letters (drop (i + 1) words))) ≡ whole
print_more words i left count w old new whole l is before after =
    let here = word_letters (get_or words i w) in
    let rest = all_letters (drop (i + 1) words) in
    let full : min left (length here) ≡ count = ap (min left) (length-word_letters (get_or words i w)) ∙ sym is in
    let parts : take left (all_letters (drop i words)) ≡ take count here ++ take (left - count) rest =
    ap (take left) (all_letters-drop words i w l) ∙ take_two left here rest ∙ ap (λ k. take k here ++ take (left - k) rest) full in
    ap (λ xs. xs ++ flat_map letter_text (take (left - count) rest)) after
    ∙ append_assoc old (flat_map letter_text (take count here)) (flat_map letter_text (take (left - count) rest))
    ∙ ap (λ xs. old ++ xs) (sym (ap (flat_map letter_text) parts ∙ flat_map-append letter_text (take count here) (take (left - count) rest)))
    ∙ before

-- ---- the support
pub support_step : (words : List Word) (i from start to : ℕ) (w : Word) → i < length words → to ≤ 64 → start ≡ from - 64 * i → ((k : ℕ) → from ≤ k → k < 64 * i → get_or (all_letters words) k I ≡ I) → ((k : ℕ) → start ≤ k → k < to → get_or (word_letters (get_or words i w)) k I ≡ I) → (k : ℕ) → from ≤ k → k < 64 * i + to → get_or (all_letters words) k I ≡ I
support_step words i from start to w l few is before here k low high = elim (cases_lt k (64 * i)) [
  | inl early ↦ before k low early
  | inr late ↦
      let at : 64 * i + (k - 64 * i) ≡ k = omega arith in
      let bit : k - 64 * i < 64 = omega arith in
      ap (λ k. get_or (all_letters words) k I) (sym at)
      ∙ get_or-all_letters words i (k - 64 * i) w I l bit
      ∙ here (k - 64 * i) (omega arith) (omega arith)
]

pub support_none : (words : List Word) (i from : ℕ) → length words ≤ i → ((k : ℕ) → from ≤ k → k < 64 * i → get_or (all_letters words) k I ≡ I) → IsClearFrom from (all_letters words)
support_none words i from l before k low = elim (cases_lt k (64 * i)) [
  | inl early ↦ before k low early
  | inr late ↦ get_or_past (all_letters words) k I (omega (arith, length-all_letters words))
]

-- ---- a letter is put
pub take-set : (n : ℕ) (ls : List Letter) (q : ℕ) (l : Letter) → take n (set ls q l) ≡ set (take n ls) q l
take-set zero ls q l = refl
take-set (suc n) [] q l = refl
take-set (suc n) (a ∷ ls) zero l = refl
take-set (suc n) (a ∷ ls) (suc q) l = ap (λ ls. a ∷ ls) (take-set n ls q l)

pub clear_set : (n : ℕ) (ls : List Letter) (q : ℕ) (l : Letter) → q < n → IsClearFrom n ls → IsClearFrom n (set ls q l)
clear_set n ls q l m h k g = get_or-set_other ls q k l I (λ e. omega arith) ∙ h k g

-- what lies within the first n letters or past them
pub get_or-take_clear : (n : ℕ) (ls : List Letter) → IsClearFrom n ls → (k : ℕ) → get_or (take n ls) k I ≡ get_or ls k I
get_or-take_clear zero ls h k = sym (h k (omega arith))
get_or-take_clear (suc n) [] h k = refl
get_or-take_clear (suc n) (a ∷ ls) h zero = refl
get_or-take_clear (suc n) (a ∷ ls) h (suc k) = get_or-take_clear n ls (clear_rest n a ls h) k
