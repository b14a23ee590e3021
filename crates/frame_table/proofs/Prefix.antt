-- A product's first letters, with I after them, and the images of these.
use Rattle.std.proofs.Common.{◌≡◌, ℕ, zero, suc, ◌+◌, ◌%◌, ◌==◌, ◌<◌, ◌≤◌, true, false, List, [], ◌∷◌, length, replicate, get_or, set, refl, ap, ap₂, sym, ◌∙◌, arith}
use Rattle.pauli_product.specs.declared.Letter.{Letter}
use Rattle.pauli_product.specs.declared.Letter.TheVariants.{I, X, Y, Z}
use Rattle.pauli_product.specs.Letters.{letter_product, letter_phase, letters_clash}
use Rattle.pauli_product.specs.Signed.{Signed, plus, OfLength, letters_product, letters_phase, clashes, commute, real_product}
use Rattle.pauli_product.specs.Pulls.{Turn, i_times, carry, TurnsOfLength}
use Rattle.pauli_product.proofs.Laws.{clashes_even, clashes_odd, conj_idle, carry_commuting, carry_length, carry_real, carry_i_times, real_of_three}
use Rattle.frame_table.specs.Images.{alone}
use Rattle.frame_table.specs.inside.Steps.{times_letter}

-- the first q letters, and I for each of the others
abbrev pub prefix : ℕ → List Letter → List Letter
prefix zero ls = replicate (length ls) I
prefix (suc q) [] = []
prefix (suc q) (a ∷ as') = a ∷ prefix q as'

pub length_plain : (n : ℕ) → length (replicate n I) ≡ n
length_plain zero = refl
length_plain (suc n) = ap suc (length_plain n)

pub length_prefix : (q : ℕ) (ls : List Letter) → length (prefix q ls) ≡ length ls
length_prefix zero ls = length_plain (length ls)
length_prefix (suc q) [] = refl
length_prefix (suc q) (a ∷ as') = ap suc (length_prefix q as')

pub prefix_whole : (ls : List Letter) → prefix (length ls) ls ≡ ls
prefix_whole [] = refl
prefix_whole (a ∷ as') = ap (λ (ls : List Letter). a ∷ ls) (prefix_whole as')

right_product : (a : Letter) → letter_product a I ≡ a
right_product I = refl
right_product X = refl
right_product Y = refl
right_product Z = refl

right_phase : (a : Letter) → letter_phase a I ≡ 0
right_phase I = refl
right_phase X = refl
right_phase Y = refl
right_phase Z = refl

right_clash : (a : Letter) → letters_clash a I ≡ false
right_clash I = refl
right_clash X = refl
right_clash Y = refl
right_clash Z = refl

plain_product : (n : ℕ) → letters_product (replicate n I) (replicate n I) ≡ replicate n I
plain_product zero = refl
plain_product (suc n) = ap (λ (ls : List Letter). I ∷ ls) (plain_product n)

plain_phase : (n : ℕ) → letters_phase (replicate n I) (replicate n I) ≡ 0
plain_phase zero = refl
plain_phase (suc n) = omega (arith, plain_phase n)

pub plain_clashes : (ls : List Letter) (n : ℕ) → clashes ls (replicate n I) ≡ 0
plain_clashes [] n = refl
plain_clashes (a ∷ as') zero = refl
plain_clashes (a ∷ as') (suc n) = rw right_clash (omega (arith, plain_clashes as' n))

-- ---- one more letter
joined_letters : (q : ℕ) (ls : List Letter) → q < length ls → letters_product (prefix q ls) (set (replicate (length ls) I) q (get_or ls q I)) ≡ prefix (suc q) ls
joined_letters q [] h = absurd (omega arith)
joined_letters zero (a ∷ as') h = ap (λ (ls : List Letter). a ∷ ls) (plain_product (length as'))
joined_letters (suc q) (a ∷ as') h = ap₂ ◌∷◌ (right_product a) (joined_letters q as' (omega arith))

joined_phase : (q : ℕ) (ls : List Letter) (l : Letter) → letters_phase (prefix q ls) (set (replicate (length ls) I) q l) ≡ 0
joined_phase zero [] l = refl
joined_phase (suc q) [] l = refl
joined_phase zero (a ∷ as') l = omega (arith, plain_phase (length as'))
joined_phase (suc q) (a ∷ as') l = omega (arith, right_phase a, joined_phase q as' l)

joined_clashes : (q : ℕ) (ls : List Letter) (l : Letter) → clashes (prefix q ls) (set (replicate (length ls) I) q l) ≡ 0
joined_clashes zero [] l = refl
joined_clashes (suc q) [] l = refl
joined_clashes zero (a ∷ as') l = omega (arith, plain_clashes (replicate (length as') I) (length as'))
joined_clashes (suc q) (a ∷ as') l = rw right_clash (omega (arith, joined_clashes q as' l))

same_prefix : (q : ℕ) (ls : List Letter) → get_or ls q I ≡ I → prefix q ls ≡ prefix (suc q) ls
same_prefix zero [] e = refl
same_prefix (suc q) [] e = refl
same_prefix zero (a ∷ as') e = ap (λ (l : Letter). l ∷ replicate (length as') I) (sym e)
same_prefix (suc q) (a ∷ as') e = ap (λ (ls : List Letter). a ∷ ls) (same_prefix q as' e)

-- letters that are I change nothing
pub prefix_skips : (a b : ℕ) (ls : List Letter) → a ≤ b → ((k : ℕ) → a ≤ k → k < b → get_or ls k I ≡ I) → prefix a ls ≡ prefix b ls
prefix_skips zero zero ls h plain = refl
prefix_skips zero (suc b) [] h plain = refl
prefix_skips zero (suc b) (l ∷ ls) h plain =
    ap₂ ◌∷◌ (sym (plain 0 (omega arith) (omega arith))) (prefix_skips zero b ls (omega arith) (λ k from below. plain (suc k) (omega arith) (omega arith)))
prefix_skips (suc a) zero ls h plain = absurd (omega arith)
prefix_skips (suc a) (suc b) [] h plain = refl
prefix_skips (suc a) (suc b) (l ∷ ls) h plain =
    ap (λ (ls : List Letter). l ∷ ls) (prefix_skips a b ls (omega arith) (λ k from below. plain (suc k) (omega arith) (omega arith)))

-- ---- one letter alone
pub length_alone : (n q : ℕ) (l : Letter) → OfLength n (alone n q l)
length_alone zero q l = refl
length_alone (suc n) zero l = ap suc (length_plain n)
length_alone (suc n) (suc q) l = ap suc (length_alone n q l)

y_letters : (n q : ℕ) → q < n → letters_product (set (replicate n I) q X) (set (replicate n I) q Z) ≡ set (replicate n I) q Y
y_letters zero q h = absurd (omega arith)
y_letters (suc n) zero h = ap (λ (ls : List Letter). Y ∷ ls) (plain_product n)
y_letters (suc n) (suc q) h = ap (λ (ls : List Letter). I ∷ ls) (y_letters n q (omega arith))

y_phase : (n q : ℕ) → q < n → letters_phase (set (replicate n I) q X) (set (replicate n I) q Z) ≡ 3
y_phase zero q h = absurd (omega arith)
y_phase (suc n) zero h = omega (arith, plain_phase n)
y_phase (suc n) (suc q) h = omega (arith, y_phase n q (omega arith))

y_clashes : (n q : ℕ) → q < n → clashes (set (replicate n I) q X) (set (replicate n I) q Z) ≡ 1
y_clashes zero q h = absurd (omega arith)
y_clashes (suc n) zero h = omega (arith, plain_clashes (replicate n I) n)
y_clashes (suc n) (suc q) h = omega (arith, y_clashes n q (omega arith))

-- X and Z of one qubit anticommute, and i X Z is Y
x_z_clash : (n q : ℕ) → q < n → commute (alone n q X) (alone n q Z) ≡ false
x_z_clash n q h = clashes_odd (alone n q X) (alone n q Z) (ap (λ k. k % 2) (y_clashes n q h))

y_is : (n q : ℕ) → q < n → i_times (alone n q X) (alone n q Z) ≡ alone n q Y
y_is n q h = let power = y_phase n q h in let letters = y_letters n q h in λ i. record { sign = (1 + (0 + 0 + power i) % 4) % 4 == 2; letters = letters i }

-- what has I at a qubit commutes with a letter there
alone_clashes : (ls : List Letter) (q : ℕ) (l : Letter) → get_or ls q I ≡ I → clashes ls (set (replicate (length ls) I) q l) ≡ 0
alone_clashes [] q l e = refl
alone_clashes (a ∷ as') zero l e = rw e (omega (arith, plain_clashes as' (length as')))
alone_clashes (a ∷ as') (suc q) l e = rw right_clash (omega (arith, alone_clashes as' q l e))

pub commute_alone : (n : ℕ) (p : Signed) (q : ℕ) (l : Letter) → OfLength n p → get_or p.letters q I ≡ I → commute p (alone n q l) ≡ true
commute_alone n p q l e h =
    clashes_even p (alone n q l) (ap (λ m. clashes p.letters (set (replicate m I) q l) % 2) (sym e) ∙ ap (λ k. k % 2) (alone_clashes p.letters q l h))

-- ---- images
-- I .. I is its own image
pub carry_plain : (ts : List Turn) (n : ℕ) → carry ts (plus (replicate n I)) ≡ plus (replicate n I)
carry_plain [] n = refl
carry_plain (t ∷ ts) n =
    let idle = clashes_even t.axis (plus (replicate n I)) (ap (λ k. k % 2) (plain_clashes t.axis.letters n)) in
    ap (carry ts) (conj_idle t.axis t.angle (plus (replicate n I)) idle) ∙ carry_plain ts n

module _ (n : ℕ) (ts : List Turn) (long : TurnsOfLength n ts) (ls : List Letter) (size : length ls ≡ n) (q : ℕ) (within : q < n) where
  before : Signed
  before = plus (prefix q ls)

  before_long : OfLength n (plus (prefix q ls))
  before_long = length_prefix q ls ∙ size

  -- a letter joins the ones before it
  joined : (l : Letter) → get_or ls q I ≡ l → carry ts (plus (prefix (suc q) ls)) ≡ real_product (carry ts (plus (prefix q ls))) (carry ts (alone n q l))
  joined l e =
      let letters : letters_product (prefix q ls) (set (replicate n I) q l) ≡ prefix (suc q) ls =
      ap₂ (λ m (a : Letter). letters_product (prefix q ls) (set (replicate m I) q a)) (sym size) (sym e) ∙ joined_letters q ls (omega arith) in
      let power : letters_phase (prefix q ls) (set (replicate n I) q l) ≡ 0 = ap (λ m. letters_phase (prefix q ls) (set (replicate m I) q l)) (sym size) ∙ joined_phase q ls l in
      let even : clashes (prefix q ls) (set (replicate n I) q l) ≡ 0 = ap (λ m. clashes (prefix q ls) (set (replicate m I) q l)) (sym size) ∙ joined_clashes q ls l in
      let whole : plus (prefix (suc q) ls) ≡ real_product (plus (prefix q ls)) (alone n q l) =
      λ i. record { sign = (0 + 0 + sym power i) % 4 == 2; letters = sym letters i } in
      ap (carry ts) whole
      ∙ carry_real n ts (plus (prefix q ls)) (alone n q l) long before_long (length_alone n q l) (clashes_even (plus (prefix q ls)) (alone n q l) (ap (λ k. k % 2) even))

  pub next_letter : (l : Letter) → get_or ls q I ≡ l → times_letter l (carry ts (alone n q X)) (carry ts (alone n q Z)) (carry ts (plus (prefix q ls))) ≡ carry ts (plus (prefix (suc q) ls))
  next_letter I e = ap (λ (ms : List Letter). carry ts (plus ms)) (same_prefix q ls e)
  next_letter X e = sym (joined X e)
  next_letter Z e = sym (joined Z e)
  next_letter Y e =
      let ax = alone n q X in
      let az = alone n q Z in
      let lx = length_alone n q X in
      let lz = length_alone n q Z in
      let lp = carry_length n ts (plus (prefix q ls)) long before_long in
      let clash = x_z_clash n q within in
      let y : i_times (carry ts ax) (carry ts az) ≡ carry ts (alone n q Y) = sym (carry_i_times n ts ax az long lx lz clash) ∙ ap (carry ts) (y_is n q within) in
      sym (real_of_three n (carry ts (plus (prefix q ls))) (carry ts ax) (carry ts az) lp (carry_length n ts ax long lx) (carry_length n ts az long lz) (carry_commuting n ts ax az long lx lz ∙ clash))
      ∙ ap (real_product (carry ts (plus (prefix q ls)))) y
      ∙ sym (joined Y e)
