-- The sides that are asked for against the touches, side by side.
use Rattle.std.proofs.Common.{◌≡◌, ◌≢◌, ℕ, zero, suc, ◌+◌, ◌-◌, ◌*◌, ◌<◌, ◌≤◌, ◌↔◌, inl, inr, length, slice_get, drop, Option, Some, None, List, [], ◌∷◌, ◌++◌, refl, sym, subst, arith, IsTrue, IfNone, Bool, true, false, length-append}
use Rattle.std.proofs.lemmas.Option.{slice_get_within}
use Rattle.std.proofs.lemmas.List.{append-nil}
use Rattle.std.proofs.Math.ListN.{drop_of_length-le}
use Rattle.std.proofs.lemmas.Bool.{cases_lt, false≢true}
use Rattle.pauli_product.specs.declared.Letter.{Letter}
use Rattle.pauli_product.specs.declared.Letter.TheVariants as letter
use Rattle.pauli_product.specs.Signed.{Signed}
use Rattle.patch_layout.specs.declared.layout.Side.{Side}
use Rattle.patch_layout.specs.Grid.{Grid, IsPatch, Sound}
use Rattle.patch_layout.specs.Region.{Fit, OnSide, sides_of, sides_from, port_side, wanted_sides}
use Rattle.patch_layout.specs.declared.plan.Fault.{Fault}
use Rattle.patch_layout.specs.Certificate.{TouchFits, LetterPatched, Patched, Case, Checked}
use Rattle.patch_layout.specs.inside.Certificate.{TouchAt, BadFrom, Judged}
use Rattle.patch_layout.specs.declared.plan.Parent.{Parent}
use Rattle.patch_layout.specs.Case.{case}
use Rattle.patch_layout.proofs.Fits.{certified_fits}
use Rattle.patch_layout.proofs.Places.{same_entry, get_below, get_kept}
use Rattle.patch_layout.proofs.Rows.{get_front, get_back}
use Rattle.patch_layout.proofs.Asked.{asked_more, drop_get}

-- one side
pub one_fits : (g : Grid) (cells touches : List ℕ) (k : ℕ) (s : Side) → TouchAt g cells touches k s → BadFrom g cells touches k (s ∷ []) None
one_fits g cells touches k s fits zero t is =
    let same : s ≡ t = grind arith in
    let z : k ≡ k + 0 = omega arith in
    let P : ℕ → Type 0 = λ n. TouchAt g cells touches n t in
    let Q : Side → Type 0 = λ x. TouchAt g cells touches k x in
    subst P z (subst Q same fits)
one_fits g cells touches k s fits (suc i) t is = absurd (cc)

pub one_bad : (g : Grid) (cells touches : List ℕ) (k : ℕ) (s : Side) → (TouchAt g cells touches k s → ⊥) → BadFrom g cells touches k (s ∷ []) (Some k)
one_bad g cells touches k s bad = (0, s, omega arith, refl, bad, λ j t lt is. absurd (omega arith))

-- after sides whose touches fit
pub none_later : (g : Grid) (cells touches : List ℕ) (k n : ℕ) (xs ys : List Side) → BadFrom g cells touches k xs None → n ≡ k + length xs → BadFrom g cells touches n ys None → BadFrom g cells touches k (xs ++ ys) None
none_later g cells touches k n xs ys fits e more i s is = elim (cases_lt i (length xs)) [
  | inl lt ↦ fits i s (let f = get_front xs ys i lt in cc)
  | inr ge ↦
      let j = i - length xs in
      let at' : length xs + j ≡ i = omega arith in
      let P : ℕ → Type 0 = λ m. slice_get (xs ++ ys) m ≡ Some s in
      let b = get_back xs ys j in
      let h : slice_get (xs ++ ys) (length xs + j) ≡ Some s = subst P (sym at') is in
      let Q : ℕ → Type 0 = λ m. TouchAt g cells touches m s in
      let z : n + j ≡ k + i = omega arith in
      subst Q z (more j s (cc))
]

pub some_later : (g : Grid) (cells touches : List ℕ) (k n bad : ℕ) (xs ys : List Side) → BadFrom g cells touches k xs None → n ≡ k + length xs → BadFrom g cells touches n ys (Some bad) → BadFrom g cells touches k (xs ++ ys) (Some bad)
some_later g cells touches k n bad xs ys fits e (i, s, at', is, not-on, before) = (
  length xs + i,
  s,
  omega (arith, at'),
  let b = get_back xs ys i in cc,
  not-on,
  λ j t lt has. elim (cases_lt j (length xs)) [
    | inl in' ↦ fits j t (let f = get_front xs ys j in' in cc)
    | inr ge ↦
        let m = j - length xs in
        let place : length xs + m ≡ j = omega arith in
        let P : ℕ → Type 0 = λ x. slice_get (xs ++ ys) x ≡ Some t in
        let b = get_back xs ys m in
        let h : slice_get (xs ++ ys) (length xs + m) ≡ Some t = subst P (sym place) has in
        let Q : ℕ → Type 0 = λ x. TouchAt g cells touches x t in
        let z : n + m ≡ k + j = omega arith in
        subst Q z (before m t (omega arith) (cc))
  ],
)

-- more sides after the first bad one
pub some_kept : (g : Grid) (cells touches : List ℕ) (k bad : ℕ) (xs ys : List Side) → BadFrom g cells touches k xs (Some bad) → BadFrom g cells touches k (xs ++ ys) (Some bad)
some_kept g cells touches k bad xs ys (i, s, at', is, not-on, before) =
    let in' : i < length xs = slice_get_within xs i s is in
    (i, s, at', get_kept xs ys i s is, not-on, λ j t lt has. before j t lt (let f = get_front xs ys j (let w : j < length xs = omega arith in w) in cc))

-- the sides up to a qubit, whose touches fit
pub record UpTo (g : Grid) (cells touches : List ℕ) (letters : List Letter) (q place : ℕ) : Type 0 where
  pub before : List Side
  pub size : place ≡ length before
  pub few : place ≤ 2 * q
  pub split : sides_from 0 letters ≡ before ++ sides_from q (drop q letters)
  pub fits : BadFrom g cells touches 0 before None

pub up_to_more : (g : Grid) (cells touches : List ℕ) (letters : List Letter) (q place n : ℕ) (l : Letter) → UpTo g cells touches letters q place → slice_get letters q ≡ Some l
    → BadFrom g cells touches place (sides_of q l) None → n ≡ length (sides_of q l) → n ≤ 2 → UpTo g cells touches letters (q + 1) (place + n)
up_to_more g cells touches letters q place n l u is fits size few = record {
  before = u.before ++ sides_of q l;
  size = omega (arith, u.size, length-append u.before (sides_of q l));
  few = omega (arith, u.few);
  split = asked_more letters q l u.before (u.before ++ sides_of q l) u.split is refl;
  fits = none_later g cells touches 0 place u.before (sides_of q l) u.fits (omega (arith, u.size)) fits;
}

pub bad_letter : (g : Grid) (cells touches : List ℕ) (axis : Signed) (port : Option ℕ) (q place bad : ℕ) (l : Letter) → UpTo g cells touches axis.letters q place → slice_get axis.letters q ≡ Some l
    → BadFrom g cells touches place (sides_of q l) (Some bad) → BadFrom g cells touches 0 (wanted_sides axis port) (Some bad)
bad_letter g cells touches axis port q place bad l u is found =
    let rest = sides_from (q + 1) (drop (q + 1) axis.letters) in
    let e : sides_from 0 axis.letters ≡ (u.before ++ sides_of q l) ++ rest = asked_more axis.letters q l u.before (u.before ++ sides_of q l) u.split is refl in
    let one = some_later g cells touches 0 place bad u.before (sides_of q l) u.fits (omega (arith, u.size)) found in
    let two = some_kept g cells touches 0 bad (u.before ++ sides_of q l) rest one in
    let P : List Side → Type 0 = λ ss. BadFrom g cells touches 0 ss (Some bad) in
    some_kept g cells touches 0 bad (sides_from 0 axis.letters) (port_side port) (subst P (sym e) two)

-- all letters are done
pub letters_done : (g : Grid) (cells touches : List ℕ) (letters : List Letter) (q place : ℕ) → UpTo g cells touches letters q place → length letters ≤ q
    → (place ≡ length (sides_from 0 letters)) × BadFrom g cells touches 0 (sides_from 0 letters) None
letters_done g cells touches letters q place u end =
    let e : drop q letters ≡ [] = drop_of_length-le letters end in
    let P : List Letter → Type 0 = λ ls. sides_from 0 letters ≡ u.before ++ sides_from q ls in
    let f : sides_from 0 letters ≡ u.before ++ [] = subst P e u.split in
    let h : u.before ++ [] ≡ u.before = append-nil u.before in
    let same : u.before ≡ sides_from 0 letters = cc in
    let Q : List Side → Type 0 = λ ss. (place ≡ length ss) × BadFrom g cells touches 0 ss None in
    subst Q same (u.size, u.fits)

pub port_done : (g : Grid) (cells touches : List ℕ) (axis : Signed) (q place : ℕ) (port r : Option ℕ) → UpTo g cells touches axis.letters q place → length axis.letters ≤ q
    → BadFrom g cells touches place (port_side port) r → BadFrom g cells touches 0 (wanted_sides axis port) r
port_done g cells touches axis q place port None u end found =
    let d = letters_done g cells touches axis.letters q place u end in
    none_later g cells touches 0 place (sides_from 0 axis.letters) (port_side port) d.1 (omega (arith, d.0)) found
port_done g cells touches axis q place port (Some bad) u end found =
    let d = letters_done g cells touches axis.letters q place u end in
    some_later g cells touches 0 place bad (sides_from 0 axis.letters) (port_side port) d.1 (omega (arith, d.0)) found

-- what is first bad among the sides is what the rule of touches refuses
pub bad_judged : (g : Grid) (cells touches : List ℕ) (sides : List Side) (r : Option ℕ) → length touches ≡ length sides → BadFrom g cells touches 0 sides r → Judged (TouchFits g cells touches sides) (length touches) r
bad_judged g cells touches sides None size fits = λ k b.
    let (s, is) = get_below sides k (omega arith) in
    let z : 0 + k ≡ k = omega arith in
    let P : ℕ → Type 0 = λ n. TouchAt g cells touches n s in
    let (t, d, at-t, at-d, on) = subst P z (fits k s is) in
    (t, d, s, at-t, at-d, is, on)
bad_judged g cells touches sides (Some bad) size (i, s, at', is, not-on, before) =
    let same : i ≡ bad = omega (arith, at') in
    let in' : i < length sides = slice_get_within sides i s is in
    let P : ℕ → Type 0 = λ n. slice_get sides n ≡ Some s in
    let is-bad : slice_get sides bad ≡ Some s = subst P same is in (
      omega arith,
      λ k lt.
          let (t, has) = get_below sides k (omega arith) in
          let z : 0 + k ≡ k = omega arith in
          let Q : ℕ → Type 0 = λ n. TouchAt g cells touches n t in
          let (u, d, at-u, at-d, on) = subst Q z (before k t (omega arith) has) in
          (u, d, t, at-u, at-d, has, on),
      λ (t, d, u, at-t, at-d, has, on).
          let e : u ≡ s = same_entry sides bad u s has is-bad in
          let R : Side → Type 0 = λ x. OnSide g x d in
          not-on (t, d, at-t, at-d, subst R e on),
    )

-- patches at the first letters
abbrev pub PatchedTo : Grid → List Letter → ℕ → Type 0
PatchedTo g letters n = (q : ℕ) (l : Letter) → q < n → slice_get letters q ≡ Some l → LetterPatched g q l

pub patched_more : (g : Grid) (letters : List Letter) (n : ℕ) (l : Letter) → PatchedTo g letters n → slice_get letters n ≡ Some l → LetterPatched g n l → PatchedTo g letters (n + 1)
patched_more g letters n l all is here q m lt has other = elim (cases_lt q n) [
  | inl lt' ↦ all q m lt' has other
  | inr ge ↦
      let same : n ≡ q = omega arith in
      let P : ℕ → Type 0 = λ x. slice_get letters x ≡ Some m in
      let e : l ≡ m = same_entry letters n l m is (subst P (sym same) has) in
      let Q : Letter → Type 0 = λ x. x ≢ letter.I in
      let R : ℕ → Type 0 = λ x. (c : ℕ) × IsPatch g x c in
      subst R same (here (subst Q (sym e) other))
]

-- the sides of one letter less
pub count_more : (letters : List Letter) (q : ℕ) (l : Letter) → slice_get letters q ≡ Some l
    → length (sides_from q (drop q letters)) ≡ length (sides_of q l) + length (sides_from (q + 1) (drop (q + 1) letters))
count_more letters q l is =
    let P : List Letter → Type 0 = λ ls. length (sides_from q ls) ≡ length (sides_of q l) + length (sides_from (q + 1) (drop (q + 1) letters)) in
    let e : suc q ≡ q + 1 = omega arith in
    let Q : ℕ → Type 0 = λ n. length (sides_of q l ++ sides_from (q + 1) (drop (suc q) letters)) ≡ length (sides_of q l) + length (sides_from (q + 1) (drop n letters)) in
    subst P (sym (drop_get letters q l is)) (subst Q e (length-append (sides_of q l) (sides_from (q + 1) (drop (suc q) letters))))

pub patched_whole : (g : Grid) (letters : List Letter) (n : ℕ) → length letters ≤ n → PatchedTo g letters n → IsTrue true ↔ Patched g letters
patched_whole g letters n end all = (λ _ q l is. all q l (let w : q < length letters = slice_get_within letters q l is in omega arith) is, λ _. refl)

pub there_patched : (g : Grid) (q c : ℕ) (l : Letter) → IsPatch g q c → IsTrue true ↔ LetterPatched g q l
there_patched g q c l is = (λ _ other. (c, is), λ _. refl)

pub none_patched : (g : Grid) (q : ℕ) (l : Letter) → l ≢ letter.I → ((c : ℕ) → IsPatch g q c → ⊥) → IsTrue false ↔ LetterPatched g q l
none_patched g q l other none = (λ t. absurd (false≢true t), λ here. let (c, is) = here other in absurd (none c is))

-- the sides of a Y: the second where the first fits
pub second_side : (g : Grid) (cells touches : List ℕ) (k : ℕ) (l : Letter) (q : ℕ) (s t : Side) (r : Option ℕ) → sides_of q l ≡ s ∷ t ∷ [] → BadFrom g cells touches k (s ∷ []) None → BadFrom g cells touches (k + 1) (t ∷ []) r
    → BadFrom g cells touches k (sides_of q l) r
second_side g cells touches k l q s t None e fits more =
    let P : List Side → Type 0 = λ ss. BadFrom g cells touches k ss None in
    subst P (sym e) (none_later g cells touches k (k + 1) (s ∷ []) (t ∷ []) fits (omega arith) more)
second_side g cells touches k l q s t (Some bad) e fits more =
    let P : List Side → Type 0 = λ ss. BadFrom g cells touches k ss (Some bad) in
    subst P (sym e) (some_later g cells touches k (k + 1) bad (s ∷ []) (t ∷ []) fits (omega arith) more)

-- where no rule is broken the region fits
pub fits_unless : (c : Case) (r : Option Fault) → Sound c.grid → Checked c r → IfNone r (Fit c.grid c.axis c.port c.cells)
fits_unless c None sound whole = certified_fits c sound whole
fits_unless c (Some f) sound broken = tt

-- what is said of lists is said of the plan that has them
pub checked_lists : (g : Grid) (rotation : Bool) (axis : Signed) (port : Option ℕ) (xs cells : List ℕ) (ps parents : List Parent) (ts touches : List ℕ) (r : Option Fault) → xs ≡ cells → ps ≡ parents → ts ≡ touches
    → Checked (case g rotation axis port xs ps ts) r → Checked (case g rotation axis port cells parents touches) r
checked_lists g rotation axis port xs cells ps parents ts touches r e f h said =
    let P : List ℕ → Type 0 = λ x. Checked (case g rotation axis port x ps ts) r in
    let Q : List Parent → Type 0 = λ x. Checked (case g rotation axis port cells x ts) r in
    let R : List ℕ → Type 0 = λ x. Checked (case g rotation axis port cells parents x) r in
    subst R h (subst Q f (subst P e said))
