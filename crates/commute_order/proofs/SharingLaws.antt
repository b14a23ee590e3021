-- Marks of pairs of products that share a bit.
use Rattle.std.proofs.Common.{◌≡◌, ◌≢◌, ℕ, ◌+◌, ◌==◌, ◌<◌, ◌≤◌, max, min, Bool, true, false, not, ◌&&◌, ◌||◌, inl, inr, ◌⊎◌, nat_lt, nat_le, Option, Some, None, All, Contains, List, [], ◌∷◌, ◌++◌, length, take, get_or, set, refl, ap, ap₂, sym, ◌∙◌, arith, subst, get_or-set_same, get_or-set_other, eq-eqb, length-take}
use Rattle.std.proofs.lemmas.Bool.{cases_Bool, eqb-false, eqb-true}
use Rattle.std.proofs.lemmas.Bool.Decides.{nat_tests}
use Rattle.std.proofs.lemmas.List.{take_more, length-set}
use Rattle.std.proofs.lemmas.List.Elements.{Contains-push_cases}
use Rattle.pauli_product.specs.Signed.{Signed, plus, commute}
use Rattle.commute_order.specs.declared.Uses.{Uses}
use Rattle.commute_order.specs.declared.sharing.Writer.{Writer}
use Rattle.commute_order.specs.Commuting.{reads_from, commuting_at}
use Rattle.commute_order.specs.inside.Commuting.{reads_bit}
use Rattle.commute_order.specs.Sharing.{mark}
use Rattle.commute_order.specs.inside.Sharing.{ListsWriters, shares_bit, IsTriangle, pair_with}

or_true : (a b : Bool) → b ≡ true → true ≡ (a || b)
or_true a b e = grind arith

or_false : (a b : Bool) → b ≡ false → a ≡ (a || b)
or_false a b e = grind arith

and_true : (a b : Bool) → (a && b) ≡ true → (a ≡ true) × (b ≡ true)
and_true a b e = (grind arith, grind arith)

or_second : (a b : Bool) → a ≡ false → (a || b) ≡ true → b ≡ true
or_second a b e f = grind arith

clashing : (b : Bool) → b ≡ true → b ≡ false → ⊥
clashing b e f = grind arith

-- ---- one pair
-- the rows with one more mark
abbrev pub with_mark : List (List Bool) → ℕ → ℕ → List (List Bool)
with_mark rows p j = set rows p (set (get_or rows p []) j true)

module _ (rows : List (List Bool)) (h l : ℕ) (within : h < length rows) (long : l < length (get_or rows h [])) where
  row_there : (p : ℕ) → p ≡ h → get_or (with_mark rows h l) p [] ≡ set (get_or rows h []) l true
  row_there p e = ap (λ q. get_or (with_mark rows h l) q []) e ∙ get_or-set_same rows h (set (get_or rows h []) l true) [] within

  pub mark_there : (p j : ℕ) → p ≡ h → j ≡ l → mark (with_mark rows h l) p j ≡ true
  mark_there p j e f = (λ i. get_or (row_there p e i) (f i) false) ∙ get_or-set_same (get_or rows h []) l true false long

  pub mark_elsewhere : (p j : ℕ) → (p ≡ h → j ≡ l → ⊥) → mark (with_mark rows h l) p j ≡ mark rows p j
  mark_elsewhere p j apart = elim (cases_Bool (p == h)) [
    | inl same ↦
        let e : p ≡ h = eqb-true _ _ same in
        ap (λ (r : List Bool). get_or r j false) (row_there p e)
        ∙ get_or-set_other (get_or rows h []) l j true false (apart e)
        ∙ ap (λ q. get_or (get_or rows q []) j false) (sym e)
    | inr other ↦ ap (λ (r : List Bool). get_or r j false) (get_or-set_other rows h p (set (get_or rows h []) l true) [] (eqb-false _ _ other))
  ]

  pub same_length : (p : ℕ) → length (get_or (with_mark rows h l) p []) ≡ length (get_or rows p [])
  same_length p = elim (cases_Bool (p == h)) [
    | inl same ↦
        let e : p ≡ h = eqb-true _ _ same in
        ap length (row_there p e) ∙ length-set (get_or rows h []) l true ∙ ap (λ q. length (get_or rows q [])) (sym e)
    | inr other ↦ ap length (get_or-set_other rows h p (set (get_or rows h []) l true) [] (eqb-false _ _ other))
  ]

-- ---- a run of writers
-- the rows once the first k of the writers were looked at
pub record MarkedWith (r : ℕ) (writers : List Writer) (k : ℕ) (was now : List (List Bool)) : Type 0 where
  pub size : length now ≡ length was
  pub long : IsTriangle now
  pub done : (w : Writer) → Contains (take k writers) w → mark now (max r w.product) (min r w.product) ≡ true
  pub rest : (test : ℕ → Bool) (p j : ℕ) → All (λ w. test w.product ≡ true) writers → (mark now p j || pair_with test r p j) ≡ (mark was p j || pair_with test r p j)

pub none_marked : (r : ℕ) (writers : List Writer) (rows : List (List Bool)) → IsTriangle rows → MarkedWith r writers 0 rows rows
none_marked r writers rows long = record {
  size = refl;
  long = long;
  done = λ w h. absurd (omega (arith, h.1, length-take 0 writers));
  rest = λ test p j h. refl;
}

-- a pair of r and x, where x passes the test
pair_true : (test : ℕ → Bool) (r x p j : ℕ) → test x ≡ true → p ≡ max r x → j ≡ min r x → pair_with test r p j ≡ true
pair_true test r x p j t e f = elim (cases_Bool (nat_le r x)) [
  | inl low ↦ first (low_is low)
  | inr high ↦ second (high_is high)
]
  where
    low_is : nat_le r x ≡ true → r ≤ x
    low_is h = grind (arith, nat_tests)

    high_is : nat_le r x ≡ false → x < r
    high_is h = grind (arith, nat_tests)

    left : (b c : Bool) → b ≡ true → c ≡ true → (a : Bool) → ((b && c) || a) ≡ true
    left b c h k a = grind arith

    right : (b c : Bool) → b ≡ true → c ≡ true → (a : Bool) → (a || (b && c)) ≡ true
    right b c h k a = grind arith

    first : r ≤ x → pair_with test r p j ≡ true
    first h =
        let at : p ≡ x = omega arith in
        let own : j ≡ r = omega arith in
        left (j == r) (test p) (eq-eqb j r own) (ap test at ∙ t) ((p == r) && test j)

    second : x < r → pair_with test r p j ≡ true
    second h =
        let at : j ≡ x = omega arith in
        let own : p ≡ r = omega arith in
        right (p == r) (test j) (eq-eqb p r own) (ap test at ∙ t) ((j == r) && test p)

either_true : (a b c : Bool) → c ≡ true → (a || c) ≡ (b || c)
either_true a b c e = grind arith

both_eq : (a b c d : ℕ) → ((a == b) && (c == d)) ≡ true → (a ≡ b) × (c ≡ d)
both_eq a b c d h = (grind (arith, nat_tests), grind (arith, nat_tests))

not_both : (a b c d : ℕ) → ((a == b) && (c == d)) ≡ false → a ≡ b → c ≡ d → ⊥
not_both a b c d h e f = grind (arith, nat_tests)

module _ (r : ℕ) (writers : List Writer) (k h l : ℕ) (was now : List (List Bool)) (w : Writer) (m : MarkedWith r writers k was now) (inside : k < length writers) (at : get_or writers k w ≡ w)
    (here : r < length now) (there : w.product < length now) (hi : h ≡ max r w.product) (lo : l ≡ min r w.product) where
  high : h < length now
  high = omega arith

  low : l < length (get_or now h [])
  low = omega (arith, m.long h high)

  one_more : (v : Writer) → Contains (take (k + 1) writers) v → Contains (take k writers) v ⊎ (w ≡ v)
  one_more v c = Contains-push_cases (take k writers) w v (subst (λ (ws : List Writer). Contains ws v) (take_more writers k w inside ∙ ap (λ u. take k writers ++ u ∷ []) at) c)

  still : (p j : ℕ) → mark now p j ≡ true → mark (with_mark now h l) p j ≡ true
  still p j t = elim (cases_Bool ((p == h) && (j == l))) [
    | inl same ↦ let both = both_eq p h j l same in mark_there now h l high low p j both.0 both.1
    | inr other ↦ mark_elsewhere now h l high low p j (not_both p h j l other) ∙ t
  ]

  pub marked_more : MarkedWith r writers (k + 1) was (with_mark now h l)
  marked_more = record {
    size = length-set now h (set (get_or now h []) l true) ∙ m.size;
    long = λ p q. same_length now h l high low p ∙ m.long p (omega (arith, length-set now h (set (get_or now h []) l true)));
    done = λ v c. elim (one_more v c) [
      | inl before ↦ still (max r v.product) (min r v.product) (m.done v before)
      | inr e ↦ mark_there now h l high low (max r v.product) (min r v.product) (ap (λ u. max r u.product) (sym e) ∙ sym hi) (ap (λ u. min r u.product) (sym e) ∙ sym lo)
    ];
    rest = λ test p j all. elim (cases_Bool ((p == h) && (j == l))) [
      | inl same ↦
          let both = both_eq p h j l same in
          either_true (mark (with_mark now h l) p j) (mark now p j) (pair_with test r p j) (pair_true test r w.product p j (ap (λ u. test u.product) (sym at) ∙ all k w inside) (both.0 ∙ hi) (both.1 ∙ lo))
          ∙ m.rest test p j all
      | inr other ↦ ap (λ b. b || pair_with test r p j) (mark_elsewhere now h l high low p j (not_both p h j l other)) ∙ m.rest test p j all
    ];
  }

-- ---- one reader
module _ (us : List Uses) (r : ℕ) (writers read : List Writer) (was now : List (List Bool)) (d : Uses)
    (list : ListsWriters us (length us) writers)
    (each : (w : Writer) → Contains writers w → reads_bit (get_or us r d) (Some w.bit) ≡ true → Contains read w)
    (marked : (w : Writer) → Contains read w → mark now (max r w.product) (min r w.product) ≡ true) where
  abbrev reads : ℕ → Bool
  reads k = reads_from (get_or us r d) (get_or us k d)

  found : (x : ℕ) (written : Option ℕ) → x < length us → (get_or us x d).write ≡ written → reads_bit (get_or us r d) written ≡ true → mark now (max r x) (min r x) ≡ true
  found x None h e t = absurd (clashing false t refl)
  found x (Some bit) h e t = marked (record { bit = bit; product = x }) (each (record { bit = bit; product = x }) (list.each x bit d h e) t)

  at_pair : (p j : ℕ) → j ≤ p → p < length us → pair_with reads r p j ≡ true → mark now p j ≡ true
  at_pair p j le h t = elim (cases_Bool ((j == r) && reads p)) [
    | inl first ↦
        let both = and_true (j == r) (reads p) first in
        let own : j ≡ r = eqb-true _ _ both.0 in
        let hi : max r p ≡ p = omega arith in
        let lo : min r p ≡ j = omega arith in
        (λ i. mark now (sym hi i) (sym lo i)) ∙ found p (get_or us p d).write h refl both.1
    | inr other ↦
        let both = and_true (p == r) (reads j) (or_second ((j == r) && reads p) ((p == r) && reads j) other t) in
        let own : p ≡ r = eqb-true _ _ both.0 in
        let hi : max r j ≡ p = omega arith in
        let lo : min r j ≡ j = omega arith in
        let within : j < length us = omega arith in
        (λ i. mark now (sym hi i) (sym lo i)) ∙ found j (get_or us j d).write within refl both.1
  ]

  pub reader_marks : (p j : ℕ) → j ≤ p → p < length us → (mark now p j || pair_with reads r p j) ≡ (mark was p j || pair_with reads r p j) → mark now p j ≡ (mark was p j || pair_with reads r p j)
  reader_marks p j le h others = elim (cases_Bool (pair_with reads r p j)) [
    | inl pair ↦ at_pair p j le h pair ∙ or_true (mark was p j) (pair_with reads r p j) pair
    | inr apart ↦ or_false (mark now p j) (pair_with reads r p j) apart ∙ others
  ]

-- ---- the first k readers
-- one of j and p is among the first k, and reads the bit that the other writes
abbrev pub shared_by : List Uses → Uses → ℕ → ℕ → ℕ → Bool
shared_by us d k p j = (nat_lt j k && reads_from (get_or us j d) (get_or us p d)) || (nat_lt p k && reads_from (get_or us p d) (get_or us j d))

next : (j k : ℕ) (a b : Bool) → (j ≡ k → a ≡ b) → ((nat_lt j k && b) || ((j == k) && a)) ≡ (nat_lt j (k + 1) && b)
next j k a b e = elim (cases_Bool (j == k)) [
  | inl same ↦ at (eqb-true _ _ same)
  | inr other ↦ apart (eqb-false _ _ other)
]
  where
    tests : (x y z : Bool) (a b : Bool) → x ≡ false → y ≡ true → z ≡ true → a ≡ b → ((x && b) || (y && a)) ≡ (z && b)
    tests x y z a b f g h e = grind arith

    others : (x y z : Bool) (a b : Bool) → y ≡ false → x ≡ z → ((x && b) || (y && a)) ≡ (z && b)
    others x y z a b g h = grind arith

    at : j ≡ k → ((nat_lt j k && b) || ((j == k) && a)) ≡ (nat_lt j (k + 1) && b)
    at f = tests (nat_lt j k) (j == k) (nat_lt j (k + 1)) a b (grind (arith, nat_tests)) (grind (arith, nat_tests)) (grind (arith, nat_tests)) (e f)

    apart : j ≢ k → ((nat_lt j k && b) || ((j == k) && a)) ≡ (nat_lt j (k + 1) && b)
    apart ne = others (nat_lt j k) (j == k) (nat_lt j (k + 1)) a b (grind (arith, nat_tests)) (grind (arith, nat_tests))

pub next_reader : (us : List Uses) (d : Uses) (k p j : ℕ) → (shared_by us d k p j || pair_with (λ x. reads_from (get_or us k d) (get_or us x d)) k p j) ≡ shared_by us d (k + 1) p j
next_reader us d k p j =
    let u : ℕ → Uses = λ x. get_or us x d in
    regroup (nat_lt j k && reads_from (u j) (u p)) (nat_lt p k && reads_from (u p) (u j)) ((j == k) && reads_from (u k) (u p)) ((p == k) && reads_from (u k) (u j))
    ∙ ap₂ ◌||◌ (next j k (reads_from (u k) (u p)) (reads_from (u j) (u p)) (λ e. ap (λ x. reads_from (u x) (u p)) (sym e))) (next p k (reads_from (u k) (u j)) (reads_from (u p) (u j)) (λ e. ap (λ x. reads_from (u x) (u j)) (sym e)))
  where
    regroup : (a b c d : Bool) → ((a || b) || (c || d)) ≡ ((a || c) || (b || d))
    regroup a b c d = grind arith

pub more_marks : (us : List Uses) (d : Uses) (k p j : ℕ) (was now new : Bool) → now ≡ (was || shared_by us d k p j) → new ≡ (now || pair_with (λ x. reads_from (get_or us k d) (get_or us x d)) k p j) → new ≡ (was || shared_by us d (k + 1) p j)
more_marks us d k p j was now new e f =
    let hit = pair_with (λ x. reads_from (get_or us k d) (get_or us x d)) k p j in
    f ∙ ap (λ b. b || hit) e ∙ regroup was (shared_by us d k p j) hit ∙ ap (λ b. was || b) (next_reader us d k p j)
  where
    regroup : (a b c : Bool) → ((a || b) || c) ≡ (a || (b || c))
    regroup a b c = grind arith

pub no_reader : (us : List Uses) (d : Uses) (p j : ℕ) (b : Bool) → b ≡ (b || shared_by us d 0 p j)
no_reader us d p j b = or_false b (shared_by us d 0 p j) (none (nat_lt j 0) (nat_lt p 0) (reads_from (get_or us j d) (get_or us p d)) (reads_from (get_or us p d) (get_or us j d)) (grind (arith, nat_tests)) (grind (arith, nat_tests)))
  where
    none : (x y a b : Bool) → x ≡ false → y ≡ false → ((x && a) || (y && b)) ≡ false
    none x y a b e f = grind arith

pub all_readers : (us : List Uses) (d : Uses) (k p j : ℕ) → j < k → p < k → shared_by us d k p j ≡ shares_bit (get_or us j d) (get_or us p d)
unfolding shares_bit
all_readers us d k p j h l = all (nat_lt j k) (nat_lt p k) (reads_from (get_or us j d) (get_or us p d)) (reads_from (get_or us p d) (get_or us j d)) (grind (arith, nat_tests)) (grind (arith, nat_tests))
  where
    all : (x y a b : Bool) → x ≡ true → y ≡ true → ((x && a) || (y && b)) ≡ (a || b)
    all x y a b e f = grind arith

-- ---- a row's mark, from its two parts
abbrev pub no_uses : Uses
no_uses = record { read_first = 0; read_size = 0; write = None }

pub row_mark : (ps : List Signed) (us : List Uses) (j p : ℕ) → (not (commute (get_or ps j (plus [])) (get_or ps p (plus []))) || shares_bit (get_or us j no_uses) (get_or us p no_uses)) ≡ not (commuting_at ps us j p)
unfolding commuting_at shares_bit
row_mark ps us j p = parts (commute (get_or ps j (plus [])) (get_or ps p (plus []))) (reads_from (get_or us j no_uses) (get_or us p no_uses)) (reads_from (get_or us p no_uses) (get_or us j no_uses))
  where
    parts : (c a b : Bool) → (not c || (a || b)) ≡ not (c && not a && not b)
    parts c a b = grind arith
