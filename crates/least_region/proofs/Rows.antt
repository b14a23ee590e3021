-- Rows of the table, one after another.
use Rattle.std.proofs.Common.{◌≡◌, ℕ, zero, suc, Bool, true, false, ◌+◌, ◌^◌, ◌<◌, ◌≤◌, inl, inr, length, replicate, slice_get, slice_set, Option, Some, None, List, [], ◌∷◌, ◌++◌, refl, sym, ◌∙◌, subst, arith, length-append}
use Rattle.std.proofs.lemmas.Nat.{and_comm, pow_pos}
use Rattle.std.proofs.Math.Pow.{pow-lt, pow_mono}
use Rattle.std.proofs.lemmas.Bool.{cases_lt}
use Rattle.std.proofs.lemmas.Option.{slice_get_within}
use Rattle.std.proofs.Math.ListN.{length-set, length-replicate}
use Rattle.patch_layout.specs.declared.layout.Side.{Side}
use Rattle.patch_layout.specs.Grid.{Grid}
use Rattle.patch_layout.specs.Region.{OnSide}
use Rattle.patch_layout.specs.Spread.{Marked, OnGoal}
use Rattle.patch_layout.proofs.Places.{get_kept, get_cases, get_set_cases, get_set_here, get_from_Contains, Contains_from_get, same_entry}
use Rattle.least_region.specs.inside.Table.{AtMost, Entry, IsBase, LeastRow, Table}
use Rattle.least_region.specs.inside.Growth.{Under, Keeps, Lowered, Spreads, HasRows, OnFree, MergedTo, Begun, first_sizes}
use Rattle.least_region.proofs.Lowering.{under_set}
use Rattle.least_region.proofs.Masks.{twice}

replicate_at : (n x c v : ℕ) → slice_get (replicate n x) c ≡ Some v → x ≡ v
replicate_at zero x c v e = absurd (cc)
replicate_at (suc n) x zero v e = let f : Some x ≡ Some v = e in grind arith
replicate_at (suc n) x (suc c) v e = replicate_at n x c v e

pub begun_start : (free : List Bool) (limit : ℕ) (pair : List (Option ℕ)) (row : List ℕ) → row ≡ replicate (length free) (limit + 1) → Begun free limit pair row 0
begun_start free limit pair row e =
    let at' = λ (c v : ℕ) (is : slice_get row c ≡ Some v). let P : List ℕ → Type 0 = λ r. slice_get r c ≡ Some v in replicate_at (length free) (limit + 1) c v (subst P e is) in
    record {
      sizes = rw e (length-replicate (length free) (limit + 1));
      some = λ c v is. let w = at' c v is in omega arith;
      base = λ i c lt. absurd (omega arith);
      made = λ c v is few. let w = at' c v is in absurd (omega arith);
    }

pub begun_past : (free : List Bool) (limit : ℕ) (pair : List (Option ℕ)) (row : List ℕ) (n : ℕ) → Begun free limit pair row n → slice_get pair n ≡ Some None → Begun free limit pair row (n + 1)
begun_past free limit pair row n b e =
    record {
      sizes = b.sizes;
      some = b.some;
      base = λ i c lt is free'. elim (cases_lt i n) [
        | inl lt' ↦ b.base i c lt' is free'
        | inr ge ↦ let same : i ≡ n = omega arith in let P : ℕ → Type 0 = λ y. slice_get pair y ≡ Some (Some c) in let f : slice_get pair n ≡ Some (Some c) = subst P same is in absurd (cc)
      ];
      made = b.made;
    }

pub begun_more : (free : List Bool) (limit : ℕ) (pair : List (Option ℕ)) (row queue after more : List ℕ) (n cell : ℕ) → Begun free limit pair row n → slice_get pair n ≡ Some (Some cell)
    → Lowered free cell 1 row queue after more → Begun free limit pair after (n + 1)
begun_more free limit pair row queue after more n cell b item lowered =
    let here = λ (i c : ℕ) (ge : n ≤ i) (lt : i < n + 1) (is : slice_get pair i ≡ Some (Some c)).
    let same : i ≡ n = omega arith in
    let P : ℕ → Type 0 = λ y. slice_get pair y ≡ Some (Some c) in
    let f : Some cell ≡ Some c = same_entry pair n (Some cell) (Some c) item (subst P same is) in
    let e : cell ≡ c = grind arith in e in
    let P : List ℕ → Type 0 = λ r. Begun free limit pair r (n + 1) in
    elim lowered [
      | inl (on-free, (v, is, lt), after-is, more-is) ↦
          let row' : List ℕ = slice_set row cell 1 in
          let under' : Under row row' = under_set row cell 1 v is (omega arith) in
          subst P (sym after-is) (record {
            sizes = omega (arith, length-set row cell 1, b.sizes);
            some = λ c w at'. elim (get_set_cases row cell 1 c w at') [
              | inl old ↦ b.some c w old
              | inr new ↦ let e = new.1 in omega arith
            ];
            base = λ i c lt' is' free'. elim (cases_lt i n) [
              | inl lt'' ↦ under' c 1 (b.base i c lt'' is' free')
              | inr ge ↦
                  let Q : ℕ → Type 0 = λ y. AtMost row' y 1 in
                  let q : Q cell = (1, get_set_here row cell 1 (slice_get_within row cell v is), omega arith) in
                  subst Q (here i c ge lt' is') q
            ];
            made = λ c w at' few. elim (get_set_cases row cell 1 c w at') [
              | inl old ↦ b.made c w old few
              | inr new ↦
                  let Q : ℕ → Type 0 = λ y. Marked free y × OnGoal pair y in
                  let q : Q c = subst Q (sym new.0) (on-free, Contains_from_get pair n (Some cell) item) in
                  (sym new.1, q.0, q.1)
            ];
          })
      | inr (least, after-is, more-is) ↦
          subst P (sym after-is) (record {
            sizes = b.sizes;
            some = b.some;
            base = λ i c lt' is' free'. elim (cases_lt i n) [
              | inl lt'' ↦ b.base i c lt'' is' free'
              | inr ge ↦ let Q : ℕ → Type 0 = λ y. Marked free y → AtMost row y 1 in subst Q (here i c ge lt' is') least free'
            ];
            made = b.made;
          })
    ]

-- a row after all its steps
pub next_least : (g : Grid) (free : List Bool) (limit : ℕ) (pair : List (Option ℕ)) (rows : List (List ℕ)) (m : ℕ) (one two three : List ℕ) → length free ≡ length g.sites → OnFree rows free limit → length two ≡ length one
    → Begun free limit pair one (length pair) → MergedTo rows m limit one two m → Keeps g free limit two three → Under two three → Spreads g free limit three → LeastRow g free limit (OnGoal pair) rows m three
next_least g free limit pair rows m one two three size on-free same-size b t keeps under spreads = (
  keeps pair rows m (record {
    sizes = omega (arith, b.sizes);
    some = t.some b.some;
    on_free = λ c v is few. elim (t.made c v is few) [
      | inl old ↦ (b.made c v old few).1
      | inr (a, b', x, y, parts, some-a, some-b, ex, ey, sum, x-few) ↦ on-free a c x ex x-few
    ];
    reason = λ c v is few. elim (t.made c v is few) [
      | inl old ↦ inl (b.made c v old few).2
      | inr (a, b', x, y, parts, some-a, some-b, ex, ey, sum, x-few) ↦ inr (inr (a, b', x, y, parts, some-a, some-b, ex, ey, omega arith))
    ];
  }),
  record {
    base = λ c on free'. let (i, is) = get_from_Contains pair (Some c) on in under c 1 (t.under c 1 (b.base i c (slice_get_within pair i (Some c) is) is free'));
    grown = spreads;
    united = λ a b' c x y n parts some-a some-b ex ey sum few. elim (cases_lt b' a) [
      | inr le ↦ under c n (t.least a b' c x y n (omega (arith, parts.0)) le parts some-a ex ey sum few)
      | inl gt ↦ under c n (t.least b' a c y x n (omega (arith, parts.0)) (omega arith) (omega (arith, parts.0), and_comm b' a ∙ parts.1) some-b ey ex (omega arith) few)
    ];
  },
)

entry_kept : (rows : List (List ℕ)) (row : List ℕ) (m c v : ℕ) → Entry rows m c v → Entry (rows ++ row ∷ []) m c v
entry_kept rows row m c v (r, is, at') = (r, get_kept rows (row ∷ []) m r is, at')

entry_old : (rows : List (List ℕ)) (row : List ℕ) (m c v : ℕ) → m < length rows → Entry (rows ++ row ∷ []) m c v → Entry rows m c v
entry_old rows row m c v lt (r, is, at') = elim (get_cases rows row m r is) [ inl old ↦ (r, old, at') | inr new ↦ absurd (let e = new.0 in omega arith) ]

-- one more row changes nothing for the others
least_kept : (g : Grid) (free : List Bool) (limit : ℕ) (Base : ℕ → Type 0) (rows : List (List ℕ)) (row : List ℕ) (m : ℕ) (r : List ℕ) → m ≤ length rows → LeastRow g free limit Base rows m r → LeastRow g free limit Base (rows ++ row ∷ []) m r
least_kept g free limit Base rows row m r le (s, k) = (
  record {
    sizes = s.sizes;
    some = s.some;
    on_free = s.on_free;
    reason = λ c v is few. elim (s.reason c v is few) [
      | inl base ↦ inl base
      | inr (inl grown) ↦ inr (inl grown)
      | inr (inr (a, b, x, y, parts, some-a, some-b, ex, ey, sum)) ↦ inr (inr (a, b, x, y, parts, some-a, some-b, entry_kept rows row a c x ex, entry_kept rows row b c y ey, sum))
    ];
  },
  record {
    base = k.base;
    grown = k.grown;
    united = λ a b c x y n parts some-a some-b ex ey sum few.
        k.united a b c x y n parts some-a some-b (entry_old rows row a c x (omega (arith, parts.0)) ex) (entry_old rows row b c y (omega (arith, parts.0)) ey) sum few;
  },
)

-- what alone touches the sides may be said in other words
least_based : (g : Grid) (free : List Bool) (limit : ℕ) (A B : ℕ → Type 0) (rows : List (List ℕ)) (m : ℕ) (r : List ℕ) → ((c : ℕ) → A c → B c) → ((c : ℕ) → B c → A c) → LeastRow g free limit A rows m r → LeastRow g free limit B rows m r
least_based g free limit A B rows m r to from (s, k) = (
  record {
    sizes = s.sizes;
    some = s.some;
    on_free = s.on_free;
    reason = λ c v is few. elim (s.reason c v is few) [ inl base ↦ inl (to c base) | inr more ↦ inr more ];
  },
  record { base = λ c b. k.base c (from c b); grown = k.grown; united = k.united },
)

table_more : (g : Grid) (free : List Bool) (limit : ℕ) (sides : List Side) (rows : List (List ℕ)) (row : List ℕ) → Table g free limit sides rows → LeastRow g free limit (IsBase g sides (length rows)) rows (length rows) row
    → Table g free limit sides (rows ++ row ∷ [])
table_more g free limit sides rows row t new m r is =
    elim (get_cases rows row m r is) [
      | inl old ↦ least_kept g free limit (IsBase g sides m) rows row m r (let w = slice_get_within rows m r old in omega arith) (t m r old)
      | inr (at', same) ↦
          let P : ℕ → Type 0 = λ y. LeastRow g free limit (IsBase g sides y) (rows ++ row ∷ []) y r in
          let Q : List ℕ → Type 0 = λ z. LeastRow g free limit (IsBase g sides (length rows)) (rows ++ row ∷ []) (length rows) z in
          subst P (sym at') (subst Q same (least_kept g free limit (IsBase g sides (length rows)) rows row (length rows) row (omega arith) new))
    ]

power_once : (i k : ℕ) → 2 ^ i ≡ 2 ^ k → i ≡ k
power_once i k e =
    elim (cases_lt i k) [
      | inl lt ↦ absurd (let w = pow-lt lt in omega arith)
      | inr ge ↦ elim (cases_lt k i) [ inl gt ↦ absurd (let w = pow-lt gt in omega arith) | inr le ↦ omega arith ]
    ]

-- between two powers of 2 no subset has just one side
not_one : (g : Grid) (sides : List Side) (k m c : ℕ) → 2 ^ k < m → m < 2 ^ (k + 1) → IsBase g sides m c → ⊥
not_one g sides k m c low high (inl none) = omega arith
not_one g sides k m c low high (inr (i, s, is, at', on)) =
    elim (cases_lt k i) [
      | inl gt ↦ let le : k + 1 ≤ i = omega arith in let w = pow_mono le in omega arith
      | inr le ↦ let w = pow_mono le in omega arith
    ]

pub table_first : (g : Grid) (free : List Bool) (limit : ℕ) (sides : List Side) (k : ℕ) (s : Side) (pair : List (Option ℕ)) (rows : List (List ℕ)) (row : List ℕ) → length rows ≡ 2 ^ k → slice_get sides k ≡ Some s
    → ((c : ℕ) → OnGoal pair c → OnSide g s c) → ((c : ℕ) → OnSide g s c → OnGoal pair c) → Table g free limit sides rows → LeastRow g free limit (OnGoal pair) rows (length rows) row → Table g free limit sides (rows ++ row ∷ [])
table_first g free limit sides k s pair rows row count is to from t least =
    let power = pow_pos k in
    table_more g free limit sides rows row t
    (least_based g free limit (OnGoal pair) (IsBase g sides (length rows)) rows (length rows) row
    (λ c on. inr (k, s, count, is, to c on))
    (λ c base. elim base [
      | inl none ↦ absurd (omega arith)
      | inr (i, x, is-power, at', on) ↦
          let same : i ≡ k = power_once i k (sym is-power ∙ count) in
          let P : ℕ → Type 0 = λ y. slice_get sides y ≡ Some x in
          let e : x ≡ s = same_entry sides k x s (subst P same at') is in
          let Q : Side → Type 0 = λ y. OnSide g y c in
          from c (subst Q e on)
    ])
    least)

none_on : (c : ℕ) → OnGoal [] c → ⊥
none_on c (k, lt, e) = absurd (omega arith)

pub table_next : (g : Grid) (free : List Bool) (limit : ℕ) (sides : List Side) (k : ℕ) (rows : List (List ℕ)) (row : List ℕ) → 2 ^ k < length rows → length rows < 2 ^ (k + 1)
    → Table g free limit sides rows → LeastRow g free limit (OnGoal []) rows (length rows) row → Table g free limit sides (rows ++ row ∷ [])
table_next g free limit sides k rows row low high t least =
    table_more g free limit sides rows row t
    (least_based g free limit (OnGoal []) (IsBase g sides (length rows)) rows (length rows) row
    (λ c on. absurd (none_on c on))
    (λ c base. absurd (not_one g sides k (length rows) c low high base))
    least)

pub table_rows : (g : Grid) (free : List Bool) (limit : ℕ) (sides : List Side) (rows : List (List ℕ)) → length free ≡ length g.sites → Table g free limit sides rows → HasRows rows (length free)
table_rows g free limit sides rows size t m row is = (omega (arith, (t m row is).0.sizes), (t m row is).0.some)

pub table_on_free : (g : Grid) (free : List Bool) (limit : ℕ) (sides : List Side) (rows : List (List ℕ)) → Table g free limit sides rows → OnFree rows free limit
table_on_free g free limit sides rows t m c v (row, is, at') few = (t m row is).0.on_free c v at' few

first_at : (free : List Bool) (limit c v : ℕ) → slice_get (first_sizes free limit) c ≡ Some v → (0 < v) × (v ≤ limit → Marked free c)
first_at [] limit c v e = absurd (cc)
first_at (true ∷ free) limit zero v e = (let f : Some 1 ≡ Some v = e in let w : 1 ≡ v = grind arith in omega arith, λ few. refl)
first_at (false ∷ free) limit zero v e = let f : Some (limit + 1) ≡ Some v = e in let w : limit + 1 ≡ v = grind arith in (omega arith, λ few. absurd (omega arith))
first_at (b ∷ free) limit (suc c) v e = first_at free limit c v e

first_free : (free : List Bool) (limit c : ℕ) → Marked free c → slice_get (first_sizes free limit) c ≡ Some 1
first_free [] limit c e = absurd (cc)
first_free (true ∷ free) limit zero e = refl
first_free (false ∷ free) limit zero e = absurd (cc)
first_free (b ∷ free) limit (suc c) e = first_free free limit c e

first_length : (free : List Bool) (limit : ℕ) → length (first_sizes free limit) ≡ length free
first_length [] limit = refl
first_length (b ∷ free) limit = let w = first_length free limit in omega arith

-- the table of no sides
pub table_start : (g : Grid) (free : List Bool) (limit : ℕ) (sides : List Side) (row : List ℕ) → length free ≡ length g.sites → row ≡ first_sizes free limit → Table g free limit sides ([] ++ row ∷ [])
table_start g free limit sides row size e =
    let P : List ℕ → Type 0 = λ r. LeastRow g free limit (IsBase g sides 0) [] 0 r in
    let first : P (first_sizes free limit) = (
      record {
        sizes = omega (arith, first_length free limit);
        some = λ c v is. (first_at free limit c v is).0;
        on_free = λ c v is few. (first_at free limit c v is).1 few;
        reason = λ c v is few. inl (inl refl);
      },
      record {
        base = λ c b free'. (1, first_free free limit c free', omega arith);
        grown = λ c d v is lt adj free'. (1, first_free free limit d free', omega arith);
        united = λ a b c x y n parts some-a some-b ex ey. absurd (omega (arith, parts.0));
      },
    ) in
    table_more g free limit sides [] row (λ m r is. absurd (cc)) (subst P (sym e) first)

pub twice_more : (n : ℕ) → 2 ^ (n + 1) ≡ 2 ^ n + 2 ^ n
twice_more n = let e = twice n in let f : n + 1 ≡ suc n = omega arith in subst (λ (x : ℕ). 2 ^ x ≡ 2 ^ n + 2 ^ n) (sym f) e

-- so few sides make so few rows
pub few_rows : (k n : ℕ) → k < n → n ≤ 5 → 2 ^ k + 2 ^ k ≤ 32
few_rows k n lt le = let w : k + 1 ≤ 5 = omega arith in let p : 2 ^ (k + 1) ≤ 2 ^ 5 = pow_mono w in let e = twice_more k in omega arith

pub rows_first : (g : Grid) (free : List Bool) (limit : ℕ) (sides : List Side) (k : ℕ) (s : Side) (pair : List (Option ℕ)) (rows same after : List (List ℕ)) (row : List ℕ) → length rows ≡ 2 ^ k → slice_get sides k ≡ Some s
    → ((c : ℕ) → OnGoal pair c → OnSide g s c) → ((c : ℕ) → OnSide g s c → OnGoal pair c) → Table g free limit sides rows → same ≡ rows → LeastRow g free limit (OnGoal pair) same (length same) row → after ≡ rows ++ row ∷ []
    → (2 ^ k < length after) × (length after ≤ 2 ^ (k + 1)) × Table g free limit sides after
rows_first g free limit sides k s pair rows same after row count is to from t e least after-is =
    let P : List (List ℕ) → Type 0 = λ r. LeastRow g free limit (OnGoal pair) r (length r) row in
    let Q : List (List ℕ) → Type 0 = λ r. (2 ^ k < length r) × (length r ≤ 2 ^ (k + 1)) × Table g free limit sides r in
    let power = pow_pos k in
    let more = twice_more k in
    let size = length-append rows (row ∷ []) in
    subst Q (sym after-is) (omega arith, omega arith, table_first g free limit sides k s pair rows row count is to from t (subst P e least))

pub rows_next : (g : Grid) (free : List Bool) (limit : ℕ) (sides : List Side) (k : ℕ) (rows same after : List (List ℕ)) (row : List ℕ) → (2 ^ k < length rows) × (length rows ≤ 2 ^ (k + 1)) × Table g free limit sides rows → length rows < 2 ^ (k + 1)
    → same ≡ rows → LeastRow g free limit (OnGoal []) same (length same) row → after ≡ rows ++ row ∷ [] → (2 ^ k < length after) × (length after ≤ 2 ^ (k + 1)) × Table g free limit sides after
rows_next g free limit sides k rows same after row (low, high, t) lt e least after-is =
    let P : List (List ℕ) → Type 0 = λ r. LeastRow g free limit (OnGoal []) r (length r) row in
    let Q : List (List ℕ) → Type 0 = λ r. (2 ^ k < length r) × (length r ≤ 2 ^ (k + 1)) × Table g free limit sides r in
    let size = length-append rows (row ∷ []) in
    subst Q (sym after-is) (omega arith, omega arith, table_next g free limit sides k rows row low lt t (subst P e least))
