-- What the loops that lower sizes keep.
use Rattle.std.proofs.Common.{◌≡◌, ℕ, Bool, ◌+◌, ◌<◌, ◌≤◌, inl, inr, ◌⊎◌, length, slice_get, slice_set, get_or, Option, Some, None, List, [], ◌∷◌, ◌++◌, sym, subst, arith, Contains, length-append}
use Rattle.std.specs.Prelude.{sum}
use Rattle.std.specs.List.Sorted.{IsPermutation}
use Rattle.std.proofs.lemmas.List.Sorted.{Contains-permutation, IsPermutation-sym}
use Rattle.std.proofs.lemmas.Bool.{cases_lt}
use Rattle.std.proofs.lemmas.Option.{slice_get_within, get_or_from_slice_get}
use Rattle.std.proofs.lemmas.List.Sums.{sum_by-set}
use Rattle.std.proofs.Math.ListN.{length-set}
use Rattle.patch_layout.specs.Grid.{Grid, Adjacent, neighbours, Sound}
use Rattle.patch_layout.specs.Spread.{Marked, OnGoal}
use Rattle.patch_layout.proofs.Places.{get_kept, get_added, get_cases, get_set_cases, get_set_here, get_set_other, get_from_Contains, Contains_from_get, same_entry}
use Rattle.patch_layout.proofs.Laws.{law_neighbours}
use Rattle.patch_layout.proofs.Neighbours.{neighbour_within}
use Rattle.least_region.specs.inside.Table.{AtMost, IsGrown, HasReason, Reasoned}
use Rattle.least_region.specs.inside.Growth.{Under, Keeps, Lowered, Pending, Queued, Spreads}

pub under_self : (row : List ℕ) → Under row row
under_self row c n h = h

pub under_on : (a b c : List ℕ) → Under a b → Under b c → Under a c
under_on a b c f h x n at' = h x n (f x n at')

-- a lesser size at one cell
pub under_set : (row : List ℕ) (c x v : ℕ) → slice_get row c ≡ Some v → x ≤ v → Under row (slice_set row c x)
under_set row c x v is le d n (w, at', few) =
    elim (cases_lt c d) [
      | inl lt ↦ (w, get_set_other row c d x w (λ e. omega arith) at', few)
      | inr ge ↦ elim (cases_lt d c) [
        | inl gt ↦ (w, get_set_other row c d x w (λ e. omega arith) at', few)
        | inr le' ↦
            let same : c ≡ d = omega arith in
            let P : ℕ → Type 0 = λ y. slice_get row y ≡ Some v in
            let e : v ≡ w = same_entry row d v w (subst P same is) at' in
            let Q : ℕ → Type 0 = λ y. AtMost (slice_set row c x) y n in
            let here : Q c = (x, get_set_here row c x (slice_get_within row c v is), omega arith) in
            subst Q same here
      ]
    ]

grown_under : (g : Grid) (row after : List ℕ) (c v : ℕ) → Under row after → IsGrown g row c v → IsGrown g after c v
grown_under g row after c v under (d, w, adj, is, lt) = let (w', is', le) = under d w (w, is, omega arith) in (d, w', adj, is', omega arith)

-- a size is lowered for a reason
pub reasoned_set : (g : Grid) (free : List Bool) (limit : ℕ) (Base : ℕ → Type 0) (rows : List (List ℕ)) (m : ℕ) (row : List ℕ) (c x v : ℕ)
    → Reasoned g free limit Base rows m row → slice_get row c ≡ Some v → x ≤ v → 0 < x → (x ≤ limit → Marked free c) → HasReason g Base rows m (slice_set row c x) c x
    → Reasoned g free limit Base rows m (slice_set row c x)
reasoned_set g free limit Base rows m row c x v r is le some on why =
    record {
      sizes = omega (arith, length-set row c x, r.sizes);
      some = λ d w at'. elim (get_set_cases row c x d w at') [
        | inl old ↦ r.some d w old
        | inr new ↦ let e = new.1 in omega arith
      ];
      on_free = λ d w at' few. elim (get_set_cases row c x d w at') [
        | inl old ↦ r.on_free d w old few
        | inr new ↦ let e = new.1 in let P : ℕ → Type 0 = λ y. Marked free y in subst P (sym new.0) (on (omega arith))
      ];
      reason = λ d w at' few. elim (get_set_cases row c x d w at') [
        | inl old ↦ elim (r.reason d w old few) [
          | inl base ↦ inl base
          | inr (inl grown) ↦ inr (inl (grown_under g row (slice_set row c x) d w (under_set row c x v is le) grown))
          | inr (inr united) ↦ inr (inr united)
        ]
        | inr new ↦
            let P : ℕ → Type 0 = λ y. HasReason g Base rows m (slice_set row c x) y w in
            let Q : ℕ → Type 0 = λ y. HasReason g Base rows m (slice_set row c x) c y in
            subst P (sym new.0) (subst Q new.1 why)
      ];
    }

sum_set : (row : List ℕ) (c x v : ℕ) → slice_get row c ≡ Some v → sum (slice_set row c x) + v ≡ sum row + x
sum_set row c x v is =
    let in' = slice_get_within row c v is in
    let e : get_or row c 0 ≡ v = get_or_from_slice_get row c v 0 is in
    let s : sum (slice_set row c x) + get_or row c 0 ≡ sum row + x = sum_by-set (λ y. y) row c x 0 in' in
    omega arith

-- the outer loop of a growth
pub record Growing (g : Grid) (free : List Bool) (limit : ℕ) (start row queue : List ℕ) (head : ℕ) : Type 0 where
  pub keeps : Keeps g free limit start row
  pub under : Under start row
  pub sizes : length row ≡ length g.sites
  pub queued : (k c : ℕ) → slice_get queue k ≡ Some c → c < length g.sites
  pub spread : (c d v : ℕ) → slice_get row c ≡ Some v → v < limit → Adjacent g c d → Marked free d → AtMost row d (v + 1) ⊎ Pending queue head c
  pub low : head ≤ length queue

-- the inner loop: the first n neighbours of the cell at the head were looked at
pub record AtCell (g : Grid) (free : List Bool) (limit : ℕ) (start row queue : List ℕ) (head cell size : ℕ) (items : List (Option ℕ)) (n total : ℕ) : Type 0 where
  pub keeps : Keeps g free limit start row
  pub under : Under start row
  pub sizes : length row ≡ length g.sites
  pub queued : (k c : ℕ) → slice_get queue k ≡ Some c → c < length g.sites
  pub is : slice_get queue head ≡ Some cell
  pub here : slice_get row cell ≡ Some size
  pub spread : (c d v : ℕ) → slice_get row c ≡ Some v → v < limit → Adjacent g c d → Marked free d → (AtMost row d (v + 1) ⊎ Pending queue (head + 1) c) ⊎ (cell ≡ c)
  pub visited : (i d : ℕ) → i < n → slice_get items i ≡ Some (Some d) → Marked free d → AtMost row d (size + 1)
  pub less : sum row + length queue ≤ total

pub growing_start : (g : Grid) (free : List Bool) (limit : ℕ) (row queue : List ℕ) → length row ≡ length g.sites → Queued row limit queue → Growing g free limit row row queue 0
growing_start g free limit row queue sizes (inside, all) =
    record {
      keeps = λ pair rows m r. r;
      under = under_self row;
      sizes = sizes;
      queued = λ k c is. let w = inside k c is in omega arith;
      spread = λ c d v is lt adj free'. inr (all c v is lt);
      low = omega arith;
    }

pub growing_end : (g : Grid) (free : List Bool) (limit : ℕ) (start row queue : List ℕ) (head : ℕ) → Growing g free limit start row queue head → length queue ≤ head → Spreads g free limit row
growing_end g free limit start row queue head w end c d v is lt adj free' =
    elim (w.spread c d v is lt adj free') [
      | inl at' ↦ at'
      | inr (k, le, at') ↦ absurd (let in' = slice_get_within queue k c at' in omega arith)
    ]

next_pending : (queue : List ℕ) (head cell c : ℕ) → slice_get queue head ≡ Some cell → Pending queue head c → Pending queue (head + 1) c ⊎ (cell ≡ c)
next_pending queue head cell c is (k, le, at') =
    elim (cases_lt head k) [
      | inl lt ↦ inl (k, omega arith, at')
      | inr ge ↦ let same : k ≡ head = omega arith in let P : ℕ → Type 0 = λ y. slice_get queue y ≡ Some c in inr (same_entry queue head cell c is (subst P same at'))
    ]

pub at_cell_start : (g : Grid) (free : List Bool) (limit : ℕ) (start row queue : List ℕ) (head cell size : ℕ) (items : List (Option ℕ))
    → Growing g free limit start row queue head → slice_get queue head ≡ Some cell → slice_get row cell ≡ Some size → AtCell g free limit start row queue head cell size items 0 (sum row + length queue)
at_cell_start g free limit start row queue head cell size items w is here =
    record {
      keeps = w.keeps;
      under = w.under;
      sizes = w.sizes;
      queued = w.queued;
      is = is;
      here = here;
      spread = λ c d v at' lt adj free'. elim (w.spread c d v at' lt adj free') [
        | inl done ↦ inl (inl done)
        | inr wait ↦ elim (next_pending queue head cell c is wait) [ inl later ↦ inl (inr later) | inr same ↦ inr same ]
      ];
      visited = λ i d lt. absurd (omega arith);
      less = omega arith;
    }

pub at_cell_past : (g : Grid) (free : List Bool) (limit : ℕ) (start row queue : List ℕ) (head cell size : ℕ) (items : List (Option ℕ)) (n total : ℕ)
    → AtCell g free limit start row queue head cell size items n total → slice_get items n ≡ Some None → AtCell g free limit start row queue head cell size items (n + 1) total
at_cell_past g free limit start row queue head cell size items n total w e =
    record {
      keeps = w.keeps;
      under = w.under;
      sizes = w.sizes;
      queued = w.queued;
      is = w.is;
      here = w.here;
      spread = w.spread;
      visited = λ i d lt at' free'. elim (cases_lt i n) [
        | inl lt' ↦ w.visited i d lt' at' free'
        | inr ge ↦ let same : i ≡ n = omega arith in let P : ℕ → Type 0 = λ y. slice_get items y ≡ Some (Some d) in let f : slice_get items n ≡ Some (Some d) = subst P same at' in absurd (cc)
      ];
      less = w.less;
    }

pending_kept : (queue : List ℕ) (x head c : ℕ) → Pending queue head c → Pending (queue ++ x ∷ []) head c
pending_kept queue x head c (k, le, at') = (k, le, get_kept queue (x ∷ []) k c at')

at_cell_lowered : (g : Grid) (free : List Bool) (limit : ℕ) (start row queue : List ℕ) (head cell size : ℕ) (items : List (Option ℕ)) (n total next v : ℕ)
    → AtCell g free limit start row queue head cell size items n total → Adjacent g next cell → next < length g.sites → slice_get items n ≡ Some (Some next) → Marked free next → slice_get row next ≡ Some v → size + 1 < v
    → AtCell g free limit start (slice_set row next (size + 1)) (queue ++ next ∷ []) head cell size items (n + 1) total
at_cell_lowered g free limit start row queue head cell size items n total next v w adj in' item on-free is lt =
    let row' : List ℕ = slice_set row next (size + 1) in
    let under' : Under row row' = under_set row next (size + 1) v is (omega arith) in
    let apart = λ (e : next ≡ cell). let P : ℕ → Type 0 = λ y. slice_get row y ≡ Some v in let f : v ≡ size = same_entry row cell v size (subst P e is) w.here in let z : ⊥ = omega arith in z in
    let here' : slice_get row' cell ≡ Some size = get_set_other row next cell (size + 1) size apart w.here in
    let sum' = sum_set row next (size + 1) v is in
    let inside : head < length queue = slice_get_within queue head cell w.is in
    record {
      keeps = λ pair rows m r.
          reasoned_set g free limit (OnGoal pair) rows m row next (size + 1) v (w.keeps pair rows m r) is (omega arith) (omega arith) (λ few. on-free)
          (inr (inl (cell, size, adj, here', omega arith)));
      under = under_on start row row' w.under under';
      sizes = omega (arith, length-set row next (size + 1), w.sizes);
      queued = λ k c at'. elim (get_cases queue next k c at') [
        | inl old ↦ w.queued k c old
        | inr new ↦ let P : ℕ → Type 0 = λ y. y < length g.sites in subst P new.1 in'
      ];
      is = get_kept queue (next ∷ []) head cell w.is;
      here = here';
      spread = λ c d x at' lt' adj' free'. elim (get_set_cases row next (size + 1) c x at') [
        | inl old ↦ elim (w.spread c d x old lt' adj' free') [
          | inl (inl done) ↦ inl (inl (under' d (x + 1) done))
          | inl (inr wait) ↦ inl (inr (pending_kept queue next (head + 1) c wait))
          | inr same ↦ inr same
        ]
        | inr new ↦
            let P : ℕ → Type 0 = λ y. Pending (queue ++ next ∷ []) (head + 1) y in
            let p : P next = (length queue, omega arith, get_added queue next) in
            inl (inr (subst P (sym new.0) p))
      ];
      visited = λ i d lt' at' free'. elim (cases_lt i n) [
        | inl lt'' ↦ under' d (size + 1) (w.visited i d lt'' at' free')
        | inr ge ↦
            let same : i ≡ n = omega arith in
            let P : ℕ → Type 0 = λ y. slice_get items y ≡ Some (Some d) in
            let f : Some next ≡ Some d = same_entry items n (Some next) (Some d) item (subst P same at') in
            let e : next ≡ d = grind arith in
            let Q : ℕ → Type 0 = λ y. AtMost row' y (size + 1) in
            let q : Q next = (size + 1, get_set_here row next (size + 1) (slice_get_within row next v is), omega arith) in
            subst Q e q
      ];
      less = omega (arith, w.less, sum', length-append queue (next ∷ []));
    }

at_cell_kept : (g : Grid) (free : List Bool) (limit : ℕ) (start row queue : List ℕ) (head cell size : ℕ) (items : List (Option ℕ)) (n total next : ℕ)
    → AtCell g free limit start row queue head cell size items n total → slice_get items n ≡ Some (Some next) → (Marked free next → AtMost row next (size + 1))
    → AtCell g free limit start row queue head cell size items (n + 1) total
at_cell_kept g free limit start row queue head cell size items n total next w item least =
    record {
      keeps = w.keeps;
      under = w.under;
      sizes = w.sizes;
      queued = w.queued;
      is = w.is;
      here = w.here;
      spread = w.spread;
      visited = λ i d lt' at' free'. elim (cases_lt i n) [
        | inl lt'' ↦ w.visited i d lt'' at' free'
        | inr ge ↦
            let same : i ≡ n = omega arith in
            let P : ℕ → Type 0 = λ y. slice_get items y ≡ Some (Some d) in
            let f : Some next ≡ Some d = same_entry items n (Some next) (Some d) item (subst P same at') in
            let e : next ≡ d = grind arith in
            let Q : ℕ → Type 0 = λ y. Marked free y → AtMost row y (size + 1) in
            subst Q e least free'
      ];
      less = w.less;
    }

-- a neighbour that was looked at
pub at_cell_more : (g : Grid) (free : List Bool) (limit : ℕ) (start row queue after more : List ℕ) (head cell size : ℕ) (items : List (Option ℕ)) (n total next : ℕ)
    → AtCell g free limit start row queue head cell size items n total → Sound g → items ≡ neighbours g cell → slice_get items n ≡ Some (Some next) → Lowered free next (size + 1) row queue after more
    → AtCell g free limit start after more head cell size items (n + 1) total
at_cell_more g free limit start row queue after more head cell size items n total next w sound items-are item lowered =
    let adj : Adjacent g cell next = (let P : List (Option ℕ) → Type 0 = λ xs. Contains xs (Some next) in subst P items-are (Contains_from_get items n (Some next) item)) in
    let in-cell : cell < length g.sites = w.queued head cell w.is in
    let P : List ℕ → Type 0 = λ r. AtCell g free limit start r more head cell size items (n + 1) total in
    elim lowered [
      | inl (on-free, (v, is, lt), after-is, more-is) ↦
          let Q : List ℕ → Type 0 = λ q. AtCell g free limit start (slice_set row next (size + 1)) q head cell size items (n + 1) total in
          subst P (sym after-is) (subst Q (sym more-is)
          (at_cell_lowered g free limit start row queue head cell size items n total next v w (law_neighbours g cell next in-cell adj) (neighbour_within g sound cell next in-cell adj) item on-free is lt))
      | inr (least, after-is, more-is) ↦
          let Q : List ℕ → Type 0 = λ q. AtCell g free limit start row q head cell size items (n + 1) total in
          subst P (sym after-is) (subst Q (sym more-is) (at_cell_kept g free limit start row queue head cell size items n total next w item least))
    ]

-- all four neighbours were looked at
pub growing_next : (g : Grid) (free : List Bool) (limit : ℕ) (start row queue : List ℕ) (head cell size : ℕ) (items : List (Option ℕ)) (n total : ℕ)
    → AtCell g free limit start row queue head cell size items n total → 4 ≤ n → items ≡ neighbours g cell → Growing g free limit start row queue (head + 1)
growing_next g free limit start row queue head cell size items n total w all items-are =
    record {
      keeps = w.keeps;
      under = w.under;
      sizes = w.sizes;
      queued = w.queued;
      spread = λ c d v at' lt adj free'. elim (w.spread c d v at' lt adj free') [
        | inl done ↦ done
        | inr same ↦
            let A : ℕ → Type 0 = λ y. Adjacent g y d in
            let (i, is) = get_from_Contains (neighbours g cell) (Some d) (subst A (sym same) adj) in
            let i-low : i < 4 = slice_get_within (neighbours g cell) i (Some d) is in
            let Q : ℕ → Type 0 = λ y. slice_get row y ≡ Some size in
            let e : size ≡ v = same_entry row c size v (subst Q same w.here) at' in
            let R : ℕ → Type 0 = λ y. AtMost row d (y + 1) in
            inl (subst R e (w.visited i d (omega arith) (rw items-are is) free'))
      ];
      low = omega (arith, slice_get_within queue head cell w.is);
    }

-- a cell whose size is at the limit is passed over
pub growing_past : (g : Grid) (free : List Bool) (limit : ℕ) (start row queue : List ℕ) (head cell size : ℕ)
    → Growing g free limit start row queue head → slice_get queue head ≡ Some cell → slice_get row cell ≡ Some size → limit ≤ size → Growing g free limit start row queue (head + 1)
growing_past g free limit start row queue head cell size w is here high =
    record {
      keeps = w.keeps;
      under = w.under;
      sizes = w.sizes;
      queued = w.queued;
      spread = λ c d v at' lt adj free'. elim (w.spread c d v at' lt adj free') [
        | inl done ↦ inl done
        | inr wait ↦ elim (next_pending queue head cell c is wait) [
          | inl later ↦ inr later
          | inr same ↦ absurd (let Q : ℕ → Type 0 = λ y. slice_get row y ≡ Some size in let e : size ≡ v = same_entry row c size v (subst Q same here) at' in omega arith)
        ]
      ];
      low = omega (arith, slice_get_within queue head cell is);
    }

-- a neighbour is a cell
pub next_within : (g : Grid) (cell next n : ℕ) (items : List (Option ℕ)) → Sound g → items ≡ neighbours g cell → slice_get items n ≡ Some (Some next) → cell < length g.sites → next < length g.sites
next_within g cell next n items sound items-are item in-cell =
    let adj : Adjacent g cell next = (let P : List (Option ℕ) → Type 0 = λ xs. Contains xs (Some next) in subst P items-are (Contains_from_get items n (Some next) item)) in
    neighbour_within g sound cell next in-cell adj

-- the queue in another order
pub queued_sorted : (row : List ℕ) (limit : ℕ) (queue sorted : List ℕ) → IsPermutation queue sorted → Queued row limit queue → Queued row limit sorted
queued_sorted row limit queue sorted perm (inside, all) = (
  λ k c is.
      let (i, at') = get_from_Contains queue c (Contains-permutation sorted queue c (IsPermutation-sym queue sorted perm) (Contains_from_get sorted k c is)) in
      inside i c at',
  λ c v is lt.
      let (i, le, at') = all c v is lt in
      let (k, at'') = get_from_Contains sorted c (Contains-permutation queue sorted c perm (Contains_from_get queue i c at')) in
      (k, omega arith, at''),
)
