-- What the loops of a walk to a region keep.
use Rattle.std.proofs.Common.{◌≡◌, ℕ, Bool, true, false, not, ◌+◌, ◌<◌, ◌≤◌, inl, inr, length, slice_get, slice_set, get_or, Option, Some, None, List, [], ◌∷◌, ◌++◌, refl, sym, subst, arith, Contains, length-append}
use Rattle.std.proofs.lemmas.Option.{slice_get_within, slice_get-get_or, get_or_from_slice_get}
use Rattle.std.proofs.lemmas.Bool.{cases_lt}
use Rattle.std.proofs.Math.ListN.{length-set}
use Rattle.std.proofs.lemmas.List.Sums.{count_by-le-length}
use Rattle.patch_layout.specs.declared.walk.Reached.{Reached}
use Rattle.patch_layout.specs.declared.layout.Site.TheVariants as site
use Rattle.patch_layout.specs.Grid.{Grid, Adjacent, neighbours}
use Rattle.patch_layout.specs.Spread.{Marked, InQueue, Spread, NoneBefore, OnGoal, unseen}
use Rattle.patch_layout.proofs.Places.{get_set_cases, same_entry, get_from_Contains, Contains_from_get, get_map, get_mapped, mark_kept, get_set_here, get_cases, get_added, get_kept, get_below, count_by-set_true}
use Rattle.patch_layout.proofs.Walking.{spread_push, spread_step}
use Rattle.region_plan.specs.Free.{Free}
use Rattle.region_plan.specs.inside.Walk.{Looked, BegunTo, FreeOnes, Sought, WalkGoesOn, Continues, Meets}
use Rattle.region_plan.specs.declared.walk.Met.{Met}
use Rattle.region_plan.specs.inside.Tree.{cells_in, PlaceOf}

unmarked_apart : (seen : List Bool) (a b : ℕ) → Marked seen a → slice_get seen b ≡ Some false → a ≡ b → ⊥
unmarked_apart seen a b m u e =
    let P : ℕ → Type 0 = λ x. slice_get seen x ≡ Some true in
    let f : true ≡ false = same_entry seen b true false (subst P e m) u in cc

pub begun_none : (g : Grid) (held pair : List (Option ℕ)) (queue : List Reached) (seen : List Bool) → queue ≡ [] → ((c : ℕ) → Marked seen c → ⊥) → length seen ≡ length g.sites
    → BegunTo g held pair 0 queue seen
begun_none g held pair queue seen e none size =
    let P : List Reached → Type 0 = λ q. BegunTo g held pair 0 q seen in
    subst P (sym e) (record {
      entry = λ k r is. absurd (cc);
      all = λ i c b. absurd (omega arith);
      marked = λ c m. absurd (none c m);
      mark = λ k r is. absurd (cc);
      once = λ i j a b ea. absurd (cc);
      few = omega arith;
      sizes = size;
    })

pub begun_past : (g : Grid) (held pair : List (Option ℕ)) (n : ℕ) (queue : List Reached) (seen : List Bool) → BegunTo g held pair n queue seen → slice_get pair n ≡ Some None
    → BegunTo g held pair (n + 1) queue seen
begun_past g held pair n queue seen b e =
    record {
      entry = b.entry;
      all = λ i c lt is free. elim (cases_lt i n) [
        | inl lt' ↦ b.all i c lt' is free
        | inr ge ↦ let same : i ≡ n = omega arith in let P : ℕ → Type 0 = λ x. slice_get pair x ≡ Some (Some c) in let f : slice_get pair n ≡ Some (Some c) = subst P same is in absurd (cc)
      ];
      marked = b.marked;
      mark = b.mark;
      once = b.once;
      few = omega (arith, b.few);
      sizes = b.sizes;
    }

pub begun_more : (g : Grid) (held pair : List (Option ℕ)) (n : ℕ) (queue after : List Reached) (seen marks : List Bool) (next : Reached) → BegunTo g held pair n queue seen
    → slice_get pair n ≡ Some (Some next.cell) → next.from ≡ 0 → next.steps ≡ 0 → Looked g held next seen queue marks after → BegunTo g held pair (n + 1) after marks
begun_more g held pair n queue after seen marks next b e from steps looked =
    let goal : OnGoal pair next.cell = Contains_from_get pair n (Some next.cell) e in
    let here = λ (i c : ℕ) (ge : n ≤ i) (lt : i < n + 1) (is : slice_get pair i ≡ Some (Some c)).
    let same : i ≡ n = omega arith in
    let P : ℕ → Type 0 = λ x. slice_get pair x ≡ Some (Some c) in
    let f : Some next.cell ≡ Some c = same_entry pair n (Some next.cell) (Some c) e (subst P same is) in
    let s : next.cell ≡ c = grind arith in s in
    elim looked [
      | inl (free, unmarked, marks-is, after-is) ↦
          let P : List Reached → Type 0 = λ q. BegunTo g held pair (n + 1) q marks in
          let Q : List Bool → Type 0 = λ m. BegunTo g held pair (n + 1) (queue ++ next ∷ []) m in
          let in-seen : next.cell < length seen = slice_get_within seen next.cell false unmarked in
          subst P (sym after-is) (subst Q (sym marks-is) (record {
            entry = λ k r is. elim (get_cases queue next k r is) [
              | inl old ↦ b.entry k r old
              | inr new ↦ let R : Reached → Type 0 = λ x. (x.steps ≡ 0) × (x.from ≡ 0) × Free g held x.cell × OnGoal pair x.cell in subst R new.1 (steps, from, free, goal)
            ];
            all = λ i c lt is free'. elim (cases_lt i n) [
              | inl lt' ↦ let (k, r, is', cell) = b.all i c lt' is free' in (k, r, get_kept queue (next ∷ []) k r is', cell)
              | inr ge ↦ (length queue, next, get_added queue next, here i c ge lt is)
            ];
            marked = λ c m. elim (get_set_cases seen next.cell true c true m) [
              | inl old ↦ let (k, r, is', cell) = b.marked c old in (k, r, get_kept queue (next ∷ []) k r is', cell)
              | inr new ↦ (length queue, next, get_added queue next, sym new.0)
            ];
            mark = λ k r is. elim (get_cases queue next k r is) [
              | inl old ↦ mark_kept seen next.cell r.cell (b.mark k r old)
              | inr new ↦ let R : Reached → Type 0 = λ x. Marked (slice_set seen next.cell true) x.cell in subst R new.1 (get_set_here seen next.cell true in-seen)
            ];
            once = λ i j x y ex ey same. elim (get_cases queue next i x ex) [
              | inl oldx ↦ elim (get_cases queue next j y ey) [
                | inl oldy ↦ b.once i j x y oldx oldy same
                | inr newy ↦ absurd (unmarked_apart seen x.cell next.cell (b.mark i x oldx) unmarked (let R : Reached → Type 0 = λ z. x.cell ≡ z.cell in subst R (sym newy.1) same))
              ]
              | inr newx ↦ elim (get_cases queue next j y ey) [
                | inl oldy ↦ absurd (unmarked_apart seen y.cell next.cell (b.mark j y oldy) unmarked (let R : Reached → Type 0 = λ z. z.cell ≡ y.cell in sym (subst R (sym newx.1) same)))
                | inr newy ↦ omega (arith, newx.0, newy.0)
              ]
            ];
            few = omega (arith, length-append queue (next ∷ []), b.few);
            sizes = omega (arith, length-set seen next.cell true, b.sizes);
          }))
      | inr (marked, marks-is, after-is) ↦
          let P : List Reached → Type 0 = λ q. BegunTo g held pair (n + 1) q marks in
          let Q : List Bool → Type 0 = λ m. BegunTo g held pair (n + 1) queue m in
          subst P (sym after-is) (subst Q (sym marks-is) (record {
            entry = b.entry;
            all = λ i c lt is free. elim (cases_lt i n) [
              | inl lt' ↦ b.all i c lt' is free
              | inr ge ↦ let s : next.cell ≡ c = here i c ge lt is in
                  let R : ℕ → Type 0 = λ x. Free g held x in
                  let S : ℕ → Type 0 = λ x. Marked seen x in
                  b.marked c (subst S s (marked (subst R (sym s) free)))
            ];
            marked = b.marked;
            mark = b.mark;
            once = b.once;
            few = omega (arith, b.few);
            sizes = b.sizes;
          }))
    ]

-- the outer loop: no entry before the head is a cell of the region, and the queue can't outgrow the cells
pub record Seeking (g : Grid) (held pair : List (Option ℕ)) (tree : List Reached) (queue : List Reached) (head : ℕ) (seen : List Bool) : Type 0 where
  pub starts : List ℕ
  pub ones : FreeOnes g held pair starts
  pub spread : Spread g (Free g held) starts queue head seen
  pub none : NoneBefore (InQueue tree) queue head
  pub low : head ≤ length queue
  pub few : length queue + unseen seen ≤ 8192
  pub sizes : length seen ≡ length g.sites

pub seeking_start : (g : Grid) (held pair : List (Option ℕ)) (tree queue : List Reached) (seen : List Bool) → BegunTo g held pair (length pair) queue seen → length pair ≤ 4096 → length g.sites ≤ 4096
    → Seeking g held pair tree queue 0 seen
seeking_start g held pair tree queue seen b two size =
    let of-queue = λ (c : ℕ) (has : Contains (cells_in queue) c).
    let (k, is) = get_from_Contains (cells_in queue) c has in
    get_map (λ r. r.cell) queue k c is in
    let no-steps = λ (k : ℕ) (r : Reached) (is : slice_get queue k ≡ Some r). let s : r.steps ≡ 0 = (b.entry k r is).0 in s in
    let in-starts = λ (k : ℕ) (r : Reached) (is : slice_get queue k ≡ Some r). Contains_from_get (cells_in queue) k r.cell (get_mapped (λ x. x.cell) queue k r is) in
    let few' : unseen seen ≤ length seen = count_by-le-length not seen in
    record {
      starts = cells_in queue;
      ones = (
        λ c has. let (k, is) = get_from_Contains (cells_in queue) c has in
            let (r, is', cell) = get_map (λ x. x.cell) queue k c is in
            let P : ℕ → Type 0 = λ x. Free g held x × OnGoal pair x in
            let en = b.entry k r is' in
            subst P cell (en.2, en.3),
        λ c free on. let (i, is) = get_from_Contains pair (Some c) on in
            let (k, r, is', cell) = b.all i c (let w : i < length pair = slice_get_within pair i (Some c) is in omega arith) is free in
            let P : ℕ → Type 0 = λ x. Contains (cells_in queue) x in
            subst P cell (in-starts k r is'),
      );
      spread = record {
        came = λ k r is. let en = b.entry k r is in inl (en.0, en.1, in-starts k r is);
        start = λ c has. let (k, is) = get_from_Contains (cells_in queue) c has in
            let (r, is', cell) = get_map (λ x. x.cell) queue k c is in
            (k, r, is', cell, no-steps k r is');
        within = λ k r is. let en = b.entry k r is in slice_get_within g.sites r.cell site.Ancilla en.2.0;
        few = λ k r is. omega (arith, no-steps k r is);
        ordered = λ i j x y le ex ey. omega (arith, no-steps i x ex);
        near = λ h k r eh er. omega (arith, no-steps k r er);
        marked = b.marked;
        mark = b.mark;
        once = b.once;
        done = λ k r lt. absurd (omega arith);
      };
      none = λ k r lt. absurd (omega arith);
      low = omega arith;
      few = omega (arith, few', b.few, b.sizes);
      sizes = b.sizes;
    }

-- the loop over the neighbours: the first n of them were looked at, and the walk from any starts goes on
pub record Around (g : Grid) (held : List (Option ℕ)) (old queue : List Reached) (head : ℕ) (before seen : List Bool) (h : Reached) (items : List (Option ℕ)) (n : ℕ) : Type 0 where
  pub goes : (starts : List ℕ) → Spread g (Free g held) starts old head before → Spread g (Free g held) starts queue head seen
  pub starts : List ℕ
  pub spread : Spread g (Free g held) starts queue head seen
  pub kept : Continues old queue
  pub is : slice_get queue head ≡ Some h
  pub visited : (i c : ℕ) → i < n → slice_get items i ≡ Some (Some c) → Free g held c → InQueue queue c
  pub whole : length queue + unseen seen ≡ length old + unseen before
  pub sizes : length seen ≡ length g.sites

pub around_start : (g : Grid) (held : List (Option ℕ)) (queue : List Reached) (head : ℕ) (seen : List Bool) (h : Reached) (items : List (Option ℕ)) (starts : List ℕ)
    → Spread g (Free g held) starts queue head seen → slice_get queue head ≡ Some h → length seen ≡ length g.sites → Around g held queue queue head seen seen h items 0
around_start g held queue head seen h items starts s is sizes =
    record { goes = λ _ t. t; starts = starts; spread = s; kept = λ k r e. e; is = is; visited = λ i c b. absurd (omega arith); whole = refl; sizes = sizes }

pub around_past : (g : Grid) (held : List (Option ℕ)) (old queue : List Reached) (head : ℕ) (before seen : List Bool) (h : Reached) (items : List (Option ℕ)) (n : ℕ)
    → Around g held old queue head before seen h items n → slice_get items n ≡ Some None → Around g held old queue head before seen h items (n + 1)
around_past g held old queue head before seen h items n s e =
    record {
      goes = s.goes;
      starts = s.starts;
      spread = s.spread;
      kept = s.kept;
      is = s.is;
      visited = λ i c lt at' free. elim (cases_lt i n) [
        | inl lt' ↦ s.visited i c lt' at' free
        | inr ge ↦ let same : i ≡ n = omega arith in let P : ℕ → Type 0 = λ x. slice_get items x ≡ Some (Some c) in
            let f : slice_get items n ≡ Some (Some c) = subst P same at' in absurd (cc)
      ];
      whole = s.whole;
      sizes = s.sizes;
    }

-- a neighbour that was looked at
pub around_more : (g : Grid) (held : List (Option ℕ)) (old queue after : List Reached) (head : ℕ) (before seen marks : List Bool) (h next : Reached) (items : List (Option ℕ)) (n : ℕ)
    → Around g held old queue head before seen h items n → items ≡ neighbours g h.cell → slice_get items n ≡ Some (Some next.cell)
    → next.from ≡ head → next.steps ≡ h.steps + 1 → Looked g held next seen queue marks after
    → Around g held old after head before marks h items (n + 1)
around_more g held old queue after head before seen marks h next items n s items-are e from steps looked =
    let adj : Adjacent g h.cell next.cell = (let P : List (Option ℕ) → Type 0 = λ xs. Contains xs (Some next.cell) in subst P items-are (Contains_from_get items n (Some next.cell) e)) in
    let here = λ (i c : ℕ) (ge : n ≤ i) (lt : i < n + 1) (is : slice_get items i ≡ Some (Some c)).
    let same : i ≡ n = omega arith in
    let P : ℕ → Type 0 = λ x. slice_get items x ≡ Some (Some c) in
    let f : Some next.cell ≡ Some c = same_entry items n (Some next.cell) (Some c) e (subst P same is) in
    let c-is : next.cell ≡ c = grind arith in c-is in
    elim looked [
      | inl (free, unmarked, marks-is, after-is) ↦
          let P : List Reached → Type 0 = λ q. Around g held old q head before marks h items (n + 1) in
          let Q : List Bool → Type 0 = λ m. Around g held old (queue ++ next ∷ []) head before m h items (n + 1) in
          let in-seen : next.cell < length seen = slice_get_within seen next.cell false unmarked in
          let un : get_or seen next.cell true ≡ false = get_or_from_slice_get seen next.cell false true unmarked in
          let count = count_by-set_true seen next.cell in-seen un in
          let sum : length (queue ++ next ∷ []) + unseen (slice_set seen next.cell true) ≡ length queue + unseen seen = omega (arith, length-append queue (next ∷ [])) in
          let push = λ (starts : List ℕ) (t : Spread g (Free g held) starts queue head seen).
          spread_push g (Free g held) starts queue head seen h next t s.is from steps adj free (slice_get_within g.sites next.cell site.Ancilla free.0) in-seen un in
          subst P (sym after-is) (subst Q (sym marks-is) (record {
            goes = λ starts t. push starts (s.goes starts t);
            starts = s.starts;
            spread = push s.starts s.spread;
            kept = λ k r old-is. get_kept queue (next ∷ []) k r (s.kept k r old-is);
            is = get_kept queue (next ∷ []) head h s.is;
            visited = λ i c lt at' free'. elim (cases_lt i n) [
              | inl lt' ↦ let (k, r, is', cell) = s.visited i c lt' at' free' in (k, r, get_kept queue (next ∷ []) k r is', cell)
              | inr ge ↦ (length queue, next, get_added queue next, here i c ge lt at')
            ];
            whole = omega (arith, s.whole, sum);
            sizes = omega (arith, length-set seen next.cell true, s.sizes);
          }))
      | inr (marked, marks-is, after-is) ↦
          let P : List Reached → Type 0 = λ q. Around g held old q head before marks h items (n + 1) in
          let Q : List Bool → Type 0 = λ m. Around g held old queue head before m h items (n + 1) in
          subst P (sym after-is) (subst Q (sym marks-is) (record {
            goes = s.goes;
            starts = s.starts;
            spread = s.spread;
            kept = s.kept;
            is = s.is;
            visited = λ i c lt at' free. elim (cases_lt i n) [
              | inl lt' ↦ s.visited i c lt' at' free
              | inr ge ↦ let c-is : next.cell ≡ c = here i c ge lt at' in
                  let R : ℕ → Type 0 = λ x. Free g held x in
                  let S : ℕ → Type 0 = λ x. Marked seen x in
                  s.spread.marked c (subst S c-is (marked (subst R (sym c-is) free)))
            ];
            whole = s.whole;
            sizes = s.sizes;
          }))
    ]

-- all four neighbours were looked at
pub around_done : (g : Grid) (held : List (Option ℕ)) (old queue : List Reached) (head : ℕ) (before seen : List Bool) (h : Reached) (items : List (Option ℕ)) (n : ℕ)
    → Around g held old queue head before seen h items n → 4 ≤ n → items ≡ neighbours g h.cell → WalkGoesOn g (Free g held) old queue head before seen
around_done g held old queue head before seen h items n s all items-are starts t =
    spread_step g (Free g held) starts queue head seen h (s.goes starts t) s.is
    (λ c adj free. let (i, is) = get_from_Contains (neighbours g h.cell) (Some c) adj in
    let w : i < 4 = slice_get_within (neighbours g h.cell) i (Some c) is in s.visited i c (omega arith) (rw items-are is) free)

-- the walk goes on from a cell that isn't in the region
pub seeking_next : (g : Grid) (held pair : List (Option ℕ)) (tree queue after : List Reached) (head : ℕ) (seen marks : List Bool) (h : Reached) → Seeking g held pair tree queue head seen → slice_get queue head ≡ Some h
    → (InQueue tree h.cell → ⊥) → WalkGoesOn g (Free g held) queue after head seen marks → Continues queue after → length after + unseen marks ≡ length queue + unseen seen → length marks ≡ length seen
    → Seeking g held pair tree after (head + 1) marks
seeking_next g held pair tree queue after head seen marks h s is off goes kept whole sizes =
    let inside : head < length queue = slice_get_within queue head h is in
    let still : head < length after = slice_get_within after head h (kept head h is) in
    record {
      starts = s.starts;
      ones = s.ones;
      spread = goes s.starts s.spread;
      none = λ k r lt at' on.
          let (x, x-is) = get_below queue k (omega arith) in
          let f : x ≡ r = same_entry after k x r (kept k x x-is) at' in
          let I : Reached → Type 0 = λ y. InQueue tree y.cell in
          elim (cases_lt k head) [
            | inl lt' ↦ s.none k x lt' x-is (subst I (sym f) on)
            | inr ge ↦
                let same : k ≡ head = omega arith in
                let P : ℕ → Type 0 = λ y. slice_get queue y ≡ Some x in
                let e : x ≡ h = same_entry queue head x h (subst P same x-is) is in
                off (subst I e (subst I (sym f) on))
          ];
      low = omega arith;
      few = omega (arith, s.few, whole);
      sizes = omega (arith, s.sizes, sizes);
    }

-- no entry of a region without cells
pub in_none : (c : ℕ) → InQueue [] c → ⊥
in_none c (k, r, is, cell) = cc

-- the walk came to the region
pub sought_some : (g : Grid) (held pair : List (Option ℕ)) (tree queue : List Reached) (seen : List Bool) (h : Reached) (met : Met)
    → Seeking g held pair tree queue met.head seen → slice_get queue met.head ≡ Some h → PlaceOf tree h.cell (Some met.place) → Sought g held pair tree queue seen (Some met)
sought_some g held pair tree queue seen h met s is (x, at', cell) =
    (s.starts, s.ones, (s.spread, (h, is, (met.place, x, at', cell)), s.none), (h, x, is, at', cell))

-- or to its end
pub sought_none : (g : Grid) (held pair : List (Option ℕ)) (tree queue : List Reached) (head : ℕ) (seen : List Bool)
    → Seeking g held pair tree queue head seen → length queue ≤ head → Sought g held pair tree queue seen None
sought_none g held pair tree queue head seen s end =
    let same : head ≡ length queue = omega (arith, s.low) in
    let P : ℕ → Type 0 = λ x. Spread g (Free g held) s.starts queue x seen × NoneBefore (InQueue tree) queue x in
    (s.starts, s.ones, subst P same (s.spread, s.none))

pub pair_item : (pair : List (Option ℕ)) (n : ℕ) (o : Option ℕ) → n < length pair → get_or pair n None ≡ o → slice_get pair n ≡ Some o
pair_item pair n o in' is = rw (← is) (slice_get-get_or pair n None in')

-- one more entry isn't in the region
pub none_more : (walk tree : List Reached) (n : ℕ) (d : Reached) → NoneBefore (InQueue tree) walk n → n < length walk → PlaceOf tree (get_or walk n d).cell None → NoneBefore (InQueue tree) walk (n + 1)
none_more walk tree n d none in' off k x lt is on = elim (cases_lt k n) [
  | inl less ↦ none k x less is on
  | inr ge ↦
      let same : k ≡ n = omega arith in
      let P : ℕ → Type 0 = λ y. slice_get walk y ≡ Some x in
      let f : x ≡ get_or walk n d = same_entry walk n x (get_or walk n d) (subst P same is) (slice_get-get_or walk n d in') in
      let I : Reached → Type 0 = λ y. InQueue tree y.cell in
      off (subst I f on)
]

-- the entry is in the region
pub met_at : (walk tree : List Reached) (n place : ℕ) (d : Reached) → NoneBefore (InQueue tree) walk n → n < length walk → PlaceOf tree (get_or walk n d).cell (Some place) → Meets walk tree (Some (record { head = n; place = place }))
met_at walk tree n place d none in' (x, is, cell) = (none, (get_or walk n d, x, slice_get-get_or walk n d in', is, cell))

-- none is
pub none_whole : (walk tree : List Reached) (n : ℕ) → NoneBefore (InQueue tree) walk n → length walk ≤ n → Meets walk tree None
none_whole walk tree n none all k r lt is on = none k r (omega arith) is on
