-- From the table to a least region.
use Rattle.std.proofs.Common.{◌≡◌, ℕ, zero, suc, Bool, true, false, ◌+◌, ◌-◌, ◌^◌, ◌<◌, ◌≤◌, ◌↔◌, inl, inr, length, replicate, slice_get, slice_set, get_or, take, Option, Some, None, is_some, List, [], ◌∷◌, ◌++◌, refl, sym, ◌∙◌, ap, subst, arith, Contains, All, length-append, if◌then◌else◌}
use Rattle.std.specs.Prelude.{IsSome, option_to_list, Result, Ok, Err, IfOk}
use Rattle.patch_layout.proofs.Judging.{few_cells}
use Rattle.std.proofs.Math.Pow.{pow_mono}
use Rattle.std.proofs.lemmas.Nat.{pow_pos}
use Rattle.std.proofs.lemmas.Bool.{cases_lt, false≢true}
use Rattle.std.proofs.lemmas.Option.{slice_get_within, slice_get-get_or}
use Rattle.std.proofs.Math.Seq.{take-length, get_or-append_seam}
use Rattle.std.proofs.lemmas.List.{get_or_append_left}
use Rattle.std.proofs.lemmas.List.Elements.{All-contains, All-append, All-cons}
use Rattle.std.proofs.lemmas.List.Sums.{sum_by-cons}
use Rattle.std.proofs.Math.ListN.{length-replicate}
use Rattle.patch_layout.specs.declared.look.Look.{Look}
use Rattle.patch_layout.specs.declared.plan.Plan.{Plan}
use Rattle.patch_layout.specs.declared.layout.Side.{Side}
use Rattle.patch_layout.specs.declared.layout.Side.TheVariants as side
use Rattle.patch_layout.specs.declared.layout.Site.TheVariants as site
use Rattle.pauli_product.specs.Signed.{Signed}
use Rattle.patch_layout.specs.Grid.{Grid, Sound, IsAncilla, Joins}
use Rattle.patch_layout.specs.Region.{OnSide, Touches, AreJoined, Fit, wanted_sides, sides_from, port_side}
use Rattle.patch_layout.specs.Spread.{Marked}
use Rattle.patch_layout.specs.Certificate.{Certified}
use Rattle.patch_layout.specs.Case.{Ascending, case_of}
use Rattle.patch_layout.proofs.Places.{Contains_from_get, same_entry, get_set_cases, get_set_here}
use Rattle.patch_layout.proofs.Fits.{joins_on, joins_back, cells_distinct}
use Rattle.patch_layout.proofs.Certifying.{cells_fit}
use Rattle.region_plan.specs.Free.{Free, MayTake}
use Rattle.region_plan.specs.Answer.{IsRegion}
use Rattle.region_plan.proofs.Laws.{law_region_fits}
use Rattle.region_plan.proofs.Porting.{port_last}
use Rattle.least_region.specs.inside.Table.{Entry, Table}
use Rattle.patch_layout.proofs.Laws.{law_sides}
use Rattle.least_region.specs.inside.Growth.{HasRows}
use Rattle.least_region.specs.inside.Trace.{ListedTo, marked}
use Rattle.least_region.specs.inside.Pick.{Split, IsGoal, Picked, FreeMarks, PlannedAt, MarkedAt, Searched}
use Rattle.least_region.specs.Least.{Suits, IsLeast, width}
use Rattle.least_region.specs.declared.picks.Pick.{Pick}
use Rattle.least_region.proofs.Masks.{mask, mask_all, all_has}
use Rattle.least_region.proofs.Bounds.{table_low}
use Rattle.least_region.proofs.Tracing.{joins_wider, count_one, reason_of, entry_few}

-- through whatever the look may take there is a goal
goal_for : (g : Grid) (look : Look) (sides : List Side) (goal : Option Side) (port : Option ℕ) → Split look sides goal → MayTake g look port → (s : Side) × IsGoal g look sides port s
goal_for g look sides (Some s) None (measured, split) may = (s, (may, split))
goal_for g look sides (Some s) (Some f) (measured, split) (rotation, offered) = absurd (false≢true (sym measured ∙ rotation))
goal_for g look sides None None (rotation, split) measured = absurd (false≢true (sym measured ∙ rotation))
goal_for g look sides None (Some f) (rotation, split) may = (side.Port f, (may, sym (port_last look.axis sides f split)))

all_contained : (P : ℕ → Type 0) (xs : List ℕ) → ((x : ℕ) → Contains xs x → P x) → All P xs
all_contained P xs f k d lt = f (get_or xs k d) (Contains_from_get xs k (get_or xs k d) (slice_get-get_or xs k d lt))

all_at : (P : Side → Type 0) (xs : List Side) → ((i : ℕ) (x : Side) → slice_get xs i ≡ Some x → P x) → All P xs
all_at P xs f k d lt = f k (get_or xs k d) (slice_get-get_or xs k d lt)

front : (P : Side → Type 0) (xs : List Side) (s : Side) → All P (xs ++ s ∷ []) → All P xs × P s
front P xs s all = (
  λ k d lt. subst (λ (y : Side). P y) (get_or_append_left xs (s ∷ []) d k lt) (all k d (omega (arith, length-append xs (s ∷ [])))),
  subst (λ (y : Side). P y) (get_or-append_seam xs s [] s) (all (length xs) s (omega (arith, length-append xs (s ∷ [])))),
)

-- a region of no more cells than the limit has no fewer than the pick
pub picks_low : (g : Grid) (look : Look) (free : List Bool) (limit : ℕ) (sides : List Side) (goal : Option Side) (rows : List (List ℕ)) (last : List ℕ) (none pick : Pick) → Table g free limit sides rows → length rows ≡ 2 ^ length sides → FreeMarks g look.held free
    → slice_get rows (length rows - 1) ≡ Some last → Split look sides goal → Picked g look sides last none pick → (port : Option ℕ) (cells : List ℕ) → Suits g look port cells → length cells ≤ limit → pick.size ≤ length cells
picks_low g look free limit sides goal rows last none pick t count marks is split picked port cells (may, (fit, all)) few =
    let (s, (may', asked)) = goal_for g look sides goal port split may in
    let (touched, (d, has, on)) = front (Touches g cells) sides s (subst (λ (ss : List Side). All (Touches g cells) ss) asked fit.touched) in
    let free-at = λ (x : ℕ) (h : Contains cells x). (marks x).1 (All-contains (Free g look.held) cells x all h) in
    let within = λ (x : ℕ) (h : Marked free x). slice_get_within g.sites x site.Ancilla ((marks x).0 h).0 in
    let (v, entry, le) = table_low g free limit sides rows count t within cells d free-at fit.joined touched has few in
    let whole : mask (length sides) (λ i. true) ≡ length rows - 1 = (let w = mask_all (length sides) in omega arith) in
    let (row, at-row, at-cell) = subst (λ (m : ℕ). Entry rows m d v) whole entry in
    let same : row ≡ last = same_entry rows (length rows - 1) row last at-row is in
    let low = picked.least port s d v (may', asked) on (subst (λ (r : List ℕ). slice_get r d ≡ Some v) same at-cell) in
    omega arith

-- where nothing has fewer cells, the region at hand is least
pub least_kept : (g : Grid) (look : Look) (p : Plan) (limit : ℕ) → Sound g → IsRegion g look p → length p.cells ≤ limit + 1
    → ((port : Option ℕ) (cells : List ℕ) → Suits g look port cells → length cells ≤ limit → ⊥) → IsLeast g look p.port p.cells
least_kept g look p limit sound r size none = (
  (r.port, law_region_fits g look p sound r),
  λ other others suits. elim (cases_lt limit (length others)) [
    | inl lt ↦ omega arith
    | inr le ↦ absurd (none other others suits le)
  ],
)

pub least_made : (g : Grid) (look : Look) (p : Plan) (limit size : ℕ) → Sound g → IsRegion g look p → length p.cells ≤ size → size ≤ limit
    → ((port : Option ℕ) (cells : List ℕ) → Suits g look port cells → length cells ≤ limit → size ≤ length cells) → IsLeast g look p.port p.cells
least_made g look p limit size sound r few le low = (
  (r.port, law_region_fits g look p sound r),
  λ other others suits. elim (cases_lt limit (length others)) [
    | inl lt ↦ omega arith
    | inr le' ↦ let w = low other others suits le' in omega arith
  ],
)

replicate_marked : (n x : ℕ) → Marked (replicate n false) x → ⊥
replicate_marked zero x e = absurd (cc)
replicate_marked (suc n) zero e = false≢true (let f : Some false ≡ Some true = e in grind arith)
replicate_marked (suc n) (suc x) e = replicate_marked n x e

replicate_count : (n : ℕ) → marked (replicate n false) ≡ 0
replicate_count zero = refl
replicate_count (suc n) = let e = replicate_count n in let f = sum_by-cons (λ (b : Bool). if b then 1 else 0) false (replicate n false) in omega arith

kind : (g : Grid) (look : Look) (port : Option ℕ) → MayTake g look port → is_some port ≡ look.rotation
kind g look None measured = sym measured
kind g look (Some f) (rotation, offered) = sym rotation

-- the marked cells are a region
pub planned_at : (g : Grid) (look : Look) (rows : List (List ℕ)) (pick : Pick) (marks : List Bool) (cells : List ℕ) (p : Plan) → Sound g → pick.cell < length g.sites → MarkedAt g rows pick.cell marks → ListedTo marks cells (length marks)
    → p.number ≡ look.product → p.axis ≡ look.axis → p.port ≡ pick.port → p.cells ≡ cells → (Certified (case_of g (is_some pick.port) p) ↔ (Ascending cells × Fit g look.axis pick.port cells)) → PlannedAt g look rows pick p
planned_at g look rows pick marks cells p sound low at-marks l number axis port-is cells-are certified free limit sides s t count free-marks goal on entry few =
    let cell : ℕ = pick.cell in
    let (start, start-is, tr) = at-marks free limit sides t (entry_few rows (length rows - 1) cell pick.size limit entry few) in
    let (some-size, cell-free, reason) = reason_of g free limit sides rows (length rows - 1) cell pick.size t entry few in
    let began : List Bool = slice_set (replicate (length g.sites) false) cell true in
    let was-cell = λ (x : ℕ) (h : Marked start x).
    let h' : Marked began x = subst (λ (m : List Bool). Marked m x) start-is h in
    let e : cell ≡ x = elim (get_set_cases (replicate (length g.sites) false) cell true x true h') [ inl old ↦ absurd (replicate_marked (length g.sites) x old) | inr new ↦ sym new.0 ] in e in
    let in-start : Marked start cell = subst (λ (m : List Bool). Marked m cell) (sym start-is) (get_set_here (replicate (length g.sites) false) cell true (omega (arith, length-replicate (length g.sites) false))) in
    let cell-marked : Marked marks cell = tr.kept cell in-start in
    let is-free = λ (x : ℕ) (h : Contains cells x).
    let f : Marked free x = elim (tr.on_free x (l.among x h)) [ inl old ↦ subst (λ (y : ℕ). Marked free y) (was-cell x old) cell-free | inr new ↦ new ] in (free-marks x).0 f in
    let listed = λ (x : ℕ) (h : Marked marks x). l.all x (slice_get_within marks x true h) h in
    let anc = λ (x : ℕ) (h : Contains cells x). (is-free x h).0 in
    let within = λ (x : ℕ) (h : Contains cells x). slice_get_within g.sites x site.Ancilla (anc x h) in
    let from-cell = λ (x : ℕ) (h : Contains cells x).
    let j : Joins g (Marked marks) cell x = elim (tr.joined x (l.among x h)) [
      | inl old ↦ subst (λ (y : ℕ). Joins g (Marked marks) cell y) (was-cell x old) ([], cell-marked, refl)
      | inr j ↦ j
    ] in joins_wider g (Marked marks) (Contains cells) cell x listed j in
    let joined : AreJoined g cells = λ a b ha hb. joins_on g (Contains cells) a cell b (joins_back g (Contains cells) within cell a (from-cell a ha)) (from-cell b hb) in
    let ancilla : All (IsAncilla g) cells = all_contained (IsAncilla g) cells anc in
    let has : Contains cells cell = listed cell cell-marked in
    let size : length rows - 1 + 1 ≡ 2 ^ length sides = omega (arith, reason.1, slice_get_within rows (length rows - 1) reason.0 reason.1) in
    let on-side = λ (i : ℕ) (x : Side) (e : slice_get sides i ≡ Some x).
    let (d, m, lies) = tr.touched i x (all_has (length sides) (length rows - 1) i size (slice_get_within sides i x e)) e in
    let touch : Touches g cells x = (d, listed d m, lies) in touch in
    let touched : All (Touches g cells) (wanted_sides look.axis pick.port) = subst (λ (ss : List Side). All (Touches g cells) ss) (sym goal.1)
    (All-append (Touches g cells) sides (s ∷ []) (all_at (Touches g cells) sides on-side) (All-cons (Touches g cells) s [] (cell, has, on) (λ k d lt. absurd (omega arith)))) in
    let fit : Fit g look.axis pick.port cells = record {
      some = (let (k, lt, e) = has in omega arith);
      distinct = cells_distinct g cells (cells_fit g cells ancilla l.ascending);
      ancilla = ancilla;
      joined = joined;
      touched = touched;
    } in
    let certificate : Certified (case_of g (is_some pick.port) p) = certified.1 (l.ascending, fit) in
    let count-start : marked start ≤ 1 = subst (λ (m : List Bool). marked m ≤ 1) (sym start-is)
    (let a = count_one (replicate (length g.sites) false) cell (omega (arith, length-replicate (length g.sites) false)) in let b = replicate_count (length g.sites) in omega arith) in
    let fewer = tr.few pick.size entry in
    let whole : take (length marks) marks ≡ marks = take-length marks in
    let total : length cells ≡ marked marks = l.count ∙ ap marked whole in (
      record {
        number = number;
        axis = axis;
        port = subst (λ (o : Option ℕ). MayTake g look o) (sym port-is) goal.0;
        free = subst (λ (cs : List ℕ). All (Free g look.held) cs) (sym cells-are) (all_contained (Free g look.held) cells is-free);
        certified = subst (λ (b : Bool). Certified (case_of g b p)) (kind g look pick.port goal.0) certificate;
      },
      subst (λ (cs : List ℕ). length cs ≤ pick.size) (sym cells-are) (omega arith),
    )

-- the pick of a size that isn't above the limit lies on a goal
pub pick_there : (g : Grid) (look : Look) (sides : List Side) (rows : List (List ℕ)) (limit : ℕ) (pick : Pick) → Searched g look sides rows limit pick → pick.size ≤ limit
    → (s : Side) × IsGoal g look sides pick.port s × OnSide g s pick.cell × Entry rows (length rows - 1) pick.cell pick.size
pick_there g look sides rows limit pick (last, none, is, size, picked) few =
    elim picked.is [
      | inl same ↦ absurd (let e : pick.size ≡ none.size = ap (λ (p : Pick). p.size) same in omega arith)
      | inr (s, goal, on, here) ↦ (s, goal, on, (last, is, here))
    ]

split_length : (axis : Signed) → length (wanted_sides axis None) ≡ length (sides_from 0 axis.letters)
split_length axis = omega (arith, length-append (sides_from 0 axis.letters) (port_side None))

-- the last side was taken off
pub popped : (look : Look) (old new : List Side) (r : Option Side) → look.rotation ≡ false → old ≡ wanted_sides look.axis None → IsSome r → old ≡ new ++ option_to_list r → Split look new r × (length new + 1 ≡ width look)
popped look old new None measured e some items = absurd (false≢true some)
popped look old new (Some s) measured e some items = (
  (measured, sym e ∙ items),
  let a = ap length items in
      let b = ap length e in
      let w : width look ≡ length (sides_from 0 look.axis.letters) + 0 = subst (λ (b : Bool). width look ≡ length (sides_from 0 look.axis.letters) + (if b then 1 else 0)) measured refl in
      omega (arith, split_length look.axis, length-append new (s ∷ [])),
)

-- the table for the look, and the pick of its last row
pub record Setting (g : Grid) (look : Look) (free : List Bool) (limit : ℕ) (sides : List Side) (goal : Option Side) (rows : List (List ℕ)) (pick : Pick) : Type 0 where
  pub sound : Sound g
  pub table : Table g free limit sides rows
  pub count : length rows ≡ 2 ^ length sides
  pub marks : FreeMarks g look.held free
  pub split : Split look sides goal
  pub found : Searched g look sides rows limit pick

pub setting_of : (g : Grid) (look : Look) (free given : List Bool) (held : List (Option ℕ)) (limit : ℕ) (sides kept : List Side) (goal : Option Side) (rows same : List (List ℕ)) (pick : Pick) → Sound g → Table g free limit sides rows
    → length rows ≡ 2 ^ length sides → free ≡ given → held ≡ look.held → FreeMarks g held given → sides ≡ kept → Split look kept goal → same ≡ rows → ((ss : List Side) → Split look ss goal → Searched g look ss same limit pick)
    → Setting g look free limit sides goal rows pick
setting_of g look free given held limit sides kept goal rows same pick sound t count free-is held-is marks sides-are split same-is found =
    let split' : Split look sides goal = subst (λ (ss : List Side). Split look ss goal) (sym sides-are) split in
    record {
      sound = sound;
      table = t;
      count = count;
      marks = subst (λ (f : List Bool). FreeMarks g look.held f) (sym free-is) (subst (λ (h : List (Option ℕ)). FreeMarks g h given) held-is marks);
      split = split';
      found = subst (λ (r : List (List ℕ)). Searched g look sides r limit pick) same-is (found sides split');
    }

setting_low : (g : Grid) (look : Look) (free : List Bool) (limit : ℕ) (sides : List Side) (goal : Option Side) (rows : List (List ℕ)) (pick : Pick) → Setting g look free limit sides goal rows pick
    → (port : Option ℕ) (cells : List ℕ) → Suits g look port cells → length cells ≤ limit → pick.size ≤ length cells
setting_low g look free limit sides goal rows pick w = picks_low g look free limit sides goal rows w.found.0 w.found.1 pick w.table w.count w.marks w.found.2 w.split w.found.4

pub shrunk_not : (g : Grid) (look : Look) (free : List Bool) (limit : ℕ) (sides : List Side) (goal : Option Side) (rows : List (List ℕ)) (pick : Pick) (p : Plan) → Setting g look free limit sides goal rows pick
    → IsRegion g look p → limit + 1 ≡ length p.cells → limit < pick.size → IsRegion g look p × IsLeast g look p.port p.cells
shrunk_not g look free limit sides goal rows pick p w r size above = (
  r,
  least_kept g look p limit w.sound r (omega arith) (λ port cells suits few. let v = setting_low g look free limit sides goal rows pick w port cells suits few in omega arith),
)

pub shrunk : (g : Grid) (look : Look) (free : List Bool) (limit : ℕ) (sides : List Side) (goal : Option Side) (rows same : List (List ℕ)) (pick : Pick) (p : Plan) → Setting g look free limit sides goal rows pick
    → pick.size ≤ limit → same ≡ rows → PlannedAt g look same pick p → IsRegion g look p × IsLeast g look p.port p.cells
shrunk g look free limit sides goal rows same pick p w few same-is planned =
    let (s, goal', on, entry) = pick_there g look sides rows limit pick w.found few in
    let planned' : PlannedAt g look rows pick p = subst (λ (r : List (List ℕ)). PlannedAt g look r pick p) same-is planned in
    let (r, le) = planned' free limit sides s w.table w.count w.marks goal' on entry few in
    (r, least_made g look p limit pick.size w.sound r le few (setting_low g look free limit sides goal rows pick w))

pub there_cell : (g : Grid) (look : Look) (free : List Bool) (limit : ℕ) (sides : List Side) (goal : Option Side) (rows : List (List ℕ)) (pick : Pick) → Setting g look free limit sides goal rows pick → pick.size ≤ limit → pick.cell < length g.sites
there_cell g look free limit sides goal rows pick w few =
    let (s, goal', on, entry) = pick_there g look sides rows limit pick w.found few in
    slice_get_within g.sites pick.cell site.Ancilla (law_sides g s pick.cell on)

pub there_size : (g : Grid) (look : Look) (free : List Bool) (limit : ℕ) (sides : List Side) (goal : Option Side) (rows same : List (List ℕ)) (pick : Pick) → Setting g look free limit sides goal rows pick → pick.size ≤ limit → limit ≤ 4096 → same ≡ rows
    → (v : ℕ) → Entry same (length same - 1) pick.cell v → v ≤ 4096
there_size g look free limit sides goal rows same pick w few le same-is =
    let (s, goal', on, entry) = pick_there g look sides rows limit pick w.found few in
    let all : (v : ℕ) → Entry rows (length rows - 1) pick.cell v → v ≤ 4096 = entry_few rows (length rows - 1) pick.cell pick.size 4096 entry (omega arith) in
    subst (λ (r : List (List ℕ)). (v : ℕ) → Entry r (length r - 1) pick.cell v → v ≤ 4096) (sym same-is) all

pub has_rows : (g : Grid) (free : List Bool) (limit : ℕ) (sides : List Side) (rows same : List (List ℕ)) → Table g free limit sides rows → same ≡ rows → HasRows same (length g.sites)
has_rows g free limit sides rows same t same-is = subst (λ (r : List (List ℕ)). HasRows r (length g.sites)) (sym same-is) (λ m row is. ((t m row is).0.sizes, (t m row is).0.some))

pub planned_ok : {E : Type 0} (g : Grid) (look : Look) (rows : List (List ℕ)) (pick : Pick) (marks same : List Bool) (items cells : List ℕ) (axis : Signed) (r : Result Plan E) → Sound g → pick.cell < length g.sites → MarkedAt g rows pick.cell marks
    → same ≡ marks → ListedTo same items (length same) → axis ≡ look.axis → cells ≡ items → IfOk r (λ p. p.number ≡ look.product) → IfOk r (λ p. p.axis ≡ axis) → IfOk r (λ p. p.port ≡ pick.port) → IfOk r (λ p. p.cells ≡ cells)
    → IfOk r (λ p. Certified (case_of g (is_some pick.port) p) ↔ (Ascending cells × Fit g axis pick.port cells)) → IfOk r (PlannedAt g look rows pick)
planned_ok g look rows pick marks same items cells axis (Err e) sound low at-marks same-is l axis-is cells-is number axis' port cells' certified = tt
planned_ok g look rows pick marks same items cells axis (Ok p) sound low at-marks same-is l axis-is cells-is number axis' port cells' certified =
    planned_at g look rows pick marks items p sound low at-marks (subst (λ (m : List Bool). ListedTo m items (length m)) same-is l) number (axis' ∙ axis-is) port (cells' ∙ cells-is)
    (subst (λ (a : Signed). Certified (case_of g (is_some pick.port) p) ↔ (Ascending items × Fit g a pick.port items)) axis-is
    (subst (λ (xs : List ℕ). Certified (case_of g (is_some pick.port) p) ↔ (Ascending xs × Fit g axis pick.port xs)) cells-is certified))

pub region_some : (g : Grid) (look : Look) (p : Plan) → Sound g → IsRegion g look p → (0 < length p.cells) × (length p.cells ≤ 4096)
region_some g look p sound r = (r.certified.0.0.0.0.some, few_cells g p.cells (length p.cells) sound r.certified.0.0.1)

pub rows_few : (k n : ℕ) → n ≡ 2 ^ k → k ≤ 5 → (0 < n) × (n ≤ 64)
rows_few k n e le = let w : 2 ^ k ≤ 2 ^ 5 = pow_mono le in let p = pow_pos k in (omega arith, omega arith)

pub sides_few : (look : Look) (sides : List Side) → length sides + 1 ≡ width look → width look ≤ 6 → length sides ≤ 5
sides_few look sides e le = omega arith
