-- Legal histories: each entry is allowed after the entries before it.
use Rattle.std.specs.Prelude.{◌≡◌, ℕ, Bool, false, ◌<◌, ◌%◌, ◌≢◌, slice_get, List, length, take, Contains, Option, Some, None, IsSome}
use Rattle.std.specs.Prelude.{◌⊎◌}
use Rattle.pauli_product.specs.declared.Letter.{Letter}
use Rattle.pauli_product.specs.declared.Letter.TheVariants as letter
use Rattle.pauli_product.specs.Signed.{Signed}
use Rattle.source_model.specs.declared.Given.{Given}
use Rattle.source_model.specs.declared.Given.TheVariants as given
use Rattle.source_model.specs.declared.Kind.{Kind}
use Rattle.source_model.specs.declared.Kind.TheVariants as kind
use Rattle.source_model.specs.declared.Static.{Static}
use Rattle.source_model.specs.SourceRun.{axes, fresh, flips, progress_after}
use Rattle.source_model.specs.Statics.{static_items, commuting}
use Rattle.patch_layout.specs.Grid.{Grid, HasStore}
use Rattle.patch_layout.specs.declared.layout.Site.TheVariants as site
use Rattle.patch_layout.specs.Region.{Fit}
use Rattle.patch_layout.specs.Case.{Ascending}
use Rattle.magic_pool.specs.declared.Fail.{Fail}
use Rattle.magic_pool.specs.Recount.{ready_of, step_count, first_of_list}
use Rattle.board_core.specs.declared.Entry.{Entry}
use Rattle.board_core.specs.declared.Entry.TheVariants.{Claim, Deliver, Release, Step, Settle}
use Rattle.board_core.specs.History.{History, delivered, claim_place, done_place, release_place, steps, taken_states, known}

-- what a history is legal for: static products, a layout, and failing runs
pub record BoardJob : Type 0 where
  pub products : List Static
  pub grid : Grid
  pub fails : List Fail

-- the axis that the source order gives p, with the outcomes known in h and 0 for the others
abbrev pub AxisOf : BoardJob → History → ℕ → Signed → Type 0
AxisOf j h p axis = slice_get (axes (static_items j.products) (known j.products h)) p ≡ Some axis

-- whether p flips where its circuit is run with the outcomes known in h
abbrev pub FlipOf : BoardJob → History → ℕ → Bool → Type 0
FlipOf j h p flip =
    (s : Static) × (first : ℕ) × (size : ℕ) × (value : ℕ) × (slice_get j.products p ≡ Some s) × (s.kind ≡ kind.Settle first size value)
    × (flips (progress_after fresh (static_items (take p j.products)) (known j.products h)) first size value ≡ flip)

-- each earlier product that doesn't commute with p is done
abbrev pub Ready : BoardJob → History → ℕ → Type 0
Ready j h p =
    (q : ℕ) (s t : Static) → q < p → slice_get j.products q ≡ Some s → slice_get j.products p ≡ Some t → commuting s t ≡ false → IsSome (done_place h q)

-- the cells that a claim holds: its region, the patches at the letters of its axis other than I, and its port
abbrev pub ClaimCell : Grid → Signed → Option ℕ → List ℕ → ℕ → Type 0
ClaimCell g axis through cells c =
    Contains cells c
    ⊎ ((q : ℕ) × (l : Letter) × (level : Bool) × (slice_get g.sites c ≡ Some (site.Patch q level)) × (slice_get axis.letters q ≡ Some l) × (l ≢ letter.I))
    ⊎ ((f : ℕ) × (level : Bool) × (store : ℕ) × (slice_get g.sites c ≡ Some (site.Port f level store)) × (through ≡ Some f))

-- p holds the cell: it has a claim of it and no release
abbrev pub Holds : Grid → History → ℕ → ℕ → Type 0
Holds g h p c =
    (place : ℕ) × (axis : Signed) × (through state : Option ℕ) × (cells : List ℕ)
    × (slice_get h place ≡ Some (Claim p axis through state cells)) × (release_place h p ≡ None) × ClaimCell g axis through cells c

abbrev pub IsKind : Kind → Given → Type 0
IsKind kind.Rotation (given.Rotation raw x) = Unit {0}
IsKind (kind.Measure bit) (given.Measure raw) = Unit {0}
IsKind _ _ = ⊥

-- a claim's port and state: for a rotation the least ready state of the port, for a measurement none
abbrev pub TakesState : BoardJob → History → Kind → Option ℕ → Option ℕ → Type 0
TakesState j h kind.Rotation through state =
    (f : ℕ) × (s : ℕ) × (through ≡ Some f) × (state ≡ Some s) × (first_of_list (ready_of j.fails (steps h) (taken_states h) f) ≡ Some s)
TakesState j h (kind.Measure bit) through state = (through ≡ None) × (state ≡ None)
TakesState j h (kind.Settle first size value) through state = ⊥

-- what a claim asks of the history before it
pub record ClaimAllowed (j : BoardJob) (h : History) (p : ℕ) (axis : Signed) (through state : Option ℕ) (cells : List ℕ) : Type 0 where
  pub product : (s : Static) × (slice_get j.products p ≡ Some s) × TakesState j h s.kind through state
  pub unclaimed : claim_place h p ≡ None
  pub ready : Ready j h p
  pub axis_of : AxisOf j h p axis
  pub fits : Fit j.grid axis through cells
  pub ascending : Ascending cells
  pub free : (c q : ℕ) → ClaimCell j.grid axis through cells c → Holds j.grid h q c → ⊥

-- what each kind of entry asks of the history before it
abbrev pub Allowed : BoardJob → History → Entry → Type 0
Allowed j h (Claim p axis through state cells) = ClaimAllowed j h p axis through state cells
Allowed j h (Deliver p g) =
    IsSome (claim_place h p) × (done_place h p ≡ None) × ((s : Static) × (slice_get j.products p ≡ Some s) × IsKind s.kind g)
Allowed j h (Release p) = IsSome (delivered h p) × (release_place h p ≡ None)
Allowed j h (Step f) =
    (store : ℕ) × HasStore j.grid f store
    × ((step_count f (steps h) % 11 ≢ 0) ⊎ (length (ready_of j.fails (steps h) (taken_states h) f) < store))
Allowed j h (Settle p flip) = (done_place h p ≡ None) × Ready j h p × FlipOf j h p flip

-- each entry is allowed after the entries before it
abbrev pub Legal : BoardJob → History → Type 0
Legal j h = (n : ℕ) (e : Entry) → slice_get h n ≡ Some e → Allowed j (take n h) e

-- every rotation and measurement has a claim, a delivery with the table's outcome and a release, and every settled product is settled
abbrev pub CompleteAt : History → ℕ → Given → Kind → Type 0
CompleteAt h p g kind.Rotation = IsSome (claim_place h p) × (delivered h p ≡ Some g) × IsSome (release_place h p)
CompleteAt h p g (kind.Measure bit) = IsSome (claim_place h p) × (delivered h p ≡ Some g) × IsSome (release_place h p)
CompleteAt h p g (kind.Settle first size value) = IsSome (done_place h p)

abbrev pub Complete : BoardJob → History → List Given → Type 0
Complete j h table =
    (p : ℕ) (s : Static) (g : Given) → slice_get j.products p ≡ Some s → slice_get table p ≡ Some g → CompleteAt h p g s.kind
