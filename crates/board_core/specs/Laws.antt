-- What holds of every legal history.
use Rattle.std.specs.Prelude.{◌≡◌, ◌≢◌, ◌⊎◌, ℕ, Bool, false, ◌<◌, slice_get, List, [], ◌∷◌, ◌++◌, length, take, All, AllPairs, Some, None, IsSome, is_some}
use Rattle.std.specs.Option.{option_or}
use Rattle.pauli_product.specs.Signed.{Signed, OfLength}
use Rattle.pauli_product.specs.Pulls.{carry}
use Rattle.source_model.specs.declared.Item.{Item}
use Rattle.source_model.specs.declared.Given.{Given}
use Rattle.source_model.specs.declared.Kind.{Kind}
use Rattle.source_model.specs.declared.Kind.TheVariants as kind
use Rattle.source_model.specs.declared.Static.{Static}
use Rattle.source_model.specs.SourceRun.{axes, fresh, flips, progress_after}
use Rattle.source_model.specs.Statics.{static_items, commuting, statics}
use Rattle.source_model.specs.Circuits.{AxesOfLength, RightKinds}
use Rattle.patch_layout.specs.Grid.{Grid}
use Rattle.magic_pool.specs.declared.Fail.{Fail}
use Rattle.board_core.specs.declared.Entry.{Entry}
use Rattle.board_core.specs.declared.Entry.TheVariants.{Deliver}
use Rattle.board_core.specs.declared.Noted.{Noted}
use Rattle.board_core.specs.History.{History, entries, delivered, claim_place, done_place, release_place, taken_states}
use Rattle.board_core.specs.Legal.{BoardJob, AxisOf, FlipOf, Ready, Holds, Allowed, Legal, Complete}
use Rattle.board_core.specs.Orders.{InSourceOrderUpToSwaps, steps_of}
use Rattle.trace_laws.specs.Runs.{source_axis, source_flip}
use Rattle.board_core.specs.View.{claimed_axis, turns_of}
use Rattle.board_core.specs.Headline.{job_of, IsOneLegalHistory}

-- a legal history that is complete for a table of the right kinds keeps what a written history promises
abbrev pub LegalAndCompleteIsTheHeadline : Type 0
LegalAndCompleteIsTheHeadline = (n : ℕ) (items : List Item) (grid : Grid) (fails : List Fail) (table : List Given) (h : History) →
    AxesOfLength n items → RightKinds items table → Legal (job_of items grid fails) h → Complete (job_of items grid fails) h table →
    IsOneLegalHistory items grid fails table h

-- the history delivers the outcome for the product; a settled product has none
abbrev pub Delivers : History → ℕ → Given → Kind → Type 0
Delivers h q g kind.Rotation = delivered h q ≡ Some g
Delivers h q g (kind.Measure bit) = delivered h q ≡ Some g
Delivers h q g (kind.Settle first size value) = Unit {0}

-- the history delivers the table's outcome for each product below p
abbrev pub DeliversBelow : BoardJob → History → List Given → ℕ → Type 0
DeliversBelow j h table p =
    (q : ℕ) (s : Static) (g : Given) → q < p → slice_get j.products q ≡ Some s → slice_get table q ≡ Some g → Delivers h q g s.kind

-- there, p's axis is the one that the whole table gives it
abbrev pub AxisIsKnown : Type 0
AxisIsKnown = (j : BoardJob) (h : History) (table : List Given) (p : ℕ) (axis : Signed) →
    length table ≡ length j.products → DeliversBelow j h table p →
    slice_get (axes (static_items j.products) table) p ≡ Some axis → AxisOf j h p axis

-- and for a circuit's static products it is the one that the circuit's own run gives
abbrev pub OwnAxisIsKnown : Type 0
OwnAxisIsKnown = (n : ℕ) (items : List Item) (grid : Grid) (fails : List Fail) (h : History) (table : List Given) (p : ℕ) (axis : Signed) →
    AxesOfLength n items → RightKinds items table → DeliversBelow (job_of items grid fails) h table p →
    slice_get (axes items table) p ≡ Some axis → AxisOf (job_of items grid fails) h p axis

-- nor does a flip depend on outcomes of later products
abbrev pub FlipIsKnown : Type 0
FlipIsKnown = (j : BoardJob) (h : History) (table : List Given) (p : ℕ) (s : Static) (first size value : ℕ) (flip : Bool) →
    length table ≡ length j.products → DeliversBelow j h table p →
    slice_get j.products p ≡ Some s → s.kind ≡ kind.Settle first size value →
    flips (progress_after fresh (static_items (take p j.products)) table) first size value ≡ flip → FlipOf j h p flip

-- nothing happened yet
abbrev pub EmptyIsLegal : Type 0
EmptyIsLegal = (j : BoardJob) → Legal j []

-- one more entry that is allowed
abbrev pub AllowedGoesOn : Type 0
AllowedGoesOn = (j : BoardJob) (h : History) (e : Entry) → Legal j h → Allowed j h e → Legal j (h ++ e ∷ [])

-- and each entry of a legal history is allowed after a legal history
abbrev pub LegalGoesBack : Type 0
LegalGoesBack = (j : BoardJob) (h : History) (e : Entry) → Legal j (h ++ e ∷ []) → Legal j h × Allowed j h e

-- the front of a legal history is legal
abbrev pub FrontIsLegal : Type 0
FrontIsLegal = (j : BoardJob) (h : History) (n : ℕ) → Legal j h → Legal j (take n h)

-- ---- what stands in a history
-- one more entry, whoever made it
abbrev pub EntriesGoOn : Type 0
EntriesGoOn = (log : List Noted) (by : ℕ) (e : Entry) →
    entries (log ++ (record { by = by; entry = e }) ∷ []) ≡ entries log ++ e ∷ []

-- the first delivery of a product counts, and so does the axis of its first claim
abbrev pub DeliveriesGoOn : Type 0
DeliveriesGoOn = (h es : History) (p : ℕ) → delivered (h ++ es) p ≡ option_or (delivered h p) (delivered es p)

abbrev pub ClaimsGoOn : Type 0
ClaimsGoOn = (h es : History) (p : ℕ) → claimed_axis (h ++ es) p ≡ option_or (claimed_axis h p) (claimed_axis es p)

-- a product has a claim exactly where it has a claimed axis
abbrev pub ClaimsHaveAxes : Type 0
ClaimsHaveAxes = (h : History) (p : ℕ) → is_some (claim_place h p) ≡ is_some (claimed_axis h p)

-- what is delivered stands in the history
abbrev pub DeliveriesStand : Type 0
DeliveriesStand = (h : History) (p : ℕ) (g : Given) → delivered h p ≡ Some g →
    (n : ℕ) × (slice_get h n ≡ Some (Deliver p g))

-- what is delivered is done
abbrev pub UndoneIsUndelivered : Type 0
UndoneIsUndelivered = (h : History) (p : ℕ) → done_place h p ≡ None → delivered h p ≡ None

-- what is released was claimed
abbrev pub ReleasedIsClaimed : Type 0
ReleasedIsClaimed = (j : BoardJob) (h : History) (p : ℕ) → Legal j h → IsSome (release_place h p) → IsSome (claim_place h p)

-- a table of the right kinds has one outcome for each static product
abbrev pub TablesFit : Type 0
TablesFit = (items : List Item) (table : List Given) → RightKinds items table → length table ≡ length (statics items)

-- ---- swaps under corrections
abbrev pub ProductsOfLength : ℕ → List Static → Type 0
ProductsOfLength n products = All (λ s. OfLength n s.axis) products

-- a table that has each outcome that the history delivers
abbrev pub Agrees : List Given → History → Type 0
Agrees table h = (q : ℕ) (g : Given) → delivered h q ≡ Some g → slice_get table q ≡ Some g

-- each claim has the axis and sign of the source run, by every table that agrees with the deliveries
abbrev pub ClaimsHaveSourceAxes : Type 0
ClaimsHaveSourceAxes = (n : ℕ) (j : BoardJob) (table : List Given) (h : History) (p : ℕ) (axis : Signed) →
    ProductsOfLength n j.products → length table ≡ length j.products → Legal j h → Agrees table h → claimed_axis h p ≡ Some axis →
    slice_get (axes (static_items j.products) table) p ≡ Some axis

-- the source run that the laws of orders speak of is the circuit's own: it has its axes, whatever the outcomes
abbrev pub AxesAreSourceAxes : Type 0
AxesAreSourceAxes = (products : List Static) (table : List Given) (p : ℕ) (s : Static) →
    length table ≡ length products → slice_get products p ≡ Some s →
    slice_get (axes (static_items products) table) p ≡ source_axis (steps_of products table) p

-- and its flips
abbrev pub FlipsAreSourceFlips : Type 0
FlipsAreSourceFlips = (products : List Static) (table : List Given) (p : ℕ) (s : Static) (first size value : ℕ) →
    length table ≡ length products → slice_get products p ≡ Some s → s.kind ≡ kind.Settle first size value →
    flips (progress_after fresh (static_items (take p products)) table) first size value ≡ source_flip (steps_of products table) p

-- products are done in source order up to swaps of commuting neighbours
abbrev pub OrderIsSourceOrderUpToSwaps : Type 0
OrderIsSourceOrderUpToSwaps = (n : ℕ) (j : BoardJob) (table : List Given) (h : History) →
    ProductsOfLength n j.products → length table ≡ length j.products → Legal j h → Agrees table h →
    InSourceOrderUpToSwaps j.products table h

-- from its claim to its delivery a product's axis stays, whatever is delivered or settled between
abbrev pub ClaimedAxisStays : Type 0
ClaimedAxisStays = (n : ℕ) (j : BoardJob) (h : History) (p : ℕ) (axis : Signed) (s : Static) →
    ProductsOfLength n j.products → Legal j h → slice_get j.products p ≡ Some s → claimed_axis h p ≡ Some axis → done_place h p ≡ None →
    carry (turns_of j.products h) s.axis ≡ axis

-- the axis kept by corrections about executed axes, in any order, is that of the source run, for a product that isn't done and waits on none
abbrev pub FrameIsSource : Type 0
FrameIsSource = (n : ℕ) (j : BoardJob) (h : History) (p : ℕ) (s : Static) →
    ProductsOfLength n j.products → Legal j h → slice_get j.products p ≡ Some s → done_place h p ≡ None → Ready j h p →
    AxisOf j h p (carry (turns_of j.products h) s.axis)

-- a product that doesn't commute with an earlier k is neither claimed nor settled before what k waits for is done, even if it commutes with that
abbrev pub ThirdHoldsBack : Type 0
ThirdHoldsBack = (n : ℕ) (j : BoardJob) (h : History) (i k p : ℕ) (s t u : Static) →
    ProductsOfLength n j.products → Legal j h → i < k → k < p →
    slice_get j.products i ≡ Some s → slice_get j.products k ≡ Some t → slice_get j.products p ≡ Some u →
    commuting s t ≡ false → commuting t u ≡ false → IsSome (claim_place h p) ⊎ IsSome (done_place h p) →
    IsSome (done_place h i)

-- a cell has one holder
abbrev pub RegionsAreApart : Type 0
RegionsAreApart = (j : BoardJob) (h : History) (p q c : ℕ) → Legal j h → Holds j.grid h p c → Holds j.grid h q c → p ≡ q

-- no two claims have one state
abbrev pub StatesServeOnce : Type 0
StatesServeOnce = (j : BoardJob) (h : History) → Legal j h → AllPairs (λ s t. s ≢ t) (taken_states h)
