-- The laws of a circuit's run.
use Rattle.std.specs.Prelude.{◌≡◌, ℕ, true, List, take, Some, slice_get}
use Rattle.pauli_product.specs.Signed.{Signed}
use Rattle.source_model.specs.declared.Item.{Item}
use Rattle.source_model.specs.declared.Given.{Given}
use Rattle.source_model.specs.declared.Static.{Static}
use Rattle.source_model.specs.SourceRun.{axes, bit_after}
use Rattle.source_model.specs.Bits.{effective_outcomes, last_outcome_into}
use Rattle.source_model.specs.Statics.{statics, static_items, kinds_of}
use Rattle.source_model.specs.Circuits.{AxesOfLength, RightKinds, kinds}
use Rattle.source_model.specs.Used.{UsedBy, takes_region, acts_at}

-- a product's axis depends on the outcomes of the products before it alone
abbrev pub LaterOutcomesDontMatter : Type 0
LaterOutcomesDontMatter = (items : List Item) (gs hs : List Given) (k : ℕ) → take k gs ≡ take k hs →
    slice_get (axes items gs) k ≡ slice_get (axes items hs) k

-- a bit is the effective outcome of the last product that measures into it, and 0 where there is none
abbrev pub BitsAreLastOutcomes : Type 0
BitsAreLastOutcomes = (items : List Item) (gs : List Given) (bit : ℕ) → RightKinds items gs →
    bit_after items gs bit ≡ last_outcome_into bit (kinds items) (effective_outcomes (axes items gs) gs)

-- the static products have the kinds of the items' products
abbrev pub StaticsKeepKinds : Type 0
StaticsKeepKinds = (items : List Item) → kinds_of (statics items) ≡ kinds items

-- and so have their items
abbrev pub StaticItemsKeepKinds : Type 0
StaticItemsKeepKinds = (products : List Static) → kinds (static_items products) ≡ kinds_of products

-- the static products of a static circuit are those that it was made of
abbrev pub StaticsStay : Type 0
StaticsStay = (products : List Static) → statics (static_items products) ≡ products

-- a circuit and its static circuit have the same axes
abbrev pub StaticsRunAlike : Type 0
StaticsRunAlike = (n : ℕ) (items : List Item) (gs : List Given) → AxesOfLength n items →
    axes items gs ≡ axes (static_items (statics items)) gs

-- and the same bits
abbrev pub StaticsWriteAlike : Type 0
StaticsWriteAlike = (n : ℕ) (items : List Item) (gs : List Given) (bit : ℕ) → AxesOfLength n items →
    bit_after items gs bit ≡ bit_after (static_items (statics items)) gs bit

-- a rotation or a measurement is carried out about an axis that has I wherever no static axis of one has another letter
abbrev pub AxesStayOnUsed : Type 0
AxesStayOnUsed = (n : ℕ) (items : List Item) (gs : List Given) (k : ℕ) (s : Static) (axis : Signed) (q : ℕ) → AxesOfLength n items →
    slice_get (statics items) k ≡ Some s → takes_region s.kind ≡ true → slice_get (axes items gs) k ≡ Some axis → acts_at axis q ≡ true →
    UsedBy (statics items) q
