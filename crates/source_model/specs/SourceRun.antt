-- The source run: a circuit's items carried out one at a time in source order.
use Rattle.std.specs.Prelude.{ℕ, Bool, true, false, ◌==◌, if◌then◌else◌, List, [], ◌∷◌, ◌++◌}
use Rattle.source_model.specs.declared.Angle.TheVariants.{Eighth, Quarter, Half}
use Rattle.source_model.specs.declared.Item.{Item}
use Rattle.source_model.specs.declared.Item.TheVariants as item
use Rattle.source_model.specs.declared.Given.{Given}
use Rattle.source_model.specs.declared.Given.TheVariants.{Settled}
use Rattle.pauli_product.specs.Signed.{Signed}
use Rattle.pauli_product.specs.Pulls.{Turn, turn, quarter, half, pull}
use Rattle.pauli_product.specs.Corrections.{effective, corrections}
use Rattle.source_model.specs.Outcomes.{raw_of, x_of, bit_of}
use Rattle.pauli_product.specs.Bits.{number_of}

-- what a run has so far: the Clifford turns in time order, and the bits written, the newest first
pub record Progress : Type 0 where
  pub turns : List Turn
  pub writes : List (ℕ × Bool)

-- before the first item
abbrev pub fresh : Progress
fresh = record { turns = []; writes = [] }

-- further turns, later in time
abbrev pub turned : List Turn → Progress → Progress
turned more f = record f { turns = f.turns ++ more }

-- the signed axis about which an item is carried out
abbrev pub axis_in : Progress → Signed → Signed
axis_in f axis = pull f.turns axis

-- a settled product flips where the bits that it reads spell its value
abbrev pub flips : Progress → ℕ → ℕ → ℕ → Bool
flips f first size value = number_of (bit_of f.writes) first size == value

-- an item that takes an outcome: an eighth, a measurement or a settled product
abbrev pub is_product : Item → Bool
is_product (item.Turn axis Eighth) = true
is_product (item.Turn axis Quarter) = false
is_product (item.Turn axis Half) = false
is_product (item.Measure axis bit) = true
is_product (item.If axis first size value) = true

-- an item's own axis
abbrev pub axis_of : Item → Signed
axis_of (item.Turn axis angle) = axis
axis_of (item.Measure axis bit) = axis
axis_of (item.If axis first size value) = axis

-- what an item leaves, with the outcome of its product: a rotation's corrections are about its own axis (Litinski 2019, section 1)
abbrev pub after : Progress → Item → Given → Progress
after f (item.Turn axis Eighth) given = turned (corrections (axis_in f axis) axis (raw_of given) (x_of given)) f
after f (item.Turn axis Quarter) given = turned (turn axis quarter ∷ []) f
after f (item.Turn axis Half) given = turned (turn axis half ∷ []) f
after f (item.Measure axis bit) given = record f { writes = (bit, effective (axis_in f axis) (raw_of given)) ∷ f.writes }
after f (item.If axis first size value) given = if flips f first size value then turned (turn axis half ∷ []) f else f

-- the outcome at the head of a table
abbrev pub next_of : List Given → Given
next_of [] = Settled
next_of (g ∷ gs) = g

-- the table after its head
abbrev pub rest_of : List Given → List Given
rest_of [] = []
rest_of (g ∷ gs) = gs

-- the signed axis of each product of the items, in source order, with a table that has one outcome per product
abbrev pub axes_from : Progress → List Item → List Given → List Signed
axes_from f [] gs = []
axes_from f (i ∷ is) gs =
    if is_product i then (axis_in f (axis_of i) ∷ axes_from (after f i (next_of gs)) is (rest_of gs))
    else axes_from (after f i Settled) is gs

-- what there is after all items
abbrev pub progress_after : Progress → List Item → List Given → Progress
progress_after f [] gs = f
progress_after f (i ∷ is) gs =
    if is_product i then progress_after (after f i (next_of gs)) is (rest_of gs)
    else progress_after (after f i Settled) is gs

-- the signed axis of each product of a circuit's items
abbrev pub axes : List Item → List Given → List Signed
axes items gs = axes_from fresh items gs

-- the value of a bit after the run
abbrev pub bit_after : List Item → List Given → ℕ → Bool
bit_after items gs bit = bit_of (progress_after fresh items gs).writes bit
