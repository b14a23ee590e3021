-- The laws of orders of products, each over products on n qubits.
use Rattle.std.specs.Prelude.{◌≡◌, ℕ, ◌+◌, ◌<◌, ◌≤◌, true, false, Bool, ◌||◌, List, [], ◌∷◌, ◌++◌, length, map, Some, slice_get}
use Rattle.pauli_product.specs.Signed.{Signed}
use Rattle.pauli_product.specs.Pulls.{pull}
use Rattle.pauli_product.specs.Bits.{number_of}
use Rattle.trace_laws.specs.Steps.{Step, StepsOfLength, axes_commute, commuting, pass, act_writes, bare}
use Rattle.trace_laws.specs.Runs.{begun, executed_axis, axis_now, bit_below, flips_in_order, all_carried_out, plain, run, run_with, source_flip, source_axis}
use Rattle.trace_laws.specs.Orders.{upto, stands, others, Exchanged, SwapEqual, Waiting, Next, NoneReversed, OrderOfAll}

-- neighbours whose static axes commute change places, and no product's axis changes, whatever flips
abbrev pub NeighboursKeepAxes : Type 0
NeighboursKeepAxes = (n : ℕ) (steps : List Step) (table : ℕ → Bool) (u v : List ℕ) (i j p : ℕ) →
    StepsOfLength n steps → pass axes_commute steps i j ≡ true →
    run_with steps table (u ++ i ∷ j ∷ v) p ≡ run_with steps table (u ++ j ∷ i ∷ v) p

-- an order of all products comes from the source order by exchanges of commuting neighbours, where no pair that doesn't commute stands reversed
abbrev pub OrderComesBySwaps : Type 0
OrderComesBySwaps = (steps : List Step) (w : List ℕ) →
    OrderOfAll (length steps) w → NoneReversed (pass commuting steps) w →
    SwapEqual steps w

-- where each product waits for its earlier products with static axes that don't commute with its own, it has the axis of source order, whatever flips
abbrev pub WaitingKeepsAxes : Type 0
WaitingKeepsAxes = (n : ℕ) (steps : List Step) (table : ℕ → Bool) (w : List ℕ) (p : ℕ) →
    StepsOfLength n steps → Waiting (pass axes_commute steps) (length steps) [] w → stands p w ≡ true →
    run_with steps table w p ≡ run_with steps table (upto (length steps)) p

-- in source order, with the flips of a gate at a time, that is the axis of a gate at a time
abbrev pub SourceAxes : Type 0
SourceAxes = (n : ℕ) (steps : List Step) (p : ℕ) →
    StepsOfLength n steps →
    run_with steps (source_flip steps) (upto (length steps)) p ≡ source_axis steps p

-- where each product waits for its earlier products that don't commute with it, it flips as a gate at a time
abbrev pub WaitingKeepsFlips : Type 0
WaitingKeepsFlips = (n : ℕ) (steps : List Step) (u : List ℕ) (p : ℕ) (v : List ℕ) (s : Step) →
    StepsOfLength n steps → Waiting (pass commuting steps) (length steps) [] (u ++ p ∷ v) → slice_get steps p ≡ Some s →
    flips_in_order steps (all_carried_out (flips_in_order steps) steps begun u) p s.act ≡ source_flip steps p

-- and the bits give each product the axis that the flips of a gate at a time give it
abbrev pub BitsGiveAxes : Type 0
BitsGiveAxes = (n : ℕ) (steps : List Step) (w : List ℕ) (p : ℕ) →
    StepsOfLength n steps → Waiting (pass commuting steps) (length steps) [] w →
    run steps w p ≡ run_with steps (source_flip steps) w p

-- a product that waits on none may be the next of an order in which each one waits
abbrev pub NextWaits : Type 0
NextWaits = (steps : List Step) (u : List ℕ) (p : ℕ) →
    Waiting (pass commuting steps) (length steps) [] u → Next steps u p →
    Waiting (pass commuting steps) (length steps) [] (u ++ p ∷ [])

-- the axis that it has now is that of a gate at a time
abbrev pub NextHasSourceAxis : Type 0
NextHasSourceAxis = (n : ℕ) (steps : List Step) (u : List ℕ) (p : ℕ) (s : Step) →
    StepsOfLength n steps → Waiting (pass commuting steps) (length steps) [] u → Next steps u p →
    slice_get steps p ≡ Some s →
    source_axis steps p ≡ Some (axis_now (all_carried_out (flips_in_order steps) steps begun u) s)

-- two tables of the same products that agree on the outcomes along an order
abbrev pub KnownAlong : List Step → List Step → List ℕ → Type 0
KnownAlong steps steps' u =
    (map bare steps ≡ map bare steps')
    × ((q : ℕ) → stands q u ≡ true → slice_get steps q ≡ slice_get steps' q)

-- the source axis of a product that may be next doesn't depend on outcomes that aren't known
abbrev pub KnownAxis : Type 0
KnownAxis = (n : ℕ) (steps steps' : List Step) (u : List ℕ) (p : ℕ) (s s' : Step) →
    StepsOfLength n steps → StepsOfLength n steps' → KnownAlong steps steps' u →
    Waiting (pass commuting steps) (length steps) [] u → Next steps u p →
    slice_get steps p ≡ Some s → slice_get steps' p ≡ Some s' →
    source_axis steps p ≡ source_axis steps' p

-- nor does whether it flips
abbrev pub KnownFlip : Type 0
KnownFlip = (n : ℕ) (steps steps' : List Step) (u : List ℕ) (p : ℕ) (s : Step) →
    StepsOfLength n steps → StepsOfLength n steps' → KnownAlong steps steps' u →
    Waiting (pass commuting steps) (length steps) [] u → Next steps u p →
    slice_get steps p ≡ Some s → slice_get steps' p ≡ Some s →
    source_flip steps p ≡ source_flip steps' p

-- what stands in an order in which each one waits has all that it waits for there, or in the front
abbrev pub WaitingIsClosed : Type 0
WaitingIsClosed = (may : ℕ → ℕ → Bool) (n : ℕ) (front w : List ℕ) (k i : ℕ) →
    Waiting may n front w → stands k w ≡ true → i < k → may i k ≡ false →
    (stands i w || stands i front) ≡ true

-- it is one of the products
abbrev pub WaitingIsWithin : Type 0
WaitingIsWithin = (may : ℕ → ℕ → Bool) (n : ℕ) (front w : List ℕ) (q : ℕ) →
    Waiting may n front w → stands q w ≡ true → q < n

-- one more product that waits on none may follow
abbrev pub WaitingGrows : Type 0
WaitingGrows = (may : ℕ → ℕ → Bool) (n : ℕ) (front w : List ℕ) (p : ℕ) →
    Waiting may n front w → p < n → stands p front ≡ false → stands p w ≡ false →
    ((q : ℕ) → q < p → may q p ≡ false → (stands q w || stands q front) ≡ true) →
    Waiting may n front (w ++ p ∷ [])

-- with the other products after it, ascending, it comes by exchanges of neighbours that may change places
abbrev pub WaitingIsExchanged : Type 0
WaitingIsExchanged = (may : ℕ → ℕ → Bool) (n : ℕ) (w : List ℕ) →
    Waiting may n [] w → Exchanged may (upto n) (w ++ others n w)

-- the source axis of a product: its static axis pulled through the turns of a gate at a time
abbrev pub SourceAxisIsPulled : Type 0
SourceAxisIsPulled = (steps : List Step) (p : ℕ) (s : Step) → slice_get steps p ≡ Some s →
    source_axis steps p ≡ Some (pull (plain steps p).turns s.axis)

-- bits agree where the axes of the products that write them do
abbrev pub BitsAgree : Type 0
BitsAgree = (steps : List Step) (done done' : List (ℕ × Signed)) (p b : ℕ) →
    ((q : ℕ) (s : Step) → q < p → slice_get steps q ≡ Some s → act_writes s.act b ≡ true →
    executed_axis done q ≡ executed_axis done' q) →
    bit_below steps done p b ≡ bit_below steps done' p b

-- numbers agree where their bits do
abbrev pub NumbersAgree : Type 0
NumbersAgree = (f g : ℕ → Bool) (first size : ℕ) →
    ((b : ℕ) → first ≤ b → b < first + size → f b ≡ g b) →
    number_of f first size ≡ number_of g first size
