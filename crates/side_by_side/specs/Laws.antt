-- What holds of programs side by side.
use Rattle.std.specs.Prelude.{◌≡◌, ◌≢◌, Contains, true, ℕ, ◌+◌, ◌<◌, ◌≤◌, IsTrue, List, All, Some, map, take, length, slice_get}
use Rattle.pauli_product.specs.Signed.{Signed}
use Rattle.source_model.specs.declared.Circuit.{Circuit}
use Rattle.source_model.specs.declared.Item.{Item}
use Rattle.source_model.specs.declared.Register.{Register}
use Rattle.source_model.specs.declared.Static.{Static}
use Rattle.source_model.specs.SourceRun.{axis_of}
use Rattle.source_model.specs.Circuits.{WellFormed, RightKinds, bits_in}
use Rattle.source_model.specs.Statics.{statics, commuting}
use Rattle.source_model.specs.Used.{acts_at}
use Rattle.patch_layout.specs.Grid.{Grid}
use Rattle.magic_pool.specs.declared.Fail.{Fail}
use Rattle.board_core.specs.History.{History}
use Rattle.board_core.specs.View.{claimed_axis}
use Rattle.board_core.specs.Headline.{IsOneLegalHistory}
use Rattle.side_by_side.specs.Places.{pad, static_in}
use Rattle.side_by_side.specs.Joined.{products_in, products_of, sums_of, IsWithin, place_of, joined_items, joined_registers, joined_circuit, named, register_at}
use Rattle.side_by_side.specs.Programs.{Program, IsProgram, circuits, joined_outcomes, axes_alone, bit_alone, axes_joined, bit_joined, place_in, first_product, first_bit, share_of, axes_at, own_axes}

-- ---- the source run
-- in the joined run each product of program i has its axis of that program alone, and I on all other qubits
abbrev pub AxesAreThoseAlone : Type 0
AxesAreThoseAlone = (ps : List Program) (i : ℕ) (p : Program) → All IsProgram ps → slice_get ps i ≡ Some p →
    axes_at ps i p ≡ map (pad (place_in ps i p)) (axes_alone p)

-- the same product by product
abbrev pub AxisIsThatAlone : Type 0
AxisIsThatAlone = (ps : List Program) (i k : ℕ) (p : Program) (own : Signed) → All IsProgram ps → slice_get ps i ≡ Some p →
    slice_get (axes_alone p) k ≡ Some own → slice_get (axes_joined ps) (first_product ps i + k) ≡ Some (pad (place_in ps i p) own)

-- each product of the joined run is one of a program
abbrev pub EachIsOfAProgram : Type 0
EachIsOfAProgram = (cs : List Circuit) (n : ℕ) → n < products_in (joined_items cs) →
    (i : ℕ) × (k : ℕ) × (c : Circuit) × (slice_get cs i ≡ Some c) × (k < products_in c.items) × (n ≡ products_of (take i cs) + k)

-- on its own qubits program i has the axes that it has alone
abbrev pub OwnAxesAreThoseAlone : Type 0
OwnAxesAreThoseAlone = (ps : List Program) (i : ℕ) (p : Program) → All IsProgram ps → slice_get ps i ≡ Some p →
    own_axes ps i p ≡ axes_alone p

-- and each bit of its registers is the one that it has alone
abbrev pub BitsAreThoseAlone : Type 0
BitsAreThoseAlone = (ps : List Program) (i k : ℕ) (p : Program) → All IsProgram ps → slice_get ps i ≡ Some p →
    k < bits_in p.circuit.registers → bit_joined ps (first_bit ps i + k) ≡ bit_alone p k

-- each of its registers is one of the joined circuit, with its digits
abbrev pub RegistersAreThoseAlone : Type 0
RegistersAreThoseAlone = (ps : List Program) (i : ℕ) (p : Program) (r : Register) → All IsProgram ps → slice_get ps i ≡ Some p →
    Contains p.circuit.registers r → let joined = register_at (first_bit ps i) (named i) r in
    Contains (joined_registers (circuits ps)) joined × ((k : ℕ) → k < r.size → bit_joined ps (joined.first + k) ≡ bit_alone p (r.first + k))

-- ---- histories
-- in a legal complete history of the joined programs each claim of a product of program i has the axis that the program alone
-- gives it, and I on all other qubits
abbrev pub ClaimsAreThoseAlone : Type 0
ClaimsAreThoseAlone = (ps : List Program) (i k : ℕ) (p : Program) (grid : Grid) (fails : List Fail) (h : History) (axis : Signed) →
    All IsProgram ps → slice_get ps i ≡ Some p → k < products_in p.circuit.items →
    IsOneLegalHistory (joined_items (circuits ps)) grid fails (joined_outcomes ps) h →
    claimed_axis h (first_product ps i + k) ≡ Some axis →
    (own : Signed) × (slice_get (axes_alone p) k ≡ Some own) × (axis ≡ pad (place_in ps i p) own)

-- ---- none sees another
-- where a program with its outcomes stands among others and among yet others, it has the same axes and the same bits
abbrev pub NoneSeesAnother : Type 0
NoneSeesAnother = (ps qs : List Program) (i j : ℕ) (p : Program) → All IsProgram ps → All IsProgram qs →
    slice_get ps i ≡ Some p → slice_get qs j ≡ Some p →
    (own_axes ps i p ≡ own_axes qs j p)
    × ((k : ℕ) → k < bits_in p.circuit.registers → bit_joined ps (first_bit ps i + k) ≡ bit_joined qs (first_bit qs j + k))

-- ---- static products
-- those of the joined items are those of each program alone, in its place
abbrev pub StaticsAreThoseAlone : Type 0
StaticsAreThoseAlone = (cs : List Circuit) (i : ℕ) (c : Circuit) → All WellFormed cs → slice_get cs i ≡ Some c →
    share_of cs i c (statics (joined_items cs)) ≡ map (static_in (place_of cs i c)) (statics c.items)

-- and those of different programs commute, bits included
abbrev pub ProgramsCommute : Type 0
ProgramsCommute = (cs : List Circuit) (i j : ℕ) (c d : Circuit) (s t : Static) → All WellFormed cs → i ≢ j →
    slice_get cs i ≡ Some c → slice_get cs j ≡ Some d → Contains (statics c.items) s → Contains (statics d.items) t →
    commuting (static_in (place_of cs i c) s) (static_in (place_of cs j d) t) ≡ true

-- ---- the joined circuit
-- it is well-formed
abbrev pub JoinedIsWellFormed : Type 0
JoinedIsWellFormed = (cs : List Circuit) → length cs ≤ 8 → All WellFormed cs → IsWithin (sums_of cs) → WellFormed (joined_circuit cs)

-- it has as many products as its programs
abbrev pub ProductsAreAdded : Type 0
ProductsAreAdded = (cs : List Circuit) → products_in (joined_items cs) ≡ products_of cs

-- the joined outcomes are of its kinds
abbrev pub JoinedKindsAreRight : Type 0
JoinedKindsAreRight = (ps : List Program) → All IsProgram ps → RightKinds (joined_items (circuits ps)) (joined_outcomes ps)

-- each axis has a letter other than I, where those of its programs have one
abbrev pub HaveLetters : List Item → Type 0
HaveLetters items = All (λ i. (q : ℕ) × IsTrue (acts_at (axis_of i) q)) items

abbrev pub LettersStay : Type 0
LettersStay = (cs : List Circuit) → All (λ c. HaveLetters c.items) cs → HaveLetters (joined_items cs)
