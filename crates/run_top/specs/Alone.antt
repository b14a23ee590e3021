-- A schedule of programs side by side: none sees another.
use Rattle.std.specs.Prelude.{◌≡◌, ℕ, ◌+◌, ◌<◌, List, Contains, Some, slice_get}
use Rattle.pauli_product.specs.Signed.{Signed}
use Rattle.source_model.specs.declared.Register.{Register}
use Rattle.board_core.specs.declared.Noted.{Noted}
use Rattle.board_core.specs.History.{entries}
use Rattle.board_core.specs.View.{claimed_axis}
use Rattle.side_by_side.specs.Places.{pad}
use Rattle.side_by_side.specs.Joined.{joined_registers, named, products_in, register_at}
use Rattle.side_by_side.specs.Programs.{Program, axes_alone, bit_alone, bit_joined, circuits, first_bit, first_product, place_in}
use Rattle.run_top.specs.Carried.{IsRunSchedule}
use Rattle.run_top.specs.Sides.{Sides, joined_job, programs_of}

-- each claim of a product of program i has the axis that the program alone gives it, and I on all other qubits
abbrev pub ClaimsAreOwn : List Program → List Noted → Type 0
ClaimsAreOwn ps h = (i k : ℕ) (p : Program) (axis : Signed) → slice_get ps i ≡ Some p → k < products_in p.circuit.items →
    claimed_axis (entries h) (first_product ps i + k) ≡ Some axis →
    (own : Signed) × (slice_get (axes_alone p) k ≡ Some own) × (axis ≡ pad (place_in ps i p) own)

-- each register of program i is a joined one, with the bits that the program alone gives it
abbrev pub BitsAreOwn : List Program → Type 0
BitsAreOwn ps = (i : ℕ) (p : Program) (r : Register) → slice_get ps i ≡ Some p → Contains p.circuit.registers r →
    let joined = register_at (first_bit ps i) (named i) r in
    Contains (joined_registers (circuits ps)) joined × ((k : ℕ) → k < r.size → bit_joined ps (joined.first + k) ≡ bit_alone p (r.first + k))

-- the text is that of one legal history of the joined job, in which each program has its own axes and bits
pub record IsSideSchedule (s : Sides) (text : List ℕ) : Type 0 where
  pub run : IsRunSchedule (joined_job s) text
  pub claims : ClaimsAreOwn (programs_of s.circuits s.tables) run.schedule.history
  pub bits : BitsAreOwn (programs_of s.circuits s.tables)
