-- Products with their outcomes, and which of them commute.
use Rattle.std.specs.Prelude.{ℕ, Bool, true, false, List, All, Option, Some, None, slice_get}
use Rattle.pauli_product.specs.Signed.{Signed, OfLength, commute}
use Rattle.pauli_product.specs.Commuting.{BitUses, is_among, is_written}
use Rattle.pauli_product.specs.Commuting as uses

-- what a product does, with its outcomes, `true` for -1: a pi/8 rotation with a raw and an X outcome, a measurement with a raw outcome into a bit, or a half turn where so many bits from a first one on spell a value
pub data Act : Type 0 where
  rotate : Bool → Bool → Act
  measure : Bool → ℕ → Act
  settle : ℕ → ℕ → ℕ → Act

-- a product with its static axis
pub record Step : Type 0 where
  pub axis : Signed
  pub act : Act

-- the bits that an act reads and writes
abbrev pub uses_of_act : Act → BitUses
uses_of_act (rotate raw x) = record { reads = λ b. false; write = None }
uses_of_act (measure raw bit) = record { reads = λ b. false; write = Some bit }
uses_of_act (settle first size value) = record { reads = is_among first size; write = None }

-- whether an act writes a bit
abbrev pub act_writes : Act → ℕ → Bool
act_writes a b = is_written (uses_of_act a).write b

-- whether it reads a bit
abbrev pub act_reads : Act → ℕ → Bool
act_reads a b = (uses_of_act a).reads b

-- whether the first reads the bit that the second writes
abbrev pub act_reads_from : Act → Act → Bool
act_reads_from a a' = uses.reads_from (uses_of_act a) (uses_of_act a')

-- products whose static axes commute
abbrev pub axes_commute : Step → Step → Bool
axes_commute s t = commute s.axis t.axis

-- products commute where their static axes do and neither reads a bit that the other writes
abbrev pub commuting : Step → Step → Bool
commuting s t = uses.commuting s.axis (uses_of_act s.act) t.axis (uses_of_act t.act)

-- a test of two products; a number that has no product passes
abbrev pub both : (Step → Step → Bool) → Option Step → Option Step → Bool
both test None t = true
both test (Some s) None = true
both test (Some s) (Some t) = test s t

-- the same of two numbers
unfoldable pub pass : (Step → Step → Bool) → List Step → ℕ → ℕ → Bool
pass test steps i j = both test (slice_get steps i) (slice_get steps j)

-- products on n qubits
abbrev pub StepsOfLength : ℕ → List Step → Type 0
StepsOfLength n steps = All (λ s. OfLength n s.axis) steps

-- a product without its outcomes
abbrev pub bare_act : Act → Act
bare_act (rotate raw x) = rotate false false
bare_act (measure raw bit) = measure false bit
bare_act (settle first size value) = settle first size value

abbrev pub bare : Step → Step
bare s = record { axis = s.axis; act = bare_act s.act }
