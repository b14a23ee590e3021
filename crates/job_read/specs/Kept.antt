-- What each accepted circuit and each job keeps: all that the calls that carry a job out ask of it.
use Rattle.std.specs.Prelude.{◌≡◌, ℕ, true, ◌≤◌, IsTrue, List, length, slice_get, All, Some}
use Rattle.pauli_product.specs.Signed.{OfLength, IsNotIdentity}
use Rattle.source_model.specs.declared.Circuit.{Circuit}
use Rattle.source_model.specs.declared.Kind.TheVariants as kind
use Rattle.source_model.specs.declared.Static.{Static}
use Rattle.source_model.specs.Circuits.{WellFormed, RightKinds, OutcomesOf, kinds}
use Rattle.source_model.specs.SourceRun.{axis_of}
use Rattle.source_model.specs.Statics.{statics, kinds_of}
use Rattle.source_model.specs.Used.{UsedBy, acts_at}
use Rattle.patch_layout.specs.Grid.{Open, Sound}
use Rattle.patch_layout.specs.Row.{IsUsed}
use Rattle.job_read.specs.declared.Job.{Job}
use Rattle.job_read.specs.Stages.{wanted_by}

-- a circuit within the limits, whose axes each have a letter other than I
pub record IsCircuit (c : Circuit) : Type 0 where
  pub well_formed : WellFormed c
  pub few_products : length (kinds c.items) ≤ 16384
  pub letters : All (λ i. (q : ℕ) × IsTrue (acts_at (axis_of i) q)) c.items

-- each axis has a letter other than I
abbrev pub HaveLetters : List Static → Type 0
HaveLetters products = (p : ℕ) (s : Static) → slice_get products p ≡ Some s → IsNotIdentity s.axis

-- a job's circuit and products, a layout that is open for them, and outcomes of their kinds, all within the limits
pub record IsJob (job : Job) : Type 0 where
  pub circuit : IsCircuit job.circuit
  -- the products are the circuit's static products
  pub products : job.products ≡ statics job.circuit.items
  pub few_products : length job.products ≤ 16384
  pub axes_fit : All (λ s. OfLength job.circuit.qubits s.axis) job.products
  pub letters : HaveLetters job.products
  -- the layout is within its limits, and open for what they ask: the qubits that they use, and a port for rotations
  pub sound : Sound job.layout
  pub open_for : Open job.layout (wanted_by job.circuit)
  pub used : (q : ℕ) → UsedBy job.products q → IsUsed (wanted_by job.circuit).used q
  pub rotations : (p : ℕ) (s : Static) → slice_get job.products p ≡ Some s → s.kind ≡ kind.Rotation → (wanted_by job.circuit).rotations ≡ true
  -- each product has an outcome of its kind
  pub right_kinds : RightKinds job.circuit.items job.outcomes.given
  pub outcomes : OutcomesOf (kinds_of job.products) job.outcomes.given
  pub few_fails : length job.outcomes.fails ≤ 4096
