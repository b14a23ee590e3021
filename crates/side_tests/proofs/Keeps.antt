-- What the joined job of programs keeps.
use Rattle.std.proofs.Common.{◌≡◌, ℕ, ◌≤◌, List, All, length, slice_get, ap, sym, ◌∙◌, subst, arith}
use Rattle.source_model.specs.declared.Kind.{Kind}
use Rattle.source_model.specs.declared.Static.{Static}
use Rattle.source_model.specs.Circuits.{RightKinds, OutcomesOf, kinds}
use Rattle.source_model.specs.Statics.{statics, kinds_of}
use Rattle.source_model.specs.Used.{UsedBy}
use Rattle.pauli_product.specs.Signed.{OfLength}
use Rattle.patch_layout.specs.Grid.{Open, Sound}
use Rattle.job_read.specs.declared.Job.{Job}
use Rattle.job_read.specs.Kept.{IsCircuit, IsJob, HaveLetters}
use Rattle.job_read.specs.Stages.{wanted_by}
use Rattle.job_read.proofs.Keeping.{have_letters, axes_long, all_used, has_rotations, as_many}

pub record Parts (job : Job) : Type 0 where
  pub circuit : IsCircuit job.circuit
  pub products : job.products ≡ statics job.circuit.items
  pub same_kinds : kinds_of (statics job.circuit.items) ≡ kinds job.circuit.items
  pub sound : Sound job.layout
  pub open_for : Open job.layout (wanted_by job.circuit)
  pub right_kinds : RightKinds job.circuit.items job.outcomes.given
  pub few_fails : length job.outcomes.fails ≤ 4096

pub is_job : (job : Job) → Parts job → IsJob job
is_job job p =
    let same : kinds_of job.products ≡ kinds job.circuit.items = ap kinds_of p.products ∙ p.same_kinds in
    let many = as_many job.products job.circuit.items same in
    let few = p.circuit.few_products in
    let long = axes_long job.circuit.qubits job.circuit.items p.circuit.well_formed.axes_fit in
    record {
      circuit = p.circuit;
      products = p.products;
      few_products = omega arith;
      axes_fit = subst (λ (ss : List Static). All (λ s. OfLength job.circuit.qubits s.axis) ss) (sym p.products) long;
      letters = subst HaveLetters (sym p.products) (have_letters job.circuit.items p.circuit.letters);
      sound = p.sound;
      open_for = p.open_for;
      used = λ q used. all_used job.circuit.qubits (statics job.circuit.items) long q (subst (λ (ss : List Static). UsedBy ss q) p.products used);
      rotations = λ n s at is. has_rotations (statics job.circuit.items) n s (ap (λ (ss : List Static). slice_get ss n) (sym p.products) ∙ at) is;
      right_kinds = p.right_kinds;
      outcomes = subst (λ (ks : List Kind). OutcomesOf ks job.outcomes.given) (sym same) p.right_kinds;
      few_fails = p.few_fails;
    }
