-- What the joined job of programs keeps.
use Rattle.std.proofs.Common.{◌≡◌, ◌≤◌, List, [], ◌∷◌, All, length, slice_get, Some, refl, ap, sym, ◌∙◌, subst, arith}
use Rattle.source_model.specs.declared.Circuit.{Circuit}
use Rattle.source_model.specs.declared.Kind.{Kind}
use Rattle.source_model.specs.declared.Static.{Static}
use Rattle.source_model.specs.Circuits.{RightKinds, OutcomesOf, kinds}
use Rattle.source_model.specs.Statics.{statics, kinds_of}
use Rattle.source_model.specs.Used.{UsedBy}
use Rattle.pauli_product.specs.Signed.{OfLength}
use Rattle.magic_pool.specs.declared.Fail.{Fail}
use Rattle.outcome_table.specs.declared.Outcomes.{Outcomes}
use Rattle.patch_layout.specs.Grid.{Open, Sound}
use Rattle.job_read.specs.declared.Job.{Job}
use Rattle.job_read.specs.Kept.{IsCircuit, IsJob, HaveLetters}
use Rattle.job_read.specs.Stages.{wanted_by}
use Rattle.job_read.proofs.Keeping.{have_letters, axes_long, all_used, has_rotations, as_many}
use Rattle.side_by_side.specs.declared.joining.Joined.{Joined}
use Rattle.side_by_side.specs.Joined.{IsJoinOf}
use Rattle.side_by_side.specs.Programs.{AreTablesOf}
use Rattle.run_top.specs.Sides.{first_fails, programs_of}
use Rattle.run_top.specs.inside.Reads.{AreTablesFor}
use Rattle.run_top.proofs.Lists.{all_programs, circuits_are, outcomes_are}

-- one table for each program
pub tables_of : (cs : List Circuit) (os : List Outcomes) (j : Joined) → IsJoinOf cs j → length os ≡ length cs → AreTablesFor cs os → AreTablesOf j os
tables_of cs os j joined count fit = record {
  programs = programs_of cs os;
  each = all_programs cs os joined.each (λ i c o a b. (fit i c o a b).kinds);
  joined = subst (λ (xs : List Circuit). IsJoinOf xs j) (sym (circuits_are cs os count)) joined;
  given = outcomes_are cs os count;
}

pub fails_are : (os : List Outcomes) (fails : List Fail) → 1 ≤ length os → ((first : Outcomes) → slice_get os 0 ≡ Some first → fails ≡ first.fails) → fails ≡ first_fails os
fails_are [] fails some is = absurd (omega arith)
fails_are (o ∷ os) fails some is = is o refl

pub few_fails : (cs : List Circuit) (os : List Outcomes) → length os ≡ length cs → AreTablesFor cs os → length (first_fails os) ≤ 4096
few_fails cs [] count fit = omega arith
few_fails [] (o ∷ os) count fit = absurd (omega arith)
few_fails (c ∷ cs) (o ∷ os) count fit = (fit 0 c o refl refl).few

-- ---- what a job keeps
pub record Parts (job : Job) : Type 0 where
  pub circuit : IsCircuit job.circuit
  pub products : job.products ≡ statics job.circuit.items
  pub same_kinds : kinds_of (statics job.circuit.items) ≡ kinds job.circuit.items
  pub sound : Sound job.layout
  pub open_for : Open job.layout (wanted_by job.circuit)
  pub right_kinds : RightKinds job.circuit.items job.outcomes.given
  pub few_fails : length job.outcomes.fails ≤ 4096

pub is_job : (job : Job) → Parts job → IsJob job
is_job job p =
    let same : kinds_of job.products ≡ kinds job.circuit.items = ap kinds_of p.products ∙ p.same_kinds in
    let many = as_many job.products job.circuit.items same in
    let few = p.circuit.few_products in
    let long = axes_long job.circuit.qubits job.circuit.items p.circuit.well_formed.axes_fit in
    record {
      circuit = p.circuit;
      products = p.products;
      few_products = omega arith;
      axes_fit = subst (λ (ss : List Static). All (λ s. OfLength job.circuit.qubits s.axis) ss) (sym p.products) long;
      letters = subst HaveLetters (sym p.products) (have_letters job.circuit.items p.circuit.letters);
      sound = p.sound;
      open_for = p.open_for;
      used = λ q used. all_used job.circuit.qubits (statics job.circuit.items) long q (subst (λ (ss : List Static). UsedBy ss q) p.products used);
      rotations = λ n s at is. has_rotations (statics job.circuit.items) n s (ap (λ (ss : List Static). slice_get ss n) (sym p.products) ∙ at) is;
      right_kinds = p.right_kinds;
      outcomes = subst (λ (ks : List Kind). OutcomesOf ks job.outcomes.given) (sym same) p.right_kinds;
      few_fails = p.few_fails;
    }
