-- From the three texts to the job.
use Rattle.std.proofs.Common.{◌≡◌, ◌⊎◌, ℕ, ◌≤◌, List, length, slice_get, Option, IsSome, All, inl, inr, ap, sym, ◌∙◌, subst, IfSome, arith}
use Rattle.source_model.specs.declared.Circuit.{Circuit}
use Rattle.source_model.specs.declared.Static.{Static}
use Rattle.source_model.specs.Circuits.{RightKinds, OutcomesOf, kinds}
use Rattle.source_model.specs.Statics.{statics, kinds_of}
use Rattle.pauli_product.specs.Signed.{OfLength}
use Rattle.source_model.specs.Used.{UsedBy}
use Rattle.source_model.specs.declared.Kind.{Kind}
use Rattle.qasm_lex.specs.declared.fault.CircuitFault.{CircuitFault}
use Rattle.patch_layout.specs.declared.fault.LayoutFault.{LayoutFault}
use Rattle.patch_layout.specs.Grid.{Grid, Open, Sound}
use Rattle.patch_layout.specs.LayoutText as layouts
use Rattle.job_read.specs.declared.Job.{Job}
use Rattle.job_read.specs.declared.fault.JobFault.{JobFault}
use Rattle.job_read.specs.declared.fault.JobFault.TheVariants as fault
use Rattle.job_read.specs.Reading.{Seen, Reading, IsNamed, IsTold}
use Rattle.job_read.specs.Stages.{CircuitStands, CircuitRefused, LayoutStands, LayoutRefused, wanted_by}
use Rattle.job_read.specs.Kept.{IsCircuit, IsJob, HaveLetters}
use Rattle.job_read.specs.Jobs.{Refuses, TellsUpTo, IsOutside}
use Rattle.job_read.proofs.Keeping.{have_letters, axes_long, all_used, has_rotations, as_many}

-- ---- what a job keeps
pub record Parts (job : Job) : Type 0 where
  pub circuit : IsCircuit job.circuit
  pub products : job.products ≡ statics job.circuit.items
  pub same_kinds : kinds_of (statics job.circuit.items) ≡ kinds job.circuit.items
  pub sound : Sound job.layout
  pub open_for : Open job.layout (wanted_by job.circuit)
  pub right_kinds : RightKinds job.circuit.items job.outcomes.given
  pub few_fails : length job.outcomes.fails ≤ 4096

pub is_job : (job : Job) → Parts job → IsJob job
is_job job p =
    let same : kinds_of job.products ≡ kinds job.circuit.items = ap kinds_of p.products ∙ p.same_kinds in
    let many = as_many job.products job.circuit.items same in
    let few = p.circuit.few_products in
    let long = axes_long job.circuit.qubits job.circuit.items p.circuit.well_formed.axes_fit in
    record {
      circuit = p.circuit;
      products = p.products;
      few_products = omega arith;
      axes_fit = subst (λ (ss : List Static). All (λ s. OfLength job.circuit.qubits s.axis) ss) (sym p.products) long;
      letters = subst HaveLetters (sym p.products) (have_letters job.circuit.items p.circuit.letters);
      sound = p.sound;
      open_for = p.open_for;
      used = λ q used. all_used job.circuit.qubits (statics job.circuit.items) long q (subst (λ (ss : List Static). UsedBy ss q) p.products used);
      rotations = λ n s at is. has_rotations (statics job.circuit.items) n s (ap (λ (ss : List Static). slice_get ss n) (sym p.products) ∙ at) is;
      right_kinds = p.right_kinds;
      outcomes = subst (λ (ks : List Kind). OutcomesOf ks job.outcomes.given) (sym same) p.right_kinds;
      few_fails = p.few_fails;
    }

-- ---- a layout that isn't accepted
-- what the stages say where the circuit c is accepted and the layout stops with e
pub record Stopped (r : Reading) (s : Seen) (c : Circuit) (e : JobFault) : Type 0 where
  pub same : s.told ≡ r.layout.told
  pub only : (d : Circuit) → IsTold r.circuit → CircuitStands r.circuit d → c ≡ d
  pub taken : (f : CircuitFault) → IsTold r.circuit → CircuitRefused r.circuit f → ⊥
  pub exact : (g : Grid) → (IsNamed r.word → IsTold s) → LayoutStands r.word s c g → IsOutside e
  pub faults : (f : LayoutFault) → (IsNamed r.word → IsTold s) → LayoutRefused r.word s c f → (e ≡ fault.Layout f) ⊎ IsOutside e

module _ (r : Reading) (s : Seen) (c : Circuit) (e : JobFault) (h : Stopped r s c e) where
  named_told : (IsNamed r.word → IsTold r.layout) → IsNamed r.word → IsTold s
  named_told told named = subst IsSome (sym h.same) (told named)

  seen_refused : (d : Circuit) (f : LayoutFault) → c ≡ d → LayoutRefused r.word r.layout d f → LayoutRefused r.word s c f
  seen_refused d f same refused = subst (λ (x : Circuit). LayoutRefused r.word s x f) (sym same) (there refused)
    where
      there : LayoutRefused r.word r.layout d f → LayoutRefused r.word s d f
      there x = (x.0, elim x.1 [ inl row ↦ inl row | inr text ↦ inr (text.0, subst (λ (t : Option (List ℕ)). IfSome t (λ u. layouts.Refused u (wanted_by d) f)) (sym h.same) text.1) ])

  seen_stands : (d : Circuit) (g : Grid) → c ≡ d → LayoutStands r.word r.layout d g → LayoutStands r.word s c g
  seen_stands d g same stands = subst (λ (x : Circuit). LayoutStands r.word s x g) (sym same) (there stands)
    where
      there : LayoutStands r.word r.layout d g → LayoutStands r.word s d g
      there x = (elim x.0 [ inl row ↦ inl row | inr text ↦ inr (text.0, subst (λ (t : Option (List ℕ)). IfSome t (λ u. layouts.StandsFor u g)) (sym h.same) text.1) ], x.1)

  pub layout_faults : (f : JobFault) → TellsUpTo r f → Refuses r f → (e ≡ f) ⊎ IsOutside e
  layout_faults (fault.Read which) told refuses = absurd refuses
  layout_faults (fault.Circuit f) told refuses = absurd (h.taken f told refuses)
  layout_faults (fault.Layout f) (told, layout) (d, stands, refused) = h.faults f (named_told layout) (seen_refused d f (h.only d told stands) refused)
  layout_faults (fault.Outcomes f) (told, layout, outcomes) (d, stands, (g, open_grid, refused)) = inr (h.exact g (named_told layout) (seen_stands d g (h.only d told stands) open_grid))
  layout_faults fault.Memory told refuses = absurd refuses
