-- A board can be made of every job that is read.
use Rattle.std.proofs.Common.{◌≢◌, ℕ, List, IsTrue, refl, sym, subst}
use Rattle.std.proofs.lemmas.Option.{get_or_from_slice_get}
use Rattle.pauli_product.specs.declared.Letter.{Letter}
use Rattle.pauli_product.specs.declared.Letter.TheVariants.{I, X, Y, Z}
use Rattle.pauli_product.specs.Signed.{Signed, HasLetter}
use Rattle.source_model.specs.declared.Static.{Static}
use Rattle.source_model.specs.Used.{acts, acts_at}
use Rattle.magic_pool.specs.declared.Fail.{Fail}
use Rattle.patch_layout.specs.Grid.{Grid}
use Rattle.board_core.specs.Legal.{BoardJob}
use Rattle.board_core.specs.Limits.{WithinLimits}
use Rattle.board_core.specs.Suits.{IsOpenFor, HaveLetters}
use Rattle.job_read.specs.declared.Job.{Job}
use Rattle.job_read.specs.Kept.{IsJob}
use Rattle.job_read.specs.Stages.{wanted_by}

acting : (l : Letter) → l ≢ I → IsTrue (acts l)
acting I other = absurd (other refl)
acting X other = refl
acting Y other = refl
acting Z other = refl

acts_there : (axis : Signed) (q : ℕ) → HasLetter axis q → IsTrue (acts_at axis q)
acts_there axis q (l, at, other) = subst (λ (m : Letter). IsTrue (acts m)) (sym (get_or_from_slice_get axis.letters q l I at)) (acting l other)

-- a board's job of these parts
abbrev pub parts_job : Grid → List Static → List Fail → BoardJob
parts_job grid products fails = record { products = products; grid = grid; fails = fails }

pub board_limits : (job : Job) → IsJob job → WithinLimits (parts_job job.layout job.products job.outcomes.fails)
board_limits job kept = record {
  qubits = job.circuit.qubits;
  few_qubits = kept.circuit.well_formed.few_qubits;
  axes_fit = kept.axes_fit;
  few_products = kept.few_products;
  few_fails = kept.few_fails;
}

pub board_open : (job : Job) → IsJob job → IsOpenFor job.layout job.products
board_open job kept = (wanted_by job.circuit, record { used = kept.used; rotations = kept.rotations }, kept.open_for)

pub board_letters : (job : Job) → IsJob job → HaveLetters job.products
board_letters job kept = λ p s at. let h = kept.letters p s at in (h.0, acts_there s.axis h.0 h.1)
