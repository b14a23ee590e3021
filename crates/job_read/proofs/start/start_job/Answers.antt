use Rattle.std.proofs.Common.{List, sym, ◌∙◌, subst}
use Rattle.source_model.specs.declared.Static.{Static}
use Rattle.magic_pool.specs.declared.Fail.{Fail}
use Rattle.board_core.specs.Laws.{ProductsOfLength}
use Rattle.board_core.specs.Limits.{WithinLimits}
use Rattle.board_core.specs.Suits.{IsOpenFor, HaveLetters}
use Rattle.job_read.proofs.Boards.{board_letters, board_limits, board_open, parts_job}
use Rattle.job_read.proofs.start.start_job.Goals as goal

pub order_of-requires-clause-qubits : goal.order_of-requires-clause-qubits
order_of-requires-clause-qubits c = (
  c.args.job.circuit.qubits,
  subst (λ (ps : List Static). ProductsOfLength c.args.job.circuit.qubits ps) (sym (c.deref.ensures.value ∙ c.into_vec-products.ensures)) c.requires.axes_fit,
)

pub new-requires-clause-limits : goal.new-requires-clause-limits
new-requires-clause-limits c =
    subst (λ (ps : List Static). WithinLimits (parts_job c.args.job.layout ps c.in_ok-pool.pool.fails)) (sym c.into_vec-products.ensures)
    (subst (λ (fs : List Fail). WithinLimits (parts_job c.args.job.layout c.args.job.products fs)) (sym (c.in_ok-pool.ensures.fails ∙ c.as_slice.ensures)) (board_limits c.args.job c.requires))

pub new-requires-clause-open : goal.new-requires-clause-open
new-requires-clause-open c =
    subst (λ (ps : List Static). IsOpenFor c.args.job.layout ps) (sym c.into_vec-products.ensures) (board_open c.args.job c.requires)

pub new-requires-clause-letters : goal.new-requires-clause-letters
new-requires-clause-letters c =
    subst HaveLetters (sym c.into_vec-products.ensures) (board_letters c.args.job c.requires)
