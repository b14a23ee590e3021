use Rattle.std.proofs.Common.{◌≡◌, sym, subst, ap}
use Rattle.board_core.specs.Headline.{job_of, IsOneLegalHistory}
use Rattle.board_core.specs.Legal.{BoardJob, Legal, Complete}
use Rattle.board_core.specs.Position.{past}
use Rattle.board_core.specs.History.{History, entries}
use Rattle.schedule_text.proofs.bits_of.Goals as goal

pub returns-clause-bits : goal.returns-clause-bits
returns-clause-bits c = λ table right done.
    let items = c.args.circuit.now.items in
    let b = c.args.board.now in
    let j : BoardJob = job_of items b.job.grid b.job.fails in
    let same : b.job ≡ j = ap (λ ps. record { products = ps; grid = b.job.grid; fails = b.job.fails }) c.requires.products in
    let P : BoardJob → Type 0 = λ k. Legal k (past b) in
    let Q : BoardJob → Type 0 = λ k. Complete k (past b) table in
    let R : History → Type 0 = λ h. IsOneLegalHistory items b.job.grid b.job.fails table h in
    let is : IsOneLegalHistory items b.job.grid b.job.fails table (past b) =
    c.law_headline.ensures c.args.circuit.now.qubits items b.job.grid b.job.fails table (past b) c.requires.circuit.axes_fit right (subst P same c.history.ensures.legal.legal) (subst Q same done) in
    c.in_ok-bits.ensures.bits b.job.grid b.job.fails table right (subst R (sym (ap entries c.history.ensures.value)) is)
