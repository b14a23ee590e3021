use Rattle.std.proofs.Common.{ap}
use Rattle.arrival_line.specs.declared.arrival.Traffic.{Traffic}
use Rattle.arrival_line.proofs.Lines.{begins, forks}
use Rattle.arrival_line.proofs.threads.Line.new.Goals as goal

pub bounded_with-requires-clause-rule : goal.bounded_with-requires-clause-rule
bounded_with-requires-clause-rule c = begins

pub another-deliverer-requires-clause-rule : goal.another-deliverer-requires-clause-rule
another-deliverer-requires-clause-rule c =
    let is = c.in_ok-sender.ensures.3 in forks _ _ (ap (λ (v : Traffic). v.sends) is) (ap (λ (v : Traffic). v.receives) is)
