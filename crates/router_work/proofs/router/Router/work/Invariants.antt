-- Each number so far was carried out or put back.
use Rattle.router_work.specs.Ends.{LosesNone, TurnedMore}
use Rattle.router_work.specs.inside.Steps.{Goes}
use Rattle.router_work.proofs.router.Router.work.Given as goal

abbrev pub invariant-loop-try : goal.invariant-loop-try
invariant-loop-try g l = record {
  goes : Goes l.initial.self l.self;
  turned : TurnedMore l._try l.initial.self.pass l.self.pass;
  loses_none : LosesNone l.initial.self l.self;
}
