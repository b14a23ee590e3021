use Rattle.std.proofs.Common.{arith}
use Rattle.magic_pool.proofs.Histories.{taken_on, taken_none}
use Rattle.magic_pool.proofs.pool.Pool.take.Goals as goal

pub returns-clause-history : goal.returns-clause-history
returns-clause-history c = rw (← c.self.view_is) (λ steps taken r.
    taken_on c.self.inside.makers.items c.self.inside.fails.items c.self.inside.made c.self.inside.factories.items c.args.f c.index_mut.result.now c.take.new.self c.take.result steps taken
    (omega (arith, c.len.ensures)) c.index_mut.ensures.value r c.take.ensures.least c.take.ensures.ready c.take.ensures.steps)

pub returns-clause-none : goal.returns-clause-none
returns-clause-none c = rw (← c.self.view_is) (
    taken_none c.self.inside.makers.items c.self.inside.fails.items c.self.inside.made c.self.inside.factories.items c.args.f c.index_mut.result.now c.take.new.self c.take.result
    c.index_mut.ensures.value c.take.ensures.least c.take.ensures.ready c.take.ensures.steps)
