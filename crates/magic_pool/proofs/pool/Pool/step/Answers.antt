use Rattle.std.proofs.Common.{rules, arith, ◌+◌, ◌<◌, sym, ◌∙◌}
use Rattle.magic_pool.proofs.Histories.{served, answers_absent, answers_stocked, answers_stepped, made_one, made_none, few_steps, few_made, stepped_on}
use Rattle.magic_pool.proofs.pool.Pool.step.Goals as goal

pub returns-then-f-len-clause-answer : goal.returns-then-f-len-clause-answer
returns-then-f-len-clause-answer c = rw (← c.self.view_is) (λ steps taken r.
    answers_absent c.self.inside.makers.items c.self.inside.fails.items c.args.f steps taken c.self.invariant.are_makers (omega (arith, c.self.invariant.count)))

pub returns-then-is_stocked-clause-answer : goal.returns-then-is_stocked-clause-answer
returns-then-is_stocked-clause-answer c = rw (← c.self.view_is) (λ steps taken r.
    answers_stocked c.self.inside.makers.items c.self.inside.fails.items c.self.inside.made c.self.inside.factories.items c.args.f c.len-then-is_stocked.result c.index_mut-factory.result.now steps taken
    c.self.invariant (omega (arith, c.self.invariant.count)) c.index_mut-factory.ensures.value r c.if-factory-eq0.false (sym c.is_stocked.ensures ∙ c.if-is_stocked.true) c.len-then-is_stocked.ensures.value)

pub advance-stepped-requires-clause-counted : goal.advance-stepped-requires-clause-counted
advance-stepped-requires-clause-counted c =
    few_steps c.self.inside.makers.items c.self.inside.fails.items c.self.inside.made c.self.inside.factories.items c.args.f 4294967295 c.index_mut-factory.result.now
    c.self.invariant (omega (arith, c.self.invariant.count)) c.index_mut-factory.ensures.value (rw (← c.self.view_is) at c.requires)

pub overflow_add-self : goal.overflow_add-self
overflow_add-self c =
    let few : c.self.inside.made < 4294967295 = few_made c.self.inside.makers.items c.self.inside.fails.items c.self.inside.made c.self.inside.factories.items 4294967295 (rw (← c.self.view_is) at c.requires) in
    search rules

pub returns-in-Made-clause-answer : goal.returns-in-Made-clause-answer
returns-in-Made-clause-answer c = rw (← c.self.view_is) (λ steps taken r.
    answers_stepped c.self.inside.makers.items c.self.inside.fails.items c.self.inside.made c.self.inside.factories.items c.args.f c.index_mut-factory.result.now c.advance-stepped.result steps taken
    c.self.invariant (omega (arith, c.self.invariant.count)) c.index_mut-factory.ensures.value r c.if-factory-eq0.false (sym c.is_stocked.ensures ∙ c.if-is_stocked.false) c.advance-stepped.ensures.outcome)

pub returns-in-Made-clause-history : goal.returns-in-Made-clause-history
returns-in-Made-clause-history c = rw (← c.self.view_is) (λ steps taken r.
    let below : c.args.f < 16 = omega (arith, c.self.invariant.count) in
    stepped_on c.self.inside.makers.items c.self.inside.fails.items c.self.inside.made (c.self.inside.made + 1) c.self.inside.factories.items c.args.f c.index_mut-factory.result.now c.advance-stepped.new.self steps taken
    c.self.invariant below c.index_mut-factory.ensures.value r
    (made_one c.self.inside.makers.items c.self.inside.fails.items c.args.f c.index_mut-factory.result.now (c.index_mut-factory.result.now.steps + 1) c.self.inside.made c.in-Made.state c.advance-stepped.result
    (served c.self.inside.makers.items c.self.inside.fails.items c.self.inside.factories.items c.args.f c.index_mut-factory.result.now c.self.invariant below c.index_mut-factory.ensures.value)
    c.advance-stepped.ensures.outcome c.in-Made.is)
    c.advance-stepped.ensures.steps c.advance-stepped.ensures.ready)

pub returns-in_default-clause-answer : goal.returns-in_default-clause-answer
returns-in_default-clause-answer c = rw (← c.self.view_is) (λ steps taken r.
    answers_stepped c.self.inside.makers.items c.self.inside.fails.items c.self.inside.made c.self.inside.factories.items c.args.f c.index_mut-factory.result.now c.advance-stepped.result steps taken
    c.self.invariant (omega (arith, c.self.invariant.count)) c.index_mut-factory.ensures.value r c.if-factory-eq0.false (sym c.is_stocked.ensures ∙ c.if-is_stocked.false) c.advance-stepped.ensures.outcome)

pub returns-in_default-clause-history : goal.returns-in_default-clause-history
returns-in_default-clause-history c = rw (← c.self.view_is) (λ steps taken r.
    let below : c.args.f < 16 = omega (arith, c.self.invariant.count) in
    stepped_on c.self.inside.makers.items c.self.inside.fails.items c.self.inside.made c.self.inside.made c.self.inside.factories.items c.args.f c.index_mut-factory.result.now c.advance-stepped.new.self steps taken
    c.self.invariant below c.index_mut-factory.ensures.value r
    (made_none c.self.inside.makers.items c.self.inside.fails.items c.args.f c.index_mut-factory.result.now (c.index_mut-factory.result.now.steps + 1) c.self.inside.made c.advance-stepped.result
    (served c.self.inside.makers.items c.self.inside.fails.items c.self.inside.factories.items c.args.f c.index_mut-factory.result.now c.self.invariant below c.index_mut-factory.ensures.value)
    c.advance-stepped.ensures.outcome c.in_default.not-Made)
    c.advance-stepped.ensures.steps c.advance-stepped.ensures.ready)
