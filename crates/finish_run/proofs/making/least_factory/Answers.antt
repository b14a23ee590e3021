-- The factories before it have no store.
use Rattle.std.proofs.Common.{sym, ap, ◌∙◌, arith, below_more}
use Rattle.std.proofs.lemmas.Bool.{true≢false}
use Rattle.std.specs.Option.{is_some}
use Rattle.board_core.proofs.Places.{some_of}
use Rattle.finish_run.proofs.making.least_factory.Goals as goal

pub returns-then-is_some : goal.returns-then-is_some
returns-then-is_some c =
    let s = some_of c.store.result (sym c.is_some.ensures ∙ c.if-is_some.true) in
    ((s.0, (c.store.ensures.value s.0).0 s.1), c.loop-factory.invariant)

pub loop-factory-preserved : goal.loop-factory-preserved
loop-factory-preserved c =
    below_more _ _ c.loop-factory.invariant
    (λ x. true≢false (sym (ap is_some ((c.store.ensures.value x.0).1 x.1)) ∙ sym c.is_some.ensures ∙ c.if-is_some.false))

pub unreachable-requires : goal.unreachable-requires
unreachable-requires c = c.loop-factory.invariant c.requires.0 (let few = c.requires.1 in omega (arith, few)) c.requires.2
