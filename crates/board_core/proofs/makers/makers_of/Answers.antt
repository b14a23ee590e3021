use Rattle.std.proofs.Common.{◌+◌, ◌∙◌, None, Some, ap, arith, subst, sym}
use Rattle.board_core.proofs.Gathering.{Answered, Gathered, each_maker, gathered_all, gathered_more, gathered_none, gathered_same}
use Rattle.board_core.proofs.makers.makers_of.Goals as goal
use Rattle.board_core.proofs.makers.makers_of.Goals.{in-Some+in_ok-push, in_default}

pub loop-factory-init : goal.loop-factory-init
loop-factory-init c = record {
  gathered = gathered_none c.args.layout.now c.new-makers.result.items c.new-makers.ensures.items;
  ranges = λ l. absurd (omega arith);
}

pub loop-factory-preserved : goal.loop-factory-preserved
loop-factory-preserved c = elim c.match-store.branch [
  | in-Some+in_ok-push w ↦
      let found : Answered c.args.layout.now c.loop-factory.factory (Some w.in-Some.store) = subst (Answered c.args.layout.now c.loop-factory.factory) w.in-Some.is c.store.ensures.value in
      let more = gathered_more c.args.layout.now c.loop-factory.factory w.in-Some.store c.loop-factory.makers.items c.loop-factory-test.true c.store.ensures.sound.stores found c.loop-factory.invariant.gathered in
      record { gathered = subst (Gathered c.args.layout.now (c.loop-factory.factory + 1)) (sym (ap (λ v. v.items) w.makers-is ∙ w.in_ok-push.ensures.items)) more; ranges = λ l. c.store.ensures.sound.stores }
  | in_default w ↦
      let none : Answered c.args.layout.now c.loop-factory.factory None = subst (Answered c.args.layout.now c.loop-factory.factory) w.in_default.is c.store.ensures.value in
      let same = gathered_same c.args.layout.now c.loop-factory.factory c.loop-factory.makers.items none c.loop-factory.invariant.gathered in
      record { gathered = subst (Gathered c.args.layout.now (c.loop-factory.factory + 1)) (sym (ap (λ v. v.items) w.makers-is)) same; ranges = λ l. c.store.ensures.sound.stores }
]

pub returns-clause-makers : goal.returns-clause-makers
returns-clause-makers c =
    gathered_all c.args.layout.now c.loop-factory.factory c.loop-factory.makers.items c.loop-factory-test.false (let past = c.loop-factory-test.false in c.loop-factory.invariant.ranges (omega arith)) c.loop-factory.invariant.gathered

pub returns-clause-distinct : goal.returns-clause-distinct
returns-clause-distinct c = c.loop-factory.invariant.gathered.distinct

pub returns-clause-each : goal.returns-clause-each
returns-clause-each c = each_maker c.args.layout.now c.loop-factory.factory c.loop-factory.makers.items c.loop-factory.invariant.gathered
