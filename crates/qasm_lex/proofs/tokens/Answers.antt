use Rattle.std.proofs.Common.{sym, is_ok, ap, arith}
use Rattle.std.proofs.ResultArms.{chosen}
use Rattle.qasm_lex.proofs.Turns.{begins, goes_feed, goes_blank, goes_token, ends, ends_bad, too_long}
use Rattle.qasm_lex.proofs.tokens.Goals as goal

pub returns-then-text-gt-BYTES : goal.returns-then-text-gt-BYTES
returns-then-text-gt-BYTES c = too_long c.args.text.now c.if-text-gt-BYTES.true

pub loop-at-init : goal.loop-at-init
loop-at-init c = record {
  within = omega arith;
  lines = omega arith;
  reads = rw c.new-found.ensures.items (begins c.args.text.now);
}

pub loop-at-preserved-in-Feed : goal.loop-at-preserved-in-Feed
loop-at-preserved-in-Feed c = record {
  within = omega arith;
  lines = omega arith;
  reads = goes_feed _ _ _ _ _ c.loop-at-test.true (sym c.in-Feed.ensures.value) c.loop-at.invariant.reads.1;
}

pub loop-at-preserved-in-Blank : goal.loop-at-preserved-in-Blank
loop-at-preserved-in-Blank c = record {
  within = omega (arith, c.in-Blank.ensures.within);
  lines = omega (arith, c.in-Blank.ensures.within);
  reads = goes_blank _ _ _ _ _ _ c.loop-at-test.true c.in-Blank.ensures.within.0 (sym c.in-Blank.ensures.value) c.loop-at.invariant.reads.1;
}

pub loop-at-preserved : goal.loop-at-preserved
loop-at-preserved c = record {
  within = omega (arith, c.in-Token.ensures.within);
  lines = omega (arith, c.in-Token.ensures.within);
  reads = rw (chosen _ _ _ _ c.push.ensures.items (ap is_ok c.in_ok-push-in-Token.was)) (goes_token _ _ _ _ _ _ _ c.loop-at-test.true c.in-Token.ensures.within.0 (sym c.in-Token.ensures.value) c.loop-at.invariant.reads.1);
}

pub returns-in-Bad : goal.returns-in-Bad
returns-in-Bad c = ends_bad _ _ _ _ _ c.if-text-gt-BYTES.false c.loop-at-test.true (sym c.in-Bad.ensures.value) c.loop-at.invariant.reads.1

pub returns : goal.returns
returns c = ends _ _ _ _ _ c.if-text-gt-BYTES.false c.loop-at-test.false c.loop-at.invariant.reads.1
