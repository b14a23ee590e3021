use Rattle.std.proofs.Common.{arith, drop}
use Rattle.std.proofs.lemmas.Grind.{common_steps}
use Rattle.patch_base.specs.Outside.{Appends}
use Rattle.patch_base.proofs.Pieces.{rest_is}
use Rattle.patch_base.proofs.Growth.{Grew-more}
use Rattle.patch_base.proofs.transfer.write_all.Goals as goal

pub loop-written-preserved : goal.loop-written-preserved
loop-written-preserved g c =
    let seen : Appends (g.O.Sink.taken c.loop-written.out) (g.O.Sink.taken c.write.new.self) (drop c.loop-written.written c.args.bytes.now) c.in_ok-taken.taken
    = rw (rest_is c.args.bytes.now c.loop-written.written) at c.in_ok-taken.ensures.appended in
    record {
      within = grind (arith, common_steps, seen.0);
      counts = omega (arith, c.write.ensures.counts, c.loop-written.invariant.counts);
      grew = Grew-more _ _ _ c.args.bytes.now c.loop-written.written c.in_ok-taken.taken c.loop-written.invariant.within c.loop-written.invariant.grew seen.1;
    }
