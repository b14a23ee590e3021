use Rattle.std.proofs.Common.{arith, rules, ◌≡◌, length, take, drop, ◌∙◌, ◌++◌}
use Rattle.std.proofs.lemmas.List.{take-append-le}
use Rattle.std.proofs.lemmas.Grind.{common_steps}
use Rattle.patch_base.proofs.Growth.{reads_more}
use Rattle.patch_base.proofs.transfer.read_text.Goals as goal

pub loop-piece-preserved : goal.loop-piece-preserved
loop-piece-preserved g c =
    let given = c.in_ok-given.ensures.given in
    let rest = drop c.min-asked.result c.loop-piece.piece in
    let cut : take c.in_ok-given.given (c.read_at.new.into ++ rest) ≡ take c.in_ok-given.given c.read_at.new.into = take-append-le c.in_ok-given.given c.read_at.new.into rest given.0 in
    let at_is : c.len-in-loop-piece-2.result ≡ length c.loop-piece.text.items = search rules in
    record {
      told = λ n. c.read_at.ensures.told n ∙ c.loop-piece.invariant.told n;
      counts = λ n. omega (arith, c.read_at.ensures.counts n, c.loop-piece.invariant.counts n);
      within = grind (arith, common_steps, given.0);
      text = rw (c.in_ok-extend_from_slice.ensures.items, cut) (reads_more _ _ _ _ _ _ (c.loop-piece.invariant.told _) at_is c.loop-piece.invariant.text given);
    }
