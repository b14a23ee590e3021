use Rattle.std.proofs.Common.{arith}
use Rattle.board_core.proofs.Same.{same_lists}
use Rattle.board_core.proofs.differ.other_letter.Goals as goal

pub returns : goal.returns
returns c = same_lists c.args.axis.now.letters c.args.other.now.letters (omega arith) (λ k l. c.loop-q.invariant k (omega arith))
