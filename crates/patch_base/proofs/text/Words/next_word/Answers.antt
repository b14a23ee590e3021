use Rattle.std.proofs.Common.{arith}
use Rattle.patch_base.proofs.Pieces.{words_first, words_last}
use Rattle.patch_base.proofs.text.Words.next_word.Goals as goal

pub returns-then-space-line-clause-word : goal.returns-then-space-line-clause-word
returns-then-space-line-clause-word c =
    rw (← c.self.view_is, c.in_ok-line.was) (words_last c.in_ok-line.line.now c.place_of-space.result c.place_of-space.ensures.place c.if-space-line.true)

pub returns-clause-word : goal.returns-clause-word
returns-clause-word c =
    rw (← c.self.view_is, c.in_ok-line.was) (words_first c.in_ok-line.line.now c.place_of-space.result c.place_of-space.ensures.place (omega (arith, c.place_of-space.ensures.within, c.if-space-line.false)))
