use Rattle.product_list.proofs.Wording.{alone_none, alone_more, alone_other, alone_some}
use Rattle.product_list.proofs.line.number_alone.Goals as goal

pub returns-in_err-word-clause-none : goal.returns-in_err-word-clause-none
returns-in_err-word-clause-none c = rw c.from_residual.ensures (alone_none c.args.words.now c.in_err-word.ensures.end.0)

pub returns-in_err-no_more-clause-none : goal.returns-in_err-no_more-clause-none
returns-in_err-no_more-clause-none c = rw c.from_residual-in_err-no_more.ensures (alone_more c.args.words.now _ _ c.in_ok-word.ensures.word c.in_err-no_more.ensures.none)

pub returns-in_err-number-clause-none : goal.returns-in_err-number-clause-none
returns-in_err-number-clause-none c = rw c.from_residual-in_err-number.ensures (alone_other c.args.words.now _ _ c.in_ok-word.ensures.word c.in_ok-no_more.ensures.some c.in_err-number.ensures.other)

pub returns-clause-some : goal.returns-clause-some
returns-clause-some c =
    let v = c.in_ok-number.ensures.value in
    alone_some c.args.words.now _ _ c.in_ok-number.number c.in_ok-word.ensures.word c.in_ok-no_more.ensures.some v.0 v.1
