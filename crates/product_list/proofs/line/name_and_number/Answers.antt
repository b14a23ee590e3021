use Rattle.std.proofs.Common.{sym, ◌∙◌}
use Rattle.product_list.proofs.Wording.{AreTwo, pair_other, pair_some}
use Rattle.product_list.proofs.line.name_and_number.Goals as goal

pub returns-in_err-number-2-clause-none : goal.returns-in_err-number-2-clause-none
returns-in_err-number-2-clause-none c =
    let two : AreTwo c.args.words.now c.in_ok-name.name.now c.in_ok-number.number.now c.next_word-2.new.self = record { rest = c.next_word.new.self; first = c.in_ok-name.ensures.word; second = c.in_ok-number.ensures.word } in
    rw c.from_residual-in_err-number-2.ensures (pair_other _ _ _ _ two c.in_ok-no_more.ensures.some (sym c.is_name.ensures ∙ c.if-not-is_name.false) c.in_err-number-2.ensures.other)

pub returns-clause-some : goal.returns-clause-some
returns-clause-some c =
    let two : AreTwo c.args.words.now c.in_ok-name.name.now c.in_ok-number.number.now c.next_word-2.new.self = record { rest = c.next_word.new.self; first = c.in_ok-name.ensures.word; second = c.in_ok-number.ensures.word } in
    let v = c.in_ok-number-2.ensures.value in
    pair_some _ _ _ _ c.in_ok-number-2.number two c.in_ok-no_more.ensures.some (sym c.is_name.ensures ∙ c.if-not-is_name.false) v.0 v.1
