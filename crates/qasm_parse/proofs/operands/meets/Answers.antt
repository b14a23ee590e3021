use Rattle.std.proofs.Common.{◌∙◌, sym}
use Rattle.qasm_parse.proofs.Meeting.{any_shift, any_member, any_index, any_same}
use Rattle.qasm_parse.proofs.operands.meets.Goals as goal

pub returns-in-Whole-Whole : goal.returns-in-Whole-Whole
returns-in-Whole-Whole c =
    let a = c.in-Whole-Whole in
    rw (a.is-0, a.is-1) (c.is_same.ensures ∙ sym (any_shift a.first a.second 0 c.args.times))

pub returns-in-Whole-Single : goal.returns-in-Whole-Single
returns-in-Whole-Single c =
    let a = c.in-Whole-Single in
    rw (a.is-0, a.is-1) (c.is_member.ensures ∙ sym (any_member a.first a.index c.args.times))

pub returns-in-Single-Whole : goal.returns-in-Single-Whole
returns-in-Single-Whole c =
    let a = c.in-Single-Whole in
    rw (a.is-0, a.is-1) (c.is_member-in-Single-Whole.ensures ∙ sym (any_index a.first a.index c.args.times))

pub returns-in-Single-Single : goal.returns-in-Single-Single
returns-in-Single-Single c =
    let a = c.in-Single-Single in
    rw (a.is-0, a.is-1) (c.is_same-in-Single-Single.ensures ∙ sym (any_same a.index a.second 0 c.args.times))
