use Rattle.std.proofs.Common.{sym, ◌∙◌, drop}
use Rattle.std.proofs.lemmas.Bool.{true≢false}
use Rattle.schedule_text.specs.Text.{bits_line, bit_in}
use Rattle.history_replay.proofs.Feeds.{line_cut}
use Rattle.history_replay.proofs.Ending.{bits_one_line}
use Rattle.history_replay.proofs.close.behind.Goals as goal

pub returns-in_default-clause-other : goal.returns-in_default-clause-other
returns-in_default-clause-other c more e = c.in_default.ensures.other (bits_line (bit_in c.args.bits.now) c.args.register.now) more e

pub returns-clause-other : goal.returns-clause-other
returns-clause-other c more e =
    let bit = bit_in c.args.bits.now in
    let r = c.args.register.now in
    let found = c.in-Some.ensures.found in
    let cut = line_cut (drop c.args.at c.args.text.now) c.in-Some.ended.line.now (drop c.in-Some.ended.next c.args.text.now) (bits_line bit r) more found.one_line (bits_one_line bit r c.requires.name) found.text_is e in
    true≢false (sym (c.is_bits_line.ensures.1 cut.0) ∙ c.if-is_bits_line.false)
