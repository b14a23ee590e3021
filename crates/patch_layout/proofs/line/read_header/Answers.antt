use Rattle.patch_layout.proofs.Spelled.{no_columns, none_header}
use Rattle.patch_layout.proofs.line.read_header.Goals as goal

pub returns-in_err-columns-clause-other : goal.returns-in_err-columns-clause-other
returns-in_err-columns-clause-other c =
    none_header _ c.from_residual-in_err-columns.result
    (no_columns c.args.text.now c.of-words.result c.is_next.new.words c.is_next-2.new.words c.number.new.words c.in_ok-rows.rows c.of-words.ensures (c.is_next.ensures.yes c.if-not-is_next.false)
    (c.is_next-2.ensures.yes c.if-not-is_next-2.false) c.in_ok-rows.ensures.value.1 c.in_err-columns.ensures.other)
