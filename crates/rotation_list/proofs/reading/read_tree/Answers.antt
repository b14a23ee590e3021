use Rattle.std.proofs.Common.{◌∙◌, ap, Ok, sym}
use Rattle.std.proofs.lemmas.Result.{err_from_is_err_and}
use Rattle.rotation_list.proofs.Answering.{parsed_fault, parsed_named, parsed_read, untokened_fault}
use Rattle.rotation_list.proofs.reading.read_tree.Goals as goal

pub returns-clause-read : goal.returns-clause-read
returns-clause-read c = parsed_read c.args.text.now c.deref.result.now c.parse.result (c.in_ok-tokens.ensures ∙ ap Ok (sym c.deref.ensures.value)) c.parse.ensures

pub returns-clause-named : goal.returns-clause-named
returns-clause-named c = parsed_named c.args.text.now c.deref.result.now c.parse.result (c.law_placed.ensures c.args.text.now) (c.in_ok-tokens.ensures ∙ ap Ok (sym c.deref.ensures.value)) c.parse.ensures

pub returns-clause-refused : goal.returns-clause-refused
returns-clause-refused c = parsed_fault c.args.text.now c.deref.result.now c.parse.result (c.in_ok-tokens.ensures ∙ ap Ok (sym c.deref.ensures.value)) c.parse.ensures

pub returns-in_err-tokens-clause-refused : goal.returns-in_err-tokens-clause-refused
returns-in_err-tokens-clause-refused c =
    let p = err_from_is_err_and c.from_residual.result c.from_residual.ensures.1 in
    rw (p.1, p.2) (untokened_fault c.args.text.now c.in_err-tokens.field-0.0 c.in_err-tokens.ensures)
