use Rattle.std.proofs.Common.{ℕ, List, [], ◌∷◌, ◌++◌, sym, ap, ◌∙◌}
use Rattle.qasm_parse.specs.Known.{place_of}
use Rattle.qasm_parse.specs.Faults.{first_fault, repeated}
use Rattle.qasm_parse.proofs.Formals.{fresh_stop, fresh_step, fresh_all}
use Rattle.qasm_parse.proofs.definitions.formal_names.Goals as goal

pub loop-formal-init : goal.loop-formal-init
loop-formal-init c = record {
  rest = ap (λ (ns : List (List ℕ)). first_fault (repeated c.args.source.now ns c.args.formals.now)) (sym c.new-names.ensures);
  named = c.new-names.ensures;
}

pub returns-in-Some : goal.returns-in-Some
returns-in-Some c =
    fresh_stop c.args.source.now c.args.formals.now c.loop-formal.formal-index 0 _ c.loop-formal.names c.loop-formal-test.true c.loop-formal.invariant
    (ap (place_of c.loop-formal.names) (sym c.word-name.ensures) ∙ sym c.in-Some.ensures.value)

pub loop-formal-preserved : goal.loop-formal-preserved
loop-formal-preserved c =
    fresh_step c.args.source.now c.args.formals.now c.loop-formal.formal-index 0 c.loop-formal.names c.push.new.self c.loop-formal-test.true c.loop-formal.invariant
    (ap (place_of c.loop-formal.names) (sym c.word-name.ensures) ∙ sym c.in-None.ensures.value)
    (c.in_ok-push-in-None.ensures ∙ ap (λ (w : List ℕ). c.loop-formal.names ++ w ∷ []) c.word-name.ensures)

pub returns : goal.returns
returns c = fresh_all c.args.source.now c.args.formals.now c.loop-formal.formal-index c.loop-formal.names c.loop-formal-test.false c.loop-formal.invariant
