use Rattle.std.proofs.Common.{◌≡◌, ℕ, None, Some, sym, ap, ◌∙◌, get_or, take, take_all}
use Rattle.qasm_grammar.specs.declared.spoken.Argument.TheVariants.{Whole}
use Rattle.qasm_parse.specs.declared.stop.Stop.{Stop}
use Rattle.qasm_lex.specs.declared.fault.FaultKind.TheVariants.{Undeclared}
use Rattle.qasm_parse.specs.Lexed.{word_at}
use Rattle.qasm_parse.specs.Known.{quantum_named}
use Rattle.qasm_parse.specs.Faults.{register_of}
use Rattle.qasm_parse.proofs.First.{first_none}
use Rattle.qasm_parse.proofs.Arguments.{Resolved, resolved_stop, resolved_step, resolved_past, resolved_all}
use Rattle.qasm_parse.proofs.operands.resolve.Goals as goal

pub loop-arg-init : goal.loop-arg-init
loop-arg-init c = record { named = first_none; passed = sym first_none; meaning = λ e. c.in_ok-means.ensures }

pub returns-in-None : goal.returns-in-None
returns-in-None c =
    let x = c.args.source.now in
    let k = c.args.known.now in
    let a = get_or c.args.args.now c.loop-arg.arg-index (Whole 0) in
    let found : register_of x (quantum_named k) a ≡ None =
    ap (λ (n : ℕ). quantum_named k (word_at x n)) (sym c.name_place-name.ensures) ∙ ap (quantum_named k) (sym c.word.ensures) ∙ sym c.in-None.ensures.value in
    resolved_stop x (quantum_named k) c.args.args.now c.loop-arg.arg-index (Whole 0) c.loop-arg.past c.loop-arg.means c.loop-arg-test.true c.loop-arg.invariant found
    ∙ ap (λ (n : ℕ). let s : Stop = record { at = n; kind = Undeclared } in Some s) (sym c.name_place-name.ensures)

pub loop-arg-preserved : goal.loop-arg-preserved
loop-arg-preserved c =
    let x = c.args.source.now in
    let k = c.args.known.now in
    let a = get_or c.args.args.now c.loop-arg.arg-index (Whole 0) in
    let found : register_of x (quantum_named k) a ≡ Some c.in-Some.span =
    ap (λ (n : ℕ). quantum_named k (word_at x n)) (sym c.name_place-name.ensures) ∙ ap (quantum_named k) (sym c.word.ensures) ∙ sym c.in-Some.ensures.value in
    resolved_step x (quantum_named k) c.args.args.now c.loop-arg.arg-index (Whole 0) c.loop-arg.past c.in_ok-past-in-Some.past c.loop-arg.means c.add_meant.new.means c.in-Some.span c.loop-arg-test.true c.loop-arg.invariant found
    c.in_ok-past-in-Some.ensures.first c.in_ok-past-in-Some.ensures.added

pub returns-in-Some-past : goal.returns-in-Some-past
returns-in-Some-past c =
    let x = c.args.source.now in
    let all : take c.loop-arg.arg-index c.args.args.now ≡ c.args.args.now = take_all c.loop-arg.arg-index c.args.args.now c.loop-arg-test.false in
    let r : Resolved x (quantum_named c.args.known.now) c.args.args.now (Some c.in-Some-past.stop) c.loop-arg.means = rw (← c.in-Some-past.is, ← all) c.loop-arg.invariant in
    resolved_past x (quantum_named c.args.known.now) c.args.args.now c.loop-arg.means c.in-Some-past.stop r

pub returns-in-None-past : goal.returns-in-None-past
returns-in-None-past c =
    let x = c.args.source.now in
    let all : take c.loop-arg.arg-index c.args.args.now ≡ c.args.args.now = take_all c.loop-arg.arg-index c.args.args.now c.loop-arg-test.false in
    let r : Resolved x (quantum_named c.args.known.now) c.args.args.now None c.loop-arg.means = rw (← c.in-None-past.is, ← all) c.loop-arg.invariant in
    resolved_all x (quantum_named c.args.known.now) c.args.args.now c.loop-arg.means r
