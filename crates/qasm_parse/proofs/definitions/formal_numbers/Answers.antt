use Rattle.std.proofs.Common.{◌≡◌, ℕ, List, map, sym, ap, ◌∙◌, take_all, take}
use Rattle.qasm_parse.specs.Known.{place_of}
use Rattle.qasm_parse.specs.Faults.{first_fault, informal, formal_of}
use Rattle.qasm_parse.proofs.First.{first_none}
use Rattle.qasm_parse.proofs.Formals.{numbered_stop, numbered_step}
use Rattle.qasm_parse.proofs.definitions.formal_numbers.Goals as goal

pub loop-arg-init : goal.loop-arg-init
loop-arg-init c = record { known = first_none; same = c.new-numbers.ensures }

pub returns-in-None : goal.returns-in-None
returns-in-None c =
    numbered_stop c.args.source.now c.args.names.now c.args.args.now c.loop-arg.numbers c.loop-arg.arg-index 0 c.loop-arg-test.true c.loop-arg.invariant
    (ap (place_of c.args.names.now) (sym c.word.ensures) ∙ sym c.in-None.ensures.value)

pub loop-arg-preserved : goal.loop-arg-preserved
loop-arg-preserved c =
    numbered_step c.args.source.now c.args.names.now c.args.args.now c.loop-arg.numbers c.push.new.self c.loop-arg.arg-index 0 c.in-Some.place c.loop-arg-test.true c.loop-arg.invariant
    (ap (place_of c.args.names.now) (sym c.word.ensures) ∙ sym c.in-Some.ensures.value)
    c.in_ok-push-in-Some.ensures.ok

pub returns : goal.returns
returns c =
    let all : take c.loop-arg.arg-index c.args.args.now ≡ c.args.args.now = take_all c.loop-arg.arg-index c.args.args.now c.loop-arg-test.false in (
      ap (λ (xs : List ℕ). first_fault (map (informal c.args.source.now c.args.names.now) xs)) (sym all) ∙ c.loop-arg.invariant.known,
      c.loop-arg.invariant.same ∙ ap (map (formal_of c.args.source.now c.args.names.now)) all,
    )
