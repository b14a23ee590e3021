use Rattle.std.proofs.Common.{◌≡◌, ◌+◌, ◌<◌, ◌≤◌, take, length, ap, sym, ◌∙◌, arith, subst}
use Rattle.std.specs.Prelude.{All}
use Rattle.source_model.specs.declared.Circuit.{Circuit}
use Rattle.source_model.specs.Circuits.{WellFormed}
use Rattle.side_by_side.specs.declared.sums.Sums.{Sums}
use Rattle.side_by_side.specs.Joined.{IsWithin, hidden_of, sums_of}
use Rattle.side_by_side.specs.inside.Drafts.{HasDrafted, HasRoom, drafted, place_after}
use Rattle.side_by_side.proofs.Drafting.{all_drafted, joined_is, one_more, room, sum_within}
use Rattle.side_by_side.proofs.Summing.{hidden_all, hidden_take, within_take}
use Rattle.side_by_side.proofs.joining.join.Goals as goal

pub add-requires-clause-hidden : goal.add-requires-clause-hidden
add-requires-clause-hidden c =
    let cs = c.args.circuits.now in
    let i = c.loop-program.program in
    let few : hidden_of (take i cs) ≤ 16384 = hidden_take cs i c.requires.each (within_take cs i (subst IsWithin c.in-Ok.ensures.0 c.in-Ok.ensures.1)) in
    omega (arith, few, ap (λ (s : Sums). s.hidden) c.loop-program.invariant.drafted.at)

pub add-requires-clause-qubits : goal.add-requires-clause-qubits
add-requires-clause-qubits c =
    let cs = c.args.circuits.now in
    let i = c.loop-program.program in
    let low : i < length cs = omega (arith, c.loop-program-test.true) in
    omega (
      arith,
      sum_within (λ (c : Circuit). c.qubits) cs i c.index-circuits-program.result low c.index-circuits-program.is,
      ap (λ (s : Sums). s.qubits) c.loop-program.invariant.drafted.at,
      ap (λ (s : Sums). s.qubits) c.in-Ok.ensures.0,
    )

pub add-requires-clause-room : goal.add-requires-clause-room
add-requires-clause-room c =
    let cs = c.args.circuits.now in
    let i = c.loop-program.program in
    let x = c.index-circuits-program.result in
    let at = c.loop-program.draft.at in
    let low : i < length cs = omega (arith, c.loop-program-test.true) in
    let formed : WellFormed x = subst WellFormed (sym c.index-circuits-program.is) (c.requires.each i x low) in
    subst (λ (s : Sums). All (HasRoom (place_after s at x)) x.items) (sym c.in-Ok.ensures.0)
    (room cs i x at low c.index-circuits-program.is c.loop-program.invariant.drafted.at formed c.requires.each (subst IsWithin c.in-Ok.ensures.0 c.in-Ok.ensures.1))

pub loop-program-preserved : goal.loop-program-preserved
loop-program-preserved c =
    let cs = c.args.circuits.now in
    let i = c.loop-program.program in
    let x = c.index-circuits-program.result in
    let d = c.loop-program.draft in
    let low : i < length cs = omega (arith, c.loop-program-test.true) in
    let same : c.add.new.self ≡ drafted (sums_of cs) i x d = c.in_ok-add.ensures ∙ ap (λ s. drafted s i x d) c.in-Ok.ensures.0 in
    record { drafted = subst (HasDrafted cs (i + 1)) (sym same) (one_more cs i x d low c.index-circuits-program.is c.loop-program.invariant.drafted) }

pub overflow_cast-circuit-2 : goal.overflow_cast-circuit-2
overflow_cast-circuit-2 c =
    let cs = c.args.circuits.now in
    let few : hidden_of cs ≤ 16384 = hidden_all cs c.requires.each (subst IsWithin c.in-Ok.ensures.0 c.in-Ok.ensures.1) in
    omega (arith, few, ap (λ (s : Sums). s.hidden) c.in-Ok.ensures.0)

pub returns-clause-well_formed : goal.returns-clause-well_formed
returns-clause-well_formed c =
    let cs = c.args.circuits.now in
    let all = c.in-Ok.ensures.0 in
    let d = c.loop-program.draft in
    let whole = all_drafted cs c.loop-program.program d (omega (arith, c.loop-program-test.false)) c.loop-program.invariant.drafted in
    subst WellFormed
    (sym (joined_is cs c.in-Ok.all.qubits c.in-Ok.all.hidden d.registers d.items (ap (λ (s : Sums). s.qubits) all) whole.0 whole.1 (ap (λ (s : Sums). s.hidden) all)))
    (c.law_joined.ensures.circuit cs c.requires.few c.requires.each (subst IsWithin all c.in-Ok.ensures.1))
