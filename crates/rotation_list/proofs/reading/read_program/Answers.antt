use Rattle.std.proofs.Common.{◌∙◌, ◌≤◌, All, length, subst, sym}
use Rattle.source_model.specs.Circuits.{WellFormed, kinds}
use Rattle.source_model.specs.declared.Circuit.{Circuit}
use Rattle.qasm_expand.specs.Flats.{flats_of}
use Rattle.qasm_expand.specs.Sound.{members}
use Rattle.rotation_list.specs.inside.Items.{ActsBelow}
use Rattle.product_list.specs.Listable.{AxisHasLetter}
use Rattle.std.proofs.lemmas.Result.{err_from_is_err_and}
use Rattle.rotation_list.proofs.Answering.{past_fault}
use Rattle.rotation_list.proofs.Programs.{all_act, program_few, program_formed, program_lettered}
use Rattle.rotation_list.proofs.reading.read_program.Goals as goal

pub expand-requires : goal.expand-requires
expand-requires c =
    let made = c.in_ok-tree.ensures.read in
    c.law_sound.ensures c.args.text.now made.tokens c.in_ok-tree.tree made.parsed

pub returns-in_err-flats-clause-refused : goal.returns-in_err-flats-clause-refused
returns-in_err-flats-clause-refused c =
    let p = err_from_is_err_and c.from_residual-in_err-flats.result c.from_residual-in_err-flats.ensures.1 in
    rw (p.1, p.2) (past_fault c.args.text.now c.in_ok-tree.tree c.in_err-flats.field-0.0 c.in_ok-tree.ensures.read c.in_err-flats.ensures.too_many)

pub joined-requires-clause-sound : goal.joined-requires-clause-sound
joined-requires-clause-sound c =
    let made = c.in_ok-tree.ensures.read in
    c.law_sound.ensures c.args.text.now made.tokens c.in_ok-tree.tree made.parsed

pub joined-requires-clause-placed : goal.joined-requires-clause-placed
joined-requires-clause-placed c =
    let made = c.in_ok-tree.ensures.read in
    let tree = c.in_ok-tree.tree in
    let sound = c.law_sound.ensures c.args.text.now made.tokens tree made.parsed in
    subst (All (ActsBelow (members tree.quantum))) (sym (c.deref.ensures.value ∙ c.in_ok-flats.ensures.expanded)) (all_act tree (flats_of tree) (c.law_placed.ensures tree sound))

pub returns-clause-formed : goal.returns-clause-formed
returns-clause-formed c =
    let made = c.in_ok-tree.ensures.read in
    let tree = c.in_ok-tree.tree in
    let sound = c.law_sound.ensures c.args.text.now made.tokens tree made.parsed in
    subst WellFormed (sym c.in_ok-circuit.ensures) (program_formed c.args.text.now tree sound (c.law_placed.ensures tree sound) c.in_ok-tree.ensures.named)

pub returns-clause-few : goal.returns-clause-few
returns-clause-few c =
    let made = c.in_ok-tree.ensures.read in
    let tree = c.in_ok-tree.tree in
    let sound = c.law_sound.ensures c.args.text.now made.tokens tree made.parsed in
    subst (λ (x : Circuit). length (kinds x.items) ≤ 16384) (sym c.in_ok-circuit.ensures) (program_few c.args.text.now tree (c.law_placed.ensures tree sound) (c.in_ok-flats.ensures.within))

pub returns-clause-letters : goal.returns-clause-letters
returns-clause-letters c =
    let made = c.in_ok-tree.ensures.read in
    let tree = c.in_ok-tree.tree in
    let sound = c.law_sound.ensures c.args.text.now made.tokens tree made.parsed in
    subst (λ (x : Circuit). All AxisHasLetter x.items) (sym c.in_ok-circuit.ensures) (program_lettered c.args.text.now tree sound (c.law_placed.ensures tree sound))
