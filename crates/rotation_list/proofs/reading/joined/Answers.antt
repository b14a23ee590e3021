use Rattle.std.proofs.Common.{◌∙◌, ap, map}
use Rattle.rotation_list.specs.Items.{register_in}
use Rattle.qasm_expand.specs.Sound.{members}
use Rattle.rotation_list.proofs.Programs.{joined_is}
use Rattle.rotation_list.proofs.reading.joined.Goals as goal

pub returns : goal.returns
returns c = joined_is c.args.text.now c.args.tree c.members-qubits.result c.members-bits.result c.in_ok-items.hidden c.args.flats.now _ _ (c.members-qubits.ensures ∙ ap members c.as_slice.ensures) (c.members-bits.ensures ∙ ap members c.as_slice-2.ensures) c.in_ok-items.ensures.hidden c.requires.flats (c.of.ensures ∙ (c.in_ok-registers.ensures ∙ ap (map (register_in c.args.text.now)) c.as_slice-3.ensures)) (c.of-2.ensures ∙ c.in_ok-items.ensures.items)
