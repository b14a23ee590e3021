use Rattle.std.proofs.Common.{◌∙◌}
use Rattle.patch_layout.proofs.Bodies.{keyed_none}
use Rattle.patch_layout.proofs.reader.read_body.Goals as goal

pub read_lines-requires-clause-keyed : goal.read_lines-requires-clause-keyed
read_lines-requires-clause-keyed c =
    keyed_none c.deref_mut.result.now c.deref_mut-2.result.now (c.deref_mut.ensures.value ∙ c.in_ok-qubits.ensures.items_if_clones_equal (λ y e. e))
    (c.deref_mut-2.ensures.value ∙ c.in_ok-factories.ensures.items_if_clones_equal (λ y e. e))
