use Rattle.std.proofs.Common.{ℕ, None, length, replicate, ap, ◌∙◌}
use Rattle.std.proofs.lemmas.List.{length-replicate}
use Rattle.pauli_product.specs.declared.Letter.TheVariants.{I}
use Rattle.pauli_product.specs.Signed.{Signed}
use Rattle.board_core.proofs.Beginning.{kept_new}
use Rattle.board_core.proofs.ledger.Ledger.new.Goals as goal

pub returns : goal.returns
returns c =
    rw c.pool.view_is
    (kept_new c.args.products.now c.args.layout.now c.args.order c.in_ok-new.field-0 c.in_ok-new-2.field-0 _ _ _ c.args.pool c.in_ok-identity.field-0 c.qubits_of-qubits.result c.bit_count.result
    c.requires.limits c.size.ensures.sound c.requires.open c.requires.letters c.qubits_of-qubits.ensures.0 c.qubits_of-qubits.ensures.1 c.requires.order c.in_ok-new.ensures c.in_ok-new-2.ensures c.in_ok-no_places.ensures
    (c.in_ok-new-3.ensures ∙ ap (λ (n : ℕ). replicate n None) c.size.ensures.value) c.in_ok-no_bits.ensures c.bit_count.ensures c.requires.pool c.requires.makers
    (ap (λ (p : Signed). length p.letters) c.in_ok-identity.ensures ∙ length-replicate c.qubits_of-qubits.result I))
