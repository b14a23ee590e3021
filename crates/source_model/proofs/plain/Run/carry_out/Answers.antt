use Rattle.std.proofs.Common.{◌≡◌, ℕ, Bool, false, ◌==◌, List, ◌++◌, slice_index_or, ap, ◌∙◌}
use Rattle.pauli_product.specs.Bits.{number_of}
use Rattle.pauli_product.specs.Corrections.{turn_if}
use Rattle.pauli_product.specs.Pulls.{half}
use Rattle.source_model.proofs.Keeping.{keeps_settled}
use Rattle.source_model.proofs.plain.Run.carry_out.Goals as goal

pub returns-in_ok-turn_if-in-If-clause-state : goal.returns-in_ok-turn_if-in-If-clause-state
returns-in_ok-turn_if-in-If-clause-state c f k =
    let a = c.in-If in
    let old = c.args.self.now in
    let new = c.turn_if-in-If.new.self in
    let number : List Bool → ℕ = λ bits. number_of (λ b. slice_index_or bits b false) a.first a.size in
    let settled : c.spells-flips.result ≡ (number old.bits.items == a.value) = c.spells-flips.ensures ∙ ap (λ bits. number bits == a.value) c.deref-in-If-2.ensures.value in
    let turns : new.turns.items ≡ old.turns.items ++ turn_if (number old.bits.items == a.value) a.axis half = c.in_ok-turn_if-in-If.ensures.turns ∙ ap (λ b. old.turns.items ++ turn_if b a.axis half) settled in
    rw (a.is, ap (λ v. v.items) c.in_ok-turn_if-in-If.ensures.bits)
    (keeps_settled f old.turns.items old.bits.items a.axis a.first a.size a.value new.turns.items k turns)
