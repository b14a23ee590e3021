use Rattle.std.proofs.Common.{◌≡◌, List, length, take, set, ap, ◌∙◌}
use Rattle.std.specs.List.{refill}
use Rattle.pauli_product.specs.declared.word.Word.{Word}
use Rattle.pauli_product.specs.inside.Masks.{all_letters}
use Rattle.pauli_product.proofs.Masks.{refilled, take-set, shown_letters}
use Rattle.pauli_product.proofs.Product.set_letter.Goals as goal

pub returns-clause-letters : goal.returns-clause-letters
returns-clause-letters c =
    let count : length c.put.new.words ≡ length c.self.inside.words.kept.items = c.put.auto.words ∙ ap length c.as_mut_slice.ensures.value in
    let all : all_letters (refill (length c.self.inside.words.kept.items) c.self.inside.words.kept.items c.put.new.words) ≡ set (all_letters c.self.inside.words.kept.items) c.args.q c.args.letter =
    ap all_letters (refilled c.self.inside.words.kept.items c.put.new.words count)
    ∙ c.put.ensures
    ∙ ap (λ (ws : List Word). set (all_letters ws) c.args.q c.args.letter) c.as_mut_slice.ensures.value in
    ap (take c.self.inside.qubits) all
    ∙ take-set c.self.inside.qubits (all_letters c.self.inside.words.kept.items) c.args.q c.args.letter
    ∙ ap (λ ls. set ls c.args.q c.args.letter) (shown_letters c.self.inside.sign c.self.inside.qubits c.self.inside.words.kept.items c.self.view_is)
