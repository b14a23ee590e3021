use Rattle.std.proofs.Common.{Bool, false, List, length, get_or, ap, ◌∙◌, arith}
use Rattle.std.proofs.lemmas.List.{get_or-replicate, length-replicate}
use Rattle.pauli_product.specs.Letters.{letters_clash}
use Rattle.commute_order.specs.inside.Columns.{letter_in}
use Rattle.commute_order.proofs.ColumnLaws.{none_before}
use Rattle.commute_order.proofs.columns.clear_columns.Goals as goal

pub returns : goal.returns
returns c = λ against ps.
    let clear = c.loop-q.invariant.clear in
    record {
      size = omega arith;
      long = λ q h. ap length (clear q (omega arith)) ∙ length-replicate c.args.len false;
      bit = λ q j h k.
          ap (λ (b : List Bool). get_or b j false) (clear q (omega arith))
          ∙ get_or-replicate c.args.len j false false k
          ∙ none_before j (letters_clash against (letter_in ps j q));
    }
