-- Proofs of the laws, under the names of their functions.
use Rattle.std.proofs.Common.{◌≡◌, List, [], ◌∷◌, ◌++◌, sym, ◌∙◌, ap, refl, subst}
use Rattle.std.specs.List.{All}
use Rattle.std.proofs.lemmas.List.Elements.{All-nil, All-cons}
use Rattle.board_core.specs.declared.Entry.{Entry}
use Rattle.board_core.specs.declared.Noted.{Noted}
use Rattle.board_core.specs.Position.{Position, note}
use Rattle.finish_run.specs.Finished.{by_zero, NewBoardsAreByZero}

zeros : (es : List Entry) → All (λ (n : Noted). n.by ≡ 0) (by_zero es)
zeros [] = All-nil (λ (n : Noted). n.by ≡ 0)
zeros (e ∷ es) = All-cons (λ (n : Noted). n.by ≡ 0) (note 0 e) (by_zero es) refl (zeros es)

pub law_by_zero : NewBoardsAreByZero
law_by_zero b c added empty is =
    subst (λ (l : List Noted). All (λ (n : Noted). n.by ≡ 0) l)
    (sym (ap (λ (p : Position). p.history) is ∙ ap (λ (l : List Noted). l ++ by_zero added) empty))
    (zeros added)
