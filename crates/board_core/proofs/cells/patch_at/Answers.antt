use Rattle.board_core.proofs.cells.patch_at.Goals as goal

pub returns-in_default : goal.returns-in_default
returns-in_default c cell =
    (λ e. (c.letter.result, c.letter.ensures, c.in_default.not-I, (c.patch.ensures cell).0 e), λ x. (c.patch.ensures cell).1 x.3)
