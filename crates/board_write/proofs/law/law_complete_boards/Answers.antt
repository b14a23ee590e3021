use Rattle.board_write.proofs.Written.{complete_board}
use Rattle.board_write.proofs.law.law_complete_boards.Goals as goal

pub returns : goal.returns
returns c = complete_board c.law_headline.ensures c.law_legal_entries_stand.ensures
