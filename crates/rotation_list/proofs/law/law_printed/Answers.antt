use Rattle.rotation_list.proofs.Standing.{LawsBelow, printed_again, printed_stands}
use Rattle.rotation_list.proofs.law.law_printed.Goals as goal

pub returns : goal.returns
returns c =
    let laws : LawsBelow = record { placed = c.law_placed.ensures; sound = c.law_sound.ensures; acting = c.law_placed-2.ensures } in
    record { stands = printed_stands laws; again = printed_again c.law_kinds.ensures.stay }
