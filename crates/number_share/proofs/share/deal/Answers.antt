use Rattle.std.proofs.Common.{rules, ap}
use Rattle.number_share.specs.inside.Plays.{Sat}
use Rattle.number_share.proofs.Keeps.{deals}
use Rattle.number_share.proofs.share.deal.Goals as goal

pub split_seat-seat-requires : goal.split_seat-seat-requires
split_seat-seat-requires c =
    let h = c.requires.root in
    (search rules, search rules, deals _ _ _ _ h.0 (ap (λ (m : Sat). m.0.drawn) h.1) (ap (λ (m : Sat). m.0.past) h.1))
