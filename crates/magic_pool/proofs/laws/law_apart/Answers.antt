use Rattle.std.proofs.Common.{sym, ◌∙◌}
use Rattle.std.proofs.lemmas.Option.{same_Some}
use Rattle.magic_pool.specs.Recount.{makers_of}
use Rattle.magic_pool.proofs.Readiness.{maker_of}
use Rattle.magic_pool.proofs.laws.law_apart.Goals as goal

pub returns : goal.returns
returns c = λ fails steps taken f g s other in_f in_g.
    let of_f = maker_of 0 (makers_of fails steps) taken f s in_f.0 in_f.1 in_f.2 in
    let of_g = maker_of 0 (makers_of fails steps) taken g s in_g.0 in_g.1 in_g.2 in
    other (same_Some f g (sym of_f.1 ∙ of_g.1))
