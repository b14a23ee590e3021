use Rattle.std.proofs.Common.{List, refl, sym, subst}
use Rattle.region_plan.specs.inside.Kept.{Suits}
use Rattle.region_plan.specs.declared.kept.Walk.{Walk}
use Rattle.region_plan.proofs.Keeping.{suits_widened}
use Rattle.region_plan.proofs.kept.widen.Goals as goal

pub widen-preserved : goal.widen-preserved
widen-preserved c g held suits = suits_widened g held c.widen.walks.items c.push.new.self.items _ (c.widen.invariant g held suits) c.in_ok-push.ensures.items refl c.new.ensures.items

pub returns-in_err-push-clause-kept : goal.returns-in_err-push-clause-kept
returns-in_err-push-clause-kept c g held suits = let P : List Walk → Type 0 = λ ws. Suits g held ws in subst P (sym c.in_err-push.ensures.items) (c.widen.invariant g held suits)
