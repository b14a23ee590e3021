use Rattle.std.proofs.Common.{refl}
use Rattle.patch_layout.proofs.openness.is_served.Goals as goal

pub returns-in-Some-clause-served : goal.returns-in-Some-clause-served
returns-in-Some-clause-served c = λ _ _. (c.in-Some.field-0, (c.in-Some.ensures c.in-Some.field-0).0 refl)

pub returns-in-None-clause-lacks : goal.returns-in-None-clause-lacks
returns-in-None-clause-lacks c = λ _. (c.if-not-used.false, λ b p. let e = (c.in-None.ensures b).1 p in absurd (cc))
