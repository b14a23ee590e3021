use Rattle.std.proofs.Common.{refl}
use Rattle.patch_layout.proofs.Opening.{not_both}
use Rattle.patch_layout.proofs.openness.port_shut.Goals as goal

pub returns-in-Some-clause-shut : goal.returns-in-Some-clause-shut
returns-in-Some-clause-shut c = λ t. ((c.in-Some.field-0, (c.in-Some.ensures c.in-Some.field-0).0 refl), λ d on. not_both c.is_open.result (c.is_open.ensures.1 (d, on)) t)

pub returns-in-None-clause-open : goal.returns-in-None-clause-open
returns-in-None-clause-open c = λ _ b p. let e = (c.in-None.ensures b).1 p in absurd (cc)
