use Rattle.patch_layout.proofs.Laws
use Rattle.patch_layout.proofs.law.law_certified_ascends.Goals as goal

pub returns : goal.returns
returns c = Laws.law_certified_ascends
