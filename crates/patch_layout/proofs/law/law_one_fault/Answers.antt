use Rattle.patch_layout.proofs.Laws
use Rattle.patch_layout.proofs.law.law_one_fault.Goals as goal

pub returns : goal.returns
returns c = Laws.law_one_fault
