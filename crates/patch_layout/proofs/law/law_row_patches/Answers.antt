use Rattle.patch_layout.proofs.Laws
use Rattle.patch_layout.proofs.law.law_row_patches.Goals as goal

pub returns : goal.returns
returns c = Laws.law_row_patches
