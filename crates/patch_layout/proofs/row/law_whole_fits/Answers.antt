use Rattle.patch_layout.proofs.Whole.{whole_fits, whole_ascends, whole_is_ancilla}
use Rattle.patch_layout.proofs.row.law_whole_fits.Goals as goal

pub returns-clause-fits : goal.returns-clause-fits
returns-clause-fits c = whole_fits

pub returns-clause-ascends : goal.returns-clause-ascends
returns-clause-ascends c = whole_ascends

pub returns-clause-whole : goal.returns-clause-whole
returns-clause-whole c = whole_is_ancilla
