use Rattle.std.proofs.Common.{refl}
use Rattle.qasm_parse.proofs.trying.fit_together.Goals as goal

pub returns-in-Whole-Whole : goal.returns-in-Whole-Whole
returns-in-Whole-Whole c = rw (c.in-Whole-Whole.is-0, c.in-Whole-Whole.is-1) refl

pub returns-in-Whole-Single : goal.returns-in-Whole-Single
returns-in-Whole-Single c = rw (c.in-Whole-Single.is-0, c.in-Whole-Single.is-1) refl

pub returns-in-Single-Whole : goal.returns-in-Single-Whole
returns-in-Single-Whole c = rw (c.in-Single-Whole.is-0, c.in-Single-Whole.is-1) refl

pub returns-in-Single-Single : goal.returns-in-Single-Single
returns-in-Single-Single c = rw (c.in-Single-Single.is-0, c.in-Single-Single.is-1) refl
