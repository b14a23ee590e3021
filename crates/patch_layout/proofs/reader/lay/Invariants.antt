use Rattle.patch_layout.specs.inside.Reading.{Lays}
use Rattle.patch_layout.proofs.reader.lay.Given as goal

abbrev pub invariant-loop-line : goal.invariant-loop-line
invariant-loop-line l = Lays l.lines l.line-index l.sites l.double
