use Rattle.std.proofs.Common.{◌≡◌, ◌++◌, drop}
use Rattle.job_read.specs.Stages.{factories_in}
use Rattle.job_read.proofs.outcomes.factories.Given as goal

abbrev pub invariant-loop-cell : goal.invariant-loop-cell
invariant-loop-cell l = l.found.items ++ factories_in (drop l.cell l.layout.sites) ≡ factories_in l.layout.sites
