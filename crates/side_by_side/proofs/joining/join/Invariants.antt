use Rattle.side_by_side.specs.inside.Drafts.{HasDrafted}
use Rattle.side_by_side.proofs.joining.join.Given as goal

abbrev pub invariant-loop-program : goal.invariant-loop-program
invariant-loop-program l = record { drafted : HasDrafted l.circuits l.program l.draft }
