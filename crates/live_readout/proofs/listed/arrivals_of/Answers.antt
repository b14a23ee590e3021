-- One outcome more.
use Rattle.std.proofs.Common.{◌∙◌, ◌++◌, List, get_or, false, ap, sym, arith}
use Rattle.source_model.specs.declared.Given.TheVariants as given
use Rattle.arrival_line.specs.declared.arrival.Arrival.{Arrival}
use Rattle.live_readout.specs.Listed.{arrivals_at}
use Rattle.live_readout.proofs.Lists.{listed_more}
use Rattle.live_readout.proofs.listed.arrivals_of.Goals as goal

pub loop-p-preserved : goal.loop-p-preserved
loop-p-preserved c =
    c.in_ok-push_arrival.ensures ∙ ap (λ (l : List Arrival). l ++ arrivals_at c.loop-p.p (get_or c.args.given.now c.loop-p.p (given.Rotation false false))) c.loop-p.invariant
    ∙ sym (listed_more c.args.given.now c.loop-p.p (given.Rotation false false) (omega arith))
