-- The board at the end is the one that was opened, with entries of workers.
use Rattle.std.proofs.Common.{[], length, sym, subst}
use Rattle.std.proofs.lemmas.List.Elements.{All-nil, All-same}
use Rattle.board_core.specs.Position.{Position}
use Rattle.live_readout.specs.Routes.{RoutesLive}
use Rattle.live_readout.specs.inside.Workers.{IsBack}
use Rattle.live_readout.proofs.Closings.{ByWorker, answered, back_of, routes_alone, routes_split, unmoved}
use Rattle.live_readout.proofs.route.route_live.Goals as goal

pub returns-in-Err-clause-routed : goal.returns-in-Err-clause-routed
returns-in-Err-clause-routed g c =
    let all = g.R.Readout.left c.args.readout in
    subst (λ (b : Position). RoutesLive all c.args.k c.args.board b) (sym c.in-Err.ensures.memory) (unmoved all c.args.k c.args.board c.qubits_of-qubits.ensures.legal)

pub returns-in-Ok-bring-clause-routed : goal.returns-in-Ok-bring-clause-routed
returns-in-Ok-bring-clause-routed g c =
    let all = g.R.Readout.left c.args.readout in
    let opened = c.in-Ok-open in
    let others = c.in-Ok-bring.brought.passes.items in
    let back = back_of opened.opened.0 _ all c.args.k (length c.args.gates.items) c.args.board others opened.ensures.opened c.in-Ok.ensures.wanted c.requires.gates c.in-Ok-bring.ensures.back in
    answered all c.args.k c.args.board c.close-board.result c.live_of.result c.live_of.ensures.board
    (routes_split all c.args.k c.args.board opened.opened.0 c.bring.new.first others c.close-board.result c.close-board.ensures (length others) opened.opened.1 opened.ensures.opened opened.ensures.first c.in-Ok-bring.ensures.all c.requires.numbers back)

pub returns-in-Err-bring-clause-routed : goal.returns-in-Err-bring-clause-routed
returns-in-Err-bring-clause-routed g c =
    let all = g.R.Readout.left c.args.readout in
    let opened = c.in-Ok-open in
    let others = c.new.result.items in
    let By = ByWorker all c.args.k c.args.board in
    let back = All-same (IsBack opened.opened.0 By) others [] c.new.ensures.items (All-nil (IsBack opened.opened.0 By)) in
    routes_alone all c.args.k c.args.board opened.opened.0 c.bring.new.first others c.close.result c.close.ensures opened.opened.1 opened.ensures.opened opened.ensures.first c.in-Err-bring.ensures.none c.requires.numbers back
