use Rattle.std.proofs.Common.{ℕ, [], length, sym, subst}
use Rattle.std.proofs.lemmas.List.Elements.{All-nil, All-same}
use Rattle.std.specs.List.{All}
use Rattle.board_core.specs.Position.{Position}
use Rattle.router_work.specs.Routes.{Routes}
use Rattle.router_work.specs.inside.Workers.{IsBack}
use Rattle.router_work.proofs.Closings.{routes_alone, routes_split, unmoved}
use Rattle.router_work.proofs.routing.route_all.Goals as goal

pub returns-in-Err : goal.returns-in-Err
returns-in-Err g c =
    let given = c.args.outcomes.now.given in
    record { routed = subst (λ (b : Position). Routes given c.args.k c.args.board b) (sym c.in-Err.ensures.memory) (unmoved given c.args.k c.args.board c.qubits_of-qubits.ensures.legal) }

pub returns-in-Ok-bring : goal.returns-in-Ok-bring
returns-in-Ok-bring g c =
    let given = c.args.outcomes.now.given in
    let opened = c.in-Ok-open in
    let others = c.in-Ok-bring.others.items in
    let back = subst (λ (n : ℕ). All (IsBack opened.opened.0 given n) others) c.requires.gates c.in-Ok-bring.ensures.back in
    record { routed = routes_split given c.args.k opened.opened.0 c.bring.new.first others c.args.board c.close.result c.close.ensures (length others) opened.opened.1 opened.ensures.opened opened.ensures.first c.in-Ok-bring.ensures.all c.requires.numbers back }

pub returns : goal.returns
returns g c =
    let given = c.args.outcomes.now.given in
    let opened = c.in-Ok-open in
    let others = c.new.result.items in
    let back = All-same (IsBack opened.opened.0 given c.args.k) others [] c.new.ensures.items (All-nil (IsBack opened.opened.0 given c.args.k)) in
    record { routed = routes_alone given c.args.k opened.opened.0 c.bring.new.first others c.args.board c.close-in-Err-bring.result c.close-in-Err-bring.ensures opened.opened.1 opened.ensures.opened opened.ensures.first c.in-Err-bring.ensures.none c.requires.numbers back }
