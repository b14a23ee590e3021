use Rattle.std.proofs.Common.{◌≡◌, ℕ, ◌+◌, ◌++◌, ◌∷◌, [], length, Some, ap, ◌∙◌, arith, length-append}
use Rattle.std.proofs.lemmas.List.Elements.{All-pop, All-push, All-same}
use Rattle.board_core.specs.Shows.{IsMadeFor}
use Rattle.number_share.specs.Hands as shares
use Rattle.router_work.specs.declared.worker.Worker.{Worker}
use Rattle.router_work.specs.declared.worker.Worker.TheVariants.{Route}
use Rattle.router_work.specs.inside.Workers.{IsHired}
use Rattle.router_work.proofs.Crews.{new_pass, split_on}
use Rattle.router_work.proofs.crew.hire_routers.Goals as goal

pub new-router-requires-clause-look : goal.new-router-requires-clause-look
new-router-requires-clause-look g c κs within =
    (All-pop (IsMadeFor c.args.grid.now.opened) c.loop-gate.looks.items c.pop-in-Some-2.new.self.items (Some c.in-Some-Some.look) c.in-Some-Some.ensures'.items c.loop-gate.invariant.looks).1

pub new-router-requires-clause-hand : goal.new-router-requires-clause-hand
new-router-requires-clause-hand g c κs within =
    (All-pop (shares.IsHandOf c.args.share.now) c.loop-gate.hands.items c.pop-in-Some.new.self.items (Some c.in-Some-Some.hand) c.in-Some-Some.ensures.items c.loop-gate.invariant.hands).1

pub loop-gate-preserved : goal.loop-gate-preserved
loop-gate-preserved g c =
    let at = c.loop-gate in
    let n = length c.args.gates.items in
    let w : Worker g.row.G.Denot = Route c.new-router.result in
    let hs : length at.hands.items ≡ length c.pop-in-Some.new.self.items + 1 = ap length c.in-Some-Some.ensures.items ∙ length-append c.pop-in-Some.new.self.items (c.in-Some-Some.hand ∷ []) in
    let ls : length at.looks.items ≡ length c.pop-in-Some-2.new.self.items + 1 = ap length c.in-Some-Some.ensures'.items ∙ length-append c.pop-in-Some-2.new.self.items (c.in-Some-Some.look ∷ []) in
    let gs : length at.gates.items ≡ length c.pop.new.self.items + 1 = ap length c.in-Some.ensures.items ∙ length-append c.pop.new.self.items (c.in-Some.gate ∷ []) in
    let ws : length c.push_reserved.new.self.items ≡ length at.workers.items + 1 = ap length c.push_reserved.ensures.items ∙ length-append at.workers.items (w ∷ []) in
    let he = at.invariant.hand_each in
    let le = at.invariant.look_each in
    let all = at.invariant.count in
    let new = new_pass c.args.grid.now 0 0 n (length at.workers.items) c.args.first.now at.first c.new-router.result.pass c.requires.first at.invariant.first (c.new-router.ensures.pass ∙ c.next_pass-pass.ensures.new) (omega arith) (omega arith) in
    record {
      hands = (All-pop (shares.IsHandOf c.args.share.now) at.hands.items c.pop-in-Some.new.self.items (Some c.in-Some-Some.hand) c.in-Some-Some.ensures.items at.invariant.hands).0;
      hand_each = omega arith;
      looks = (All-pop (IsMadeFor c.args.grid.now.opened) at.looks.items c.pop-in-Some-2.new.self.items (Some c.in-Some-Some.look) c.in-Some-Some.ensures'.items at.invariant.looks).0;
      look_each = omega arith;
      hired = All-same (IsHired c.args.grid.now c.args.outcomes.now.given n) c.push_reserved.new.self.items (at.workers.items ++ w ∷ []) c.push_reserved.ensures.items
          (All-push (IsHired c.args.grid.now c.args.outcomes.now.given n) at.workers.items w at.invariant.hired (c.new-router.ensures.given, new));
      count = omega arith;
      capacity = c.push_reserved.ensures.capacity ∙ at.invariant.capacity;
      first = split_on c.args.first.now at.first c.next_pass-pass.new.first (length at.workers.items) 1 (length c.push_reserved.new.self.items) at.invariant.first c.next_pass-pass.ensures.first ws;
    }
