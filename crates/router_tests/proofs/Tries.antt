-- A router that was just made may try the products whose numbers its hand took.
use Rattle.std.proofs.Common.{◌≡◌, ℕ, ◌<◌, ◌≤◌, List, length, sym, subst, arith}
use Rattle.std.specs.List.{Contains}
use Rattle.source_model.specs.declared.Given.{Given}
use Rattle.number_share.specs.Hands.{NamedShare, Owner}
use Rattle.router_work.specs.Routing.{Routing}
use Rattle.router_tests.specs.inside.Sites.{HoldsBelow, MayTry}

pub may_try : (s : NamedShare) (h : Owner) (r : Routing) (given : List Given) (k : ℕ) → HoldsBelow s h k → s.numbers ≤ length given → r.hand ≡ h → r.given ≡ given → MayTry r k
may_try s h r given k holds few hand same n below =
    let held = holds n below in
    let inside = held.1 in
    let short : n < length given = omega arith in
    (subst (λ (o : Owner). Contains o.held n) (sym hand) held.0, subst (λ (l : List Given). n < length l) (sym same) short)
