-- What routers and makers leave on a board.
use Rattle.std.proofs.Common.{◌≡◌, ◌⊎◌, inl, inr, ℕ, ◌+◌, ◌<◌, ◌≤◌, List, [], ◌++◌, All, Option, Some, None, slice_get, refl, sym, ◌∙◌, ap, subst, arith}
use Rattle.std.specs.Option.{option_map}
use Rattle.std.proofs.lemmas.List.Elements.{All-get_or}
use Rattle.std.proofs.lemmas.Option.{get_or_from_slice_get, none-some, same_Some, slice_get-map, slice_get_within}
use Rattle.source_model.specs.declared.Given.{Given}
use Rattle.board_core.specs.declared.Noted.{Noted}
use Rattle.board_core.specs.declared.Entry.TheVariants.{Deliver, Step}
use Rattle.board_core.specs.History.{entries}
use Rattle.board_core.specs.Laws.{Agrees, DeliveriesStand}
use Rattle.board_core.specs.Position.{Position, with_history}
use Rattle.router_work.specs.Passing.{IsRouted}
use Rattle.router_work.specs.Routes.{IsByWorker}
use Rattle.run_top.specs.Carried.{AreByWorkers}

pub routed_workers : (given : List Given) (k : ℕ) (added : List Noted) → k ≤ 16 → All (IsByWorker given k) added → AreByWorkers added
routed_workers given k added few by i d low = go (by i d low)
  where
    go : {n : ℕ} {A B : Type 0} → ((1 ≤ n) × (n ≤ k) × A) ⊎ ((k < n) × (n ≤ k + 16) × B) → n ≤ 32
    go (inl (low, high, a)) = omega arith
    go (inr (low, high, b)) = omega arith

-- a delivery has the handed-in outcome
by_given : (given : List Given) (k : ℕ) (n : Noted) (p : ℕ) (g : Given) → IsByWorker given k n → n.entry ≡ Deliver p g → slice_get given p ≡ Some g
by_given given k n p g (inl (low, high, routed)) e = subst (IsRouted given) e routed
by_given given k n p g (inr (low, high, (f, step))) e = absurd (let both : Deliver p g ≡ Step f = sym e ∙ step in cc)

-- an entry of a mapped list
mapped : {A B : Type 0} (f : A → B) (o : Option A) (y : B) → option_map f o ≡ Some y → (x : A) × (o ≡ Some x) × (f x ≡ y)
mapped f None y e = absurd (none-some y e)
mapped f (Some x) y e = (x, refl, same_Some (f x) y e)

pub routed_agrees : DeliveriesStand → (given : List Given) (k : ℕ) (added : List Noted) → All (IsByWorker given k) added → Agrees given (entries added)
routed_agrees stand given k added by p g e =
    let at = stand (entries added) p g e in
    let found = mapped (λ (n : Noted). n.entry) (slice_get added at.0) (Deliver p g) (sym (slice_get-map (λ (n : Noted). n.entry) added at.0) ∙ at.1) in
    let here = All-get_or (IsByWorker given k) added at.0 found.0 (slice_get_within added at.0 found.0 found.1) by in
    by_given given k found.0 p g (subst (IsByWorker given k) (get_or_from_slice_get added at.0 found.0 found.0 found.1) here) found.2

-- a board without a history has the added entries alone
pub new_history : (b c : Position) (added : List Noted) → b.history ≡ [] → c ≡ with_history b (b.history ++ added) → c.history ≡ added
new_history b c added new is = ap (λ (p : Position). p.history) is ∙ ap (λ (h : List Noted). h ++ added) new
