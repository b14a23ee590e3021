-- What a live run leaves on a board.
use Rattle.std.proofs.Common.{◌≡◌, ◌⊎◌, inl, inr, ℕ, suc, ◌+◌, ◌<◌, ◌≤◌, List, [], ◌∷◌, ◌++◌, All, Option, Some, None, slice_get, get_or, drop, length, refl, sym, ◌∙◌, ap, subst, arith}
use Rattle.std.specs.Option.{option_map}
use Rattle.std.proofs.lemmas.List.Elements.{All-get_or}
use Rattle.std.proofs.lemmas.Option.{get_or_from_slice_get, none-some, same_Some, slice_get-map, slice_get_within}
use Rattle.source_model.specs.declared.Given.{Given}
use Rattle.source_model.specs.declared.Given.TheVariants as given
use Rattle.patch_layout.specs.Grid.{Grid}
use Rattle.board_core.specs.declared.Noted.{Noted}
use Rattle.board_core.specs.declared.Entry.TheVariants.{Deliver, Step}
use Rattle.board_core.specs.History.{entries}
use Rattle.board_core.specs.Laws.{Agrees, DeliveriesStand}
use Rattle.board_core.specs.Position.{Position, with_history}
use Rattle.arrival_line.specs.declared.arrival.Arrival.{Arrival}
use Rattle.live_readout.specs.Listed.{arrival, listed, listed_from}
use Rattle.live_readout.specs.Entries.{IsTaking, IsHanding}
use Rattle.live_readout.specs.Routes.{IsByLiveWorker, RoutesLive, factories_of}
use Rattle.live_readout.specs.Wanted.{wanted_of}
use Rattle.arrival_line.specs.Strays.{Serves}
use Rattle.live_readout.specs.Carried.{AreByLiveWorkers}
use Rattle.live_readout.proofs.Crews.{few_factories}

pub live_workers : (Fits : Arrival → Type 0) (k : ℕ) (x : Grid) (added : List Noted) → k ≤ 16 → All (IsByLiveWorker Fits k (length (factories_of x))) added → AreByLiveWorkers added
live_workers Fits k x added few by i d low = go (by i d low)
  where
    m : ℕ
    m = length (factories_of x)

    few_makers : m ≤ 16
    few_makers = few_factories x (factories_of x) refl

    go : {n : ℕ} {A B C : Type 0} → ((1 ≤ n) × (n ≤ k) × A) ⊎ ((k < n) × (n ≤ k + m) × B) ⊎ ((n ≡ k + m + 1) × C) → n ≤ 33
    go (inl (low, high, a)) = omega arith
    go (inr (inl (low, high, b))) = omega (arith, few_makers)
    go (inr (inr (is, c))) = omega (arith, few_makers)

-- ---- an arrival of a table is its product's outcome
module _ (p : ℕ) (g : Given) where
  abbrev There : ℕ → List Given → Type 0
  There q gs = (k : ℕ) × (p ≡ q + k) × (slice_get gs k ≡ Some g)

  later : (q : ℕ) (x : Given) (gs : List Given) → There (q + 1) gs → There q (x ∷ gs)
  later q x gs t = (suc t.0, (let e = t.1 in omega arith), t.2)

  first : (q : ℕ) (x : Given) (gs : List Given) (rest after : List Arrival) → arrival q x ∷ rest ≡ arrival p g ∷ after → There q (x ∷ gs)
  first q x gs rest after e =
      let same : arrival q x ≡ arrival p g = ap (λ (l : List Arrival). get_or l 0 (arrival q x)) e in
      let q_is : q ≡ p = ap (λ (a : Arrival). a.product) same in
      (0, omega arith, ap (λ (a : Arrival). Some a.given) same)

  nowhere : (before after : List Arrival) → [] ≡ before ++ arrival p g ∷ after → ⊥
  nowhere [] after e = let n = ap length e in omega arith
  nowhere (b ∷ before) after e = let n = ap length e in omega arith

  pub in_listed : (q : ℕ) (gs : List Given) (before after : List Arrival) → listed_from q gs ≡ before ++ arrival p g ∷ after → There q gs
  in_listed q [] before after e = absurd (nowhere before after e)
  in_listed q (given.Rotation raw x ∷ gs) [] after e = first q (given.Rotation raw x) gs (listed_from (q + 1) gs) after e
  in_listed q (given.Rotation raw x ∷ gs) (b ∷ before) after e = later q (given.Rotation raw x) gs (in_listed (q + 1) gs before after (ap (drop 1) e))
  in_listed q (given.Measure raw ∷ gs) [] after e = first q (given.Measure raw) gs (listed_from (q + 1) gs) after e
  in_listed q (given.Measure raw ∷ gs) (b ∷ before) after e = later q (given.Measure raw) gs (in_listed (q + 1) gs before after (ap (drop 1) e))
  in_listed q (given.Settled ∷ gs) before after e = later q given.Settled gs (in_listed (q + 1) gs before after e)

pub listed_outcome : (gs : List Given) (p : ℕ) (g : Given) (before after : List Arrival) → listed gs ≡ before ++ arrival p g ∷ after → slice_get gs p ≡ Some g
listed_outcome gs p g before after e =
    let t = in_listed p g 0 gs before after e in
    let k_is : p ≡ t.0 = let s = t.1 in omega arith in
    ap (slice_get gs) k_is ∙ t.2

-- ---- deliveries
module _ (gs : List Given) (Fits : Arrival → Type 0) (listed_as : (a : Arrival) → Fits a → slice_get gs a.product ≡ Some a.given) (k m : ℕ) where
  abbrev By : Noted → Type 0
  By = IsByLiveWorker Fits k m

  by_arrival : (n : Noted) (p : ℕ) (g : Given) → By n → n.entry ≡ Deliver p g → slice_get gs p ≡ Some g
  by_arrival n p g (inl (low, high, takes)) e = absurd (subst IsTaking e takes)
  by_arrival n p g (inr (inl (low, high, (f, step)))) e = absurd (let both : Deliver p g ≡ Step f = sym e ∙ step in cc)
  by_arrival n p g (inr (inr (is, hands))) e = listed_as (arrival p g) (subst (IsHanding Fits) e hands)

  -- an entry of a mapped list
  mapped : {A B : Type 0} (f : A → B) (o : Option A) (y : B) → option_map f o ≡ Some y → (x : A) × (o ≡ Some x) × (f x ≡ y)
  mapped f None y e = absurd (none-some y e)
  mapped f (Some x) y e = (x, refl, same_Some (f x) y e)

  pub live_agrees : DeliveriesStand → (added : List Noted) → All By added → Agrees gs (entries added)
  live_agrees stand added by p g e =
      let at = stand (entries added) p g e in
      let found = mapped (λ (n : Noted). n.entry) (slice_get added at.0) (Deliver p g) (sym (slice_get-map (λ (n : Noted). n.entry) added at.0) ∙ at.1) in
      let here = All-get_or By added at.0 found.0 (slice_get_within added at.0 found.0 found.1) by in
      by_arrival found.0 p g (subst By (get_or_from_slice_get added at.0 found.0 found.0 found.1) here) found.2

-- ---- a board that was brought forward by the arrivals of a table
pub route_agrees : DeliveriesStand → (gs : List Given) (all : List Arrival) → all ≡ listed gs → (k : ℕ) (b c : Position) (r : RoutesLive all k b c) → Agrees gs (entries r.added)
route_agrees stand gs all is k b c r =
    live_agrees gs (Serves (wanted_of b) all) (λ a s. listed_outcome gs a.product a.given s.0 s.1 (sym is ∙ s.2)) k (length (factories_of b.job.grid)) stand r.added r.by_workers

pub route_workers : (all : List Arrival) (k : ℕ) (b c : Position) (r : RoutesLive all k b c) → k ≤ 16 → AreByLiveWorkers r.added
route_workers all k b c r few = live_workers (Serves (wanted_of b) all) k b.job.grid r.added few r.by_workers

-- a board without a history has the added entries alone
pub new_history : (b c : Position) (added : List Noted) → b.history ≡ [] → c ≡ with_history b (b.history ++ added) → c.history ≡ added
new_history b c added new is = ap (λ (p : Position). p.history) is ∙ ap (λ (h : List Noted). h ++ added) new
