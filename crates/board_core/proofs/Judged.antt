-- Why an outcome isn't delivered, by a product's kind and its places.
use Rattle.std.proofs.Common.{◌≡◌, ℕ, Option, Some, None, is_some, IsSome, refl, ap, sym, subst}
use Rattle.std.specs.Option.{MatchOption}
use Rattle.source_model.specs.declared.Given.{Given}
use Rattle.source_model.specs.declared.Given.TheVariants as given
use Rattle.source_model.specs.declared.Kind.{Kind}
use Rattle.source_model.specs.declared.Kind.TheVariants as kind
use Rattle.source_model.specs.declared.Static.{Static}
use Rattle.source_model.specs.Circuits.{IsOutcomeOf}
use Rattle.board_core.specs.declared.board.DeliverWhy.{DeliverWhy}
use Rattle.board_core.specs.declared.board.DeliverWhy.TheVariants as deliver
use Rattle.board_core.specs.History.{claim_place, done_place}
use Rattle.board_core.specs.View.{LeastWait}
use Rattle.board_core.specs.Position.{Position, past}
use Rattle.board_core.specs.Books.{TakesRegion, standing_of}
use Rattle.board_core.specs.inside.Books.{CanDeliver}
use Rattle.board_core.specs.Causes.{IsProduct, IsBegun, IsDeliverable, DeliverRefusedBecause}
use Rattle.board_core.specs.inside.Judging.{if_of_kind, if_undone, if_claimed, why_not_delivered}
use Rattle.board_core.proofs.Claiming.{one_product}

wrong : (k : Kind) (g : Given) → MatchOption (if_of_kind k g) (IsOutcomeOf k g) (λ why. (why ≡ deliver.WrongKind) × (IsOutcomeOf k g → ⊥))
wrong kind.Rotation (given.Rotation raw x) = tt
wrong kind.Rotation (given.Measure raw) = (refl, λ i. i)
wrong kind.Rotation given.Settled = (refl, λ i. i)
wrong (kind.Measure bit) (given.Rotation raw x) = (refl, λ i. i)
wrong (kind.Measure bit) (given.Measure raw) = tt
wrong (kind.Measure bit) given.Settled = (refl, λ i. i)
wrong (kind.Settle first size value) (given.Rotation raw x) = (refl, λ i. i)
wrong (kind.Settle first size value) (given.Measure raw) = (refl, λ i. i)
wrong (kind.Settle first size value) given.Settled = tt

-- all parts of a delivery but what the product waits on
pub record Timely (b : Position) (p : ℕ) (s : Static) (g : Given) : Type 0 where
  pub claimed : TakesRegion s.kind → IsSome (claim_place (past b) p)
  pub undone : done_place (past b) p ≡ None
  pub outcome : IsOutcomeOf s.kind g

module _ (b : Position) (p : ℕ) (s : Static) (g : Given) (e : IsProduct b p s) where
  abbrev Judged : Option DeliverWhy → Type 0
  Judged o = MatchOption o (Timely b p s g) (λ why. DeliverRefusedBecause why b p g)

  abbrev begun : (TakesRegion s.kind → IsSome (claim_place (past b) p)) → IsBegun b p
  begun claimed = record { static = s; product = e; claimed = claimed }

  undone_judged : (TakesRegion s.kind → IsSome (claim_place (past b) p)) → (d : Option ℕ) → done_place (past b) p ≡ d → Judged (if_undone d s.kind g)
  undone_judged claimed None f = go (if_of_kind s.kind g) (wrong s.kind g)
    where
      go : (o : Option DeliverWhy) → MatchOption o (IsOutcomeOf s.kind g) (λ why. (why ≡ deliver.WrongKind) × (IsOutcomeOf s.kind g → ⊥)) → Judged o
      go None i = record { claimed = claimed; undone = f; outcome = i }
      go (Some why) x = subst (λ (w : DeliverWhy). DeliverRefusedBecause w b p g) (sym x.0) (begun claimed, f, x.1)
  undone_judged claimed (Some place) f = (begun claimed, f)

  region_judged : (k : Kind) → s.kind ≡ k → TakesRegion k → (c : Option ℕ) → claim_place (past b) p ≡ c → Judged (if_claimed c (done_place (past b) p) k g)
  region_judged k is t None f = (s, e, subst TakesRegion (sym is) t, f)
  region_judged k is t (Some n) f = subst (λ (y : Kind). Judged (if_undone (done_place (past b) p) y g)) is (undone_judged (λ r. ap is_some f) (done_place (past b) p) refl)

  pub deliver_judged : (o : Option DeliverWhy) → o ≡ why_not_delivered s.kind (standing_of (past b) p) g → Judged o
  deliver_judged o same = subst Judged (sym same) (go s.kind refl)
    where
      go : (k : Kind) → s.kind ≡ k → Judged (why_not_delivered k (standing_of (past b) p) g)
      go kind.Rotation f = region_judged kind.Rotation f tt (claim_place (past b) p) refl
      go (kind.Measure bit) f = region_judged (kind.Measure bit) f tt (claim_place (past b) p) refl
      go (kind.Settle first size value) f = subst (λ (y : Kind). Judged (if_undone (done_place (past b) p) y g)) f (undone_judged (λ r. absurd (subst TakesRegion f r)) (done_place (past b) p) refl)

  pub refused_because : (o : Option DeliverWhy) (why : DeliverWhy) → o ≡ why_not_delivered s.kind (standing_of (past b) p) g → o ≡ Some why → DeliverRefusedBecause why b p g
  refused_because o why same is = subst Judged is (deliver_judged o same)

  pub timely : (o : Option DeliverWhy) → o ≡ why_not_delivered s.kind (standing_of (past b) p) g → o ≡ None → Timely b p s g
  timely o same is = subst Judged is (deliver_judged o same)

  pub deliverable : Timely b p s g → (g ≡ given.Settled → LeastWait b.job.products (past b) p None) → IsDeliverable b p g
  deliverable t ready = record { begun = begun t.claimed; undone = t.undone; outcome = t.outcome; ready = ready }

  pub waiting : (on : ℕ) → Timely b p s g → g ≡ given.Settled → LeastWait b.job.products (past b) p (Some on) → DeliverRefusedBecause (deliver.Waits on) b p g
  waiting on t settled least = (begun t.claimed, t.undone, t.outcome, settled, least)

-- the same of the product's entry in a table
pub can_deliver : (b : Position) (p : ℕ) (s : Static) (g : Given) → IsProduct b p s → IsDeliverable b p g → CanDeliver b.job (past b) p s g
can_deliver b p s g e d =
    let same = one_product b p d.begun.static s d.begun.product e in
    record {
      product = e;
      claimed = subst (λ (x : Static). TakesRegion x.kind → IsSome (claim_place (past b) p)) same d.begun.claimed;
      undone = d.undone;
      outcome = subst (λ (x : Static). IsOutcomeOf x.kind g) same d.outcome;
      ready = d.ready;
    }
