-- With nothing held on an open layout, there is a region for the product whose turn it is.
use Rattle.std.proofs.Common.{◌≡◌, ◌≢◌, ◌⊎◌, inl, inr, ℕ, ◌<◌, Bool, true, false, List, [], ◌∷◌, length, get_or, slice_get, Option, Some, None, Contains, refl, ap, sym, ◌∙◌, subst, arith}
use Rattle.std.proofs.lemmas.Option.{same_Some, none-some, slice_get_within, slice_get-get_or, get_or_from_slice_get}
use Rattle.pauli_product.specs.declared.Letter.{Letter}
use Rattle.pauli_product.specs.declared.Letter.TheVariants as letter
use Rattle.pauli_product.specs.Signed.{Signed, HasLetter}
use Rattle.source_model.specs.declared.Kind.{Kind}
use Rattle.source_model.specs.declared.Kind.TheVariants as kind
use Rattle.source_model.specs.declared.Static.{Static}
use Rattle.source_model.specs.Statics.{static_items}
use Rattle.source_model.specs.Used.{UsedBy, acts, acts_at, takes_region}
use Rattle.source_model.specs.Laws.{AxesStayOnUsed, StaticsStay}
use Rattle.patch_layout.specs.declared.layout.Edge.TheVariants as edge
use Rattle.patch_layout.specs.declared.layout.Side.TheVariants as side
use Rattle.patch_layout.specs.declared.layout.Site.{Site}
use Rattle.patch_layout.specs.declared.look.Look.{Look}
use Rattle.patch_layout.specs.declared.plan.Plan.{Plan}
use Rattle.patch_layout.specs.Grid.{IsPort}
use Rattle.patch_layout.specs.Row.{StandsAtUsed, HasNamed, WholeFits, WholeIsAncilla, ancilla_cells}
use Rattle.patch_layout.proofs.Whole.{side_ancilla}
use Rattle.patch_layout.proofs.Places.{get_from_Contains}
use Rattle.region_plan.specs.Free.{HasState, IsUnheld, MayTake, PatchHeld, Serves as ServesIn}
use Rattle.region_plan.specs.Answer.{Answers, IsBlocked, IsRegion}
use Rattle.region_plan.specs.declared.answer.Planned.{Planned}
use Rattle.region_plan.specs.declared.answer.Planned.TheVariants as planned
use Rattle.board_core.specs.Books.{TakesRegion}
use Rattle.board_core.specs.Causes.{IsClaimable, IsProduct, ready}
use Rattle.patch_layout.specs.Certificate.{Certified}
use Rattle.patch_layout.specs.Case.{case_of}
use Rattle.board_core.specs.History.{known, claim_place}
use Rattle.board_core.specs.Legal.{AxisOf, Holds}
use Rattle.board_core.specs.View.{LeastWait}
use Rattle.board_core.specs.Position.{Position, past, IsLegal}
use Rattle.finish_run.specs.inside.Looks.{IsServed, IsStocked, ShowsTurn}
use Rattle.finish_run.proofs.Past.{nothing_held}
use Rattle.finish_run.proofs.Turns.{look_untaken, look_waits, turn_unclaimed, turn_waits}
use Rattle.finish_run.proofs.Lengths.{items_long}
use Rattle.finish_run.proofs.Stocked.{ready_factory}

same_product : (b : Position) (p : ℕ) (s t : Static) → IsProduct b p s → IsProduct b p t → s ≡ t
same_product b p s t e f = same_Some s t (sym e ∙ f)

region_true : (k : Kind) → TakesRegion k → takes_region k ≡ true
region_true kind.Rotation r = refl
region_true (kind.Measure bit) r = refl
region_true (kind.Settle first size value) r = absurd r

acting : (l : Letter) → l ≢ letter.I → acts l ≡ true
acting letter.I n = absurd (n refl)
acting letter.X n = refl
acting letter.Y n = refl
acting letter.Z n = refl

some_in : (cells : List ℕ) (c : ℕ) → Contains cells c → 0 < length cells
some_in cells c x = let at = get_from_Contains cells c x in let l = slice_get_within cells at.0 c at.1 in omega (arith, l)

nonempty : (l : List ℕ) → 0 < length l → (s : ℕ) × (ss : List ℕ) × (l ≡ s ∷ ss)
nonempty [] x = absurd (omega arith)
nonempty (s ∷ ss) x = (s, ss, refl)

module _ (b : Position) (p : ℕ) (look : Look) (legal : IsLegal b) (shows : ShowsTurn b p look) (served : IsServed b p) (stocked : IsStocked look)
    (fits : WholeFits) (whole : WholeIsAncilla) (used : AxesStayOnUsed) (stay : StaticsStay) where
  s : Static
  s = shows.shows.static

  region : TakesRegion shows.shows.static.kind
  region = subst (λ (x : Static). TakesRegion x.kind) (same_product b p served.0 shows.shows.static served.1 shows.shows.is) served.2

  pub letter_there : (q : ℕ) × HasLetter look.axis q
  letter_there = shows.letter

  -- ---- nothing is held
  free_of : (q c : ℕ) → Holds b.job.grid (past b) q c → ⊥
  free_of q c x = nothing_held b.job (past b) legal.legal shows.turn.0 q c x

  unheld_at : (c : ℕ) (o : Option ℕ) → c < length b.job.grid.sites → slice_get look.held c ≡ Some o → o ≡ None
  unheld_at c None l e = refl
  unheld_at c (Some q) l e = absurd (free_of q c ((shows.shows.held.1 c q l).0 e))

  unheld : (c : ℕ) (x : Site) → slice_get b.job.grid.sites c ≡ Some x → IsUnheld look.held c
  unheld c x at =
      let l = slice_get_within b.job.grid.sites c x at in
      let same = shows.shows.held.0 in
      let here = slice_get-get_or look.held c None (omega (arith, l, same)) in
      here ∙ ap (λ (o : Option ℕ). Some o) (unheld_at c (get_or look.held c None) l here)

  no_patch_held : PatchHeld b.job.grid look → ⊥
  no_patch_held x =
      let h = x.1.1 in
      let patch = h.2 in
      free_of h.1 h.0 ((shows.shows.held.1 h.0 h.1 (slice_get_within b.job.grid.sites h.0 _ patch.1)).0 h.3)

  -- ---- all ancilla cells serve
  at_used : StandsAtUsed look.axis legal.open_for.0.used
  at_used q l at other =
      let stays = stay b.job.products in
      let acts_there : acts_at look.axis q ≡ true = ap acts (get_or_from_slice_get look.axis.letters q l letter.I at) ∙ acting l other in
      let by = used legal.limits.qubits (static_items b.job.products) (known b.job.products (past b)) p shows.shows.static look.axis q (items_long legal.limits.qubits b.job.products legal.limits.axes_fit)
      (ap (λ (l : List Static). slice_get l p) stays ∙ shows.shows.is) (region_true shows.shows.static.kind region) shows.axis_of acts_there in
      legal.open_for.1.used q (subst (λ (l : List Static). UsedBy l q) stays by)

  some_cells : 0 < length (ancilla_cells b.job.grid)
  some_cells =
      let q = letter_there in
      let d = legal.open_for.2.sides q.0 edge.X (at_used q.0 q.1.0 q.1.1 q.1.2) in
      some_in (ancilla_cells b.job.grid) d.0 (whole b.job.grid d.0 (side_ancilla b.job.grid (side.Patch q.0 edge.X) d.0 d.1))

  all_serve : (port : Option ℕ) → HasNamed b.job.grid port → ServesIn b.job.grid look port
  all_serve port named =
      let fit = fits b.job.grid legal.open_for.0 look.axis port legal.open_for.2 at_used named some_cells in
      (ancilla_cells b.job.grid, (fit, λ k d l. (fit.ancilla k d l, unheld (get_or (ancilla_cells b.job.grid) k d) _ (fit.ancilla k d l))))

  -- ---- a port with a ready state
  state_ready : (f : ℕ) → HasState look f → (n : ℕ) × (ss : List ℕ) × (ready b f ≡ n ∷ ss)
  state_ready f x =
      let l = slice_get_within look.ready f x.0 x.1 in
      let sizes = shows.shows.factories in
      let here = shows.shows.ready-are f (omega (arith, l, sizes)) in
      let same : length (ready b f) ≡ x.0 = same_Some (length (ready b f)) x.0 (sym here ∙ x.1) in
      let some : 0 < x.0 = x.2 in
      nonempty (ready b f) (omega (arith, same, some))

  port_of : (f : ℕ) → HasState look f → (c : ℕ) × IsPort b.job.grid f c × IsUnheld look.held c
  port_of f x =
      let r = state_ready f x in
      let has = ready_factory b f r.0 r.1 legal r.2 in
      (has.1.0, (has.1.1, has.0, has.1.2), unheld has.1.0 _ has.1.2)

  not_blocked : IsBlocked b.job.grid look → ⊥
  not_blocked (inl held) = no_patch_held held
  not_blocked (inr none) = go look.rotation refl
    where
      rotating : look.rotation ≡ true → ⊥
      rotating r = stocked (
        r,
        λ f x.
            let port = port_of f x in
            none (Some f) (r, (x, port)) (all_serve (Some f) (port.0, port.1)),
      )

      go : (r : Bool) → look.rotation ≡ r → ⊥
      go true r = rotating r
      go false r = none None r (all_serve None tt)

  -- the planner has no other answer than a region, unless it is out of memory
  pub no_other : (M : Option ℕ → List ℕ → Type 0) (a : Planned) → Answers M b.job.grid look a
      → ((place : ℕ) × (a ≡ planned.Taken place)) ⊎ (((on : ℕ) × (a ≡ planned.NotReady on)) ⊎ ((a ≡ planned.NoReady) ⊎ (a ≡ planned.Blocked))) → ⊥
  no_other M a x (inl y) = none-some y.0 (sym (look_untaken b p look shows.turn shows.shows) ∙ subst (λ (a : Planned). Answers M b.job.grid look a) y.1 x)
  no_other M a x (inr (inl y)) = none-some y.0 (sym (look_waits b p look shows.turn shows.shows) ∙ (subst (λ (a : Planned). Answers M b.job.grid look a) y.1 x).1)
  no_other M a x (inr (inr (inl y))) = stocked (subst (λ (a : Planned). Answers M b.job.grid look a) y x).1
  no_other M a x (inr (inr (inr y))) = not_blocked (subst (λ (a : Planned). Answers M b.job.grid look a) y x).1

  -- ---- nothing speaks against a claim by its region
  pub claimable : (plan : Plan) → IsRegion b.job.grid look plan → IsClaimable b plan
  claimable plan r =
      let number : plan.number ≡ p = r.number ∙ shows.shows.product in
      record {
        before = record {
          before = record {
            before = record {
              before = record {
                before = record {
                  static = shows.shows.static;
                  product = ap (λ (n : ℕ). slice_get b.job.products n) number ∙ shows.shows.is;
                  region = region;
                  unclaimed = subst (λ (n : ℕ). claim_place (past b) n ≡ None) (sym number) (turn_unclaimed b p shows.turn);
                };
                waits = subst (λ (n : ℕ). LeastWait b.job.products (past b) n None) (sym number) (turn_waits b p shows.turn);
              };
              axis_of = subst (λ (n : ℕ). AxisOf b.job (past b) n plan.axis) (sym number) (subst (λ (a : Signed). AxisOf b.job (past b) p a) (sym r.axis) shows.axis_of);
            };
            checked = subst (λ (t : Bool). Certified (case_of b.job.grid t plan)) shows.shows.rotation r.certified;
          };
          free = λ c q _. free_of q c;
        };
        stocked = λ f at none.
            let may = subst (λ (o : Option ℕ). MayTake b.job.grid look o) at r.port in
            let x = state_ready f may.1.0 in
            nothing x.0 x.1 (sym none ∙ x.2);
      }
    where
      nothing : (n : ℕ) (ss : List ℕ) → [] ≡ n ∷ ss → ⊥
      nothing n ss e = cc
