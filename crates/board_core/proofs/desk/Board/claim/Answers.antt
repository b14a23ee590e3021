use Rattle.std.proofs.Common.{◌≡◌, ℕ, ◌<◌, List, [], ◌∷◌, ◌++◌, length, refl, ap, sym, ◌∙◌, subst}
use Rattle.std.proofs.lemmas.Option.{slice_get_within}
use Rattle.patch_layout.specs.Grid.{Sound}
use Rattle.board_core.specs.declared.Entry.TheVariants.{Claim}
use Rattle.board_core.specs.History.{entries}
use Rattle.board_core.specs.Legal.{Allowed}
use Rattle.board_core.specs.Position.{Position, past, job_with, with_entry}
use Rattle.board_core.specs.Causes.{claim_of}
use Rattle.board_core.specs.inside.Kept.{Kept}
use Rattle.board_core.proofs.Boards.{kept_at, room, place_at, went_by}
use Rattle.board_core.proofs.Claiming.{claim_allowed}
use Rattle.board_core.proofs.Placing.{claim_few, claim_within}
use Rattle.board_core.proofs.Accepted.{claim_accepted}
use Rattle.board_core.proofs.Carried.{claim_source}
use Rattle.board_core.proofs.desk.Board.claim.Goals as goal

pub claim-state-requires-clause-few : goal.claim-state-requires-clause-few
claim-state-requires-clause-few c = claim_few c.args.self.now c.args.plan c.self.inside.layout c.cells.result.now (ap (λ (b : Position). b.job.grid) (c.self.view_is ∙ c.in_default.ensures.same)) c.self.invariant.sound c.in_default.ensures.judged c.cells.ensures

pub claim-state-requires-clause-cells : goal.claim-state-requires-clause-cells
claim-state-requires-clause-cells c = claim_within c.args.self.now c.args.plan c.self.inside.layout c.cells.result.now (ap (λ (b : Position). b.job.grid) (c.self.view_is ∙ c.in_default.ensures.same)) c.in_default.ensures.judged c.cells.ensures

pub claim-state-requires-clause-p : goal.claim-state-requires-clause-p
claim-state-requires-clause-p c =
    let k = kept_at _ _ _ _ c.args.self.now (c.self.view_is ∙ c.in_default.ensures.same) c.self.invariant in
    let u = c.in_default.ensures.judged.before.before.before.before.before in
    subst (λ (n : ℕ). c.args.plan.number < n) (sym k.standings.0) (slice_get_within c.args.self.now.job.products c.args.plan.number u.static u.product)

pub push-requires : goal.push-requires
push-requires c = room _ _ _ _ c.args.self.now (c.self.view_is ∙ c.in_default.ensures.same) c.self.invariant

pub invariant_of-self : goal.invariant_of-self
invariant_of-self c =
    (went_by _ _ _ _ c.args.self.now (c.self.view_is ∙ c.in_default.ensures.same) c.self.invariant c.claim-state.new.self c.push.new.self c.args.by c.length-place.result (claim_of c.args.plan c.claim-state.result) (claim_allowed c.args.self.now c.args.plan c.claim-state.result (subst Sound (ap (λ (b : Position). b.job.grid) (c.self.view_is ∙ c.in_default.ensures.same)) c.self.invariant.sound) c.in_default.ensures.judged (c.claim-state.ensures.state c.args.self.now.job (past c.args.self.now) (kept_at _ _ _ _ c.args.self.now (c.self.view_is ∙ c.in_default.ensures.same) c.self.invariant))) c.length-place.ensures c.push.ensures.values (subst (λ (x : List ℕ). Allowed (job_with c.self.inside.products.items c.self.inside.layout c.self.inside.ledger.pool) (entries c.self.inside.history) (Claim c.args.plan.number c.args.plan.axis c.args.plan.port c.claim-state.result x) → c.length-place.result ≡ length (entries c.self.inside.history) → Kept (job_with c.self.inside.products.items c.self.inside.layout c.self.inside.ledger.pool) (entries c.self.inside.history ++ Claim c.args.plan.number c.args.plan.axis c.args.plan.port c.claim-state.result x ∷ []) c.claim-state.new.self) c.cells.ensures (c.claim-state.ensures.kept (job_with c.self.inside.products.items c.self.inside.layout c.self.inside.ledger.pool) (entries c.self.inside.history) c.self.invariant refl))).kept

pub returns-clause-accepted : goal.returns-clause-accepted
returns-clause-accepted c =
    let g = went_by _ _ _ _ c.args.self.now (c.self.view_is ∙ c.in_default.ensures.same) c.self.invariant c.claim-state.new.self c.push.new.self c.args.by c.length-place.result (claim_of c.args.plan c.claim-state.result) (claim_allowed c.args.self.now c.args.plan c.claim-state.result (subst Sound (ap (λ (b : Position). b.job.grid) (c.self.view_is ∙ c.in_default.ensures.same)) c.self.invariant.sound) c.in_default.ensures.judged (c.claim-state.ensures.state c.args.self.now.job (past c.args.self.now) (kept_at _ _ _ _ c.args.self.now (c.self.view_is ∙ c.in_default.ensures.same) c.self.invariant))) c.length-place.ensures c.push.ensures.values (subst (λ (x : List ℕ). Allowed (job_with c.self.inside.products.items c.self.inside.layout c.self.inside.ledger.pool) (entries c.self.inside.history) (Claim c.args.plan.number c.args.plan.axis c.args.plan.port c.claim-state.result x) → c.length-place.result ≡ length (entries c.self.inside.history) → Kept (job_with c.self.inside.products.items c.self.inside.layout c.self.inside.ledger.pool) (entries c.self.inside.history ++ Claim c.args.plan.number c.args.plan.axis c.args.plan.port c.claim-state.result x ∷ []) c.claim-state.new.self) c.cells.ensures (c.claim-state.ensures.kept (job_with c.self.inside.products.items c.self.inside.layout c.self.inside.ledger.pool) (entries c.self.inside.history) c.self.invariant refl)) in
    ((claim_allowed c.args.self.now c.args.plan c.claim-state.result (subst Sound (ap (λ (b : Position). b.job.grid) (c.self.view_is ∙ c.in_default.ensures.same)) c.self.invariant.sound) c.in_default.ensures.judged (c.claim-state.ensures.state c.args.self.now.job (past c.args.self.now) (kept_at _ _ _ _ c.args.self.now (c.self.view_is ∙ c.in_default.ensures.same) c.self.invariant))), place_at _ _ _ _ c.args.self.now (c.self.view_is ∙ c.in_default.ensures.same) c.self.invariant c.length-place.result c.length-place.ensures, g.is ∙ ap (λ (b : Position). with_entry b c.args.by (claim_of c.args.plan c.claim-state.result)) (c.self.view_is ∙ c.in_default.ensures.same))

pub returns-clause-source : goal.returns-clause-source
returns-clause-source c =
    let g = went_by _ _ _ _ c.args.self.now (c.self.view_is ∙ c.in_default.ensures.same) c.self.invariant c.claim-state.new.self c.push.new.self c.args.by c.length-place.result (claim_of c.args.plan c.claim-state.result) (claim_allowed c.args.self.now c.args.plan c.claim-state.result (subst Sound (ap (λ (b : Position). b.job.grid) (c.self.view_is ∙ c.in_default.ensures.same)) c.self.invariant.sound) c.in_default.ensures.judged (c.claim-state.ensures.state c.args.self.now.job (past c.args.self.now) (kept_at _ _ _ _ c.args.self.now (c.self.view_is ∙ c.in_default.ensures.same) c.self.invariant))) c.length-place.ensures c.push.ensures.values (subst (λ (x : List ℕ). Allowed (job_with c.self.inside.products.items c.self.inside.layout c.self.inside.ledger.pool) (entries c.self.inside.history) (Claim c.args.plan.number c.args.plan.axis c.args.plan.port c.claim-state.result x) → c.length-place.result ≡ length (entries c.self.inside.history) → Kept (job_with c.self.inside.products.items c.self.inside.layout c.self.inside.ledger.pool) (entries c.self.inside.history ++ Claim c.args.plan.number c.args.plan.axis c.args.plan.port c.claim-state.result x ∷ []) c.claim-state.new.self) c.cells.ensures (c.claim-state.ensures.kept (job_with c.self.inside.products.items c.self.inside.layout c.self.inside.ledger.pool) (entries c.self.inside.history) c.self.invariant refl)) in
    claim_source c.args.self.now _ c.args.by c.args.plan c.claim-state.result c.in_default.ensures.judged g.legal (g.is ∙ ap (λ (b : Position). with_entry b c.args.by (claim_of c.args.plan c.claim-state.result)) (c.self.view_is ∙ c.in_default.ensures.same))

pub returns-clause-legal : goal.returns-clause-legal
returns-clause-legal c =
    (went_by _ _ _ _ c.args.self.now (c.self.view_is ∙ c.in_default.ensures.same) c.self.invariant c.claim-state.new.self c.push.new.self c.args.by c.length-place.result (claim_of c.args.plan c.claim-state.result) (claim_allowed c.args.self.now c.args.plan c.claim-state.result (subst Sound (ap (λ (b : Position). b.job.grid) (c.self.view_is ∙ c.in_default.ensures.same)) c.self.invariant.sound) c.in_default.ensures.judged (c.claim-state.ensures.state c.args.self.now.job (past c.args.self.now) (kept_at _ _ _ _ c.args.self.now (c.self.view_is ∙ c.in_default.ensures.same) c.self.invariant))) c.length-place.ensures c.push.ensures.values (subst (λ (x : List ℕ). Allowed (job_with c.self.inside.products.items c.self.inside.layout c.self.inside.ledger.pool) (entries c.self.inside.history) (Claim c.args.plan.number c.args.plan.axis c.args.plan.port c.claim-state.result x) → c.length-place.result ≡ length (entries c.self.inside.history) → Kept (job_with c.self.inside.products.items c.self.inside.layout c.self.inside.ledger.pool) (entries c.self.inside.history ++ Claim c.args.plan.number c.args.plan.axis c.args.plan.port c.claim-state.result x ∷ []) c.claim-state.new.self) c.cells.ensures (c.claim-state.ensures.kept (job_with c.self.inside.products.items c.self.inside.layout c.self.inside.ledger.pool) (entries c.self.inside.history) c.self.invariant refl))).legal

pub returns-in-Err-clause-complete : goal.returns-in-Err-clause-complete
returns-in-Err-clause-complete c state a cert = absurd (claim_accepted c.args.self.now c.args.plan state c.in-Err.why a cert c.in-Err.ensures.judged)
