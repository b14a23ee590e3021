-- Steps of the least factory while a rotation waits for a state.
use Rattle.std.proofs.Common.{◌≡◌, inl, inr, ℕ, ◌+◌, ◌<◌, ◌≤◌, true, List, [], ◌∷◌, ◌++◌, length, slice_get, Some, None, refl, ap, sym, ◌∙◌, subst, arith}
use Rattle.std.proofs.lemmas.Bool.{true≢false}
use Rattle.std.proofs.lemmas.List.{length-append}
use Rattle.source_model.specs.declared.Given.{Given}
use Rattle.source_model.specs.declared.Kind.{Kind}
use Rattle.source_model.specs.declared.Kind.TheVariants as kind
use Rattle.source_model.specs.declared.Static.{Static}
use Rattle.patch_layout.specs.declared.look.Look.{Look}
use Rattle.patch_layout.specs.Grid.{Grid}
use Rattle.patch_layout.specs.Openness.{Least}
use Rattle.region_plan.specs.Free.{LacksState}
use Rattle.board_core.specs.declared.Entry.{Entry}
use Rattle.board_core.specs.declared.Entry.TheVariants.{Step}
use Rattle.board_core.specs.History.{History, is_done_by, done_place}
use Rattle.board_core.specs.Legal.{BoardJob, Allowed}
use Rattle.board_core.specs.Position.{Position, past, with_entry, note, IsLegal}
use Rattle.board_core.specs.Causes.{ready, is_rotation}
use Rattle.board_core.proofs.Standings.{place_stays}
use Rattle.finish_run.specs.Next.{Meeting, IsIdle, IsTurnOf, IsRotation, IsFactory, NoStates}
use Rattle.finish_run.specs.inside.Next.{WantsState}
use Rattle.finish_run.specs.Finished.{GoesOn, by_zero}
use Rattle.board_core.specs.Laws.{ProductsOfLength}
use Rattle.board_core.specs.Shows.{IsMadeFor}
use Rattle.finish_run.specs.inside.Looks.{ShowsTurn}
use Rattle.finish_run.proofs.Past.{past_push, pending_push, unreleased_push}
use Rattle.finish_run.proofs.Stocked.{few, none_ready}

-- ---- the turn
abbrev pub TurnIn : BoardJob → History → ℕ → Type 0
TurnIn j h p = IsIdle h × ((s : Static) × (slice_get j.products p ≡ Some s)) × Least (λ q. done_place h q ≡ None) p

idle_step : (h : History) (f : ℕ) → IsIdle h → IsIdle (h ++ Step f ∷ [])
idle_step h f i = (
  λ q x. elim (pending_push h (Step f) q x).1 [ inl y ↦ i.0 q y | inr t ↦ true≢false (sym t) ],
  λ q x. elim (unreleased_push h (Step f) q x).1 [ inl y ↦ i.1 q y | inr t ↦ true≢false (sym t) ],
)

turn_in_step : (j : BoardJob) (h : History) (f p : ℕ) → TurnIn j h p → TurnIn j (h ++ Step f ∷ []) p
turn_in_step j h f p t = (
  idle_step h f t.0,
  t.1,
  (place_stays (is_done_by p) h (Step f) refl ∙ t.2.0, λ q l n. t.2.1 q l (sym (place_stays (is_done_by q) h (Step f) refl) ∙ n)),
)

pub turn_step : (b c : Position) (f : ℕ) → c ≡ with_entry b 0 (Step f) → (p : ℕ) → IsTurnOf b p → IsTurnOf c p
turn_step b c f is p t =
    let job : c.job ≡ b.job = ap (λ (q : Position). q.job) is in
    subst (λ (j : BoardJob). TurnIn j (past c) p) (sym job)
    (subst (λ (h : History). TurnIn b.job h p) (sym (past_push b c (Step f) is)) (turn_in_step b.job (past b) f p t))

pub same_rotation : (b c : Position) (p : ℕ) → c.job ≡ b.job → IsRotation b p → IsRotation c p
same_rotation b c p job x = subst (λ (j : BoardJob). (s : Static) × (slice_get j.products p ≡ Some s) × (s.kind ≡ kind.Rotation)) (sym job) x

-- ---- the least factory
pub factory_there : (b : Position) (p : ℕ) → IsLegal b → IsRotation b p → (f : ℕ) × (f < 16) × IsFactory b.job.grid f
factory_there b p legal x =
    let w = legal.open_for in
    let port = w.2.port (w.1.rotations p x.0 x.1 x.2) in
    let has : IsFactory b.job.grid port.1 = (port.2.1, (port.0, port.2.0, port.2.2)) in
    (port.1, few b port.1 legal has, has)

pub step_allowed : (b : Position) (f : ℕ) → IsLegal b → IsFactory b.job.grid f → NoStates b → Allowed b.job (past b) (Step f)
step_allowed b f legal x none =
    let room : 0 < x.0 = (legal.factories f x.0 x.1).1 in
    let zero : length (ready b f) ≡ 0 = ap length (none f) in
    (x.0, x.1, inr (omega (arith, room, zero)))

pub least_same : (g k : Grid) (f : ℕ) → g ≡ k → Least (IsFactory g) f → Least (IsFactory k) f
least_same g k f e x = subst (λ (g : Grid). Least (IsFactory g) f) e x

-- ---- lengths
pub goes_longer : (M : Meeting) (given : List Given) (b c : Position) → GoesOn M given b c → length b.history ≤ length c.history
goes_longer M given b c x =
    let e : length c.history ≡ length b.history + length (by_zero x.added) = ap (λ (q : Position). length q.history) x.is ∙ length-append b.history (by_zero x.added) in
    omega (arith, e)

pub entry_longer : (b c : Position) (e : Entry) → c ≡ with_entry b 0 e → length c.history ≡ length b.history + 1
entry_longer b c e is = ap (λ (q : Position). length q.history) is ∙ length-append b.history (note 0 e ∷ [])

-- ---- a rotation that waits for a state
rotation_kind : (k : Kind) → is_rotation k ≡ true → k ≡ kind.Rotation
rotation_kind kind.Rotation e = refl
rotation_kind (kind.Measure bit) e = absurd (true≢false (sym e))
rotation_kind (kind.Settle first size value) e = absurd (true≢false (sym e))

pub wants_state : (b : Position) (p : ℕ) (look : Look) → IsLegal b → ShowsTurn b p look → LacksState look → WantsState b p
wants_state b p look legal s lacks = record {
  turn = s.turn;
  rotation = (s.shows.static, s.shows.is, rotation_kind s.shows.static.kind (sym s.shows.rotation ∙ lacks.0));
  none = none_ready b p look legal s.shows lacks.1;
}

-- ---- looks that were made for a board
abbrev pub MadeIn : BoardJob → Look → Type 0
MadeIn j look = (length look.held ≡ length j.grid.sites) × ProductsOfLength (length look.axis.letters) j.products

pub made_same : (b c : Position) (look : Look) → c.job ≡ b.job → IsMadeFor b look → IsMadeFor c look
made_same b c look e x = subst (λ (j : BoardJob). MadeIn j look) (sym e) x
