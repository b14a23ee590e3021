-- What each call on a grid answers, and what its pass knows afterwards.
use Rattle.std.specs.Prelude.{◌≡◌, ℕ, ◌+◌, ◌≤◌, false, List, [], ◌∷◌, ◌++◌, length, None, Some, Result, Ok, Err}
use Rattle.source_model.specs.declared.Given.{Given}
use Rattle.patch_layout.specs.declared.plan.Plan.{Plan}
use Rattle.patch_layout.specs.declared.look.Look.{Look}
use Rattle.magic_pool.specs.declared.Stepped.{Stepped}
use denote.RawPtr.{Ptr}
use Rattle.board_core.specs.declared.Noted.{Noted}
use Rattle.board_core.specs.declared.Entry.{Entry}
use Rattle.board_core.specs.declared.Entry.TheVariants.{Release, Step}
use Rattle.board_core.specs.declared.board.Claimed.{Claimed}
use Rattle.board_core.specs.Position.{Position, with_history, note}
use Rattle.board_core.specs.Causes.{claim_of}
use Rattle.grid_lock.specs.declared.view.View.{View}
use Rattle.grid_lock.specs.declared.replies.TryLook.{TryLook}
use Rattle.grid_lock.specs.declared.replies.TryLook.TheVariants as look
use Rattle.grid_lock.specs.declared.replies.TryWaits.{TryWaits}
use Rattle.grid_lock.specs.declared.replies.TryWaits.TheVariants as waits
use Rattle.grid_lock.specs.declared.replies.TryClaim.{TryClaim}
use Rattle.grid_lock.specs.declared.replies.TryClaim.TheVariants as claim
use Rattle.grid_lock.specs.declared.replies.TryDeliver.{TryDeliver}
use Rattle.grid_lock.specs.declared.replies.TryDeliver.TheVariants as deliver
use Rattle.grid_lock.specs.declared.replies.TryRelease.{TryRelease}
use Rattle.grid_lock.specs.declared.replies.TryRelease.TheVariants as release
use Rattle.grid_lock.specs.declared.replies.TryStep.{TryStep}
use Rattle.grid_lock.specs.declared.replies.TryStep.TheVariants as step
use Rattle.grid_lock.specs.Views.{Continues, met, reading}
use Rattle.grid_lock.specs.Answers.{AcceptsClaim, RefusesClaim, AcceptsOutcome, RefusesOutcome, AcceptsRelease, RefusesRelease, AcceptsStep, RefusesStep, ShowsProduct, ShowsNothing, WaitsFor, HasNoProduct}

-- the pass held the turn once: it has seen these entries and made those
abbrev pub turned : View → List Noted → List Noted → View
turned v seen mine = record v { seen = seen; mine = mine; loads = v.loads + 1; turns = v.turns + 1; holding = false }

-- the board answered so at a history that continues what the pass knew, and the entry stands right after it, under the
-- pass's number
abbrev pub Accepts : View → Entry → (Position → Type 0) → View → Type 0
Accepts v e Answers w =
    (log : List Noted) × Continues v log × Answers (with_history v.opened log)
    × (w ≡ turned v (log ++ note v.number e ∷ []) (v.mine ++ note v.number e ∷ []))

-- the board answered so at a history that continues what the pass knew; the pass has seen that one, and added nothing
abbrev pub Finds : View → (Position → Type 0) → View → Type 0
Finds v Answers w = Continues v w.seen × Answers (with_history v.opened w.seen) × (w ≡ turned v w.seen v.mine)

-- Busy: the turn was held as the pass tried to take it
abbrev pub Claims : View → Plan → Ptr → Result Claimed TryClaim → View → Type 0
Claims v plan node (Ok c) w = Accepts v (claim_of plan c.state) (λ b. AcceptsClaim b plan c) w
Claims v plan node (Err (claim.Refused r)) w =
    Finds v (λ b. RefusesClaim b plan r.why) w × (r.plan ≡ plan) × (r.node ≡ node)
Claims v plan node (Err (claim.Busy p n)) w = (w ≡ met v) × (p ≡ plan) × (n ≡ node)

abbrev pub Delivers : View → ℕ → Given → Ptr → Result ℕ TryDeliver → View → Type 0
Delivers v p given node (Ok place) w =
    (e : Entry) × Accepts v e (λ b. AcceptsOutcome b p given e place) w
Delivers v p given node (Err (deliver.Refused r)) w =
    Finds v (λ b. RefusesOutcome b p given r.why) w × (r.node ≡ node)
Delivers v p given node (Err (deliver.Busy n)) w = (w ≡ met v) × (n ≡ node)

abbrev pub Releases : View → ℕ → Ptr → Result ℕ TryRelease → View → Type 0
Releases v p node (Ok place) w = Accepts v (Release p) (λ b. AcceptsRelease b p place) w
Releases v p node (Err (release.Refused r)) w =
    Finds v (λ b. RefusesRelease b p r.why) w × (r.node ≡ node)
Releases v p node (Err (release.Busy n)) w = (w ≡ met v) × (n ≡ node)

abbrev pub Steps : View → ℕ → Ptr → Result (ℕ × Stepped) TryStep → View → Type 0
Steps v f node (Ok r) w = Accepts v (Step f) (λ b. AcceptsStep b f r) w
Steps v f node (Err (step.Refused r)) w =
    Finds v (λ b. RefusesStep b f r.why) w × (r.node ≡ node)
Steps v f node (Err (step.Busy n)) w = (w ≡ met v) × (n ≡ node)

abbrev pub Looks : View → ℕ → Look → Result (Unit {0}) TryLook → View → Look → Type 0
Looks v p before (Ok _) w after = Finds v (λ b. ShowsProduct b p after) w
Looks v p before (Err look.NoProduct) w after = Finds v (λ b. ShowsNothing b p before after) w
Looks v p before (Err look.Busy) w after = (w ≡ met v) × (after ≡ before)

abbrev pub AnswersWaits : View → ℕ → TryWaits → View → Type 0
AnswersWaits v p waits.Busy w = w ≡ met v
AnswersWaits v p waits.NoProduct w = Finds v (λ b. HasNoProduct b p) w
AnswersWaits v p (waits.Waits on) w = Finds v (λ b. WaitsFor b p (Some on)) w
AnswersWaits v p waits.Ready w = Finds v (λ b. WaitsFor b p None) w

-- the length n was loaded
abbrev pub Measures : View → ℕ → View → Type 0
Measures v n w = (length v.seen ≤ n) × (v.read ≤ n) × (w ≡ reading v n)
