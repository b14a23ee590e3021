-- What the history of a board that was brought to its end promises.
use Rattle.std.proofs.Common.{◌≡◌, ℕ, ◌+◌, ◌≤◌, List, [], ◌∷◌, take, slice_get, Option, Some, None, All, refl, ap, sym, ◌∙◌, subst, arith}
use Rattle.std.specs.Option.{option_map}
use Rattle.std.proofs.lemmas.List.{take-map}
use Rattle.std.proofs.lemmas.List.Elements.{All-nil, All-cons}
use Rattle.std.proofs.lemmas.Option.{none-some, same_Some, slice_get-map}
use Rattle.pauli_product.specs.Signed.{Signed}
use Rattle.source_model.specs.declared.Circuit.{Circuit}
use Rattle.source_model.specs.declared.Given.{Given}
use Rattle.outcome_table.specs.declared.Outcomes.{Outcomes}
use Rattle.patch_layout.specs.Openness.{Least}
use Rattle.board_core.specs.declared.Noted.{Noted}
use Rattle.board_core.specs.declared.Entry.{Entry}
use Rattle.board_core.specs.declared.Entry.TheVariants.{Claim}
use Rattle.board_core.specs.History.{History, entries, done_place}
use Rattle.board_core.specs.Legal.{BoardJob, Complete}
use Rattle.board_core.specs.Position.{Position, past, note, IsLegal}
use Rattle.schedule_text.specs.Text.{HasNumber}
use Rattle.schedule_text.specs.Written.{AllBy}
use Rattle.finish_run.specs.Next.{Meeting, IsPending, NoneIs}
use Rattle.finish_run.specs.Finished.{GoesOn, behind, by_zero, own_from, own_or_given}
use Rattle.history_replay.specs.Replay.{asked}
use Rattle.job_read.specs.declared.Job.{Job}
use Rattle.job_read.specs.Kept.{IsJob}
use Rattle.job_read.specs.Starts.{board_job, new_position}
use Rattle.board_write.specs.Boards.{IsComplete, schedule_of}
use Rattle.board_write.specs.Laws.{CompleteBoardsAreSchedules}
use Rattle.tool_top.specs.Serial.{ClaimsAscend, MeetsBehind, RegionsMeet, IsScheduleBy}
use Rattle.tool_top.specs.Schedules.{asked_of}
use Rattle.tool_top.specs.inside.Carried.{IsBroughtToEnd}
use Rattle.tool_top.proofs.Claims.{claims_ascend}

-- entries that pass 0 made, without its number
back : (es : List Entry) → entries (by_zero es) ≡ es
back [] = refl
back (e ∷ es) = ap (λ xs. e ∷ xs) (back es)

-- an entry of a mapped list
mapped : {A B : Type 0} (f : A → B) (o : Option A) (y : B) → option_map f o ≡ Some y → (x : A) × (o ≡ Some x) × (f x ≡ y)
mapped f None y e = absurd (none-some y e)
mapped f (Some x) y e = (x, refl, same_Some (f x) y e)

-- ---- the history from an empty one
abbrev Goes : Meeting → BoardJob → List Given → Position → Type 0
Goes M j given b = GoesOn M given (new_position j) b

history_is : (M : Meeting) (j : BoardJob) (given : List Given) (b : Position) (g : Goes M j given b) → b.history ≡ by_zero g.added
history_is M j given b g = ap (λ (c : Position). c.history) g.is

ascend_from : (M : Meeting) (j : BoardJob) (given : List Given) (b : Position) → Goes M j given b → ClaimsAscend (past b)
ascend_from M j given b g =
    subst ClaimsAscend (sym (ap entries (history_is M j given b g) ∙ back g.added))
    (claims_ascend g.added (λ n p axis port state cells at.
    let t = g.next n (Claim p axis port state cells) at in
    subst (λ (h : History). NoneIs (IsPending h) × Least (λ q. done_place h q ≡ None) p) (back (take n g.added)) (t.0.0.0, t.0.2)))

meets_at : (M : Meeting) (j : BoardJob) (given : List Given) (b : Position) (g : Goes M j given b) (n by p : ℕ) (axis : Signed) (port state : Option ℕ) (cells : List ℕ) → slice_get (by_zero g.added) n ≡ Some (record { by = by; entry = Claim p axis port state cells }) → MeetsBehind M j (take n (by_zero g.added)) p port cells
meets_at M j given b g n by p axis port state cells at =
    let found = mapped (note 0) (slice_get g.added n) (record { by = by; entry = Claim p axis port state cells }) (sym (slice_get-map (note 0) g.added n) ∙ at) in
    let same : found.0 ≡ Claim p axis port state cells = ap (λ (x : Noted). x.entry) found.2 in
    let t = g.next n (Claim p axis port state cells) (found.1 ∙ ap Some same) in
    subst (λ (h : List Noted). MeetsBehind M j h p port cells) (sym (take-map (note 0) n g.added)) t.1

meets_from : (M : Meeting) (j : BoardJob) (given : List Given) (b : Position) → Goes M j given b → RegionsMeet M j b.history
meets_from M j given b g =
    subst (RegionsMeet M j) (sym (history_is M j given b g)) (λ n by p axis port state cells at. meets_at M j given b g n by p axis port state cells at)

-- ---- a table behind nothing
own_nothing : (p : ℕ) (given : List Given) → own_from p [] given ≡ given
own_nothing p [] = refl
own_nothing p (g ∷ gs) = ap (λ xs. g ∷ xs) (own_nothing (p + 1) gs)

pub all_given : (given : List Given) → own_or_given [] given ≡ given
all_given given = own_nothing 0 given

-- ---- what is written

-- worker 0 made all entries
zeros : (es : List Entry) → AllBy 0 (by_zero es)
zeros [] = All-nil (λ (n : Noted). n.by ≡ 0)
zeros (e ∷ es) = All-cons (λ (n : Noted). n.by ≡ 0) (note 0 e) (by_zero es) refl (zeros es)

-- the number 0 is one that a text can have
have_numbers : (h : List Noted) → AllBy 0 h → All HasNumber h
have_numbers h by k d low = subst (λ (m : ℕ). m ≤ 63) (sym (by k d low)) (omega arith)

pub schedule_by : (M : Meeting) → CompleteBoardsAreSchedules → (job : Job) (b : Position) → IsJob job → IsBroughtToEnd M job b → IsScheduleBy M job (schedule_of job.circuit job.outcomes.given b.history)
schedule_by M law job b kept end =
    let by : AllBy 0 b.history = subst (AllBy 0) (sym (history_is M (board_job job) job.outcomes.given b end.goes)) (zeros end.goes.added) in
    let complete : IsComplete job.circuit b job.outcomes.given = record {
      kinds = kept.right_kinds;
      complete = subst (λ (j : BoardJob). Complete j (past b) job.outcomes.given) (sym end.job_is) end.complete;
    } in
    let s = law job.circuit job.layout job.outcomes.fails job.outcomes.given b kept.circuit.well_formed kept.sound end.job_is end.legal (have_numbers b.history by) complete in
    record {
      schedule = s.0;
      worker = subst (AllBy 0) (sym s.1) by;
      ascending = subst (λ (h : List Noted). ClaimsAscend (entries h)) (sym s.1) (ascend_from M (board_job job) job.outcomes.given b end.goes);
      regions = subst (RegionsMeet M (board_job job)) (sym s.1) (meets_from M (board_job job) job.outcomes.given b end.goes);
    }

pub brought : (M : Meeting) (job : Job) (start b : Position) → start ≡ new_position (board_job job) → Complete b.job (past b) (own_or_given (past start) job.outcomes.given) → GoesOn M job.outcomes.given start b → IsLegal b → IsBroughtToEnd M job b
brought M job start b e complete goes legal =
    let from_new : Goes M (board_job job) job.outcomes.given b = subst (λ (s : Position). GoesOn M job.outcomes.given s b) e goes in
    let is : b.job ≡ board_job job = ap (λ (p : Position). p.job) from_new.is in
    let given : own_or_given (past start) job.outcomes.given ≡ job.outcomes.given = ap (λ (s : Position). own_or_given (past s) job.outcomes.given) e ∙ all_given job.outcomes.given in
    record {
      job_is = is;
      legal = legal;
      complete = subst (λ (j : BoardJob). Complete j (past b) job.outcomes.given) is (subst (Complete b.job (past b)) given complete);
      goes = from_new;
    }

-- with outcomes that are the job's
pub brought_by : (M : Meeting) (job : Job) (start b : Position) (o : Outcomes) → start ≡ new_position (board_job job) → o ≡ job.outcomes → Complete b.job (past b) (own_or_given (past start) o.given) → GoesOn M o.given start b → IsLegal b → IsBroughtToEnd M job b
brought_by M job start b o e same complete goes legal =
    brought M job start b e (subst (λ (q : Outcomes). Complete b.job (past b) (own_or_given (past start) q.given)) same complete)
    (subst (λ (q : Outcomes). GoesOn M q.given start b) same goes) legal

-- what is asked on the job's new board
pub same_question : (job : Job) (c : Circuit) (b : Position) (o : Outcomes) → c ≡ job.circuit → b ≡ new_position (board_job job) → o ≡ job.outcomes → asked c b.job o.given ≡ asked_of job
same_question job c b o circuit board outcomes =
    ap (λ (d : Circuit). asked d b.job o.given) circuit ∙ ap (λ (p : Position). asked job.circuit p.job o.given) board ∙ ap (λ (q : Outcomes). asked job.circuit (board_job job) q.given) outcomes
