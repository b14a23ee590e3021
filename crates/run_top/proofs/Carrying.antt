-- From a board on which routers worked to the schedule of its job.
use Rattle.std.proofs.Common.{◌≡◌, ◌≤◌, List, [], ◌∷◌, ◌++◌, All, ap, sym, ◌∙◌, subst, arith}
use Rattle.std.proofs.lemmas.List.Elements.{All-nil, All-cons, All-append}
use Rattle.outcome_table.specs.declared.Outcomes.{Outcomes}
use Rattle.region_plan.specs.Answer.{LeastJoined}
use Rattle.board_core.specs.declared.Noted.{Noted}
use Rattle.board_core.specs.declared.Entry.{Entry}
use Rattle.board_core.specs.Laws.{Agrees}
use Rattle.board_core.specs.Legal.{BoardJob, Complete}
use Rattle.board_core.specs.Position.{Position, past, note, IsLegal}
use Rattle.schedule_text.specs.Text.{HasNumber}
use Rattle.finish_run.specs.Finished.{GoesOn, by_zero, own_or_given}
use Rattle.board_write.specs.Boards.{IsComplete, schedule_of}
use Rattle.board_write.specs.Laws.{CompleteBoardsAreSchedules}
use Rattle.job_read.specs.declared.Job.{Job}
use Rattle.job_read.specs.Kept.{IsJob}
use Rattle.job_read.specs.Starts.{board_job, new_position}
use Rattle.run_top.specs.Carried.{AreByWorkers, IsRunSchedule}
use Rattle.run_top.specs.inside.Carried.{IsCarriedOut}
use Rattle.run_top.proofs.Agreeing.{own_agrees}

abbrev ByWorker : Noted → Type 0
ByWorker n = n.by ≤ 32

zeros : (es : List Entry) → AreByWorkers (by_zero es)
zeros [] = All-nil ByWorker
zeros (e ∷ es) = All-cons ByWorker (note 0 e) (by_zero es) (omega arith) (zeros es)

-- a board that was routed and then brought to its end
pub carried : (job : Job) (start routed b : Position) (o : Outcomes) → start ≡ new_position (board_job job) → o ≡ job.outcomes → routed.job ≡ start.job → Agrees o.given (past routed) → AreByWorkers routed.history → Complete b.job (past b) (own_or_given (past routed) o.given) → GoesOn LeastJoined o.given routed b → IsLegal b → IsCarriedOut job b
carried job start routed b o new same is agrees workers complete goes legal =
    let job_is : b.job ≡ board_job job = ap (λ (p : Position). p.job) goes.is ∙ is ∙ ap (λ (p : Position). p.job) new in
    let all : Complete b.job (past b) o.given = subst (Complete b.job (past b)) (own_agrees (past routed) o.given agrees) complete in
    let history : b.history ≡ routed.history ++ by_zero goes.added = ap (λ (p : Position). p.history) goes.is in
    record {
      job_is = job_is;
      legal = legal;
      complete = subst (λ (j : BoardJob). Complete j (past b) job.outcomes.given) job_is (subst (λ (q : Outcomes). Complete b.job (past b) q.given) same all);
      workers = subst AreByWorkers (sym history) (All-append ByWorker routed.history (by_zero goes.added) workers (zeros goes.added));
    }

-- the numbers of workers are those that a text can have
numbers : (h : List Noted) → AreByWorkers h → All HasNumber h
numbers h by k d low = let l = by k d low in omega arith

pub complete_for : (job : Job) (b : Position) → IsJob job → IsCarriedOut job b → IsComplete job.circuit b job.outcomes.given
complete_for job b kept done = record {
  kinds = kept.right_kinds;
  complete = subst (λ (j : BoardJob). Complete j (past b) job.outcomes.given) (sym done.job_is) done.complete;
}

pub run_schedule : CompleteBoardsAreSchedules → (job : Job) (b : Position) → IsJob job → IsCarriedOut job b → IsRunSchedule job (schedule_of job.circuit job.outcomes.given b.history)
run_schedule law job b kept done =
    let s = law job.circuit job.layout job.outcomes.fails job.outcomes.given b kept.circuit.well_formed kept.sound done.job_is done.legal (numbers b.history done.workers) (complete_for job b kept done) in
    record { schedule = s.0; workers = subst AreByWorkers (sym s.1) done.workers }
