-- From a schedule's text that was read to how the commands that read one end.
use Rattle.std.proofs.Common.{◌≡◌, ℕ, ◌+◌, List, take, Option, IfSome, IfOk, IfErr, Result, Ok, Err, refl, ap, sym, subst}
use Rattle.source_model.specs.declared.Circuit.{Circuit}
use Rattle.source_model.specs.declared.Given.{Given}
use Rattle.source_model.specs.Circuits.{RightKinds}
use Rattle.board_core.specs.declared.Noted.{Noted}
use Rattle.board_core.specs.Legal.{BoardJob, Complete}
use Rattle.board_core.specs.Position.{Position, past}
use Rattle.slice_write.specs.Slices.{sliced}
use Rattle.slice_write.specs.Pictures.{slices_text}
use Rattle.finish_run.specs.Next.{Meeting}
use Rattle.history_replay.specs.Replay.{IsTextOf, FirstBadLine}
use Rattle.job_read.specs.declared.Job.{Job}
use Rattle.job_read.specs.Kept.{IsJob}
use Rattle.job_read.specs.Starts.{board_job}
use Rattle.board_write.specs.declared.fault.WriteFault.{WriteFault}
use Rattle.board_write.specs.Boards.{IsComplete, WritesText, schedule_of}
use Rattle.board_write.specs.Laws.{CompleteBoardsAreSchedules}
use Rattle.job_read.specs.Jobs.{StandsForJob}
use Rattle.job_read.specs.Reading.{reading}
use Rattle.tool_words.specs.Commands.{Tool, slices, migrate}
use Rattle.tool_top.specs.declared.fault.ToolFault.{ToolFault}
use Rattle.tool_top.specs.declared.fault.ToolFault.TheVariants as fault
use Rattle.tool_top.specs.declared.schedule.Replayed.{Replayed}
use Rattle.fault_lines.specs.Sinks.{Writing}
use Rattle.job_read.specs.Shelves.{Shelved, job_on, OnJob}
use Rattle.tool_top.specs.Schedules.{asked_of, IsShort, slices_shown, migrated}
use Rattle.tool_top.specs.inside.Carried.{IsBroughtToEnd}
use Rattle.tool_top.specs.inside.Replayed.{IsReplayed, IsReplayedOn, StopsReading, StopsReplaying}
use Rattle.tool_top.specs.Serial.{IsScheduleBy}
use Rattle.tool_top.specs.Ends.{OnSchedule, Outputs}
use Rattle.tool_top.proofs.Brought.{schedule_by}
use Rattle.tool_top.proofs.Ending.{Attempt, stands_later}
use Rattle.tool_top.proofs.Told.{told_stands, told_long}

-- ---- reading

abbrev ReadAs : Option (List ℕ) → List ℕ → Type 0
ReadAs told bytes = IfSome told (λ text. bytes ≡ take (67108864 + 1) text)

pub is_replayed : (tells tells' : List ℕ → Option (List ℕ)) (before mid after : List ℕ → ℕ) (c l o s : List ℕ) (job : Job) (bytes : List ℕ) (x : Replayed) → StandsForJob (reading tells before mid c l o) job → IsJob job → tells' s ≡ tells s → ReadAs (tells' s) bytes → IsReplayedOn job bytes x → IsReplayed (record { tells = tells; before = before; after = after }) c l o s x
is_replayed tells tells' before mid after c l o s job bytes x stands kept same read i =
    let told : ReadAs (tells s) bytes = subst (λ (t : Option (List ℕ)). ReadAs t bytes) same read in
    record {
      job = job;
      stands = stands_later tells before mid after c l o job stands;
      kept = kept;
      circuit = i.circuit;
      board = i.board;
      version = i.version;
      schedule = told_stands (tells s) (λ text. IsShort text × IsTextOf (asked_of job) text i.version x.board.history) 67108864 bytes told i.short (i.short, i.is_text);
      complete = i.is_text.complete;
    }

pub stops_replay : (tells tells' : List ℕ → Option (List ℕ)) (before mid after : List ℕ → ℕ) (c l o s : List ℕ) (job : Job) (bytes : List ℕ) (f : ToolFault) → StandsForJob (reading tells before mid c l o) job → tells' s ≡ tells s → ReadAs (tells' s) bytes → StopsReplaying job bytes f → StopsReading (record { tells = tells; before = before; after = after }) c l o s f
stops_replay tells tells' before mid after c l o s job bytes fault.ScheduleTooLong stands same read h =
    let told : ReadAs (tells s) bytes = subst (λ (t : Option (List ℕ)). ReadAs t bytes) same read in
    (job, stands_later tells before mid after c l o job stands, told_long (tells s) 67108864 bytes told h)
stops_replay tells tells' before mid after c l o s job bytes (fault.ScheduleIllegal line) stands same read (short, bad) =
    let told : ReadAs (tells s) bytes = subst (λ (t : Option (List ℕ)). ReadAs t bytes) same read in
    (job, stands_later tells before mid after c l o job stands, told_stands (tells s) (λ text. IsShort text × FirstBadLine (asked_of job) text line) 67108864 bytes told short (short, bad))
stops_replay tells tells' before mid after c l o s job bytes fault.Memory stands same read h = tt
stops_replay tells tells' before mid after c l o s job bytes (fault.Job f) stands same read h = absurd h
stops_replay tells tells' before mid after c l o s job bytes fault.ScheduleUnread stands same read h = absurd h
stops_replay tells tells' before mid after c l o s job bytes fault.Unwritten stands same read h = absurd h

-- a fact for the value of a result, and one for its error
pub ok_map : {A B : Type 0} (r : Result A B) (P Q : A → Type 0) → ((a : A) → P a → Q a) → IfOk r P → IfOk r Q
ok_map (Ok a) P Q f h = f a h
ok_map (Err e) P Q f h = tt

pub err_map : {A B : Type 0} (r : Result A B) (P Q : B → Type 0) → ((e : B) → P e → Q e) → IfErr r P → IfErr r Q
err_map (Ok a) P Q f h = tt
err_map (Err e) P Q f h = f e h

-- ---- what is written

-- a board's schedule, as one of the job's circuit
abbrev ScheduleOf : Writing → Result (Unit {0}) WriteFault → List Noted → List Given → Circuit → Type 0
ScheduleOf w did h table c = WritesText w (schedule_of c table h) did

writes_of : (w : Writing) (did : Result (Unit {0}) WriteFault) (job : Job) (c : Circuit) (b : Position) → IsJob job → c ≡ job.circuit → b.job ≡ board_job job → Complete (board_job job) (past b) job.outcomes.given → ((table : List Given) → IsComplete c b table → ScheduleOf w did b.history table c) → ScheduleOf w did b.history job.outcomes.given job.circuit
writes_of w did job c b kept same is complete writes =
    subst (ScheduleOf w did b.history job.outcomes.given) same
    (writes job.outcomes.given (record {
      kinds = subst (λ (d : Circuit). RightKinds d.items job.outcomes.given) (sym same) kept.right_kinds;
      complete = subst (λ (j : BoardJob). Complete j (past b) job.outcomes.given) (sym is) complete;
    }))

-- a command that writes schedules of one kind, `serial` or `least`
pub scheduled : (M : Meeting) (r : Shelved) (w : Writing) (c l o : List ℕ) (t : Tool) (job : Job) (circuit : Circuit) (b : Position) (did : Result (Unit {0}) WriteFault) → ((text : List ℕ) → OnJob r c l o (λ j. IsScheduleBy M j text) → Outputs r t text) → CompleteBoardsAreSchedules → StandsForJob (job_on r c l o) job → IsJob job → circuit ≡ job.circuit → IsBroughtToEnd M job b → ((table : List Given) → IsComplete circuit b table → ScheduleOf w did b.history table circuit) → Attempt r w t did
scheduled M r w c l o t job circuit b did outputs law stands kept same brought writes =
    let text = schedule_of job.circuit job.outcomes.given b.history in (
      text,
      outputs text (job, stands, schedule_by M law job b kept brought),
      writes_of w did job circuit b kept same brought.job_is brought.complete writes,
    )

on_schedule : (r : Shelved) (c l o s : List ℕ) (x : Replayed) (P : Job → List Noted → Type 0) → (i : IsReplayed r c l o s x) → P i.job x.board.history → OnSchedule r c l o s P
on_schedule r c l o s x P i p = (i.job, i.stands, (i.version, x.board.history, i.schedule, p))

pub migrate_attempt : (r : Shelved) (w : Writing) (c l o s : List ℕ) (x : Replayed) (did : Result (Unit {0}) WriteFault) → IsReplayed r c l o s x → ((table : List Given) → IsComplete x.circuit x.board table → ScheduleOf w did x.board.history table x.circuit) → Attempt r w (migrate c l o s) did
migrate_attempt r w c l o s x did i writes = (
  migrated i.job x.board.history,
  on_schedule r c l o s x (λ job h. migrated i.job x.board.history ≡ migrated job h) i refl,
  writes_of w did i.job x.circuit x.board i.kept i.circuit (ap (λ (p : Position). p.job) i.board) i.complete writes,
)

pub slices_attempt : (r : Shelved) (w : Writing) (c l o s : List ℕ) (x : Replayed) (did : Result (Unit {0}) WriteFault) → IsReplayed r c l o s x → WritesText w (slices_text x.board.job.grid (sliced x.board.job (past x.board))) did → Attempt r w (slices c l o s) did
slices_attempt r w c l o s x did i writes = (
  slices_shown i.job x.board.history,
  on_schedule r c l o s x (λ job h. slices_shown i.job x.board.history ≡ slices_shown job h) i refl,
  subst (λ (j : BoardJob). WritesText w (slices_text j.grid (sliced j (past x.board))) did) (ap (λ (p : Position). p.job) i.board) writes,
)
