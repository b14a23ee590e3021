-- A told text that is refused leaves nothing but its fault, or the outside, to end a command.
use Rattle.std.proofs.Common.{◌≡◌, ◌⊎◌, inl, inr, ℕ, ◌+◌, ◌<◌, List, length, take, Option, Some, None, IfSome, IsSome, Result, Ok, Err, refl, ap, sym, ◌∙◌, subst, arith}
use Rattle.std.specs.Prelude.{IsErrAnd}
use Rattle.std.proofs.lemmas.Bool.{true≢false}
use Rattle.std.proofs.lemmas.List.{length-take}
use Rattle.source_model.specs.declared.Circuit.{Circuit}
use Rattle.qasm_lex.specs.declared.fault.CircuitFault.{CircuitFault}
use Rattle.patch_layout.specs.declared.fault.LayoutFault.{LayoutFault}
use Rattle.job_read.specs.declared.Job.{Job}
use Rattle.job_read.specs.declared.fault.JobFault.{JobFault}
use Rattle.job_read.specs.declared.fault.JobFault.TheVariants as job
use Rattle.job_read.specs.Jobs as job_faults
use Rattle.job_read.specs.Jobs.{StandsForJob, TellsUpTo, TellsAll}
use Rattle.job_read.specs.Reading.{Seen, Reading, seen, IsNamed, IsTold}
use Rattle.job_read.specs.Stages.{CircuitStands, CircuitRefused, LayoutRefused}
use Rattle.tool_top.specs.declared.fault.ToolFault.{ToolFault}
use Rattle.tool_top.specs.declared.fault.ToolFault.TheVariants as fault
use Rattle.job_read.specs.Shelves.{Shelved, seen_on, job_on}
use Rattle.tool_top.specs.Schedules.{ScheduleLong, ScheduleBad}
use Rattle.tool_top.specs.Told.{RefusesCircuit, RefusesJob, RefusesLayout, RefusesSchedule}
use Rattle.tool_top.specs.inside.Told.{EndsBy, IsOutside}

-- ---- what holds of each refusal

pub by_circuit : (P : ToolFault → Type 0) (s : Seen) → ((g : CircuitFault) → IsTold s → CircuitRefused s g → P (fault.Job (job.Circuit g))) → (f : ToolFault) → RefusesCircuit s f → P f
by_circuit P s at (fault.Job (job.Circuit g)) (told, refused) = at g told refused
by_circuit P s at _ h = absurd h

pub by_layout : (P : ToolFault → Type 0) (r : Shelved) (c l : List ℕ) → ((g : CircuitFault) → IsTold (seen_on r c) → CircuitRefused (seen_on r c) g → P (fault.Job (job.Circuit g))) → ((g : LayoutFault) (circuit : Circuit) → IsTold (seen_on r c) → (IsNamed l → IsTold (seen_on r l)) → CircuitStands (seen_on r c) circuit → LayoutRefused l (seen_on r l) circuit g → P (fault.Job (job.Layout g))) → (f : ToolFault) → RefusesLayout r c l f → P f
by_layout P r c l at behind (fault.Job (job.Layout g)) (told, named, (circuit, stands, refused)) = behind g circuit told named stands refused
by_layout P r c l at behind (fault.Job (job.Circuit g)) (told, refused) = at g told refused
by_layout P r c l at behind _ h = absurd h

pub by_job : (P : ToolFault → Type 0) (j : Reading) → ((g : JobFault) → TellsUpTo j g → job_faults.Refuses j g → P (fault.Job g)) → (f : ToolFault) → RefusesJob j f → P f
by_job P j at (fault.Job g) (told, refused) = at g told refused
by_job P j at _ h = absurd h

pub by_schedule : (P : ToolFault → Type 0) (r : Shelved) (c l o s : List ℕ) → ((g : JobFault) → TellsUpTo (job_on r c l o) g → job_faults.Refuses (job_on r c l o) g → P (fault.Job g)) → ((j : Job) → TellsAll (job_on r c l o) → IsTold (seen_on r s) → StandsForJob (job_on r c l o) j → ScheduleLong (seen_on r s) → P fault.ScheduleTooLong) → ((line : ℕ) (j : Job) → TellsAll (job_on r c l o) → IsTold (seen_on r s) → StandsForJob (job_on r c l o) j → ScheduleBad (seen_on r s) j line → P (fault.ScheduleIllegal line)) → (f : ToolFault) → RefusesSchedule r c l o s f → P f
by_schedule P r c l o s at long bad (fault.Job g) (told, refused) = at g told refused
by_schedule P r c l o s at long bad fault.ScheduleTooLong (tells, told, (j, stands, past)) = long j tells told stands past
by_schedule P r c l o s at long bad (fault.ScheduleIllegal line) (tells, told, (j, stands, is)) = bad line j tells told stands is
by_schedule P r c l o s at long bad fault.ScheduleUnread h = absurd h
by_schedule P r c l o s at long bad fault.Unwritten h = absurd h
by_schedule P r c l o s at long bad fault.Memory h = absurd h

-- ---- how a command ends

-- reading a job ended by its fault, or by the outside
pub ends_by : {A : Type 0} (e g : JobFault) (end : Result A ToolFault) → IsErrAnd end (λ x. x ≡ fault.Job e) → (e ≡ g) ⊎ job_faults.IsOutside e → EndsBy (fault.Job g) end
ends_by e g (Ok a) is h = absurd is
ends_by e g (Err x) is (inl same) = inl (is ∙ ap (λ (k : JobFault). fault.Job k) same)
ends_by e g (Err x) is (inr out) = inr (subst IsOutside (sym is) out)

-- it ended by the outside
pub ends_outside : {A : Type 0} (e f : ToolFault) (end : Result A ToolFault) → IsErrAnd end (λ x. x ≡ e) → IsOutside e → EndsBy f end
ends_outside e f (Ok a) is out = absurd is
ends_outside e f (Err x) is out = inr (subst IsOutside (sym is) out)

pub ends_at : {A : Type 0} (f : ToolFault) (end : Result A ToolFault) → end ≡ Err f → EndsBy f end
ends_at f end is = subst (EndsBy f) (sym is) (inl refl)

-- ---- a later state of the shelf

pub refused_later : (tells tells' : List ℕ → Option (List ℕ)) (before before' after after' : List ℕ → ℕ) (l : List ℕ) (c c' : Circuit) (f : LayoutFault) → tells' l ≡ tells l → c' ≡ c → LayoutRefused l (seen tells before after l) c f → LayoutRefused l (seen tells' before' after' l) c' f
refused_later tells tells' before before' after after' l c c' f same is h =
    subst (λ (d : Circuit). LayoutRefused l (seen tells' before' after' l) d f) (sym is)
    (subst (λ (told : Option (List ℕ)). LayoutRefused l (record { told = told; before = before' l; after = after' l }) c f) (sym same) h)

-- ---- the schedule

abbrev ReadAs : Option (List ℕ) → List ℕ → Type 0
ReadAs told bytes = IfSome told (λ text. bytes ≡ take (67108864 + 1) text)

-- of a told text that is too long too many bytes are read
pub read_long : (told told' : Option (List ℕ)) (bytes : List ℕ) → IsSome told → told' ≡ told → ReadAs told' bytes → IfSome told (λ text. 67108864 < length text) → 67108864 < length bytes
read_long None told' bytes some same read h = absurd (true≢false (sym some))
read_long (Some text) told' bytes some same read h =
    let as_read : bytes ≡ take (67108864 + 1) text = subst (λ (t : Option (List ℕ)). ReadAs t bytes) same read in
    let P : List ℕ → Type 0 = λ b. 67108864 < length b in
    subst P (sym as_read) (omega (arith, length-take (67108864 + 1) text))
