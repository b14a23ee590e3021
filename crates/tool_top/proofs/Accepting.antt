-- Accepted texts leave nothing but the outside to end a command early.
use Rattle.std.proofs.Common.{◌≡◌, ℕ, ◌+◌, List, take, Option, Some, None, IfSome, IfErr, IsSome, Result, Ok, Err, sym, ◌∙◌, subst, arith}
use Rattle.std.specs.Prelude.{IsErrAnd}
use Rattle.std.proofs.lemmas.Bool.{true≢false}
use Rattle.std.proofs.lemmas.List.{take_all}
use Rattle.source_model.specs.declared.Circuit.{Circuit}
use Rattle.patch_layout.specs.Grid.{Grid}
use Rattle.job_read.specs.declared.fault.JobFault.{JobFault}
use Rattle.job_read.specs.Jobs as job_faults
use Rattle.job_read.specs.Reading.{seen, IsNamed}
use Rattle.job_read.specs.Stages.{LayoutStands}
use Rattle.board_write.specs.declared.fault.WriteFault.{WriteFault}
use Rattle.board_write.specs.declared.fault.WriteFault.TheVariants as write
use Rattle.tool_top.specs.declared.fault.ToolFault.{ToolFault}
use Rattle.tool_top.specs.declared.fault.ToolFault.TheVariants as fault
use Rattle.tool_top.specs.Schedules.{IsShort}
use Rattle.tool_top.specs.Faults.{fault_of_write}
use Rattle.tool_top.specs.inside.Told.{IsDone, IsOutside}

-- ---- errors of known kinds
pub done_job : (end : Result (Unit {0}) ToolFault) (f : JobFault) → IsErrAnd end (λ e. e ≡ fault.Job f) → job_faults.IsOutside f → IsDone end
done_job (Ok done) f is h = absurd is
done_job (Err e) f is h = subst IsOutside (sym is) h

pub done_for : (end : Result (Unit {0}) ToolFault) (f : ToolFault) → IsErrAnd end (λ e. e ≡ f) → IsOutside f → IsDone end
done_for (Ok done) f is h = absurd is
done_for (Err e) f is h = subst IsOutside (sym is) h

is_outside : (f : WriteFault) → IsOutside (fault_of_write f)
is_outside write.Memory = tt
is_outside write.Failed = tt

pub done_write : (end : Result (Unit {0}) ToolFault) (f : WriteFault) → IsErrAnd end (λ e. e ≡ fault_of_write f) → IsDone end
done_write end f is = done_for end (fault_of_write f) is (is_outside f)

-- ---- a later state of the shelf
pub told_later : (tells tells' : List ℕ → Option (List ℕ)) (l : List ℕ) → tells' l ≡ tells l → (IsNamed l → IsSome (tells l)) → IsNamed l → IsSome (tells' l)
told_later tells tells' l same told named = subst (λ (t : Option (List ℕ)). IsSome t) (sym same) (told named)

pub layout_later : (tells tells' : List ℕ → Option (List ℕ)) (before before' after after' : List ℕ → ℕ) (l : List ℕ) (c c' : Circuit) (g : Grid) → tells' l ≡ tells l → c' ≡ c → LayoutStands l (seen tells before after l) c g → LayoutStands l (seen tells' before' after' l) c' g
layout_later tells tells' before before' after after' l c c' g same is h =
    subst (λ (d : Circuit). LayoutStands l (seen tells' before' after' l) d g) (sym is)
    (subst (λ (told : Option (List ℕ)). LayoutStands l (record { told = told; before = before' l; after = after' l }) c g) (sym same) h)

-- ---- the schedule
abbrev ReadAs : Option (List ℕ) → List ℕ → Type 0
ReadAs told bytes = IfSome told (λ text. bytes ≡ take (67108864 + 1) text)

abbrev Reads : (List ℕ → Type 0) → List ℕ → Type 0
Reads P text = IsShort text × P text

-- the bytes of a told text that is short enough are the text
pub read_whole : (P : List ℕ → Type 0) (told told' : Option (List ℕ)) (bytes : List ℕ) → IsSome told → told' ≡ told → ReadAs told' bytes → IfSome told (Reads P) → Reads P bytes
read_whole P None told' bytes some same read h = absurd (true≢false (sym some))
read_whole P (Some text) told' bytes some same read (short, p) =
    let as_read : bytes ≡ take (67108864 + 1) text = subst (λ (t : Option (List ℕ)). ReadAs t bytes) same read in
    subst (Reads P) (sym (as_read ∙ take_all (67108864 + 1) text (omega arith))) (short, p)

pub outside_err : {A : Type 0} (r : Result A ToolFault) (f : JobFault) → IsErrAnd r (λ e. e ≡ fault.Job f) → job_faults.IsOutside f → IfErr r IsOutside
outside_err (Ok a) f is h = tt
outside_err (Err e) f is h = subst IsOutside (sym is) h
