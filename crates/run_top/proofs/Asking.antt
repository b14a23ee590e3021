-- A told text that is refused leaves nothing but its fault, or the outside, to end a command.
use Rattle.std.proofs.Common.{◌≡◌, ◌⊎◌, inl, inr, Result, Ok, Err, ap, sym, ◌∙◌, subst}
use Rattle.std.specs.Prelude.{IsErrAnd}
use Rattle.job_read.specs.declared.fault.JobFault.{JobFault}
use Rattle.job_read.specs.Jobs as job_faults
use Rattle.job_read.specs.Jobs.{TellsUpTo}
use Rattle.job_read.specs.Reading.{Reading}
use Rattle.run_top.specs.declared.fault.RunFault.{RunFault}
use Rattle.run_top.specs.declared.fault.RunFault.TheVariants as fault
use Rattle.run_top.specs.Told.{IsOutside, RefusesJob}
use Rattle.run_top.specs.inside.Told.{EndsBy}

pub by_job : (P : RunFault → Type 0) (j : Reading) → ((g : JobFault) → TellsUpTo j g → job_faults.Refuses j g → P (fault.Job g)) → (f : RunFault) → RefusesJob j f → P f
by_job P j at (fault.Job g) (told, refused) = at g told refused
by_job P j at (fault.Program i g) h = absurd h
by_job P j at fault.Unwritten h = absurd h
by_job P j at fault.Memory h = absurd h

-- reading a job ended by its fault, or by the outside
pub ends_by : {A : Type 0} (e g : JobFault) (end : Result A RunFault) → IsErrAnd end (λ x. x ≡ fault.Job e) → (e ≡ g) ⊎ job_faults.IsOutside e → EndsBy (fault.Job g) end
ends_by e g (Ok a) is h = absurd is
ends_by e g (Err x) is (inl same) = inl (is ∙ ap (λ (k : JobFault). fault.Job k) same)
ends_by e g (Err x) is (inr out) = inr (subst IsOutside (sym is) out)
