-- A told text that is refused leaves nothing but its fault, or the outside, to end the command.
use Rattle.std.proofs.Common.{◌≡◌, ◌⊎◌, inl, inr, Result, Ok, Err, ap, sym, ◌∙◌, subst}
use Rattle.std.specs.Prelude.{IsErrAnd}
use Rattle.job_read.specs.declared.fault.JobFault.{JobFault}
use Rattle.job_read.specs.Jobs as job_faults
use Rattle.job_read.specs.Jobs.{TellsUpTo}
use Rattle.job_read.specs.Shelves.{Shelved}
use Rattle.live_readout.specs.Commands.{Command}
use Rattle.live_readout.specs.declared.fault.LiveFault.{LiveFault}
use Rattle.live_readout.specs.declared.fault.LiveFault.TheVariants as fault
use Rattle.live_readout.specs.Ends.{Refuses, texts}
use Rattle.live_readout.specs.inside.Ends.{EndsBy, IsOutside}

pub by_job : (P : LiveFault → Type 0) (r : Shelved) (t : Command) → ((g : JobFault) → TellsUpTo (texts r t) g → job_faults.Refuses (texts r t) g → P (fault.Job g)) → (f : LiveFault) → Refuses r t f → P f
by_job P r t at (fault.Job g) (told, refused) = at g told refused
by_job P r t at fault.Unwritten h = absurd h
by_job P r t at fault.Memory h = absurd h

-- reading a job ended by its fault, or by the outside
pub ends_by : {A : Type 0} (e g : JobFault) (end : Result A LiveFault) → IsErrAnd end (λ x. x ≡ fault.Job e) → (e ≡ g) ⊎ job_faults.IsOutside e → EndsBy (fault.Job g) end
ends_by e g (Ok a) is h = absurd is
ends_by e g (Err x) is (inl same) = inl (is ∙ ap (λ (k : JobFault). fault.Job k) same)
ends_by e g (Err x) is (inr out) = inr (subst IsOutside (sym is) out)
