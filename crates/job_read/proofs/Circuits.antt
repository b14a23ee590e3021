-- Circuit texts past the limit.
use Rattle.std.proofs.Common.{◌≡◌, ◌≢◌, ◌⊎◌, ℕ, ◌<◌, Bool, true, false, List, length, Err, refl, ap, sym, ◌∙◌, subst, inl, inr, take, IfSome}
use borrow.Author.Tests.{lt-ltb}
use Rattle.source_model.specs.declared.Circuit.{Circuit}
use Rattle.qasm_lex.specs.Tokens.{tokens_of}
use Rattle.qasm_lex.specs.declared.fault.FaultKind.{FaultKind}
use Rattle.qasm_lex.specs.declared.fault.FaultKind.TheVariants as kinds
use Rattle.qasm_lex.specs.declared.fault.CircuitFault.{CircuitFault}
use Rattle.qasm_lex.specs.declared.fault.CircuitFault.TheVariants as fault
use Rattle.rotation_list.specs.ListText.{list_circuit}
use Rattle.rotation_list.specs.Texts.{StandsFor, IsRefused, IsFaulty, untokened, untreed, unbounded, is_list}
use Rattle.job_read.specs.declared.fault.JobFault.TheVariants as job
use Rattle.job_read.specs.Faults.{fault_of_circuit}
use Rattle.job_read.specs.Reading.{Seen}
use Rattle.job_read.specs.Jobs.{CircuitStops, IsOutside}
use Rattle.job_read.proofs.Cut.{LongAlike, cut_told}

long_list : (text : List ℕ) → 4194304 < length text → list_circuit text ≡ Err (fault.At 0 kinds.TooLong)
unfolding list_circuit
long_list text long = rw (lt-ltb 4194304 (length text) long)

long_tokens : (text : List ℕ) → 4194304 < length text → tokens_of text ≡ Err (fault.At 0 kinds.TooLong)
unfolding tokens_of
long_tokens text long = rw (lt-ltb 4194304 (length text) long)

too_long : (text : List ℕ) (line : ℕ) (kind : FaultKind) → 4194304 < length text → IsFaulty text line kind → fault.At 0 kinds.TooLong ≡ fault.At line kind
too_long text _ _ long (untokened at k e) = let l = long_tokens text long in cc
too_long text _ _ long (untreed tokens at k e h) = let l = long_tokens text long in absurd (cc)
too_long text _ _ long (unbounded made at of p) = let l = long_tokens text long in let t = of.lexed in absurd (cc)

long_refused : (text : List ℕ) (f : CircuitFault) → 4194304 < length text → IsRefused text f → fault.At 0 kinds.TooLong ≡ f
long_refused text fault.Memory long r = absurd r
long_refused text (fault.At line kind) long (inl (is, e)) = let l = long_list text long in cc
long_refused text (fault.At line kind) long (inr (is, f)) = too_long text line kind long f

refused_long : (text : List ℕ) → 4194304 < length text → IsRefused text (fault.At 0 kinds.TooLong)
refused_long text long = go (is_list text) refl
  where
    go : (b : Bool) → is_list text ≡ b → IsRefused text (fault.At 0 kinds.TooLong)
    go true e = inl (e, long_list text long)
    go false e = inr (e, untokened 0 kinds.TooLong (long_tokens text long))

pub refusals_alike : (f : CircuitFault) → LongAlike (λ t. IsRefused t f)
refusals_alike f = record { alike = λ s t long past r. subst (λ (g : CircuitFault). IsRefused t g) (long_refused s f long r) (refused_long t past) }

stands_short : (text : List ℕ) (c : Circuit) → 4194304 < length text → StandsFor text c → ⊥
stands_short text c long (inl (is, e)) = let l = long_list text long in cc
stands_short text c long (inr (is, (made, program, e))) = let l = long_tokens text long in let t = program.made.lexed in cc

pub circuits_alike : (c : Circuit) → LongAlike (λ t. StandsFor t c)
circuits_alike c = record { alike = λ s t long past r. absurd (stands_short s c long r) }

-- ---- what is answered
other : (f : CircuitFault) → f ≢ fault.Memory → fault_of_circuit f ≡ job.Circuit f
other fault.Memory n = absurd (n refl)
other (fault.At line kind) n = refl

pub outside : (f : CircuitFault) → f ≡ fault.Memory → IsOutside (fault_of_circuit f)
outside f e = subst (λ (x : CircuitFault). IsOutside (fault_of_circuit x)) (sym e) tt

pub told_fault : (f g : CircuitFault) → g ≢ fault.Memory → (f ≡ g) ⊎ (f ≡ fault.Memory) → (fault_of_circuit f ≡ job.Circuit g) ⊎ IsOutside (fault_of_circuit f)
told_fault f g n h = elim h [ inl e ↦ inl (other f (λ m. n (sym e ∙ m)) ∙ ap job.Circuit e) | inr m ↦ inr (outside f m) ]

pub stops : (s : Seen) (bytes : List ℕ) (f : CircuitFault) → IfSome s.told (λ t. bytes ≡ take 4194305 t) → (f ≡ fault.Memory) ⊎ IsRefused bytes f → CircuitStops s (fault_of_circuit f)
stops s bytes fault.Memory e h = tt
stops s bytes (fault.At line kind) e (inl m) = absurd (cc)
stops s bytes (fault.At line kind) e (inr r) = (λ m. cc, cut_told s.told (λ t. IsRefused t (fault.At line kind)) bytes (refusals_alike (fault.At line kind)) e r)
