-- Outcome texts past the limit, and what an accepted one keeps.
use Rattle.std.proofs.Common.{◌≡◌, ◌≢◌, ◌⊎◌, ℕ, ap₂, take, IfSome, ◌<◌, ◌≤◌, List, [], ◌∷◌, ◌++◌, length, inl, inr, ap, sym, ◌∙◌, append_assoc, append-nil, refl, subst, arith}
use Rattle.std.proofs.lemmas.List.{length-append}
use Rattle.source_model.specs.declared.Given.{Given}
use Rattle.magic_pool.specs.declared.Fail.{Fail}
use Rattle.outcome_table.specs.declared.fault.OutcomeFault.{OutcomeFault}
use Rattle.outcome_table.specs.OutcomeText.{Asked, StandsFor, Refuses, AllKept, Line, outcome, failing, fails_of}
use Rattle.outcome_table.specs.declared.Outcomes.{Outcomes}
use Rattle.outcome_table.specs.declared.fault.OutcomeFault.TheVariants as fault
use Rattle.source_model.specs.declared.Circuit.{Circuit}
use Rattle.source_model.specs.declared.Kind.{Kind}
use Rattle.source_model.specs.Circuits.{kinds}
use Rattle.patch_layout.specs.Grid.{Grid}
use Rattle.job_read.specs.declared.fault.JobFault.{JobFault}
use Rattle.job_read.specs.declared.fault.JobFault.TheVariants as job
use Rattle.job_read.specs.Faults.{fault_of_outcomes}
use Rattle.job_read.specs.Reading.{Seen}
use Rattle.job_read.specs.Stages.{asked_by, factories_in, OutcomesRefused}
use Rattle.job_read.specs.Jobs.{OutcomesStop, IsOutside}
use Rattle.job_read.proofs.Cut.{LongAlike, short_alike, cut_told}

pub refusals_alike : (a : Asked) (f : OutcomeFault) → LongAlike (λ t. Refuses a t f)
refusals_alike a f = record { alike = λ s t long past r. go s t long past r }
  where
    go : (s t : List ℕ) → 4194304 < length s → 4194304 < length t → Refuses a s f → Refuses a t f
    go s t long past (inl (e, h)) = inl (e, λ short. let n : length t ≤ 4194304 = short in absurd (omega arith))
    go s t long past (inr (inl (e, short, h))) = absurd (omega arith)
    go s t long past (inr (inr (inl (short, h)))) = absurd (omega arith)
    go s t long past (inr (inr (inr (n, e, m)))) = let short = m.short in absurd (omega arith)

pub tables_alike : (a : Asked) (table : List Given) (fails : List Fail) → LongAlike (λ t. StandsFor a t table fails)
tables_alike a table fails = short_alike _ (λ t s. s.short)

-- ---- failing runs
fails_append : (ls : List Line) (l : Line) → fails_of (ls ++ l ∷ []) ≡ fails_of ls ++ fails_of (l ∷ [])
fails_append [] (outcome p g) = refl
fails_append [] (failing f) = refl
fails_append (outcome p g ∷ ls) l = fails_append ls l
fails_append (failing f ∷ ls) l = ap (λ (fs : List Fail). f ∷ fs) (fails_append ls l)

-- a list grows to at most 4,096 of them
few_kept : (a : Asked) (before ls : List Line) → AllKept a before ls → length (fails_of before) ≤ 4096 → length (fails_of (before ++ ls)) ≤ 4096
few_kept a before [] k few = rw append-nil few
few_kept a before (outcome p g ∷ ls) k few =
    let e = fails_append before (outcome p g) in
    let more = few_kept a (before ++ outcome p g ∷ []) ls k.1 (rw (e, append-nil) few) in
    rw append_assoc at more
few_kept a before (failing f ∷ ls) k few =
    let e = fails_append before (failing f) in
    let room : length (fails_of before) < 4096 = k.0.2 in
    let more = few_kept a (before ++ failing f ∷ []) ls k.1 (rw e (omega (arith, length-append (fails_of before) (f ∷ [])))) in
    rw append_assoc at more

pub few_fails : (a : Asked) (text : List ℕ) (table : List Given) (fails : List Fail) → StandsFor a text table fails → length fails ≤ 4096
few_fails a text table fails s = rw s.listed (few_kept a [] s.ls s.read.kept (omega arith))

-- ---- what is answered
other : (f : OutcomeFault) → f ≢ fault.Memory → fault_of_outcomes f ≡ job.Outcomes f
other fault.Memory n = absurd (n refl)
other _ n = refl

pub outside : (f : OutcomeFault) → f ≡ fault.Memory → IsOutside (fault_of_outcomes f)
outside f e = subst (λ (x : OutcomeFault). IsOutside (fault_of_outcomes x)) (sym e) tt

pub told_fault : (f g : OutcomeFault) → g ≢ fault.Memory → (f ≡ fault.Memory) ⊎ (f ≡ g) → (fault_of_outcomes f ≡ job.Outcomes g) ⊎ IsOutside (fault_of_outcomes f)
told_fault f g n h = elim h [ inr e ↦ inl (other f (λ m. n (sym e ∙ m)) ∙ ap job.Outcomes e) | inl m ↦ inr (outside f m) ]

is_memory : (f : OutcomeFault) → (f ≡ fault.Memory) ⊎ (f ≢ fault.Memory)
is_memory fault.Memory = inl refl
is_memory _ = inr (λ m. cc)

refused_by : (s : Seen) (c : Circuit) (g : Grid) (bytes : List ℕ) (f : OutcomeFault) → IfSome s.told (λ t. bytes ≡ take 4194305 t) → (f ≡ fault.Memory) ⊎ Refuses (asked_by c g) bytes f → f ≢ fault.Memory → OutcomesRefused s c g f
refused_by s c g bytes f e h n = elim h [
  | inl m ↦ absurd (n m)
  | inr r ↦ (n, cut_told s.told (λ t. Refuses (asked_by c g) t f) bytes (refusals_alike (asked_by c g) f) e r)
]

pub stops : (s : Seen) (c : Circuit) (g : Grid) (bytes : List ℕ) (f : OutcomeFault) → IfSome s.told (λ t. bytes ≡ take 4194305 t) → (f ≡ fault.Memory) ⊎ Refuses (asked_by c g) bytes f → OutcomesStop s c g (fault_of_outcomes f)
stops s c g bytes f e h = elim (is_memory f) [
  | inl m ↦ subst (λ (x : OutcomeFault). OutcomesStop s c g (fault_of_outcomes x)) (sym m) tt
  | inr n ↦ subst (λ (x : JobFault). OutcomesStop s c g x) (sym (other f n)) (refused_by s c g bytes f e h n)
]

pub asked_is : (ks : List Kind) (fs : List ℕ) (c : Circuit) (g : Grid) → ks ≡ kinds c.items → fs ≡ factories_in g.sites → record { kinds = ks; factories = fs } ≡ asked_by c g
asked_is ks fs c g k f = cc

pub same_outcomes : (o p : Outcomes) → (o.given ≡ p.given) × (o.fails ≡ p.fails) → o ≡ p
same_outcomes o p e = ap₂ (λ (g : List Given) (f : List Fail). record { given = g; fails = f }) e.0 e.1
