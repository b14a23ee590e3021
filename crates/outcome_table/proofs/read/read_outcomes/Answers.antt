use Rattle.std.proofs.Common.{◌≡◌, ◌⊎◌, ℕ, List, Result, Ok, Err, IfOk, IfErr, MatchResult, inl, inr}
use Rattle.source_model.specs.declared.Given.{Given}
use Rattle.magic_pool.specs.declared.Fail.{Fail}
use Rattle.outcome_table.specs.declared.Outcomes.{Outcomes}
use Rattle.outcome_table.specs.declared.fault.OutcomeFault.{OutcomeFault}
use Rattle.outcome_table.specs.declared.fault.OutcomeFault.TheVariants as fault
use Rattle.outcome_table.specs.OutcomeText.{Asked, Refuses, StandsFor}
use Rattle.outcome_table.proofs.Once.{refused_once, stands_refuses, table_once}
use Rattle.outcome_table.proofs.read.read_outcomes.Goals as goal

only_answer : (a : Asked) (text : List ℕ) (r : Result Outcomes OutcomeFault) (given : List Given) (fails : List Fail)
    → IfOk r (λ o. StandsFor a text o.given o.fails) → IfErr r (λ f. (f ≡ fault.Memory) ⊎ Refuses a text f) → StandsFor a text given fails
    → MatchResult r (λ o. (o.given ≡ given) × (o.fails ≡ fails)) (λ f. f ≡ fault.Memory)
only_answer a text (Ok o) given fails h k s = table_once a text o.given given o.fails fails h s
only_answer a text (Err f) given fails h k s = elim k [ inl e ↦ e | inr refuses ↦ absurd (stands_refuses a text given fails f s refuses) ]

only_fault : (a : Asked) (text : List ℕ) (r : Result Outcomes OutcomeFault) (f : OutcomeFault)
    → IfOk r (λ o. StandsFor a text o.given o.fails) → IfErr r (λ e. (e ≡ fault.Memory) ⊎ Refuses a text e) → Refuses a text f
    → MatchResult r (λ o. ⊥) (λ e. (e ≡ fault.Memory) ⊎ (e ≡ f))
only_fault a text (Ok o) f h k s = stands_refuses a text o.given o.fails f h s
only_fault a text (Err e) f h k s = elim k [ inl m ↦ inl m | inr refuses ↦ inr (refused_once a text e f refuses s) ]

pub returns-clause-faults : goal.returns-clause-faults
returns-clause-faults c = λ f s.
    only_fault (record { kinds = c.args.kinds.now; factories = c.args.factories.now }) c.args.text.now c.read.result f c.read.ensures.accepted c.read.ensures.refused s

pub returns-clause-exact : goal.returns-clause-exact
returns-clause-exact c = λ given fails s.
    only_answer (record { kinds = c.args.kinds.now; factories = c.args.factories.now }) c.args.text.now c.read.result given fails c.read.ensures.accepted c.read.ensures.refused s
