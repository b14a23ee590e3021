-- Laws of outcome texts.
use Rattle.std.specs.Prelude.{◌⊎◌, ℕ, List}
use Rattle.magic_pool.specs.declared.Fail.{Fail}
use Rattle.source_model.specs.declared.Given.{Given}
use Rattle.outcome_table.specs.declared.fault.OutcomeFault.{OutcomeFault}
use Rattle.outcome_table.specs.OutcomeText.{Asked, Refuses, StandsFor}

-- each text stands for a table and failing runs, or is refused
abbrev pub TableOrFault : Type 0
TableOrFault = (a : Asked) (text : List ℕ) →
    ((table : List Given) × (fails : List Fail) × StandsFor a text table fails)
    ⊎ ((f : OutcomeFault) × Refuses a text f)
