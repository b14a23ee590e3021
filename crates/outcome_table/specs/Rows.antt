-- Worked rows of outcome texts.
use Rattle.std.specs.Prelude.{◌≡◌, true, false, [], ◌∷◌, codes, refl}
use Rattle.std.specs.Fmt.{digits}
use Rattle.patch_base.specs.Texts.{lines, words}
use Rattle.source_model.specs.declared.Given.TheVariants as given
use Rattle.outcome_table.specs.OutcomeText.{failing, fails_of, outcome, spelling}

-- a rotation, a measurement, and a failing run
pub rotation : words (codes "r 0 1 0") ≡ spelling (outcome 0 (given.Rotation true false))
unfolding digits
rotation = refl

pub measurement : words (codes "m 10 1") ≡ spelling (outcome 10 (given.Measure true))
unfolding digits
measurement = refl

pub failing_run : words (codes "f 7 12") ≡ spelling (failing (record { factory = 7; run = 12 }))
unfolding digits
failing_run = refl

-- lines give failing runs in their order, and need no last line feed
pub order : fails_of (failing (record { factory = 7; run = 12 }) ∷ outcome 0 (given.Measure true) ∷ failing (record { factory = 0; run = 3 }) ∷ []) ≡ record { factory = 7; run = 12 } ∷ record { factory = 0; run = 3 } ∷ []
order = refl

pub feeds : lines (10 ∷ codes "m 0 1") ≡ [] ∷ codes "m 0 1" ∷ []
feeds = refl
