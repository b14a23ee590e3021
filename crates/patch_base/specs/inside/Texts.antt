-- The words that are still to come.
use Rattle.std.specs.Prelude.{ℕ, List, [], Option, Some, None}
use Rattle.patch_base.specs.Texts.{words}

abbrev pub words_left : Option (List ℕ) → List (List ℕ)
words_left None = []
words_left (Some line) = words line
