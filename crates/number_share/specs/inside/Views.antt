-- What a seat knows, and how its steps change that.
use Rattle.std.specs.Prelude.{ℕ, ◌+◌, ◌-◌, ◌≤◌, [], ◌∷◌, ◌++◌, length}
use Rattle.number_share.specs.declared.view.View.{View}
use Rattle.number_share.specs.Lists.{times}

-- the first seat, which stands for all hands until they are dealt
abbrev pub opener : ℕ → ℕ → View
opener numbers owners = record { numbers = numbers; part = owners; drawn = []; past = [] }

-- one hand was dealt, and that hand
abbrev pub dealing : View → View
dealing v = record v { part = v.part - 1 }

abbrev pub dealt : View → View
dealt v = record { numbers = v.numbers; part = 1; drawn = []; past = [] }

-- it drew the number n
abbrev pub drawing : View → ℕ → View
drawing v n = record v { drawn = v.drawn ++ n ∷ [] }

-- it read r, which isn't shared
abbrev pub passing : View → ℕ → View
passing v r = record v { past = v.past ++ r ∷ [] }

-- it stands for the hands of both, and what is left of the second
abbrev pub joining : View → View → View
joining v w = record v { part = v.part + w.part; drawn = v.drawn ++ w.drawn; past = v.past ++ w.past }

abbrev pub ended : View
ended = record { numbers = 0; part = 0; drawn = []; past = [] }

-- it drew no number twice, and no more than are shared
abbrev pub IsSound : View → Type 0
IsSound v = ((n : ℕ) → times n v.drawn ≤ 1) × (length v.drawn ≤ v.numbers)
