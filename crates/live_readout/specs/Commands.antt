-- The words of a live run.
use Rattle.std.specs.Prelude.{ℕ, ◌≤◌, List, [], ◌∷◌, codes, decimal}

-- the names of a circuit, a layout and outcomes, and the number k of routers
pub record Command : Type 0 where
  pub circuit : List ℕ
  pub layout : List ℕ
  pub outcomes : List ℕ
  pub k : ℕ

-- the words that give it
abbrev pub live_words : Command → List (List ℕ)
live_words t = codes "live" ∷ t.circuit ∷ t.layout ∷ t.outcomes ∷ decimal t.k ∷ []

-- 1 to 16 routers
abbrev pub IsCommand : Command → Type 0
IsCommand t = (1 ≤ t.k) × (t.k ≤ 16)
