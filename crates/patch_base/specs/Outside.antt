-- What calls of a shelf and a sink say.
use Rattle.std.specs.Prelude.{◌≡◌, ◌⊎◌, ℕ, ◌+◌, ◌-◌, ◌^◌, ◌≤◌, min, List, [], ◌++◌, length, take, drop, Option, Some, None, IfSome}

-- a count of faults rose, or stands at the last value of its counter
abbrev pub Rose : ℕ → ℕ → Type 0
Rose before now = min (before + 1) (2 ^ 64 - 1) ≤ now

-- n bytes were put at the head of the buffer: those of the text from a place on; none only at its end or for an empty buffer
pub record GivesFrom (text : List ℕ) (at n : ℕ) (now : List ℕ) : Type 0 where
  pub bytes : take n now ≡ take n (drop at text)
  pub enough : n ≤ length text - at
  pub end : n ≡ 0 → (length text ≤ at) ⊎ (length now ≡ 0)

abbrev pub Gives : Option (List ℕ) → ℕ → ℕ → List ℕ → Type 0
Gives told at n now = (n ≤ length now) × IfSome told (λ text. GivesFrom text at n now)

-- these bytes were appended, where the sink tells what it has
abbrev pub Grew : Option (List ℕ) → Option (List ℕ) → List ℕ → Type 0
Grew None now bytes = now ≡ None
Grew (Some text) now bytes = now ≡ Some (text ++ bytes)

-- the first n bytes of the piece were appended
abbrev pub Appends : Option (List ℕ) → Option (List ℕ) → List ℕ → ℕ → Type 0
Appends before now piece n = (n ≤ length piece) × Grew before now (take n piece)

-- some first bytes of the piece were appended
abbrev pub AppendsPrefix : Option (List ℕ) → Option (List ℕ) → List ℕ → Type 0
AppendsPrefix before now piece = (n : ℕ) × Appends before now piece n

-- none of a piece was taken: it is empty, or the count rose
abbrev pub IsEndOnly : ℕ → ℕ → List ℕ → Type 0
IsEndOnly before now piece = (piece ≡ []) ⊎ Rose before now
