-- What a call sees of a shelf: the names of a job's three texts.
use Rattle.std.specs.Prelude.{◌≡◌, ℕ, List, codes, Option, IsSome}
use Rattle.patch_base.specs.Outside.{Rose}

-- a name: its bytes, where the shelf tells them, and its count of faults before and after the call
pub record Seen : Type 0 where
  pub told : Option (List ℕ)
  pub before : ℕ
  pub after : ℕ

abbrev pub seen : (List ℕ → Option (List ℕ)) → (List ℕ → ℕ) → (List ℕ → ℕ) → List ℕ → Seen
seen tells before after name = record { told = tells name; before = before name; after = after name }

-- a fault of the name was counted in the call
abbrev pub Failed : Seen → Type 0
Failed s = Rose s.before s.after

abbrev pub IsTold : Seen → Type 0
IsTold s = IsSome s.told

-- the layout word `-` is the built-in row layout, and every other one names a text
abbrev pub IsRow : List ℕ → Type 0
IsRow word = word ≡ codes "-"

abbrev pub IsNamed : List ℕ → Type 0
IsNamed word = IsRow word → ⊥

-- the names of a job's texts, and the word of its layout
pub record Reading : Type 0 where
  pub circuit : Seen
  pub word : List ℕ
  pub layout : Seen
  pub outcomes : Seen

abbrev pub reading : (List ℕ → Option (List ℕ)) → (List ℕ → ℕ) → (List ℕ → ℕ) → List ℕ → List ℕ → List ℕ → Reading
reading tells before after circuit layout outcomes = record {
  circuit = seen tells before after circuit;
  word = layout;
  layout = seen tells before after layout;
  outcomes = seen tells before after outcomes;
}
