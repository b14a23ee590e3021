-- A run after the runs of others, which leave its qubits and its bits alone.
use Rattle.std.specs.Prelude.{◌≡◌, ℕ, Bool, ◌+◌, ◌<◌, ◌≤◌, ◌⊎◌, List, [], ◌∷◌, ◌++◌, All, map}
use Rattle.pauli_product.specs.declared.Letter.TheVariants.{I}
use Rattle.pauli_product.specs.Signed.{Signed, letter_at}
use Rattle.pauli_product.specs.Pulls.{Turn, turn}
use Rattle.source_model.specs.declared.Circuit.{Circuit}
use Rattle.source_model.specs.declared.Item.{Item}
use Rattle.source_model.specs.declared.Item.TheVariants as item
use Rattle.source_model.specs.Circuits.{AxesOfLength, BitsBelow, bits_in}
use Rattle.source_model.specs.SourceRun.{Progress}
use Rattle.side_by_side.specs.declared.place.Place.{Place}
use Rattle.side_by_side.specs.Places.{pad, bit_in}

abbrev pub pads : Place → List Turn → List Turn
pads s ts = map (λ t. turn (pad s t.axis) t.angle) ts

abbrev pub writes_in : Place → List (ℕ × Bool) → List (ℕ × Bool)
writes_in s ws = map (λ w. (bit_in s w.0, w.1)) ws

-- after what came before, what the program does alone: its turns padded, and its bits among the joined ones
abbrev pub beside : Place → Progress → Progress → Progress
beside s f g = record { turns = f.turns ++ pads s g.turns; writes = writes_in s g.writes ++ f.writes }

-- I on n qubits from the first one on
abbrev pub IsClear : ℕ → ℕ → Signed → Type 0
IsClear first n p = (k : ℕ) → first ≤ k → k < first + n → letter_at p k ≡ I

-- each turn is about an axis with I on these qubits
abbrev pub Leaves : ℕ → ℕ → List Turn → Type 0
Leaves first n [] = Unit {0}
Leaves first n (t ∷ ts) = IsClear first n t.axis × Leaves first n ts

-- an If reads bits of registers alone, or hidden bits alone
abbrev pub ReadsOneKind : ℕ → Item → Type 0
ReadsOneKind bits (item.Turn axis angle) = Unit {0}
ReadsOneKind bits (item.Measure axis bit) = Unit {0}
ReadsOneKind bits (item.If axis first size value) = (first + size ≤ bits) ⊎ (bits ≤ first)

-- what a circuit keeps to so that it runs beside others as it does alone
pub record Fits (c : Circuit) : Type 0 where
  pub axes_fit : AxesOfLength c.qubits c.items
  pub bits_fit : All (BitsBelow (bits_in c.registers + c.hidden)) c.items
  pub reads_fit : All (ReadsOneKind (bits_in c.registers)) c.items
