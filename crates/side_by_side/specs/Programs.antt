-- Programs alone and side by side: circuits with their outcomes, and what is a program's own in the run of all.
use Rattle.std.specs.Prelude.{◌≡◌, ℕ, Bool, List, All, map, take, drop, flat_map}
use Rattle.pauli_product.specs.Signed.{Signed}
use Rattle.source_model.specs.declared.Circuit.{Circuit}
use Rattle.source_model.specs.declared.Given.{Given}
use Rattle.source_model.specs.SourceRun.{axes, bit_after}
use Rattle.source_model.specs.Circuits.{WellFormed, RightKinds}
use Rattle.source_model.specs.Statics.{statics}
use Rattle.outcome_table.specs.declared.Outcomes.{Outcomes}
use Rattle.board_core.specs.Legal.{Complete}
use Rattle.board_core.specs.Position.{Position, past}
use Rattle.side_by_side.specs.declared.joining.Joined.{Joined}
use Rattle.side_by_side.specs.declared.place.Place.{Place}
use Rattle.side_by_side.specs.Joined.{products_in, span_of, place_of, joined_items, IsJoinOf}

-- a circuit with a table of outcomes of its products
pub record Program : Type 0 where
  pub circuit : Circuit
  pub outcomes : List Given

abbrev pub IsProgram : Program → Type 0
IsProgram p = WellFormed p.circuit × RightKinds p.circuit.items p.outcomes

abbrev pub circuits : List Program → List Circuit
circuits ps = map (λ p. p.circuit) ps

-- one program's table after another
abbrev pub joined_outcomes : List Program → List Given
joined_outcomes ps = flat_map (λ p. p.outcomes) ps

-- ---- the run of one program alone, and of all of them joined
abbrev pub axes_alone : Program → List Signed
axes_alone p = axes p.circuit.items p.outcomes

abbrev pub bit_alone : Program → ℕ → Bool
bit_alone p b = bit_after p.circuit.items p.outcomes b

abbrev pub axes_joined : List Program → List Signed
axes_joined ps = axes (joined_items (circuits ps)) (joined_outcomes ps)

abbrev pub bit_joined : List Program → ℕ → Bool
bit_joined ps b = bit_after (joined_items (circuits ps)) (joined_outcomes ps) b

-- ---- what belongs to program i
abbrev pub place_in : List Program → ℕ → Program → Place
place_in ps i p = place_of (circuits ps) i p.circuit

abbrev pub first_product : List Program → ℕ → ℕ
first_product ps i = (span_of (circuits ps) i).product

abbrev pub first_bit : List Program → ℕ → ℕ
first_bit ps i = (span_of (circuits ps) i).bit

-- of what belongs to all products, that of circuit c, which is that of program i
abbrev pub share_of : {A : Type 0} → List Circuit → ℕ → Circuit → List A → List A
share_of cs i c xs = take (products_in c.items) (drop (span_of cs i).product xs)

-- its axes in the joined run
abbrev pub axes_at : List Program → ℕ → Program → List Signed
axes_at ps i p = share_of (circuits ps) i p.circuit (axes_joined ps)

-- the letters of so many qubits after so many others
abbrev pub own_part : ℕ → ℕ → Signed → Signed
own_part before n p = record { sign = p.sign; letters = take n (drop before p.letters) }

-- the axes on its own qubits
abbrev pub own_axes : List Program → ℕ → Program → List Signed
own_axes ps i p = map (own_part (place_in ps i p).before p.circuit.qubits) (axes_at ps i p)

-- ---- what the calls ask for
-- one table for each joined program, for its products
pub record AreTablesOf (j : Joined) (tables : List Outcomes) : Type 0 where
  pub programs : List Program
  pub each : All IsProgram programs
  pub joined : IsJoinOf (circuits programs) j
  pub given : map (λ t. t.given) tables ≡ map (λ p. p.outcomes) programs

-- a board on which joined programs were carried out to the end, each with its own outcomes
pub record IsCarriedOut (j : Joined) (b : Position) (ps : List Program) : Type 0 where
  pub each : All IsProgram ps
  pub joined : IsJoinOf (circuits ps) j
  pub products : b.job.products ≡ statics j.circuit.items
  pub complete : Complete b.job (past b) (joined_outcomes ps)
