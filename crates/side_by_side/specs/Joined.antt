-- Several circuits as one: one program after another, each on qubits and bits of its own.
use Rattle.std.specs.Prelude.{◌≡◌, ℕ, suc, ◌+◌, ◌<◌, ◌≤◌, List, [], ◌∷◌, ◌++◌, All, map, take, drop, length, sum_by, codes, decimal}
use Rattle.std.specs.List.{range_with_len}
use Rattle.source_model.specs.declared.Circuit.{Circuit}
use Rattle.source_model.specs.declared.Item.{Item}
use Rattle.source_model.specs.declared.Register.{Register}
use Rattle.source_model.specs.Circuits.{WellFormed, bits_in, kinds}
use Rattle.side_by_side.specs.declared.joining.Joined.{Joined}
use Rattle.side_by_side.specs.declared.joining.JoinFault.{JoinFault}
use Rattle.side_by_side.specs.declared.joining.JoinFault.TheVariants.{TooMany, Memory}
use Rattle.side_by_side.specs.declared.joining.Span.{Span}
use Rattle.side_by_side.specs.declared.place.Place.{Place}
use Rattle.side_by_side.specs.declared.sums.Sums.{Sums}
use Rattle.side_by_side.specs.Places.{items_in}

-- how many products the items have
abbrev pub products_in : List Item → ℕ
products_in items = length (kinds items)

-- ---- how much circuits have in all
abbrev pub qubits_of : List Circuit → ℕ
qubits_of cs = sum_by (λ c. c.qubits) cs

abbrev pub products_of : List Circuit → ℕ
products_of cs = sum_by (λ c. products_in c.items) cs

abbrev pub bits_of : List Circuit → ℕ
bits_of cs = sum_by (λ c. bits_in c.registers) cs

abbrev pub hidden_of : List Circuit → ℕ
hidden_of cs = sum_by (λ c. c.hidden) cs

abbrev pub sums_of : List Circuit → Sums
sums_of cs = record {
  qubits = qubits_of cs;
  products = products_of cs;
  registers = sum_by (λ c. length c.registers) cs;
  bits = bits_of cs;
  hidden = hidden_of cs;
}

-- within the limits of a circuit
pub record IsWithin (s : Sums) : Type 0 where
  pub qubits : s.qubits ≤ 1024
  pub products : s.products ≤ 16384
  pub registers : s.registers ≤ 64
  pub bits : s.bits ≤ 16384

-- program n is the first one by which a limit is passed
pub record IsFirstPast (cs : List Circuit) (n : ℕ) : Type 0 where
  pub program : n < length cs
  pub before : IsWithin (sums_of (take n cs))
  pub passed : IsWithin (sums_of (take (n + 1) cs)) → ⊥

-- ---- where each program stands
-- the first qubit, product, bit of registers and hidden bit of program i: each is numbered on, hidden bits after all bits of registers
abbrev pub span_of : List Circuit → ℕ → Span
span_of cs i = record {
  qubit = qubits_of (take i cs);
  product = products_of (take i cs);
  bit = bits_of (take i cs);
  hidden = bits_of cs + hidden_of (take i cs);
}

abbrev pub spans_of : List Circuit → List Span
spans_of cs = map (span_of cs) (range_with_len 0 (length cs))

-- the place of circuit c, the first of these, whose qubits, bits and hidden bits begin at these numbers
abbrev pub place_at : ℕ → ℕ → ℕ → Circuit → List Circuit → Place
place_at q b h c cs = record { before = q; after = qubits_of cs; bits = bits_in c.registers; bit = b; hidden = h }

-- the place of circuit c, which is that of program i
abbrev pub place_of : List Circuit → ℕ → Circuit → Place
place_of cs i c = place_at (span_of cs i).qubit (span_of cs i).bit (span_of cs i).hidden c (drop (suc i) cs)

-- ---- the joined circuit
-- the items of circuits whose qubits, bits and hidden bits begin at these numbers
abbrev pub joined_from : ℕ → ℕ → ℕ → List Circuit → List Item
joined_from q b h [] = []
joined_from q b h (c ∷ cs) = items_in (place_at q b h c cs) c.items ++ joined_from (q + c.qubits) (b + bits_in c.registers) (h + c.hidden) cs

abbrev pub joined_items : List Circuit → List Item
joined_items cs = joined_from 0 0 (bits_of cs) cs

-- the name of a register of program i, as p0_c
abbrev pub named : ℕ → List ℕ → List ℕ
named i name = codes "p" ++ (decimal i ++ (codes "_" ++ name))

-- a register of a program whose bits begin at b
abbrev pub register_at : ℕ → (List ℕ → List ℕ) → Register → Register
register_at b rename r = record { name = rename r.name; first = b + r.first; size = r.size }

-- the registers of programs from number i on, whose bits begin at b
abbrev pub registers_from : ℕ → ℕ → List Circuit → List Register
registers_from i b [] = []
registers_from i b (c ∷ cs) = map (register_at b (named i)) c.registers ++ registers_from (suc i) (b + bits_in c.registers) cs

abbrev pub joined_registers : List Circuit → List Register
joined_registers cs = registers_from 0 0 cs

abbrev pub joined_circuit : List Circuit → Circuit
joined_circuit cs = record { qubits = qubits_of cs; registers = joined_registers cs; hidden = hidden_of cs; items = joined_items cs }

-- ---- what `join` answers
-- one to eight well-formed circuits, within the limits together, joined
pub record IsJoinOf (cs : List Circuit) (j : Joined) : Type 0 where
  pub some : 1 ≤ length cs
  pub few : length cs ≤ 8
  pub each : All WellFormed cs
  pub within : IsWithin (sums_of cs)
  pub circuit : j.circuit ≡ joined_circuit cs
  pub spans : j.spans ≡ spans_of cs

-- why circuits aren't joined; want of memory is free
abbrev pub JoinRefusedBecause : JoinFault → List Circuit → Type 0
JoinRefusedBecause (TooMany program) cs = IsFirstPast cs program
JoinRefusedBecause Memory cs = Unit {0}
