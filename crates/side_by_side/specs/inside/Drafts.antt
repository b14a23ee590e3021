-- A joined circuit that is made program by program.
use Rattle.std.specs.Prelude.{◌≡◌, ℕ, ◌+◌, ◌-◌, ◌≤◌, List, [], ◌∷◌, ◌++◌, map, take, drop, length}
use Rattle.std.specs.List.{range_with_len}
use Rattle.pauli_product.specs.Signed.{OfLength}
use Rattle.source_model.specs.declared.Circuit.{Circuit}
use Rattle.source_model.specs.declared.Item.{Item}
use Rattle.source_model.specs.Circuits.{BitsBelow, bits_in}
use Rattle.source_model.specs.SourceRun.{axis_of}
use Rattle.side_by_side.specs.declared.joining.Draft.{Draft}
use Rattle.side_by_side.specs.declared.joining.Span.{Span}
use Rattle.side_by_side.specs.declared.place.Place.{Place}
use Rattle.side_by_side.specs.declared.sums.Sums.{Sums}
use Rattle.side_by_side.specs.Places.{item_in, items_in}
use Rattle.side_by_side.specs.inside.Beside.{ReadsOneKind}
use Rattle.side_by_side.specs.Joined.{products_in, sums_of, span_of, joined_from, joined_items, registers_from, joined_registers, register_at, named}

-- with one circuit more
abbrev pub added : Sums → Circuit → Sums
added s c = record {
  qubits = s.qubits + c.qubits;
  products = s.products + products_in c.items;
  registers = s.registers + length c.registers;
  bits = s.bits + bits_in c.registers;
  hidden = s.hidden + c.hidden;
}

-- where a program begins after these others, of all these
abbrev pub span_after : Sums → Sums → Span
span_after all at = record { qubit = at.qubits; product = at.products; bit = at.bits; hidden = all.bits + at.hidden }

abbrev pub place_after : Sums → Sums → Circuit → Place
place_after all at c = record {
  before = at.qubits;
  after = all.qubits - (at.qubits + c.qubits);
  bits = bits_in c.registers;
  bit = at.bits;
  hidden = all.bits + at.hidden;
}

-- all numbers of an item among the joined ones are in range
pub record HasRoom (s : Place) (i : Item) : Type 0 where
  pub qubits : ℕ
  pub axis : OfLength qubits (axis_of i)
  pub few : s.before + (qubits + s.after) ≤ 1024
  pub own : BitsBelow 65536 i
  pub reads : ReadsOneKind s.bits i
  pub joined : BitsBelow 65536 (item_in s i)

-- a draft with one program more, which is number i of all these
abbrev pub drafted : Sums → ℕ → Circuit → Draft → Draft
drafted all i c d = record {
  at = added d.at c;
  registers = d.registers ++ map (register_at d.at.bits (named i)) c.registers;
  items = d.items ++ items_in (place_after all d.at c) c.items;
  spans = d.spans ++ span_after all d.at ∷ [];
}

-- the draft has the first i programs
pub record HasDrafted (cs : List Circuit) (i : ℕ) (d : Draft) : Type 0 where
  pub at : d.at ≡ sums_of (take i cs)
  pub registers : d.registers ++ registers_from i d.at.bits (drop i cs) ≡ joined_registers cs
  pub items : d.items ++ joined_from d.at.qubits d.at.bits ((sums_of cs).bits + d.at.hidden) (drop i cs) ≡ joined_items cs
  pub spans : d.spans ≡ map (span_of cs) (range_with_len 0 i)
