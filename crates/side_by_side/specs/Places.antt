-- A program's place among others: its products on the joined qubits, and its bits among the joined ones.
use Rattle.std.specs.Prelude.{ℕ, ◌+◌, ◌-◌, nat_lt, nat_le, if◌then◌else◌, List, ◌++◌, map, replicate}
use Rattle.pauli_product.specs.declared.Letter.{Letter}
use Rattle.pauli_product.specs.declared.Letter.TheVariants.{I}
use Rattle.pauli_product.specs.Signed.{Signed}
use Rattle.source_model.specs.declared.Item.{Item}
use Rattle.source_model.specs.declared.Item.TheVariants as item
use Rattle.source_model.specs.declared.Kind.{Kind}
use Rattle.source_model.specs.declared.Kind.TheVariants as kind
use Rattle.source_model.specs.declared.Static.{Static}
use Rattle.side_by_side.specs.declared.place.Place.{Place}

-- letters with I on so many qubits before them and so many after
abbrev pub fill : ℕ → ℕ → List Letter → List Letter
fill before after ls = replicate before I ++ (ls ++ replicate after I)

-- a program's product on the joined qubits: I on all others
abbrev pub pad : Place → Signed → Signed
pad s p = record { sign = p.sign; letters = fill s.before s.after p.letters }

-- a program's bit among the joined ones: those of registers in one range, the hidden ones in another
abbrev pub bit_in : Place → ℕ → ℕ
bit_in s b = if nat_lt b s.bits then s.bit + b else s.hidden + (b - s.bits)

-- the first of so many bits that a program reads, among the joined ones
abbrev pub range_in : Place → ℕ → ℕ → ℕ
range_in s first size = if nat_le (first + size) s.bits then s.bit + first else s.hidden + (first - s.bits)

-- a program's item among the joined ones
abbrev pub item_in : Place → Item → Item
item_in s (item.Turn axis angle) = item.Turn (pad s axis) angle
item_in s (item.Measure axis bit) = item.Measure (pad s axis) (bit_in s bit)
item_in s (item.If axis first size value) = item.If (pad s axis) (range_in s first size) size value

abbrev pub items_in : Place → List Item → List Item
items_in s items = map (item_in s) items

-- and its static product
abbrev pub kind_in : Place → Kind → Kind
kind_in s kind.Rotation = kind.Rotation
kind_in s (kind.Measure bit) = kind.Measure (bit_in s bit)
kind_in s (kind.Settle first size value) = kind.Settle (range_in s first size) size value

abbrev pub static_in : Place → Static → Static
static_in s t = record { axis = pad s t.axis; kind = kind_in s t.kind }
