-- The circuits that have a product list: what their items and registers keep, and the list itself.
use Rattle.std.specs.Prelude.{◌≡◌, ℕ, ◌+◌, ◌<◌, ◌≤◌, ◌^◌, List, [], ◌∷◌, ◌++◌, length, All, IsTrue, None}
use Rattle.patch_base.specs.Names.{is_name}
use Rattle.source_model.specs.declared.Circuit.{Circuit}
use Rattle.source_model.specs.declared.Item.{Item}
use Rattle.source_model.specs.declared.Item.TheVariants as item
use Rattle.source_model.specs.declared.Register.{Register}
use Rattle.source_model.specs.Circuits.{WellFormed, bits_in, kinds}
use Rattle.source_model.specs.SourceRun.{axis_of}
use Rattle.source_model.specs.Statics.{statics, static_items}
use Rattle.source_model.specs.Used.{acts_at}
use Rattle.product_list.specs.ListText.{named}
use Rattle.product_list.specs.Printed.{list_text}

-- an item's axis has a letter other than I
abbrev pub AxisHasLetter : Item → Type 0
AxisHasLetter i = (q : ℕ) × IsTrue (acts_at (axis_of i) q)

-- a condition's value is a word of 32 bits
abbrev pub HasSmallValue : Item → Type 0
HasSmallValue (item.Turn axis angle) = Unit {0}
HasSmallValue (item.Measure axis bit) = Unit {0}
HasSmallValue (item.If axis first size value) = value < 2 ^ 32

-- after these registers a list may declare another one
pub record IsNext (before : List Register) (r : Register) : Type 0 where
  pub name : IsTrue (is_name r.name)
  pub few : length before < 64
  pub bits : bits_in before + r.size ≤ 16384
  pub some : 0 < r.size
  pub apart : named before r.name ≡ None
  pub first : r.first ≡ bits_in before

-- after some registers these ones are declared, one after another
abbrev pub AreDeclared : List Register → List Register → Type 0
AreDeclared before [] = Unit {0}
AreDeclared before (r ∷ rs) = IsNext before r × AreDeclared (before ++ r ∷ []) rs

-- what a circuit has that a text stands for
pub record IsListable (c : Circuit) : Type 0 where
  pub formed : WellFormed c
  pub few : length (kinds c.items) ≤ 16384
  pub lettered : All AxisHasLetter c.items
  pub declared : AreDeclared [] c.registers
  pub small : All HasSmallValue c.items

-- a circuit's qubits, registers and hidden bits, with its static products alone as items, in source order
abbrev pub static_circuit : Circuit → Circuit
static_circuit c = record c { items = static_items (statics c.items) }

-- the product list that is printed of a circuit
abbrev pub lowered : Circuit → List ℕ
lowered c = list_text c (statics c.items)
