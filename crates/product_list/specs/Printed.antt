-- The product list of a circuit's static products.
use Rattle.std.specs.Prelude.{ℕ, Bool, true, false, ◌-◌, ◌==◌, ◌&&◌, nat_le, nat_lt, if◌then◌else◌, List, [], ◌∷◌, ◌++◌, find, is_none, codes, decimal, Option, Some, None}
use Rattle.std.specs.List.{flat_map, list_any}
use Rattle.patch_base.specs.Texts.{spaced}
use Rattle.pauli_product.specs.Signed.{Signed}
use Rattle.pauli_product.specs.Spelling.{product_text}
use Rattle.source_model.specs.declared.Circuit.{Circuit}
use Rattle.source_model.specs.declared.Kind.{Kind}
use Rattle.source_model.specs.declared.Kind.TheVariants as kind
use Rattle.source_model.specs.declared.Register.{Register}
use Rattle.source_model.specs.declared.Static.{Static}
use Rattle.source_model.specs.Circuits.{bits_in}

-- the register that has this bit
abbrev pub register_with : List Register → ℕ → Option Register
register_with registers bit = find (λ r. nat_le r.first bit && nat_lt (bit - r.first) r.size) registers

-- the register of these bits
abbrev pub register_of : List Register → ℕ → ℕ → Option Register
register_of registers first size = find (λ r. r.first == first && r.size == size) registers

-- a line that version 1 doesn't have: a hidden bit is written, or a product is settled
abbrev pub is_special : List Register → Kind → Bool
is_special registers kind.Rotation = false
is_special registers (kind.Measure bit) = is_none (register_with registers bit)
is_special registers (kind.Settle first size value) = true

-- version 2 is written exactly where some product needs it
unfoldable pub needs_two : List Register → List Static → Bool
needs_two registers products = list_any (λ s. is_special registers s.kind) products

-- a measurement into a register's bit, or into the next hidden bit
abbrev pub measure_words : Signed → ℕ → Option Register → List (List ℕ)
measure_words axis bit (Some r) = codes "m" ∷ product_text axis ∷ r.name ∷ decimal (bit - r.first) ∷ []
measure_words axis bit None = codes "h" ∷ product_text axis ∷ []

-- settled by a register and a value, or by a hidden bit
abbrev pub settle_words : Signed → ℕ → ℕ → Option Register → List (List ℕ)
settle_words axis hidden value (Some r) = codes "i" ∷ product_text axis ∷ r.name ∷ decimal value ∷ []
settle_words axis hidden value None = codes "j" ∷ product_text axis ∷ decimal hidden ∷ []

unfoldable pub product_words : List Register → Signed → Kind → List (List ℕ)
product_words registers axis kind.Rotation = codes "r" ∷ product_text axis ∷ []
product_words registers axis (kind.Measure bit) = measure_words axis bit (register_with registers bit)
product_words registers axis (kind.Settle first size value) = settle_words axis (first - bits_in registers) value (register_of registers first size)

-- a line of these words
unfoldable pub line_text : List (List ℕ) → List ℕ
line_text ws = spaced ws ++ codes "\n"

unfoldable pub header_text : Bool → ℕ → List ℕ
header_text two qubits = line_text (codes "products" ∷ (if two then codes "2" else codes "1") ∷ decimal qubits ∷ [])

unfoldable pub register_text : Register → List ℕ
register_text r = line_text (codes "c" ∷ r.name ∷ decimal r.size ∷ [])

unfoldable pub product_line : List Register → Static → List ℕ
product_line registers s = line_text (product_words registers s.axis s.kind)

-- the header, the registers in order of declaration, and the products in source order
unfoldable pub list_text : Circuit → List Static → List ℕ
list_text c products =
    header_text (needs_two c.registers products) c.qubits
    ++ flat_map register_text c.registers
    ++ flat_map (product_line c.registers) products
