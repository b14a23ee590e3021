-- The products of a job as its order of waiting sees them.
use Rattle.std.specs.Prelude.{Bool, List, map, Some, None}
use Rattle.pauli_product.specs.Signed.{Signed}
use Rattle.source_model.specs.declared.Kind.{Kind}
use Rattle.source_model.specs.declared.Kind.TheVariants as kind
use Rattle.source_model.specs.declared.Static.{Static}
use Rattle.commute_order.specs.declared.Uses.{Uses}
use Rattle.commute_order.specs.Commuting.{IsOrder}

-- the bits that a product reads and writes
abbrev pub bits_used_by : Kind → Uses
bits_used_by kind.Rotation = record { read_first = 0; read_size = 0; write = None }
bits_used_by (kind.Measure bit) = record { read_first = 0; read_size = 0; write = Some bit }
bits_used_by (kind.Settle first size value) = record { read_first = first; read_size = size; write = None }

abbrev pub all_axes : List Static → List Signed
all_axes products = map (λ s. s.axis) products

abbrev pub all_uses : List Static → List Uses
all_uses products = map (λ s. bits_used_by s.kind) products

-- the order is that of the products
abbrev pub IsOrderOf : List Static → List (List Bool) → Type 0
IsOrderOf products rows = IsOrder (all_axes products) (all_uses products) rows
