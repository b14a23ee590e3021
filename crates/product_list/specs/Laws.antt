-- Laws of product lists: what is read can be printed, and what is printed is read back.
use Rattle.std.specs.Prelude.{◌≡◌, ◌⊎◌, ℕ, ◌≤◌, List, [], ◌∷◌, ◌++◌, length, Ok, Err}
use Rattle.qasm_lex.specs.declared.fault.FaultKind.{FaultKind}
use Rattle.qasm_lex.specs.declared.fault.CircuitFault.TheVariants.{At}
use Rattle.source_model.specs.declared.Circuit.{Circuit}
use Rattle.source_model.specs.declared.Register.{Register}
use Rattle.product_list.specs.ListText.{list_circuit}
use Rattle.product_list.specs.Listable.{AreDeclared, IsListable, IsNext, lowered, static_circuit}

-- the circuit of a product list has a product list
abbrev pub ReadIsListable : Type 0
ReadIsListable = (text : List ℕ) (c : Circuit) → list_circuit text ≡ Ok c → IsListable c

-- a circuit's product list is read as its static circuit; a text that is read has at most 4 MiB
abbrev pub PrintedIsRead : Type 0
PrintedIsRead = (c : Circuit) → IsListable c → length (lowered c) ≤ 4194304 →
    list_circuit (lowered c) ≡ Ok (static_circuit c)

-- one more register is declared after the others
abbrev pub DeclaredMore : Type 0
DeclaredMore = (before rs : List Register) (r : Register) →
    AreDeclared before rs → IsNext (before ++ rs) r → AreDeclared before (rs ++ r ∷ [])

-- each text is that of a circuit, or has a fault at a line
abbrev pub ListOrFault : Type 0
ListOrFault = (text : List ℕ) →
    ((c : Circuit) × (list_circuit text ≡ Ok c))
    ⊎ ((line : ℕ) × (kind : FaultKind) × (list_circuit text ≡ Err (At line kind)))
