-- What a circuit text stands for: it is a product list where it begins so, and else a program in OpenQASM 2.0.
use Rattle.std.specs.Prelude.{◌≡◌, ◌⊎◌, ℕ, Bool, true, false, List, take, codes, Ok, Err, Some}
use Rattle.std.specs.Str.{bytes_eq}
use Rattle.source_model.specs.declared.Circuit.{Circuit}
use Rattle.qasm_lex.specs.Tokens.{tokens_of}
use Rattle.qasm_lex.specs.declared.Token.{Token}
use Rattle.qasm_lex.specs.declared.fault.FaultKind.{FaultKind}
use Rattle.qasm_lex.specs.declared.fault.FaultKind.TheVariants.{TooMany}
use Rattle.qasm_lex.specs.declared.fault.CircuitFault.{CircuitFault}
use Rattle.qasm_lex.specs.declared.fault.CircuitFault.TheVariants as fault
use Rattle.qasm_parse.specs.declared.tree.Tree.{Tree}
use Rattle.qasm_parse.specs.Pass.{HasFault}
use Rattle.qasm_expand.specs.Limits.{passing}
use Rattle.product_list.specs.ListText.{list_circuit}
use Rattle.rotation_list.specs.Items.{IsTreeOf, IsProgram, circuit_of}

-- the nine bytes with which a product list begins
abbrev pub is_list : List ℕ → Bool
is_list text = bytes_eq (take 9 text) (codes "products ")

-- a program's circuit is that of its tree
abbrev pub IsProgramOf : List ℕ → Circuit → Type 0
IsProgramOf text c = (tree : Tree) × IsProgram text tree × (c ≡ circuit_of text tree)

-- the text stands for the circuit
abbrev pub StandsFor : List ℕ → Circuit → Type 0
StandsFor text c =
    ((is_list text ≡ true) × (list_circuit text ≡ Ok c))
    ⊎ ((is_list text ≡ false) × IsProgramOf text c)

-- a program is refused by the first of three passes that finds a fault: it has no tokens, no tree, or too many operations or products
pub data IsFaulty (text : List ℕ) : ℕ → FaultKind → Type 0 where
  untokened : (line : ℕ) (kind : FaultKind) → tokens_of text ≡ Err (fault.At line kind) → IsFaulty text line kind
  untreed : (tokens : List Token) (line : ℕ) (kind : FaultKind) → tokens_of text ≡ Ok tokens → HasFault text tokens line kind → IsFaulty text line kind
  unbounded : (tree : Tree) (line : ℕ) → IsTreeOf text tree → passing tree ≡ Some line → IsFaulty text line TooMany

-- the fault of the text; out of memory is none
abbrev pub IsRefused : List ℕ → CircuitFault → Type 0
IsRefused text fault.Memory = ⊥
IsRefused text (fault.At line kind) =
    ((is_list text ≡ true) × (list_circuit text ≡ Err (fault.At line kind)))
    ⊎ ((is_list text ≡ false) × IsFaulty text line kind)
