-- The items of a program: its flat operations, each replaced by its turns, measurements and settled products.
use Rattle.std.specs.Prelude.{◌≡◌, ℕ, ◌+◌, true, false, List, [], ◌∷◌, ◌++◌, map, sum_by, slice_range, Ok, None}
use Rattle.pauli_product.specs.declared.Letter.TheVariants.{X, Y, Z}
use Rattle.source_model.specs.declared.Circuit.{Circuit}
use Rattle.source_model.specs.declared.Item.{Item}
use Rattle.source_model.specs.declared.Register.{Register}
use Rattle.qasm_lex.specs.Tokens.{tokens_of}
use Rattle.qasm_lex.specs.declared.Token.{Token}
use Rattle.qasm_parse.specs.declared.tree.Gate1.{Gate1}
use Rattle.qasm_parse.specs.declared.tree.Gate1.TheVariants as ones
use Rattle.qasm_parse.specs.declared.tree.Gate2.{Gate2}
use Rattle.qasm_parse.specs.declared.tree.Gate2.TheVariants as twos
use Rattle.qasm_parse.specs.declared.tree.Declared.{Declared}
use Rattle.qasm_parse.specs.declared.tree.Tree.{Tree}
use Rattle.qasm_parse.specs.Pass.{HasTree}
use Rattle.qasm_expand.specs.declared.flat.Flat.{Flat}
use Rattle.qasm_expand.specs.declared.flat.Flat.TheVariants as flats
use Rattle.qasm_expand.specs.Flats.{flats_of}
use Rattle.qasm_expand.specs.Limits.{passing}
use Rattle.qasm_expand.specs.Sound.{members}
use Rattle.rotation_list.specs.Gates.{x_gate, y_gate, z_gate, s_gate, sx_gate, t_gate, h_gate, controlled, measured, conditional, reset_by}

-- a gate on one qubit
abbrev pub one_gate : ℕ → Gate1 → ℕ → List Item
one_gate n ones.Id q = []
one_gate n ones.X q = x_gate n q
one_gate n ones.Y q = y_gate n q
one_gate n ones.Z q = z_gate n q
one_gate n ones.H q = h_gate n q
one_gate n ones.S q = s_gate n false q
one_gate n ones.Sdg q = s_gate n true q
one_gate n ones.Sx q = sx_gate n false q
one_gate n ones.Sxdg q = sx_gate n true q
one_gate n ones.T q = t_gate n false q
one_gate n ones.Tdg q = t_gate n true q

-- a gate on two qubits: the control and the target
abbrev pub two_gate : ℕ → Gate2 → ℕ → ℕ → List Item
two_gate n twos.Cx c t = controlled n X c t
two_gate n twos.Cy c t = controlled n Y c t
two_gate n twos.Cz c t = controlled n Z c t

-- under a condition stands x, y, z or id
abbrev pub conditional_gate : ℕ → Gate1 → ℕ → ℕ → ℕ → ℕ → List Item
conditional_gate n ones.X q first size value = conditional n X q first size value
conditional_gate n ones.Y q first size value = conditional n Y q first size value
conditional_gate n ones.Z q first size value = conditional n Z q first size value
conditional_gate n _ q first size value = []

-- the items of a flat operation, with the next hidden bit
abbrev pub flat_items : ℕ → ℕ → Flat → List Item
flat_items n next (flats.Gate1 gate q) = one_gate n gate q
flat_items n next (flats.Gate2 gate a b) = two_gate n gate a b
flat_items n next (flats.Measure q bit) = measured n q bit
flat_items n next (flats.Reset q) = reset_by n q next
flat_items n next (flats.If gate q first size value) = conditional_gate n gate q first size value

-- a reset takes a hidden bit
abbrev pub hidden_in : Flat → ℕ
hidden_in (flats.Gate1 gate q) = 0
hidden_in (flats.Gate2 gate a b) = 0
hidden_in (flats.Measure q bit) = 0
hidden_in (flats.Reset q) = 1
hidden_in (flats.If gate q first size value) = 0

-- the items of flat operations, which take hidden bits from the next one on
unfoldable pub items_from : ℕ → ℕ → List Flat → List Item
items_from n next [] = []
items_from n next (f ∷ fs) = flat_items n next f ++ items_from n (next + hidden_in f) fs

-- a classical register, by the span of its name in the text
abbrev pub register_in : List ℕ → Declared → Register
register_in text d = record { name = slice_range text d.start d.end; first = d.first; size = d.size }

-- the circuit of a tree; hidden bits are numbered after all bits of registers
unfoldable pub circuit_of : List ℕ → Tree → Circuit
circuit_of text tree = record {
  qubits = members tree.quantum;
  registers = map (register_in text) tree.classical;
  items = items_from (members tree.quantum) (members tree.classical) (flats_of tree);
  hidden = sum_by hidden_in (flats_of tree);
}

-- the tokens of the text make this tree
pub record IsTreeOf (text : List ℕ) (tree : Tree) : Type 0 where
  pub tokens : List Token
  pub lexed : tokens_of text ≡ Ok tokens
  pub parsed : HasTree text tokens tree

-- the flat count and the products of the text's tree are within their limits
pub record IsProgram (text : List ℕ) (tree : Tree) : Type 0 where
  pub made : IsTreeOf text tree
  pub within : passing tree ≡ None
