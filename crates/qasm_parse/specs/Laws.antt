-- What the laws of texts say.
use Rattle.std.specs.Prelude.{ℕ, List, ◌⊎◌}
use Rattle.qasm_lex.specs.declared.Token.{Token}
use Rattle.qasm_lex.specs.declared.fault.FaultKind.{FaultKind}
use Rattle.qasm_parse.specs.declared.tree.Tree.{Tree}
use Rattle.qasm_parse.specs.Pass.{HasTree, HasFault}

-- each text with its tokens has a tree or a fault
abbrev pub TreeOrFault : Type 0
TreeOrFault =
    (text : List ℕ) (tokens : List Token)
    → ((tree : Tree) × HasTree text tokens tree) ⊎ ((line : ℕ) × (kind : FaultKind) × HasFault text tokens line kind)
