-- The proofs of the laws, each under its law's own name.
use Rattle.std.specs.Prelude.{◌≡◌, ℕ, List}
use Rattle.qasm_lex.specs.declared.Token.{Token}
use Rattle.qasm_lex.specs.declared.fault.FaultKind.{FaultKind}
use Rattle.qasm_parse.specs.declared.tree.Tree.{Tree}
use Rattle.qasm_parse.specs.Laws.{TreeOrFault}
use Rattle.qasm_parse.specs.Pass.{HasTree, HasFault}
use Rattle.qasm_parse.proofs.Answered as answered
use Rattle.qasm_parse.proofs.OneTree.{one_tree, tree_or_fault, one_fault}

pub law_answer : TreeOrFault
law_answer = answered.tree_or_fault

pub law_one_tree : (text : List ℕ) (tokens : List Token) (t u : Tree) → HasTree text tokens t → HasTree text tokens u → t ≡ u
law_one_tree = one_tree

pub law_tree_or_fault : (text : List ℕ) (tokens : List Token) (tree : Tree) (line : ℕ) (kind : FaultKind) → HasTree text tokens tree → HasFault text tokens line kind → ⊥
law_tree_or_fault = tree_or_fault

pub law_one_fault : (text : List ℕ) (tokens : List Token) (line other : ℕ) (kind another : FaultKind) → HasFault text tokens line kind → HasFault text tokens other another → (line ≡ other) × (kind ≡ another)
law_one_fault = one_fault
