-- Each text stands for a circuit or is refused.
use Rattle.std.proofs.Common.{◌≡◌, ◌⊎◌, ℕ, Bool, true, false, List, Option, Some, None, Ok, Err, refl, inl, inr}
use Rattle.source_model.specs.declared.Circuit.{Circuit}
use Rattle.qasm_lex.specs.declared.Token.{Token}
use Rattle.qasm_lex.specs.declared.fault.FaultKind.{FaultKind}
use Rattle.qasm_lex.specs.declared.fault.FaultKind.TheVariants.{TooMany}
use Rattle.qasm_lex.specs.declared.fault.CircuitFault.{CircuitFault}
use Rattle.qasm_lex.specs.declared.fault.CircuitFault.TheVariants as fault
use Rattle.qasm_lex.specs.Tokens.{tokens_of}
use Rattle.qasm_lex.proofs.Laws.{tokens_or_fault}
use Rattle.qasm_parse.specs.declared.tree.Tree.{Tree}
use Rattle.qasm_parse.specs.Pass.{HasTree, HasFault}
use Rattle.qasm_expand.specs.Limits.{passing}
use Rattle.product_list.specs.ListText.{list_circuit}
use Rattle.product_list.proofs.Laws.{list_or_fault}
use Rattle.rotation_list.specs.Items.{IsTreeOf, circuit_of}
use Rattle.rotation_list.specs.Laws.{CircuitOrFault}
use Rattle.qasm_parse.specs.Laws.{TreeOrFault}
use Rattle.rotation_list.specs.Texts.{IsFaulty, IsProgramOf, IsRefused, StandsFor, is_list}
use Rattle.rotation_list.specs.Texts.IsFaulty.{untokened, untreed, unbounded}

abbrev ProgramOrFault : List ℕ → Type 0
ProgramOrFault text = ((c : Circuit) × IsProgramOf text c) ⊎ ((line : ℕ) × (kind : FaultKind) × IsFaulty text line kind)

tree_answered : (text : List ℕ) (tree : Tree) → IsTreeOf text tree → ProgramOrFault text
tree_answered text tree made = by_limits (passing tree) refl
  where
    by_limits : (o : Option ℕ) → passing tree ≡ o → ProgramOrFault text
    by_limits None e = inl (circuit_of text tree, (tree, record { made = made; within = e }, refl))
    by_limits (Some line) e = inr (line, TooMany, unbounded tree line made e)

program_answered : TreeOrFault → (text : List ℕ) → ProgramOrFault text
program_answered trees text = by_tokens (tokens_or_fault text)
  where
    by_tree : (ts : List Token) → tokens_of text ≡ Ok ts → ((tree : Tree) × HasTree text ts tree) ⊎ ((line : ℕ) × (kind : FaultKind) × HasFault text ts line kind) → ProgramOrFault text
    by_tree ts e (inl (tree, h)) = tree_answered text tree (record { tokens = ts; lexed = e; parsed = h })
    by_tree ts e (inr (line, kind, h)) = inr (line, kind, untreed ts line kind e h)

    by_tokens : ((ts : List Token) × (tokens_of text ≡ Ok ts)) ⊎ ((line : ℕ) × (kind : FaultKind) × (tokens_of text ≡ Err (fault.At line kind))) → ProgramOrFault text
    by_tokens (inl (ts, e)) = by_tree ts e (trees text ts)
    by_tokens (inr (line, kind, e)) = inr (line, kind, untokened line kind e)

pub circuit_or_fault : TreeOrFault → CircuitOrFault
circuit_or_fault trees text = by_form (is_list text) refl
  where
    by_form : (b : Bool) → is_list text ≡ b → ((c : Circuit) × StandsFor text c) ⊎ ((f : CircuitFault) × IsRefused text f)
    by_form true d = of_list (list_or_fault text)
      where
        of_list : ((c : Circuit) × (list_circuit text ≡ Ok c)) ⊎ ((line : ℕ) × (kind : FaultKind) × (list_circuit text ≡ Err (fault.At line kind))) → ((c : Circuit) × StandsFor text c) ⊎ ((f : CircuitFault) × IsRefused text f)
        of_list (inl (c, e)) = inl (c, inl (d, e))
        of_list (inr (line, kind, e)) = inr (fault.At line kind, inl (d, e))
    by_form false d = of_program (program_answered trees text)
      where
        of_program : ProgramOrFault text → ((c : Circuit) × StandsFor text c) ⊎ ((f : CircuitFault) × IsRefused text f)
        of_program (inl (c, h)) = inl (c, inr (d, h))
        of_program (inr (line, kind, h)) = inr (fault.At line kind, inr (d, h))
