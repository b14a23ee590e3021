-- What circuits have that texts stand for, and what their printed lists stand for.
use Rattle.std.proofs.Common.{◌≡◌, ℕ, true, List, slice_get, Some, Ok, All, refl, sym, subst, inl, inr, ap}
use Rattle.qasm_lex.specs.declared.Token.{Token}
use Rattle.qasm_lex.specs.Tokens.{IsPlaced, tokens_of}
use Rattle.qasm_parse.specs.declared.tree.Tree.{Tree}
use Rattle.qasm_parse.specs.Pass.{HasTree}
use Rattle.qasm_expand.specs.Flats.{flats_of}
use Rattle.qasm_expand.specs.Placed.{IsPlaced as ActsWithin}
use Rattle.qasm_expand.specs.Sound.{IsSound, members}
use Rattle.source_model.specs.declared.Circuit.{Circuit}
use Rattle.source_model.specs.Laws.{StaticsStay}
use Rattle.source_model.specs.Statics.{statics}
use Rattle.rotation_list.specs.Items.{IsProgram, circuit_of}
use Rattle.product_list.specs.Printed.{header_text, line_text, list_text}
use Rattle.rotation_list.specs.Laws.{PrintedAgain, PrintedStands}
use Rattle.product_list.specs.Listable.{IsListable, lowered, static_circuit}
use Rattle.product_list.proofs.Laws.{printed_read, read_listable}
use Rattle.rotation_list.specs.Texts.{StandsFor, is_list}
use Rattle.rotation_list.proofs.Named.{tree_named}
use Rattle.rotation_list.proofs.Programs.{program_few, program_formed, program_lettered}
use Rattle.rotation_list.proofs.SmallValues.{program_small}
use Rattle.rotation_list.proofs.Telling.{tree_tells}

-- the laws of the crates below
pub record LawsBelow : Type 0 where
  pub placed : (text : List ℕ) (tokens : List Token) → tokens_of text ≡ Ok tokens → (k : ℕ) (t : Token) → slice_get tokens k ≡ Some t → IsPlaced text t
  pub sound : (text : List ℕ) (tokens : List Token) (tree : Tree) → HasTree text tokens tree → IsSound tree
  pub acting : (tree : Tree) → IsSound tree → All (ActsWithin tree) (flats_of tree)

program_listable : (text : List ℕ) (tree : Tree) → LawsBelow → IsProgram text tree → IsListable (circuit_of text tree)
unfolding circuit_of
program_listable text tree laws program =
    let made = program.made in
    let sound = laws.sound text made.tokens tree made.parsed in
    let acting = laws.acting tree sound in
    let tells = tree_tells text tree (laws.placed text) made in
    record {
      formed = program_formed text tree sound acting (tree_named text tree (laws.placed text) made);
      few = program_few text tree acting program.within;
      lettered = program_lettered text tree sound acting;
      declared = tells.declared;
      small = program_small tree (members tree.quantum) (members tree.classical) tells.small;
    }

listable : (text : List ℕ) (c : Circuit) → LawsBelow → StandsFor text c → IsListable c
listable text c laws (inl (begins, h)) = read_listable text c h
listable text c laws (inr (begins, h)) = subst IsListable (sym h.2) (program_listable text h.0 laws h.1)

printed_is_list : (c : Circuit) → is_list (lowered c) ≡ true
unfolding list_text header_text line_text
printed_is_list c = refl

pub printed_stands : LawsBelow → PrintedStands
printed_stands laws text c h short = inl (printed_is_list c, printed_read c (listable text c laws h) short)

pub printed_again : StaticsStay → PrintedAgain
unfolding list_text
printed_again stay c = ap (list_text (static_circuit c)) (stay (statics c.items))
