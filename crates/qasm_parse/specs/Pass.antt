-- The second pass over a text: the version, and then its statements in order.
use Rattle.std.specs.Prelude.{◌≡◌, ◌<◌, ℕ, Bool, false, List, length, map, drop, Option, Some, None, Result, Ok, Err}
use Rattle.qasm_lex.specs.declared.Token.{Token}
use Rattle.qasm_lex.specs.declared.fault.CircuitFault.{CircuitFault}
use Rattle.qasm_lex.specs.declared.fault.CircuitFault.TheVariants as circuits
use Rattle.qasm_lex.specs.declared.fault.FaultKind.{FaultKind}
use Rattle.qasm_parse.specs.declared.stop.Stop.{Stop}
use Rattle.qasm_grammar.specs.declared.spoken.Sentence.{Sentence}
use Rattle.qasm_grammar.specs.declared.terminal.Terminal.{Terminal}
use Rattle.qasm_parse.specs.declared.known.Known.{Known}
use Rattle.qasm_parse.specs.declared.tree.Tree.{Tree}
use Rattle.qasm_parse.specs.Words.{terminal_of, line_at}
use Rattle.qasm_grammar.specs.Forms.{reads}
use Rattle.qasm_grammar.specs.Grammar.{one_version, one_statement}
use Rattle.qasm_grammar.specs.Spelling.{Spells, sentence_text}
use Rattle.qasm_parse.specs.Lexed.{Lexed}
use Rattle.qasm_parse.specs.Refused.{told}
use Rattle.qasm_parse.specs.Known.{nothing_known}
use Rattle.qasm_parse.specs.Faults.{faults, first_fault}
use Rattle.qasm_parse.specs.Behind.{behind}

-- what the grammar sees of a text, before the include or after it
abbrev pub terminals : Lexed → Bool → List Terminal
terminals x included = map (terminal_of included x.text) x.tokens

-- the first fault, or what is known where there is none
abbrev pub unless : Option Stop → Known → Result Known Stop
unless (Some stop) k = Err stop
unless None k = Ok k

-- a statement that begins at a place is tried
abbrev pub tried : Lexed → Known → ℕ → Sentence → Result Known Stop
tried x k at s = unless (first_fault (faults x k at s)) (behind x k at s)

-- a statement begins at a place, and its tokens are refused
abbrev pub Refuses : Lexed → Known → ℕ → Stop → Type 0
Refuses x k at stop = (at < length x.tokens) × (told (reads one_statement (drop at (terminals x k.included)) at) ≡ Err stop)

-- what reading on from a place gives, with what is known there: all that the statements make known, or the first fault
pub data Continues (x : Lexed) : Known → ℕ → Result Known Stop → Type 0 where
  ends : (k : Known) → Continues x k (length x.tokens) (Ok k)
  stops : (k : Known) (at : ℕ) (stop : Stop) → Refuses x k at stop → Continues x k at (Err stop)
  breaks : (k : Known) (at end : ℕ) (s : Sentence) (stop : Stop) → reads one_statement (drop at (terminals x k.included)) at ≡ Ok end → Spells (sentence_text s) (terminals x k.included) at end → tried x k at s ≡ Err stop → Continues x k at (Err stop)
  goes_on : (k next : Known) (at end : ℕ) (s : Sentence) (r : Result Known Stop) → reads one_statement (drop at (terminals x k.included)) at ≡ Ok end → Spells (sentence_text s) (terminals x k.included) at end → tried x k at s ≡ Ok next → Continues x next end r → Continues x k at r

-- after the version the statements are read, with nothing known
abbrev pub Behind : Lexed → Result ℕ Stop → Result Known Stop → Type 0
Behind x (Err stop) r = r ≡ Err stop
Behind x (Ok at) r = Continues x nothing_known at r

-- what reading a text from its tokens gives
abbrev pub Reading : Lexed → Result Known Stop → Type 0
Reading x r = Behind x (told (reads one_version (terminals x false) 0)) r

-- the tree of a text, or its fault with the line of the token, or of the end, at which it is refused
pub record HasTree (text : List ℕ) (tokens : List Token) (tree : Tree) : Type 0 where
  pub known : Known
  pub reading : Reading (record { text = text; tokens = tokens }) (Ok known)
  pub same : known.tree ≡ tree

pub record HasFault (text : List ℕ) (tokens : List Token) (line : ℕ) (kind : FaultKind) : Type 0 where
  pub stop : Stop
  pub reading : Reading (record { text = text; tokens = tokens }) (Err stop)
  pub same_line : line ≡ line_at text tokens stop.at
  pub same_kind : kind ≡ stop.kind

abbrev pub Parses : List ℕ → List Token → Result Tree CircuitFault → Type 0
Parses text tokens (Ok tree) = HasTree text tokens tree
Parses text tokens (Err circuits.Memory) = Unit {0}
Parses text tokens (Err (circuits.At line kind)) = HasFault text tokens line kind
