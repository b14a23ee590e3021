-- What the passes over a program, and the reader of lists, answer of a text.
use Rattle.std.proofs.Common.{◌≡◌, ◌⊎◌, ℕ, true, false, List, Some, Result, Ok, Err, IfOk, IfErr, refl, sym, subst, inl, inr, slice_get}
use Rattle.source_model.specs.declared.Circuit.{Circuit}
use Rattle.qasm_lex.specs.declared.Token.{Token}
use Rattle.qasm_lex.specs.declared.fault.CircuitFault.{CircuitFault}
use Rattle.qasm_lex.specs.declared.fault.CircuitFault.TheVariants as fault
use Rattle.qasm_lex.specs.Tokens.{Fails, Gives, IsPlaced, tokens_of}
use Rattle.qasm_parse.specs.declared.tree.Tree.{Tree}
use Rattle.qasm_parse.specs.Pass.{Parses}
use Rattle.qasm_expand.specs.Limits.{passing, IsRefused as IsPast}
use Rattle.product_list.specs.ListText.{list_circuit}
use Rattle.rotation_list.specs.Items.{IsTreeOf}
use Rattle.rotation_list.specs.inside.Items.{HasNames}
use Rattle.rotation_list.specs.Texts.{IsFaulty, IsProgramOf, IsRefused, StandsFor, is_list}
use Rattle.rotation_list.specs.inside.Texts.{FaultOf}
use Rattle.rotation_list.specs.Texts.IsFaulty.{untokened, untreed, unbounded}
use Rattle.rotation_list.proofs.Named.{tree_named}

pub untokened_fault : (text : List ℕ) (f : CircuitFault) → Fails f (tokens_of text) → FaultOf text f
untokened_fault text fault.Memory h = tt
untokened_fault text (fault.At line kind) h = untokened line kind h

pub parsed_read : (text : List ℕ) (tokens : List Token) (r : Result Tree CircuitFault) → tokens_of text ≡ Ok tokens → Parses text tokens r → IfOk r (IsTreeOf text)
parsed_read text tokens (Ok tree) lexed h = record { tokens = tokens; lexed = lexed; parsed = h }
parsed_read text tokens (Err f) lexed h = tt

pub parsed_named : (text : List ℕ) (tokens : List Token) (r : Result Tree CircuitFault) → ((tokens : List Token) → tokens_of text ≡ Ok tokens → (k : ℕ) (t : Token) → slice_get tokens k ≡ Some t → IsPlaced text t) → tokens_of text ≡ Ok tokens → Parses text tokens r → IfOk r (HasNames text)
parsed_named text tokens (Ok tree) placed lexed h = tree_named text tree placed (record { tokens = tokens; lexed = lexed; parsed = h })
parsed_named text tokens (Err f) placed lexed h = tt

pub parsed_fault : (text : List ℕ) (tokens : List Token) (r : Result Tree CircuitFault) → tokens_of text ≡ Ok tokens → Parses text tokens r → IfErr r (FaultOf text)
parsed_fault text tokens (Ok tree) lexed h = tt
parsed_fault text tokens (Err fault.Memory) lexed h = tt
parsed_fault text tokens (Err (fault.At line kind)) lexed h = untreed tokens line kind lexed h

pub past_fault : (text : List ℕ) (tree : Tree) (f : CircuitFault) → IsTreeOf text tree → IsPast (passing tree) f → FaultOf text f
past_fault text tree fault.Memory made h = tt
past_fault text tree (fault.At line kind) made h = subst (IsFaulty text line) (sym h.1) (unbounded tree line made h.0)

-- a fault, or out of memory
abbrev Refusal : List ℕ → CircuitFault → Type 0
Refusal text f = (f ≡ fault.Memory) ⊎ IsRefused text f

pub list_stands : (text : List ℕ) (r : Result Circuit CircuitFault) → is_list text ≡ true → Gives (λ c. c) r (list_circuit text) → IfOk r (StandsFor text)
list_stands text (Ok c) e h = inl (e, h)
list_stands text (Err f) e h = tt

pub list_refused : (text : List ℕ) (r : Result Circuit CircuitFault) → is_list text ≡ true → Gives (λ c. c) r (list_circuit text) → IfErr r (Refusal text)
list_refused text (Ok c) e h = tt
list_refused text (Err fault.Memory) e h = inl refl
list_refused text (Err (fault.At line kind)) e h = inr (inl (e, h))

pub program_stands : (text : List ℕ) (r : Result Circuit CircuitFault) → is_list text ≡ false → IfOk r (IsProgramOf text) → IfOk r (StandsFor text)
program_stands text (Ok c) e h = inr (e, h)
program_stands text (Err f) e h = tt

pub program_refused : (text : List ℕ) (r : Result Circuit CircuitFault) → is_list text ≡ false → IfErr r (FaultOf text) → IfErr r (Refusal text)
program_refused text (Ok c) e h = tt
program_refused text (Err fault.Memory) e h = inl refl
program_refused text (Err (fault.At line kind)) e h = inr (inr (e, h))
