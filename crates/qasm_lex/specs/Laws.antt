-- Laws of tokens.
use Rattle.std.specs.Prelude.{◌≡◌, ◌⊎◌, ℕ, List, slice_get, slice_range, Some, Ok, Err}
use Rattle.qasm_lex.specs.declared.Token.{Token}
use Rattle.qasm_lex.specs.declared.fault.FaultKind.{FaultKind}
use Rattle.qasm_lex.specs.declared.fault.CircuitFault.TheVariants.{At}
use Rattle.qasm_lex.specs.Forms.{AreTokens, IsToken}
use Rattle.qasm_lex.specs.Tokens.{tokens_of}

-- a text that has tokens is gaps and these tokens in turn, the longest one at each place
abbrev pub GapsAndTokens : Type 0
GapsAndTokens = (text : List ℕ) (ts : List Token) → tokens_of text ≡ Ok ts → AreTokens 0 1 text ts

-- the bytes of each token have the form of its kind
abbrev pub FormsOfKinds : Type 0
FormsOfKinds = (text : List ℕ) (ts : List Token) → tokens_of text ≡ Ok ts →
    (k : ℕ) (t : Token) → slice_get ts k ≡ Some t → IsToken t.kind (slice_range text t.start t.end)

-- each text has tokens, or a fault at a line
abbrev pub TokensOrFault : Type 0
TokensOrFault = (text : List ℕ) →
    ((ts : List Token) × (tokens_of text ≡ Ok ts))
    ⊎ ((line : ℕ) × (kind : FaultKind) × (tokens_of text ≡ Err (At line kind)))
