-- Tokens that stand in a text of bounded length.
use Rattle.std.specs.Prelude.{◌≡◌, ◌≤◌, length, ℕ, List, slice_get, Some}
use Rattle.qasm_lex.specs.declared.Token.{Token}
use Rattle.qasm_lex.specs.Tokens.{IsPlaced}

-- the tokens stand in the text, which has at most 4 MiB
pub record AllPlaced (text : List ℕ) (tokens : List Token) : Type 0 where
  pub short : length text ≤ 4194304
  pub placed : (k : ℕ) (t : Token) → slice_get tokens k ≡ Some t → IsPlaced text t
