-- The laws that crates above cite.
use Rattle.qasm_lex.specs.Laws.{FormsOfKinds, GapsAndTokens, TokensOrFault}
use Rattle.qasm_lex.proofs.Splitting as splitting

pub gaps_and_tokens : GapsAndTokens
gaps_and_tokens = splitting.gaps_and_tokens

pub forms_of_kinds : FormsOfKinds
forms_of_kinds = splitting.forms_of_kinds

pub tokens_or_fault : TokensOrFault
tokens_or_fault = splitting.tokens_or_fault
