use Rattle.qasm_lex.proofs.Laws.{forms_of_kinds, gaps_and_tokens}
use Rattle.qasm_lex.proofs.law.law_tokens.Goals as goal

pub returns : goal.returns
returns c = record { turns = gaps_and_tokens; forms = forms_of_kinds }
