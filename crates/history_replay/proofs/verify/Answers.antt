use Rattle.std.proofs.Common.{◌∙◌, ap, sym, length}
use Rattle.board_core.proofs.WholeRun.{table_length}
use Rattle.history_replay.specs.Replay.{asked}
use Rattle.history_replay.proofs.Verdicts.{exact_verdict, first_verdict}
use Rattle.history_replay.proofs.verify.Goals as goal

pub returns-clause-exact : goal.returns-clause-exact
returns-clause-exact c = λ v h is.
    let q = asked c.args.circuit.now c.args.board.job c.args.outcomes.now.given in
    exact_verdict q c.args.text.now c.in_ok-verdict.verdict c.law_text_tells_all.ensures c.law_legal_or_bad.ensures (table_length c.args.circuit.now.items c.args.outcomes.now.given c.requires.table ∙ ap length (sym c.requires.products)) c.requires.circuit.names_fit c.requires.circuit.firsts_run_on c.in_ok-verdict.ensures v h is

pub returns-clause-first : goal.returns-clause-first
returns-clause-first c = λ line bad.
    let q = asked c.args.circuit.now c.args.board.job c.args.outcomes.now.given in
    first_verdict q c.args.text.now c.in_ok-verdict.verdict c.law_one_first_bad.ensures c.law_legal_or_bad.ensures (table_length c.args.circuit.now.items c.args.outcomes.now.given c.requires.table ∙ ap length (sym c.requires.products)) c.requires.circuit.names_fit c.in_ok-verdict.ensures line bad
