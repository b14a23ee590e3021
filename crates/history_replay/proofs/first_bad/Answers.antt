use Rattle.std.proofs.Common.{List, subst}
use Rattle.source_model.specs.declared.Given.{Given}
use Rattle.schedule_text.specs.Lines.{version_of}
use Rattle.history_replay.specs.declared.enter.Entered.{Entered}
use Rattle.history_replay.specs.declared.enter.Entered.TheVariants.{Bad, UpTo}
use Rattle.history_replay.specs.Replay.{asked}
use Rattle.history_replay.specs.inside.Joining.{IsEntered}
use Rattle.history_replay.proofs.Verdicts.{bad_header}
use Rattle.history_replay.proofs.Replayed.{entered_bad, closed_bad, closed_legal}
use Rattle.history_replay.proofs.first_bad.Goals as goal

pub returns-in_default-clause-bad : goal.returns-in_default-clause-bad
returns-in_default-clause-bad c =
    bad_header (asked c.args.circuit.now c.args.board.now.job c.args.outcomes.now.given) c.args.text.now c.in_default.ensures.other

pub returns-in-Bad-clause-bad : goal.returns-in-Bad-clause-bad
returns-in-Bad-clause-bad c =
    let was = c.args.board.now in
    let now = c.enter_all.new.board in
    let text = c.args.text.now in
    let header = c.in-Some.header in
    let P : Entered → Type 0 = λ e. IsEntered c.as_slice-table.result.now (version_of header.version) text header.next was now e in
    let Q : List Given → Type 0 = λ t. IsEntered t (version_of header.version) text header.next was now (Bad c.in-Bad.line) in
    let entered = subst Q c.as_slice-table.ensures (subst P c.in-Bad.is c.in_ok-line.ensures) in
    entered_bad c.args.circuit.now c.args.outcomes.now.given was now text header.version header.next c.in-Bad.line c.requires.circuit.names_fit c.in-Some.ensures.found entered

pub returns-in-UpTo-clause-bad : goal.returns-in-UpTo-clause-bad
returns-in-UpTo-clause-bad c =
    let was = c.args.board.now in
    let now = c.enter_all.new.board in
    let text = c.args.text.now in
    let header = c.in-Some.header in
    let P : Entered → Type 0 = λ e. IsEntered c.as_slice-table.result.now (version_of header.version) text header.next was now e in
    let Q : List Given → Type 0 = λ t. IsEntered t (version_of header.version) text header.next was now (UpTo c.in-UpTo.at) in
    let entered = subst Q c.as_slice-table.ensures (subst P c.in-UpTo.is c.in_ok-line.ensures) in
    closed_bad c.args.circuit.now c.args.outcomes.now.given was now text header.version header.next c.in-UpTo.at c.close.result c.requires.circuit.names_fit c.requires.table c.in-Some.ensures.found entered c.close.ensures

pub returns-in-UpTo-clause-legal : goal.returns-in-UpTo-clause-legal
returns-in-UpTo-clause-legal c =
    let was = c.args.board.now in
    let now = c.enter_all.new.board in
    let text = c.args.text.now in
    let header = c.in-Some.header in
    let P : Entered → Type 0 = λ e. IsEntered c.as_slice-table.result.now (version_of header.version) text header.next was now e in
    let Q : List Given → Type 0 = λ t. IsEntered t (version_of header.version) text header.next was now (UpTo c.in-UpTo.at) in
    let entered = subst Q c.as_slice-table.ensures (subst P c.in-UpTo.is c.in_ok-line.ensures) in
    closed_legal c.args.circuit.now c.args.outcomes.now.given was now text header.version header.next c.in-UpTo.at c.close.result c.requires.table c.in-Some.ensures.found entered c.close.ensures
