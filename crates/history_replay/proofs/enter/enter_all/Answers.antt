use Rattle.std.proofs.Common.{◌∙◌, ap, sym, subst, drop, List, ℕ}
use Rattle.std.specs.Prelude.{Option, IfSome}
use Rattle.std.proofs.lemmas.Option.{none-some}
use Rattle.board_core.specs.declared.Noted.{Noted}
use Rattle.board_core.specs.Legal.{BoardJob, Allowed}
use Rattle.board_core.specs.Position.{Position, past}
use Rattle.schedule_text.specs.Lines.{IsEntryLine, version_of}
use Rattle.history_replay.specs.inside.Joining.{BeginsEntry}
use Rattle.history_replay.proofs.Feeds.{line_cut}
use Rattle.history_replay.proofs.Ending.{entry_one_line}
use Rattle.history_replay.proofs.Joined.{begins_more}
use Rattle.history_replay.proofs.enter.enter_all.Goals as goal

pub returns-in_default-2 : goal.returns-in_default-2
returns-in_default-2 c = (c.loop-ended.invariant.begins, c.loop-ended.invariant.job, c.loop-ended.invariant.at, λ n next. none n next)
  where
    none : (n : Noted) → BeginsEntry (version_of c.args.version) (drop c.loop-ended.at c.args.text.now) n → ⊥
    none n (line, rest, e, is) =
        let found = c.in-Some.ensures.found in
        let cut = line_cut (drop c.loop-ended.at c.args.text.now) c.in-Some.ended.line.now (drop c.in-Some.ended.next c.args.text.now) line rest found.one_line (entry_one_line (version_of c.args.version) line n is) found.text_is e in
        let P : List ℕ → Type 0 = λ l. IsEntryLine (version_of c.args.version) l n in
        none-some n (sym c.in_default-2.is ∙ c.in_ok-noted.ensures.exact n (subst P (sym cut.0) is))

pub loop-ended-preserved : goal.loop-ended-preserved
loop-ended-preserved c =
    let v = version_of c.args.version in
    let b = c.loop-ended.board in
    let inv = c.loop-ended.invariant in
    let n = c.in-Some-2.noted in
    let found = c.in-Some.ensures.found in
    let joins = c.in_ok-enter.ensures.joined c.if-not-branch.false in
    let P : Option Noted → Type 0 = λ f. IfSome f (IsEntryLine v c.in-Some.ended.line.now) in
    let Q : BoardJob → Type 0 = λ j. Allowed j (past b) n.entry in
    record {
      begins = begins_more c.args.board.now.job c.args.table.now v (drop c.args.start c.args.text.now) (drop c.loop-ended.at c.args.text.now) (drop c.in-Some.ended.next c.args.text.now) c.in-Some.ended.line.now b.history c.enter.new.board.history n inv.begins found.text_is (subst P c.in-Some-2.is c.in_ok-noted.ensures.found) (subst Q inv.job joins.0.0) joins.0.1 (ap (λ (x : Position). x.history) joins.1);
      job = ap (λ (x : Position). x.job) joins.1 ∙ inv.job;
      at = found.within;
    }
