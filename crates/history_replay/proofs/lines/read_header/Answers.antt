use Rattle.std.proofs.Common.{◌≡◌, ◌++◌, ◌∷◌, List, ℕ, sym, ◌∙◌}
use Rattle.std.proofs.lemmas.Bool.{true≢false}
use Rattle.schedule_text.specs.Text.{Version, one, two, header_line}
use Rattle.history_replay.proofs.Feeds.{line_cut}
use Rattle.history_replay.proofs.Ending.{header_one_line}
use Rattle.history_replay.proofs.lines.read_header.Goals as goal

pub returns-clause-other : goal.returns-clause-other
returns-clause-other c = other
  where
    names : (v : Version) (rest : List ℕ) → c.args.text.now ≡ header_line v ++ 10 ∷ rest → c.in-Some.first.line.now ≡ header_line v
    names v rest e =
        let r = line_cut c.args.text.now c.in-Some.first.line.now _ (header_line v) rest c.in-Some.ensures.found.one_line (header_one_line v) c.in-Some.ensures.found.text_is e in r.0

    other : (v : Version) (rest : List ℕ) → c.args.text.now ≡ header_line v ++ 10 ∷ rest → ⊥
    other one rest e = true≢false (sym (c.is_same.ensures.1 (names one rest e)) ∙ c.if-is_same.false)
    other two rest e = true≢false (sym (c.is_same-2.ensures.1 (names two rest e)) ∙ c.if-is_same-2.false)
