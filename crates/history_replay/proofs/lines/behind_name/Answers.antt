use Rattle.std.proofs.Common.{◌≡◌, ◌++◌, sym, ◌∙◌, append_assoc}
use Rattle.std.specs.Prelude.{codes}
use Rattle.std.proofs.lemmas.List.{append_cancel_left}
use Rattle.history_replay.proofs.lines.behind_name.Goals as goal

pub returns-in_default-behind-2 : goal.returns-in_default-behind-2
returns-in_default-behind-2 c word e =
    let name = c.args.name.now in
    let whole : codes "bits " ++ c.in-Some.named.now ≡ codes "bits " ++ (name ++ (codes " " ++ word)) =
    sym c.in-Some.ensures ∙ (e ∙ (append_assoc (codes "bits " ++ name) (codes " ") word ∙ append_assoc (codes "bits ") name (codes " " ++ word))) in
    let named = append_cancel_left (codes "bits ") c.in-Some.named.now (name ++ (codes " " ++ word)) whole in
    let spaced = append_cancel_left name c.in-Some-behind.spaced.now (codes " " ++ word) (sym c.in-Some-behind.ensures ∙ named) in
    c.in_default-behind-2.ensures word spaced
