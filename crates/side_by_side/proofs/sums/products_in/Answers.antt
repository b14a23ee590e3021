use Rattle.std.proofs.Common.{rules, ◌≡◌, ◌∙◌}
use Rattle.std.specs.Prelude.{count_by}
use Rattle.source_model.specs.SourceRun.{is_product}
use Rattle.side_by_side.proofs.Summing.{counted}
use Rattle.side_by_side.proofs.sums.products_in.Goals as goal

pub returns-clause-value : goal.returns-clause-value
returns-clause-value c =
    let items = c.args.items.now in
    let count : c.count.result ≡ count_by is_product items = search rules in
    count ∙ counted items
