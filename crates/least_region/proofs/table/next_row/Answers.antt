use Rattle.std.proofs.Common.{◌≡◌, ℕ, List, length, arith, sym, subst, ◌∙◌}
use Rattle.patch_layout.specs.Spread.{OnGoal}
use Rattle.patch_layout.proofs.Trees.{written_back}
use Rattle.least_region.specs.inside.Table.{LeastRow}
use Rattle.least_region.proofs.table.next_row.Goals as goal

pub returns : goal.returns
returns c =
    let size : length c.fill_row.new.row ≡ c.in_ok-sizes.sizes.len = omega (arith, c.fill_row.auto.row, c.deref_mut.ensures.len, c.deref_mut.ensures.value) in
    let e : c.of.result ≡ c.fill_row.new.row = c.of.ensures ∙ written_back c.fill_row.new.row c.in_ok-sizes.sizes.items c.in_ok-sizes.sizes.len size in
    let P : List ℕ → Type 0 = λ r. LeastRow c.args.layout.now c.args.free.now c.args.limit (OnGoal c.args.starts.now) c.args.rows.now (length c.args.rows.now) r in
    subst P (sym e) c.in_ok-fill_row.ensures
