use Rattle.std.proofs.Common.{◌+◌, ◌^◌, ◌<◌, ℕ, List, length, arith, sym, subst}
use Rattle.std.proofs.lemmas.Option.{slice_get-get_or, slice_get_within}
use Rattle.patch_layout.specs.declared.layout.Site.TheVariants as site
use Rattle.patch_layout.proofs.Laws.{law_sides}
use Rattle.least_region.specs.inside.Growth.{HasRows, OnFree}
use Rattle.least_region.proofs.Rows.{table_rows, table_on_free, few_rows, rows_first, rows_next, twice_more}
use Rattle.least_region.proofs.table.add_side.Goals as goal

pub next_row-requires-clause-few : goal.next_row-requires-clause-few
next_row-requires-clause-few c = rw c.deref.ensures.value (omega (arith, few_rows c.args.place (length c.args.sides.now) c.requires.place c.requires.few, c.requires.count))

pub next_row-requires-clause-rows : goal.next_row-requires-clause-rows
next_row-requires-clause-rows c =
    let P : List (List ℕ) → Type 0 = λ r. HasRows r (length c.args.free.now) in
    subst P (sym c.deref.ensures.value) (table_rows c.args.layout.now c.args.free.now c.args.limit c.args.sides.now c.args.rows.now.items c.requires.free c.requires.table)

pub next_row-requires-clause-on_free : goal.next_row-requires-clause-on_free
next_row-requires-clause-on_free c =
    let P : List (List ℕ) → Type 0 = λ r. OnFree r c.args.free.now c.args.limit in
    subst P (sym c.deref.ensures.value) (table_on_free c.args.layout.now c.args.free.now c.args.limit c.args.sides.now c.args.rows.now.items c.requires.table)

pub next_row-requires-clause-starts : goal.next_row-requires-clause-starts
next_row-requires-clause-starts c d on =
    let a = law_sides c.args.layout.now _ d ((c.side-starts.ensures.value d).0 on) in
    let w = slice_get_within c.args.layout.now.sites d site.Ancilla a in
    omega (arith, c.requires.free)

pub rows-init : goal.rows-init
rows-init c =
    rows_first c.args.layout.now c.args.free.now c.args.limit c.args.sides.now c.args.place _ c.side-starts.result c.args.rows.now.items c.deref.result.now c.push.new.self.items c.in_ok-first.first c.requires.count
    (slice_get-get_or c.args.sides.now c.args.place _ c.requires.place)
    (λ d. (c.side-starts.ensures.value d).0) (λ d. (c.side-starts.ensures.value d).1) c.requires.table c.deref.ensures.value c.in_ok-first.ensures c.in_ok-push.ensures.items

pub next_row-requires-in-rows-clause-few : goal.next_row-requires-in-rows-clause-few
next_row-requires-in-rows-clause-few c =
    rw c.deref-in-rows.ensures.value (omega (arith, few_rows c.args.place (length c.args.sides.now) c.requires.place c.requires.few, twice_more c.args.place, c.rows.invariant.1))

pub next_row-requires-in-rows-clause-rows : goal.next_row-requires-in-rows-clause-rows
next_row-requires-in-rows-clause-rows c =
    let P : List (List ℕ) → Type 0 = λ r. HasRows r (length c.args.free.now) in
    subst P (sym c.deref-in-rows.ensures.value) (table_rows c.args.layout.now c.args.free.now c.args.limit c.args.sides.now c.rows.rows.items c.requires.free c.rows.invariant.2)

pub next_row-requires-in-rows-clause-on_free : goal.next_row-requires-in-rows-clause-on_free
next_row-requires-in-rows-clause-on_free c =
    let P : List (List ℕ) → Type 0 = λ r. OnFree r c.args.free.now c.args.limit in
    subst P (sym c.deref-in-rows.ensures.value) (table_on_free c.args.layout.now c.args.free.now c.args.limit c.args.sides.now c.rows.rows.items c.rows.invariant.2)

pub rows-preserved : goal.rows-preserved
rows-preserved c =
    let less : length c.rows.rows.items < 2 ^ (c.args.place + 1) = omega (arith, twice_more c.args.place, c.requires.count, c.rows.rows.ok.0, c.args.rows.now.ok.0) in
    rows_next c.args.layout.now c.args.free.now c.args.limit c.args.sides.now c.args.place c.rows.rows.items c.deref-in-rows.result.now c.push-in-rows.new.self.items c.in_ok-row.row c.rows.invariant less
    c.deref-in-rows.ensures.value c.in_ok-row.ensures c.in_ok-push-2.ensures.items
