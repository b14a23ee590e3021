use Rattle.std.proofs.Common.{◌≡◌, ℕ, ◌+◌, ◌-◌, ◌*◌, ◌<◌, length, get_or, [], arith, subst, sym, true}
use Rattle.std.specs.Prelude.{bit_and}
use Rattle.std.proofs.lemmas.Option.{slice_get_within, slice_get-get_or}
use Rattle.std.proofs.Math.ListN.{length-set}
use Rattle.patch_layout.proofs.Places.{get_set_here, mark_kept}
use Rattle.least_region.specs.inside.Table.{Entry}
use Rattle.least_region.specs.inside.Growth.{HasRows}
use Rattle.least_region.proofs.Merging.{row_at}
use Rattle.least_region.proofs.Tracing.{traced_one, traced_grown, traced_united, entry_get, entry_few}
use Rattle.least_region.proofs.trace.+trace.Goals as goal

pub trace-requires : goal.trace-requires
trace-requires t c =
    let is = row_at c.args.rows.now c.args.subset c.index-rows-subset.result c.sizes-sizes.result.now c.requires.subset c.index-rows-subset.is c.sizes-sizes.ensures in
    let (w, v, adj, at'', at', lt) = c.in-Some.ensures in
    let ev = entry_get c.args.rows.now c.args.subset c.args.cell v (c.sizes-sizes.result.now, is, at') in
    let ew = entry_get c.args.rows.now c.args.subset c.in-Some.next w (c.sizes-sizes.result.now, is, at'') in
    let few = c.requires.few v (c.sizes-sizes.result.now, is, at') in
    let size = (c.requires.rows c.args.subset c.sizes-sizes.result.now is).0 in
    let low : c.in-Some.next < length c.args.layout.now.sites = omega (arith, slice_get_within c.sizes-sizes.result.now c.in-Some.next w at'') in
    let fall : get_or (get_or c.args.rows.now c.args.subset []) c.in-Some.next 0 + 2 * c.args.subset < t = omega (arith, c.decreases, ev, ew, lt) in (
      fall,
      (
        c.requires.subset,
        (
          low,
          (
            c.requires.rows,
            (
              omega (arith, length-set c.args.marks.now c.in-Some.next true, c.requires.marks),
              (get_set_here c.args.marks.now c.in-Some.next true (omega (arith, c.requires.marks)), entry_few c.args.rows.now c.args.subset c.in-Some.next w 4096 (c.sizes-sizes.result.now, is, at'') (omega arith)),
            ),
          ),
        ),
      ),
    )

pub returns-in-Some-clause-traced : goal.returns-in-Some-clause-traced
returns-in-Some-clause-traced t c free limit sides table few =
    let is = row_at c.args.rows.now c.args.subset c.index-rows-subset.result c.sizes-sizes.result.now c.requires.subset c.index-rows-subset.is c.sizes-sizes.ensures in
    let (w, v, adj, at'', at', lt) = c.in-Some.ensures in
    let size = (c.requires.rows c.args.subset c.sizes-sizes.result.now is).0 in
    let v-few = few v (c.sizes-sizes.result.now, is, at') in
    traced_grown c.args.layout.now free limit sides c.args.rows.now c.args.subset c.args.cell c.in-Some.next v w c.sizes-sizes.result.now c.args.marks.now c.trace.new.marks table is at' at'' lt v-few adj c.requires.marked
    (omega (arith, slice_get_within c.sizes-sizes.result.now c.in-Some.next w at'', c.requires.marks))
    (c.trace.ensures.traced free limit sides table (entry_few c.args.rows.now c.args.subset c.in-Some.next w limit (c.sizes-sizes.result.now, is, at'') (omega arith)))

pub part_at-requires-clause-rows : goal.part_at-requires-clause-rows
part_at-requires-clause-rows t c = let P : ℕ → Type 0 = λ n. HasRows c.args.rows.now n in subst P (sym c.size-cells.ensures.value) c.requires.rows

pub part_at-requires-clause-size : goal.part_at-requires-clause-size
part_at-requires-clause-size t c =
    let is = row_at c.args.rows.now c.args.subset c.index-rows-subset.result c.sizes-sizes.result.now c.requires.subset c.index-rows-subset.is c.sizes-sizes.ensures in
    let size = (c.requires.rows c.args.subset c.sizes-sizes.result.now is).0 in
    c.requires.few _ (c.sizes-sizes.result.now, is, slice_get-get_or c.sizes-sizes.result.now c.args.cell 0 (omega (arith, c.requires.cell)))

pub trace-requires-in-Some-part_at : goal.trace-requires-in-Some-part_at
trace-requires-in-Some-part_at t c =
    let is = row_at c.args.rows.now c.args.subset c.index-rows-subset.result c.sizes-sizes.result.now c.requires.subset c.index-rows-subset.is c.sizes-sizes.ensures in
    let size = (c.requires.rows c.args.subset c.sizes-sizes.result.now is).0 in
    let at' = slice_get-get_or c.sizes-sizes.result.now c.args.cell 0 (omega (arith, c.requires.cell)) in
    let few = c.requires.few _ (c.sizes-sizes.result.now, is, at') in
    let ev = entry_get c.args.rows.now c.args.subset c.args.cell _ (c.sizes-sizes.result.now, is, at') in
    let (b, sum, some-a, some-b, (apart, (x, y, ex, ey, le))) = c.in-Some-part_at.ensures in
    let ex' = entry_get c.args.rows.now c.in-Some-part_at.one c.args.cell x ex in
    let (rb, ib, ab) = ey in
    let pos-y = (c.requires.rows b rb ib).1 c.args.cell y ab in
    let fall : get_or (get_or c.args.rows.now c.in-Some-part_at.one []) c.args.cell 0 + 2 * c.in-Some-part_at.one < t = omega (arith, c.decreases, ev, ex', pos-y, le, sum, some-b) in
    (fall, (omega (arith, c.requires.subset), (c.requires.cell, (c.requires.rows, (c.requires.marks, (c.requires.marked, entry_few c.args.rows.now c.in-Some-part_at.one c.args.cell x 4096 ex (omega arith)))))))

pub trace-requires-in-Some-part_at-2 : goal.trace-requires-in-Some-part_at-2
trace-requires-in-Some-part_at-2 t c =
    let is = row_at c.args.rows.now c.args.subset c.index-rows-subset.result c.sizes-sizes.result.now c.requires.subset c.index-rows-subset.is c.sizes-sizes.ensures in
    let size = (c.requires.rows c.args.subset c.sizes-sizes.result.now is).0 in
    let at' = slice_get-get_or c.sizes-sizes.result.now c.args.cell 0 (omega (arith, c.requires.cell)) in
    let few = c.requires.few _ (c.sizes-sizes.result.now, is, at') in
    let ev = entry_get c.args.rows.now c.args.subset c.args.cell _ (c.sizes-sizes.result.now, is, at') in
    let (b, sum, some-a, some-b, (apart, (x, y, ex, ey, le))) = c.in-Some-part_at.ensures in
    let rest : b ≡ c.args.subset - c.in-Some-part_at.one = omega arith in
    let ey' : Entry c.args.rows.now (c.args.subset - c.in-Some-part_at.one) c.args.cell y = subst (λ (n : ℕ). Entry c.args.rows.now n c.args.cell y) rest ey in
    let eg = entry_get c.args.rows.now (c.args.subset - c.in-Some-part_at.one) c.args.cell y ey' in
    let (ra, ia, aa) = ex in
    let pos-x = (c.requires.rows c.in-Some-part_at.one ra ia).1 c.args.cell x aa in
    let fall : get_or (get_or c.args.rows.now (c.args.subset - c.in-Some-part_at.one) []) c.args.cell 0 + 2 * (c.args.subset - c.in-Some-part_at.one) < t = omega (arith, c.decreases, ev, eg, pos-x, le, sum, some-a) in
    (fall, (omega (arith, c.requires.subset), (c.requires.cell, (c.requires.rows, (omega (arith, c.requires.marks, c.trace-in-Some-part_at.auto.marks), (c.trace-in-Some-part_at.ensures.kept c.args.cell c.requires.marked, entry_few c.args.rows.now (c.args.subset - c.in-Some-part_at.one) c.args.cell y 4096 ey' (omega arith)))))))

pub returns-in-Some-part_at-clause-traced : goal.returns-in-Some-part_at-clause-traced
returns-in-Some-part_at-clause-traced t c free limit sides table few =
    let is = row_at c.args.rows.now c.args.subset c.index-rows-subset.result c.sizes-sizes.result.now c.requires.subset c.index-rows-subset.is c.sizes-sizes.ensures in
    let size = (c.requires.rows c.args.subset c.sizes-sizes.result.now is).0 in
    let at' = slice_get-get_or c.sizes-sizes.result.now c.args.cell 0 (omega (arith, c.requires.cell)) in
    let v-few = few _ (c.sizes-sizes.result.now, is, at') in
    let (b, sum, some-a, some-b, (apart, (x, y, ex, ey, le))) = c.in-Some-part_at.ensures in
    let rest : b ≡ c.args.subset - c.in-Some-part_at.one = omega arith in
    let ey' : Entry c.args.rows.now (c.args.subset - c.in-Some-part_at.one) c.args.cell y = subst (λ (n : ℕ). Entry c.args.rows.now n c.args.cell y) rest ey in
    let (ra, ia, aa) = ex in
    let pos-x = (c.requires.rows c.in-Some-part_at.one ra ia).1 c.args.cell x aa in
    let (rb, ib, ab) = ey in
    let pos-y = (c.requires.rows b rb ib).1 c.args.cell y ab in
    traced_united c.args.layout.now free limit sides c.args.rows.now c.args.subset c.args.cell _ c.in-Some-part_at.one (c.args.subset - c.in-Some-part_at.one) x y c.args.marks.now c.trace-in-Some-part_at.new.marks c.trace-in-Some-part_at-2.new.marks table
    (c.sizes-sizes.result.now, is, at') (omega (arith, sum), subst (λ (n : ℕ). bit_and c.in-Some-part_at.one n ≡ 0) rest apart) ex ey' le
    (c.trace-in-Some-part_at.ensures.traced free limit sides table (entry_few c.args.rows.now c.in-Some-part_at.one c.args.cell x limit ex (omega arith)))
    (c.trace-in-Some-part_at-2.ensures.traced free limit sides table (entry_few c.args.rows.now (c.args.subset - c.in-Some-part_at.one) c.args.cell y limit ey' (omega arith)))

pub returns-in_default-part_at-clause-traced : goal.returns-in_default-part_at-clause-traced
returns-in_default-part_at-clause-traced t c free limit sides table few =
    let is = row_at c.args.rows.now c.args.subset c.index-rows-subset.result c.sizes-sizes.result.now c.requires.subset c.index-rows-subset.is c.sizes-sizes.ensures in
    let size = (c.requires.rows c.args.subset c.sizes-sizes.result.now is).0 in
    let at' = slice_get-get_or c.sizes-sizes.result.now c.args.cell 0 (omega (arith, c.requires.cell)) in
    traced_one c.args.layout.now free limit sides c.args.rows.now c.args.subset c.args.cell _ c.sizes-sizes.result.now c.args.marks.now table is at' (few _ (c.sizes-sizes.result.now, is, at')) c.requires.marked
    c.in_default.ensures c.in_default-part_at.ensures

pub returns-in-Some-clause-kept : goal.returns-in-Some-clause-kept
returns-in-Some-clause-kept t c x h = c.trace.ensures.kept x (mark_kept c.args.marks.now c.in-Some.next x h)
