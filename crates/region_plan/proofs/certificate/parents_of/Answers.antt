use Rattle.std.proofs.Common.{arith, get_or}
use Rattle.std.proofs.lemmas.Option.{slice_get_within, slice_get-get_or, get_or_from_slice_get}
use Rattle.std.proofs.Math.ListN.{length-set}
use Rattle.patch_layout.proofs.Trees.{named_more, place_of}
use Rattle.region_plan.proofs.certificate.parents_of.Goals as goal

pub bounds-places-reached : goal.bounds-places-reached
bounds-places-reached c =
    let er = slice_get-get_or c.args.tree.now c.loop-index.index (record { cell = 0; from = 0; steps = 0 }) c.loop-index-test.true in
    let p = place_of c.args.cells.now c.args.tree.now c.args.places.now c.requires.tree c.requires.places c.loop-index.index _ er in
    slice_get_within c.args.places.now _ p.0 p.2

pub bounds-places-base : goal.bounds-places-base
bounds-places-base c =
    let er = slice_get-get_or c.args.tree.now c.loop-index.index (record { cell = 0; from = 0; steps = 0 }) c.loop-index-test.true in
    let eb = slice_get-get_or c.args.tree.now _ (record { cell = 0; from = 0; steps = 0 }) (c.requires.tree.base c.loop-index.index _ er) in
    let p = place_of c.args.cells.now c.args.tree.now c.args.places.now c.requires.tree c.requires.places _ _ eb in
    slice_get_within c.args.places.now _ p.0 p.2

pub index_mut-requires : goal.index_mut-requires
index_mut-requires c =
    let er = slice_get-get_or c.args.tree.now c.loop-index.index (record { cell = 0; from = 0; steps = 0 }) c.loop-index-test.true in
    let p = place_of c.args.cells.now c.args.tree.now c.args.places.now c.requires.tree c.requires.places c.loop-index.index _ er in
    omega (arith, slice_get_within c.args.cells.now p.0 _ p.1, get_or_from_slice_get c.args.places.now _ p.0 0 p.2, c.loop-index.invariant.1, c.loop-index.parents.ok.0)

pub loop-index-preserved : goal.loop-index-preserved
loop-index-preserved c = (
  named_more c.args.cells.now c.args.tree.now c.args.places.now c.loop-index.parents.items c.loop-index.index (record { cell = 0; from = 0; steps = 0 })
      c.requires.tree c.requires.places c.loop-index.invariant.1 c.loop-index-test.true c.loop-index.invariant.0,
  (let e = length-set c.loop-index.parents.items (get_or c.args.places.now (get_or c.args.tree.now c.loop-index.index (record { cell = 0; from = 0; steps = 0 })).cell 0)
      (record { index = get_or c.args.places.now (get_or c.args.tree.now (get_or c.args.tree.now c.loop-index.index (record { cell = 0; from = 0; steps = 0 })).from (record { cell = 0; from = 0; steps = 0 })).cell 0; depth = (get_or c.args.tree.now c.loop-index.index (record { cell = 0; from = 0; steps = 0 })).steps }) in
      omega (arith, c.loop-index.invariant.1, e)),
)
