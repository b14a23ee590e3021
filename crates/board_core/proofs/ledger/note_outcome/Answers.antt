use Rattle.std.proofs.Common.{length, subst}
use Rattle.source_model.specs.declared.Kind.{Kind}
use Rattle.board_core.specs.inside.Books.{NamesBelow}
use Rattle.board_core.proofs.Delivering.{rotation_done, measure_done, settle_done}
use Rattle.board_core.proofs.ledger.note_outcome.Goals as goal

pub returns-in-Rotation-Rotation : goal.returns-in-Rotation-Rotation
returns-in-Rotation-Rotation c j h k d is =
    let s = c.in-Rotation-Rotation in
    rotation_done j h c.args.p c.args.place c.args.product.now c.args.given s.raw s.x _ c.rotate.new.self k d s.is-0 s.is-1 is c.rotate.ensures

pub returns-in-Measure-Measure : goal.returns-in-Measure-Measure
returns-in-Measure-Measure c j h k d is =
    let s = c.in-Measure-Measure in
    measure_done j h c.args.p c.args.place s.bit c.args.product.now c.args.given s.raw _ c.measure.new.self k d s.is-0 s.is-1 is c.measure.ensures

pub returns-in-Settle-Settled : goal.returns-in-Settle-Settled
returns-in-Settle-Settled c j h k d is =
    let s = c.in-Settle-Settled in
    settle_done j h c.args.p c.args.place s.first s.size s.value c.flips-flip.result c.args.product.now c.args.given c.args.ledger.now c.settle.new.self k d s.is-0 s.is-1
    (subst (λ (y : Kind). NamesBelow (length c.args.ledger.now.bits) y) s.is-0 c.requires.bits) c.flips-flip.ensures is c.settle.ensures
