use Rattle.std.proofs.Common.{ap, ◌∙◌, sym, ◌||◌, ◌++◌, arith}
use Rattle.std.specs.Prelude.{slice_get, None}
use Rattle.slice_write.specs.Slices.{is_among, is_port}
use Rattle.slice_write.proofs.Among.{or_false, or_assoc}
use Rattle.slice_write.proofs.Sites.{holds_below, below_none, below_skip, below_more, port_found, no_port_there, all_sites, port_there}
use Rattle.slice_write.proofs.cells.held_cells.Goals as goal
use Rattle.slice_write.proofs.cells.held_cells.Goals.{then-not-is_identity+in_ok-put, else-not-is_identity}

pub loop-q-init : goal.loop-q-init
loop-q-init c = λ x.
    ap (λ l. is_among l x) (c.in_ok-extend_from_slice.ensures.items ∙ ap (λ l. l ++ c.args.region.now) c.clear.ensures.items)
    ∙ sym (ap (λ b. is_among c.args.region.now x || b) (below_none c.args.axis.now (slice_get c.args.layout.now.sites x)) ∙ or_false (is_among c.args.region.now x))

pub loop-q-preserved : goal.loop-q-preserved
loop-q-preserved c = λ x.
    let site = slice_get c.args.layout.now.sites x in
    elim c.if-not-is_identity.branch [
      | then-not-is_identity+in_ok-put w ↦
          ap (λ v. is_among v.items x) w.into-is ∙ w.in_ok-put.ensures x
          ∙ ap (λ b. b || is_port w.patch.result x) (c.loop-q.invariant x)
          ∙ sym (or_assoc (is_among c.args.region.now x) (holds_below c.args.axis.now c.loop-q.q site) (is_port w.patch.result x))
          ∙ ap (λ b. is_among c.args.region.now x || b) (below_more c.args.layout.now c.args.axis.now c.loop-q.q x c.letter.result w.patch.result c.letter.ensures (sym c.is_identity.ensures ∙ w.if-not-is_identity.true) w.patch.ensures)
      | else-not-is_identity w ↦
          ap (λ v. is_among v.items x) w.into-is ∙ c.loop-q.invariant x
          ∙ ap (λ b. is_among c.args.region.now x || b) (sym (below_skip c.args.axis.now c.loop-q.q c.letter.result site c.letter.ensures (sym c.is_identity.ensures ∙ w.if-not-is_identity.false)))
    ]

pub returns-in_ok-put-2 : goal.returns-in_ok-put-2
returns-in_ok-put-2 c = λ x.
    let site = slice_get c.args.layout.now.sites x in
    c.in_ok-put-2.ensures x
    ∙ ap (λ b. b || is_port c.port.result x) (c.loop-q.invariant x)
    ∙ all_sites c.args.layout.now c.args.axis.now c.args.port c.args.region.now c.loop-q.q x c.port.result (omega (arith, c.len-q-end.ensures.value, c.loop-q.auto.q-end, c.loop-q-test.false)) (port_found c.args.layout.now c.in-Some.factory x c.port.result c.port.ensures ∙ ap (λ o. port_there o site) (sym c.in-Some.is))

pub returns-in_default : goal.returns-in_default
returns-in_default c = λ x.
    let site = slice_get c.args.layout.now.sites x in
    c.loop-q.invariant x
    ∙ sym (or_false (is_among c.args.region.now x || holds_below c.args.axis.now c.loop-q.q site))
    ∙ all_sites c.args.layout.now c.args.axis.now c.args.port c.args.region.now c.loop-q.q x None (omega (arith, c.len-q-end.ensures.value, c.loop-q.auto.q-end, c.loop-q-test.false)) (sym (ap (λ o. port_there o site) c.in_default.is ∙ no_port_there site))
