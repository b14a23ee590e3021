use Rattle.std.proofs.Common.{◌≡◌, ◌+◌, ◌<◌, ◌++◌, ◌∷◌, [], length, drop, replicate, false, get_or, Some, None, arith, ap, sym, subst, ◌∙◌}
use Rattle.std.proofs.lemmas.List.{length-replicate}
use Rattle.source_model.specs.declared.Given.{Given}
use Rattle.source_model.specs.Circuits.{bits_in}
use Rattle.source_model.specs.inside.Kept.{Keeps, Carries, product_axis}
use Rattle.source_model.specs.SourceRun.{next_of, after}
use Rattle.source_model.proofs.Keeping.{keeps_fresh}
use Rattle.source_model.proofs.Playing.{reached_start, reached_product, reached_clifford}
use Rattle.source_model.proofs.plain.play.Goals as goal
use Rattle.source_model.proofs.plain.play.Goals.{in-Some+in_ok-push, in_default}

pub loop-item-init : goal.loop-item-init
loop-item-init c =
    let circuit = c.args.circuit.now in
    let bits = c.in_ok-vec.field-0.items in
    let cleared : bits ≡ replicate (c.register_bits.result + circuit.hidden) false = c.in_ok-vec.ensures.items_if_clones_equal (λ y e. e) in
    record {
      reached = reached_start circuit.qubits circuit.items c.args.given.now c.new-axes.result.items c.new.result.items bits c.new-axes.ensures.items (keeps_fresh (c.register_bits.result + circuit.hidden) c.new.result.items bits c.new.ensures.items cleared);
      count = ap length cleared ∙ length-replicate (c.register_bits.result + circuit.hidden) false ∙ ap (λ n. n + circuit.hidden) (c.register_bits.ensures.value ∙ ap bits_in c.as_slice.ensures);
      few = omega arith;
    }

pub loop-item-preserved : goal.loop-item-preserved
loop-item-preserved c =
    let circuit = c.args.circuit.now in
    let items = circuit.items in
    let gs = c.args.given.now in
    let run = c.loop-item.run in
    let new = c.carry_out.new.self in
    let k = c.loop-item.item-index in
    let next = c.loop-item.next in
    let found = c.loop-item.axes.items in
    let i = c.item-item.result in
    let before = c.loop-item.invariant in
    let within : k < length items = omega (arith, ap length c.as_slice-item-items.ensures) in
    let same : i ≡ get_or items k i = c.item-item.is ∙ ap (λ is. get_or is k i) c.as_slice-item-items.ensures in
    let carries : Carries i (next_of (drop next gs)) run.turns.items run.bits.items new.turns.items new.bits.items =
    λ f kept. subst (λ (g : Given). Keeps (after f i g) new.turns.items new.bits.items) c.outcome_at-outcome.ensures (c.in_ok-axis.ensures.state f kept) in
    let count = c.in_ok-axis.ensures.count ∙ before.count in
    elim c.match-branch-3.branch [
      | in-Some+in_ok-push w ↦
          let a = w.in-Some.axis in
          let product : Some a ≡ product_axis run.turns.items i = sym w.in-Some.is ∙ c.in_ok-axis.ensures.axis in
          let longer : c.match-branch-3.axes.items ≡ found ++ a ∷ [] = ap (λ v. v.items) w.axes-is ∙ w.in_ok-push.ensures.items in
          record {
            reached = rw (longer, w.next-is) (reached_product circuit.qubits items gs found run.turns.items run.bits.items k next i a new.turns.items new.bits.items c.requires.axes_fit within same product carries before.reached);
            count = count;
            few = omega (arith, w.next-is, before.few);
          }
      | in_default w ↦
          let none : None ≡ product_axis run.turns.items i = sym w.in_default.is ∙ c.in_ok-axis.ensures.axis in
          record {
            reached = rw (ap (λ v. v.items) w.axes-is, w.next-is) (reached_clifford circuit.qubits items gs found run.turns.items run.bits.items k next i new.turns.items new.bits.items c.requires.axes_fit within same none carries before.reached);
            count = count;
            few = omega (arith, w.next-is, before.few);
          }
    ]
