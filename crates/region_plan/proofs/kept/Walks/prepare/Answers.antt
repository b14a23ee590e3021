use Rattle.std.proofs.Common.{Bool, List, subst}
use Rattle.region_plan.specs.inside.Kept.{Like}
use Rattle.region_plan.proofs.Keeping.{all_kept, like_of}
use Rattle.region_plan.proofs.kept.Walks.prepare.Goals as goal
use Rattle.region_plan.proofs.kept.Walks.prepare.Goals.{then-not-is_like+in_ok-self-inside, else-not-is_like}

pub invariant_of-self-in_err-add_walks : goal.invariant_of-self-in_err-add_walks
invariant_of-self-in_err-add_walks c =
    let like : Like c.args.layout.now c.if-not-is_like.self-inside.columns c.if-not-is_like.self-inside.ancilla.items =
    elim c.if-not-is_like.branch [
      | then-not-is_like+in_ok-self-inside w ↦ rw w.self-inside-is (like_of c.args.layout.now _ _ w.columns-self-inside.ensures.value w.in_ok-self-inside.ensures)
      | else-not-is_like w ↦
          let P : List Bool → Type 0 = λ a. Like c.args.layout.now c.self.inside.columns a in
          rw w.self-inside-is (subst P c.deref.ensures.value (c.is_like.ensures w.if-not-is_like.false))
    ] in
    all_kept c.args.layout.now c.args.held.now c.if-not-is_like.self-inside.columns c.if-not-is_like.self-inside.ancilla.items c.add_walks.new.walks.items like (c.requires.held, c.is_any_held.ensures c.if-is_any_held.false) c.add_walks.ensures

pub invariant_of-self-in_err-add_ports : goal.invariant_of-self-in_err-add_ports
invariant_of-self-in_err-add_ports c =
    let like : Like c.args.layout.now c.if-not-is_like.self-inside.columns c.if-not-is_like.self-inside.ancilla.items =
    elim c.if-not-is_like.branch [
      | then-not-is_like+in_ok-self-inside w ↦ rw w.self-inside-is (like_of c.args.layout.now _ _ w.columns-self-inside.ensures.value w.in_ok-self-inside.ensures)
      | else-not-is_like w ↦
          let P : List Bool → Type 0 = λ a. Like c.args.layout.now c.self.inside.columns a in
          rw w.self-inside-is (subst P c.deref.ensures.value (c.is_like.ensures w.if-not-is_like.false))
    ] in
    all_kept c.args.layout.now c.args.held.now c.if-not-is_like.self-inside.columns c.if-not-is_like.self-inside.ancilla.items c.add_ports.new.walks.items like (c.requires.held, c.is_any_held.ensures c.if-is_any_held.false) c.add_ports.ensures

pub invariant_of-self-2 : goal.invariant_of-self-2
invariant_of-self-2 c =
    let like : Like c.args.layout.now c.if-not-is_like.self-inside.columns c.if-not-is_like.self-inside.ancilla.items =
    elim c.if-not-is_like.branch [
      | then-not-is_like+in_ok-self-inside w ↦ rw w.self-inside-is (like_of c.args.layout.now _ _ w.columns-self-inside.ensures.value w.in_ok-self-inside.ensures)
      | else-not-is_like w ↦
          let P : List Bool → Type 0 = λ a. Like c.args.layout.now c.self.inside.columns a in
          rw w.self-inside-is (subst P c.deref.ensures.value (c.is_like.ensures w.if-not-is_like.false))
    ] in
    all_kept c.args.layout.now c.args.held.now c.if-not-is_like.self-inside.columns c.if-not-is_like.self-inside.ancilla.items c.add_ports.new.walks.items like (c.requires.held, c.is_any_held.ensures c.if-is_any_held.false) c.add_ports.ensures
