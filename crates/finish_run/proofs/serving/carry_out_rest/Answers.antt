-- The products before p are done.
use Rattle.std.proofs.Common.{None, List, length, slice_get, arith, sym, ap, ◌∙◌}
use Rattle.std.specs.Prelude.{replicate}
use Rattle.patch_layout.specs.Grid.{Grid}
use Rattle.source_model.specs.declared.Static.{Static}
use Rattle.finish_run.proofs.Onward.{goes_more, goes_none}
use Rattle.finish_run.proofs.Pending.{few_outcomes}
use Rattle.finish_run.proofs.Rest.{done_whole, new_made}
use Rattle.finish_run.proofs.serving.carry_out_rest.Goals as goal

pub overflow_cast-p-end : goal.overflow_cast-p-end
overflow_cast-p-end g c = let few = few_outcomes c.args.board.now c.args.given.now c.requires.legal c.requires.outcomes in omega (arith, few)

pub returns-in_err-carry_out-clause-goes : goal.returns-in_err-carry_out-clause-goes
returns-in_err-carry_out-clause-goes g c = goes_more g.P.Planner.meets c.args.given.now c.args.board.now c.loop-p.board c.carry_out.new.board c.loop-p.invariant.goes c.in_err-carry_out.ensures.goes

pub loop-p-preserved : goal.loop-p-preserved
loop-p-preserved g c = record {
  goes = goes_more g.P.Planner.meets c.args.given.now c.args.board.now c.loop-p.board c.carry_out.new.board c.loop-p.invariant.goes c.in_ok-carry_out.ensures.goes;
  legal = c.in_ok-carry_out.ensures.legal;
  made = c.in_ok-carry_out.ensures.made;
  idle = c.in_ok-carry_out.ensures.idle;
  below = c.in_ok-carry_out.ensures.below;
}

pub loop-p-init : goal.loop-p-init
loop-p-init g c = record {
  goes = goes_none g.P.Planner.meets c.args.given.now c.args.board.now;
  legal = c.requires.legal;
  made = new_made c.args.board.now c.in-Some.product.now c.in_ok-look.look c.len-qubits.result c.requires.legal
      (ap (λ (l : List Static). slice_get l 0) (sym c.products.ensures) ∙ sym c.in-Some.ensures.value)
      (c.in_ok-look.ensures.unheld ∙ ap (λ (k : Grid). replicate (length k.sites) None) c.layout.ensures)
      c.in_ok-look.ensures.identity c.len-qubits.ensures.value;
  idle = c.requires.idle;
  below = λ q l. absurd (omega (arith, l));
}

pub returns-clause-done : goal.returns-clause-done
returns-clause-done g c = done_whole c.args.board.now c.loop-p.board c.loop-p.p c.args.given.now c.requires.outcomes c.loop-p-test.false c.loop-p.invariant.below
