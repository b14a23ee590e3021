use Rattle.std.proofs.Common.{◌≡◌, ◌∷◌, [], ◌++◌, List, ℕ, sym, subst, arith, append_assoc}
use Rattle.std.specs.Prelude.{flat_map}
use Rattle.patch_base.specs.Passes.{Passes}
use Rattle.schedule_text.specs.inside.Pens.{entry_text}
use Rattle.schedule_text.proofs.Pieces.{done_more, done_in}
use Rattle.patch_base.proofs.Passing.{passes_start, passes_then, began_rest, on_err}
use Rattle.schedule_text.proofs.write.put_entries.Goals as goal

pub loop-noted-init : goal.loop-noted-init
loop-noted-init g c = record {
  counts = omega arith;
  passes = ([], (cc, passes_start (g.O.Sink.taken c.args.out.now) c.args.pen.now));
}

pub loop-noted-preserved : goal.loop-noted-preserved
loop-noted-preserved g c =
    let (done, (all, passes)) = c.loop-noted.invariant.passes in
    let P : List ℕ → Type 0 = λ t. Passes (g.O.Sink.taken c.args.out.now) (g.O.Sink.taken c.put_entry.new.out) c.args.pen.now c.put_entry.new.pen t in
    let whole : (done ++ c.in-Some.noted.now ∷ []) ++ c.next.new.self ≡ c.args.history.now = cc (append_assoc done (c.in-Some.noted.now ∷ []) c.next.new.self, c.in-Some.ensures.steps, all) in
    record {
      counts = omega (arith, c.in_ok-put_entry.ensures.counts);
      passes = (done ++ c.in-Some.noted.now ∷ [], (whole, subst P (sym (done_more entry_text done c.in-Some.noted.now)) (passes_then passes c.in_ok-put_entry.ensures.ok)));
    }

pub returns-in_err-put_entry-clause-prefix : goal.returns-in_err-put_entry-clause-prefix
returns-in_err-put_entry-clause-prefix g c =
    let (done, (all, passes)) = c.loop-noted.invariant.passes in
    let whole : done ++ c.in-Some.noted.now ∷ c.next.new.self ≡ c.args.history.now = cc (c.in-Some.ensures.steps, all) in
    on_err _ c.from_residual.result (began_rest _ (entry_text c.in-Some.noted.now) (flat_map entry_text c.next.new.self) _ passes (done_in entry_text done c.next.new.self _ c.in-Some.noted.now whole) c.in_err-put_entry.ensures.prefix)
