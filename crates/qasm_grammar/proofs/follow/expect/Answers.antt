use Rattle.std.proofs.Common.{◌+◌, List, drop, sym, ap, ◌∙◌, arith}
use Rattle.qasm_grammar.specs.declared.terminal.Terminal.{Terminal}
use Rattle.qasm_grammar.specs.Forms.{reads}
use Rattle.qasm_grammar.specs.inside.Forms.{tokens_then}
use Rattle.qasm_grammar.proofs.Steps.{one_stops, at_one_goes, tokens_live, next_of, next_within}
use Rattle.qasm_grammar.proofs.Spelled.{fixed_push, next_stands}
use Rattle.std.proofs.Common.{get_or}
use Rattle.qasm_grammar.specs.declared.terminal.Terminal.TheVariants.{Openqasm}
use Rattle.qasm_grammar.proofs.follow.expect.Goals as goal

pub returns-then-not-is_next-clause-form : goal.returns-then-not-is_next-clause-form
returns-then-not-is_next-clause-form c = λ k r.
    let w = c.args.wanted.now in
    c.loop-next.invariant.form k r
    ∙ ap (λ (ss : List Terminal). reads (tokens_then ss k) (drop c.loop-next.end c.args.found.now) c.loop-next.end) (next_of w c.loop-next.next-index Openqasm c.loop-next-test.true)
    ∙ one_stops (get_or w c.loop-next.next-index Openqasm) _ _ _ (sym c.if-not-is_next.ensures)

pub loop-next-preserved : goal.loop-next-preserved
loop-next-preserved c =
    let w = c.args.wanted.now in
    let next = get_or w c.loop-next.next-index Openqasm in
    record {
      end_is = omega arith;
      inside = next_within c.args.found.now c.loop-next.end next (sym c.if-not-is_next.ensures);
      spelled = fixed_push w c.loop-next.next-index Openqasm c.args.found.now c.args.at c.loop-next.end c.loop-next-test.true c.loop-next.invariant.spelled (next_stands c.args.found.now c.loop-next.end next (sym c.if-not-is_next.ensures));
      form = λ k r.
          c.loop-next.invariant.form k r
          ∙ ap (λ (ss : List Terminal). reads (tokens_then ss k) (drop c.loop-next.end c.args.found.now) c.loop-next.end) (next_of w c.loop-next.next-index Openqasm c.loop-next-test.true)
          ∙ at_one_goes c.args.found.now c.loop-next.end next (tokens_then (drop (c.loop-next.next-index + 1) w) k) (tokens_live (drop (c.loop-next.next-index + 1) w) k r) (sym c.if-not-is_next.ensures);
    }
