use Rattle.std.proofs.Common.{◌≡◌, map, List, [], ◌∷◌, ◌++◌, get_or, ◌+◌, max, fold, take, take_all, sym, ap, ◌∙◌, refl, arith}
use Rattle.std.specs.List.{flat_map}
use Rattle.std.proofs.lemmas.Result.{err_from_is_err_and}
use Rattle.qasm_grammar.specs.declared.spoken.BodyStatement.{BodyStatement}
use Rattle.qasm_parse.specs.Faults.{first_fault, body_faults}
use Rattle.qasm_parse.specs.Behind.{op_of, depth_of}
use Rattle.qasm_parse.proofs.First.{first_none, first_flat_more}
use Rattle.qasm_parse.proofs.Lists.{map_more, fold_more}
use Rattle.qasm_parse.proofs.Broken.{flat_meets}
use Rattle.qasm_parse.proofs.definitions.body_ops.Goals as goal

pub loop-statement-init : goal.loop-statement-init
loop-statement-init c = record { faultless = first_none; made = c.new-ops.ensures; deep = refl; shallow = omega arith }

pub returns-in_err-op-clause-value : goal.returns-in_err-op-clause-value
returns-in_err-op-clause-value c =
    let p = err_from_is_err_and c.from_residual.result c.from_residual.ensures.1 in
    let a = c.statement-item.result in
    rw (p.1, p.2)
    (flat_meets c.in_err-op.field-0.0 (body_faults c.args.source.now c.args.known.now c.args.names.now) c.args.body.now c.loop-statement.statement-index a
    (op_of c.args.source.now c.args.known.now c.args.names.now a, depth_of c.args.source.now c.args.known.now a) _ c.loop-statement-test.true c.loop-statement.invariant.faultless c.statement-item.is c.in_err-op.ensures.value)

pub loop-statement-preserved : goal.loop-statement-preserved
loop-statement-preserved c =
    let x = c.args.source.now in
    let k = c.args.known.now in
    let ns = c.args.names.now in
    let body = c.args.body.now in
    let i = c.loop-statement.statement-index in
    let a = c.statement-item.result in
    let v = c.in_ok-op.ensures.value in
    let deepened : fold max 0 (map (depth_of x k) (take (i + 1) body)) ≡ max (fold max 0 (map (depth_of x k) (take i body))) (depth_of x k (get_or body i a)) =
    ap (fold max 0) (map_more (depth_of x k) body i a c.loop-statement-test.true) ∙ fold_more max 0 (map (depth_of x k) (take i body)) (depth_of x k (get_or body i a)) in
    record {
      faultless = first_flat_more (body_faults x k ns) body i a c.loop-statement-test.true c.loop-statement.invariant.faultless (ap (λ (b : BodyStatement). first_fault (body_faults x k ns b)) (sym c.statement-item.is) ∙ v.0);
      made =
          c.in_ok-push.ensures.ok
          ∙ (λ j. c.loop-statement.invariant.made j ++ (v.1 j).0 ∷ [])
          ∙ ap (λ (b : BodyStatement). map (op_of x k ns) (take i body) ++ op_of x k ns b ∷ []) c.statement-item.is
          ∙ sym (map_more (op_of x k ns) body i a c.loop-statement-test.true);
      deep =
          c.greater-deepest.ensures.value
          ∙ (λ j. max (c.loop-statement.invariant.deep j) ((v.1 j).1))
          ∙ ap (λ (b : BodyStatement). max (fold max 0 (map (depth_of x k) (take i body))) (depth_of x k b)) c.statement-item.is
          ∙ sym deepened;
      shallow = c.greater-deepest.ensures.low c.loop-statement.invariant.shallow c.in_ok-op.ensures.shallow;
    }

pub returns-clause-value : goal.returns-clause-value
returns-clause-value c =
    let x = c.args.source.now in
    let k = c.args.known.now in
    let ns = c.args.names.now in
    let body = c.args.body.now in
    let all : take c.loop-statement.statement-index body ≡ body = take_all c.loop-statement.statement-index body c.loop-statement-test.false in
    let inv = c.loop-statement.invariant in
    let made : c.loop-statement.ops ≡ map (op_of x k ns) body = inv.made ∙ ap (map (op_of x k ns)) all in
    let deep : c.loop-statement.deepest ≡ fold max 0 (map (depth_of x k) body) = inv.deep ∙ ap (λ (bs : List BodyStatement). fold max 0 (map (depth_of x k) bs)) all in
    (ap (λ (bs : List BodyStatement). first_fault (flat_map (body_faults x k ns) bs)) (sym all) ∙ inv.faultless, λ j. (made j, deep j))
