use Rattle.std.proofs.Common.{◌≡◌, ℕ, ◌+◌, List, [], ◌∷◌, ◌++◌, length, map, fold, max, sym, ap, ◌∙◌, arith}
use Rattle.std.specs.List.{flat_map}
use Rattle.std.proofs.lemmas.Result.{err_from_is_err_and}
use Rattle.qasm_parse.specs.declared.tree.Callee.TheVariants.{Defined}
use Rattle.qasm_parse.specs.declared.known.Meaning.TheVariants.{Gate}
use Rattle.qasm_parse.specs.Lexed.{word_at}
use Rattle.qasm_parse.specs.Known.{with_name}
use Rattle.qasm_parse.specs.Faults.{first_fault, head_faults, body_faults}
use Rattle.qasm_parse.specs.Behind.{with_gate, op_of, depth_of}
use Rattle.qasm_parse.proofs.First.{first_behind}
use Rattle.qasm_parse.proofs.Broken.{meets_front, meets_behind, meets_same}
use Rattle.qasm_parse.proofs.Made.{declared_gate}
use Rattle.qasm_parse.proofs.definitions.define.Goals as goal

pub returns-in_err-names : goal.returns-in_err-names
returns-in_err-names c =
    let x = c.args.source.now in
    let k = c.args.known in
    let p = err_from_is_err_and c.from_residual.result c.from_residual.ensures.1 in
    rw (p.1, p.2) (meets_front c.in_err-names.field-0.0 (head_faults x k c.args.at c.args.name c.args.formals.now) _ (map (word_at x) c.args.formals.now) (with_gate x k c.args.name c.args.formals.now c.args.body.now) c.in_err-names.ensures.value)

pub returns-in_err-ops : goal.returns-in_err-ops
returns-in_err-ops c =
    let x = c.args.source.now in
    let k = c.args.known in
    let ns = map (word_at x) c.args.formals.now in
    let v = with_gate x k c.args.name c.args.formals.now c.args.body.now in
    let p = err_from_is_err_and c.from_residual-in_err-ops.result c.from_residual-in_err-ops.ensures.1 in
    rw (p.1, p.2)
    (meets_behind c.in_err-ops.field-0.0 (head_faults x k c.args.at c.args.name c.args.formals.now) (flat_map (body_faults x k ns) c.args.body.now) v v c.in_ok-names.ensures.value.0
    (meets_same c.in_err-ops.field-0.0 (flat_map (body_faults x k c.in_ok-names.names) c.args.body.now) (flat_map (body_faults x k ns) c.args.body.now) _ v
    (ap (λ (ms : List (List ℕ)). first_fault (flat_map (body_faults x k ms) c.args.body.now)) (sym c.in_ok-names.ensures.value.1)) c.in_err-ops.ensures.value))

pub returns : goal.returns
returns c =
    let x = c.args.source.now in
    let k = c.args.known in
    let body = c.args.body.now in
    let ns = map (word_at x) c.args.formals.now in
    let names : c.in_ok-names.names ≡ ns = c.in_ok-names.ensures.value.1 in
    let ops : c.in_ok-ops.ops ≡ map (op_of x k ns) body = (λ i. (c.in_ok-ops.ensures.value.1 i).0) ∙ ap (λ (ms : List (List ℕ)). map (op_of x k ms) body) names in
    let deepest : c.in_ok-ops.deepest ≡ fold max 0 (map (depth_of x k) body) = (λ i. (c.in_ok-ops.ensures.value.1 i).1) in
    let depth : c.in_ok-ops.deepest + 1 ≡ 1 + fold max 0 (map (depth_of x k) body) = omega (arith, deepest) in
    let number : length c.as_slice.result.now ≡ length k.tree.gates = ap length c.as_slice.ensures in
    let named : c.declare.new.self ≡ with_name k (word_at x c.args.name) (Gate (record { gate = Defined (length k.tree.gates); arity = length c.args.formals.now; depth = 1 + fold max 0 (map (depth_of x k) body) })) =
    c.in_ok-declare.ensures ∙ (λ i. with_name k (c.word.ensures i) (Gate (record { gate = Defined (number i); arity = length c.args.formals.now; depth = depth i }))) in
    let pushed : c.push.new.self ≡ k.tree.gates ++ record { formals = length c.args.formals.now; body = map (op_of x k ns) body } ∷ [] =
    c.in_ok-push.ensures.ok ∙ (λ i. (named i).tree.gates ++ record { formals = length c.args.formals.now; body = ops i } ∷ []) in (
      first_behind (head_faults x k c.args.at c.args.name c.args.formals.now) (flat_map (body_faults x k ns) body) c.in_ok-names.ensures.value.0
          ∙ ap (λ (ms : List (List ℕ)). first_fault (flat_map (body_faults x k ms) body)) (sym names)
          ∙ c.in_ok-ops.ensures.value.0,
      λ i. declared_gate (named i) (pushed i),
    )
