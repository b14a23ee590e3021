use Rattle.std.proofs.Common.{◌≡◌, ℕ, ◌<◌, ◌++◌, List, length, map, get_or, take, slice_index, refl, ap, sym, ◌∙◌, subst}
use Rattle.std.specs.List.{flat_map}
use Rattle.std.proofs.lemmas.List.{take_all, length-map}
use Rattle.std.proofs.lemmas.Option.{slice_get_read}
use Rattle.qasm_parse.specs.declared.tree.GateDef.{GateDef}
use Rattle.qasm_parse.specs.declared.tree.Callee.TheVariants.{Defined}
use Rattle.qasm_expand.specs.declared.flat.Flat.{Flat}
use Rattle.qasm_expand.specs.Flats.{Calls, called, calls_of, body_flats}
use Rattle.qasm_expand.specs.Sound.{IsCall}
use Rattle.qasm_expand.proofs.Calls.{rank, BodyCall, body_call, called-Defined, defined_within}
use Rattle.qasm_expand.proofs.push.+push_call.Goals as goal

pub push_call-requires : goal.push_call-requires
push_call-requires t c =
    let gates = c.args.gates.now in
    let number : ℕ = c.in-Defined.number in
    let n : ℕ = length c.args.qubits.now in
    let args : List ℕ = c.in-Call.formals in
    let i : ℕ = c.loop-op.op-index in
    let known : IsCall gates (Defined number) n = subst (λ g. IsCall gates g n) c.in-Defined.is c.requires.call in
    let body = c.index-gates-number.result.body in
    let items : c.as_slice-op-items.result.now ≡ body = c.as_slice-op-items.ensures ∙ ap (λ (d : GateDef). d.body) (sym c.index-gates-number.is) in
    let inside : i < length body = subst (λ xs. i < length xs) items c.loop-op-test.true in
    let item : c.op-item.result ≡ get_or body i c.op-item.result = c.op-item.is ∙ ap (λ xs. get_or xs i c.op-item.result) items in
    let b : BodyCall gates number n c.in-Call.gate args = body_call gates number n i c.index-gates-number.result c.op-item.result c.in-Call.gate args c.requires.sound known c.index-gates-number.is inside item c.in-Call.is in
    let chosen : c.deref.result.now ≡ map (slice_index c.args.qubits.now) c.as_slice.result.now = c.deref.ensures.value ∙ c.in_ok-put_actuals-in-Defined.ensures in
    let size : length c.deref.result.now ≡ length args = ap length chosen ∙ length-map c.as_slice.result.now (slice_index c.args.qubits.now) ∙ ap length c.as_slice.ensures in
    let lower : rank c.in-Call.gate < rank c.args.gate = subst (λ g. rank c.in-Call.gate < rank g) (sym c.in-Defined.is) b.lower in
    (subst (λ m. rank c.in-Call.gate < m) c.decreases lower, (c.requires.sound, subst (IsCall gates c.in-Call.gate) (sym size) b.call))

pub returns-after-loop-op : goal.returns-after-loop-op
returns-after-loop-op t c =
    let gates = c.args.gates.now in
    let number : ℕ = c.in-Defined.number in
    let qs : List ℕ = c.args.qubits.now in
    let known : IsCall gates (Defined number) (length qs) = subst (λ g. IsCall gates g (length qs)) c.in-Defined.is c.requires.call in
    let items = c.as_slice-op-items.result.now in
    let all : take c.loop-op.op-index items ≡ items = take_all c.loop-op.op-index items c.loop-op-test.false in
    let d = c.index-gates-number.result in
    let at = slice_get_read gates (length gates) number d refl (defined_within gates number (length qs) known) c.index-gates-number.is in
    let before : List Flat = c.args.flats.now.items in
    let calls : List Calls = calls_of gates in
    let made : flat_map (body_flats calls qs) (take c.loop-op.op-index items) ≡ called calls c.args.gate qs =
    ap (flat_map (body_flats calls qs)) (all ∙ c.as_slice-op-items.ensures ∙ ap (λ (e : GateDef). e.body) (sym c.index-gates-number.is))
    ∙ sym (called-Defined gates number d qs c.requires.sound at)
    ∙ ap (λ g. called calls g qs) (sym c.in-Defined.is) in
    c.loop-op.invariant ∙ ap (λ xs. before ++ xs) made
