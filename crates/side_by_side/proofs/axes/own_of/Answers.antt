use Rattle.std.proofs.Common.{◌≡◌, ◌-◌, ◌≤◌, List, drop, length, map, take, ap, ◌∙◌, arith}
use Rattle.std.specs.Prelude.{slice_get, Some}
use Rattle.std.proofs.lemmas.List.Elements.{All-drop, All-take}
use Rattle.std.proofs.lemmas.Result.{IfOk-weaker}
use Rattle.pauli_product.specs.Signed.{Signed}
use Rattle.source_model.specs.declared.Circuit.{Circuit}
use Rattle.side_by_side.specs.Joined.{IsJoinOf, bits_of, products_in, products_of, qubits_of}
use Rattle.side_by_side.specs.Programs.{own_part, share_of}
use Rattle.side_by_side.proofs.Shares.{all_products, get_within}
use Rattle.side_by_side.proofs.Sharing.{bounds, share_is}
use Rattle.side_by_side.proofs.axes.own_of.Goals as goal

pub slice_bounds-own-end : goal.slice_bounds-own-end
slice_bounds-own-end c =
    let (cs, j, low) = c.requires.joined in
    let one = get_within cs c.args.program low in
    let b = bounds cs c.args.program one.0 c.start_of-first.result c.start_of-next.result one.1 (c.start_of-first.ensures cs j) (c.start_of-next.ensures cs j) in
    let total : length c.args.all.now ≡ products_of cs = c.requires.count ∙ (ap (λ (x : Circuit). products_in x.items) j.circuit ∙ all_products 0 0 (bits_of cs) cs) in
    let h : c.start_of-next.result.product ≤ length c.args.all.now = omega (arith, total, b.last_product) in
    h

pub own_parts-requires-clause-within : goal.own_parts-requires-clause-within
own_parts-requires-clause-within c k d l =
    let (cs, j, low) = c.requires.joined in
    let first = c.start_of-first.result in
    let next = c.start_of-next.result in
    let one = get_within cs c.args.program low in
    let b = bounds cs c.args.program one.0 first next one.1 (c.start_of-first.ensures cs j) (c.start_of-next.ensures cs j) in
    let P : Signed → Type 0 = λ axis. length axis.letters ≡ c.args.joined.now.circuit.qubits in
    let long = All-take P (next.product - first.product) (drop first.product c.args.all.now) (All-drop P first.product c.args.all.now c.requires.long) k d l in
    omega (arith, long, ap (λ (x : Circuit). x.qubits) j.circuit, b.last_qubit, b.qubits)

pub returns : goal.returns
returns c =
    IfOk-weaker c.own_parts.result
    _ (λ axes. (cs : List Circuit) → (x : Circuit) → IsJoinOf cs c.args.joined.now → slice_get cs c.args.program ≡ Some x → axes.items ≡ map (own_part (qubits_of (take c.args.program cs)) x.qubits) (share_of cs c.args.program x c.args.all.now))
    (λ axes made cs x j e. made ∙ share_is cs c.args.program x c.start_of-first.result c.start_of-next.result c.args.all.now e (c.start_of-first.ensures cs j) (c.start_of-next.ensures cs j))
    c.own_parts.ensures
