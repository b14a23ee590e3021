use Rattle.std.proofs.Common.{◌≡◌, List, length, map, take, ap, ap₂, sym, ◌∙◌, arith, subst}
use Rattle.std.specs.Prelude.{All, slice_get, Some}
use Rattle.std.proofs.lemmas.List.Elements.{All-nil}
use Rattle.std.proofs.lemmas.Result.{IfOk-weaker}
use Rattle.pauli_product.specs.Signed.{Signed, OfLength}
use Rattle.pauli_product.specs.Pulls.{Turn}
use Rattle.source_model.specs.declared.Circuit.{Circuit}
use Rattle.source_model.specs.SourceRun.{axes, fresh}
use Rattle.source_model.specs.Circuits.{RightKinds, WellFormed}
use Rattle.side_by_side.specs.Joined.{bits_of, products_in, qubits_of}
use Rattle.side_by_side.specs.Programs.{IsCarriedOut, Program, axes_alone, axes_joined, circuits, joined_outcomes, own_part, share_of}
use Rattle.side_by_side.proofs.JoinedCircuit.{joined_is_well_formed}
use Rattle.side_by_side.proofs.Registers.{program_at}
use Rattle.side_by_side.proofs.Shares.{all_products, length_axes}
use Rattle.side_by_side.proofs.Sharing.{axes_long, joined_are, joined_right}
use Rattle.side_by_side.proofs.axes.axes_of.Goals as goal

pub axes_plain-requires-clause-right_kinds : goal.axes_plain-requires-clause-right_kinds
axes_plain-requires-clause-right_kinds c =
    let (ps, carried, small) = c.requires in
    let joined = c.args.joined.now in
    let known : c.in_ok-given.given.items ≡ joined_outcomes ps = c.in_ok-given.ensures (joined_outcomes ps) (joined_are joined c.args.board.now ps carried) carried.complete in
    subst (RightKinds joined.circuit.items) (sym (c.deref.ensures.value ∙ known)) (joined_right joined c.args.board.now ps carried)

pub own_of-requires-clause-count : goal.own_of-requires-clause-count
own_of-requires-clause-count c = ap length (c.deref-2.ensures.value ∙ c.in_ok-all.ensures) ∙ sym (length_axes fresh c.args.joined.now.circuit.items c.deref.result.now)

pub own_of-requires-clause-few : goal.own_of-requires-clause-few
own_of-requires-clause-few c =
    let (ps, carried, small) = c.requires in
    let cs = circuits ps in
    let count : length c.deref-2.result.now ≡ products_in c.args.joined.now.circuit.items = ap length (c.deref-2.ensures.value ∙ c.in_ok-all.ensures) ∙ sym (length_axes fresh c.args.joined.now.circuit.items c.deref.result.now) in
    omega (arith, count, ap (λ (x : Circuit). products_in x.items) carried.joined.circuit, all_products 0 0 (bits_of cs) cs, carried.joined.within.products)

pub own_of-requires-clause-long : goal.own_of-requires-clause-long
own_of-requires-clause-long c =
    let (ps, carried, small) = c.requires in
    let joined = c.args.joined.now in
    let j = carried.joined in
    let formed : WellFormed joined.circuit = subst WellFormed (sym j.circuit) (joined_is_well_formed (circuits ps) j.few j.each j.within) in
    let n = joined.circuit.qubits in
    subst (λ (as' : List Signed). All (OfLength n) as') (sym (c.deref-2.ensures.value ∙ c.in_ok-all.ensures))
    (axes_long n fresh joined.circuit.items c.deref.result.now formed.axes_fit (All-nil (λ (t : Turn). OfLength n t.axis)))

pub returns : goal.returns
returns c =
    let joined = c.args.joined.now in
    let board = c.args.board.now in
    let i = c.args.program in
    IfOk-weaker c.own_of.result
    _ (λ found. (ps : List Program) → (p : Program) → IsCarriedOut joined board ps → slice_get ps i ≡ Some p → found.items ≡ axes_alone p)
    (λ found made ps p carried e.
    let known : c.in_ok-given.given.items ≡ joined_outcomes ps = c.in_ok-given.ensures (joined_outcomes ps) (joined_are joined board ps carried) carried.complete in
    let whole : c.deref-2.result.now ≡ axes_joined ps =
    c.deref-2.ensures.value ∙ c.in_ok-all.ensures ∙ ap₂ axes (ap (λ (x : Circuit). x.items) carried.joined.circuit) (c.deref.ensures.value ∙ known) in
    made (circuits ps) p.circuit carried.joined (program_at ps i p e)
    ∙ ap (λ (as' : List Signed). map (own_part (qubits_of (take i (circuits ps))) p.circuit.qubits) (share_of (circuits ps) i p.circuit as')) whole
    ∙ c.law_alone.ensures.own_axes ps i p carried.each e)
    c.own_of.ensures
