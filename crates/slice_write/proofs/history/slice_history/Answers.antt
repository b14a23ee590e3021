use Rattle.std.proofs.Common.{◌≡◌, ◌<◌, ◌^◌, ◌∷◌, [], ◌++◌, List, length, sym, arith, append_assoc, append-nil, ◌∙◌, ap}
use Rattle.board_core.specs.declared.Noted.{Noted}
use Rattle.board_core.specs.History.{entries}
use Rattle.slice_write.specs.Slices.{sliced, slices_of}
use Rattle.slice_write.specs.inside.Tables.{job}
use Rattle.slice_write.proofs.Starting.{awaits_next, fits_next, keeps_next, slices_next, keeps_start, slices_start}
use Rattle.slice_write.proofs.history.slice_history.Goals as goal

pub loop-noted-init : goal.loop-noted-init
loop-noted-init c =
    let j = job c.args.products.now c.args.layout.now c.args.fails.now in
    ([], c.into_iter-noted-iterator.ensures.into_iter_gives ∙ c.walk-noted-items.ensures.values, keeps_start j c.in_ok-ledger.ledger c.in_ok-ledger.ensures, c.in_ok-slices.ensures.items ∙ sym (slices_start j))

pub slice-requires : goal.slice-requires
slice-requires c =
    let (seen, all, keeps, so_far) = c.loop-noted.invariant in
    let whole : seen ++ c.in-Some.noted.now ∷ c.next.new.self ≡ c.args.history.now = ap (λ (l : List Noted). seen ++ l) (sym c.in-Some.ensures.steps) ∙ all in
    let short : length c.args.history.now < 2 ^ 32 = omega (arith, c.length.ensures, c.length.type_inv) in
    record {
      qubits = (c.requires.limits.qubits, c.requires.limits.axes_fit);
      awaits = awaits_next c.args.products.now c.args.layout.now c.args.fails.now c.args.history.now seen c.next.new.self c.in-Some.noted.now c.loop-noted.ledger c.requires.factories c.requires.legal whole short keeps;
    }

pub loop-noted-preserved : goal.loop-noted-preserved
loop-noted-preserved c =
    let j = job c.args.products.now c.args.layout.now c.args.fails.now in
    let (seen, all, keeps, so_far) = c.loop-noted.invariant in
    let whole : seen ++ c.in-Some.noted.now ∷ c.next.new.self ≡ c.args.history.now = ap (λ (l : List Noted). seen ++ l) (sym c.in-Some.ensures.steps) ∙ all in
    let next = c.in_ok-slice.ensures c.args.fails.now (sliced j (entries seen)) keeps (fits_next c.args.products.now c.args.layout.now c.args.fails.now c.args.history.now seen c.next.new.self c.in-Some.noted.now c.requires.factories c.requires.legal whole) in
    (seen ++ c.in-Some.noted.now ∷ [], append_assoc seen (c.in-Some.noted.now ∷ []) c.next.new.self ∙ whole, keeps_next j seen c.in-Some.noted.now _ c.slice.new.self next, slices_next j seen c.in-Some.noted.now _ c.slice.new.self c.loop-noted.slices.items c.push.new.self.items next so_far c.in_ok-push.ensures.items)

pub returns : goal.returns
returns c =
    let j = job c.args.products.now c.args.layout.now c.args.fails.now in
    let (seen, all, keeps, so_far) = c.loop-noted.invariant in
    let (left, still) = c.in-None.ensures.steps in
    let whole : seen ≡ c.args.history.now = sym (append-nil seen) ∙ ap (λ (l : List Noted). seen ++ l) (sym left) ∙ all in
    so_far ∙ ap (λ h. slices_of j (entries h)) whole
