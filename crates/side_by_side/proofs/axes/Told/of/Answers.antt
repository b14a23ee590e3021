use Rattle.std.proofs.Common.{◌≡◌, ◌∷◌, [], ◌++◌, append_assoc}
use Rattle.board_core.specs.History.{entries, delivered, delivery_in}
use Rattle.side_by_side.proofs.Telling.{tells_more, delivered_more}
use Rattle.side_by_side.proofs.axes.Told.of.Goals as goal

pub loop-noted-init : goal.loop-noted-init
loop-noted-init c = record { heard = ([], (cc, c.in_ok-told.ensures)) }

pub loop-noted-preserved : goal.loop-noted-preserved
loop-noted-preserved c =
    let (done, (all, told)) = c.loop-noted.invariant.heard in
    let n = c.in-Some.noted.now in
    let whole : (done ++ n ∷ []) ++ c.next.new.self ≡ c.args.history.now = cc (append_assoc done (n ∷ []) c.next.new.self, c.in-Some.ensures.steps, all) in
    record { heard = (done ++ n ∷ [], (whole, tells_more c.args.products (λ p. delivered (entries done) p) (λ p. delivery_in p n.entry) (λ p. delivered (entries (done ++ n ∷ [])) p) _ _ told c.hear.ensures (delivered_more done n))) }
