use Rattle.std.proofs.Common.{◌≡◌, ◌∷◌, [], ◌++◌, append_assoc}
use Rattle.board_core.specs.History.{entries, delivered, delivery_in}
use Rattle.board_core.specs.View.{claimed_axis, claimed_in}
use Rattle.schedule_text.specs.inside.Bits.{claimed_sign, raw_outcome}
use Rattle.schedule_text.proofs.Hearing.{tells_more, sign_more, raw_more}
use Rattle.schedule_text.proofs.bits.Said.of.Goals as goal

pub loop-noted-init : goal.loop-noted-init
loop-noted-init c = record { heard = ([], (cc, (c.in_ok-said.ensures.signs, c.in_ok-said.ensures.raws))) }

pub loop-noted-preserved : goal.loop-noted-preserved
loop-noted-preserved c =
    let (done, (all, (told, heard))) = c.loop-noted.invariant.heard in
    let n = c.in-Some.noted.now in
    let whole : (done ++ n ∷ []) ++ c.next.new.self ≡ c.args.history.now = cc (append_assoc done (n ∷ []) c.next.new.self, c.in-Some.ensures.steps, all) in
    let signs =
    tells_more c.args.products (λ p. claimed_sign (claimed_axis (entries done) p)) (λ p. claimed_sign (claimed_in p n.entry)) (λ p. claimed_sign (claimed_axis (entries (done ++ n ∷ [])) p)) _ _ told c.hear.ensures.signs (sign_more done n) in
    let raws =
    tells_more c.args.products (λ p. raw_outcome (delivered (entries done) p)) (λ p. raw_outcome (delivery_in p n.entry)) (λ p. raw_outcome (delivered (entries (done ++ n ∷ [])) p)) _ _ heard c.hear.ensures.raws (raw_more done n) in
    record { heard = (done ++ n ∷ [], (whole, (signs, raws))) }
