use Rattle.std.proofs.Common.{ℕ, ◌<◌, ap, sym, ◌∙◌, subst}
use Rattle.board_core.specs.History.{entries}
use Rattle.board_core.specs.Legal.{Allowed}
use Rattle.board_core.specs.Position.{Position, past, job_with, with_entry}
use Rattle.board_core.specs.inside.Books.{CanDeliver}
use Rattle.board_core.proofs.KeptLegal.{goes, past_length}
use Rattle.board_core.proofs.Noting.{own_fits}
use Rattle.board_core.proofs.Boards.{kept_at, legal_at, room, place_at, product_is, product_in, covers}
use Rattle.board_core.proofs.Judged.{can_deliver}
use Rattle.board_core.proofs.Accepted.{deliver_accepted}
use Rattle.board_core.proofs.Carried.{order_source}
use Rattle.board_core.proofs.desk.Board.deliver.Goals as goal

pub returns-in-Some-clause-legal : goal.returns-in-Some-clause-legal
returns-in-Some-clause-legal c = legal_at _ _ _ _ c.args.self.now c.self.view_is c.self.invariant

pub index-product-requires : goal.index-product-requires
index-product-requires c =
    let b = c.in_default.ensures.begun in
    subst (λ (n : ℕ). c.args.p < n) (sym c.self.inside.products.ok.0) (product_in _ _ _ _ c.args.self.now c.self.view_is c.self.invariant c.args.p b.static b.product)

pub note_outcome-entry-requires-clause-own : goal.note_outcome-entry-requires-clause-own
note_outcome-entry-requires-clause-own c =
    let b = c.in_default.ensures.begun in
    let own = product_is _ _ _ _ c.args.self.now c.self.view_is c.self.invariant c.args.p c.index-product.result.now b.static b.product c.index-product.ensures in
    own_fits c.args.self.now.job (past c.args.self.now) _ c.args.p c.index-product.result.now (kept_at _ _ _ _ c.args.self.now c.self.view_is c.self.invariant) own

pub note_outcome-entry-requires-clause-covers : goal.note_outcome-entry-requires-clause-covers
note_outcome-entry-requires-clause-covers c = let b = c.in_default.ensures.begun in covers _ _ _ _ c.args.self.now c.self.view_is c.self.invariant c.args.p b.static b.product

pub note_outcome-entry-requires-clause-bits : goal.note_outcome-entry-requires-clause-bits
note_outcome-entry-requires-clause-bits c =
    let b = c.in_default.ensures.begun in
    let own = product_is _ _ _ _ c.args.self.now c.self.view_is c.self.invariant c.args.p c.index-product.result.now b.static b.product c.index-product.ensures in
    let k = kept_at _ _ _ _ c.args.self.now c.self.view_is c.self.invariant in
    k.reach c.args.p c.index-product.result.now own

pub push-requires : goal.push-requires
push-requires c = room _ _ _ _ c.args.self.now c.self.view_is c.self.invariant

pub invariant_of-self : goal.invariant_of-self
invariant_of-self c =
    let b = c.in_default.ensures.begun in
    let own = product_is _ _ _ _ c.args.self.now c.self.view_is c.self.invariant c.args.p c.index-product.result.now b.static b.product c.index-product.ensures in
    let can = can_deliver c.args.self.now c.args.p c.index-product.result.now c.args.given own c.in_default.ensures in
    let j = job_with c.self.inside.products.items c.self.inside.layout c.self.inside.ledger.pool in
    let d = c.note_outcome-entry.ensures j (entries c.self.inside.history) c.self.invariant (subst (λ (x : Position). CanDeliver x.job (past x) c.args.p c.index-product.result.now c.args.given) (sym c.self.view_is) can) (c.length-place.ensures ∙ sym (past_length c.self.inside.history)) in
    let g = goes c.self.inside.products.items c.self.inside.layout c.self.inside.history c.push.new.self c.self.inside.ledger c.note_outcome-entry.new.ledger c.args.by c.note_outcome-entry.result d.2 c.push.ensures.values in
    g.kept

pub returns-clause-accepted : goal.returns-clause-accepted
returns-clause-accepted c =
    let b = c.in_default.ensures.begun in
    let own = product_is _ _ _ _ c.args.self.now c.self.view_is c.self.invariant c.args.p c.index-product.result.now b.static b.product c.index-product.ensures in
    let can = can_deliver c.args.self.now c.args.p c.index-product.result.now c.args.given own c.in_default.ensures in
    let j = job_with c.self.inside.products.items c.self.inside.layout c.self.inside.ledger.pool in
    let d = c.note_outcome-entry.ensures j (entries c.self.inside.history) c.self.invariant (subst (λ (x : Position). CanDeliver x.job (past x) c.args.p c.index-product.result.now c.args.given) (sym c.self.view_is) can) (c.length-place.ensures ∙ sym (past_length c.self.inside.history)) in
    let g = goes c.self.inside.products.items c.self.inside.layout c.self.inside.history c.push.new.self c.self.inside.ledger c.note_outcome-entry.new.ledger c.args.by c.note_outcome-entry.result d.2 c.push.ensures.values in
    (c.note_outcome-entry.result, d.0, subst (λ (x : Position). Allowed x.job (past x) c.note_outcome-entry.result) c.self.view_is d.1, place_at _ _ _ _ c.args.self.now c.self.view_is c.self.invariant c.push.result c.push.ensures.place, g.is ∙ ap (λ (x : Position). with_entry x c.args.by c.note_outcome-entry.result) c.self.view_is)

pub returns-clause-order : goal.returns-clause-order
returns-clause-order c =
    let b = c.in_default.ensures.begun in
    let own = product_is _ _ _ _ c.args.self.now c.self.view_is c.self.invariant c.args.p c.index-product.result.now b.static b.product c.index-product.ensures in
    let can = can_deliver c.args.self.now c.args.p c.index-product.result.now c.args.given own c.in_default.ensures in
    let j = job_with c.self.inside.products.items c.self.inside.layout c.self.inside.ledger.pool in
    let d = c.note_outcome-entry.ensures j (entries c.self.inside.history) c.self.invariant (subst (λ (x : Position). CanDeliver x.job (past x) c.args.p c.index-product.result.now c.args.given) (sym c.self.view_is) can) (c.length-place.ensures ∙ sym (past_length c.self.inside.history)) in
    let g = goes c.self.inside.products.items c.self.inside.layout c.self.inside.history c.push.new.self c.self.inside.ledger c.note_outcome-entry.new.ledger c.args.by c.note_outcome-entry.result d.2 c.push.ensures.values in
    order_source c.args.self.now _ c.args.by c.note_outcome-entry.result g.legal (g.is ∙ ap (λ (x : Position). with_entry x c.args.by c.note_outcome-entry.result) c.self.view_is)

pub returns-clause-legal : goal.returns-clause-legal
returns-clause-legal c =
    let b = c.in_default.ensures.begun in
    let own = product_is _ _ _ _ c.args.self.now c.self.view_is c.self.invariant c.args.p c.index-product.result.now b.static b.product c.index-product.ensures in
    let can = can_deliver c.args.self.now c.args.p c.index-product.result.now c.args.given own c.in_default.ensures in
    let j = job_with c.self.inside.products.items c.self.inside.layout c.self.inside.ledger.pool in
    let d = c.note_outcome-entry.ensures j (entries c.self.inside.history) c.self.invariant (subst (λ (x : Position). CanDeliver x.job (past x) c.args.p c.index-product.result.now c.args.given) (sym c.self.view_is) can) (c.length-place.ensures ∙ sym (past_length c.self.inside.history)) in
    let g = goes c.self.inside.products.items c.self.inside.layout c.self.inside.history c.push.new.self c.self.inside.ledger c.note_outcome-entry.new.ledger c.args.by c.note_outcome-entry.result d.2 c.push.ensures.values in
    g.legal

pub returns-in-Some-clause-complete : goal.returns-in-Some-clause-complete
returns-in-Some-clause-complete c e is a = absurd (deliver_accepted c.args.self.now c.args.p c.args.given e c.in-Some.why is a c.in-Some.ensures)
