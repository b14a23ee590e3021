use Rattle.std.proofs.Common.{◌∙◌, ap, get_or}
use Rattle.slice_write.specs.Slices.{is_claim_cell}
use Rattle.slice_write.proofs.Next.{claim_few, claim_returns, settle_returns, deliver_next, release_next, step_awaits, step_returns}
use Rattle.slice_write.proofs.ledger.Ledger.slice.Goals as goal

pub claim-requires-clause-few : goal.claim-requires-clause-few
claim-requires-clause-few c =
    claim_few c.args.products.now c.args.layout.now c.args.self.now c.floor.new.self c.args.entry.now c.in-Claim.product c.in-Claim.axis c.in-Claim.port c.in-Claim.state c.in-Claim.cells c.in_ok-floor-in-Claim.floor
    c.requires.awaits c.in-Claim.is c.in_ok-floor-in-Claim.ensures.others (λ x. c.in_ok-floor-in-Claim.ensures.held x ∙ ap (λ l. is_claim_cell c.args.layout.now c.in-Claim.axis c.in-Claim.port l x) c.cells.ensures) c.in_ok-floor-in-Claim.ensures.within c.in_ok-floor-in-Claim.ensures.value

pub step-requires-clause-ready : goal.step-requires-clause-ready
step-requires-clause-ready c = step_awaits c.args.products.now c.args.layout.now c.args.self.now c.args.entry.now c.in-Step.factory c.requires.awaits c.in-Step.is

pub returns-in_ok-floor-in-Claim : goal.returns-in_ok-floor-in-Claim
returns-in_ok-floor-in-Claim c =
    claim_returns c.args.products.now c.args.layout.now c.args.self.now c.floor.new.self c.claim.new.self c.args.entry.now c.in-Claim.product c.in-Claim.axis c.in-Claim.port c.in-Claim.state c.in-Claim.cells c.in_ok-floor-in-Claim.floor c.claim.result
    c.in-Claim.is c.in_ok-floor-in-Claim.ensures.others (λ x. c.in_ok-floor-in-Claim.ensures.held x ∙ ap (λ l. is_claim_cell c.args.layout.now c.in-Claim.axis c.in-Claim.port l x) c.cells.ensures) c.in_ok-floor-in-Claim.ensures.within c.in_ok-floor-in-Claim.ensures.value c.claim.ensures.value c.claim.ensures.notes

pub returns-in-Deliver : goal.returns-in-Deliver
returns-in-Deliver c = deliver_next c.args.products.now c.args.layout.now c.args.self.now c.args.entry.now c.in-Deliver.product c.in-Deliver.given c.entry_at.result c.in-Deliver.is (c.entry_at.ensures ∙ ap (λ l. get_or l c.in-Deliver.product 0) c.deref.ensures.value)

pub returns-in-Release : goal.returns-in-Release
returns-in-Release c = release_next c.args.products.now c.args.layout.now c.args.self.now c.args.entry.now c.in-Release.product c.entry_at-in-Release.result c.in-Release.is (c.entry_at-in-Release.ensures ∙ ap (λ l. get_or l c.in-Release.product 0) c.deref-in-Release.ensures.value)

pub returns-in-Step : goal.returns-in-Step
returns-in-Step c = step_returns c.args.products.now c.args.layout.now c.args.self.now c.step.new.self c.args.entry.now c.in-Step.factory c.step.result c.in-Step.is c.step.ensures.value c.step.ensures.notes

pub returns-in-Settle : goal.returns-in-Settle
returns-in-Settle c = settle_returns c.args.products.now c.args.layout.now c.args.self.now c.settle.new.self c.args.entry.now c.in-Settle.product c.in-Settle.flip c.settle.result c.in-Settle.is c.settle.ensures.value c.settle.ensures.notes
