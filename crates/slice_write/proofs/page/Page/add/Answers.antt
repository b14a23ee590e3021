use Rattle.std.proofs.Common.{◌∙◌, ◌++◌, ap, refl, arith, map}
use Rattle.slice_write.specs.Slices.{is_claim_cell}
use Rattle.slice_write.specs.inside.Marks.{mark}
use Rattle.slice_write.proofs.Paging.{page_claim, page_step, page_quiet}
use Rattle.slice_write.proofs.page.Page.add.Goals as goal

pub returns-in_ok-mark-in-Claim : goal.returns-in_ok-mark-in-Claim
returns-in_ok-mark-in-Claim c = λ here page.
    page_claim c.args.layout.now here c.args.self.now _ c.held_cells.new.into.items c.args.entry.now c.in-Claim.product c.in-Claim.axis c.in-Claim.port c.in-Claim.state c.in-Claim.cells c.in-Claim.is c.requires.room c.requires.factories
    (omega (arith, c.len-qubits.ensures.value, c.len-qubits.ensures.few))
    (λ x. c.in_ok-held_cells-in-Claim.ensures x ∙ ap (λ l. is_claim_cell c.args.layout.now c.in-Claim.axis c.in-Claim.port l x) c.cells.ensures)
    refl refl (c.in_ok-mark-in-Claim.ensures ∙ ap (λ l. c.args.self.now.marks.items ++ map (mark c.in-Claim.product) l) c.deref.ensures.value) page

pub returns-in-Step : goal.returns-in-Step
returns-in-Step c = λ here page. page_step c.args.layout.now here c.args.self.now _ c.args.entry.now c.in-Step.factory c.in-Step.is c.requires.room refl refl refl page

pub returns-in-Deliver : goal.returns-in-Deliver
returns-in-Deliver c = λ here page. page_quiet c.args.layout.now here _ c.args.entry.now _ c.in-Deliver.is (λ f. refl) refl (λ x. refl) page

pub returns-in-Release : goal.returns-in-Release
returns-in-Release c = λ here page. page_quiet c.args.layout.now here _ c.args.entry.now _ c.in-Release.is (λ f. refl) refl (λ x. refl) page

pub returns-in-Settle : goal.returns-in-Settle
returns-in-Settle c = λ here page. page_quiet c.args.layout.now here _ c.args.entry.now _ c.in-Settle.is (λ f. refl) refl (λ x. refl) page
