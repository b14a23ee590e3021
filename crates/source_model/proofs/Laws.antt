-- The laws that crates above cite.
use Rattle.source_model.specs.Laws.{LaterOutcomesDontMatter, BitsAreLastOutcomes, StaticsKeepKinds, StaticItemsKeepKinds, StaticsStay, StaticsRunAlike, StaticsWriteAlike, AxesStayOnUsed}
use Rattle.source_model.proofs.EarlierOutcomes as earlier
use Rattle.source_model.proofs.EqualRuns as equal
use Rattle.source_model.proofs.LastOutcomes as last
use Rattle.source_model.proofs.SameKinds as kinds
use Rattle.source_model.proofs.UsedQubits as used

pub later_outcomes : LaterOutcomesDontMatter
later_outcomes = earlier.same_axis

pub bits_last : BitsAreLastOutcomes
bits_last = last.bit_is_last_outcome

pub statics_keep_kinds : StaticsKeepKinds
statics_keep_kinds = kinds.statics_keep_kinds

pub static_items_keep_kinds : StaticItemsKeepKinds
static_items_keep_kinds = kinds.static_items_keep_kinds

pub statics_stay : StaticsStay
statics_stay = kinds.statics_stay

pub statics_run_alike : StaticsRunAlike
statics_run_alike = equal.statics_run_alike

pub statics_write_alike : StaticsWriteAlike
statics_write_alike = equal.statics_write_alike

pub axes_on_used : AxesStayOnUsed
axes_on_used = used.acts_on_used
