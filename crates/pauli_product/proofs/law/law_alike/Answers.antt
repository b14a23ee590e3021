use Rattle.pauli_product.proofs.Laws.{turns_joined, about_joined, turns_alike, corrections_alike, alike_about, alike_joined, about_long}
use Rattle.pauli_product.proofs.law.law_alike.Goals as goal

pub returns-clause-turns : goal.returns-clause-turns
returns-clause-turns c = turns_alike

pub returns-clause-corrections : goal.returns-clause-corrections
returns-clause-corrections c = corrections_alike

pub returns-clause-about : goal.returns-clause-about
returns-clause-about c = alike_about

pub returns-clause-joined : goal.returns-clause-joined
returns-clause-joined c = alike_joined

pub returns-clause-long : goal.returns-clause-long
returns-clause-long c = about_long

pub returns-clause-one_axis : goal.returns-clause-one_axis
returns-clause-one_axis c = about_joined

pub returns-clause-more : goal.returns-clause-more
returns-clause-more c = turns_joined
