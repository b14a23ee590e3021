use Rattle.schedule_text.specs.Text.{entry_words}
use Rattle.schedule_text.specs.Lines.{IsEntryLine, version_of}
use Rattle.schedule_text.proofs.OneText.{noted}
use Rattle.schedule_text.proofs.Lined.{line_starts, line_goes_on, line_of_words, one_entry}
use Rattle.schedule_text.proofs.read_entry.Goals as goal

pub returns-in_default-clause-exact : goal.returns-in_default-clause-exact
returns-in_default-clause-exact c = λ n is.
    absurd (c.in_default.ensures.other n.by (entry_words n.entry) (line_starts (version_of c.args.version) c.args.line.now _ n c.of-words.ensures is))

pub returns-in_default-2-clause-exact : goal.returns-in_default-2-clause-exact
returns-in_default-2-clause-exact c =
    let none = rw c.in_default-2.is at c.in_ok-entry.ensures.other in
    λ n is.
    absurd (none n.entry (line_goes_on (version_of c.args.version) c.args.line.now _ n c.in-Some.by _ c.of-words.ensures c.in-Some.ensures.found is))

pub returns-clause-found : goal.returns-clause-found
returns-clause-found c =
    let worded = rw c.in-Some-2.is at c.in_ok-entry.ensures.found in
    line_of_words (version_of c.args.version) c.args.line.now _ c.in-Some.by _ c.in-Some-2.entry c.of-words.ensures c.in-Some.ensures.found worded

pub returns-clause-exact : goal.returns-clause-exact
returns-clause-exact c =
    let worded = rw c.in-Some-2.is at c.in_ok-entry.ensures.found in
    let this : IsEntryLine (version_of c.args.version) c.args.line.now (noted c.in-Some.by c.in-Some-2.entry) =
    line_of_words (version_of c.args.version) c.args.line.now _ c.in-Some.by _ c.in-Some-2.entry c.of-words.ensures c.in-Some.ensures.found worded in
    λ n is. one_entry (version_of c.args.version) c.args.line.now (noted c.in-Some.by c.in-Some-2.entry) n this is
