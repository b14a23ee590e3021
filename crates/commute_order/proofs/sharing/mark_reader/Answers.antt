use Rattle.std.proofs.Common.{◌≡◌, ◌<◌, true, Some, Contains, length, get_or, sym, ap, ◌∙◌}
use Rattle.std.proofs.lemmas.List.{get_or_default}
use Rattle.std.proofs.lemmas.List.Elements.{All-contains}
use Rattle.commute_order.specs.declared.Uses.{Uses}
use Rattle.commute_order.specs.declared.sharing.Writer.{Writer}
use Rattle.commute_order.specs.Commuting.{reads_from}
use Rattle.commute_order.specs.inside.Commuting.{reads_bit}
use Rattle.commute_order.proofs.SharingLaws.{no_uses, reader_marks}
use Rattle.commute_order.proofs.sharing.mark_reader.Goals as goal

pub returns-clause-marks : goal.returns-clause-marks
returns-clause-marks c = λ p j d le h.
    let us = c.args.uses.now in
    let r = c.args.r in
    let ws = c.args.writers.now in
    let read = c.writers_read-read.result.now in
    let own : get_or us r no_uses ≡ get_or us r d = get_or_default us r no_uses d c.requires.within in
    let each : (w : Writer) → Contains ws w → reads_bit (get_or us r d) (Some w.bit) ≡ true → Contains read w = λ w k t. c.writers_read-read.ensures.each w k (ap (λ u. reads_bit u (Some w.bit)) own ∙ t) in
    let others = c.mark_pairs.ensures.others (λ k. reads_from (get_or us r d) (get_or us k d)) p j
    (λ k e l.
    let w = get_or read k e in
    let it = c.writers_read-read.ensures.read k e l in
    let writes = All-contains (λ (x : Writer). (x.product < length us) × ((y : Uses) → (get_or us x.product y).write ≡ Some x.bit)) ws w c.requires.listed.writes it.0 in
    ap (reads_bit (get_or us r d)) (writes.1 d) ∙ ap (λ u. reads_bit u (Some w.bit)) (sym own) ∙ it.1) in
    reader_marks us r ws read c.args.rows.now c.mark_pairs.new.rows d c.requires.listed each c.mark_pairs.ensures.marked p j le h others
