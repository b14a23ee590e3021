use Rattle.std.proofs.Common.{rules, [], ◌∷◌}
use Rattle.fault_lines.proofs.Sinks.{grew_on, part_longer, part_on}
use Rattle.fault_lines.proofs.writing.write_numbered.Goals as goal

pub returns-in_err-write_all-clause-part : goal.returns-in_err-write_all-clause-part
returns-in_err-write_all-clause-part g c =
    let part = part_longer _ _ _ (10 ∷ []) (part_on _ _ _ _ _ c.in_ok-write_number.ensures.all c.in_err-write_all.ensures.prefix) in
    search rules

pub returns-in_err-write_all-2-clause-part : goal.returns-in_err-write_all-2-clause-part
returns-in_err-write_all-2-clause-part g c =
    let part = part_on _ _ _ _ _ (grew_on _ _ _ _ _ c.in_ok-write_number.ensures.all c.in_ok-write_all.ensures.all) c.in_err-write_all-2.ensures.prefix in
    search rules
