use Rattle.std.proofs.Common.{rules}
use Rattle.fault_lines.proofs.Sinks.{part_on}
use Rattle.fault_lines.proofs.writing.write_number.Goals as goal

pub returns-in_err-write_all-2-clause-part : goal.returns-in_err-write_all-2-clause-part
returns-in_err-write_all-2-clause-part g c =
    let prefix = rw (c.as_bytes.ensures.value, c.format.ensures.text) at c.in_err-write_all-2.ensures.prefix in
    let part = part_on _ _ _ _ _ c.in_ok-write_all.ensures.all prefix in
    search rules
