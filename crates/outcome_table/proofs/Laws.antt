-- The laws that crates above cite.
use Rattle.outcome_table.specs.Laws.{TableOrFault}
use Rattle.outcome_table.proofs.Existing as existing

pub table_or_fault : TableOrFault
table_or_fault = existing.table_or_fault
