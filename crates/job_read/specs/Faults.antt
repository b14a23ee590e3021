-- A fault of one text as a fault of the job: want of memory is always the job's own.
use Rattle.qasm_lex.specs.declared.fault.CircuitFault.{CircuitFault}
use Rattle.qasm_lex.specs.declared.fault.CircuitFault.TheVariants as circuit_fault
use Rattle.patch_layout.specs.declared.fault.LayoutFault.{LayoutFault}
use Rattle.patch_layout.specs.declared.fault.LayoutFault.TheVariants as layout_fault
use Rattle.outcome_table.specs.declared.fault.OutcomeFault.{OutcomeFault}
use Rattle.outcome_table.specs.declared.fault.OutcomeFault.TheVariants as outcome_fault
use Rattle.job_read.specs.declared.fault.JobFault.{JobFault}
use Rattle.job_read.specs.declared.fault.JobFault.TheVariants as fault

abbrev pub fault_of_circuit : CircuitFault → JobFault
fault_of_circuit circuit_fault.Memory = fault.Memory
fault_of_circuit f = fault.Circuit f

abbrev pub fault_of_layout : LayoutFault → JobFault
fault_of_layout layout_fault.Memory = fault.Memory
fault_of_layout f = fault.Layout f

abbrev pub fault_of_outcomes : OutcomeFault → JobFault
fault_of_outcomes outcome_fault.Memory = fault.Memory
fault_of_outcomes f = fault.Outcomes f
