use Rattle.std.proofs.Common.{refl}
use Rattle.std.specs.Fmt.{digits}
use Rattle.qasm_lex.specs.Tokens.{is_whole}
use Rattle.qasm_parse.specs.Words.{is_taken}
use Rattle.qasm_parse.specs.Gates.{built_in, larger_built_in, may_be_own, is_barred}
use Rattle.qasm_parse.specs.Faults.{first_fault}
use Rattle.qasm_parse.proofs.law.law_name_rows.Goals as goal

pub returns : goal.returns
unfolding first_fault built_in larger_built_in is_whole digits is_barred is_taken may_be_own
returns c = record {
  same_qubit = refl;
  broadcast_twice = refl;
  unknown_register = refl;
  past_the_end = refl;
  no_gate = refl;
  one_into_all = refl;
  own_swap = refl;
  own_h = refl;
  second_include = refl;
  behind_h = refl;
  behind_swap = refl;
  formal_twice = refl;
  most_qubits = refl;
  past_most = refl;
}
