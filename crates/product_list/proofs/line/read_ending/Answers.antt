use Rattle.product_list.proofs.Wording.{ending_rotation, ending_hidden, ending_measurement, ending_settled, ending_reset}
use Rattle.product_list.proofs.line.read_ending.Goals as goal

pub returns-in_err-name-in-Measurement-clause-none : goal.returns-in_err-name-in-Measurement-clause-none
returns-in_err-name-in-Measurement-clause-none c = rw c.from_residual.ensures (ending_measurement _ _ _ c.in-Measurement.is c.in_err-name-in-Measurement.ensures.none)

pub returns-in_err-name-in-Settled-clause-none : goal.returns-in_err-name-in-Settled-clause-none
returns-in_err-name-in-Settled-clause-none c = rw c.from_residual-in_err-name-in-Settled.ensures (ending_settled _ _ _ c.in-Settled.is c.in_err-name-in-Settled.ensures.none)

pub returns-in_err-number-in-Reset-clause-none : goal.returns-in_err-number-in-Reset-clause-none
returns-in_err-number-in-Reset-clause-none c = rw c.from_residual-in_err-number-in-Reset.ensures (ending_reset _ _ _ c.in-Reset.is c.in_err-number-in-Reset.ensures.none)

pub returns-in-Rotation-clause-some : goal.returns-in-Rotation-clause-some
returns-in-Rotation-clause-some c = rw (ending_rotation c.args.form c.args.words.now c.in-Rotation.is) c.ends.ensures.some

pub returns-in-Rotation-clause-none : goal.returns-in-Rotation-clause-none
returns-in-Rotation-clause-none c = rw (ending_rotation c.args.form c.args.words.now c.in-Rotation.is) c.ends.ensures.none

pub returns-in_ok-name-in-Measurement-clause-some : goal.returns-in_ok-name-in-Measurement-clause-some
returns-in_ok-name-in-Measurement-clause-some c = ending_measurement _ _ _ c.in-Measurement.is c.in_ok-name-in-Measurement.ensures.some

pub returns-in-Hidden-clause-some : goal.returns-in-Hidden-clause-some
returns-in-Hidden-clause-some c = rw (ending_hidden c.args.form c.args.words.now c.in-Hidden.is) c.ends-in-Hidden.ensures.some

pub returns-in-Hidden-clause-none : goal.returns-in-Hidden-clause-none
returns-in-Hidden-clause-none c = rw (ending_hidden c.args.form c.args.words.now c.in-Hidden.is) c.ends-in-Hidden.ensures.none

pub returns-in_ok-name-in-Settled-clause-some : goal.returns-in_ok-name-in-Settled-clause-some
returns-in_ok-name-in-Settled-clause-some c = ending_settled _ _ _ c.in-Settled.is c.in_ok-name-in-Settled.ensures.some

pub returns-in_ok-number-in-Reset-clause-some : goal.returns-in_ok-number-in-Reset-clause-some
returns-in_ok-number-in-Reset-clause-some c = ending_reset _ _ _ c.in-Reset.is c.in_ok-number-in-Reset.ensures.some
