use Rattle.std.proofs.Common.{◌≡◌, arith, drop, length}
use Rattle.schedule_text.specs.Text.{bit_in}
use Rattle.history_replay.proofs.Closing.{stops_behind}
use Rattle.history_replay.proofs.close.close_bits.Goals as goal

pub returns-then-at-text : goal.returns-then-at-text
returns-then-at-text c =
    let count : c.loop-register.register-index ≡ length c.args.registers.now = omega arith in (
      c.loop-register.register-index,
      stops_behind c.args.registers.now (bit_in c.args.bits.now) c.loop-register.register-index (drop c.args.at c.args.text.now) c.args.text.now c.loop-register.at count c.loop-register.invariant.text_is c.if-at-text.true,
      c.loop-register.invariant.line,
    )
