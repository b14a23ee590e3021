use Rattle.std.proofs.Common.{◌≤◌, ◌-◌, ◌++◌, ◌∙◌, ap, length, arith}
use Rattle.std.specs.Prelude.{decimal, replicate}
use Rattle.std.proofs.lemmas.Fmt.{length-decimal-le}
use Rattle.slice_write.proofs.Sixes.{six, six_room, six_pad}
use Rattle.slice_write.proofs.drawing.six_columns.Goals as goal
use borrow.Rule.Slice.PartMut.{put_mid}

pub overflow_sub-six : goal.overflow_sub-six
overflow_sub-six c = omega (arith, ap length c.as_bytes-digits.ensures.value, ap length c.format.ensures.text, length-decimal-le 6 c.args.n (omega arith) (omega (arith, c.requires)) (omega (arith, c.requires)))

pub copy_from_slice-requires : goal.copy_from_slice-requires
copy_from_slice-requires c =
    let few : length c.as_bytes-digits.result.now ≤ 6 = omega (arith, ap length c.as_bytes-digits.ensures.value, ap length c.format.ensures.text, length-decimal-le 6 c.args.n (omega arith) (omega (arith, c.requires)) (omega (arith, c.requires))) in
    six_room (length c.as_bytes-digits.result.now) few

pub returns : goal.returns
returns c =
    let few : length c.as_bytes-digits.result.now ≤ 6 = omega (arith, ap length c.as_bytes-digits.ensures.value, ap length c.format.ensures.text, length-decimal-le 6 c.args.n (omega arith) (omega (arith, c.requires)) (omega (arith, c.requires))) in
    let text = c.as_bytes-digits.ensures.value ∙ c.format.ensures.text in
    let m = length c.as_bytes-digits.result.now in
    ap (put_mid (6 - m) (6 - (6 - m)) six) (c.copy_from_slice.ensures.after ∙ text) ∙ six_pad m (decimal c.args.n) few ∙ ap (λ k. replicate (6 - k) 32 ++ decimal c.args.n) (ap length text)
