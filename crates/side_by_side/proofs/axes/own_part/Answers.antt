use Rattle.std.proofs.Common.{◌≡◌, ◌+◌, ◌<◌, ◌≤◌, suc, Bool, List, Some, take, drop, length, replicate, slice_get, refl, ap, ap₂, sym, ◌∙◌, arith, set}
use mathlib.Core.Bool.{not}
use Rattle.pauli_product.specs.declared.Letter.{Letter}
use Rattle.pauli_product.specs.declared.Letter.TheVariants.{I}
use Rattle.pauli_product.specs.Signed.{Signed}
use Rattle.side_by_side.specs.inside.Cut.{cut}
use Rattle.side_by_side.proofs.Copying.{length-cut, cut_next, cut_none, cut_whole, own_get, own_length}
use Rattle.side_by_side.proofs.axes.own_part.Goals as goal
use Rattle.side_by_side.proofs.axes.own_part.Goals.{then-sign, else-sign}

pub loop-q-init : goal.loop-q-init
loop-q-init c =
    let ls = c.args.axis.now.letters in
    let xs = take c.args.count (drop c.args.before ls) in
    let long : length xs ≡ c.args.count = own_length c.args.before c.args.count ls c.requires.within in
    record {
      sign = ap (λ (p : Signed). p.sign) c.in_ok-own.ensures;
      letters = ap (λ (p : Signed). p.letters) c.in_ok-own.ensures ∙ ap (λ n. replicate n I) (sym long) ∙ cut_none xs;
    }

pub set_letter-requires : goal.set_letter-requires
set_letter-requires c =
    let ls = c.args.axis.now.letters in
    let xs = take c.args.count (drop c.args.before ls) in
    omega (arith, ap length c.loop-q.invariant.letters, length-cut c.loop-q.q xs, own_length c.args.before c.args.count ls c.requires.within, c.loop-q-test.true)

pub loop-q-preserved : goal.loop-q-preserved
loop-q-preserved c =
    let ls = c.args.axis.now.letters in
    let xs = take c.args.count (drop c.args.before ls) in
    let q = c.loop-q.q in
    let l = c.letter.result in
    let low : q < length xs = omega (arith, own_length c.args.before c.args.count ls c.requires.within, c.loop-q-test.true) in
    let here : slice_get xs q ≡ Some l = own_get c.args.before c.args.count q (c.args.before + q) ls l refl (omega (arith, c.loop-q-test.true)) c.letter.ensures in
    let next : suc q ≡ q + 1 = omega arith in
    record {
      sign = c.set_letter.ensures.sign ∙ c.loop-q.invariant.sign;
      letters =
          c.set_letter.ensures.letters
          ∙ ap (λ ys. set ys q l) c.loop-q.invariant.letters
          ∙ cut_next xs q q l (omega arith) low (λ k y z. absurd (omega (arith, y, z))) here
          ∙ ap (λ n. cut n xs) next;
    }

pub returns : goal.returns
returns c =
    let ls = c.args.axis.now.letters in
    let xs = take c.args.count (drop c.args.before ls) in
    let make : Bool → List Letter → Signed = λ b ys. record { sign = b; letters = ys } in
    let long : length xs ≤ c.loop-q.q = omega (arith, own_length c.args.before c.args.count ls c.requires.within, c.loop-q-test.false) in
    let letters : c.loop-q.own.letters ≡ xs = c.loop-q.invariant.letters ∙ cut_whole xs c.loop-q.q long in
    elim c.if-sign.branch [
      | then-sign w ↦ w.own-is ∙ w.negate.ensures ∙ ap₂ make (ap not c.loop-q.invariant.sign ∙ (sym w.if-sign.true ∙ c.sign.ensures)) letters
      | else-sign w ↦ w.own-is ∙ ap₂ make (c.loop-q.invariant.sign ∙ (sym w.if-sign.false ∙ c.sign.ensures)) letters
    ]
