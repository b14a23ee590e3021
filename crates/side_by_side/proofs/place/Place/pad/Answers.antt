use Rattle.std.proofs.Common.{◌≡◌, ◌+◌, ◌<◌, suc, Bool, List, length, refl, ap, ap₂, sym, ◌∙◌, arith, set}
use mathlib.Core.Bool.{not}
use Rattle.pauli_product.specs.declared.Letter.{Letter}
use Rattle.pauli_product.specs.Signed.{Signed}
use Rattle.side_by_side.specs.Places.{fill}
use Rattle.side_by_side.specs.inside.Cut.{cut}
use Rattle.side_by_side.proofs.Copying.{length-cut, cut_next, cut_all, fill_next, fill_none}
use Rattle.side_by_side.proofs.JoinedItems.{length_fill}
use Rattle.side_by_side.proofs.place.Place.pad.Goals as goal
use Rattle.side_by_side.proofs.place.Place.pad.Goals.{then-sign, else-sign}

pub loop-q-init : goal.loop-q-init
loop-q-init c =
    let s = c.args.self in
    let ls = c.args.axis.now.letters in
    let made = c.in_ok-padded.ensures in
    record {
      sign = ap (λ (p : Signed). p.sign) made;
      letters = ap (λ (p : Signed). p.letters) made ∙ fill_none s.before s.after ((s.before + c.len.result) + s.after) ls (omega (arith, c.len.ensures.value));
      within = omega arith;
    }

pub set_letter-requires : goal.set_letter-requires
set_letter-requires c =
    let s = c.args.self in
    let ls = c.args.axis.now.letters in
    omega (arith, ap length c.loop-q.invariant.letters, length_fill s.before s.after (cut c.loop-q.from ls), length-cut c.loop-q.from ls, c.in-Some.ensures.found.within)

pub loop-q-preserved : goal.loop-q-preserved
loop-q-preserved c =
    let s = c.args.self in
    let ls = c.args.axis.now.letters in
    let from = c.loop-q.from in
    let q = c.in-Some.q in
    let l = c.letter.result in
    let found = c.in-Some.ensures in
    let small : q < length (cut from ls) = omega (arith, length-cut from ls, found.found.within) in
    let next : suc q ≡ q + 1 = omega arith in
    record {
      sign = c.set_letter.ensures.sign ∙ c.loop-q.invariant.sign;
      letters =
          c.set_letter.ensures.letters
          ∙ ap (λ ys. set ys (s.before + q) l) c.loop-q.invariant.letters
          ∙ fill_next s.before s.after (cut from ls) (s.before + q) q l refl small
          ∙ ap (fill s.before s.after) (cut_next ls from q l found.after found.found.within found.first c.letter.ensures)
          ∙ ap (λ n. fill s.before s.after (cut n ls)) next;
      within = omega (arith, found.found.within);
    }

pub returns : goal.returns
returns c =
    let s = c.args.self in
    let ls = c.args.axis.now.letters in
    let make : Bool → List Letter → Signed = λ b ys. record { sign = b; letters = ys } in
    let letters : c.loop-q.padded.letters ≡ fill s.before s.after ls = c.loop-q.invariant.letters ∙ ap (fill s.before s.after) (cut_all ls c.loop-q.from c.in_default.ensures.none) in
    elim c.if-sign.branch [
      | then-sign w ↦ w.padded-is ∙ w.negate.ensures ∙ ap₂ make (ap not c.loop-q.invariant.sign ∙ (sym w.if-sign.true ∙ c.sign.ensures)) letters
      | else-sign w ↦ w.padded-is ∙ ap₂ make (c.loop-q.invariant.sign ∙ (sym w.if-sign.false ∙ c.sign.ensures)) letters
    ]
