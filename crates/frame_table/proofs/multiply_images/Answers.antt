use Rattle.std.proofs.Common.{◌≡◌, ℕ, ◌<◌, ◌≤◌, true, false, List, length, replicate, get_or, ap, sym, ◌∙◌, arith, add-one}
use Rattle.std.proofs.lemmas.Option.{get_or_from_slice_get}
use Rattle.pauli_product.specs.declared.Letter.{Letter}
use Rattle.pauli_product.specs.declared.Letter.TheVariants.{I}
use Rattle.pauli_product.specs.Signed.{Signed, plus}
use Rattle.pauli_product.specs.Pulls.{carry, negated}
use Rattle.pauli_product.proofs.Laws.{carry_negated}
use Rattle.frame_table.specs.inside.Steps.{times_letter}
use Rattle.frame_table.proofs.Prefix.{prefix, length_plain, prefix_whole, prefix_skips, carry_plain, next_letter}
use Rattle.frame_table.proofs.multiply_images.Goals as goal
use Rattle.frame_table.proofs.multiply_images.Goals.{After-sign, else-loop-from-test, then-loop-from-test+in_default}

pub loop-from-init : goal.loop-from-init
loop-from-init c = record {
  within = omega arith;
  long = ap (λ (p : Signed). length p.letters) c.requires.identity ∙ length_plain (length c.args.x.now);
  image = λ n ts h. c.requires.identity ∙ ap (λ m. plus (replicate m I)) (sym c.requires.product) ∙ sym (carry_plain ts (length c.args.p.now.letters));
}

pub loop-from-preserved : goal.loop-from-preserved
loop-from-preserved c =
    let q = c.in-Some.q in
    let ls = c.args.p.now.letters in
    let found = c.in-Some.ensures in
    record {
      within = omega (arith, found.found.within);
      long = c.multiply_letter.ensures.qubits ∙ c.loop-from.invariant.long;
      image = λ n ts h.
          let within : q < n = omega (arith, h.x.size, found.found.within) in
          let x = c.index-x-q.is ∙ h.x.image q c.index-x-q.result within in
          let z = c.index-z-q.is ∙ h.z.image q c.index-z-q.result within in
          let skipped = prefix_skips c.loop-from.from q ls found.after found.first in
          let before = c.loop-from.invariant.image n ts h ∙ ap (λ (ls : List Letter). carry ts (plus ls)) skipped in
          let letter : get_or ls q I ≡ c.letter.result = get_or_from_slice_get ls q c.letter.result I c.letter.ensures in
          c.multiply_letter.ensures.value
          ∙ (λ i. times_letter c.letter.result (x i) (z i) (before i))
          ∙ next_letter n ts h.long ls (omega (arith, h.x.size)) q within c.letter.result letter
          ∙ ap (λ m. carry ts (plus (prefix m ls))) (sym (add-one q));
    }

-- no letter of the support is left
whole : (c : After-sign) → prefix c.loop-from.from c.args.p.now.letters ≡ c.args.p.now.letters
whole c =
    let ls = c.args.p.now.letters in
    let plain : (k : ℕ) → c.loop-from.from ≤ k → k < length ls → get_or ls k I ≡ I = elim c.loop-from-test.branch [
      | else-loop-from-test w ↦ λ k from below. absurd (omega arith)
      | then-loop-from-test+in_default w ↦ λ k from below. w.in_default.ensures.none k from
    ] in
    prefix_skips c.loop-from.from (length ls) ls c.loop-from.invariant.within plain ∙ prefix_whole ls

pub returns-then-sign-clause-image : goal.returns-then-sign-clause-image
returns-then-sign-clause-image c = λ n ts h.
    let p = c.args.p.now in
    let all = ap (λ (ls : List Letter). carry ts (plus ls)) (whole (goal.at.returns-then-sign-clause-image c).After-sign) in
    let minus : p.sign ≡ true = sym c.sign.ensures ∙ c.if-sign.true in
    let signed : p ≡ negated (plus p.letters) = λ i. record { sign = minus i; letters = p.letters } in
    c.negate.ensures ∙ ap negated (c.loop-from.invariant.image n ts h ∙ all) ∙ sym (carry_negated ts (plus p.letters)) ∙ ap (carry ts) (sym signed)

pub returns-else-sign-clause-image : goal.returns-else-sign-clause-image
returns-else-sign-clause-image c = λ n ts h.
    let p = c.args.p.now in
    let all = ap (λ (ls : List Letter). carry ts (plus ls)) (whole (goal.at.returns-else-sign-clause-image c).After-sign) in
    let no_minus : p.sign ≡ false = sym c.sign.ensures ∙ c.if-sign.false in
    let signed : p ≡ plus p.letters = λ i. record { sign = no_minus i; letters = p.letters } in
    c.loop-from.invariant.image n ts h ∙ all ∙ ap (carry ts) (sym signed)
