use Rattle.std.proofs.Common.{◌≡◌, ℕ, ◌+◌, ◌*◌, ◌^◌, ◌<◌, inl, inr, nat_lt, length, get_or, subst, ap, sym, ◌∙◌, arith}
use Rattle.std.specs.Int.{bit_not}
use lib.Bits.{bit_and}
use mir.Syntax.{w64}
use Rattle.std.proofs.lemmas.Bool.{cases_Bool, ltb-true, ltb-false}
use Rattle.commute_order.specs.inside.Words.{IsOpen}
use Rattle.commute_order.proofs.BitLists.{length_bits, read_at, none_left, found, past, set_closed, word_closed}
use Rattle.commute_order.proofs.bits.Bits.first_open.Goals as goal

pub index-requires-in-loop-k : goal.index-requires-in-loop-k
index-requires-in-loop-k c =
    omega (
      arith,
      ap length c.self.view_is,
      ap length c.done.view_is,
      length_bits c.self.inside.words.items 0 c.self.inside.len,
      length_bits c.done.inside.words.items 0 c.done.inside.len,
      c.self.inside.words.ok.0,
      c.done.inside.words.ok.0,
    )

pub loop-k-init : goal.loop-k-init
loop-k-init c = λ j h o.
    let there = c.done.inside.words.items in
    let n = c.done.inside.len in
    let within : j < c.args.from = omega arith in
    let all = c.requires.from.within in
    let long : length c.args.done.now ≡ n = sym (ap length c.done.view_is) ∙ length_bits there 0 n in
    set_closed c.self.inside.words.items there n c.args.done.now c.done.view_is j (omega arith) (c.requires.from.set j within) o

pub returns-then-j-from : goal.returns-then-j-from
returns-then-j-from c =
    let here = c.self.inside.words.items in
    let there = c.done.inside.words.items in
    let m = c.self.inside.len in
    let n = c.done.inside.len in
    let ml : length c.args.self.now ≡ m = sym (ap length c.self.view_is) ∙ length_bits here 0 m in
    let nl : length c.args.done.now ≡ n = sym (ap length c.done.view_is) ∙ length_bits there 0 n in
    let k = c.loop-k.k in
    let x = c.index.result.now in
    let y = c.index-in-loop-k.result.now in
    let within : k < length there = omega arith in
    let xs = read_at here k x (omega arith) c.index.ensures in
    let ys = read_at there k y within c.index-in-loop-k.ensures in
    let fx : x < 2 ^ 64 = omega arith in
    let fy : y < 2 ^ 64 = omega arith in
    let t = c.from-then-open-ne0.result in
    let first = found here there m n c.args.self.now c.args.done.now c.self.view_is c.done.view_is c.args.below (omega arith) (omega arith) k x y t xs ys fx fy c.if-open-ne0.true c.from-then-open-ne0.ensures c.loop-k.invariant (omega arith) in
    subst (λ q. (64 * q + t < c.args.below) × IsOpen c.args.self.now c.args.done.now (64 * q + t) × ((j : ℕ) → j < 64 * q + t → IsOpen c.args.self.now c.args.done.now j → ⊥)) (sym c.from.ensures) first

pub returns-else-j-from : goal.returns-else-j-from
returns-else-j-from c =
    let here = c.self.inside.words.items in
    let there = c.done.inside.words.items in
    let m = c.self.inside.len in
    let n = c.done.inside.len in
    let ml : length c.args.self.now ≡ m = sym (ap length c.self.view_is) ∙ length_bits here 0 m in
    let nl : length c.args.done.now ≡ n = sym (ap length c.done.view_is) ∙ length_bits there 0 n in
    let k = c.loop-k.k in
    let x = c.index.result.now in
    let y = c.index-in-loop-k.result.now in
    let within : k < length there = omega arith in
    let xs = read_at here k x (omega arith) c.index.ensures in
    let ys = read_at there k y within c.index-in-loop-k.ensures in
    let fx : x < 2 ^ 64 = omega arith in
    let fy : y < 2 ^ 64 = omega arith in
    let t = c.from-then-open-ne0.result in
    past here there m n c.args.self.now c.args.done.now c.self.view_is c.done.view_is c.args.below (omega arith) (omega arith) k x y t xs ys fx fy c.if-open-ne0.true c.from-then-open-ne0.ensures c.loop-k.invariant (omega arith)

pub loop-k-preserved : goal.loop-k-preserved
loop-k-preserved c = λ j h o.
    let here = c.self.inside.words.items in
    let there = c.done.inside.words.items in
    let m = c.self.inside.len in
    let n = c.done.inside.len in
    let ml : length c.args.self.now ≡ m = sym (ap length c.self.view_is) ∙ length_bits here 0 m in
    let nl : length c.args.done.now ≡ n = sym (ap length c.done.view_is) ∙ length_bits there 0 n in
    let k = c.loop-k.k in
    let x = c.index.result.now in
    let y = c.index-in-loop-k.result.now in
    let within : k < length there = omega arith in
    let xs = read_at here k x (omega arith) c.index.ensures in
    let ys = read_at there k y within c.index-in-loop-k.ensures in
    let fx : x < 2 ^ 64 = omega arith in
    let fy : y < 2 ^ 64 = omega arith in
    let word : bit_and (get_or here k 0) (bit_not w64 (get_or there k 0)) ≡ 0 = (λ i. bit_and (sym xs i) (bit_not w64 (sym ys i))) ∙ c.if-open-ne0.false in
    elim (cases_Bool (nat_lt j (64 * k))) [
      | inl low ↦ c.loop-k.invariant j (ltb-true _ _ low) o
      | inr high ↦ let from = ltb-false _ _ high in word_closed here there k (omega arith) word j (omega arith) o
    ]

pub returns : goal.returns
returns c =
    let here = c.self.inside.words.items in
    let there = c.done.inside.words.items in
    let m = c.self.inside.len in
    let n = c.done.inside.len in
    let ml : length c.args.self.now ≡ m = sym (ap length c.self.view_is) ∙ length_bits here 0 m in
    let nl : length c.args.done.now ≡ n = sym (ap length c.done.view_is) ∙ length_bits there 0 n in
    none_left here there m n c.args.self.now c.args.done.now c.self.view_is c.done.view_is c.args.below (omega arith) (omega arith) c.loop-k.k (omega arith) c.loop-k.invariant
