use Rattle.std.proofs.Common.{◌≡◌, ◌≢◌, ℕ, ◌/◌, ◌^◌, ◌<◌, arith, w64, div-le_self}
use Rattle.std.specs.Int.{bit_at, trailing_zeros}
use Rattle.std.specs.Int.RustNames.{bit_or}
use Rattle.std.proofs.lemmas.Nat.Bits.{bit_at-trailing_zeros}
use lib.Bits.{or_lt}
use Rattle.pauli_product.specs.inside.Words.{word_letters}
use Rattle.pauli_product.proofs.WordLetters.{none_from, first_within, first_found, none_before}
use Rattle.pauli_product.proofs.word.Word.support_from.Goals as goal

pub returns-then-above-eq0-clause-none : goal.returns-then-above-eq0-clause-none
unfolding word_letters
returns-then-above-eq0-clause-none c = none_from 64 c.args.self.x c.args.self.z c.args.from c.if-above-eq0.true

-- the lowest bit of what is left of the masks
lowest : (x z f : ℕ) → bit_or x z < 2 ^ 64 → bit_or x z / 2 ^ f ≢ 0
    → (trailing_zeros w64 (bit_or x z / 2 ^ f) < 64) × (bit_at (bit_or x z / 2 ^ f) (trailing_zeros w64 (bit_or x z / 2 ^ f)) ≡ 1) × ((i : ℕ) → i < trailing_zeros w64 (bit_or x z / 2 ^ f) → bit_at (bit_or x z / 2 ^ f) i ≡ 0)
lowest x z f small some = bit_at-trailing_zeros w64 (bit_or x z / 2 ^ f) (omega arith) (omega (arith, div-le_self (bit_or x z) (2 ^ f)))

pub returns-clause-within : goal.returns-clause-within
returns-clause-within c =
    let x = c.args.self.x in
    let z = c.args.self.z in
    let f = c.args.from in
    let small = or_lt 64 x z (omega arith) (omega arith) in
    let low = lowest x z f small c.if-above-eq0.false in
    first_within 64 x z f _ small low.1 low.2

pub returns-clause-found : goal.returns-clause-found
unfolding word_letters
returns-clause-found c =
    let x = c.args.self.x in
    let z = c.args.self.z in
    let f = c.args.from in
    let small = or_lt 64 x z (omega arith) (omega arith) in
    let low = lowest x z f small c.if-above-eq0.false in
    first_found 64 x z f _ small low.1 low.2

pub returns-clause-first : goal.returns-clause-first
unfolding word_letters
returns-clause-first c =
    let x = c.args.self.x in
    let z = c.args.self.z in
    let f = c.args.from in
    let small = or_lt 64 x z (omega arith) (omega arith) in
    let low = lowest x z f small c.if-above-eq0.false in
    none_before 64 x z f _ small low.1 low.2
