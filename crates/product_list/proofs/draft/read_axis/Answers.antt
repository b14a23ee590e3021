use Rattle.std.proofs.Common.{Option, Some, IfSome, IfNone, Result, Ok, Err, IfOk, arith, refl, sym, ◌≡◌, ◌≢◌, ℕ, List, length, subst}
use Rattle.pauli_product.specs.Signed.{Signed}
use Rattle.pauli_product.specs.Spelling.{Spells}
use Rattle.product_list.specs.ListText.{axis_in_text}
use Rattle.product_list.proofs.Axes.{axis_text, spells}
use Rattle.product_list.proofs.draft.read_axis.Goals as goal

pub returns-then-text-qubits-clause-none : goal.returns-then-text-qubits-clause-none
returns-then-text-qubits-clause-none c = λ same.
    let t = axis_text c.args.text.now c.requires.axis in
    let l = t.long in
    c.if-text-qubits.true (omega arith)

found_is : {E : Type 0} (r : Result (Option Signed) E) (text : List ℕ) (n : ℕ) (a : Signed) → IfOk r (λ found. (p : Signed) → Spells text p → found ≡ Some p) → Spells text a → length a.letters ≡ n → IfOk r (λ found. IfSome found (λ p. (p ≡ a) × (length p.letters ≡ n)))
found_is (Ok found) text n a h s l = let P : Option Signed → Type 0 = λ o. IfSome o (λ p. (p ≡ a) × (length p.letters ≡ n)) in subst P (sym (h a s)) (refl, l)
found_is (Err e) text n a h s l = tt

none_missed : {E : Type 0} (r : Result (Option Signed) E) (text : List ℕ) (a : Signed) (Q : Type 0) → IfOk r (λ found. (p : Signed) → Spells text p → found ≡ Some p) → Spells text a → IfOk r (λ found. IfNone found Q)
none_missed (Ok found) text a Q h s = let P : Option Signed → Type 0 = λ o. IfNone o Q in subst P (sym (h a s)) tt
none_missed (Err e) text a Q h s = tt

pub returns-clause-some : goal.returns-clause-some
returns-clause-some c =
    let w = c.args.text.now in
    let t = axis_text w c.requires.axis in
    let l = t.long in
    found_is c.parse.result w c.args.qubits (axis_in_text w) c.parse.ensures.exact (spells w c.requires.axis (omega arith)) (omega arith)

pub returns-clause-none : goal.returns-clause-none
returns-clause-none c =
    let w = c.args.text.now in
    none_missed c.parse.result w (axis_in_text w) (length (axis_in_text w).letters ≢ c.args.qubits) c.parse.ensures.exact (spells w c.requires.axis (omega arith))
