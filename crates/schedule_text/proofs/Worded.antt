-- Words that are an entry's.
use Rattle.std.proofs.Common.{◌≡◌, ◌≢◌, ℕ, ◌<◌, List, drop, map, [], ◌∷◌, sym, ◌∙◌, ap, subst, arith, Bool, true, false}
use Rattle.std.specs.Prelude.{Option, IfSome, is_some, decimal, ◌==◌, if◌then◌else◌}
use mathlib.Core.Bool.{not, beq}
use Rattle.std.proofs.lemmas.Bool.Decides.{nat_tests}
use Rattle.pauli_product.specs.Signed.{Signed}
use Rattle.pauli_product.specs.Spelling.{product_text}
use Rattle.board_core.specs.declared.Entry.{Entry}
use Rattle.board_core.specs.declared.Entry.TheVariants.{Claim, Deliver, Release, Step, Settle}
use Rattle.schedule_text.specs.Text.{Version, one, two, optional, entry_words, IsNumber}
use Rattle.schedule_text.specs.Lines.{version_of}
use Rattle.schedule_text.specs.inside.Lines.{IsWorded, Starts}
use Rattle.schedule_text.proofs.OneText.{number_one, optional_one, word, first}

pub version_two : (n : ℕ) → (n ≡ 1 → ⊥) → version_of n ≡ two
version_two n other =
    let e : (n == 1) ≡ false = grind (arith, nat_tests) in ap (λ b. if b then one else two) e

-- a number past 63 begins no line of version 2
pub too_great : (version : ℕ) (words rest : List (List ℕ)) (n : ℕ) → (version ≡ 1 → ⊥) → IsNumber n → words ≡ decimal n ∷ rest → 63 < n → (by : ℕ) (others : List (List ℕ)) → Starts (version_of version) words by others → ⊥
too_great version words rest n other small is great by others starts =
    let second = version_two version other in
    let P : Version → Type 0 = λ v. Starts v words by others in
    let (low, are) = subst P second starts in
    let same : by ≡ n = number_one by n (omega (arith, low)) small (ap (word 0) (sym are ∙ is)) in
    omega (arith, low, same, great)

-- two truth values that a test tells apart
pub two_values : (a b : Bool) → not (beq a b) ≡ true → a ≡ b → ⊥
two_values true true t e = cc
two_values true false t e = cc
two_values false true t e = cc
two_values false false t e = cc

-- a claim without a word for its state is no line's
pub without_state : (p : ℕ) (axis : Signed) (port : Option ℕ) (old a b c : List (List ℕ)) → old ≡ decimal p ∷ a → a ≡ product_text axis ∷ b → b ≡ optional port ∷ c → ((state : Option ℕ) (rest : List (List ℕ)) → IfSome state IsNumber → c ≢ optional state ∷ rest) → (v : Version) (e : Entry) → IsWorded v ((67 ∷ []) ∷ old) e → ⊥
without_state p axis port old a b c w x y other v (Claim q axis2 port2 state2 cells) are =
    let whole : old ≡ decimal p ∷ product_text axis ∷ optional port ∷ c =
    w ∙ ap (λ t. decimal p ∷ t) (x ∙ ap (λ t. product_text axis ∷ t) y) in
    let words : (67 ∷ []) ∷ decimal p ∷ product_text axis ∷ optional port ∷ c ≡ entry_words (Claim q axis2 port2 state2 cells) =
    ap (λ t. (67 ∷ []) ∷ t) (sym whole) ∙ are.are in
    other state2 (map decimal cells) are.numbers.2 (ap (drop 4) words)
without_state p axis port old a b c w x y other v (Deliver q given) are = absurd (omega (arith, ap (λ ws. first (word 0 ws)) are.are))
without_state p axis port old a b c w x y other v (Release q) are = absurd (omega (arith, ap (λ ws. first (word 0 ws)) are.are))
without_state p axis port old a b c w x y other v (Step q) are = absurd (omega (arith, ap (λ ws. first (word 0 ws)) are.are))
without_state p axis port old a b c w x y other v (Settle q flip) are = absurd (omega (arith, ap (λ ws. first (word 0 ws)) are.are))

-- a claim that names a port and no state, or a state and no port, is no line's
pub one_of_two : (p : ℕ) (axis : Signed) (port state : Option ℕ) (old a b c d : List (List ℕ)) → IfSome port IsNumber → IfSome state IsNumber → old ≡ decimal p ∷ a → a ≡ product_text axis ∷ b → b ≡ optional port ∷ c → c ≡ optional state ∷ d → (is_some port ≡ is_some state → ⊥) → (v : Version) (e : Entry) → IsWorded v ((67 ∷ []) ∷ old) e → ⊥
one_of_two p axis port state old a b c d f g w x y z differ v (Claim q axis2 port2 state2 cells) are =
    let whole : old ≡ decimal p ∷ product_text axis ∷ optional port ∷ optional state ∷ d =
    w ∙ ap (λ t. decimal p ∷ t) (x ∙ ap (λ t. product_text axis ∷ t) (y ∙ ap (λ t. optional port ∷ t) z)) in
    let words : (67 ∷ []) ∷ decimal p ∷ product_text axis ∷ optional port ∷ optional state ∷ d ≡ entry_words (Claim q axis2 port2 state2 cells) =
    ap (λ t. (67 ∷ []) ∷ t) (sym whole) ∙ are.are in
    let ports = optional_one port port2 f are.numbers.1 (ap (word 3) words) in
    let states = optional_one state state2 g are.numbers.2 (ap (word 4) words) in
    absurd (differ (ap is_some ports ∙ (are.shaped.1 ∙ sym (ap is_some states))))
one_of_two p axis port state old a b c d f g w x y z differ v (Deliver q given) are = absurd (omega (arith, ap (λ ws. first (word 0 ws)) are.are))
one_of_two p axis port state old a b c d f g w x y z differ v (Release q) are = absurd (omega (arith, ap (λ ws. first (word 0 ws)) are.are))
one_of_two p axis port state old a b c d f g w x y z differ v (Step q) are = absurd (omega (arith, ap (λ ws. first (word 0 ws)) are.are))
one_of_two p axis port state old a b c d f g w x y z differ v (Settle q flip) are = absurd (omega (arith, ap (λ ws. first (word 0 ws)) are.are))
