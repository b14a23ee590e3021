-- The statement by which a limit is passed: the code's costs and the counts of the tree.
use Rattle.std.proofs.Common.{◌≡◌, ℕ, Bool, true, false, ◌+◌, ◌<◌, ◌||◌, nat_lt, List, [], ◌∷◌, ◌++◌, length, get_or, take, drop, sum_by, refl, sym, ◌∙◌, ap, arith, Option, Some, None, if◌then◌else◌, lit<}
use Rattle.std.proofs.lemmas.List.{drop_more, take_more}
use Rattle.std.proofs.lemmas.List.Sums.{sum_by_more}
use Rattle.std.proofs.lemmas.Bool.Decides.{nat_tests}
use Rattle.qasm_expand.proofs.Steps.{capped_more}
use Rattle.qasm_parse.specs.declared.tree.Statement.{Statement}
use Rattle.qasm_expand.specs.declared.cost.Cost.{Cost}
use Rattle.qasm_expand.specs.Limits.{passing_from, line_of}
use Rattle.qasm_expand.specs.inside.Costs.{capped, capped_cost, statement_operations, statement_products, statement_cost, is_over}

-- the first statements are counted, and none of them passes a limit
pub record Passing (known : List Cost) (ss : List Statement) (i : ℕ) (total : Cost) : Type 0 where
  pub counted : total ≡ capped_cost (sum_by (statement_operations known) (take i ss)) (sum_by (statement_products known) (take i ss))
  pub so_far : passing_from (is_over known) [] ss ≡ passing_from (is_over known) (take i ss) (drop i ss)

-- a cap above a limit doesn't change the test
pub nat_lt-capped : (limit n : ℕ) → limit < 4294967295 → nat_lt limit (capped n) ≡ nat_lt limit n
nat_lt-capped limit n h = grind (arith, nat_tests)

-- one statement more
step_at : (pass : List Statement → Bool) (ss : List Statement) (i : ℕ) (s : Statement) → i < length ss → s ≡ get_or ss i s → passing_from pass (take i ss) (drop i ss) ≡ (if pass (take (i + 1) ss) then Some (line_of s) else passing_from pass (take (i + 1) ss) (drop (i + 1) ss))
unfolding passing_from
step_at pass ss i s h is =
    let rest : drop i ss ≡ s ∷ drop (i + 1) ss = drop_more ss i s h ∙ ap (λ x. x ∷ drop (i + 1) ss) (sym is) in
    let first : take i ss ++ s ∷ [] ≡ take (i + 1) ss = ap (λ x. take i ss ++ x ∷ []) is ∙ sym (take_more ss i s h) in
    ap (passing_from pass (take i ss)) rest ∙ ap (λ xs. if pass xs then Some (line_of s) else passing_from pass xs (drop (i + 1) ss)) first

pub passing_stops : (pass : List Statement → Bool) (ss : List Statement) (i : ℕ) (s : Statement) → i < length ss → s ≡ get_or ss i s → pass (take (i + 1) ss) ≡ true → passing_from pass (take i ss) (drop i ss) ≡ Some (line_of s)
passing_stops pass ss i s h is passes = step_at pass ss i s h is ∙ ap (λ b. if b then Some (line_of s) else passing_from pass (take (i + 1) ss) (drop (i + 1) ss)) passes

pub passing_goes : (pass : List Statement → Bool) (ss : List Statement) (i : ℕ) (s : Statement) → i < length ss → s ≡ get_or ss i s → pass (take (i + 1) ss) ≡ false → passing_from pass (take i ss) (drop i ss) ≡ passing_from pass (take (i + 1) ss) (drop (i + 1) ss)
passing_goes pass ss i s h is fails = step_at pass ss i s h is ∙ ap (λ b. if b then Some (line_of s) else passing_from pass (take (i + 1) ss) (drop (i + 1) ss)) fails

-- the total with one statement more
pub counted_more : (known : List Cost) (ss : List Statement) (i : ℕ) (s : Statement) (total more : Cost) → i < length ss → s ≡ get_or ss i s → Passing known ss i total → more ≡ capped_cost (total.operations + statement_operations known s) (total.products + statement_products known s) → more ≡ capped_cost (sum_by (statement_operations known) (take (i + 1) ss)) (sum_by (statement_products known) (take (i + 1) ss))
counted_more known ss i s total more h is passing next =
    let operations = statement_operations known in
    let products = statement_products known in
    let before : Cost = capped_cost (sum_by operations (take i ss)) (sum_by products (take i ss)) in
    next
    ∙ ap (λ (t : Cost). capped_cost (t.operations + operations s) (t.products + products s)) passing.counted
    ∙ capped_more (sum_by operations (take i ss)) (sum_by products (take i ss)) (statement_cost known s)
    ∙ ap (λ x. capped_cost (sum_by operations (take i ss) + operations x) (sum_by products (take i ss) + products x)) is
    ∙ ap (λ n. capped_cost n (sum_by products (take i ss) + products (get_or ss i s))) (sym (sum_by_more operations ss i s h))
    ∙ ap (λ n. capped_cost (sum_by operations (take (i + 1) ss)) n) (sym (sum_by_more products ss i s h))

-- the total tells whether the costs are past a limit
pub over : (known : List Cost) (ss : List Statement) (total : Cost) → total ≡ capped_cost (sum_by (statement_operations known) ss) (sum_by (statement_products known) ss) → (nat_lt 262144 total.operations || nat_lt 16384 total.products) ≡ is_over known ss
unfolding is_over
over known ss total counted =
    ap (λ (t : Cost). nat_lt 262144 t.operations || nat_lt 16384 t.products) counted
    ∙ ap (λ b. b || nat_lt 16384 (capped (sum_by (statement_products known) ss))) (nat_lt-capped 262144 (sum_by (statement_operations known) ss) (lit< tt))
    ∙ ap (λ b. nat_lt 262144 (sum_by (statement_operations known) ss) || b) (nat_lt-capped 16384 (sum_by (statement_products known) ss) (lit< tt))

-- an option that isn't any value
pub none_unless : (o : Option ℕ) → ((n : ℕ) → o ≡ Some n → ⊥) → o ≡ None
none_unless None never = refl
none_unless (Some n) never = absurd (never n refl)
