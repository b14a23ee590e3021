-- The costs that the code keeps are the counts of the tree, as far as a word goes.
use Rattle.std.proofs.Common.{◌≡◌, ℕ, zero, suc, Bool, ◌+◌, ◌*◌, ◌<◌, ◌||◌, nat_lt, List, [], ◌∷◌, ◌++◌, length, get_or, map, sum_by, slice_index, refl, sym, ◌∙◌, ap, arith, length-append, lit<, Some, if◌then◌else◌}
use Rattle.std.specs.List.{range_with_len, flat_map}
use Rattle.std.proofs.lemmas.List.Sums.{sum_by-append, sum_by-cons}
use Rattle.std.proofs.lemmas.Option.{unwrap_or-slice_get}
use Rattle.qasm_parse.specs.declared.tree.Callee.{Callee}
use Rattle.qasm_parse.specs.declared.tree.Callee.TheVariants.{One, Two, Ccx, Swap, Defined}
use Rattle.qasm_parse.specs.declared.tree.Gate1 as tree_gate
use Rattle.qasm_parse.specs.declared.tree.Gate1.TheVariants.{Id, X, Y, Z, H, S, Sdg, Sx, Sxdg, T, Tdg}
use Rattle.qasm_parse.specs.declared.tree.BodyOp.{BodyOp}
use Rattle.qasm_parse.specs.declared.tree.BodyOp.TheVariants as ops
use Rattle.qasm_parse.specs.declared.tree.GateDef.{GateDef}
use Rattle.qasm_parse.specs.declared.tree.Statement.{Statement}
use Rattle.qasm_parse.specs.declared.tree.Statement.TheVariants as statements
use Rattle.qasm_parse.specs.declared.tree.Tree.{Tree}
use Rattle.qasm_parse.specs.Faults.{times, at_index}
use Rattle.qasm_expand.specs.declared.cost.Cost.{Cost}
use Rattle.qasm_expand.specs.declared.flat.Flat.{Flat}
use Rattle.qasm_expand.specs.Flats.{each_from, Calls, nothing, called, body_flats, definition_flats, calls_of, applied, measured, reset_at, conditional, indices, statement_flats}
use Rattle.qasm_expand.specs.Limits.{call_count, body_count, definition_count, counts_of, statement_count, gate_products, if_products, products, flat_count, product_count, is_past, passing_from, passing, line_of}
use Rattle.qasm_expand.specs.inside.Costs.{capped, cost, call_cost, op_operations, op_products, definition_cost, costs_of, statement_operations, statement_products, is_over}
use Rattle.qasm_expand.proofs.Limits.{nat_lt-capped}

-- sums -----------------------------------------------------------------------------------------------------------------------

pub sum_by-flat_map : {X A : Type 0} (f : A → ℕ) (h : X → List A) (xs : List X) → sum_by f (flat_map h xs) ≡ sum_by (λ x. sum_by f (h x)) xs
sum_by-flat_map f h [] = refl
sum_by-flat_map f h (x ∷ xs) = sum_by-append f (h x) (flat_map h xs) ∙ ap (λ n. sum_by f (h x) + n) (sum_by-flat_map f h xs) ∙ sym (sum_by-cons (λ y. sum_by f (h y)) x xs)

pub sum_by-map : {X A : Type 0} (f : A → ℕ) (h : X → A) (xs : List X) → sum_by f (map h xs) ≡ sum_by (λ x. f (h x)) xs
sum_by-map f h [] = refl
sum_by-map f h (x ∷ xs) = sum_by-cons f (h x) (map h xs) ∙ ap (λ n. f (h x) + n) (sum_by-map f h xs) ∙ sym (sum_by-cons (λ y. f (h y)) x xs)

pub sum_by-same : {X : Type 0} (f g : X → ℕ) → ((x : X) → f x ≡ g x) → (xs : List X) → sum_by f xs ≡ sum_by g xs
sum_by-same f g same [] = refl
sum_by-same f g same (x ∷ xs) = sum_by-cons f x xs ∙ ap (λ n. n + sum_by f xs) (same x) ∙ ap (λ n. g x + n) (sum_by-same f g same xs) ∙ sym (sum_by-cons g x xs)

pub sum_by-indices : (m a n : ℕ) → sum_by (λ (i : ℕ). m) (range_with_len a n) ≡ n * m
sum_by-indices m a zero = omega arith
sum_by-indices m a (suc n) =
    let more : m + n * m ≡ suc n * m = omega arith in
    sum_by-cons (λ (i : ℕ). m) a (range_with_len (a + 1) n) ∙ ap (λ k. m + k) (sum_by-indices m (a + 1) n) ∙ more

capped_step : (a x y s t : ℕ) → x ≡ capped y → capped (a + capped y + s) ≡ capped (a + capped y + t) → capped (a + (x + s)) ≡ capped (a + (y + t))
capped_step a x y s t e h = omega arith

-- a sum of capped numbers is the sum of the numbers, as far as a word goes
pub capped-sum_by : {X : Type 0} (f g : X → ℕ) → ((x : X) → f x ≡ capped (g x)) → (a : ℕ) (xs : List X) → capped (a + sum_by f xs) ≡ capped (a + sum_by g xs)
capped-sum_by f g same a [] = refl
capped-sum_by f g same a (x ∷ xs) =
    ap (λ n. capped (a + n)) (sum_by-cons f x xs)
    ∙ capped_step a (f x) (g x) (sum_by f xs) (sum_by g xs) (same x) (capped-sum_by f g same (a + capped (g x)) xs)
    ∙ ap (λ n. capped (a + n)) (sym (sum_by-cons g x xs))

pub capped_sum : {X : Type 0} (f g : X → ℕ) → ((x : X) → f x ≡ capped (g x)) → (xs : List X) → capped (sum_by f xs) ≡ capped (sum_by g xs)
capped_sum f g same xs =
    let h : capped (0 + sum_by f xs) ≡ capped (0 + sum_by g xs) = capped-sum_by f g same 0 xs in
    omega arith

capped_times : (n m : ℕ) → capped (n * capped m) ≡ capped (n * m)
capped_times n m = ap capped (sym (sum_by-indices (capped m) 0 n)) ∙ capped_sum (λ (i : ℕ). capped m) (λ (i : ℕ). m) (λ i. refl) (range_with_len 0 n) ∙ ap capped (sum_by-indices m 0 n)

-- lists in step --------------------------------------------------------------------------------------------------------------

-- two lists stay alike when alike items are appended
pub alike_push : {A B : Type 0} (R : A → B → Type 0) (xs : List A) (ys : List B) (a c : A) (b d : B) → length xs ≡ length ys → ((k : ℕ) → R (get_or xs k c) (get_or ys k d)) → R a b → (k : ℕ) → R (get_or (xs ++ a ∷ []) k c) (get_or (ys ++ b ∷ []) k d)
alike_push R [] [] a c b d same alike new zero = new
alike_push R [] [] a c b d same alike new (suc k) = alike 0
alike_push R [] (y ∷ ys) a c b d same alike new k = absurd (omega arith)
alike_push R (x ∷ xs) [] a c b d same alike new k = absurd (omega arith)
alike_push R (x ∷ xs) (y ∷ ys) a c b d same alike new zero = alike 0
alike_push R (x ∷ xs) (y ∷ ys) a c b d same alike new (suc k) = alike_push R xs ys a c b d (omega arith) (λ n. alike (suc n)) new k

-- the costs of definitions are what calls of them count, and the products of their operations
pub record Agree (costs : List Cost) (counts : List ℕ) (calls : List Calls) : Type 0 where
  pub as_counts : length costs ≡ length counts
  pub as_calls : length costs ≡ length calls
  pub operations : (k : ℕ) → (get_or costs k (cost 0 0)).operations ≡ capped (get_or counts k 0)
  pub products : (k : ℕ) (qs : List ℕ) → (get_or costs k (cost 0 0)).products ≡ capped (sum_by products (get_or calls k nothing qs))

gate-capped : (gate : tree_gate.Gate1) → gate_products gate ≡ capped (0 + gate_products gate)
gate-capped Id = refl
gate-capped X = refl
gate-capped Y = refl
gate-capped Z = refl
gate-capped H = refl
gate-capped S = refl
gate-capped Sdg = refl
gate-capped Sx = refl
gate-capped Sxdg = refl
gate-capped T = refl
gate-capped Tdg = refl

pub call_operations : (costs : List Cost) (counts : List ℕ) (calls : List Calls) → Agree costs counts calls → (gate : Callee) → (call_cost costs gate).operations ≡ capped (call_count counts gate)
call_operations costs counts calls agree (One gate) = refl
call_operations costs counts calls agree (Two gate) = refl
call_operations costs counts calls agree Ccx = refl
call_operations costs counts calls agree Swap = refl
call_operations costs counts calls agree (Defined number) =
    ap (λ (c : Cost). c.operations) (unwrap_or-slice_get costs number (cost 0 0)) ∙ agree.operations number ∙ ap capped (sym (unwrap_or-slice_get counts number 0))

pub call_products : (costs : List Cost) (counts : List ℕ) (calls : List Calls) → Agree costs counts calls → (gate : Callee) (qs : List ℕ) → (call_cost costs gate).products ≡ capped (sum_by products (called calls gate qs))
call_products costs counts calls agree (One gate) qs = gate-capped gate
call_products costs counts calls agree (Two gate) qs = refl
call_products costs counts calls agree Ccx qs = refl
call_products costs counts calls agree Swap qs = refl
call_products costs counts calls agree (Defined number) qs =
    ap (λ (c : Cost). c.products) (unwrap_or-slice_get costs number (cost 0 0)) ∙ agree.products number qs ∙ ap (λ (f : Calls). capped (sum_by products (f qs))) (sym (unwrap_or-slice_get calls number nothing))

body_operations : (costs : List Cost) (counts : List ℕ) (calls : List Calls) → Agree costs counts calls → (op : BodyOp) → op_operations costs op ≡ capped (body_count counts op)
body_operations costs counts calls agree (ops.Call gate formals) = call_operations costs counts calls agree gate
body_operations costs counts calls agree ops.Barrier = refl

body_products : (costs : List Cost) (counts : List ℕ) (calls : List Calls) → Agree costs counts calls → (qs : List ℕ) (op : BodyOp) → op_products costs op ≡ capped (sum_by products (body_flats calls qs op))
body_products costs counts calls agree qs (ops.Call gate formals) = call_products costs counts calls agree gate (map (slice_index qs) formals)
body_products costs counts calls agree qs ops.Barrier = refl

definition_operations : (costs : List Cost) (counts : List ℕ) (calls : List Calls) → Agree costs counts calls → (d : GateDef) → (definition_cost costs d).operations ≡ capped (definition_count counts d)
unfolding definition_cost
definition_operations costs counts calls agree d = capped-sum_by (op_operations costs) (body_count counts) (body_operations costs counts calls agree) 1 d.body

definition_products : (costs : List Cost) (counts : List ℕ) (calls : List Calls) → Agree costs counts calls → (d : GateDef) (qs : List ℕ) → (definition_cost costs d).products ≡ capped (sum_by products (definition_flats calls d qs))
unfolding definition_cost
definition_products costs counts calls agree d qs =
    capped_sum (op_products costs) (λ op. sum_by products (body_flats calls qs op)) (body_products costs counts calls agree qs) d.body
    ∙ ap capped (sym (sum_by-flat_map products (body_flats calls qs) d.body))

agree_push : (costs : List Cost) (counts : List ℕ) (calls : List Calls) (d : GateDef) → Agree costs counts calls → Agree (costs ++ definition_cost costs d ∷ []) (counts ++ definition_count counts d ∷ []) (calls ++ definition_flats calls d ∷ [])
agree_push costs counts calls d agree = record {
  as_counts = length-append costs (definition_cost costs d ∷ []) ∙ ap (λ n. n + 1) agree.as_counts ∙ sym (length-append counts (definition_count counts d ∷ []));
  as_calls = length-append costs (definition_cost costs d ∷ []) ∙ ap (λ n. n + 1) agree.as_calls ∙ sym (length-append calls (definition_flats calls d ∷ []));
  operations = alike_push (λ (c : Cost) (n : ℕ). c.operations ≡ capped n) costs counts (definition_cost costs d) (cost 0 0) (definition_count counts d) 0 agree.as_counts agree.operations (definition_operations costs counts calls agree d);
  products = alike_push (λ (c : Cost) (f : Calls). (qs : List ℕ) → c.products ≡ capped (sum_by products (f qs))) costs calls (definition_cost costs d) (cost 0 0) (definition_flats calls d) nothing agree.as_calls agree.products (definition_products costs counts calls agree d);
}

agree_from : (costs : List Cost) (counts : List ℕ) (calls : List Calls) (ds : List GateDef) → Agree costs counts calls → Agree (each_from definition_cost costs ds) (each_from definition_count counts ds) (each_from definition_flats calls ds)
unfolding each_from
agree_from costs counts calls [] agree = agree
agree_from costs counts calls (d ∷ ds) agree = agree_from (costs ++ definition_cost costs d ∷ []) (counts ++ definition_count counts d ∷ []) (calls ++ definition_flats calls d ∷ []) ds (agree_push costs counts calls d agree)

pub agree_all : (gates : List GateDef) → Agree (costs_of gates) (counts_of gates) (calls_of gates)
agree_all gates = agree_from [] [] [] gates (record { as_counts = refl; as_calls = refl; operations = λ k. refl; products = λ k qs. refl })

-- statements -----------------------------------------------------------------------------------------------------------------

statement-operations : (costs : List Cost) (counts : List ℕ) (calls : List Calls) → Agree costs counts calls → (s : Statement) → statement_operations costs s ≡ capped (statement_count counts s)
statement-operations costs counts calls agree (statements.Call line gate args) =
    ap (λ n. capped (times args * n)) (call_operations costs counts calls agree gate) ∙ capped_times (times args) (call_count counts gate)
statement-operations costs counts calls agree (statements.Measure line from to) = omega arith
statement-operations costs counts calls agree (statements.Barrier line) = refl
statement-operations costs counts calls agree (statements.Reset line arg) = omega arith
statement-operations costs counts calls agree (statements.If line first size value gate arg) = omega arith

each_products : (m n : ℕ) (f : ℕ → Flat) → ((i : ℕ) → products (f i) ≡ m) → sum_by products (map f (range_with_len 0 n)) ≡ n * m
each_products m n f same = sum_by-map products f (range_with_len 0 n) ∙ sum_by-same (λ i. products (f i)) (λ (i : ℕ). m) same (range_with_len 0 n) ∙ sum_by-indices m 0 n

statement-products : (costs : List Cost) (counts : List ℕ) (calls : List Calls) → Agree costs counts calls → (s : Statement) → statement_products costs s ≡ capped (sum_by products (statement_flats calls s))
statement-products costs counts calls agree (statements.Call line gate args) =
    let each : ℕ → ℕ = λ i. sum_by products (applied calls gate args i) in
    ap capped (sym (sum_by-indices (call_cost costs gate).products 0 (times args)))
    ∙ capped_sum (λ (i : ℕ). (call_cost costs gate).products) each (λ i. call_products costs counts calls agree gate (map (at_index i) args)) (indices args)
    ∙ ap capped (sym (sum_by-flat_map products (applied calls gate args) (indices args)))
statement-products costs counts calls agree (statements.Measure line from to) = ap capped (sym (each_products 1 (times (from ∷ [])) (measured from to) (λ i. refl)))
statement-products costs counts calls agree (statements.Barrier line) = refl
statement-products costs counts calls agree (statements.Reset line arg) = ap capped (sym (each_products 2 (times (arg ∷ [])) (reset_at arg) (λ i. refl)))
statement-products costs counts calls agree (statements.If line first size value gate arg) = ap capped (sym (each_products (if_products gate) (times (arg ∷ [])) (conditional first size value gate arg) (λ i. refl)))

same_test : (limit m n : ℕ) → limit < 4294967295 → capped m ≡ capped n → nat_lt limit m ≡ nat_lt limit n
same_test limit m n h same = sym (nat_lt-capped limit m h) ∙ ap (nat_lt limit) same ∙ nat_lt-capped limit n h

-- the limits are passed by the costs where they are passed by the counts
pub is_over-costs : (tree : Tree) (ss : List Statement) → is_over (costs_of tree.gates) ss ≡ is_past tree ss
unfolding is_over is_past
is_over-costs tree ss =
    let costs : List Cost = costs_of tree.gates in
    let counts : List ℕ = counts_of tree.gates in
    let calls : List Calls = calls_of tree.gates in
    let agree : Agree costs counts calls = agree_all tree.gates in
    let operations : capped (sum_by (statement_operations costs) ss) ≡ capped (flat_count tree ss) =
    capped_sum (statement_operations costs) (statement_count counts) (statement-operations costs counts calls agree) ss in
    let made : capped (sum_by (statement_products costs) ss) ≡ capped (product_count tree ss) =
    capped_sum (statement_products costs) (λ s. sum_by products (statement_flats calls s)) (statement-products costs counts calls agree) ss
    ∙ ap capped (sym (sum_by-flat_map products (statement_flats calls) ss)) in
    ap (λ b. b || nat_lt 16384 (sum_by (statement_products costs) ss)) (same_test 262144 (sum_by (statement_operations costs) ss) (flat_count tree ss) (lit< tt) operations)
    ∙ ap (λ b. nat_lt 262144 (flat_count tree ss) || b) (same_test 16384 (sum_by (statement_products costs) ss) (product_count tree ss) (lit< tt) made)

passing_from-same : (p q : List Statement → Bool) → ((ss : List Statement) → p ss ≡ q ss) → (before ss : List Statement) → passing_from p before ss ≡ passing_from q before ss
unfolding passing_from
passing_from-same p q same before [] = refl
passing_from-same p q same before (s ∷ ss) =
    ap (λ b. if b then Some (line_of s) else passing_from p (before ++ s ∷ []) ss) (same (before ++ s ∷ []))
    ∙ ap (λ o. if q (before ++ s ∷ []) then Some (line_of s) else o) (passing_from-same p q same (before ++ s ∷ []) ss)

-- the costs find the statement by which a limit is passed
pub passing-costs : (tree : Tree) → passing_from (is_over (costs_of tree.gates)) [] tree.statements ≡ passing tree
passing-costs tree = passing_from-same (is_over (costs_of tree.gates)) (is_past tree) (is_over-costs tree) [] tree.statements
