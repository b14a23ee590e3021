-- What is expanded is no longer than the flat count.
use Rattle.std.proofs.Common.{◌≡◌, ℕ, ◌+◌, ◌≤◌, List, [], ◌∷◌, ◌++◌, length, get_or, map, sum_by, slice_index, nat_lt, ◌||◌, Bool, true, false, Option, Some, None, if◌then◌else◌, refl, sym, ◌∙◌, ap, arith, length-append, append_assoc}
use Rattle.std.specs.List.{range_with_len}
use Rattle.std.proofs.lemmas.List.{append-nil}
use Rattle.std.proofs.lemmas.List.Sums.{sum_by-le-sum_by}
use Rattle.std.proofs.lemmas.List.Concat.{length-flat_map}
use Rattle.std.proofs.lemmas.List.FromFn.{length-map-range_with_len}
use Rattle.std.proofs.lemmas.Bool.Decides.{nat_tests}
use Rattle.std.proofs.lemmas.Option.{unwrap_or-slice_get, none-some}
use Rattle.qasm_parse.specs.declared.tree.Callee.{Callee}
use Rattle.qasm_parse.specs.declared.tree.Callee.TheVariants.{One, Two, Ccx, Swap, Defined}
use Rattle.qasm_parse.specs.declared.tree.BodyOp.{BodyOp}
use Rattle.qasm_parse.specs.declared.tree.BodyOp.TheVariants as ops
use Rattle.qasm_parse.specs.declared.tree.GateDef.{GateDef}
use Rattle.qasm_parse.specs.declared.tree.Statement.{Statement}
use Rattle.qasm_parse.specs.declared.tree.Statement.TheVariants as statements
use Rattle.qasm_parse.specs.declared.tree.Tree.{Tree}
use Rattle.qasm_parse.specs.Faults.{times, at_index}
use Rattle.qasm_expand.specs.declared.flat.Flat.{Flat}
use Rattle.qasm_expand.specs.Flats.{each_from, Calls, nothing, called, body_flats, definition_flats, calls_of, applied, measured, reset_at, conditional, indices, statement_flats, all_flats, flats_of}
use Rattle.qasm_expand.specs.Limits.{call_count, body_count, definition_count, counts_of, statement_count, flat_count, product_count, is_past, passing_from, passing, line_of}
use Rattle.qasm_expand.proofs.Counts.{alike_push, sum_by-indices}

-- no call of a definition makes more operations than it counts
record Bounded (calls : List Calls) (counts : List ℕ) : Type 0 where
  pub as_long : length calls ≡ length counts
  pub within : (k : ℕ) (qs : List ℕ) → length (get_or calls k nothing qs) ≤ get_or counts k 0

call_bounded : (calls : List Calls) (counts : List ℕ) → Bounded calls counts → (gate : Callee) (qs : List ℕ) → length (called calls gate qs) ≤ call_count counts gate
call_bounded calls counts bounded (One gate) qs = omega arith
call_bounded calls counts bounded (Two gate) qs = omega arith
call_bounded calls counts bounded Ccx qs = omega arith
call_bounded calls counts bounded Swap qs = omega arith
call_bounded calls counts bounded (Defined number) qs =
    let h : length (get_or calls number nothing qs) ≤ get_or counts number 0 = bounded.within number qs in
    let made = ap (λ (f : Calls). length (f qs)) (unwrap_or-slice_get calls number nothing) in
    omega (arith, made, unwrap_or-slice_get counts number 0)

body_bounded : (calls : List Calls) (counts : List ℕ) → Bounded calls counts → (qs : List ℕ) (op : BodyOp) → length (body_flats calls qs op) ≤ body_count counts op
body_bounded calls counts bounded qs (ops.Call gate formals) = call_bounded calls counts bounded gate (map (slice_index qs) formals)
body_bounded calls counts bounded qs ops.Barrier = omega arith

definition_bounded : (calls : List Calls) (counts : List ℕ) → Bounded calls counts → (d : GateDef) (qs : List ℕ) → length (definition_flats calls d qs) ≤ definition_count counts d
definition_bounded calls counts bounded d qs =
    let sum : sum_by (λ op. length (body_flats calls qs op)) d.body ≤ sum_by (body_count counts) d.body =
    sum_by-le-sum_by (λ op. length (body_flats calls qs op)) (body_count counts) d.body (body_bounded calls counts bounded qs) in
    omega (arith, sum, length-flat_map (body_flats calls qs) d.body)

bounded_push : (calls : List Calls) (counts : List ℕ) (d : GateDef) → Bounded calls counts → Bounded (calls ++ definition_flats calls d ∷ []) (counts ++ definition_count counts d ∷ [])
bounded_push calls counts d bounded = record {
  as_long = length-append calls (definition_flats calls d ∷ []) ∙ ap (λ n. n + 1) bounded.as_long ∙ sym (length-append counts (definition_count counts d ∷ []));
  within = alike_push (λ (f : Calls) (n : ℕ). (qs : List ℕ) → length (f qs) ≤ n) calls counts (definition_flats calls d) nothing (definition_count counts d) 0 bounded.as_long bounded.within (definition_bounded calls counts bounded d);
}

bounded_from : (calls : List Calls) (counts : List ℕ) (ds : List GateDef) → Bounded calls counts → Bounded (each_from definition_flats calls ds) (each_from definition_count counts ds)
unfolding each_from
bounded_from calls counts [] bounded = bounded
bounded_from calls counts (d ∷ ds) bounded = bounded_from (calls ++ definition_flats calls d ∷ []) (counts ++ definition_count counts d ∷ []) ds (bounded_push calls counts d bounded)

bounded_all : (gates : List GateDef) → Bounded (calls_of gates) (counts_of gates)
bounded_all gates = bounded_from [] [] gates (record { as_long = refl; within = λ k qs. omega arith })

each_length : (n : ℕ) (f : ℕ → Flat) → length (map f (range_with_len 0 n)) ≤ n
each_length n f = omega (arith, length-map-range_with_len f 0 n)

statement_bounded : (calls : List Calls) (counts : List ℕ) → Bounded calls counts → (s : Statement) → length (statement_flats calls s) ≤ statement_count counts s
statement_bounded calls counts bounded (statements.Call line gate args) =
    let each : ℕ → ℕ = λ i. length (applied calls gate args i) in
    let sum : sum_by each (indices args) ≤ sum_by (λ (i : ℕ). call_count counts gate) (indices args) =
    sum_by-le-sum_by each (λ (i : ℕ). call_count counts gate) (indices args) (λ i. call_bounded calls counts bounded gate (map (at_index i) args)) in
    omega (arith, sum, length-flat_map (applied calls gate args) (indices args), sum_by-indices (call_count counts gate) 0 (times args))
statement_bounded calls counts bounded (statements.Measure line from to) = each_length (times (from ∷ [])) (measured from to)
statement_bounded calls counts bounded (statements.Barrier line) = omega arith
statement_bounded calls counts bounded (statements.Reset line arg) = each_length (times (arg ∷ [])) (reset_at arg)
statement_bounded calls counts bounded (statements.If line first size value gate arg) = each_length (times (arg ∷ [])) (conditional first size value gate arg)

all_bounded : (tree : Tree) (ss : List Statement) → length (all_flats (calls_of tree.gates) ss) ≤ flat_count tree ss
all_bounded tree ss =
    let calls : List Calls = calls_of tree.gates in
    let counts : List ℕ = counts_of tree.gates in
    let sum : sum_by (λ s. length (statement_flats calls s)) ss ≤ sum_by (statement_count counts) ss =
    sum_by-le-sum_by (λ s. length (statement_flats calls s)) (statement_count counts) ss (statement_bounded calls counts (bounded_all tree.gates)) in
    omega (arith, sum, length-flat_map (statement_flats calls) ss)

-- a test that would stop didn't hold
stays : (b : Bool) (line : ℕ) (rest : Option ℕ) → (if b then Some line else rest) ≡ None → (b ≡ false) × (rest ≡ None)
stays true line rest none = absurd (none-some line (sym none))
stays false line rest none = (refl, none)

-- where no statement passes a limit, all of them together don't
whole_passes : (pass : List Statement → Bool) → (before ss : List Statement) → pass before ≡ false → passing_from pass before ss ≡ None → pass (before ++ ss) ≡ false
unfolding passing_from
whole_passes pass before [] ok none = ap pass (append-nil before) ∙ ok
whole_passes pass before (s ∷ ss) ok none =
    let both = stays (pass (before ++ s ∷ [])) (line_of s) (passing_from pass (before ++ s ∷ []) ss) none in
    ap pass (sym (append_assoc before (s ∷ []) ss)) ∙ whole_passes pass (before ++ s ∷ []) ss both.0 both.1

within_limits : (m n : ℕ) → (nat_lt 262144 m || nat_lt 16384 n) ≡ false → m ≤ 262144
within_limits m n h = grind (arith, nat_tests)

pub flats_bounded : (tree : Tree) → passing tree ≡ None → length (flats_of tree) ≤ 262144
unfolding is_past flats_of
flats_bounded tree none =
    let ok : is_past tree tree.statements ≡ false = whole_passes (is_past tree) [] tree.statements refl none in
    let few : flat_count tree tree.statements ≤ 262144 = within_limits (flat_count tree tree.statements) (product_count tree tree.statements) ok in
    omega (arith, few, all_bounded tree tree.statements)
