-- What flat operations act on.
use Rattle.std.proofs.Common.{◌≡◌, ◌≢◌, ℕ, zero, suc, ◌+◌, ◌<◌, ◌≤◌, Bool, true, false, List, [], ◌∷◌, length, get_or, take, map, slice_index, nat_eq, All, inl, inr, refl, sym, ◌∙◌, subst, arith}
use Rattle.std.specs.Prelude.{◌==◌, ◌||◌, ◌&&◌}
use Rattle.std.specs.List.{range_with_len, flat_map, list_any, list_all}
use Rattle.std.proofs.lemmas.Bool.{cases_lt}
use Rattle.std.proofs.lemmas.Bool.Decides.{nat_tests}
use Rattle.std.proofs.lemmas.List.{length-map, get_or-map}
use Rattle.std.proofs.lemmas.List.FromFn.{length-range_with_len, get_or-range_with_len}
use Rattle.std.proofs.lemmas.List.Elements.{All-nil, All-cons, All-head, All-tail, All-get_or, All-append, All-map, All-from_recursion}
use Rattle.qasm_parse.specs.declared.tree.Arg.{Arg}
use Rattle.qasm_parse.specs.declared.tree.Arg.TheVariants.{Whole, Single}
use Rattle.qasm_parse.specs.declared.tree.Callee.{Callee}
use Rattle.qasm_parse.specs.declared.tree.Callee.TheVariants.{One, Two, Ccx, Swap, Defined}
use Rattle.qasm_parse.specs.declared.tree.Gate2 as tree_gates
use Rattle.qasm_parse.specs.declared.tree.Gate2.TheVariants.{Cx}
use Rattle.qasm_parse.specs.declared.tree.BodyOp.{BodyOp}
use Rattle.qasm_parse.specs.declared.tree.BodyOp.TheVariants as ops
use Rattle.qasm_parse.specs.declared.tree.Statement.{Statement}
use Rattle.qasm_parse.specs.declared.tree.Statement.TheVariants as statements
use Rattle.qasm_parse.specs.declared.tree.Tree.{Tree}
use Rattle.qasm_parse.specs.Faults.{times, at_index, has_size, meets, any_pair, fit_together}
use Rattle.qasm_expand.specs.declared.flat.Flat.{Flat}
use Rattle.qasm_expand.specs.declared.flat.Flat.TheVariants.{Gate1, Gate2}
use Rattle.qasm_expand.specs.Flats.{ccx, swap, called, body_flats, calls_of, applied, measured, reset_at, conditional, indices, statement_flats, flats_of}
use Rattle.qasm_expand.specs.Placed.{IsPlaced}
use Rattle.qasm_expand.specs.Sound.{IsCall, IsSoundOp, AreSound, IsWithin, members, IsSoundCall, IsSoundStatement, IsSound}
use Rattle.qasm_expand.proofs.Calls.{rank, rank-take, IsCall-take, defined_at, defined_formals, called-Defined}

-- lists ----------------------------------------------------------------------------------------------------------------------

All-flat_map : {X A : Type 0} (P : A → Type 0) (Q : X → Type 0) (f : X → List A) → ((x : X) → Q x → All P (f x)) → (xs : List X) → All Q xs → All P (flat_map f xs)
All-flat_map P Q f each [] all = All-nil P
All-flat_map P Q f each (x ∷ xs) all = All-append P (f x) (flat_map f xs) (each x (All-head Q x xs all)) (All-flat_map P Q f each xs (All-tail Q x xs all))

All-indices : (P : ℕ → Type 0) (a n : ℕ) → ((i : ℕ) → i < a + n → P i) → All P (range_with_len a n)
All-indices P a zero each = All-nil P
All-indices P a (suc n) each = All-cons P a (range_with_len (a + 1) n) (each a (omega arith)) (All-indices P (a + 1) n (λ i h. each i (omega arith)))

left_false : (a b : Bool) → (a || b) ≡ false → a ≡ false
left_false true b e = e
left_false false b e = refl

right_false : (a b : Bool) → (a || b) ≡ false → b ≡ false
right_false true b e = absurd (let t : true ≡ false = e in cc)
right_false false b e = e

left_true : (a b : Bool) → (a && b) ≡ true → a ≡ true
left_true true b e = refl
left_true false b e = e

right_true : (a b : Bool) → (a && b) ≡ true → b ≡ true
right_true true b e = e
right_true false b e = absurd (let t : false ≡ true = e in cc)

none_passes : {X : Type 0} (p : X → Bool) (xs : List X) (k : ℕ) (d : X) → list_any p xs ≡ false → k < length xs → p (get_or xs k d) ≡ false
none_passes p [] k d e h = absurd (omega arith)
none_passes p (x ∷ xs) zero d e h = left_false (p x) (list_any p xs) e
none_passes p (x ∷ xs) (suc k) d e h = none_passes p xs k d (right_false (p x) (list_any p xs) e) (omega arith)

-- no two items stand in this relation
pair_fails : {X : Type 0} (r : X → X → Bool) (xs : List X) (i j : ℕ) (d : X) → any_pair r xs ≡ false → i < j → j < length xs → r (get_or xs i d) (get_or xs j d) ≡ false
pair_fails r [] i j d e less h = absurd (omega arith)
pair_fails r (x ∷ xs) i zero d e less h = absurd (omega arith)
pair_fails r (x ∷ xs) zero (suc j) d e less h = none_passes (r x) xs j d (left_false (list_any (r x) xs) (any_pair r xs) e) (omega arith)
pair_fails r (x ∷ xs) (suc i) (suc j) d e less h = pair_fails r xs i j d (right_false (list_any (r x) xs) (any_pair r xs) e) (omega arith) (omega arith)

differ : (m n : ℕ) → nat_eq m n ≡ false → m ≢ n
differ m n e = grind (arith, nat_tests)

-- qubits of a call -----------------------------------------------------------------------------------------------------------

-- qubits of a tree, none of which stands twice
record Qubits (n : ℕ) (qs : List ℕ) : Type 0 where
  pub within : All (λ q. q < n) qs
  pub apart : (i j : ℕ) → i < j → j < length qs → get_or qs i 0 ≢ get_or qs j 0

qubit_at : (n : ℕ) (qs : List ℕ) (i : ℕ) → Qubits n qs → i < length qs → get_or qs i 0 < n
qubit_at n qs i qubits h = All-get_or (λ q. q < n) qs i 0 h qubits.within

two_apart : (n : ℕ) (qs : List ℕ) (i j : ℕ) → Qubits n qs → i ≢ j → i < length qs → j < length qs → get_or qs i 0 ≢ get_or qs j 0
two_apart n qs i j qubits ne hi hj =
    elim (cases_lt i j) [
      | inl less ↦ qubits.apart i j less hj
      | inr more ↦ λ same. qubits.apart j i (omega arith) hi (sym same)
    ]

chosen_within : (n : ℕ) (qs args : List ℕ) → Qubits n qs → All (λ f. f < length qs) args → All (λ q. q < n) (map (slice_index qs) args)
chosen_within n qs [] qubits formal = All-nil (λ q. q < n)
chosen_within n qs (f ∷ fs) qubits formal =
    All-cons (λ q. q < n) (slice_index qs f) (map (slice_index qs) fs)
    (qubit_at n qs f qubits (All-head (λ f. f < length qs) f fs formal))
    (chosen_within n qs fs qubits (All-tail (λ f. f < length qs) f fs formal))

-- different formal numbers stand for different qubits
chosen_qubits : (n : ℕ) (qs args : List ℕ) → Qubits n qs → All (λ f. f < length qs) args → any_pair nat_eq args ≡ false → Qubits n (map (slice_index qs) args)
chosen_qubits n qs args qubits formal once = record {
  within = chosen_within n qs args qubits formal;
  apart = λ i j less h same.
      let long : length (map (slice_index qs) args) ≡ length args = length-map args (slice_index qs) in
      let hj : j < length args = omega arith in
      let hi : i < length args = omega arith in
      let ne : get_or args i 0 ≢ get_or args j 0 = differ (get_or args i 0) (get_or args j 0) (pair_fails nat_eq args i j 0 once less hj) in
      two_apart n qs (get_or args i 0) (get_or args j 0) qubits ne
      (All-get_or (λ f. f < length qs) args i 0 hi formal)
      (All-get_or (λ f. f < length qs) args j 0 hj formal)
      (sym (get_or-map (slice_index qs) args i 0 0 hi) ∙ same ∙ get_or-map (slice_index qs) args j 0 0 hj);
}

two_placed : (tree : Tree) (gate : tree_gates.Gate2) (qs : List ℕ) (i j : ℕ) → Qubits (members tree.quantum) qs → i ≢ j → i < length qs → j < length qs → IsPlaced tree (Gate2 gate (get_or qs i 0) (get_or qs j 0))
two_placed tree gate qs i j qubits ne hi hj = (qubit_at (members tree.quantum) qs i qubits hi, qubit_at (members tree.quantum) qs j qubits hj, two_apart (members tree.quantum) qs i j qubits ne hi hj)

ccx_placed : (tree : Tree) (qs : List ℕ) → length qs ≡ 3 → Qubits (members tree.quantum) qs → All (IsPlaced tree) (ccx (get_or qs 0 0) (get_or qs 1 0) (get_or qs 2 0))
ccx_placed tree qs three qubits =
    let n : ℕ = members tree.quantum in
    let a = qubit_at n qs 0 qubits (omega arith) in
    let b = qubit_at n qs 1 qubits (omega arith) in
    let c = qubit_at n qs 2 qubits (omega arith) in
    let bc = two_placed tree Cx qs 1 2 qubits (omega arith) (omega arith) (omega arith) in
    let ac = two_placed tree Cx qs 0 2 qubits (omega arith) (omega arith) (omega arith) in
    let ab = two_placed tree Cx qs 0 1 qubits (omega arith) (omega arith) (omega arith) in
    All-from_recursion (IsPlaced tree) (ccx (get_or qs 0 0) (get_or qs 1 0) (get_or qs 2 0))
    (c, (bc, (c, (ac, (c, (bc, (c, (ac, (b, (c, (c, (ab, (a, (b, (ab, tt)))))))))))))))

swap_placed : (tree : Tree) (qs : List ℕ) → length qs ≡ 2 → Qubits (members tree.quantum) qs → All (IsPlaced tree) (swap (get_or qs 0 0) (get_or qs 1 0))
swap_placed tree qs two qubits =
    let ab = two_placed tree Cx qs 0 1 qubits (omega arith) (omega arith) (omega arith) in
    let ba = two_placed tree Cx qs 1 0 qubits (omega arith) (omega arith) (omega arith) in
    All-from_recursion (IsPlaced tree) (swap (get_or qs 0 0) (get_or qs 1 0)) (ab, (ba, (ab, tt)))

-- calls of gates of a rank below a bound
call_placed : (tree : Tree) → AreSound tree.gates → (bound : ℕ) (gate : Callee) (qs : List ℕ) → rank gate < bound → IsCall tree.gates gate (length qs) → Qubits (members tree.quantum) qs → All (IsPlaced tree) (called (calls_of tree.gates) gate qs)
call_placed tree sound zero gate qs low call qubits = absurd (omega arith)
call_placed tree sound (suc bound) (One gate) qs low call qubits =
    let inside : 0 < length qs = omega (arith, call) in
    All-cons (IsPlaced tree) (Gate1 gate (get_or qs 0 0)) [] (qubit_at (members tree.quantum) qs 0 qubits inside) (All-nil (IsPlaced tree))
call_placed tree sound (suc bound) (Two gate) qs low call qubits =
    let two : length qs ≡ 2 = call in
    All-cons (IsPlaced tree) (Gate2 gate (get_or qs 0 0) (get_or qs 1 0)) [] (two_placed tree gate qs 0 1 qubits (omega arith) (omega arith) (omega arith)) (All-nil (IsPlaced tree))
call_placed tree sound (suc bound) Ccx qs low call qubits = ccx_placed tree qs call qubits
call_placed tree sound (suc bound) Swap qs low call qubits = swap_placed tree qs call qubits
call_placed tree sound (suc bound) (Defined number) qs low call qubits =
    let d = defined_at tree.gates number (length qs) call in
    let IsSoundHere : BodyOp → Type 0 = IsSoundOp (take number tree.gates) d.0.formals in
    let formals : length qs ≡ d.0.formals = defined_formals tree.gates number (length qs) d.0 d.1 call in
    subst (All (IsPlaced tree)) (sym (called-Defined tree.gates number d.0 qs sound d.1))
    (All-flat_map (IsPlaced tree) IsSoundHere (body_flats (calls_of tree.gates) qs)
    (body_placed tree number d.0.formals qs formals qubits (λ gate args lower known fits. call_placed tree sound bound gate args (omega arith) known fits))
    d.0.body (sound.each number d.0 d.1))
  where
    body_placed : (tree : Tree) (number formals : ℕ) (qs : List ℕ) → length qs ≡ formals → Qubits (members tree.quantum) qs → ((gate : Callee) (args : List ℕ) → rank gate < 1 + number → IsCall tree.gates gate (length args) → Qubits (members tree.quantum) args → All (IsPlaced tree) (called (calls_of tree.gates) gate args)) → (op : BodyOp) → IsSoundOp (take number tree.gates) formals op → All (IsPlaced tree) (body_flats (calls_of tree.gates) qs op)
    body_placed tree number formals qs long qubits each (ops.Call gate args) op =
        let known : IsCall tree.gates gate (length args) = IsCall-take tree.gates number gate (length args) op.call in
        let formal : All (λ f. f < length qs) args = subst (λ n. All (λ f. f < n) args) (sym long) op.formal in
        each gate (map (slice_index qs) args) (rank-take tree.gates number gate (length args) op.call)
        (subst (IsCall tree.gates gate) (sym (length-map args (slice_index qs))) known)
        (chosen_qubits (members tree.quantum) qs args qubits formal op.apart)
    body_placed tree number formals qs long qubits each ops.Barrier op = All-nil (IsPlaced tree)

-- statements -----------------------------------------------------------------------------------------------------------------

same_size : (m n : ℕ) → (m == n) ≡ true → m ≡ n
same_size m n e = grind (arith, nat_tests)

at_index_within : (n i size : ℕ) (arg : Arg) → IsWithin n arg → has_size size arg ≡ true → i < size → at_index i arg < n
at_index_within n i size (Whole first s) within same h =
    let equal : s ≡ size = same_size s size same in
    let fits : first + s ≤ n = within in
    omega arith
at_index_within n i size (Single index) within same h = within

args_within : (n i size : ℕ) (args : List Arg) → All (IsWithin n) args → list_all (has_size size) args ≡ true → i < size → All (λ q. q < n) (map (at_index i) args)
args_within n i size [] within same h = All-nil (λ q. q < n)
args_within n i size (arg ∷ args) within same h =
    All-cons (λ q. q < n) (at_index i arg) (map (at_index i) args)
    (at_index_within n i size arg (All-head (IsWithin n) arg args within) (left_true (has_size size arg) (list_all (has_size size) args) same) h)
    (args_within n i size args (All-tail (IsWithin n) arg args within) (right_true (has_size size arg) (list_all (has_size size) args) same) h)

differ_at : (m n : ℕ) → (m == n) ≡ false → m ≢ n
differ_at m n e = grind (arith, nat_tests)

apart_at : (n i : ℕ) (a b : Arg) → meets n a b ≡ false → i < n → at_index i a ≢ at_index i b
apart_at n i a b e h =
    let at : get_or (range_with_len 0 n) i 0 ≡ i = get_or-range_with_len 0 n i 0 h ∙ omega arith in
    let inside : i < length (range_with_len 0 n) = omega (arith, length-range_with_len 0 n) in
    differ_at (at_index i a) (at_index i b) (subst (λ k. (at_index k a == at_index k b) ≡ false) at (none_passes (λ k. at_index k a == at_index k b) (range_with_len 0 n) i 0 e inside))

call_qubits : (tree : Tree) (gate : Callee) (args : List Arg) → IsSoundCall tree gate args → (i : ℕ) → i < times args → Qubits (members tree.quantum) (map (at_index i) args)
call_qubits tree gate args sound i h = record {
  within = args_within (members tree.quantum) i (times args) args sound.within sound.equal h;
  apart = λ j k less inside same.
      let long : length (map (at_index i) args) ≡ length args = length-map args (at_index i) in
      let hk : k < length args = omega arith in
      let hj : j < length args = omega arith in
      apart_at (times args) i (get_or args j (Single 0)) (get_or args k (Single 0))
      (pair_fails (meets (times args)) args j k (Single 0) sound.apart less hk) h
      (sym (get_or-map (at_index i) args j (Single 0) 0 hj) ∙ same ∙ get_or-map (at_index i) args k (Single 0) 0 hk);
}

one_within : (n i : ℕ) (arg : Arg) → IsWithin n arg → i < times (arg ∷ []) → at_index i arg < n
one_within n i (Whole first size) within h = let fits : first + size ≤ n = within in omega arith
one_within n i (Single index) within h = within

bit_within : (n i : ℕ) (from to : Arg) → IsWithin n to → fit_together from to ≡ true → i < times (from ∷ []) → at_index i to < n
bit_within n i (Whole first size) (Whole into bits) within together h =
    let equal : size ≡ bits = same_size size bits together in
    let fits : into + bits ≤ n = within in
    omega arith
bit_within n i (Whole first size) (Single bit) within together h = within
bit_within n i (Single qubit) (Whole into bits) within together h = absurd (let t : false ≡ true = together in cc)
bit_within n i (Single qubit) (Single bit) within together h = within

made_placed : (tree : Tree) (f : ℕ → Flat) (n : ℕ) → ((i : ℕ) → i < n → IsPlaced tree (f i)) → All (IsPlaced tree) (map f (range_with_len 0 n))
made_placed tree f n each = All-map (IsPlaced tree) f (range_with_len 0 n) (All-indices (λ i. IsPlaced tree (f i)) 0 n (λ i h. each i (omega arith)))

statement_placed : (tree : Tree) → IsSound tree → (s : Statement) → IsSoundStatement tree s → All (IsPlaced tree) (statement_flats (calls_of tree.gates) s)
statement_placed tree sound (statements.Call line gate args) here =
    let flats : ℕ → List Flat = applied (calls_of tree.gates) gate args in
    All-flat_map (IsPlaced tree) (λ i. i < times args) flats
    (λ i h. call_placed tree sound.gates (1 + rank gate) gate (map (at_index i) args) (omega arith) (subst (IsCall tree.gates gate) (sym (length-map args (at_index i))) here.call) (call_qubits tree gate args here i h))
    (indices args) (All-indices (λ i. i < times args) 0 (times args) (λ i h. omega arith))
statement_placed tree sound (statements.Measure line from to) here =
    made_placed tree (measured from to) (times (from ∷ [])) (λ i h. (one_within (members tree.quantum) i from here.qubits h, bit_within (members tree.classical) i from to here.bits here.together h))
statement_placed tree sound (statements.Barrier line) here = All-nil (IsPlaced tree)
statement_placed tree sound (statements.Reset line arg) here = made_placed tree (reset_at arg) (times (arg ∷ [])) (λ i h. one_within (members tree.quantum) i arg here h)
statement_placed tree sound (statements.If line first size value gate arg) here =
    made_placed tree (conditional first size value gate arg) (times (arg ∷ [])) (λ i h. (one_within (members tree.quantum) i arg here.within h, here.register, here.gate_allowed))

pub flats_placed : (tree : Tree) → IsSound tree → All (IsPlaced tree) (flats_of tree)
unfolding flats_of
flats_placed tree sound = All-flat_map (IsPlaced tree) (IsSoundStatement tree) (statement_flats (calls_of tree.gates)) (statement_placed tree sound) tree.statements sound.statements
