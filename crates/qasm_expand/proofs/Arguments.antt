-- What arguments, calls and bodies mean where their names break no rule.
use Rattle.std.proofs.Common.{◌≡◌, ℕ, ◌+◌, ◌<◌, ◌≤◌, Bool, true, false, List, [], ◌∷◌, length, map, slice_get, nat_eq, All, Option, Some, None, refl, sym, ◌∙◌, ap, subst, arith}
use Rattle.std.specs.Prelude.{◌==◌, not, nat_le, is_none, unwrap_or, if◌then◌else◌, codes}
use Rattle.std.specs.Str.{bytes_eq}
use Rattle.std.proofs.lemmas.List.{length-map}
use Rattle.std.proofs.lemmas.List.Elements.{All-nil, All-cons, All-head, All-tail}
use Rattle.std.proofs.lemmas.List.Quantifiers.{position-Some}
use Rattle.std.proofs.lemmas.Option.{none-some, same_Some, option_and_then_some}
use Rattle.qasm_lex.specs.declared.fault.FaultKind.TheVariants.{Undeclared, Index, Arity, Sizes, SameQubit, TooMany}
use Rattle.qasm_parse.specs.declared.stop.Stop.{Stop}
use Rattle.qasm_grammar.specs.declared.spoken.Argument.{Argument}
use Rattle.qasm_grammar.specs.declared.spoken.Argument.TheVariants as arguments
use Rattle.qasm_grammar.specs.declared.spoken.BodyStatement.{BodyStatement}
use Rattle.qasm_grammar.specs.declared.spoken.BodyStatement.TheVariants as bodies
use Rattle.qasm_parse.specs.declared.tree.Arg.{Arg}
use Rattle.qasm_parse.specs.declared.tree.GateDef.{GateDef}
use Rattle.qasm_parse.specs.declared.tree.Gate1.{Gate1}
use Rattle.qasm_parse.specs.declared.tree.Gate1.TheVariants as ones
use Rattle.qasm_parse.specs.declared.tree.Tree.{Tree}
use Rattle.qasm_parse.specs.declared.known.Known.{Known}
use Rattle.qasm_parse.specs.declared.known.Span.{Span}
use Rattle.qasm_parse.specs.declared.known.Called.{Called}
use Rattle.qasm_parse.specs.declared.known.Meaning.{Meaning}
use Rattle.qasm_parse.specs.declared.known.Meaning.TheVariants.{Quantum, Classical, Gate}
use Rattle.qasm_parse.specs.Lexed.{Lexed, word_at, number_at}
use Rattle.qasm_parse.specs.Gates.{cx, built_in, larger_built_in, pauli_of}
use Rattle.qasm_parse.specs.Known.{place_of, meaning_of, quantum_span, classical_span, called_gate, is_gate, quantum_named, classical_named, gate_named, is_own_gate}
use Rattle.qasm_parse.specs.Faults.{broken, first_fault, Registers, name_place, register_of, undeclared, past_end, argument_faults, meant, all_meant, are_equal, meets_itself, call_faults, informal, formal_of, body_call_faults, body_faults, any_pair}
use Rattle.qasm_parse.specs.Behind.{gate_of, op_of, first_of}
use Rattle.qasm_expand.specs.Sound.{IsCall, IsSoundOp, IsSoundBodyCall, IsWithin, members, is_conditional, IsSoundCall}
use Rattle.qasm_expand.proofs.Unbroken.{none_front, none_behind, none_here, none_rest, unbroken, same_number, affirmed, not_le, named_gate}
use Rattle.qasm_expand.proofs.Growing.{All-slice_get, IsMeaning, IsKnown}

-- names ----------------------------------------------------------------------------------------------------------------------

meaning_sound : (k : Known) → IsKnown k → (name : List ℕ) (m : Meaning) → meaning_of k name ≡ Some m → IsMeaning k.tree m
meaning_sound k known name m e = option_and_then_some (slice_get k.meanings) (place_of k.names name) m e (λ i place at. All-slice_get (IsMeaning k.tree) k.meanings i m at known.meanings)

quantum_span_sound : (tree : Tree) (o : Option Meaning) (r : Span) → ((m : Meaning) → o ≡ Some m → IsMeaning tree m) → quantum_span o ≡ Some r → r.first + r.size ≤ members tree.quantum
quantum_span_sound tree None r h e = absurd (none-some r e)
quantum_span_sound tree (Some (Quantum span)) r h e = subst (λ (s : Span). s.first + s.size ≤ members tree.quantum) (same_Some span r e) (h (Quantum span) refl)
quantum_span_sound tree (Some (Classical span)) r h e = absurd (none-some r e)
quantum_span_sound tree (Some (Gate called)) r h e = absurd (none-some r e)

classical_span_sound : (tree : Tree) (o : Option Meaning) (r : Span) → ((m : Meaning) → o ≡ Some m → IsMeaning tree m) → classical_span o ≡ Some r → IsMeaning tree (Classical r)
classical_span_sound tree None r h e = absurd (none-some r e)
classical_span_sound tree (Some (Quantum span)) r h e = absurd (none-some r e)
classical_span_sound tree (Some (Classical span)) r h e = subst (λ (s : Span). IsMeaning tree (Classical s)) (same_Some span r e) (h (Classical span) refl)
classical_span_sound tree (Some (Gate called)) r h e = absurd (none-some r e)

pub quantum_sound : (k : Known) → IsKnown k → (name : List ℕ) (r : Span) → quantum_named k name ≡ Some r → r.first + r.size ≤ members k.tree.quantum
quantum_sound k known name r e = quantum_span_sound k.tree (meaning_of k name) r (meaning_sound k known name) e

pub classical_sound : (k : Known) → IsKnown k → (name : List ℕ) (r : Span) → classical_named k name ≡ Some r → IsMeaning k.tree (Classical r)
classical_sound k known name r e = classical_span_sound k.tree (meaning_of k name) r (meaning_sound k known name) e

-- a gate that takes as many qubits as it says, and one at least
abbrev IsBuilt : Option Called → Type 0
IsBuilt o = (g : Called) → o ≡ Some g → (gates : List GateDef) → IsCall gates g.gate g.arity × (1 ≤ g.arity)

built_one : (gate : Called) → ((gates : List GateDef) → IsCall gates gate.gate gate.arity × (1 ≤ gate.arity)) → IsBuilt (Some gate)
built_one gate h g e gates = subst (λ (c : Called). IsCall gates c.gate c.arity × (1 ≤ c.arity)) (same_Some gate g e) (h gates)

built_or : (b : Bool) (o p : Option Called) → IsBuilt o → IsBuilt p → IsBuilt (if b then o else p)
built_or true o p here there = here
built_or false o p here there = there

built_none : IsBuilt None
built_none g e gates = absurd (none-some g e)

larger_sound : (name : List ℕ) → IsBuilt (larger_built_in name)
unfolding larger_built_in
larger_sound name =
    built_or (bytes_eq name (codes "cx")) _ _ (built_one _ (λ gates. (refl, omega arith)))
    (built_or (bytes_eq name (codes "cz")) _ _ (built_one _ (λ gates. (refl, omega arith)))
    (built_or (bytes_eq name (codes "cy")) _ _ (built_one _ (λ gates. (refl, omega arith)))
    (built_or (bytes_eq name (codes "ccx")) _ _ (built_one _ (λ gates. (refl, omega arith)))
    (built_or (bytes_eq name (codes "swap")) _ _ (built_one _ (λ gates. (refl, omega arith)))
    (built_or (bytes_eq name (codes "sx")) _ _ (built_one _ (λ gates. (refl, omega arith)))
    (built_or (bytes_eq name (codes "sxdg")) _ _ (built_one _ (λ gates. (refl, omega arith))) built_none))))))

built_sound : (name : List ℕ) → IsBuilt (built_in name)
unfolding built_in
built_sound name =
    built_or (bytes_eq name (codes "id")) _ _ (built_one _ (λ gates. (refl, omega arith)))
    (built_or (bytes_eq name (codes "x")) _ _ (built_one _ (λ gates. (refl, omega arith)))
    (built_or (bytes_eq name (codes "y")) _ _ (built_one _ (λ gates. (refl, omega arith)))
    (built_or (bytes_eq name (codes "z")) _ _ (built_one _ (λ gates. (refl, omega arith)))
    (built_or (bytes_eq name (codes "h")) _ _ (built_one _ (λ gates. (refl, omega arith)))
    (built_or (bytes_eq name (codes "s")) _ _ (built_one _ (λ gates. (refl, omega arith)))
    (built_or (bytes_eq name (codes "sdg")) _ _ (built_one _ (λ gates. (refl, omega arith)))
    (built_or (bytes_eq name (codes "t")) _ _ (built_one _ (λ gates. (refl, omega arith)))
    (built_or (bytes_eq name (codes "tdg")) _ _ (built_one _ (λ gates. (refl, omega arith))) (larger_sound name)))))))))

included_sound : (k : Known) (name : List ℕ) → IsBuilt (if k.included then built_in name else None)
included_sound k name = built_or k.included (built_in name) None (built_sound name) built_none

called_sound : (tree : Tree) (o : Option Meaning) (built : Option Called) (g : Called) → ((m : Meaning) → o ≡ Some m → IsMeaning tree m) → IsBuilt built → called_gate o built ≡ Some g → IsCall tree.gates g.gate g.arity
called_sound tree None built g h b e = (b g e tree.gates).0
called_sound tree (Some (Quantum span)) built g h b e = absurd (none-some g e)
called_sound tree (Some (Classical span)) built g h b e = absurd (none-some g e)
called_sound tree (Some (Gate called)) built g h b e = subst (λ (c : Called). IsCall tree.gates c.gate c.arity) (same_Some called g e) (h (Gate called) refl)

pub gate_sound : (k : Known) → IsKnown k → (name : List ℕ) (g : Called) → gate_named k name ≡ Some g → IsCall k.tree.gates g.gate g.arity
gate_sound k known name g e = called_sound k.tree (meaning_of k name) (if k.included then built_in name else None) g (meaning_sound k known name) (included_sound k name) e

not_own : (o : Option Meaning) (built : Option Called) (g : Called) → is_gate o ≡ false → called_gate o built ≡ Some g → built ≡ Some g
not_own None built g own e = e
not_own (Some (Quantum span)) built g own e = absurd (none-some g e)
not_own (Some (Classical span)) built g own e = absurd (none-some g e)
not_own (Some (Gate called)) built g own e = absurd (let t : true ≡ false = own in cc)

-- a gate that isn't the text's own takes a qubit
pub takes_one : (k : Known) (name : List ℕ) (g : Called) → is_own_gate k name ≡ false → gate_named k name ≡ Some g → 1 ≤ g.arity
takes_one k name g own e = (included_sound k name g (not_own (meaning_of k name) (if k.included then built_in name else None) g own e) []).1

-- arguments ------------------------------------------------------------------------------------------------------------------

meant_within : (x : Lexed) (n : ℕ) (o : Option Span) (a : Argument) (at : ℕ) → ((r : Span) → o ≡ Some r → r.first + r.size ≤ n) → broken Undeclared (is_none o) at ≡ None → past_end x o a ≡ None → IsWithin n (meant x o a)
meant_within x n None a at h declared index = absurd (let t : true ≡ false = unbroken Undeclared true at declared in cc)
meant_within x n (Some r) (arguments.Whole name) at h declared index = h r refl
meant_within x n (Some r) (arguments.Single name place) at h declared index =
    let below : number_at x place < r.size = not_le r.size (number_at x place) (unbroken Index (nat_le r.size (number_at x place)) place index) in
    let within : r.first + r.size ≤ n = h r refl in
    omega arith

-- an argument lies within the members of its kind
pub argument_within : (x : Lexed) (find : Registers) (n : ℕ) (a : Argument) → ((name : List ℕ) (r : Span) → find name ≡ Some r → r.first + r.size ≤ n) → undeclared x find (name_place a) ≡ None → past_end x (register_of x find a) a ≡ None → IsWithin n (meant x (register_of x find a) a)
argument_within x find n a h declared index = meant_within x n (register_of x find a) a (name_place a) (h (word_at x (name_place a))) declared index

each_within : (x : Lexed) (find : Registers) (n : ℕ) (args : List Argument) → ((name : List ℕ) (r : Span) → find name ≡ Some r → r.first + r.size ≤ n) → first_fault (map (λ a. undeclared x find (name_place a)) args) ≡ None → first_fault (map (λ a. past_end x (register_of x find a) a) args) ≡ None → All (IsWithin n) (all_meant x find args)
each_within x find n [] h declared indices = All-nil (IsWithin n)
each_within x find n (a ∷ args) h declared indices =
    let names : List (Option Stop) = map (λ a. undeclared x find (name_place a)) args in
    let places : List (Option Stop) = map (λ a. past_end x (register_of x find a) a) args in
    All-cons (IsWithin n) (meant x (register_of x find a) a) (all_meant x find args)
    (argument_within x find n a h (none_here (undeclared x find (name_place a)) names declared) (none_here (past_end x (register_of x find a) a) places indices))
    (each_within x find n args h (none_rest (undeclared x find (name_place a)) names declared) (none_rest (past_end x (register_of x find a) a) places indices))

pub arguments_within : (x : Lexed) (find : Registers) (n : ℕ) (args : List Argument) → ((name : List ℕ) (r : Span) → find name ≡ Some r → r.first + r.size ≤ n) → first_fault (argument_faults x find args) ≡ None → All (IsWithin n) (all_meant x find args)
arguments_within x find n args h e =
    let names : List (Option Stop) = map (λ a. undeclared x find (name_place a)) args in
    let places : List (Option Stop) = map (λ a. past_end x (register_of x find a) a) args in
    each_within x find n args h (none_front names places e) (none_behind names places e)

pub first_within : (n : ℕ) (args : List Arg) → 1 ≤ length args → All (IsWithin n) args → IsWithin n (first_of args)
first_within n [] some all = absurd (omega arith)
first_within n (a ∷ args) some all = All-head (IsWithin n) a args all

-- calls ----------------------------------------------------------------------------------------------------------------------

-- a call has as many arguments as its gate takes
pub call_arity : (x : Lexed) (k : Known) (at : ℕ) (g : Called) (args : List Argument) → first_fault (call_faults x k at g args) ≡ None → length (all_meant x (quantum_named k) args) ≡ g.arity
call_arity x k at g args e =
    let means : List Arg = all_meant x (quantum_named k) args in
    let arity : Option Stop = broken Arity (not (length args == g.arity)) at in
    let sizes : Option Stop = broken Sizes (not (are_equal means)) at in
    let twice : Option Stop = broken SameQubit (meets_itself means) at in
    let others = none_behind (argument_faults x (quantum_named k) args) (arity ∷ sizes ∷ twice ∷ []) e in
    let count : length args ≡ g.arity = same_number (length args) g.arity (unbroken Arity (not (length args == g.arity)) at (none_here arity (sizes ∷ twice ∷ []) others)) in
    length-map args (λ a. meant x (register_of x (quantum_named k) a) a) ∙ count

pub call_sound : (x : Lexed) (k : Known) (at : ℕ) (g : Called) (args : List Argument) → IsKnown k → IsCall k.tree.gates g.gate g.arity → first_fault (call_faults x k at g args) ≡ None → IsSoundCall k.tree g.gate (all_meant x (quantum_named k) args)
call_sound x k at g args known call e =
    let means : List Arg = all_meant x (quantum_named k) args in
    let arity : Option Stop = broken Arity (not (length args == g.arity)) at in
    let sizes : Option Stop = broken Sizes (not (are_equal means)) at in
    let twice : Option Stop = broken SameQubit (meets_itself means) at in
    let others = none_behind (argument_faults x (quantum_named k) args) (arity ∷ sizes ∷ twice ∷ []) e in
    let behind = none_rest arity (sizes ∷ twice ∷ []) others in
    let same : length means ≡ g.arity = call_arity x k at g args e in
    record {
      call = subst (IsCall k.tree.gates g.gate) (sym same) call;
      within = arguments_within x (quantum_named k) (members k.tree.quantum) args (quantum_sound k known) (none_front (argument_faults x (quantum_named k) args) (arity ∷ sizes ∷ twice ∷ []) e);
      equal = affirmed (are_equal means) (unbroken Sizes (not (are_equal means)) at (none_here sizes (twice ∷ []) behind));
      apart = unbroken SameQubit (meets_itself means) at (none_here twice [] (none_rest sizes (twice ∷ []) behind));
    }

-- bodies ---------------------------------------------------------------------------------------------------------------------

formal_place : (names : List (List ℕ)) (o : Option ℕ) (at : ℕ) → ((p : ℕ) → o ≡ Some p → p < length names) → broken Undeclared (is_none o) at ≡ None → unwrap_or o 0 < length names
formal_place names None at h e = absurd (let t : true ≡ false = unbroken Undeclared true at e in cc)
formal_place names (Some p) at h e = h p refl

formal_within : (x : Lexed) (names : List (List ℕ)) (arg : ℕ) → informal x names arg ≡ None → formal_of x names arg < length names
formal_within x names arg e =
    formal_place names (place_of names (word_at x arg)) arg (λ p found. (position-Some (bytes_eq (word_at x arg)) names p [] found).0) e

formals_within : (x : Lexed) (names : List (List ℕ)) (args : List ℕ) → first_fault (map (informal x names) args) ≡ None → All (λ f. f < length names) (map (formal_of x names) args)
formals_within x names [] e = All-nil (λ f. f < length names)
formals_within x names (a ∷ args) e =
    All-cons (λ f. f < length names) (formal_of x names a) (map (formal_of x names) args)
    (formal_within x names a (none_here (informal x names a) (map (informal x names) args) e))
    (formals_within x names args (none_rest (informal x names a) (map (informal x names) args) e))

body_call_sound : (x : Lexed) (k : Known) (names : List (List ℕ)) (at : ℕ) (g : Called) (args : List ℕ) → IsCall k.tree.gates g.gate g.arity → first_fault (body_call_faults x names at g args) ≡ None → IsSoundBodyCall k.tree.gates (length names) g.gate (map (formal_of x names) args)
body_call_sound x k names at g args call e =
    let arity : Option Stop = broken Arity (not (length args == g.arity)) at in
    let twice : Option Stop = broken SameQubit (any_pair nat_eq (map (formal_of x names) args)) at in
    let deep : Option Stop = broken TooMany (nat_le 64 g.depth) at in
    let others = none_behind (map (informal x names) args) (arity ∷ twice ∷ deep ∷ []) e in
    let count : length args ≡ g.arity = same_number (length args) g.arity (unbroken Arity (not (length args == g.arity)) at (none_here arity (twice ∷ deep ∷ []) others)) in
    let same : length (map (formal_of x names) args) ≡ g.arity = length-map args (formal_of x names) ∙ count in
    record {
      call = subst (IsCall k.tree.gates g.gate) (sym same) call;
      formal = formals_within x names args (none_front (map (informal x names) args) (arity ∷ twice ∷ deep ∷ []) e);
      apart = unbroken SameQubit (any_pair nat_eq (map (formal_of x names) args)) at (none_here twice (deep ∷ []) (none_rest arity (twice ∷ deep ∷ []) others));
    }

pub op_sound : (x : Lexed) (k : Known) (names : List (List ℕ)) (op : BodyStatement) → IsKnown k → first_fault (body_faults x k names op) ≡ None → IsSoundOp k.tree.gates (length names) (op_of x k names op)
op_sound x k names (bodies.Call name brackets args) known e =
    let n = named_gate (gate_named k (word_at x name)) name (λ g. body_call_faults x names name g args) e in
    let same : gate_of x k name ≡ n.gate = ap (λ o. unwrap_or o cx) n.found in
    subst (λ (g : Called). IsSoundBodyCall k.tree.gates (length names) g.gate (map (formal_of x names) args)) (sym same)
    (body_call_sound x k names name n.gate args (gate_sound k known (word_at x name) n.gate n.found) n.unbroken)
op_sound x k names (bodies.Cx at args) known e = body_call_sound x k names at cx args refl e
op_sound x k names (bodies.Barrier args) known e = tt

pub body_sound : (x : Lexed) (k : Known) (names : List (List ℕ)) (body : List BodyStatement) → IsKnown k → All (λ op. first_fault (body_faults x k names op) ≡ None) body → All (IsSoundOp k.tree.gates (length names)) (map (op_of x k names) body)
body_sound x k names [] known all = All-nil (IsSoundOp k.tree.gates (length names))
body_sound x k names (op ∷ body) known all =
    let IsUnbroken : BodyStatement → Type 0 = λ b. first_fault (body_faults x k names b) ≡ None in
    All-cons (IsSoundOp k.tree.gates (length names)) (op_of x k names op) (map (op_of x k names) body)
    (op_sound x k names op known (All-head IsUnbroken op body all))
    (body_sound x k names body known (All-tail IsUnbroken op body all))

-- conditions -----------------------------------------------------------------------------------------------------------------

conditional_or : (b : Bool) (g h : Gate1) → is_conditional g ≡ true → is_conditional h ≡ true → is_conditional (if b then g else h) ≡ true
conditional_or true g h one other = one
conditional_or false g h one other = other

pub conditional_sound : (name : List ℕ) → is_conditional (pauli_of name) ≡ true
unfolding pauli_of
conditional_sound name =
    conditional_or (bytes_eq name (codes "x")) ones.X _ refl
    (conditional_or (bytes_eq name (codes "y")) ones.Y _ refl
    (conditional_or (bytes_eq name (codes "z")) ones.Z ones.Id refl refl))
