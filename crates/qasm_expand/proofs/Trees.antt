-- The trees of texts are sound.
use Rattle.std.proofs.Common.{◌≡◌, ℕ, ◌+◌, ◌<◌, ◌≤◌, Bool, true, false, List, [], ◌∷◌, ◌++◌, length, map, slice_get, All, Option, Some, None, Result, Ok, Err, refl, sym, ◌∙◌, ap, subst, arith}
use Rattle.std.specs.Prelude.{◌==◌, ◌||◌, not, nat_le, nat_lt, unwrap_or, is_none, fold, max}
use Rattle.std.specs.List.{flat_map}
use Rattle.std.proofs.lemmas.List.{append-nil, length-map, get_or_at, length_push}
use Rattle.std.proofs.lemmas.List.Sums.{sum_by_push}
use Rattle.std.proofs.lemmas.List.Elements.{All-nil, All-cons, All-head}
use Rattle.std.proofs.lemmas.Option.{none-some, slice_get-get_or}
use Rattle.qasm_lex.specs.declared.fault.FaultKind.TheVariants.{Undeclared, Sizes, TooMany, Declared, Unsupported}
use Rattle.qasm_lex.specs.declared.Token.{Token}
use Rattle.qasm_parse.specs.declared.stop.Stop.{Stop}
use Rattle.qasm_grammar.specs.declared.spoken.Argument.{Argument}
use Rattle.qasm_grammar.specs.declared.spoken.GateCall.{GateCall}
use Rattle.qasm_grammar.specs.declared.spoken.BodyStatement.{BodyStatement}
use Rattle.qasm_grammar.specs.declared.spoken.Sentence.{Sentence}
use Rattle.qasm_grammar.specs.declared.spoken.Sentence.TheVariants as sentences
use Rattle.qasm_parse.specs.declared.tree.Arg.{Arg}
use Rattle.qasm_parse.specs.declared.tree.Callee.TheVariants.{Defined}
use Rattle.qasm_parse.specs.declared.tree.GateDef.{GateDef}
use Rattle.qasm_parse.specs.declared.tree.Declared as tree_declared
use Rattle.qasm_parse.specs.declared.tree.Statement.{Statement}
use Rattle.qasm_parse.specs.declared.tree.Statement.TheVariants as statements
use Rattle.qasm_parse.specs.declared.tree.Tree.{Tree}
use Rattle.qasm_parse.specs.declared.known.Known.{Known}
use Rattle.qasm_parse.specs.declared.known.Span.{Span}
use Rattle.qasm_parse.specs.declared.known.Called.{Called}
use Rattle.qasm_parse.specs.declared.known.Meaning.TheVariants.{Quantum, Classical, Gate}
use Rattle.qasm_parse.specs.Lexed.{Lexed, word_at, number_at, line_of}
use Rattle.qasm_parse.specs.Refused.{told}
use Rattle.qasm_parse.specs.Gates.{cx}
use Rattle.qasm_parse.specs.Grammar.{one_version}
use Rattle.qasm_parse.specs.Forms.{reads}
use Rattle.qasm_parse.specs.Known.{nothing_known, quantum_named, classical_named, gate_named, is_own_gate, is_declared}
use Rattle.qasm_parse.specs.Faults.{broken, first_fault, name_place, register_of, undeclared, past_end, meant, all_meant, fit_together, call_faults, qubits_pass, bits_pass, register_faults, head_faults, body_faults, named_faults, named_call_faults, if_faults, measure_faults, faults}
use Rattle.qasm_parse.specs.Behind.{gate_of, span_named, declared_at, with_quantum, with_classical, op_of, depth_of, with_gate, with_statement, first_of, call_statement, if_statement, measure_statement, behind}
use Rattle.qasm_parse.specs.Pass.Continues.{ends, stops, breaks, goes_on}
use Rattle.qasm_parse.specs.Pass.{Continues, Behind, HasTree, terminals, unless}
use Rattle.qasm_expand.specs.Sound.{IsSoundOp, IsWithin, members, IsRegister, IsSoundCall, IsSoundStatement, IsSound}
use Rattle.qasm_expand.proofs.Calls.{IsCall-Defined}
use Rattle.qasm_expand.proofs.Unbroken.{none_front, none_behind, none_here, none_rest, none_flat, unbroken, affirmed, not_lt, not_zero, some_of, named_gate}
use Rattle.qasm_expand.proofs.Growing.{Extends, IsMeaning, IsKnown, known_step, AreSound-push, AreNumbered-push, statement_more}
use Rattle.qasm_expand.proofs.Arguments.{quantum_sound, classical_sound, gate_sound, takes_one, argument_within, arguments_within, first_within, call_arity, call_sound, body_sound, conditional_sound}

same_end : {X : Type 0} (xs : List X) → xs ≡ xs ++ []
same_end xs = sym (append-nil xs)

-- a statement stands behind what is known
statement_step : (k : Known) (s : Statement) → IsKnown k → IsSoundStatement k.tree s → IsKnown (with_statement k s)
statement_step k s known sound =
    let ext : Extends k.tree (with_statement k s).tree = record {
      more_quantum = [];
      quantum = same_end k.tree.quantum;
      more_classical = [];
      classical = same_end k.tree.classical;
      more_gates = [];
      gates = same_end k.tree.gates;
    } in
    known_step k (with_statement k s) known (record {
      extends = ext;
      qubits = known.qubits;
      bits = known.bits;
      few_qubits = subst (λ n. n ≤ 1024) (sym known.qubits) known.sound.qubits;
      few_bits = subst (λ n. n ≤ 16384) (sym known.bits) known.sound.bits;
      gates = known.sound.gates;
      numbered_qubits = known.sound.quantum;
      numbered_bits = known.sound.classical;
      more_meanings = [];
      meanings = same_end k.meanings;
      meant = All-nil (IsMeaning (with_statement k s).tree);
      more_statements = s ∷ [];
      statements = refl;
      sound = All-cons (IsSoundStatement (with_statement k s).tree) s [] (statement_more k.tree (with_statement k s).tree ext s sound) (All-nil (IsSoundStatement (with_statement k s).tree));
    })

include_step : (k : Known) → IsKnown k → IsKnown (record k { included = true })
include_step k known = record { qubits = known.qubits; bits = known.bits; meanings = known.meanings; sound = known.sound }

quantum_step : (x : Lexed) (k : Known) (name size : ℕ) → IsKnown k → 0 < size → k.qubits + size ≤ 1024 → IsKnown (with_quantum x k name size)
quantum_step x k name size known some few =
    let next : Known = with_quantum x k name size in
    let all : k.qubits + size ≡ members next.tree.quantum = ap (λ n. n + size) known.qubits ∙ sym (sum_by_push (λ (r : tree_declared.Declared). r.size) k.tree.quantum (declared_at x name k.qubits size)) in
    known_step k next known (record {
      extends = record {
        more_quantum = declared_at x name k.qubits size ∷ [];
        quantum = refl;
        more_classical = [];
        classical = same_end k.tree.classical;
        more_gates = [];
        gates = same_end k.tree.gates;
      };
      qubits = all;
      bits = known.bits;
      few_qubits = few;
      few_bits = subst (λ n. n ≤ 16384) (sym known.bits) known.sound.bits;
      gates = known.sound.gates;
      numbered_qubits = AreNumbered-push k.tree.quantum (declared_at x name k.qubits size) known.sound.quantum known.qubits some;
      numbered_bits = known.sound.classical;
      more_meanings = Quantum (record { first = k.qubits; size = size }) ∷ [];
      meanings = refl;
      meant = All-cons (IsMeaning next.tree) (Quantum (record { first = k.qubits; size = size })) [] (omega arith) (All-nil (IsMeaning next.tree));
      more_statements = [];
      statements = same_end k.tree.statements;
      sound = All-nil (IsSoundStatement next.tree);
    })

classical_step : (x : Lexed) (k : Known) (name size : ℕ) → IsKnown k → 0 < size → k.bits + size ≤ 16384 → IsKnown (with_classical x k name size)
classical_step x k name size known some few =
    let next : Known = with_classical x k name size in
    let new : tree_declared.Declared = declared_at x name k.bits size in
    let all : k.bits + size ≡ members next.tree.classical = ap (λ n. n + size) known.bits ∙ sym (sum_by_push (λ (r : tree_declared.Declared). r.size) k.tree.classical new) in
    let within : k.bits + size ≤ members next.tree.classical = omega arith in
    let inside : length k.tree.classical < length next.tree.classical = omega (arith, length_push k.tree.classical new) in
    let register : IsRegister next.tree.classical k.bits size = (length k.tree.classical, new, inside, get_or_at k.tree.classical new [] new (length k.tree.classical) refl, (refl, refl)) in
    known_step k next known (record {
      extends = record {
        more_quantum = [];
        quantum = same_end k.tree.quantum;
        more_classical = new ∷ [];
        classical = refl;
        more_gates = [];
        gates = same_end k.tree.gates;
      };
      qubits = known.qubits;
      bits = all;
      few_qubits = subst (λ n. n ≤ 1024) (sym known.qubits) known.sound.qubits;
      few_bits = few;
      gates = known.sound.gates;
      numbered_qubits = known.sound.quantum;
      numbered_bits = AreNumbered-push k.tree.classical new known.sound.classical known.bits some;
      more_meanings = Classical (record { first = k.bits; size = size }) ∷ [];
      meanings = refl;
      meant = All-cons (IsMeaning next.tree) (Classical (record { first = k.bits; size = size })) [] (within, register) (All-nil (IsMeaning next.tree));
      more_statements = [];
      statements = same_end k.tree.statements;
      sound = All-nil (IsSoundStatement next.tree);
    })

gate_step : (x : Lexed) (k : Known) (name : ℕ) (formals : List ℕ) (body : List BodyStatement) → IsKnown k → All (IsSoundOp k.tree.gates (length formals)) (map (op_of x k (map (word_at x) formals)) body) → IsKnown (with_gate x k name formals body)
gate_step x k name formals body known ops =
    let next : Known = with_gate x k name formals body in
    let d : GateDef = record { formals = length formals; body = map (op_of x k (map (word_at x) formals)) body } in
    let called : Called = record { gate = Defined (length k.tree.gates); arity = length formals; depth = 1 + fold max 0 (map (depth_of x k) body) } in
    let inside : length k.tree.gates < length next.tree.gates = omega (arith, length_push k.tree.gates d) in
    let at : slice_get next.tree.gates (length k.tree.gates) ≡ Some d = slice_get-get_or next.tree.gates (length k.tree.gates) d inside ∙ ap Some (get_or_at k.tree.gates d [] d (length k.tree.gates) refl) in
    known_step k next known (record {
      extends = record {
        more_quantum = [];
        quantum = same_end k.tree.quantum;
        more_classical = [];
        classical = same_end k.tree.classical;
        more_gates = d ∷ [];
        gates = refl;
      };
      qubits = known.qubits;
      bits = known.bits;
      few_qubits = subst (λ n. n ≤ 1024) (sym known.qubits) known.sound.qubits;
      few_bits = subst (λ n. n ≤ 16384) (sym known.bits) known.sound.bits;
      gates = AreSound-push k.tree.gates d known.sound.gates ops;
      numbered_qubits = known.sound.quantum;
      numbered_bits = known.sound.classical;
      more_meanings = Gate called ∷ [];
      meanings = refl;
      meant = All-cons (IsMeaning next.tree) (Gate called) [] (IsCall-Defined next.tree.gates (length k.tree.gates) (length formals) d at refl) (All-nil (IsMeaning next.tree));
      more_statements = [];
      statements = same_end k.tree.statements;
      sound = All-nil (IsSoundStatement next.tree);
    })

-- a gate that is called by its name
named_call_sound : (x : Lexed) (k : Known) (at : ℕ) (c : GateCall) → IsKnown k → first_fault (named_call_faults x k at c) ≡ None → IsSoundStatement k.tree (call_statement x k at c)
named_call_sound x k at c known e =
    let n = named_gate (gate_named k (word_at x c.name)) c.name (λ g. call_faults x k at g c.args) e in
    let same : gate_of x k c.name ≡ n.gate = ap (λ o. unwrap_or o cx) n.found in
    subst (λ (g : Called). IsSoundCall k.tree g.gate (all_meant x (quantum_named k) c.args)) (sym same)
    (call_sound x k at n.gate c.args known (gate_sound k known (word_at x c.name) n.gate n.found) n.unbroken)

-- a gate under a condition
if_sound : (x : Lexed) (k : Known) (at register value : ℕ) (c : GateCall) → IsKnown k → first_fault (if_faults x k at register c) ≡ None → IsSoundStatement k.tree (if_statement x k at register value c)
if_sound x k at register value c known e =
    let others : Called → List (Option Stop) = λ g. undeclared x (classical_named k) register ∷ call_faults x k at g c.args in
    let found : Option Called = gate_named k (word_at x c.name) in
    let own : is_own_gate k (word_at x c.name) ≡ false = unbroken Unsupported (is_own_gate k (word_at x c.name)) c.name (none_here (broken Unsupported (is_own_gate k (word_at x c.name)) c.name) (named_faults found c.name others) e) in
    let n = named_gate found c.name others (none_rest (broken Unsupported (is_own_gate k (word_at x c.name)) c.name) (named_faults found c.name others) e) in
    let rest : first_fault (call_faults x k at n.gate c.args) ≡ None = none_rest (undeclared x (classical_named k) register) (call_faults x k at n.gate c.args) n.unbroken in
    let call : IsSoundCall k.tree n.gate.gate (all_meant x (quantum_named k) c.args) =
    call_sound x k at n.gate c.args known (gate_sound k known (word_at x c.name) n.gate n.found) rest in
    let named : Option Span = classical_named k (word_at x register) in
    let r = some_of named (unbroken Undeclared (is_none named) register (none_here (undeclared x (classical_named k) register) (call_faults x k at n.gate c.args) n.unbroken)) in
    let bits : r.0 ≡ span_named named = ap span_named (sym r.1) in
    let declared : IsRegister k.tree.classical r.0.first r.0.size = (classical_sound k known (word_at x register) r.0 r.1).1 in
    let some : 1 ≤ n.gate.arity = takes_one k (word_at x c.name) n.gate own n.found in
    let args : List Arg = all_meant x (quantum_named k) c.args in
    let arity : length args ≡ n.gate.arity = call_arity x k at n.gate c.args rest in
    record {
      within = first_within (members k.tree.quantum) args (subst (λ m. 1 ≤ m) (sym arity) some) call.within;
      register = subst (λ (s : Span). IsRegister k.tree.classical s.first s.size) bits declared;
      gate_allowed = conditional_sound (word_at x c.name);
    }

measure_sound : (x : Lexed) (k : Known) (at : ℕ) (from to : Argument) → IsKnown k → first_fault (measure_faults x k at from to) ≡ None → IsSoundStatement k.tree (measure_statement x k at from to)
measure_sound x k at from to known e =
    let q : Option Span = register_of x (quantum_named k) from in
    let c : Option Span = register_of x (classical_named k) to in
    let f1 : Option Stop = undeclared x (quantum_named k) (name_place from) in
    let f2 : Option Stop = undeclared x (classical_named k) (name_place to) in
    let f3 : Option Stop = past_end x q from in
    let f4 : Option Stop = past_end x c to in
    let f5 : Option Stop = broken Sizes (not (fit_together (meant x q from) (meant x c to))) at in
    let e2 = none_rest f1 (f2 ∷ f3 ∷ f4 ∷ f5 ∷ []) e in
    let e3 = none_rest f2 (f3 ∷ f4 ∷ f5 ∷ []) e2 in
    let e4 = none_rest f3 (f4 ∷ f5 ∷ []) e3 in
    let e5 = none_rest f4 (f5 ∷ []) e4 in
    record {
      qubits = argument_within x (quantum_named k) (members k.tree.quantum) from (quantum_sound k known) (none_here f1 (f2 ∷ f3 ∷ f4 ∷ f5 ∷ []) e) (none_here f3 (f4 ∷ f5 ∷ []) e3);
      bits = argument_within x (classical_named k) (members k.tree.classical) to (λ name r found. (classical_sound k known name r found).0) (none_here f2 (f3 ∷ f4 ∷ f5 ∷ []) e2) (none_here f4 (f5 ∷ []) e4);
      together = affirmed (fit_together (meant x q from) (meant x c to)) (unbroken Sizes (not (fit_together (meant x q from) (meant x c to))) at (none_here f5 [] e5));
    }

neither : (a b : Bool) → (a || b) ≡ false → b ≡ false
neither true b e = absurd (let t : true ≡ false = e in cc)
neither false b e = e

-- a register that is declared has members
some_members : (x : Lexed) (k : Known) (at name size : ℕ) (limit : Option Stop) → first_fault (register_faults x k at name size ++ limit ∷ []) ≡ None → 0 < number_at x size
some_members x k at name size limit e =
    let declared : Option Stop = broken Declared (is_declared k (word_at x name)) name in
    let empty : Option Stop = broken Sizes (number_at x size == 0) at in
    let own = none_front (register_faults x k at name size) (limit ∷ []) e in
    let full : (number_at x size == 0) ≡ false = unbroken Sizes (number_at x size == 0) at (none_here empty [] (none_rest declared (empty ∷ []) own)) in
    not_zero (number_at x size) full

-- what is known behind a statement that breaks no rule
behind_sound : (x : Lexed) (k : Known) (at : ℕ) (s : Sentence) → IsKnown k → first_fault (faults x k at s) ≡ None → IsKnown (behind x k at s)
behind_sound x k at sentences.Include known e = include_step k known
behind_sound x k at (sentences.Qreg name size) known e =
    let limit : Option Stop = broken TooMany (qubits_pass k (number_at x size)) at in
    let passes : qubits_pass k (number_at x size) ≡ false = unbroken TooMany (qubits_pass k (number_at x size)) at (none_here limit [] (none_behind (register_faults x k at name size) (limit ∷ []) e)) in
    quantum_step x k name (number_at x size) known (some_members x k at name size limit e) (not_lt 1024 (k.qubits + number_at x size) passes)
behind_sound x k at (sentences.Creg name size) known e =
    let limit : Option Stop = broken TooMany (bits_pass k (number_at x size)) at in
    let passes : bits_pass k (number_at x size) ≡ false = unbroken TooMany (bits_pass k (number_at x size)) at (none_here limit [] (none_behind (register_faults x k at name size) (limit ∷ []) e)) in
    classical_step x k name (number_at x size) known (some_members x k at name size limit e) (not_lt 16384 (k.bits + number_at x size) (neither (nat_le 64 (length k.tree.classical)) (nat_lt 16384 (k.bits + number_at x size)) passes))
behind_sound x k at (sentences.Gate name brackets formals body) known e =
    let names : List (List ℕ) = map (word_at x) formals in
    let bodies = none_flat (body_faults x k names) body (none_behind (head_faults x k at name formals) (flat_map (body_faults x k names) body) e) in
    let ops = body_sound x k names body known bodies in
    gate_step x k name formals body known (subst (λ n. All (IsSoundOp k.tree.gates n) (map (op_of x k names) body)) (length-map formals (word_at x)) ops)
behind_sound x k at (sentences.Call c) known e = statement_step k (call_statement x k at c) known (named_call_sound x k at c known e)
behind_sound x k at (sentences.If register value c) known e = statement_step k (if_statement x k at register value c) known (if_sound x k at register value c known e)
behind_sound x k at (sentences.Cx args) known e =
    statement_step k (statements.Call (line_of x at) cx.gate (all_meant x (quantum_named k) args)) known (call_sound x k at cx args known refl e)
behind_sound x k at (sentences.Measure from to) known e = statement_step k (measure_statement x k at from to) known (measure_sound x k at from to known e)
behind_sound x k at (sentences.Barrier args) known e = statement_step k (statements.Barrier (line_of x at)) known tt
behind_sound x k at (sentences.Reset a) known e =
    let all : All (IsWithin (members k.tree.quantum)) (all_meant x (quantum_named k) (a ∷ [])) = arguments_within x (quantum_named k) (members k.tree.quantum) (a ∷ []) (quantum_sound k known) e in
    statement_step k (statements.Reset (line_of x at) (first_of (all_meant x (quantum_named k) (a ∷ [])))) known (All-head (IsWithin (members k.tree.quantum)) (meant x (register_of x (quantum_named k) a) a) [] all)

-- a statement that was tried broke no rule
unless_ok : (o : Option Stop) (k next : Known) → unless o k ≡ Ok next → (o ≡ None) × (k ≡ next)
unless_ok None k next e = (refl, cc)
unless_ok (Some stop) k next e = absurd (cc)

continues_sound : (x : Lexed) (k : Known) (at : ℕ) (r : Result Known Stop) → Continues x k at r → IsKnown k → (final : Known) → r ≡ Ok final → IsKnown final
continues_sound x _ _ _ (ends k) known final e = subst IsKnown (let same : k ≡ final = cc in same) known
continues_sound x _ _ _ (stops k at stop refused) known final e = absurd (cc)
continues_sound x _ _ _ (breaks k at end s stop read spelled fault) known final e = absurd (cc)
continues_sound x _ _ _ (goes_on k next at end s r read spelled went rest) known final e =
    let both = unless_ok (first_fault (faults x k at s)) (behind x k at s) next went in
    continues_sound x next end r rest (subst IsKnown both.1 (behind_sound x k at s known both.0)) final e

nothing_sound : IsKnown nothing_known
nothing_sound = record {
  qubits = refl;
  bits = refl;
  meanings = All-nil (IsMeaning nothing_known.tree);
  sound = record {
    gates = record { each = λ k d at. absurd (none-some d at) };
    quantum = record { each = λ k r at. absurd (none-some r at) };
    classical = record { each = λ k r at. absurd (none-some r at) };
    statements = All-nil (IsSoundStatement nothing_known.tree);
    qubits = omega arith;
    bits = omega arith;
  };
}

behind_version : (x : Lexed) (start : Result ℕ Stop) (final : Known) → Behind x start (Ok final) → IsKnown final
behind_version x (Ok at) final reading = continues_sound x nothing_known at (Ok final) reading nothing_sound final refl
behind_version x (Err stop) final reading = absurd (cc)

pub tree_sound : (text : List ℕ) (tokens : List Token) (tree : Tree) → HasTree text tokens tree → IsSound tree
tree_sound text tokens tree has =
    let x : Lexed = record { text = text; tokens = tokens } in
    subst IsSound has.same (behind_version x (told (reads one_version (terminals x false) 0)) has.known has.reading).sound
