-- What a statement that breaks no rule adds to what is known.
use Rattle.std.specs.Prelude.{ℕ, true, ◌+◌, ◌++◌, List, [], ◌∷◌, length, map, fold, max, unwrap_or, Option}
use Rattle.qasm_grammar.specs.declared.spoken.Argument.{Argument}
use Rattle.qasm_grammar.specs.declared.spoken.GateCall.{GateCall}
use Rattle.qasm_grammar.specs.declared.spoken.BodyStatement.{BodyStatement}
use Rattle.qasm_grammar.specs.declared.spoken.BodyStatement.TheVariants as bodies
use Rattle.qasm_grammar.specs.declared.spoken.Sentence.{Sentence}
use Rattle.qasm_grammar.specs.declared.spoken.Sentence.TheVariants as sentences
use Rattle.qasm_parse.specs.declared.tree.Declared.{Declared}
use Rattle.qasm_parse.specs.declared.tree.GateDef.{GateDef}
use Rattle.qasm_parse.specs.declared.tree.BodyOp.{BodyOp}
use Rattle.qasm_parse.specs.declared.tree.BodyOp.TheVariants as ops
use Rattle.qasm_parse.specs.declared.tree.Arg.{Arg}
use Rattle.qasm_parse.specs.declared.tree.Arg.TheVariants.{Single}
use Rattle.qasm_parse.specs.declared.tree.Callee.TheVariants.{Defined}
use Rattle.qasm_parse.specs.declared.tree.Statement.{Statement}
use Rattle.qasm_parse.specs.declared.tree.Statement.TheVariants as statements
use Rattle.qasm_parse.specs.declared.known.Known.{Known}
use Rattle.qasm_parse.specs.declared.known.Span.{Span}
use Rattle.qasm_parse.specs.declared.known.Called.{Called}
use Rattle.qasm_parse.specs.declared.known.Meaning.TheVariants.{Quantum, Classical, Gate}
use Rattle.qasm_parse.specs.Lexed.{Lexed, word_at, number_at, line_of, start_of, end_of}
use Rattle.qasm_parse.specs.Gates.{cx, pauli_of}
use Rattle.qasm_parse.specs.Known.{quantum_named, classical_named, gate_named, with_name}
use Rattle.qasm_parse.specs.Faults.{register_of, meant, all_meant, formal_of}

-- the gate that a name calls
abbrev pub gate_of : Lexed → Known → ℕ → Called
gate_of x k name = unwrap_or (gate_named k (word_at x name)) cx

abbrev pub span_named : Option Span → Span
span_named r = unwrap_or r (record { first = 0; size = 0 })

-- a register has the span of its name in the text, and the numbers after those of its kind before it
abbrev pub declared_at : Lexed → ℕ → ℕ → ℕ → Declared
declared_at x name first size = record { start = start_of x name; end = end_of x name; first = first; size = size }

abbrev pub with_quantum : Lexed → Known → ℕ → ℕ → Known
with_quantum x k name size =
    let named : Known = with_name k (word_at x name) (Quantum (record { first = k.qubits; size = size })) in
    record named { qubits = k.qubits + size; tree = record k.tree { quantum = k.tree.quantum ++ declared_at x name k.qubits size ∷ [] } }

abbrev pub with_classical : Lexed → Known → ℕ → ℕ → Known
with_classical x k name size =
    let named : Known = with_name k (word_at x name) (Classical (record { first = k.bits; size = size })) in
    record named { bits = k.bits + size; tree = record k.tree { classical = k.tree.classical ++ declared_at x name k.bits size ∷ [] } }

-- a statement of a body, with its gate and the numbers of its formal names
abbrev pub op_of : Lexed → Known → List (List ℕ) → BodyStatement → BodyOp
op_of x k names (bodies.Call name brackets args) = ops.Call (gate_of x k name).gate (map (formal_of x names) args)
op_of x k names (bodies.Cx at args) = ops.Call cx.gate (map (formal_of x names) args)
op_of x k names (bodies.Barrier args) = ops.Barrier

-- how deep the gate is that a statement of a body calls
abbrev pub depth_of : Lexed → Known → BodyStatement → ℕ
depth_of x k (bodies.Call name brackets args) = (gate_of x k name).depth
depth_of x k (bodies.Cx at args) = 0
depth_of x k (bodies.Barrier args) = 0

-- a definition is one deeper than the deepest gate that it calls
abbrev pub with_gate : Lexed → Known → ℕ → List ℕ → List BodyStatement → Known
with_gate x k name formals body =
    let deepest : ℕ = fold max 0 (map (depth_of x k) body) in
    let called : Called = record { gate = Defined (length k.tree.gates); arity = length formals; depth = 1 + deepest } in
    let defined : GateDef = record { formals = length formals; body = map (op_of x k (map (word_at x) formals)) body } in
    record (with_name k (word_at x name) (Gate called)) { tree = record k.tree { gates = k.tree.gates ++ defined ∷ [] } }

abbrev pub with_statement : Known → Statement → Known
with_statement k s = record k { tree = record k.tree { statements = k.tree.statements ++ s ∷ [] } }

abbrev pub first_of : List Arg → Arg
first_of [] = Single 0
first_of (a ∷ others) = a

abbrev pub call_statement : Lexed → Known → ℕ → GateCall → Statement
call_statement x k at c = statements.Call (line_of x at) (gate_of x k c.name).gate (all_meant x (quantum_named k) c.args)

abbrev pub if_statement : Lexed → Known → ℕ → ℕ → ℕ → GateCall → Statement
if_statement x k at register value c =
    let bits = span_named (classical_named k (word_at x register)) in
    statements.If (line_of x at) bits.first bits.size (number_at x value) (pauli_of (word_at x c.name)) (first_of (all_meant x (quantum_named k) c.args))

abbrev pub measure_statement : Lexed → Known → ℕ → Argument → Argument → Statement
measure_statement x k at from to = statements.Measure (line_of x at) (meant x (register_of x (quantum_named k) from) from) (meant x (register_of x (classical_named k) to) to)

-- what is known after a statement that begins at a place
abbrev pub behind : Lexed → Known → ℕ → Sentence → Known
behind x k at sentences.Include = record k { included = true }
behind x k at (sentences.Qreg name size) = with_quantum x k name (number_at x size)
behind x k at (sentences.Creg name size) = with_classical x k name (number_at x size)
behind x k at (sentences.Gate name brackets formals body) = with_gate x k name formals body
behind x k at (sentences.Call c) = with_statement k (call_statement x k at c)
behind x k at (sentences.If register value c) = with_statement k (if_statement x k at register value c)
behind x k at (sentences.Cx args) = with_statement k (statements.Call (line_of x at) cx.gate (all_meant x (quantum_named k) args))
behind x k at (sentences.Measure from to) = with_statement k (measure_statement x k at from to)
behind x k at (sentences.Barrier args) = with_statement k (statements.Barrier (line_of x at))
behind x k at (sentences.Reset a) = with_statement k (statements.Reset (line_of x at) (first_of (all_meant x (quantum_named k) (a ∷ []))))
