-- What the parts of the second pass answer, against the rules that are broken.
use Rattle.std.specs.Prelude.{◌≡◌, ◌<◌, ◌≤◌, ℕ, ◌++◌, List, [], ◌∷◌, length, map, flat_map, fold, max, Option, None, Result}
use Rattle.qasm_grammar.specs.declared.spoken.Argument.{Argument}
use Rattle.qasm_grammar.specs.declared.spoken.BodyStatement.{BodyStatement}
use Rattle.qasm_grammar.specs.declared.spoken.Sentence.{Sentence}
use Rattle.qasm_parse.specs.declared.stop.Stop.{Stop}
use Rattle.qasm_parse.specs.declared.stop.Fault.{Fault}
use Rattle.qasm_parse.specs.declared.tree.Arg.{Arg}
use Rattle.qasm_parse.specs.declared.tree.BodyOp.{BodyOp}
use Rattle.qasm_parse.specs.declared.tree.BodyOp.TheVariants as ops
use Rattle.qasm_parse.specs.declared.known.Known.{Known}
use Rattle.qasm_parse.specs.declared.known.Called.{Called}
use Rattle.qasm_parse.specs.Lexed.{Lexed, word_at, number_at}
use Rattle.qasm_parse.specs.Known.{place_of, quantum_named}
use Rattle.qasm_parse.specs.Faults.{first_fault, argument_faults, all_meant, call_faults, register_faults, repeated, head_faults, informal, formal_of, body_call_faults, named_op_faults, body_faults, gate_faults, faults}
use Rattle.qasm_parse.specs.Behind.{gate_of, op_of, depth_of, with_gate, behind}
use Rattle.qasm_parse.specs.inside.Meets.{Meets}

-- a statement was tried that begins at a place
abbrev pub Tries : Result Known Fault → Lexed → Known → ℕ → Sentence → Type 0
Tries r x k at s = Meets r (faults x k at s) (behind x k at s)

-- arguments were resolved that name quantum registers
abbrev pub Resolves : Result (List Arg) Fault → Lexed → Known → List Argument → Type 0
Resolves r x k args = Meets r (argument_faults x (quantum_named k) args) (all_meant x (quantum_named k) args)

-- a call of a known gate was tried
abbrev pub TriesCall : Result (List Arg) Fault → Lexed → Known → ℕ → Called → List Argument → Type 0
TriesCall r x k at g args = Meets r (call_faults x k at g args) (all_meant x (quantum_named k) args)

-- the name and the size of a register were tried
abbrev pub TriesRegister : Result ℕ Fault → Lexed → Known → ℕ → ℕ → ℕ → Type 0
TriesRegister r x k at name size = Meets r (register_faults x k at name size) (number_at x size)

-- a name isn't declared
abbrev pub IsNew : Lexed → Known → ℕ → Type 0
IsNew x k name = place_of k.names (word_at x name) ≡ None

-- the formal names of a definition were tried
abbrev pub TriesFormals : Result (List (List ℕ)) Fault → Lexed → List ℕ → Type 0
TriesFormals r x formals = Meets r (repeated x [] formals) (map (word_at x) formals)

-- the formal names in a body's statement were numbered
abbrev pub Numbers : Result (List ℕ) Fault → Lexed → List (List ℕ) → List ℕ → Type 0
Numbers r x names args = Meets r (map (informal x names) args) (map (formal_of x names) args)

-- a call of a known gate in a body was tried
abbrev pub TriesOp : Result BodyOp Fault → Lexed → List (List ℕ) → ℕ → Called → List ℕ → Type 0
TriesOp r x names at g args = Meets r (body_call_faults x names at g args) (ops.Call g.gate (map (formal_of x names) args))

-- a call in a body by a gate's name was tried, and gave the gate's depth too
abbrev pub TriesNamedOp : Result (BodyOp × ℕ) Fault → Lexed → Known → List (List ℕ) → ℕ → List ℕ → Type 0
TriesNamedOp r x k names name args =
    let g : Called = gate_of x k name in
    Meets r (named_op_faults x k names name args) (ops.Call g.gate (map (formal_of x names) args), g.depth)

-- a statement of a body was tried
abbrev pub TriesBody : Result (BodyOp × ℕ) Fault → Lexed → Known → List (List ℕ) → BodyStatement → Type 0
TriesBody r x k names s = Meets r (body_faults x k names s) (op_of x k names s, depth_of x k s)

-- a whole body was tried, and gave the greatest depth too
abbrev pub TriesBodies : Result (List BodyOp × ℕ) Fault → Lexed → Known → List (List ℕ) → List BodyStatement → Type 0
TriesBodies r x k names body = Meets r (flat_map (body_faults x k names) body) (map (op_of x k names) body, fold max 0 (map (depth_of x k) body))

-- the head of a definition was tried
abbrev pub TriesHead : Result (List (List ℕ)) Fault → Lexed → Known → ℕ → ℕ → List ℕ → Type 0
TriesHead r x k at name formals = Meets r (head_faults x k at name formals) (map (word_at x) formals)

-- one more definition, with these formal names, passes no limit
abbrev pub HasRoom : Known → List ℕ → Type 0
HasRoom k formals = (length k.tree.gates < 1024) × (length formals ≤ 64)

-- a definition was tried that begins at a place
abbrev pub TriesGate : Result Known Fault → Lexed → Known → ℕ → ℕ → List ℕ → List BodyStatement → Type 0
TriesGate r x k at name formals body = Meets r (gate_faults x k at name formals body) (with_gate x k name formals body)

-- the sooner of two faults
abbrev pub sooner : Option Stop → Option Stop → Option Stop
sooner a b = first_fault (a ∷ b ∷ [])

-- a list has one more item
abbrev pub Adds : {X : Type 0} → List X → List X → X → Type 0
Adds old new x = new ≡ old ++ x ∷ []
