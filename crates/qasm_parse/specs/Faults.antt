-- The rules of names that a statement breaks, in the order in which they are tried.
use Rattle.std.specs.Prelude.{ℕ, Bool, true, false, ◌+◌, ◌==◌, ◌||◌, not, nat_le, nat_lt, if◌then◌else◌, List, [], ◌∷◌, ◌++◌, length, map, flat_map, nat_eq, is_none, is_some, unwrap_or, Option, Some, None}
use Rattle.std.specs.List.{list_any, list_all, range_with_len}
use Rattle.qasm_lex.specs.declared.fault.FaultKind.{FaultKind}
use Rattle.qasm_lex.specs.declared.fault.FaultKind.TheVariants.{Unsupported, Unknown, Declared, Undeclared, Index, Arity, Sizes, SameQubit, TooMany}
use Rattle.qasm_parse.specs.declared.stop.Stop.{Stop}
use Rattle.qasm_grammar.specs.declared.spoken.Argument.{Argument}
use Rattle.qasm_grammar.specs.declared.spoken.Argument.TheVariants as arguments
use Rattle.qasm_grammar.specs.declared.spoken.GateCall.{GateCall}
use Rattle.qasm_grammar.specs.declared.spoken.BodyStatement.{BodyStatement}
use Rattle.qasm_grammar.specs.declared.spoken.BodyStatement.TheVariants as bodies
use Rattle.qasm_grammar.specs.declared.spoken.Sentence.{Sentence}
use Rattle.qasm_grammar.specs.declared.spoken.Sentence.TheVariants as sentences
use Rattle.qasm_parse.specs.declared.tree.Arg.{Arg}
use Rattle.qasm_parse.specs.declared.tree.Arg.TheVariants.{Whole, Single}
use Rattle.qasm_parse.specs.declared.known.Known.{Known}
use Rattle.qasm_parse.specs.declared.known.Span.{Span}
use Rattle.qasm_parse.specs.declared.known.Called.{Called}
use Rattle.qasm_parse.specs.Lexed.{Lexed, word_at, number_at}
use Rattle.qasm_parse.specs.Gates.{cx}
use Rattle.qasm_parse.specs.Known.{place_of, quantum_named, classical_named, gate_named, is_own_gate, is_declared, bars_include}

-- a rule that is broken at a place, if it is
abbrev pub broken : FaultKind → Bool → ℕ → Option Stop
broken kind b at = if b then Some (record { at = at; kind = kind }) else None

-- the first rule that is broken
unfoldable pub first_fault : List (Option Stop) → Option Stop
first_fault [] = None
first_fault (None ∷ fs) = first_fault fs
first_fault (Some f ∷ fs) = Some f

-- the place of an argument's name
abbrev pub name_place : Argument → ℕ
name_place (arguments.Whole name) = name
name_place (arguments.Single name index) = name

-- the registers of a kind, by their names
abbrev pub Registers : Type 0
Registers = List ℕ → Option Span

-- the register of an argument
abbrev pub register_of : Lexed → Registers → Argument → Option Span
register_of x find a = find (word_at x (name_place a))

abbrev pub undeclared : Lexed → Registers → ℕ → Option Stop
undeclared x find name = broken Undeclared (is_none (find (word_at x name))) name

-- an index that isn't below the size of its register
abbrev pub past_end : Lexed → Option Span → Argument → Option Stop
past_end x None a = None
past_end x (Some r) (arguments.Whole name) = None
past_end x (Some r) (arguments.Single name index) = broken Index (nat_le r.size (number_at x index)) index

-- each argument names a register, and then each index is below its register's size
abbrev pub argument_faults : Lexed → Registers → List Argument → List (Option Stop)
argument_faults x find args = map (λ a. undeclared x find (name_place a)) args ++ map (λ a. past_end x (register_of x find a) a) args

-- what an argument means by its register
abbrev pub meant : Lexed → Option Span → Argument → Arg
meant x None a = Single 0
meant x (Some r) (arguments.Whole name) = Whole r.first r.size
meant x (Some r) (arguments.Single name index) = Single (r.first + number_at x index)

abbrev pub all_meant : Lexed → Registers → List Argument → List Arg
all_meant x find args = map (λ a. meant x (register_of x find a) a) args

-- how often a call is applied: once for each index of its whole registers, and once where it has none
abbrev pub times : List Arg → ℕ
times [] = 1
times (Whole first size ∷ args) = size
times (Single index ∷ args) = times args

-- no whole register of another size
abbrev pub has_size : ℕ → Arg → Bool
has_size n (Whole first size) = size == n
has_size n (Single index) = true

-- the whole registers of a call have one size
abbrev pub are_equal : List Arg → Bool
are_equal args = list_all (has_size (times args)) args

-- the qubit, or the bit, that an argument means where a call is applied to this index
abbrev pub at_index : ℕ → Arg → ℕ
at_index i (Whole first size) = first + i
at_index i (Single index) = index

-- two arguments mean one qubit at some index below this number
abbrev pub meets : ℕ → Arg → Arg → Bool
meets n a b = list_any (λ i. at_index i a == at_index i b) (range_with_len 0 n)

-- two items of a list stand in this relation, the first before the second
abbrev pub any_pair : {X : Type 0} → (X → X → Bool) → List X → Bool
any_pair r [] = false
any_pair r (x ∷ xs) = list_any (r x) xs || any_pair r xs

-- some application of a call has one qubit twice
abbrev pub meets_itself : List Arg → Bool
meets_itself args = any_pair (meets (times args)) args

-- a known gate is called with these arguments, in a statement that begins at a place
abbrev pub call_faults : Lexed → Known → ℕ → Called → List Argument → List (Option Stop)
call_faults x k at g args =
    let means = all_meant x (quantum_named k) args in
    argument_faults x (quantum_named k) args
    ++ (broken Arity (not (length args == g.arity)) at
    ∷ broken Sizes (not (are_equal means)) at
    ∷ broken SameQubit (meets_itself means) at
    ∷ [])

-- where a called name is no known gate, nothing else is tried
abbrev pub named_faults : Option Called → ℕ → (Called → List (Option Stop)) → List (Option Stop)
named_faults None name others = broken Unknown true name ∷ []
named_faults (Some g) name others = others g

-- under a condition stands no gate of the text's own
abbrev pub if_faults : Lexed → Known → ℕ → ℕ → GateCall → List (Option Stop)
if_faults x k at register c =
    broken Unsupported (is_own_gate k (word_at x c.name)) c.name
    ∷ named_faults (gate_named k (word_at x c.name)) c.name (λ g. undeclared x (classical_named k) register ∷ call_faults x k at g c.args)

-- a measurement goes from one qubit to one bit, or from a whole register to one of its size
abbrev pub fit_together : Arg → Arg → Bool
fit_together (Whole first size) (Whole into bits) = size == bits
fit_together (Whole first size) (Single bit) = false
fit_together (Single qubit) (Whole into bits) = false
fit_together (Single qubit) (Single bit) = true

abbrev pub measure_faults : Lexed → Known → ℕ → Argument → Argument → List (Option Stop)
measure_faults x k at from to =
    let q = register_of x (quantum_named k) from in
    let c = register_of x (classical_named k) to in
    undeclared x (quantum_named k) (name_place from)
    ∷ undeclared x (classical_named k) (name_place to)
    ∷ past_end x q from
    ∷ past_end x c to
    ∷ broken Sizes (not (fit_together (meant x q from) (meant x c to))) at
    ∷ []

abbrev pub include_faults : Known → ℕ → List (Option Stop)
include_faults k at = broken Declared (bars_include k) at ∷ []

-- a register is declared
abbrev pub register_faults : Lexed → Known → ℕ → ℕ → ℕ → List (Option Stop)
register_faults x k at name size =
    broken Declared (is_declared k (word_at x name)) name
    ∷ broken Sizes (number_at x size == 0) at
    ∷ []

-- 1,024 qubits are the most
abbrev pub qubits_pass : Known → ℕ → Bool
qubits_pass k size = nat_lt 1024 (k.qubits + size)

-- 64 classical registers, and 16,384 bits, are the most
abbrev pub bits_pass : Known → ℕ → Bool
bits_pass k size = nat_le 64 (length k.tree.classical) || nat_lt 16384 (k.bits + size)

-- a formal name that stands before
abbrev pub repeated : Lexed → List (List ℕ) → List ℕ → List (Option Stop)
repeated x before [] = []
repeated x before (f ∷ fs) = broken Declared (is_some (place_of before (word_at x f))) f ∷ repeated x (before ++ word_at x f ∷ []) fs

-- the head of a definition; 1,024 definitions with 64 formal qubits are the most
abbrev pub head_faults : Lexed → Known → ℕ → ℕ → List ℕ → List (Option Stop)
head_faults x k at name formals =
    broken Declared (is_declared k (word_at x name)) name
    ∷ (repeated x [] formals
    ++ (broken TooMany (nat_le 1024 (length k.tree.gates) || nat_lt 64 (length formals)) at ∷ []))

-- in a body each argument is a formal name
abbrev pub informal : Lexed → List (List ℕ) → ℕ → Option Stop
informal x names arg = broken Undeclared (is_none (place_of names (word_at x arg))) arg

-- the number of a formal name
abbrev pub formal_of : Lexed → List (List ℕ) → ℕ → ℕ
formal_of x names arg = unwrap_or (place_of names (word_at x arg)) 0

-- a known gate is called in a body; a depth of 64 is the most, and the definition is one deeper than what it calls
abbrev pub body_call_faults : Lexed → List (List ℕ) → ℕ → Called → List ℕ → List (Option Stop)
body_call_faults x names at g args =
    map (informal x names) args
    ++ (broken Arity (not (length args == g.arity)) at
    ∷ broken SameQubit (any_pair nat_eq (map (formal_of x names) args)) at
    ∷ broken TooMany (nat_le 64 g.depth) at
    ∷ [])

abbrev pub named_op_faults : Lexed → Known → List (List ℕ) → ℕ → List ℕ → List (Option Stop)
named_op_faults x k names name args = named_faults (gate_named k (word_at x name)) name (λ g. body_call_faults x names name g args)

abbrev pub body_faults : Lexed → Known → List (List ℕ) → BodyStatement → List (Option Stop)
body_faults x k names (bodies.Call name brackets args) = named_op_faults x k names name args
body_faults x k names (bodies.Cx at args) = body_call_faults x names at cx args
body_faults x k names (bodies.Barrier args) = map (informal x names) args

-- in a definition the head is tried first, and then each statement of its body
abbrev pub gate_faults : Lexed → Known → ℕ → ℕ → List ℕ → List BodyStatement → List (Option Stop)
gate_faults x k at name formals body = head_faults x k at name formals ++ flat_map (body_faults x k (map (word_at x) formals)) body

-- a gate is called by its name
abbrev pub named_call_faults : Lexed → Known → ℕ → GateCall → List (Option Stop)
named_call_faults x k at c = named_faults (gate_named k (word_at x c.name)) c.name (λ g. call_faults x k at g c.args)

-- the faults of a statement that begins at a place
abbrev pub faults : Lexed → Known → ℕ → Sentence → List (Option Stop)
faults x k at sentences.Include = include_faults k at
faults x k at (sentences.Qreg name size) = register_faults x k at name size ++ (broken TooMany (qubits_pass k (number_at x size)) at ∷ [])
faults x k at (sentences.Creg name size) = register_faults x k at name size ++ (broken TooMany (bits_pass k (number_at x size)) at ∷ [])
faults x k at (sentences.Gate name brackets formals body) = gate_faults x k at name formals body
faults x k at (sentences.Call c) = named_call_faults x k at c
faults x k at (sentences.If register value c) = if_faults x k at register c
faults x k at (sentences.Cx args) = call_faults x k at cx args
faults x k at (sentences.Measure from to) = measure_faults x k at from to
faults x k at (sentences.Barrier args) = argument_faults x (quantum_named k) args
faults x k at (sentences.Reset a) = argument_faults x (quantum_named k) (a ∷ [])
