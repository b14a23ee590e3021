-- What the trees of circuit texts have: numbers are in range, and calls fit what they call.
use Rattle.std.specs.Prelude.{◌≡◌, ℕ, Bool, true, false, ◌+◌, ◌<◌, ◌≤◌, List, length, take, sum_by, slice_get, nat_eq, All, Any, IsSomeAnd, Some}
use Rattle.qasm_parse.specs.declared.tree.Arg.{Arg}
use Rattle.qasm_parse.specs.declared.tree.Arg.TheVariants.{Whole, Single}
use Rattle.qasm_parse.specs.declared.tree.Callee.{Callee}
use Rattle.qasm_parse.specs.declared.tree.Callee.TheVariants.{One, Two, Ccx, Swap, Defined}
use Rattle.qasm_parse.specs.declared.tree.Gate1.{Gate1}
use Rattle.qasm_parse.specs.declared.tree.Gate1.TheVariants.{Id, X, Y, Z, H, S, Sdg, Sx, Sxdg, T, Tdg}
use Rattle.qasm_parse.specs.declared.tree.BodyOp.{BodyOp}
use Rattle.qasm_parse.specs.declared.tree.BodyOp.TheVariants as ops
use Rattle.qasm_parse.specs.declared.tree.GateDef.{GateDef}
use Rattle.qasm_parse.specs.declared.tree.Declared.{Declared}
use Rattle.qasm_parse.specs.declared.tree.Statement.{Statement}
use Rattle.qasm_parse.specs.declared.tree.Statement.TheVariants as statements
use Rattle.qasm_parse.specs.declared.tree.Tree.{Tree}
use Rattle.qasm_parse.specs.Faults.{are_equal, meets_itself, fit_together, any_pair}

-- a gate that is built in or is one of these definitions, with as many qubits as it takes
abbrev pub IsCall : List GateDef → Callee → ℕ → Type 0
IsCall known (One gate) n = n ≡ 1
IsCall known (Two gate) n = n ≡ 2
IsCall known Ccx n = n ≡ 3
IsCall known Swap n = n ≡ 2
IsCall known (Defined number) n = IsSomeAnd (slice_get known number) (λ d. n ≡ d.formals)

-- a call in a body is of a gate that is known before, and its numbers are formal ones, none of which stands twice
pub record IsSoundBodyCall (before : List GateDef) (formals : ℕ) (gate : Callee) (args : List ℕ) : Type 0 where
  pub call : IsCall before gate (length args)
  pub formal : All (λ f. f < formals) args
  pub apart : any_pair nat_eq args ≡ false

abbrev pub IsSoundOp : List GateDef → ℕ → BodyOp → Type 0
IsSoundOp before formals (ops.Call gate args) = IsSoundBodyCall before formals gate args
IsSoundOp before formals ops.Barrier = Unit {0}

-- definitions, each of which calls those before it
pub record AreSound (gates : List GateDef) : Type 0 where
  pub each : (k : ℕ) (d : GateDef) → slice_get gates k ≡ Some d → All (IsSoundOp (take k gates) d.formals) d.body

-- an argument lies within this number of qubits, or of bits
abbrev pub IsWithin : ℕ → Arg → Type 0
IsWithin n (Whole first size) = first + size ≤ n
IsWithin n (Single index) = index < n

-- how many qubits, or bits, registers have
abbrev pub members : List Declared → ℕ
members registers = sum_by (λ r. r.size) registers

-- registers have members, which are numbered in the order of declaration
pub record AreNumbered (registers : List Declared) : Type 0 where
  pub each : (k : ℕ) (r : Declared) → slice_get registers k ≡ Some r → (r.first ≡ members (take k registers)) × (0 < r.size)

-- one of the registers has these numbers
abbrev pub IsRegister : List Declared → ℕ → ℕ → Type 0
IsRegister registers first size = Any (λ r. (r.first ≡ first) × (r.size ≡ size)) registers

-- the gates that may stand under a condition
abbrev pub is_conditional : Gate1 → Bool
is_conditional Id = true
is_conditional X = true
is_conditional Y = true
is_conditional Z = true
is_conditional H = false
is_conditional S = false
is_conditional Sdg = false
is_conditional Sx = false
is_conditional Sxdg = false
is_conditional T = false
is_conditional Tdg = false

-- a call outside of definitions: its whole registers have one size, and no application has one qubit twice
pub record IsSoundCall (tree : Tree) (gate : Callee) (args : List Arg) : Type 0 where
  pub call : IsCall tree.gates gate (length args)
  pub within : All (IsWithin (members tree.quantum)) args
  pub equal : are_equal args ≡ true
  pub apart : meets_itself args ≡ false

pub record IsSoundMeasurement (tree : Tree) (from to : Arg) : Type 0 where
  pub qubits : IsWithin (members tree.quantum) from
  pub bits : IsWithin (members tree.classical) to
  pub together : fit_together from to ≡ true

pub record IsSoundCondition (tree : Tree) (first size : ℕ) (gate : Gate1) (arg : Arg) : Type 0 where
  pub within : IsWithin (members tree.quantum) arg
  pub register : IsRegister tree.classical first size
  pub gate_allowed : is_conditional gate ≡ true

abbrev pub IsSoundStatement : Tree → Statement → Type 0
IsSoundStatement tree (statements.Call line gate args) = IsSoundCall tree gate args
IsSoundStatement tree (statements.Measure line from to) = IsSoundMeasurement tree from to
IsSoundStatement tree (statements.Barrier line) = Unit {0}
IsSoundStatement tree (statements.Reset line arg) = IsWithin (members tree.quantum) arg
IsSoundStatement tree (statements.If line first size value gate arg) = IsSoundCondition tree first size gate arg

pub record IsSound (tree : Tree) : Type 0 where
  pub gates : AreSound tree.gates
  pub statements : All (IsSoundStatement tree) tree.statements
  pub quantum : AreNumbered tree.quantum
  pub classical : AreNumbered tree.classical
  pub qubits : members tree.quantum ≤ 1024
  pub bits : members tree.classical ≤ 16384
