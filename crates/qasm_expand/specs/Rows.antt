-- Worked rows: what definitions that double count, and small trees with their flat operations.
use Rattle.std.specs.Prelude.{◌≡◌, ℕ, zero, suc, List, [], ◌∷◌, ◌++◌, slice_index, refl}
use Rattle.qasm_parse.specs.declared.tree.Arg.TheVariants.{Whole, Single}
use Rattle.qasm_parse.specs.declared.tree.Callee.TheVariants.{One, Two, Swap, Defined}
use Rattle.qasm_parse.specs.declared.tree.Gate1.TheVariants.{X}
use Rattle.qasm_parse.specs.declared.tree.Gate2.TheVariants.{Cx, Cy}
use Rattle.qasm_parse.specs.declared.tree.BodyOp.TheVariants as ops
use Rattle.qasm_parse.specs.declared.tree.GateDef.{GateDef}
use Rattle.qasm_parse.specs.declared.tree.Statement.{Statement}
use Rattle.qasm_parse.specs.declared.tree.Statement.TheVariants as statements
use Rattle.qasm_parse.specs.declared.tree.Tree.{Tree}
use Rattle.qasm_expand.specs.declared.flat.Flat.TheVariants.{Gate2, Measure, Reset, If}
use Rattle.qasm_expand.specs.Flats.{each_from, flats_of}
use Rattle.qasm_expand.specs.Limits.{counts_of}

-- definitions of one formal qubit, the first with two `x`, and each other one with two calls of the one before it
abbrev doubling : ℕ → List GateDef
doubling zero = record { formals = 1; body = ops.Call (One X) (0 ∷ []) ∷ ops.Call (One X) (0 ∷ []) ∷ [] } ∷ []
doubling (suc n) = doubling n ++ record { formals = 1; body = ops.Call (Defined n) (0 ∷ []) ∷ ops.Call (Defined n) (0 ∷ []) ∷ [] } ∷ []

pub seventeenth : slice_index (counts_of (doubling 17)) 16 ≡ 262143
unfolding each_from
seventeenth = refl

pub eighteenth : slice_index (counts_of (doubling 17)) 17 ≡ 524287
unfolding each_from
eighteenth = refl

abbrev tree_of : List GateDef → List Statement → Tree
tree_of gates ss = record { quantum = []; classical = []; gates = gates; statements = ss }

-- `gate g a,b { cy b,a; barrier a; swap a,b; }` called with qubits 5 and 7
pub body_row : flats_of (tree_of (record { formals = 2; body = ops.Call (Two Cy) (1 ∷ 0 ∷ []) ∷ ops.Barrier ∷ ops.Call Swap (0 ∷ 1 ∷ []) ∷ [] } ∷ []) (statements.Call 3 (Defined 0) (Single 5 ∷ Single 7 ∷ []) ∷ [])) ≡ Gate2 Cy 7 5 ∷ Gate2 Cx 5 7 ∷ Gate2 Cx 7 5 ∷ Gate2 Cx 5 7 ∷ []
unfolding flats_of each_from
body_row = refl

-- `cx` from a register to one qubit, a measurement, a reset and a condition on registers
pub register_row : flats_of (tree_of [] (statements.Call 3 (Two Cx) (Whole 2 3 ∷ Single 1 ∷ []) ∷ statements.Measure 4 (Whole 0 2) (Whole 6 2) ∷ statements.Barrier 4 ∷ statements.Reset 5 (Single 4) ∷ statements.If 6 8 3 5 X (Whole 0 2) ∷ [])) ≡ Gate2 Cx 2 1 ∷ Gate2 Cx 3 1 ∷ Gate2 Cx 4 1 ∷ Measure 0 6 ∷ Measure 1 7 ∷ Reset 4 ∷ If X 0 8 3 5 ∷ If X 1 8 3 5 ∷ []
unfolding flats_of each_from
register_row = refl
