-- How often operations are made, and the numbers that they are made with.
use Rattle.std.proofs.Common.{ℕ, ◌+◌, ◌≤◌, List, [], ◌∷◌, All, arith}
use Rattle.std.proofs.lemmas.List.Elements.{All-head, All-tail, All-weaker}
use Rattle.qasm_parse.specs.declared.tree.Arg.{Arg}
use Rattle.qasm_parse.specs.declared.tree.Arg.TheVariants.{Whole, Single}
use Rattle.qasm_parse.specs.declared.tree.Tree.{Tree}
use Rattle.qasm_parse.specs.Faults.{times}
use Rattle.qasm_expand.specs.Sound.{IsWithin, IsSound, members}

pub times_within : (n : ℕ) (args : List Arg) → All (IsWithin n) args → times args ≤ n + 1
times_within n [] all = omega arith
times_within n (Whole first size ∷ args) all =
    let whole : first + size ≤ n = All-head (IsWithin n) (Whole first size) args all in
    omega arith
times_within n (Single index ∷ args) all = times_within n args (All-tail (IsWithin n) (Single index) args all)

pub IsWithin-more : (m n : ℕ) (arg : Arg) → m ≤ n → IsWithin m arg → IsWithin n arg
IsWithin-more m n (Whole first size) more within = omega arith
IsWithin-more m n (Single index) more within = omega arith

-- arguments of a sound tree have small numbers
pub small_qubits : (tree : Tree) → IsSound tree → (arg : Arg) → IsWithin (members tree.quantum) arg → IsWithin 16384 arg
small_qubits tree sound arg within = IsWithin-more (members tree.quantum) 16384 arg (omega (arith, sound.qubits)) within

pub small_bits : (tree : Tree) → IsSound tree → (arg : Arg) → IsWithin (members tree.classical) arg → IsWithin 16384 arg
small_bits tree sound arg within = IsWithin-more (members tree.classical) 16384 arg sound.bits within

pub small_args : (tree : Tree) → IsSound tree → (args : List Arg) → All (IsWithin (members tree.quantum)) args → All (IsWithin 16384) args
small_args tree sound args within = All-weaker (IsWithin (members tree.quantum)) (IsWithin 16384) (small_qubits tree sound) args within
