-- What a frame holds, and when it is the frame after a list of corrections.
use Rattle.std.specs.Prelude.{◌≡◌, ℕ, ◌<◌, Bool, List, ◌++◌, length, replicate, slice_index_or, slice_set}
use Rattle.pauli_product.specs.declared.Letter.{Letter}
use Rattle.pauli_product.specs.declared.Letter.TheVariants.{I, X, Z}
use Rattle.pauli_product.specs.Signed.{Signed, plus}
use Rattle.pauli_product.specs.Pulls.{Turn, quarter, half, carry, TurnsOfLength}
use Rattle.pauli_product.specs.Corrections.{turn_if}

-- the images of X and of Z of each qubit, qubit 0 first
pub record Images : Type 0 where
  pub x : List Signed
  pub z : List Signed

-- the number of qubits
abbrev pub qubits : Images → ℕ
qubits f = length f.x

-- the product on n qubits with sign + and one letter, at qubit q
abbrev pub alone : ℕ → ℕ → Letter → Signed
alone n q l = plus (slice_set (replicate n I) q l)

-- for each of n qubits its letter l, carried by the turns
pub record CarriesEach (n : ℕ) (l : Letter) (turns : List Turn) (images : List Signed) : Type 0 where
  pub size : length images ≡ n
  pub image : (q : ℕ) (d : Signed) → q < n → slice_index_or images q d ≡ carry turns (alone n q l)

-- the frame of n qubits after these corrections, the first one first
pub record After (n : ℕ) (turns : List Turn) (f : Images) : Type 0 where
  pub long : TurnsOfLength n turns
  pub x : CarriesEach n X turns f.x
  pub z : CarriesEach n Z turns f.z

-- a correction about an axis: by a quarter where the one truth value says so, and then by a half where the other does
abbrev pub turns_about : Signed → Bool → Bool → List Turn
turns_about axis by_quarter by_half = turn_if by_quarter axis quarter ++ turn_if by_half axis half
