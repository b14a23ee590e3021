-- When products with bits that they read and write commute, and what a product waits on.
use Rattle.std.specs.Prelude.{◌≡◌, ℕ, ◌<◌, ◌≤◌, Bool, false, not, List, [], length, slice_get, slice_index_or, Option, Some, None, All}
use Rattle.pauli_product.specs.Signed.{Signed, plus, OfLength}
use Rattle.pauli_product.specs.Commuting.{BitUses, is_among}
use Rattle.pauli_product.specs.Commuting as uses
use Rattle.commute_order.specs.declared.Uses.{Uses}

-- the bits that a product reads and writes
abbrev pub bits_of : Uses → BitUses
bits_of u = record { reads = is_among u.read_first u.read_size; write = u.write }

-- whether the first reads a bit that the second writes
abbrev pub reads_from : Uses → Uses → Bool
reads_from u v = uses.reads_from (bits_of u) (bits_of v)

-- products commute where their axes do and neither reads a bit that the other writes
abbrev pub commuting : Signed → Uses → Signed → Uses → Bool
commuting p u q v = uses.commuting p (bits_of u) q (bits_of v)

-- the same of two numbers in lists of products and of their uses
unfoldable pub commuting_at : List Signed → List Uses → ℕ → ℕ → Bool
commuting_at ps us i j =
    let none : Uses = record { read_first = 0; read_size = 0; write = None } in
    commuting (slice_index_or ps i (plus [])) (slice_index_or us i none) (slice_index_or ps j (plus [])) (slice_index_or us j none)

-- for each product a row: for itself and each product before it, whether the two don't commute
pub record IsOrder (ps : List Signed) (us : List Uses) (rows : List (List Bool)) : Type 0 where
  pub size : length rows ≡ length ps
  pub row : (p j : ℕ) → p < length ps → j ≤ p → slice_index_or (slice_index_or rows p []) j false ≡ not (commuting_at ps us j p)

-- all products have letters for equally many qubits
abbrev pub OneLength : List Signed → Type 0
OneLength ps = (n : ℕ) × All (OfLength n) ps

-- p waits on an earlier j that doesn't commute with it and isn't done
pub record WaitsOn (ps : List Signed) (us : List Uses) (done : List Bool) (p j : ℕ) : Type 0 where
  pub earlier : j < p
  pub clash : commuting_at ps us j p ≡ false
  pub undone : slice_get done j ≡ Some false

-- the least that p waits on, if there is one
abbrev pub LeastWait : List Signed → List Uses → List Bool → ℕ → Option ℕ → Type 0
LeastWait ps us done p None = (j : ℕ) → WaitsOn ps us done p j → ⊥
LeastWait ps us done p (Some j) = WaitsOn ps us done p j × ((k : ℕ) → k < j → WaitsOn ps us done p k → ⊥)
