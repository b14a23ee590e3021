-- Layers that are being filled, with their products.
use Rattle.std.specs.Prelude.{◌≡◌, ℕ, ◌+◌, ◌-◌, ◌<◌, ◌≤◌, false, not, List, [], length, slice_index, slice_index_or, Option, Some, None, All, Contains}
use Rattle.std.specs.List.{find}
use Rattle.std.specs.List.Sorted.{IsStrictlyIncreasing}
use Rattle.pauli_product.specs.Signed.{Signed}
use Rattle.commute_order.specs.declared.Uses.{Uses}
use Rattle.commute_order.specs.Commuting.{commuting_at}
use Rattle.layer_pass.specs.Layering.{IsLeastNumber, IsBelow}

-- the first of some products that doesn't commute with p
abbrev pub first_clash_of : List Signed → List Uses → ℕ → List ℕ → Option ℕ
first_clash_of ps us p row = find (λ j. not (commuting_at ps us j p)) row

-- so many layers have a product that doesn't commute with p among them, and the first such product of the last of them
pub record IsPlace (ps : List Signed) (us : List Uses) (rows : List (List ℕ)) (p below blocker : ℕ) : Type 0 where
  pub above : (k : ℕ) → below ≤ k → k < length rows → first_clash_of ps us p (slice_index_or rows k []) ≡ None
  pub blocks : 0 < below → first_clash_of ps us p (slice_index_or rows (below - 1) []) ≡ Some blocker

-- all products of a layer, ascending
pub record IsRow (layer : List ℕ) (number : ℕ) (row : List ℕ) : Type 0 where
  pub some : 0 < length row
  pub members : All (λ j. (j < length layer) × (slice_index layer j ≡ number)) row
  pub rising : IsStrictlyIncreasing row
  pub whole : (j : ℕ) → j < length layer → slice_index layer j ≡ number → Contains row j

-- a row for each layer
pub record IsFilled (layer : List ℕ) (rows : List (List ℕ)) : Type 0 where
  pub numbers : All (λ k. (1 ≤ k) × (k ≤ length rows)) layer
  pub row : (k : ℕ) → k < length rows → IsRow layer (k + 1) (slice_index_or rows k [])

-- the products so far stand in layers as low as can be, and each above the first layer has the product that holds it there
pub record IsDraft (ps : List Signed) (us : List Uses) (layer before : List ℕ) : Type 0 where
  pub apart : (i j : ℕ) → i < j → j < length layer → commuting_at ps us i j ≡ false → slice_index layer i < slice_index layer j
  pub held : (j : ℕ) → j < length layer → 1 < slice_index layer j → IsLeastNumber (IsBelow ps us layer j) (slice_index before j)

-- from the first product of the last row back, each the one that holds the next in its layer
pub record IsWalk (rows : List (List ℕ)) (before chain : List ℕ) : Type 0 where
  pub size : length chain ≡ length rows
  pub last : (i : ℕ) → i + 1 ≡ length rows → slice_index chain i ≡ slice_index (slice_index_or rows i []) 0
  pub back : (i : ℕ) → i + 1 < length rows → slice_index chain i ≡ slice_index before (slice_index chain (i + 1))
