-- Layers of commuting products, and chains of products that don't commute.
use Rattle.std.specs.Prelude.{◌≡◌, ℕ, ◌+◌, ◌<◌, ◌≤◌, true, false, List, length, slice_index, All}
use Rattle.std.specs.List.Sorted.{IsStrictlyIncreasing}
use Rattle.pauli_product.specs.Signed.{Signed}
use Rattle.commute_order.specs.declared.Uses.{Uses}
use Rattle.commute_order.specs.Commuting.{commuting_at}

-- a number from 1 to `count` for each product: two products of one layer commute, and of two that don't the earlier has the lower number
pub record IsLayering (ps : List Signed) (us : List Uses) (layer : List ℕ) (count : ℕ) : Type 0 where
  pub size : length layer ≡ length ps
  pub numbers : All (λ k. (1 ≤ k) × (k ≤ count)) layer
  pub together : (i j : ℕ) → i < j → j < length ps → slice_index layer i ≡ slice_index layer j → commuting_at ps us i j ≡ true
  pub apart : (i j : ℕ) → i < j → j < length ps → commuting_at ps us i j ≡ false → slice_index layer i < slice_index layer j

-- no layering gives a product a lower number
abbrev pub IsLowest : List Signed → List Uses → List ℕ → Type 0
IsLowest ps us layer = (other : List ℕ) (count : ℕ) → IsLayering ps us other count → (p : ℕ) → p < length ps → slice_index layer p ≤ slice_index other p

-- no layering has fewer layers
abbrev pub IsFewest : List Signed → List Uses → ℕ → Type 0
IsFewest ps us count = (other : List ℕ) (more : ℕ) → IsLayering ps us other more → count ≤ more

-- products ascending, each not commuting with the next
pub record IsChain (ps : List Signed) (us : List Uses) (chain : List ℕ) : Type 0 where
  pub products : All (λ p. p < length ps) chain
  pub rising : IsStrictlyIncreasing chain
  pub clashes : (i : ℕ) → i + 1 < length chain → commuting_at ps us (slice_index chain i) (slice_index chain (i + 1)) ≡ false

-- the least number with a property
pub record IsLeastNumber (P : ℕ → Type 0) (n : ℕ) : Type 0 where
  pub has : P n
  pub none_below : (k : ℕ) → k < n → P k → ⊥

-- a product of the last layer
pub record IsLast (layer : List ℕ) (count p : ℕ) : Type 0 where
  pub within : p < length layer
  pub last : slice_index layer p ≡ count

-- j is earlier than p, doesn't commute with it, and has a layer that is one less
pub record IsBelow (ps : List Signed) (us : List Uses) (layer : List ℕ) (p j : ℕ) : Type 0 where
  pub earlier : j < p
  pub clash : commuting_at ps us j p ≡ false
  pub one_less : slice_index layer j + 1 ≡ slice_index layer p

-- a product from each layer: in the last layer the least one, and in each before the least one below its successor
pub record IsTraced (ps : List Signed) (us : List Uses) (layer : List ℕ) (chain : List ℕ) : Type 0 where
  pub last : (i : ℕ) → i + 1 ≡ length chain → IsLeastNumber (IsLast layer (length chain)) (slice_index chain i)
  pub before : (i : ℕ) → i + 1 < length chain → IsLeastNumber (IsBelow ps us layer (slice_index chain (i + 1))) (slice_index chain i)

-- a chain is never longer than a layering has layers
abbrev pub ChainsBoundLayerings : Type 0
ChainsBoundLayerings = (ps : List Signed) (us : List Uses) (chain layer : List ℕ) (count : ℕ) → IsChain ps us chain → IsLayering ps us layer count → length chain ≤ count
