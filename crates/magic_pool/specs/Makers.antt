-- What is asked of the makers of a pool.
use Rattle.std.specs.Prelude.{◌≡◌, ℕ, ◌<◌, ◌≤◌, List, slice_get, Some}
use Rattle.magic_pool.specs.declared.Maker.{Maker}

-- no two makers are of one factory
abbrev pub AreDistinct : List Maker → Type 0
AreDistinct makers = (i j : ℕ) (m n : Maker) → i < j → slice_get makers i ≡ Some m → slice_get makers j ≡ Some n → m.factory ≡ n.factory → ⊥

abbrev pub IsMaker : Maker → Type 0
IsMaker m = (m.factory < 16) × (1 ≤ m.store) × (m.store ≤ 16)
