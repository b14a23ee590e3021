-- How large a job may be, and how long its histories can get.
use Rattle.std.specs.Prelude.{ℕ, ◌<◌, ◌≤◌, ◌^◌, length}
use Rattle.patch_layout.specs.Grid.{Grid, HasStore}
use Rattle.board_core.specs.History.{History}
use Rattle.board_core.specs.Legal.{BoardJob, Legal}
use Rattle.board_core.specs.Laws.{ProductsOfLength}

-- within the limits: 1,024 qubits, 16,384 products, 4,096 failing runs
pub record WithinLimits (j : BoardJob) : Type 0 where
  pub qubits : ℕ
  pub few_qubits : qubits ≤ 1024
  pub axes_fit : ProductsOfLength qubits j.products
  pub few_products : length j.products ≤ 16384
  pub few_fails : length j.fails ≤ 4096

-- the factories have numbers below 16, and stores of 1 to 16, as those of every layout
abbrev pub AreFactories : Grid → Type 0
AreFactories g = (f store : ℕ) → HasStore g f store → (f < 16) × (0 < store) × (store ≤ 16)

-- a legal history has fewer than 2^20 entries
abbrev pub LegalIsShort : Type 0
LegalIsShort = (j : BoardJob) (h : History) → WithinLimits j → AreFactories j.grid → Legal j h → length h < 2 ^ 20
