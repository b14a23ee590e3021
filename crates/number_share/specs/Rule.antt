-- The rule of the word, which is the next number: each number below it was drawn once, as far as it is shared.
use Rattle.std.specs.Prelude.{◌≡◌, ℕ, ◌+◌, ◌-◌, ◌^◌, ◌<◌, ◌≤◌, min, [], ◌∷◌, length, nat_lt}
use Rattle.std.specs.List.{sum_by}
use mathlib.Core.Option.{some}
use lib.ListN.{get_elem?}
use Rattle.atomic_table.specs.Table.{State}
use Rattle.number_share.specs.declared.view.View.{View}
use Rattle.number_share.specs.Lists.{one_if, times}

-- a seat that stands for no hand drew nothing, and each hand reads one number past the shared ones at most
pub record Fits (numbers : ℕ) (v : View) : Type 0 where
  pub same : 0 < v.part → v.numbers ≡ numbers
  pub idle : v.part ≡ 0 → v.drawn ≡ []
  pub few : length v.past ≤ v.part

pub record Kept (numbers owners : ℕ) (s : State (Unit {0}) View) : Type 0 where
  -- the next number, and how many were drawn
  pub next : ℕ
  pub count : ℕ
  pub words : s.words ≡ next ∷ []
  pub count_is : count ≡ min next numbers
  -- the numbers that were drawn are those below `count`, each once
  pub once : (n : ℕ) → sum_by (λ (v : View). times n v.drawn) s.views ≡ one_if (nat_lt n count)
  pub drawn : sum_by (λ (v : View). length v.drawn) s.views ≡ count
  -- each further step was one past the shared numbers
  pub past : sum_by (λ (v : View). length v.past) s.views ≡ next - numbers
  pub parts : sum_by (λ (v : View). v.part) s.views ≡ owners
  pub small : numbers + owners < 2 ^ 32
  pub each : (j : ℕ) (v : View) → get_elem? s.views j ≡ some v → Fits numbers v
