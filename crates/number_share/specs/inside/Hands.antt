-- What a hand keeps between two calls, and what all hands have together.
use Rattle.std.specs.Prelude.{◌≡◌, ℕ, ◌+◌, ◌-◌, ◌<◌, ◌≤◌, min, Bool, true, false, List, [], ◌∷◌, length, nat_lt}
use Rattle.std.specs.List.{All, sum_by}
use Rattle.number_share.specs.declared.view.View.{View}
use Rattle.number_share.specs.Lists.{one_if, times}
use Rattle.number_share.specs.inside.Views.{IsSound}
use Rattle.number_share.specs.inside.Plays.{Sat}
use Rattle.number_share.specs.Hands.{Owner}

-- a hand between two calls, with the room for all numbers
pub record HandRests (m : Sat) (spent : Bool) (held left : List ℕ) (held_room left_room : ℕ) : Type 0 where
  pub no_slot : m.1 ≡ []
  pub one : m.0.part ≡ 1
  pub sound : IsSound m.0
  pub unspent : spent ≡ false → m.0.past ≡ []
  pub spent_by : spent ≡ true → (r : ℕ) × (m.0.numbers ≤ r) × (m.0.past ≡ r ∷ [])
  pub each : (n : ℕ) → times n held + times n left ≡ times n m.0.drawn
  pub long : length held + length left ≡ length m.0.drawn
  pub below : All (λ n. n < m.0.numbers) left
  pub below_held : All (λ n. n < m.0.numbers) held
  pub held_fits : m.0.numbers ≤ held_room
  pub left_fits : m.0.numbers ≤ left_room

-- how often n stands in a hand
abbrev pub worth : ℕ → Owner → ℕ
worth n h = times n h.held + times n h.left

-- the view of all hands together
pub record HoldsAll (hands : List Owner) (v : View) : Type 0 where
  pub part : v.part ≡ length hands
  pub drawn : (n : ℕ) → times n v.drawn ≡ sum_by (worth n) hands
  pub past : length v.past ≡ sum_by (λ (h : Owner). length h.past) hands

-- the numbers below `numbers` that are below the word stand in the hands, each once
pub record Drawn (hands : List Owner) (numbers next : ℕ) : Type 0 where
  pub each : (n : ℕ) → sum_by (worth n) hands ≡ one_if (nat_lt n (min next numbers))
  pub past : sum_by (λ (h : Owner). length h.past) hands ≡ next - numbers
