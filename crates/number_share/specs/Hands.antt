-- Shares and hands as clauses see them.
use Rattle.std.specs.Prelude.{◌≡◌, ℕ, ◌+◌, ◌-◌, ◌<◌, ◌≤◌, Option, Some, List, [], ◌∷◌, ◌++◌, take, drop, slice_get}
use Rattle.std.specs.List.{Any, flat_map, range_with_len}
use Rattle.atomic_table.specs.Seated.{TableId}
use Rattle.number_share.specs.Lists.{without}

-- which share it is, how many numbers it shares, and among how many hands
pub record NamedShare : Type 0 where
  pub id : TableId
  pub numbers : ℕ
  pub owners : ℕ

-- the share that a hand was made with, and the numbers that it shares
-- `past`: the numbers that the hand read and that aren't shared; `held`: what it took and hasn't put back, in the order taken; `left`: what was put and hasn't been taken again, the oldest first
pub record Owner : Type 0 where
  pub share : TableId
  pub numbers : ℕ
  pub past : List ℕ
  pub held : List ℕ
  pub left : List ℕ

-- the hand was made with the share
abbrev pub IsHandOf : NamedShare → Owner → Type 0
IsHandOf s h = (h.share ≡ s.id) × (h.numbers ≡ s.numbers)

-- a hand that took nothing
abbrev pub unused : TableId → ℕ → Owner
unused id numbers = record { share = id; numbers = numbers; past = []; held = []; left = [] }

abbrev pub fresh : NamedShare → Owner
fresh s = unused s.id s.numbers

-- one of its steps read a number that isn't shared
abbrev pub IsSpent : Owner → Type 0
IsSpent h = (r : ℕ) × (h.numbers ≤ r) × (h.past ≡ r ∷ [])

-- a step drew n
abbrev pub drawing : Owner → ℕ → Owner
drawing h n = record h { held = h.held ++ n ∷ [] }

-- a step read r, which isn't shared
abbrev pub spending : Owner → ℕ → Owner
spending h r = record h { past = h.past ++ r ∷ [] }

-- the oldest number that was put is taken again, if there is one
abbrev pub retaking : Owner → Owner
retaking h = record h { held = h.held ++ take 1 h.left; left = drop 1 h.left }

-- n is put back
abbrev pub putting : Owner → ℕ → Owner
putting h n = record h { held = without n h.held; left = h.left ++ n ∷ [] }

-- what a take does
pub data Takes (h : Owner) (answer : Option ℕ) (after : Owner) : Type 0 where
  -- its step drew n
  draws : (n : ℕ) → h.past ≡ [] → n < h.numbers → answer ≡ Some n → after ≡ drawing h n → Takes h answer after
  -- its step read r, which isn't shared: the hand is spent, and takes again what was put
  ends : (r : ℕ) → h.past ≡ [] → h.numbers ≤ r → answer ≡ slice_get h.left 0 → after ≡ retaking (spending h r) → Takes h answer after
  -- a spent hand makes no step, and takes again what was put
  retakes : IsSpent h → answer ≡ slice_get h.left 0 → after ≡ retaking h → Takes h answer after

-- the numbers that were put, and then those that no hand drew: none, where a hand is spent
pub record LeavesPut (numbers : ℕ) (hands : List Owner) (answer : List ℕ) : Type 0 where
  pub next : ℕ
  pub inside : next ≤ numbers
  pub is : answer ≡ flat_map (λ (h : Owner). h.left) hands ++ range_with_len next (numbers - next)
  pub spent : Any IsSpent hands → next ≡ numbers
