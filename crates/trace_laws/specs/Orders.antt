-- Orders of products, and exchanges of neighbours.
use Rattle.std.specs.Prelude.{◌≡◌, ℕ, zero, suc, Bool, true, false, ◌<◌, ◌==◌, ◌||◌, if◌then◌else◌, List, [], ◌∷◌, ◌++◌, length}
use Rattle.trace_laws.specs.Steps.{Step, commuting, pass}

-- 0, 1, 2, .. below n
abbrev pub upto : ℕ → List ℕ
upto zero = []
upto (suc n) = upto n ++ n ∷ []

-- whether a number stands in an order
abbrev pub stands : ℕ → List ℕ → Bool
stands p [] = false
stands p (q ∷ w) = q == p || stands p w

-- the numbers below n that don't stand in an order, ascending
abbrev pub others : ℕ → List ℕ → List ℕ
others zero w = []
others (suc n) w = others n w ++ (if stands n w then [] else n ∷ [])

-- an order that comes from another one by exchanges of two neighbours that may change places
pub data Exchanged (may : ℕ → ℕ → Bool) (start : List ℕ) : List ℕ → Type 0 where
  same : Exchanged may start start
  swapped : (u v : List ℕ) (i j : ℕ) → may i j ≡ true → Exchanged may start (u ++ i ∷ j ∷ v) → Exchanged may start (u ++ j ∷ i ∷ v)

-- an order that comes from the source order by exchanges of two neighbours that commute
abbrev pub SwapEqual : List Step → List ℕ → Type 0
SwapEqual steps w = Exchanged (pass commuting steps) (upto (length steps)) w

-- p is one of the first n products, it doesn't stand in the front, and each earlier one that may not pass it does
pub record Ready (may : ℕ → ℕ → Bool) (n : ℕ) (front : List ℕ) (p : ℕ) : Type 0 where
  pub within : p < n
  pub once : stands p front ≡ false
  pub waited : (q : ℕ) → q < p → may q p ≡ false → stands q front ≡ true

-- distinct products after a front, each one with its earlier products that may not pass it before it
abbrev pub Waiting : (ℕ → ℕ → Bool) → ℕ → List ℕ → List ℕ → Type 0
Waiting may n front [] = Unit {0}
Waiting may n front (p ∷ w) = Ready may n front p × Waiting may n (p ∷ front) w

-- no product stands after a later one that it may not pass
abbrev pub NoneReversed : (ℕ → ℕ → Bool) → List ℕ → Type 0
NoneReversed may [] = Unit {0}
NoneReversed may (p ∷ w) = ((q : ℕ) → stands q w ≡ true → q < p → may q p ≡ true) × NoneReversed may w

-- no number twice
abbrev pub Distinct : List ℕ → Type 0
Distinct [] = Unit {0}
Distinct (p ∷ w) = (stands p w ≡ false) × Distinct w

-- each number below n once, and no other
pub record OrderOfAll (n : ℕ) (w : List ℕ) : Type 0 where
  pub within : (p : ℕ) → stands p w ≡ true → p < n
  pub distinct : Distinct w
  pub all : (p : ℕ) → p < n → stands p w ≡ true

-- p may come next after an order: it waits on no earlier product that doesn't commute with it
abbrev pub Next : List Step → List ℕ → ℕ → Type 0
Next steps u p = Ready (pass commuting steps) (length steps) u p
