-- A claim's cells one by one, and tables of holders.
use Rattle.std.specs.Prelude.{◌≡◌, ◌≢◌, ◌⊎◌, ℕ, ◌+◌, ◌<◌, ◌≤◌, slice_get, List, length, Option, Some, None, option_map, unwrap_or, slice_set, nat_lt, ◌==◌, if◌then◌else◌}
use Rattle.pauli_product.specs.declared.Letter.{Letter}
use Rattle.pauli_product.specs.declared.Letter.TheVariants as letter
use Rattle.pauli_product.specs.Signed.{Signed}
use Rattle.patch_layout.specs.Grid.{Grid, IsPatch, IsPort}
use Rattle.board_core.specs.declared.holders.Span.{Span}

-- the k-th of a claim's cells is c: first its region, then the patches at its letters, and then its port
abbrev pub IsCellAt : Grid → Signed → Option ℕ → List ℕ → ℕ → ℕ → Type 0
IsCellAt g axis through cells k c =
    (slice_get cells k ≡ Some c)
    ⊎ ((q : ℕ) × (l : Letter) × (k ≡ length cells + q) × (slice_get axis.letters q ≡ Some l) × (l ≢ letter.I) × IsPatch g q c)
    ⊎ ((f : ℕ) × (k ≡ length cells + length axis.letters) × (through ≡ Some f) × IsPort g f c)

-- one of the first n
abbrev pub IsCellBelow : Grid → Signed → Option ℕ → List ℕ → ℕ → ℕ → Type 0
IsCellBelow g axis through cells n c = (k : ℕ) × (k < n) × IsCellAt g axis through cells k c

-- the cells that meet P have this holder, and the others have the holders that they had
abbrev pub Taken : (ℕ → Type 0) → ℕ → List (Option ℕ) → List (Option ℕ) → Type 0
Taken P by old new =
    (length new ≡ length old)
    × ((c : ℕ) → c < length old → (P c × (slice_get new c ≡ Some (Some by))) ⊎ ((P c → ⊥) × (slice_get new c ≡ slice_get old c)))

-- the least cell that meets P and has a holder, with its holder
abbrev pub LeastTaken : (ℕ → Type 0) → List (Option ℕ) → Option (ℕ × ℕ) → Type 0
LeastTaken P holders None = (c q : ℕ) → P c → slice_get holders c ≡ Some (Some q) → ⊥
LeastTaken P holders (Some (cell, by)) =
    P cell × (slice_get holders cell ≡ Some (Some by)) × ((c q : ℕ) → c < cell → P c → slice_get holders c ≡ Some (Some q) → ⊥)

-- the table with one more holder, where there is a cell
abbrev pub given_to : Option ℕ → ℕ → List (Option ℕ) → List (Option ℕ)
given_to None by holders = holders
given_to (Some c) by holders = slice_set holders c (Some by)

abbrev pub LiesIn : Span → ℕ → Type 0
LiesIn s c = (s.first ≤ c) × (c ≤ s.last)

-- each cell lies in the span of the product that holds it
abbrev pub Spanned : List (Option ℕ) → List Span → Type 0
Spanned holders spans = (c p : ℕ) (s : Span) → slice_get holders c ≡ Some (Some p) → slice_get spans p ≡ Some s → LiesIn s c

-- what this product holds lies between the two, the second one excluded
abbrev pub HoldsBetween : ℕ → ℕ → ℕ → List (Option ℕ) → Type 0
HoldsBetween first end by holders = (c : ℕ) → slice_get holders c ≡ Some (Some by) → (first ≤ c) × (c < end)

-- none where this product is the holder
abbrev pub without : ℕ → Option ℕ → Option ℕ
without by None = None
without by (Some q) = if q == by then None else Some q

-- the cell is free where this product held it
abbrev pub FreedAt : ℕ → List (Option ℕ) → List (Option ℕ) → ℕ → Type 0
FreedAt by old new c = slice_get new c ≡ option_map (without by) (slice_get old c)

abbrev pub lesser : Option (ℕ × ℕ) → ℕ → Option ℕ → Option (ℕ × ℕ)
lesser best cell None = best
lesser None cell (Some by) = Some (cell, by)
lesser (Some (least, of)) cell (Some by) = if nat_lt cell least then Some (cell, by) else Some (least, of)

-- the lesser of the best cell so far and this one, if there is one and it is held
abbrev pub better_of : Option (ℕ × ℕ) → Option ℕ → List (Option ℕ) → Option (ℕ × ℕ)
better_of best None holders = best
better_of best (Some c) holders = lesser best c (unwrap_or (slice_get holders c) None)

-- a claim's region is taken, whatever the rest of the claim is
abbrev pub RegionTaken : List ℕ → ℕ → List (Option ℕ) → List (Option ℕ) → Type 0
RegionTaken cells by old new = (g : Grid) (axis : Signed) (through : Option ℕ) → Taken (IsCellBelow g axis through cells (length cells)) by old new

-- after a claim's region its patches are taken
abbrev pub PatchesTaken : Grid → Signed → ℕ → List (Option ℕ) → List (Option ℕ) → Type 0
PatchesTaken g axis by old new =
    (through : Option ℕ) (cells : List ℕ) (first : List (Option ℕ)) → Taken (IsCellBelow g axis through cells (length cells)) by first old
    → Taken (IsCellBelow g axis through cells (length cells + length axis.letters)) by first new

-- the least of a claim's region, whatever the rest of the claim is
abbrev pub LeastOfRegion : List ℕ → List (Option ℕ) → Option (ℕ × ℕ) → Type 0
LeastOfRegion cells holders best = (g : Grid) (axis : Signed) (through : Option ℕ) → LeastTaken (IsCellBelow g axis through cells (length cells)) holders best

-- the least of a claim's region and patches, where the first one is that of its region
abbrev pub LeastWithPatches : Grid → Signed → List (Option ℕ) → Option (ℕ × ℕ) → Option (ℕ × ℕ) → Type 0
LeastWithPatches g axis holders region best =
    (through : Option ℕ) (cells : List ℕ) → LeastTaken (IsCellBelow g axis through cells (length cells)) holders region
    → LeastTaken (IsCellBelow g axis through cells (length cells + length axis.letters)) holders best
