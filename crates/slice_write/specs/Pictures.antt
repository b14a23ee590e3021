-- Pictures of a layout and of the claims of a slice, and the text of all slices.
use Rattle.std.specs.Prelude.{ℕ, Bool, true, false, ◌+◌, ◌-◌, ◌%◌, ◌==◌, if◌then◌else◌, slice_get, List, [], ◌∷◌, ◌++◌, map, filter, flat_map, length, replicate, codes, decimal, Option, Some, None}
use Rattle.patch_layout.specs.Grid.{Grid, tile_of}
use Rattle.patch_layout.specs.declared.layout.Tile.{Tile}
use Rattle.patch_layout.specs.declared.layout.Tile.TheVariants as tile
use Rattle.board_core.specs.declared.Entry.{Entry}
use Rattle.board_core.specs.declared.Entry.TheVariants.{Claim, Deliver, Release, Step, Settle}
use Rattle.board_core.specs.History.{History}
use Rattle.slice_write.specs.Slices.{Sliced, greatest, is_step_of, is_claim_cell, any_of, upto}

abbrev pub tile_text : Option Tile → List ℕ
tile_text None = []
tile_text (Some tile.Ancilla) = codes "."
tile_text (Some tile.Wall) = codes "#"
tile_text (Some (tile.Patch q)) = 113 ∷ decimal q
tile_text (Some (tile.Port f)) = 109 ∷ decimal f

-- the product that is shown, or what the cell is
abbrev pub shown_text : Option ℕ → Option Tile → List ℕ
shown_text None t = tile_text t
shown_text (Some p) t = decimal p

-- six columns wide, the text at the right
abbrev pub aligned : List ℕ → List ℕ
aligned text = replicate (6 - length text) 32 ++ text

abbrev pub cell_text : Grid → (ℕ → Option ℕ) → ℕ → List ℕ
cell_text g shown c = aligned (shown_text (shown c) (tile_of (slice_get g.sites c)))

-- a line feed after the last cell of a row
abbrev pub row_end : Grid → ℕ → List ℕ
row_end g c = if (c + 1) % g.columns == 0 then 10 ∷ [] else []

abbrev pub piece : Grid → (ℕ → Option ℕ) → ℕ → List ℕ
piece g shown c = cell_text g shown c ++ row_end g c

-- the cells with the products that are shown on them, one line per row
unfoldable pub picture : Grid → (ℕ → Option ℕ) → List ℕ
picture g shown = flat_map (piece g shown) (upto (length g.sites))

abbrev pub nobody : ℕ → Option ℕ
nobody c = None

-- the product of the claim that holds the cell
abbrev pub holder_in : Grid → ℕ → Entry → Option ℕ
holder_in g c (Claim p axis through state cells) = if is_claim_cell g axis through cells c then Some p else None
holder_in g c (Deliver p h) = None
holder_in g c (Release p) = None
holder_in g c (Step f) = None
holder_in g c (Settle p flip) = None

abbrev pub holder : Grid → History → ℕ → Option ℕ
holder g [] c = None
holder g (e ∷ es) c = elim (holder g es c) [ None ↦ holder_in g c e | Some p ↦ Some p ]

abbrev pub is_a_claim : Entry → Bool
is_a_claim (Claim p axis through state cells) = true
is_a_claim (Deliver p g) = false
is_a_claim (Release p) = false
is_a_claim (Step f) = false
is_a_claim (Settle p flip) = false

-- the entries of a slice
abbrev pub in_slice : ℕ → List Sliced → History
in_slice n done = map (λ (e : Sliced). e.0) (filter (λ (e : Sliced). e.1 == n) done)

-- the factories that step, ascending
abbrev pub stepping : History → List ℕ
stepping here = filter (λ f. any_of (is_step_of f) here) (upto 16)

-- a slice's number and the factories that step in it
abbrev pub slice_line : ℕ → List ℕ → List ℕ
slice_line n factories = codes "slice " ++ decimal n ++ flat_map (λ f. 32 ∷ decimal f) factories ++ 10 ∷ []

-- a slice's line, and its picture where it has claims
abbrev pub slice_text : Grid → ℕ → History → List ℕ
slice_text g n here = slice_line n (stepping here) ++ (if any_of is_a_claim here then picture g (holder g here) else [])

-- the text of all slices, from 1 to the greatest
abbrev pub slices_text : Grid → List Sliced → List ℕ
slices_text g done =
    let last = greatest (map (λ (e : Sliced). e.1) done) in
    codes "slices 1 " ++ decimal last ++ 10 ∷ [] ++ flat_map (λ n. slice_text g (n + 1) (in_slice (n + 1) done)) (upto last)
