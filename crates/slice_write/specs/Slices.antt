-- The slice of each entry of a history: the least that leaves it after all that it needs.
use Rattle.std.specs.Prelude.{ℕ, zero, suc, Bool, true, false, ◌+◌, ◌-◌, ◌%◌, ◌==◌, ◌&&◌, ◌||◌, not, max, nat_lt, if◌then◌else◌, slice_get, slice_index_or, List, [], ◌∷◌, ◌++◌, map, filter, length, Option, Some, None}
use Rattle.pauli_product.specs.declared.Letter.TheVariants as letter
use Rattle.pauli_product.specs.declared.Letter.{Letter}
use Rattle.pauli_product.specs.Signed.{Signed, letter_at}
use Rattle.source_model.specs.declared.Static.{Static}
use Rattle.source_model.specs.Statics.{commuting}
use Rattle.patch_layout.specs.Grid.{Grid}
use Rattle.patch_layout.specs.declared.layout.Site.{Site}
use Rattle.patch_layout.specs.declared.layout.Site.TheVariants as site
use Rattle.magic_pool.specs.declared.Fail.{Fail}
use Rattle.magic_pool.specs.Recount.{makers_of, step_count}
use Rattle.board_core.specs.declared.Entry.{Entry}
use Rattle.board_core.specs.declared.Entry.TheVariants.{Claim, Deliver, Release, Step, Settle}
use Rattle.board_core.specs.History.{History, steps, is_claim_of}
use Rattle.board_core.specs.Legal.{BoardJob}

-- an entry that has its slice
abbrev pub Sliced : Type 0
Sliced = Entry × ℕ

abbrev pub greatest : List ℕ → ℕ
greatest [] = 0
greatest (n ∷ ns) = max n (greatest ns)

-- the greatest slice among the entries that pass a test
unfoldable pub greatest_of : (Entry → Bool) → List Sliced → ℕ
greatest_of test done = greatest (map (λ e. e.1) (filter (λ e. test e.0) done))

abbrev pub is_step_of : ℕ → Entry → Bool
is_step_of f (Claim q axis through state cells) = false
is_step_of f (Deliver q g) = false
is_step_of f (Release q) = false
is_step_of f (Step g) = g == f
is_step_of f (Settle q flip) = false

abbrev pub is_claim_with : ℕ → Entry → Bool
is_claim_with s (Claim q axis through None cells) = false
is_claim_with s (Claim q axis through (Some t) cells) = t == s
is_claim_with s (Deliver q g) = false
is_claim_with s (Release q) = false
is_claim_with s (Step g) = false
is_claim_with s (Settle q flip) = false

-- what is no product commutes with all
abbrev pub commuting_ones : Option Static → Option Static → Bool
commuting_ones None t = true
commuting_ones (Some s) None = true
commuting_ones (Some s) (Some t) = commuting s t

unfoldable pub commute_at : List Static → ℕ → ℕ → Bool
commute_at products p q = commuting_ones (slice_get products p) (slice_get products q)

-- a claim or settling of a product that doesn't commute with p
abbrev pub clashes_with : List Static → ℕ → Entry → Bool
clashes_with products p (Claim q axis through state cells) = not (commute_at products q p)
clashes_with products p (Deliver q g) = false
clashes_with products p (Release q) = false
clashes_with products p (Step g) = false
clashes_with products p (Settle q flip) = not (commute_at products q p)

abbrev pub is_identity : Letter → Bool
is_identity letter.I = true
is_identity letter.X = false
is_identity letter.Y = false
is_identity letter.Z = false

abbrev pub is_port : Option ℕ → ℕ → Bool
is_port None f = false
is_port (Some g) f = g == f

-- whether a claim with this axis and port holds a cell by what the cell is: a patch at a letter other than I, or the port
abbrev pub holds_site : Signed → Option ℕ → Option Site → Bool
holds_site axis through None = false
holds_site axis through (Some site.Ancilla) = false
holds_site axis through (Some site.Wall) = false
holds_site axis through (Some (site.Patch q level)) = not (is_identity (letter_at axis q))
holds_site axis through (Some (site.Port f level store)) = is_port through f

abbrev pub is_among : List ℕ → ℕ → Bool
is_among [] c = false
is_among (d ∷ ds) c = d == c || is_among ds c

-- the cells that a claim holds: its region, patches and port
unfoldable pub is_claim_cell : Grid → Signed → Option ℕ → List ℕ → ℕ → Bool
is_claim_cell g axis through cells c = is_among cells c || holds_site axis through (slice_get g.sites c)

-- the numbers below n
abbrev pub upto : ℕ → List ℕ
upto zero = []
upto (suc n) = upto n ++ n ∷ []

abbrev pub any_of : {X : Type 0} → (X → Bool) → List X → Bool
any_of test [] = false
any_of test (x ∷ xs) = test x || any_of test xs

-- a claim that holds the cell
abbrev pub holds_cell : Grid → ℕ → Entry → Bool
holds_cell g c (Claim q axis through state cells) = is_claim_cell g axis through cells c
holds_cell g c (Deliver q h) = false
holds_cell g c (Release q) = false
holds_cell g c (Step f) = false
holds_cell g c (Settle q flip) = false

-- a claim that shares a held cell with a claim of this axis, port and region
unfoldable pub shares_cell : Grid → Signed → Option ℕ → List ℕ → Entry → Bool
shares_cell g axis through cells e = any_of (λ c. is_claim_cell g axis through cells c && holds_cell g c e) (upto (length g.sites))

abbrev pub entries_of : List Sliced → History
entries_of done = map (λ e. e.0) done

-- the factory of each state that the entries made
abbrev pub made_in : List Fail → History → List ℕ
made_in fails h = makers_of fails (steps h)

-- the slice of the first entry after which the state is made, after these entries
abbrev pub made_from : List Fail → ℕ → History → List Sliced → ℕ
made_from fails s before [] = 0
made_from fails s before (e ∷ es) =
    if nat_lt s (length (made_in fails (before ++ e.0 ∷ []))) then e.1 else made_from fails s (before ++ e.0 ∷ []) es

-- the slice of the step that made the state
unfoldable pub made_at : List Fail → List Sliced → ℕ → ℕ
made_at fails done s = made_from fails s [] done

abbrev pub state_made : List Fail → Option ℕ → List Sliced → ℕ
state_made fails None done = 0
state_made fails (Some s) done = made_at fails done s

-- the store of a factory, by the sites
abbrev pub store_in : List Site → ℕ → ℕ
store_in [] f = 0
store_in (site.Ancilla ∷ ss) f = store_in ss f
store_in (site.Wall ∷ ss) f = store_in ss f
store_in (site.Patch q level ∷ ss) f = store_in ss f
store_in (site.Port g level store ∷ ss) f = if g == f then store else store_in ss f

-- the numbers, from n on, of the states that the factory made
abbrev pub numbers_from : ℕ → ℕ → List ℕ → List ℕ
numbers_from n f [] = []
numbers_from n f (m ∷ ms) = if m == f then (n ∷ numbers_from (n + 1) f ms) else numbers_from (n + 1) f ms

unfoldable pub states_made_by : List Fail → ℕ → List Sliced → List ℕ
states_made_by fails f done = numbers_from 0 f (made_in fails (entries_of done))

-- the slice of the claim that made room for a run: that of the factory's own state number m - store, where m states were made before
abbrev pub room_made : ℕ → List ℕ → List Sliced → ℕ
room_made store made done =
    if nat_lt (length made) store then 0 else greatest_of (is_claim_with (slice_index_or made (length made - store) 0)) done

abbrev pub step_slice : BoardJob → List Sliced → ℕ → ℕ
step_slice j done f =
    1 + max (greatest_of (is_step_of f) done)
    (if step_count f (steps (entries_of done)) % 11 == 0 then room_made (store_in j.grid.sites f) (states_made_by j.fails f done) done else 0)

-- the slice of an entry after these
unfoldable pub slice_of : BoardJob → List Sliced → Entry → ℕ
slice_of j done (Claim p axis through state cells) =
    1 + max (state_made j.fails state done) (max (greatest_of (shares_cell j.grid axis through cells) done) (greatest_of (clashes_with j.products p) done))
slice_of j done (Deliver p g) = greatest_of (is_claim_of p) done
slice_of j done (Release p) = greatest_of (is_claim_of p) done
slice_of j done (Step f) = step_slice j done f
slice_of j done (Settle p flip) = greatest_of (clashes_with j.products p) done

-- an entry with its slice
abbrev pub with_slice : BoardJob → List Sliced → Entry → Sliced
with_slice j done e = (e, slice_of j done e)

abbrev pub sliced_after : BoardJob → List Sliced → History → List Sliced
sliced_after j done [] = done
sliced_after j done (e ∷ es) = sliced_after j (done ++ with_slice j done e ∷ []) es

-- the entries of a history with their slices
unfoldable pub sliced : BoardJob → History → List Sliced
sliced j h = sliced_after j [] h

-- the slice of each entry of a history
abbrev pub slices_of : BoardJob → History → List ℕ
slices_of j h = map (λ e. e.1) (sliced j h)
