-- What the tables hold after a history, so that no entry goes through all that came before it.
use Rattle.std.specs.Prelude.{◌≡◌, ℕ, ◌+◌, ◌^◌, ◌<◌, ◌≤◌, map, if◌then◌else◌, List, [], ◌∷◌, ◌++◌, length, All, slice_set, slice_index, slice_index_or, Option, IfSome}
use Rattle.std.specs.List.Sorted.{IsNonDecreasingBy}
use Rattle.source_model.specs.declared.Static.{Static}
use Rattle.patch_layout.specs.Grid.{Grid}
use Rattle.magic_pool.specs.declared.Fail.{Fail}
use Rattle.board_core.specs.declared.Entry.{Entry}
use Rattle.board_core.specs.declared.Entry.TheVariants.{Claim, Deliver, Release, Step, Settle}
use Rattle.board_core.specs.History.{is_claim_of}
use Rattle.board_core.specs.Legal.{BoardJob}
use Rattle.slice_write.specs.declared.factory.Factory.{Factory}
use Rattle.slice_write.specs.declared.ledger.Ledger.{Ledger}
use Rattle.slice_write.specs.Slices.{Sliced, greatest, greatest_of, is_claim_with, is_among, holds_cell, clashes_with, entries_of, made_in, made_at, slice_of}
use Rattle.slice_write.specs.inside.Numbers.{raised, raised_if}
use Rattle.slice_write.specs.inside.Clashes.{greatest_clash, placed_at, PlacedAre, Inserts}
use Rattle.slice_write.specs.inside.Factories.{FactoryIs, Steps, makes}

abbrev pub job : List Static → Grid → List Fail → BoardJob
job products grid fails = record { products = products; grid = grid; fails = fails }

-- the tables after entries that have their slices
pub record Keeps (j : BoardJob) (done : List Sliced) (t : Ledger) : Type 0 where
  pub bound : greatest (map (λ e. e.1) done) ≤ length done
  pub size : length t.cells.items ≡ length j.grid.sites
  pub cells : (c : ℕ) → c < length j.grid.sites → slice_index t.cells.items c ≡ greatest_of (holds_cell j.grid c) done
  pub products : length t.claims.items ≡ length j.products
  pub claims : (p : ℕ) → slice_index t.claims.items p ≡ greatest_of (is_claim_of p) done
  pub states : length t.made.items ≡ length (made_in j.fails (entries_of done))
  pub made : (s : ℕ) → slice_index t.made.items s ≡ made_at j.fails done s
  pub states_taken : length t.taken.items ≡ length (made_in j.fails (entries_of done))
  pub taken : (s : ℕ) → slice_index t.taken.items s ≡ greatest_of (is_claim_with s) done
  pub count : length t.factories.items ≡ 16
  pub factories : (f : ℕ) (d : Factory) → f < 16 → FactoryIs j done f (slice_index_or t.factories.items f d)
  pub placed : PlacedAre j.products t.placed.items
  pub clashes : (p : ℕ) → greatest_clash j.products t.placed.items p ≡ greatest_of (clashes_with j.products p) done

-- the numbers that an entry names have their places in the tables
abbrev pub Fits : BoardJob → List Sliced → Entry → Type 0
Fits j done (Claim p axis through state cells) =
    (p < length j.products) × All (λ c. c < length j.grid.sites) cells × IfSome state (λ s. s < length (made_in j.fails (entries_of done)))
Fits j done (Deliver p g) = Unit {0}
Fits j done (Release p) = Unit {0}
Fits j done (Step f) = f < 16
Fits j done (Settle p flip) = p < length j.products

-- the tables have entries to which this one may be added
abbrev pub Awaits : List Static → Grid → Ledger → Entry → Type 0
Awaits products grid t e =
    (fails : List Fail) × (done : List Sliced) × Keeps (job products grid fails) done t × Fits (job products grid fails) done e × (length done + 1 < 2 ^ 32)

-- the slice of the entry, and the tables that have it
pub record IsNext (j : BoardJob) (done : List Sliced) (e : Entry) (n : ℕ) (t : Ledger) : Type 0 where
  pub slice : n ≡ slice_of j done e
  pub keeps : Keeps j (done ++ (e, n) ∷ []) t

abbrev pub Notes : List Static → Grid → Ledger → Entry → ℕ → Ledger → Type 0
Notes products grid was e n now =
    (fails : List Fail) (done : List Sliced) → Keeps (job products grid fails) done was → Fits (job products grid fails) done e → IsNext (job products grid fails) done e n now

-- the tables after a claim of the cells in hand
pub record NotesClaim (was now : Ledger) (n p : ℕ) (state : Option ℕ) : Type 0 where
  pub size : length now.cells.items ≡ length was.cells.items
  pub cells : (c : ℕ) → c < length was.cells.items → slice_index now.cells.items c ≡ (if is_among was.held.items c then n else slice_index was.cells.items c)
  pub claims : now.claims.items ≡ raised was.claims.items p n
  pub taken : now.taken.items ≡ raised_if was.taken.items state n
  pub placed : Inserts was.placed.items now.placed.items (placed_at n p)
  pub sorted : IsNonDecreasingBy (λ x. x.slice) now.placed.items
  pub made : now.made.items ≡ was.made.items
  pub factories : now.factories.items ≡ was.factories.items

-- the tables after a settling
pub record NotesSettle (was now : Ledger) (n p : ℕ) : Type 0 where
  pub placed : Inserts was.placed.items now.placed.items (placed_at n p)
  pub sorted : IsNonDecreasingBy (λ x. x.slice) now.placed.items
  pub cells : now.cells.items ≡ was.cells.items
  pub claims : now.claims.items ≡ was.claims.items
  pub taken : now.taken.items ≡ was.taken.items
  pub made : now.made.items ≡ was.made.items
  pub factories : now.factories.items ≡ was.factories.items

-- the tables after a step of a factory
pub record NotesStep (was now : Ledger) (f n : ℕ) (x : Factory) : Type 0 where
  pub factory : (y : Factory) × Steps x y n (length was.made.items) × (now.factories.items ≡ slice_set was.factories.items f y)
  pub made : now.made.items ≡ (if makes x then was.made.items ++ n ∷ [] else was.made.items)
  pub taken : now.taken.items ≡ (if makes x then was.taken.items ++ 0 ∷ [] else was.taken.items)
  pub cells : now.cells.items ≡ was.cells.items
  pub claims : now.claims.items ≡ was.claims.items
  pub placed : now.placed.items ≡ was.placed.items
