-- An entry's line in pieces, on its way through a pen.
use Rattle.std.specs.Prelude.{ℕ, Bool, List, [], ◌∷◌, flat_map, codes, decimal}
use Rattle.pauli_product.specs.Spelling.{product_text}
use Rattle.source_model.specs.declared.Register.{Register}
use Rattle.board_core.specs.declared.Noted.{Noted}
use Rattle.board_core.specs.declared.Entry.{Entry}
use Rattle.board_core.specs.declared.Entry.TheVariants.{Claim, Deliver, Release, Step, Settle}
use Rattle.schedule_text.specs.Text.{optional, entry_words, entry_line, bits_line, two, ended}

-- words, each after a space
abbrev pub spread : List (List ℕ) → List ℕ
spread words = flat_map (λ w. 32 ∷ w) words

-- the words of an entry but for a claim's cells
abbrev pub head_words : Entry → List (List ℕ)
head_words (Claim p axis port state cells) =
    codes "C" ∷ decimal p ∷ product_text axis ∷ optional port ∷ optional state ∷ []
head_words (Deliver p g) = entry_words (Deliver p g)
head_words (Release p) = entry_words (Release p)
head_words (Step f) = entry_words (Step f)
head_words (Settle p flip) = entry_words (Settle p flip)

-- a cell after a space
abbrev pub cell_word : ℕ → List ℕ
cell_word cell = 32 ∷ decimal cell

-- the cells of a claim
abbrev pub cells_in : Entry → List ℕ
cells_in (Claim p axis port state cells) = cells
cells_in (Deliver p g) = []
cells_in (Release p) = []
cells_in (Step f) = []
cells_in (Settle p flip) = []

-- an entry's line of version 2 with its line feed
abbrev pub entry_text : Noted → List ℕ
entry_text n = ended (entry_line two n)

-- a register's line with its line feed
abbrev pub register_text : (ℕ → Bool) → Register → List ℕ
register_text bit r = ended (bits_line bit r)
