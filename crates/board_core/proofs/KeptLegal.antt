-- A board whose tables are kept is legal.
use Rattle.std.proofs.Common.{◌≡◌, ℕ, ◌<◌, ◌^◌, List, [], ◌∷◌, ◌++◌, length, ap, ap₂, sym, subst}
use Rattle.std.proofs.lemmas.List.{length-map, map-append}
use Rattle.board_core.specs.declared.Noted.{Noted}
use Rattle.source_model.specs.declared.Static.{Static}
use Rattle.patch_layout.specs.Grid.{Grid}
use Rattle.magic_pool.specs.declared.Fail.{Fail}
use Rattle.board_core.specs.declared.Entry.{Entry}
use Rattle.board_core.specs.History.{History, entries}
use Rattle.board_core.specs.Legal.{BoardJob}
use Rattle.board_core.specs.Position.{Position, IsLegal, note, with_entry, job_with}
use Rattle.board_core.specs.inside.Kept.{Tables, Kept}
use Rattle.board_core.proofs.Short.{legal_short}

pub kept_legal : (j : BoardJob) (log : List Noted) (t : Tables) → Kept j (entries log) t → IsLegal (record { job = j; history = log })
kept_legal j log t k = record {
  limits = k.limits;
  factories = k.sound.stores;
  open_for = k.open_for;
  letters = k.letters;
  legal = k.legal;
  short = subst (λ (n : ℕ). n < 2 ^ 20) (length-map log (λ n. n.entry)) (legal_short j (entries log) k.limits k.sound.stores k.legal);
}

pub entries_push : (log : List Noted) (by : ℕ) (e : Entry) → entries (log ++ note by e ∷ []) ≡ entries log ++ e ∷ []
entries_push log by e = map-append (λ (n : Noted). n.entry) log (note by e ∷ [])

-- a board's fields as its position
abbrev pub position : List Static → Grid → Tables → List Noted → Position
position products grid t log = record { job = job_with products grid t.pool; history = log }

-- what one entry more makes of a board
pub record Goes (products : List Static) (grid : Grid) (log new : List Noted) (t u : Tables) (by : ℕ) (e : Entry) : Type 0 where
  pub kept : Kept (job_with products grid u.pool) (entries new) u
  pub is : position products grid u new ≡ with_entry (position products grid t log) by e
  pub legal : IsLegal (position products grid u new)

pub goes : (products : List Static) (grid : Grid) (log new : List Noted) (t u : Tables) (by : ℕ) (e : Entry) → Kept (job_with products grid t.pool) (entries log ++ e ∷ []) u → new ≡ log ++ note by e ∷ [] → Goes products grid log new t u by e
goes products grid log new t u by e k pushed =
    let same : (fails : List Fail) → fails ≡ t.pool.fails → Kept (record { products = products; grid = grid; fails = fails }) (entries log ++ e ∷ []) u = λ fails s. subst (λ (f : List Fail). Kept (record { products = products; grid = grid; fails = f }) (entries log ++ e ∷ []) u) (sym s) k in
    let here : Kept (job_with products grid u.pool) (entries new) u =
    subst (λ (l : List Noted). Kept (job_with products grid u.pool) (entries l) u) (sym pushed)
    (subst (λ (h : History). Kept (job_with products grid u.pool) h u) (sym (entries_push log by e)) (same u.pool.fails k.fails)) in
    record {
      kept = here;
      is = ap₂ (λ (f : List Fail) (l : List Noted). record { job = record { products = products; grid = grid; fails = f }; history = l }) k.fails pushed;
      legal = kept_legal (job_with products grid u.pool) new u here;
    }

pub past_length : (log : List Noted) → length (entries log) ≡ length log
past_length log = length-map log (λ n. n.entry)

-- what was kept stays, where the tables' failing runs do
pub stays : (products : List Static) (grid : Grid) (log : List Noted) (t u : Tables) → Kept (job_with products grid t.pool) (entries log) u → (Kept (job_with products grid u.pool) (entries log) u) × (position products grid u log ≡ position products grid t log)
stays products grid log t u k = (
  subst (λ (f : List Fail). Kept (record { products = products; grid = grid; fails = f }) (entries log) u) (sym k.fails) k,
  ap (λ (f : List Fail). record { job = record { products = products; grid = grid; fails = f }; history = log }) k.fails,
)
