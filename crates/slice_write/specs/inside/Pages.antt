-- What a slice's page has of its entries.
use Rattle.std.specs.Prelude.{◌≡◌, ℕ, Bool, false, ◌+◌, ◌-◌, ◌<◌, ◌≤◌, if◌then◌else◌, slice_get, slice_index, slice_index_or, List, [], ◌∷◌, ◌++◌, filter, flat_map, length, codes, decimal, All, Option, Some, None}
use Rattle.patch_layout.specs.Grid.{Grid}
use Rattle.board_core.specs.History.{History}
use Rattle.slice_write.specs.declared.page.Page.{Page}
use Rattle.slice_write.specs.declared.drawing.Drawing.{Drawing}
use Rattle.slice_write.specs.Slices.{Sliced, is_step_of, any_of, upto}
use Rattle.slice_write.specs.Pictures.{piece, picture, nobody, holder, is_a_claim, in_slice, slice_line}
use Rattle.slice_write.specs.inside.Marks.{mark_at, IsNarrow}

-- the page of these entries
pub record PageIs (g : Grid) (here : History) (page : Page) : Type 0 where
  pub count : length page.steps ≡ 16
  pub steps : (f : ℕ) → f < 16 → slice_index_or page.steps f false ≡ any_of (is_step_of f) here
  pub claims : page.claims ≡ any_of is_a_claim here
  pub marks : (c : ℕ) → mark_at page.marks.items c ≡ holder g here c
  pub narrow : All (IsNarrow g) page.marks.items

-- a drawing of the products that are shown on the cells
pub record Draws (g : Grid) (shown : ℕ → Option ℕ) (d : Drawing) : Type 0 where
  pub bytes : d.bytes.items ≡ picture g shown
  pub blank : d.blank.items ≡ picture g nobody
  pub size : length d.starts.items ≡ length g.sites
  pub starts : (c : ℕ) → c < length g.sites → slice_index d.starts.items c ≡ length (flat_map (piece g nobody) (upto c))
  pub same : (c : ℕ) → length (piece g shown c) ≡ length (piece g nobody c)

-- something is drawn
abbrev pub IsDrawn : Grid → Drawing → Type 0
IsDrawn g d = (shown : ℕ → Option ℕ) × Draws g shown d

-- a page for each slice up to the last
pub record PagesAre (g : Grid) (done : List Sliced) (last : ℕ) (pages : List Page) : Type 0 where
  pub count : length pages ≡ last + 1
  pub each : (n : ℕ) (d : Page) → n ≤ last → PageIs g (in_slice n done) (slice_index_or pages n d)

-- the factories that step, by a table of them
abbrev pub stepping_by : List Bool → List ℕ
stepping_by steps = filter (λ f. slice_index_or steps f false) (upto 16)

-- the text of a page
abbrev pub page_text : Grid → ℕ → Page → List ℕ
page_text g n page = slice_line n (stepping_by page.steps) ++ (if page.claims then picture g (mark_at page.marks.items) else [])

-- the text of the page of slice n + 1, if there is one
abbrev pub page_at : Grid → List Page → ℕ → List ℕ
page_at g pages n = elim (slice_get pages (n + 1)) [ None ↦ [] | Some page ↦ page_text g (n + 1) page ]

-- no mark of a page is too wide
abbrev pub AreNarrow : Grid → List Page → Type 0
AreNarrow g pages = (n : ℕ) (d : Page) → n < length pages → All (IsNarrow g) (slice_index_or pages n d).marks.items

-- the whole text, by its pages
abbrev pub pages_text : Grid → ℕ → List Page → List ℕ
pages_text g last pages = codes "slices 1 " ++ decimal last ++ 10 ∷ [] ++ flat_map (page_at g pages) (upto (length pages - 1))
