-- What a board wants of a readout.
use Rattle.std.specs.Prelude.{ℕ, List, Option, Some, None, map, length, slice_get, option_map}
use Rattle.std.specs.List.{range_with_len}
use Rattle.source_model.specs.declared.Kind.{Kind}
use Rattle.source_model.specs.declared.Static.{Static}
use Rattle.board_core.specs.History.{done_place}
use Rattle.board_core.specs.Position.{Position, past}

-- a product's kind, unless it is done
abbrev pub wanted_at : Position → ℕ → Option Kind
wanted_at b p = elim (done_place (past b) p) [
  | None ↦ option_map (λ (s : Static). s.kind) (slice_get b.job.products p)
  | Some place ↦ None
]

-- that of each product
abbrev pub wanted_of : Position → List (Option Kind)
wanted_of b = map (wanted_at b) (range_with_len 0 (length b.job.products))
