-- Which cause comes first, by a product's kind and its places.
use Rattle.std.specs.Prelude.{ℕ, Option, Some, None}
use Rattle.source_model.specs.declared.Kind.{Kind}
use Rattle.source_model.specs.declared.Kind.TheVariants as kind
use Rattle.board_core.specs.declared.board.Standing.{Standing}
use Rattle.source_model.specs.declared.Given.{Given}
use Rattle.source_model.specs.declared.Given.TheVariants as given
use Rattle.board_core.specs.declared.board.DeliverWhy.{DeliverWhy}
use Rattle.board_core.specs.declared.board.DeliverWhy.TheVariants as deliver
use Rattle.board_core.specs.declared.board.ReleaseWhy.{ReleaseWhy}
use Rattle.board_core.specs.declared.board.ReleaseWhy.TheVariants.{Undelivered, Twice}

-- by the places of its delivery and its release
abbrev pub by_places : Option ℕ → Option ℕ → Option ReleaseWhy
by_places None release = Some Undelivered
by_places (Some place) None = None
by_places (Some place) (Some again) = Some (Twice again)

-- a settled product has no delivery
abbrev pub why_not_released : Kind → Standing → Option ReleaseWhy
why_not_released kind.Rotation s = by_places s.deliver s.release
why_not_released (kind.Measure bit) s = by_places s.deliver s.release
why_not_released (kind.Settle first size value) s = Some Undelivered

-- an outcome of a kind of product that isn't done
abbrev pub if_of_kind : Kind → Given → Option DeliverWhy
if_of_kind kind.Rotation (given.Rotation raw x) = None
if_of_kind (kind.Measure bit) (given.Measure raw) = None
if_of_kind (kind.Settle first size value) given.Settled = None
if_of_kind _ _ = Some deliver.WrongKind

abbrev pub if_undone : Option ℕ → Kind → Given → Option DeliverWhy
if_undone None k g = if_of_kind k g
if_undone (Some place) k g = Some (deliver.Twice place)

abbrev pub if_claimed : Option ℕ → Option ℕ → Kind → Given → Option DeliverWhy
if_claimed None delivery k g = Some deliver.Unclaimed
if_claimed (Some place) delivery k g = if_undone delivery k g

-- a settled product has no claim
abbrev pub why_not_delivered : Kind → Standing → Given → Option DeliverWhy
why_not_delivered kind.Rotation s g = if_claimed s.claim s.deliver kind.Rotation g
why_not_delivered (kind.Measure bit) s g = if_claimed s.claim s.deliver (kind.Measure bit) g
why_not_delivered (kind.Settle first size value) s g = if_undone s.deliver (kind.Settle first size value) g
