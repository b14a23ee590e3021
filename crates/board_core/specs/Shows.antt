-- What a look shows of a product.
use Rattle.std.specs.Prelude.{◌≡◌, ℕ, ◌<◌, length, slice_get, Some}
use Rattle.pauli_product.specs.Pulls.{carry}
use Rattle.source_model.specs.declared.Static.{Static}
use Rattle.patch_layout.specs.declared.look.Look.{Look}
use Rattle.board_core.specs.History.{claim_place}
use Rattle.board_core.specs.View.{turns_of, LeastWait}
use Rattle.board_core.specs.Books.{HoldersAre}
use Rattle.board_core.specs.Laws.{ProductsOfLength}
use Rattle.board_core.specs.Position.{Position, past}
use Rattle.board_core.specs.Causes.{IsProduct, is_rotation, ready}

-- the product, the length of the history, the place of its claim, what it waits on, its static axis conjugated by the
-- corrections so far, the first one first, who holds each cell, and each factory's ready states
pub record Shows (b : Position) (p : ℕ) (look : Look) : Type 0 where
  pub static : Static
  pub is : IsProduct b p static
  pub product : look.product ≡ p
  pub length-is : look.length ≡ length b.history
  pub rotation : look.rotation ≡ is_rotation static.kind
  pub taken : look.taken ≡ claim_place (past b) p
  pub waits : LeastWait b.job.products (past b) p look.waits
  pub axis : look.axis ≡ carry (turns_of b.job.products (past b)) static.axis
  pub held : HoldersAre b.job (past b) look.held
  pub factories : length look.ready ≡ 16
  pub ready-are : (f : ℕ) → f < 16 → slice_get look.ready f ≡ Some (length (ready b f))

-- the look was made for this layout and these products
abbrev pub IsMadeFor : Position → Look → Type 0
IsMadeFor b look = (length look.held ≡ length b.job.grid.sites) × ProductsOfLength (length look.axis.letters) b.job.products
