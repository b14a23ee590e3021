-- The parts of a board.
use Rattle.std.proofs.Common.{◌≡◌, sym, subst, List}
use Rattle.source_model.specs.declared.Static.{Static}
use Rattle.patch_layout.specs.Grid.{Grid}
use Rattle.magic_pool.specs.declared.Fail.{Fail}
use Rattle.board_core.specs.declared.Noted.{Noted}
use Rattle.board_core.specs.History.{entries}
use Rattle.board_core.specs.Legal.{Legal}
use Rattle.board_core.specs.Limits.{AreFactories}
use Rattle.board_core.specs.Position.{Position, IsLegal}
use Rattle.slice_write.specs.inside.Tables.{job}

-- a board's history is a legal one of its products, grid and failing runs
pub parts_legal : (b : Position) (products : List Static) (grid : Grid) (fails : List Fail) (history : List Noted) → IsLegal b → products ≡ b.job.products → grid ≡ b.job.grid → fails ≡ b.job.fails → history ≡ b.history → Legal (job products grid fails) (entries history)
parts_legal b products grid fails history legal p g f h =
    let P : List Static → Type 0 = λ x. Legal (job x grid fails) (entries history) in
    let G : Grid → Type 0 = λ x. Legal (job b.job.products x fails) (entries history) in
    let F : List Fail → Type 0 = λ x. Legal (job b.job.products b.job.grid x) (entries history) in
    let H : List Noted → Type 0 = λ x. Legal b.job (entries x) in
    subst P (sym p) (subst G (sym g) (subst F (sym f) (subst H (sym h) legal.legal)))

-- a board's factories have numbers below 16
pub parts_factories : (b : Position) (grid : Grid) → IsLegal b → grid ≡ b.job.grid → AreFactories grid
parts_factories b grid legal g = subst AreFactories (sym g) legal.factories
