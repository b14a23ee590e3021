use Rattle.std.proofs.Common.{sym, ◌∙◌, subst, ℕ}
use Rattle.std.proofs.lemmas.Option.{same_Some}
use Rattle.patch_layout.specs.Grid.{IsPort}
use Rattle.board_core.proofs.cells.port_at.Goals as goal

pub returns-in-Some : goal.returns-in-Some
returns-in-Some c cell = (
  λ e. (c.in-Some.factory, c.in-Some.is, (c.port.ensures cell).0 e),
  λ x. (c.port.ensures cell).1 (subst (λ (f : ℕ). IsPort c.args.layout.now f cell) (same_Some x.0 c.in-Some.factory (sym x.1 ∙ c.in-Some.is)) x.2),
)
