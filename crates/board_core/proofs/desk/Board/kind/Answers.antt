use Rattle.std.proofs.Common.{arith, refl, subst, vec_len}
use Rattle.std.proofs.lemmas.Option.{slice_get_read}
use Rattle.board_core.specs.Causes.{IsProduct}
use Rattle.board_core.specs.Position.{Position, IsLegal}
use Rattle.board_core.proofs.KeptLegal.{kept_legal}
use Rattle.board_core.proofs.desk.Board.kind.Goals as goal

pub returns-then-p-len-clause-legal : goal.returns-then-p-len-clause-legal
returns-then-p-len-clause-legal c = subst IsLegal c.self.view_is (kept_legal _ _ _ c.self.invariant)

pub returns-clause-legal : goal.returns-clause-legal
returns-clause-legal c = subst IsLegal c.self.view_is (kept_legal _ _ _ c.self.invariant)

pub returns-clause-kind : goal.returns-clause-kind
returns-clause-kind c = (
  c.index.result.now,
  subst (λ (b : Position). IsProduct b c.args.p c.index.result.now) c.self.view_is
      (slice_get_read c.self.inside.products.items (vec_len c.self.inside.products) c.args.p c.index.result.now c.self.inside.products.ok.0 (omega arith) c.index.ensures),
  refl,
)
