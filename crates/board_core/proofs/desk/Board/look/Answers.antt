use Rattle.std.proofs.Common.{ℕ, List, Option, arith, ap, sym, ◌∙◌, subst, refl}
use Rattle.std.proofs.lemmas.Option.{slice_get_within}
use Rattle.pauli_product.specs.Pulls.{carry}
use Rattle.source_model.specs.declared.Static.{Static}
use Rattle.board_core.specs.declared.board.Standing.{Standing}
use Rattle.board_core.specs.View.{turns_of}
use Rattle.board_core.specs.Books.{HoldersAre}
use Rattle.board_core.specs.Position.{past}
use Rattle.board_core.specs.Causes.{is_rotation}
use Rattle.board_core.proofs.Boards.{kept_at, standing_is, product_is, place_at}
use Rattle.board_core.proofs.Claiming.{one_product}
use Rattle.board_core.proofs.Carried.{look_source, look_stays}
use Rattle.board_core.proofs.Looks.{look_letter}
use Rattle.board_core.proofs.desk.Board.look.Goals as goal

pub returns-clause-shown : goal.returns-clause-shown
returns-clause-shown c =
    let s = c.in-Some.ensures.kind in
    let k = kept_at _ _ _ _ c.args.self.now c.self.view_is c.self.invariant in
    let st = standing_is _ _ _ _ c.args.self.now c.self.view_is c.self.invariant c.args.p s.0 c.standing.result s.1 c.standing.ensures in
    let own = product_is _ _ _ _ c.args.self.now c.self.view_is c.self.invariant c.args.p c.index.result.now s.0 s.1 c.index.ensures in
    let same = one_product c.args.self.now c.args.p c.index.result.now s.0 own s.1 in
    record {
      static = s.0;
      is = s.1;
      product = refl;
      length-is = place_at _ _ _ _ c.args.self.now c.self.view_is c.self.invariant c.length-look.result c.length-look.ensures;
      rotation = c.is_rotation-look.ensures ∙ ap is_rotation s.2;
      taken = ap (λ (x : Standing). x.claim) st;
      waits = c.waits_on-look.ensures c.args.self.now.job (past c.args.self.now) k (slice_get_within c.args.self.now.job.products c.args.p s.0 s.1);
      axis = c.show_axis.ensures.axis c.args.self.now.job (past c.args.self.now) k ∙ ap (λ (x : Static). carry (turns_of c.args.self.now.job.products (past c.args.self.now)) x.axis) same;
      held = subst (λ (x : List (Option ℕ)). HoldersAre c.args.self.now.job (past c.args.self.now) x) (sym (c.copy_from.ensures ∙ c.holders.ensures)) k.holders;
      factories = omega (arith, c.show_ready.auto.counts);
      ready-are = c.show_ready.ensures.counts c.args.self.now.job (past c.args.self.now) k;
    }

pub returns-clause-letter : goal.returns-clause-letter
returns-clause-letter c = look_letter c.args.self.now c.args.p _ c.in-Some.ensures.legal (returns-clause-shown c)

pub returns-clause-source : goal.returns-clause-source
returns-clause-source c = look_source c.args.self.now c.args.p _ c.in-Some.ensures.legal (returns-clause-shown c)

pub returns-clause-stays : goal.returns-clause-stays
returns-clause-stays c = look_stays c.args.self.now c.args.p _ c.in-Some.ensures.legal (returns-clause-shown c)
