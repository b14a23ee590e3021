use Rattle.std.proofs.Common.{◌∙◌, subst, sym}
use Rattle.std.proofs.lemmas.Result.{IfOk-weaker}
use Rattle.magic_pool.specs.Pooled.{Pooled}
use Rattle.board_core.specs.Books.{HasMakersOf}
use Rattle.board_core.proofs.makers.pool_of.Goals as goal

pub returns-clause-makers : goal.returns-clause-makers
returns-clause-makers c =
    IfOk-weaker c.new.result _ (λ (pool : Pooled). HasMakersOf c.args.layout.now pool.makers)
    (λ pool e. subst (HasMakersOf c.args.layout.now) (sym (e ∙ c.deref.ensures.value)) c.in_ok-makers.ensures.makers)
    c.new.ensures.makers
