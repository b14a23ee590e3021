use Rattle.std.proofs.Common.{List, ℕ, [], ◌∷◌, sym, subst, Contains}
use Rattle.std.proofs.lemmas.List.Elements.{Contains-append_left, Contains-push}
use Rattle.core_tests.proofs.share.begun.Goals as goal

pub put-requires : goal.put-requires
put-requires c =
    let once = subst (λ (l : List ℕ). Contains l 0) (sym c.in_ok-expect.ensures.held) (Contains-push _ 0) in
    subst (λ (l : List ℕ). Contains l 0) (sym c.in_ok-expect-2.ensures.held) (Contains-append_left _ (1 ∷ []) 0 once)
