-- One more outcome of its kind.
use Rattle.std.proofs.Common.{◌≡◌, ℕ, ◌+◌, ◌<◌, List, [], ◌∷◌, ◌++◌, length, get_or, take, ap, sym, ◌∙◌, subst}
use Rattle.std.proofs.lemmas.List.{take_more, map-append}
use Rattle.source_model.specs.declared.Static.{Static}
use Rattle.source_model.specs.Statics.{kinds_of}
use Rattle.source_model.specs.declared.Kind.{Kind}
use Rattle.source_model.specs.declared.Given.{Given}
use Rattle.source_model.specs.Circuits.{OutcomesOf, IsOutcomeOf}

pub outcomes_push : (ks : List Kind) (gs : List Given) (k : Kind) (g : Given) → OutcomesOf ks gs → IsOutcomeOf k g → OutcomesOf (ks ++ k ∷ []) (gs ++ g ∷ [])
outcomes_push [] [] k g all here = (here, tt)
outcomes_push [] (x ∷ gs) k g all here = absurd all
outcomes_push (y ∷ ks) [] k g all here = absurd all
outcomes_push (y ∷ ks) (x ∷ gs) k g all here = (all.0, outcomes_push ks gs k g all.1 here)

-- one more product with its outcome
pub outcomes_more : (products : List Static) (i : ℕ) (x : Static) (gs after : List Given) (g : Given) → i < length products → x ≡ get_or products i x → IsOutcomeOf x.kind g → after ≡ gs ++ g ∷ []
    → OutcomesOf (kinds_of (take i products)) gs → OutcomesOf (kinds_of (take (i + 1) products)) after
outcomes_more products i x gs after g inside at here is all =
    subst (λ (l : List Given). OutcomesOf (kinds_of (take (i + 1) products)) l) (sym is)
    (subst (λ (l : List Kind). OutcomesOf l (gs ++ g ∷ []))
    (sym (ap kinds_of (take_more products i x inside) ∙ map-append (λ (s : Static). s.kind) (take i products) (get_or products i x ∷ [])))
    (outcomes_push (kinds_of (take i products)) gs (get_or products i x).kind g all (subst (λ (s : Static). IsOutcomeOf s.kind g) at here)))
