-- A table with which all deliveries agree is the one that a board is completed for.
use Rattle.std.proofs.Common.{◌≡◌, ℕ, suc, ◌+◌, List, [], ◌∷◌, Option, Some, None, slice_get, refl, ap, ap₂, sym, ◌∙◌, arith, add-zero}
use Rattle.std.specs.Prelude.{unwrap_or}
use Rattle.source_model.specs.declared.Given.{Given}
use Rattle.board_core.specs.History.{History, delivered}
use Rattle.board_core.specs.Laws.{Agrees}
use Rattle.finish_run.specs.Finished.{own_from, own_or_given}

one_own : (o : Option Given) (g : Given) → ((d : Given) → o ≡ Some d → Some g ≡ Some d) → unwrap_or o g ≡ g
one_own None g same = refl
one_own (Some d) g same = let e = same d refl in cc

own_is : (p : ℕ) (h : History) (given : List Given) → ((k : ℕ) (g d : Given) → slice_get given k ≡ Some g → delivered h (p + k) ≡ Some d → Some g ≡ Some d) → own_from p h given ≡ given
own_is p h [] same = refl
own_is p h (g ∷ gs) same =
    ap₂ ◌∷◌ (one_own (delivered h p) g (λ d e. same 0 g d refl (ap (delivered h) (add-zero p) ∙ e)))
    (own_is (p + 1) h gs (λ k x d at e. same (suc k) x d at (ap (delivered h) (let n : p + suc k ≡ p + 1 + k = omega arith in n) ∙ e)))

pub own_agrees : (h : History) (given : List Given) → Agrees given h → own_or_given h given ≡ given
own_agrees h given agrees =
    own_is 0 h given (λ k g d at e. sym at ∙ agrees k d (ap (delivered h) (let n : k ≡ 0 + k = omega arith in n) ∙ e))
