-- What was delivered of what was received was delivered of all.
use Rattle.std.proofs.Common.{◌≡◌, List, ◌++◌, Option, sym, ap, ◌∙◌, append_assoc, subst}
use Rattle.arrival_line.specs.declared.arrival.Arrival.{Arrival}
use Rattle.source_model.specs.declared.Kind.{Kind}
use Rattle.arrival_line.specs.Strays.{Delivers}
use Rattle.arrival_line.proofs.Inboxes.{delivers_more}
use Rattle.arrival_line.proofs.Receives.{delivers_at}

pub delivers_all : (w₀ w : List (Option Kind)) (all sent back left got rest made₀ made₁ made : List Arrival) → all ≡ (sent ++ back) ++ left → sent ≡ got ++ rest → w ≡ w₀ → made₁ ≡ made₀ → Delivers w got made₁ made
    → Delivers w₀ all made₀ made
delivers_all w₀ w all sent back left got rest made₀ made₁ made is begins wants starts h =
    let whole : got ++ (rest ++ (back ++ left)) ≡ all = sym (is ∙ append_assoc sent back left ∙ ap (λ l. l ++ (back ++ left)) begins ∙ append_assoc got rest (back ++ left)) in
    let P : List (Option Kind) → Type 0 = λ v. Delivers v all made₀ made in
    let Q : List Arrival → Type 0 = λ m. Delivers w all m made in
    subst P wants (subst Q starts (delivers_at w _ _ made₁ made whole (delivers_more w got (rest ++ (back ++ left)) made₁ made h)))

-- as the deliverer was given back
pub given_back : {D : Type 0} (made : D → List Arrival) (w₀ : List (Option Kind)) (all : List Arrival) (d₀ d d' : D) → d' ≡ d → Delivers w₀ all (made d₀) (made d) → Delivers w₀ all (made d₀) (made d')
given_back {D} made w₀ all d₀ d d' is h = let P : D → Type 0 = λ x. Delivers w₀ all (made d₀) (made x) in subst P (sym is) h
