-- A line keeps every rule, or breaks one first.
use Rattle.std.proofs.Common.{◌≡◌, ℕ, ◌<◌, List, length, inl, inr, sym, ◌∙◌, subst, arith}
use Rattle.std.proofs.lemmas.Option.{slice_get_within}
use Rattle.patch_base.specs.Texts.{words, IsSkipped}
use Rattle.source_model.specs.declared.Given.{Given}
use Rattle.outcome_table.specs.declared.fault.OutcomeFault.{OutcomeFault}
use Rattle.outcome_table.specs.OutcomeText.{Asked, Breaks, BreaksText, IsFor, Kept, Line, Spells, failing, outcome}
use Rattle.outcome_table.proofs.Spelled.{says_once, skipped_says}

within : (a : Asked) (p : ℕ) (g : Given) → IsFor a p g → p < length a.kinds
within a p g h = slice_get_within a.kinds p h.0 h.1

kept_breaks : (a : Asked) (before : List Line) (n : ℕ) (line : Line) (f : OutcomeFault) → Kept a before line → Breaks a before n line f → ⊥
kept_breaks a before n (outcome p g) f h (inl k) = let w = within a p g h.0 in let l = k.1 in absurd (omega arith)
kept_breaks a before n (outcome p g) f h (inr (inl k)) = k.2 h.0
kept_breaks a before n (outcome p g) f h (inr (inr k)) = h.1 k.2
kept_breaks a before n (failing x) f h (inl k) = k.1 h.0
kept_breaks a before n (failing x) f h (inr (inl k)) = h.1 k.2
kept_breaks a before n (failing x) f h (inr (inr k)) = let few = h.2 in let many = k.3 in absurd (omega arith)

breaks_once : (a : Asked) (before : List Line) (n : ℕ) (line : Line) (f f' : OutcomeFault) → Breaks a before n line f → Breaks a before n line f' → f ≡ f'
breaks_once a before n (outcome p g) f f' (inl h) (inl k) = h.0 ∙ sym k.0
breaks_once a before n (outcome p g) f f' (inl h) (inr (inl k)) = let l = h.1 in let m = k.1 in absurd (omega arith)
breaks_once a before n (outcome p g) f f' (inl h) (inr (inr k)) = let l = h.1 in let m = within a p g k.1 in absurd (omega arith)
breaks_once a before n (outcome p g) f f' (inr (inl h)) (inl k) = let l = h.1 in let m = k.1 in absurd (omega arith)
breaks_once a before n (outcome p g) f f' (inr (inl h)) (inr (inl k)) = h.0 ∙ sym k.0
breaks_once a before n (outcome p g) f f' (inr (inl h)) (inr (inr k)) = absurd (h.2 k.1)
breaks_once a before n (outcome p g) f f' (inr (inr h)) (inl k) = let l = within a p g h.1 in let m = k.1 in absurd (omega arith)
breaks_once a before n (outcome p g) f f' (inr (inr h)) (inr (inl k)) = absurd (k.2 h.1)
breaks_once a before n (outcome p g) f f' (inr (inr h)) (inr (inr k)) = h.0 ∙ sym k.0
breaks_once a before n (failing x) f f' (inl h) (inl k) = h.0 ∙ sym k.0
breaks_once a before n (failing x) f f' (inl h) (inr (inl k)) = absurd (h.1 k.1)
breaks_once a before n (failing x) f f' (inl h) (inr (inr k)) = absurd (h.1 k.1)
breaks_once a before n (failing x) f f' (inr (inl h)) (inl k) = absurd (k.1 h.1)
breaks_once a before n (failing x) f f' (inr (inl h)) (inr (inl k)) = h.0 ∙ sym k.0
breaks_once a before n (failing x) f f' (inr (inl h)) (inr (inr k)) = absurd (k.2 h.2)
breaks_once a before n (failing x) f f' (inr (inr h)) (inl k) = absurd (k.1 h.1)
breaks_once a before n (failing x) f f' (inr (inr h)) (inr (inl k)) = absurd (h.2 k.2)
breaks_once a before n (failing x) f f' (inr (inr h)) (inr (inr k)) = h.0 ∙ sym k.0

pub skipped_breaks : (a : Asked) (before : List Line) (n : ℕ) (text : List ℕ) (f : OutcomeFault) → IsSkipped text → BreaksText a before n text f → ⊥
skipped_breaks a before n text f skipped (inl h) = h.1 skipped
skipped_breaks a before n text f skipped (inr (line, says, breaks)) = skipped_says text line skipped says

pub said_breaks : (a : Asked) (before : List Line) (n : ℕ) (text : List ℕ) (line : Line) (f : OutcomeFault) → Spells text line → Kept a before line → BreaksText a before n text f → ⊥
said_breaks a before n text line f says kept (inl h) = h.2 line says
said_breaks a before n text line f says kept (inr (line', says', breaks)) =
    let P : Line → Type 0 = λ l. Breaks a before n l f in
    kept_breaks a before n line f kept (subst P (says_once (words text) line' line says' says) breaks)

pub text_breaks_once : (a : Asked) (before : List Line) (n : ℕ) (text : List ℕ) (f f' : OutcomeFault) → BreaksText a before n text f → BreaksText a before n text f' → f ≡ f'
text_breaks_once a before n text f f' (inl h) (inl k) = h.0 ∙ sym k.0
text_breaks_once a before n text f f' (inl h) (inr (line, says, breaks)) = absurd (h.2 line says)
text_breaks_once a before n text f f' (inr (line, says, breaks)) (inl k) = absurd (k.2 line says)
text_breaks_once a before n text f f' (inr (line, says, breaks)) (inr (line', says', breaks')) =
    let P : Line → Type 0 = λ l. Breaks a before n l f' in
    breaks_once a before n line f f' breaks (subst P (says_once (words text) line' line says' says) breaks')
