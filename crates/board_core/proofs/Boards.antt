-- A board's fields beside the position that callers see.
use Rattle.std.proofs.Common.{◌≡◌, ℕ, ◌-◌, ◌<◌, ◌^◌, List, [], ◌∷◌, ◌++◌, length, Some, slice_get, get_or, ap, sym, ◌∙◌, arith, subst}
use Rattle.std.proofs.lemmas.Option.{same_Some, slice_get_within, slice_get-get_or}
use Rattle.source_model.specs.declared.Static.{Static}
use Rattle.patch_layout.specs.Grid.{Grid}
use Rattle.board_core.specs.declared.Noted.{Noted}
use Rattle.board_core.specs.declared.board.Standing.{Standing}
use Rattle.board_core.specs.declared.Entry.{Entry}
use Rattle.board_core.specs.History.{History, entries}
use Rattle.board_core.specs.Legal.{BoardJob, Allowed}
use Rattle.board_core.specs.Position.{Position, IsLegal, past, note, job_with}
use Rattle.board_core.specs.Books.{standing_of}
use Rattle.board_core.specs.Causes.{IsProduct}
use Rattle.board_core.specs.inside.Kept.{Tables, Kept, HasProduct}
use Rattle.board_core.proofs.KeptLegal.{position, kept_legal, goes, Goes, past_length}

module _ (products : List Static) (grid : Grid) (t : Tables) (log : List Noted) (b : Position) (is : position products grid t log ≡ b) (k : Kept (job_with products grid t.pool) (entries log) t) where
  -- a fact of the tables and of their history, about the position
  pub kept_at : Kept b.job (past b) t
  kept_at = subst (λ (p : Position). Kept p.job (past p) t) is k

  pub legal_at : IsLegal b
  legal_at = subst IsLegal is (kept_legal (job_with products grid t.pool) log t k)

  pub room : length log < 2 ^ 32 - 1
  room = let s = (kept_legal (job_with products grid t.pool) log t k).short in omega arith

  pub place_at : (place : ℕ) → place ≡ length log → place ≡ length b.history
  place_at place e = e ∙ ap (λ (p : Position). length p.history) is

  pub standing_is : (p : ℕ) (s : Static) (st : Standing) → IsProduct b p s → slice_get t.standings p ≡ Some st → st ≡ standing_of (past b) p
  standing_is p s st e f = same_Some st (standing_of (past b) p) (sym f ∙ kept_at.standings.1 p (slice_get_within b.job.products p s e))

  pub product_in : (p : ℕ) (s : Static) → IsProduct b p s → p < length products
  product_in p s e = subst (λ (q : Position). p < length q.job.products) (sym is) (slice_get_within b.job.products p s e)

  pub product_is : (p : ℕ) (x s : Static) → IsProduct b p s → x ≡ get_or products p x → IsProduct b p x
  product_is p x s e f =
      let within : p < length products = subst (λ (q : Position). p < length q.job.products) (sym is) (slice_get_within b.job.products p s e) in
      subst (λ (q : Position). IsProduct q p x) is (slice_get-get_or products p x within ∙ ap Some (sym f))

  pub covers : (p : ℕ) (s : Static) → IsProduct b p s → HasProduct t p
  covers p s e = record { job = b.job; past = past b; kept = kept_at; within = slice_get_within b.job.products p s e }

  pub went : (u : Tables) (new : List Noted) (by place : ℕ) (e : Entry) → Allowed b.job (past b) e → place ≡ length log → new ≡ log ++ note by e ∷ [] → ((j : BoardJob) (h : History) → Kept j h t → Allowed j h e → place ≡ length h → Kept j (h ++ e ∷ []) u) → Goes products grid log new t u by e
  went u new by place e a at pushed noted =
      goes products grid log new t u by e
      (noted (job_with products grid t.pool) (entries log) k (subst (λ (p : Position). Allowed p.job (past p) e) (sym is) a) (at ∙ sym (past_length log))) pushed

  pub went_by : (u : Tables) (new : List Noted) (by place : ℕ) (e : Entry) → Allowed b.job (past b) e → place ≡ length log → new ≡ log ++ note by e ∷ [] → (Allowed (job_with products grid t.pool) (entries log) e → place ≡ length (entries log) → Kept (job_with products grid t.pool) (entries log ++ e ∷ []) u) → Goes products grid log new t u by e
  went_by u new by place e a at pushed noted =
      goes products grid log new t u by e (noted (subst (λ (p : Position). Allowed p.job (past p) e) (sym is) a) (at ∙ sym (past_length log))) pushed
