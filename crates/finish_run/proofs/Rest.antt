-- The products that aren't done, one after another.
use Rattle.std.proofs.Common.{◌≡◌, inl, inr, ℕ, ◌+◌, ◌<◌, ◌≤◌, true, List, ◌++◌, length, slice_get, Option, Some, None, Result, Ok, Err, IsSome, OnOk, is_some, refl, ap, sym, ◌∙◌, subst, arith}
use Rattle.std.proofs.Math.Seq.{take-append_seam}
use Rattle.std.proofs.lemmas.Bool.{cases_order}
use Rattle.source_model.specs.declared.Given.{Given}
use Rattle.source_model.specs.declared.Static.{Static}
use Rattle.patch_layout.specs.declared.look.Look.{Look}
use Rattle.board_core.specs.History.{History, done_place, is_done_by}
use Rattle.board_core.specs.Position.{Position, past, IsLegal}
use Rattle.board_core.proofs.Going.{some_take}
use Rattle.board_core.proofs.Tables.{entry_of}
use Rattle.source_model.specs.Statics.{AreOutcomesOf}
use Rattle.finish_run.specs.Next.{Meeting, IsIdle, IsTurnOf}
use Rattle.finish_run.specs.Finished.{GoesOn}
use Rattle.finish_run.specs.inside.Finished.{DoneBelow}
use Rattle.finish_run.proofs.Onward.{goes_past}
use Rattle.finish_run.proofs.Past.{not_both}
use Rattle.finish_run.proofs.Pending.{as_many}
use Rattle.finish_run.proofs.Lengths.{product_long}
use Rattle.std.proofs.lemmas.List.{length-replicate}
use Rattle.board_core.specs.Shows.{IsMadeFor}
use Rattle.board_core.specs.Laws.{ProductsOfLength}
use Rattle.patch_layout.specs.Look.{identity}
use Rattle.pauli_product.specs.Signed.{Signed}
use Rattle.pauli_product.specs.declared.Letter.TheVariants as letter
use Rattle.std.specs.Prelude.{replicate}

pub on_ok : {T E : Type 0} (r : Result T E) (A B : Type 0) → (A → B) → OnOk r A → OnOk r B
on_ok (Ok x) A B f a = f a
on_ok (Err e) A B f a = a

pub is_product : (b : Position) (p : ℕ) (gs : List Given) → AreOutcomesOf gs b.job.products → p < length gs → p < length b.job.products
is_product b p gs all within = let many = as_many b.job.products gs all in omega (arith, many, within)

-- the least product that isn't done has its turn
pub turn_of : (b : Position) (p : ℕ) (gs : List Given) → AreOutcomesOf gs b.job.products → p < length gs → IsIdle (past b) → DoneBelow (past b) p → done_place (past b) p ≡ None → IsTurnOf b p
turn_of b p gs all within idle below none =
    (idle, entry_of b.job.products p (is_product b p gs all within), (none, λ q l n. not_both (done_place (past b) q) (below q l) n))

-- ---- what is done stays so
pub done_behind : (h es : History) (q : ℕ) → IsSome (done_place h q) → IsSome (done_place (h ++ es) q)
done_behind h es q s = some_take (is_done_by q) (h ++ es) (length h) (ap (λ (l : History). is_some (done_place l q)) (take-append_seam h es) ∙ s)

pub done_on : (M : Meeting) (gs : List Given) (b c : Position) (q : ℕ) → GoesOn M gs b c → IsSome (done_place (past b) q) → IsSome (done_place (past c) q)
done_on M gs b c q goes s = subst (λ (h : History). IsSome (done_place h q)) (sym (goes_past M gs b c goes)) (done_behind (past b) goes.added q s)

pub done_to : (h : History) (p : ℕ) → DoneBelow h p → IsSome (done_place h p) → DoneBelow h (p + 1)
done_to h p below here q l = elim (cases_order p q) [
  | inl e ↦ subst (λ (n : ℕ). IsSome (done_place h n)) e here
  | inr (inl m) ↦ absurd (omega arith)
  | inr (inr m) ↦ below q m
]

pub below_on : (M : Meeting) (gs : List Given) (b c : Position) (p : ℕ) → GoesOn M gs b c → DoneBelow (past b) p → IsSome (done_place (past c) p) → DoneBelow (past c) (p + 1)
below_on M gs b c p goes below here = done_to (past c) p (λ q l. done_on M gs b c q goes (below q l)) here

pub done_already : (h : History) (p : ℕ) → (done_place h p ≡ None → ⊥) → IsSome (done_place h p)
done_already h p not = go (done_place h p) refl
  where
    go : (o : Option ℕ) → done_place h p ≡ o → is_some (done_place h p) ≡ true
    go None e = absurd (not e)
    go (Some k) e = ap is_some e

-- ---- the look that all products share
pub new_made : (b : Position) (first : Static) (look : Look) (n : ℕ) → IsLegal b → slice_get b.job.products 0 ≡ Some first → look.held ≡ replicate (length b.job.grid.sites) None → look.axis ≡ identity n → n ≡ length first.axis.letters → IsMadeFor b look
new_made b first look n legal at held axis long =
    let same : length look.axis.letters ≡ legal.limits.qubits =
    ap (λ (a : Signed). length a.letters) axis ∙ length-replicate n letter.I ∙ long ∙ product_long legal.limits.qubits b.job.products 0 first legal.limits.axes_fit at in (
      ap length held ∙ length-replicate (length b.job.grid.sites) None,
      subst (λ (k : ℕ). ProductsOfLength k b.job.products) (sym same) legal.limits.axes_fit,
    )

pub done_whole : (b c : Position) (p : ℕ) (gs : List Given) → AreOutcomesOf gs b.job.products → length gs ≤ p → DoneBelow (past c) p → DoneBelow (past c) (length b.job.products)
done_whole b c p gs all whole below q l = let many = as_many b.job.products gs all in below q (omega (arith, many, whole, l))
