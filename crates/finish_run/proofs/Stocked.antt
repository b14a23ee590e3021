-- Ready states, as a look counts them and as a history has them.
use Rattle.std.proofs.Common.{◌≡◌, ◌⊎◌, inl, inr, ℕ, zero, suc, ◌+◌, ◌<◌, ◌%◌, ◌/◌, ◌-◌, Bool, true, false, ◌==◌, ◌&&◌, not, if◌then◌else◌, List, [], ◌∷◌, ◌++◌, length, get_or, slice_get, Option, Some, None, IsTrue, ◌↔◌, refl, ap, sym, ◌∙◌, arith, append-nil}
use Rattle.std.specs.List.{All}
use Rattle.std.proofs.lemmas.Option.{none-some, slice_get_within, slice_get-get_or, get_or_from_slice_get}
use Rattle.std.proofs.lemmas.Grind.{flat_map-append}
use Rattle.magic_pool.specs.declared.Fail.{Fail}
use Rattle.magic_pool.specs.declared.Stepped.TheVariants.{Running, Made, Failed}
use Rattle.magic_pool.specs.Recount.{step_count, is_made, makers_after, makers_of, ready_from, ready_of, is_listed}
use Rattle.magic_pool.specs.Pooled.{outcome_of}
use Rattle.magic_pool.proofs.Readiness.{makers-push, maker_of}
use Rattle.patch_layout.specs.declared.look.Look.{Look}
use Rattle.region_plan.specs.Free.{IsReady, HasState, LacksState}
use Rattle.board_core.specs.declared.Entry.{Entry}
use Rattle.board_core.specs.declared.Entry.TheVariants.{Claim, Deliver, Release, Step, Settle}
use Rattle.board_core.specs.History.{History, steps, steps_in, taken_states, states_in}
use Rattle.board_core.specs.Position.{Position, past, with_entry, IsLegal}
use Rattle.board_core.specs.Causes.{ready, stepped_by}
use Rattle.board_core.specs.Shows.{Shows}
use Rattle.finish_run.specs.Next.{IsFactory, NoStates}
use Rattle.finish_run.proofs.Past.{past_push}

-- ---- counts
zero_if_not : (n : ℕ) → (0 < n → ⊥) → n ≡ 0
zero_if_not zero no' = refl
zero_if_not (suc n) no' = absurd (no' (omega arith))

zeros_none : (counts : List ℕ) (f : ℕ) → All (λ n. n ≡ 0) counts → IsReady counts f → ⊥
zeros_none counts f zeros x =
    let here : get_or counts f 0 ≡ 0 = zeros f 0 (slice_get_within counts f x.0 x.1) in
    let is : get_or counts f 0 ≡ x.0 = get_or_from_slice_get counts f x.0 0 x.1 in
    let some : 0 < x.0 = x.2 in
    omega (arith, here, is, some)

none_zeros : (counts : List ℕ) → ((f : ℕ) → IsReady counts f → ⊥) → All (λ n. n ≡ 0) counts
none_zeros counts none = λ k d l. zero_if_not (get_or counts k d) (λ some. none k (get_or counts k d, slice_get-get_or counts k d l, some))

pub lacks : (look : Look) (r : Bool) → look.rotation ≡ true → IsTrue r ↔ All (λ n. n ≡ 0) look.ready → IsTrue r ↔ LacksState look
lacks look r rotation i = (
  λ t. (rotation, λ f s. zeros_none look.ready f (i.0 t) s),
  λ x. i.1 (none_zeros look.ready x.1),
)

-- ---- a ready state comes from a factory of the layout
made_stepped : (fails : List Fail) (before fs : List ℕ) (k f : ℕ) → slice_get (makers_after fails before fs) k ≡ Some f → (m : ℕ) × (slice_get fs m ≡ Some f)
made_stepped fails before [] k f e = absurd (none-some f e)
made_stepped fails before (g ∷ fs) k f e = go (λ i x. made_stepped fails (before ++ g ∷ []) fs i f x) (is_made fails g (step_count g before + 1)) k e
  where
    go : ((i : ℕ) → slice_get (makers_after fails (before ++ g ∷ []) fs) i ≡ Some f → (m : ℕ) × (slice_get fs m ≡ Some f)) → (b : Bool) (k : ℕ)
        → slice_get (if b then (g ∷ makers_after fails (before ++ g ∷ []) fs) else makers_after fails (before ++ g ∷ []) fs) k ≡ Some f → (m : ℕ) × (slice_get (g ∷ fs) m ≡ Some f)
    go more true zero x = (0, x)
    go more true (suc k) x = let r = more k x in (suc r.0, r.1)
    go more false k x = let r = more k x in (suc r.0, r.1)

later_entry : (h : History) (e : Entry) (f : ℕ) → ((n : ℕ) × (slice_get h n ≡ Some (Step f))) → (n : ℕ) × (slice_get (e ∷ h) n ≡ Some (Step f))
later_entry h e f x = (suc x.0, x.1)

step_entry : (h : History) (m f : ℕ) → slice_get (steps h) m ≡ Some f → (n : ℕ) × (slice_get h n ≡ Some (Step f))
step_entry [] m f e = absurd (none-some f e)
step_entry (Claim p axis port state cells ∷ h) m f e = later_entry h (Claim p axis port state cells) f (step_entry h m f e)
step_entry (Deliver p g ∷ h) m f e = later_entry h (Deliver p g) f (step_entry h m f e)
step_entry (Release p ∷ h) m f e = later_entry h (Release p) f (step_entry h m f e)
step_entry (Settle p flip ∷ h) m f e = later_entry h (Settle p flip) f (step_entry h m f e)
step_entry (Step g ∷ h) zero f e = (0, ap (λ (o : Option ℕ). first o) e)
  where
    first : Option ℕ → Option Entry
    first None = None
    first (Some g) = Some (Step g)
step_entry (Step g ∷ h) (suc m) f e = later_entry h (Step g) f (step_entry h m f e)

pub ready_factory : (b : Position) (f s : ℕ) (ss : List ℕ) → IsLegal b → ready b f ≡ s ∷ ss → IsFactory b.job.grid f
ready_factory b f s ss legal e =
    let some : 0 < length (ready b f) = omega (arith, ap length e) in
    let made = maker_of 0 (makers_of b.job.fails (steps (past b))) (taken_states (past b)) f s 0 some (ap (λ (l : List ℕ). get_or l 0 s) e) in
    let stepped = made_stepped b.job.fails [] (steps (past b)) (s - 0) f made.1 in
    let at = step_entry (past b) stepped.0 f stepped.1 in
    let a = legal.legal at.0 (Step f) at.1 in
    (a.0, a.1)

pub few : (b : Position) (f : ℕ) → IsLegal b → IsFactory b.job.grid f → f < 16
few b f legal x = (legal.factories f x.0 x.1).0

empty_or : (l : List ℕ) → (l ≡ []) ⊎ ((s : ℕ) × (ss : List ℕ) × (l ≡ s ∷ ss))
empty_or [] = inl refl
empty_or (s ∷ ss) = inr (s, ss, refl)

-- a look that shows no ready state shows a history that has none
pub none_ready : (b : Position) (p : ℕ) (look : Look) → IsLegal b → Shows b p look → ((f : ℕ) → HasState look f → ⊥) → NoStates b
none_ready b p look legal shows none f = elim (empty_or (ready b f)) [
  | inl e ↦ e
  | inr x ↦ (
      let here = few b f legal (ready_factory b f x.0 x.1 legal x.2) in
      let some : 0 < length (ready b f) = omega (arith, ap length x.2) in
      absurd (none f (length (ready b f), shows.ready-are f here, some)))
]

-- ---- a step that makes no state
running_makes : (fails : List Fail) (f n made : ℕ) → outcome_of fails f n made ≡ Running → is_made fails f n ≡ false
running_makes fails f n made e = go (n % 11 == 0) (is_listed fails f (n / 11 - 1)) e
  where
    go : (b c : Bool) → (if b then (if c then Failed (n / 11 - 1) else Made made) else Running) ≡ Running → (b && not c) ≡ false
    go true true e = absurd (cc)
    go true false e = absurd (cc)
    go false c e = refl

steps_push : (h : History) (f : ℕ) → steps (h ++ Step f ∷ []) ≡ steps h ++ f ∷ []
steps_push h f = flat_map-append steps_in h (Step f ∷ [])

taken_push : (h : History) (f : ℕ) → taken_states (h ++ Step f ∷ []) ≡ taken_states h
taken_push h f = flat_map-append states_in h (Step f ∷ []) ∙ append-nil (taken_states h)

pub running_none : (b c : Position) (f : ℕ) → c ≡ with_entry b 0 (Step f) → Running ≡ stepped_by b f → NoStates b → NoStates c
running_none b c f is running none g =
    let made = running_makes b.job.fails f (step_count f (steps (past b)) + 1) (length (makers_of b.job.fails (steps (past b)))) (sym running) in
    let same : makers_of b.job.fails (steps (past b) ++ f ∷ []) ≡ makers_of b.job.fails (steps (past b)) =
    makers-push b.job.fails (steps (past b)) f ∙ ap (λ (x : Bool). makers_of b.job.fails (steps (past b)) ++ (if x then f ∷ [] else [])) made ∙ append-nil (makers_of b.job.fails (steps (past b))) in
    ap (λ (q : Position). ready q g) is ∙ here g same
  where
    here : (g : ℕ) → makers_of b.job.fails (steps (past b) ++ f ∷ []) ≡ makers_of b.job.fails (steps (past b)) → ready (with_entry b 0 (Step f)) g ≡ []
    here g same =
        ap (λ (h : History). ready_of b.job.fails (steps h) (taken_states h) g) (past_push b (with_entry b 0 (Step f)) (Step f) refl)
        ∙ ap (λ (l : List ℕ). ready_of b.job.fails l (taken_states (past b ++ Step f ∷ [])) g) (steps_push (past b) f)
        ∙ ap (λ (l : List ℕ). ready_of b.job.fails (steps (past b) ++ f ∷ []) l g) (taken_push (past b) f)
        ∙ ap (λ (l : List ℕ). ready_from 0 l (taken_states (past b)) g) same
        ∙ none g
