-- The states that entries make, one entry after another.
use Rattle.std.proofs.Common.{◌≡◌, ℕ, suc, ◌+◌, ◌<◌, ◌≤◌, max, Bool, true, false, ◌==◌, List, [], ◌∷◌, ◌++◌, length, map, refl, ap, sym, ◌∙◌, arith, inl, inr, append_assoc, append-nil, length-append}
use Rattle.std.specs.Prelude.{nat_lt, if◌then◌else◌}
use Rattle.std.proofs.lemmas.Bool.{cases_lt, lt-ltb, le-ltb}
use Rattle.std.proofs.lemmas.List.{map-append}
use Rattle.std.proofs.lemmas.Grind.{flat_map-append}
use Rattle.magic_pool.specs.declared.Fail.{Fail}
use Rattle.magic_pool.specs.Recount.{makers_of, step_count, is_made}
use Rattle.magic_pool.proofs.Readiness.{makers-push}
use Rattle.board_core.specs.declared.Entry.{Entry}
use Rattle.board_core.specs.declared.Entry.TheVariants.{Claim, Deliver, Release, Step, Settle}
use Rattle.board_core.specs.History.{History, steps, steps_in}
use Rattle.slice_write.specs.Slices.{Sliced, greatest, entries_of, made_in, made_from, made_at, numbers_from, states_made_by}

pub steps_more : (h : History) (e : Entry) → steps (h ++ e ∷ []) ≡ steps h ++ steps_in e
steps_more h e = flat_map-append steps_in h (e ∷ []) ∙ ap (λ l. steps h ++ l) (append-nil (steps_in e))

pub entries_more : (done : List Sliced) (e : Entry) (n : ℕ) → entries_of (done ++ (e, n) ∷ []) ≡ entries_of done ++ e ∷ []
entries_more done e n = map-append (λ (x : Sliced). x.0) done ((e, n) ∷ [])

pub steps_few : (h : History) → length (steps h) ≤ length h
steps_few [] = omega arith
steps_few (e ∷ h) = omega (arith, length-append (steps_in e) (steps h), one e, steps_few h)
  where
    one : (e : Entry) → length (steps_in e) ≤ 1
    one (Claim p axis through state cells) = omega arith
    one (Deliver p g) = omega arith
    one (Release p) = omega arith
    one (Step f) = omega arith
    one (Settle p flip) = omega arith

-- an entry that is no step makes no state
pub made_same : (fails : List Fail) (h : History) (e : Entry) → steps_in e ≡ [] → made_in fails (h ++ e ∷ []) ≡ made_in fails h
made_same fails h e quiet = ap (makers_of fails) (steps_more h e ∙ ap (λ l. steps h ++ l) quiet ∙ append-nil (steps h))

abbrev pub more_made : List Fail → History → ℕ → Bool
more_made fails h f = is_made fails f (step_count f (steps h) + 1)

pub made_step : (fails : List Fail) (h : History) (f : ℕ) → made_in fails (h ++ Step f ∷ []) ≡ made_in fails h ++ (if more_made fails h f then f ∷ [] else [])
made_step fails h f = ap (makers_of fails) (steps_more h (Step f)) ∙ makers-push fails (steps h) f

made_grows : (fails : List Fail) (h : History) (e : Entry) → length (made_in fails h) ≤ length (made_in fails (h ++ e ∷ []))
made_grows fails h (Claim p axis through state cells) = omega (arith, ap length (made_same fails h (Claim p axis through state cells) refl))
made_grows fails h (Deliver p g) = omega (arith, ap length (made_same fails h (Deliver p g) refl))
made_grows fails h (Release p) = omega (arith, ap length (made_same fails h (Release p) refl))
made_grows fails h (Settle p flip) = omega (arith, ap length (made_same fails h (Settle p flip) refl))
made_grows fails h (Step f) = omega (arith, ap length (made_step fails h f), length-append (made_in fails h) (if more_made fails h f then f ∷ [] else []))

made_mono : (fails : List Fail) (h k : History) → length (made_in fails h) ≤ length (made_in fails (h ++ k))
made_mono fails h [] = omega (arith, ap (λ l. length (made_in fails l)) (append-nil h))
made_mono fails h (e ∷ k) = omega (arith, made_grows fails h e, made_mono fails (h ++ e ∷ []) k, ap (λ l. length (made_in fails l)) (append_assoc h (e ∷ []) k))

-- the slice at which a state is made stays
from_quiet : (fails : List Fail) (s : ℕ) (before : History) (es : List Sliced) (e : Entry) (n : ℕ) → length (made_in fails before) ≤ s → steps_in e ≡ []
    → made_from fails s before (es ++ (e, n) ∷ []) ≡ made_from fails s before es
from_quiet fails s before [] e n unmade quiet =
    ap (λ b. if b then n else 0) (le-ltb s (length (made_in fails (before ++ e ∷ []))) (omega (arith, unmade, ap length (made_same fails before e quiet))))
from_quiet fails s before (x ∷ es) e n unmade quiet = elim (cases_lt s (length (made_in fails (before ++ x.0 ∷ [])))) [
  | inl now ↦ ap (λ b. if b then x.1 else made_from fails s (before ++ x.0 ∷ []) (es ++ (e, n) ∷ [])) (lt-ltb _ _ now) ∙ sym (ap (λ b. if b then x.1 else made_from fails s (before ++ x.0 ∷ []) es) (lt-ltb _ _ now))
  | inr later ↦ ap (λ m. if nat_lt s (length (made_in fails (before ++ x.0 ∷ []))) then x.1 else m) (from_quiet fails s (before ++ x.0 ∷ []) es e n later quiet)
]

pub made_at_quiet : (fails : List Fail) (done : List Sliced) (e : Entry) (n s : ℕ) → steps_in e ≡ [] → made_at fails (done ++ (e, n) ∷ []) s ≡ made_at fails done s
unfolding made_at
made_at_quiet fails done e n s quiet = from_quiet fails s [] done e n (omega arith) quiet

from_step : (fails : List Fail) (s : ℕ) (before : History) (es : List Sliced) (e : Entry) (n : ℕ) → length (made_in fails before) ≤ s
    → made_from fails s before (es ++ (e, n) ∷ []) ≡ (if nat_lt s (length (made_in fails (before ++ entries_of es))) then made_from fails s before es else (if nat_lt s (length (made_in fails ((before ++ entries_of es) ++ e ∷ []))) then n else 0))
from_step fails s before [] e n unmade =
    let same : before ++ [] ≡ before = append-nil before in
    rw (same, le-ltb s (length (made_in fails before)) unmade) refl
from_step fails s before (x ∷ es) e n unmade =
    let along : before ++ x.0 ∷ entries_of es ≡ (before ++ x.0 ∷ []) ++ entries_of es = sym (append_assoc before (x.0 ∷ []) (entries_of es)) in
    elim (cases_lt s (length (made_in fails (before ++ x.0 ∷ [])))) [
      | inl now ↦
          let still : s < length (made_in fails ((before ++ x.0 ∷ []) ++ entries_of es)) = omega (arith, now, made_mono fails (before ++ x.0 ∷ []) (entries_of es)) in
          rw (along, lt-ltb s (length (made_in fails (before ++ x.0 ∷ []))) now, lt-ltb s (length (made_in fails ((before ++ x.0 ∷ []) ++ entries_of es))) still) refl
      | inr later ↦ rw (along, le-ltb s (length (made_in fails (before ++ x.0 ∷ []))) later) (from_step fails s (before ++ x.0 ∷ []) es e n later)
    ]

pub made_at_step : (fails : List Fail) (done : List Sliced) (e : Entry) (n s : ℕ)
    → made_at fails (done ++ (e, n) ∷ []) s ≡ (if nat_lt s (length (made_in fails (entries_of done))) then made_at fails done s else (if nat_lt s (length (made_in fails (entries_of done ++ e ∷ []))) then n else 0))
unfolding made_at
made_at_step fails done e n s = from_step fails s [] done e n (omega arith)

from_le : (fails : List Fail) (s : ℕ) (before : History) (es : List Sliced) → made_from fails s before es ≤ greatest (map (λ (x : Sliced). x.1) es)
from_le fails s before [] = omega arith
from_le fails s before (x ∷ es) = go (nat_lt s (length (made_in fails (before ++ x.0 ∷ [])))) (from_le fails s (before ++ x.0 ∷ []) es)
  where
    go : (b : Bool) → made_from fails s (before ++ x.0 ∷ []) es ≤ greatest (map (λ (y : Sliced). y.1) es) → (if b then x.1 else made_from fails s (before ++ x.0 ∷ []) es) ≤ max x.1 (greatest (map (λ (y : Sliced). y.1) es))
    go true le = omega arith
    go false le = omega arith

pub made_at_le : (fails : List Fail) (s : ℕ) (done : List Sliced) → made_at fails done s ≤ greatest (map (λ (x : Sliced). x.1) done)
unfolding made_at
made_at_le fails s done = from_le fails s [] done

-- a factory's own states
numbers_more : (n f m : ℕ) (ms : List ℕ) → numbers_from n f (ms ++ m ∷ []) ≡ numbers_from n f ms ++ (if m == f then (n + length ms) ∷ [] else [])
numbers_more n f m [] = ap (λ k. if m == f then k ∷ [] else []) (let e : n ≡ n + 0 = omega arith in e)
numbers_more n f m (x ∷ ms) =
    ap (λ l. if x == f then n ∷ l else l) (numbers_more (n + 1) f m ms ∙ ap (λ k. numbers_from (n + 1) f ms ++ (if m == f then k ∷ [] else [])) (let e : (n + 1) + length ms ≡ n + suc (length ms) = omega arith in e))
    ∙ go (x == f)
  where
    go : (b : Bool) → (if b then n ∷ (numbers_from (n + 1) f ms ++ (if m == f then (n + suc (length ms)) ∷ [] else [])) else (numbers_from (n + 1) f ms ++ (if m == f then (n + suc (length ms)) ∷ [] else [])))
        ≡ (if b then n ∷ numbers_from (n + 1) f ms else numbers_from (n + 1) f ms) ++ (if m == f then (n + suc (length ms)) ∷ [] else [])
    go true = refl
    go false = refl

pub own_quiet : (fails : List Fail) (done : List Sliced) (e : Entry) (n f : ℕ) → steps_in e ≡ [] → states_made_by fails f (done ++ (e, n) ∷ []) ≡ states_made_by fails f done
unfolding states_made_by
own_quiet fails done e n f quiet = ap (numbers_from 0 f) (ap (made_in fails) (entries_more done e n) ∙ made_same fails (entries_of done) e quiet)

pub own_step : (fails : List Fail) (done : List Sliced) (n f g : ℕ) → states_made_by fails f (done ++ (Step g, n) ∷ [])
    ≡ states_made_by fails f done ++ (if more_made fails (entries_of done) g then (if g == f then length (made_in fails (entries_of done)) ∷ [] else []) else [])
unfolding states_made_by
own_step fails done n f g =
    ap (numbers_from 0 f) (ap (made_in fails) (entries_more done (Step g) n) ∙ made_step fails (entries_of done) g) ∙ go (more_made fails (entries_of done) g)
  where
    go : (b : Bool) → numbers_from 0 f (made_in fails (entries_of done) ++ (if b then g ∷ [] else [])) ≡ numbers_from 0 f (made_in fails (entries_of done)) ++ (if b then (if g == f then length (made_in fails (entries_of done)) ∷ [] else []) else [])
    go true = numbers_more 0 f g (made_in fails (entries_of done)) ∙ ap (λ k. numbers_from 0 f (made_in fails (entries_of done)) ++ (if g == f then k ∷ [] else [])) (let e : 0 + length (made_in fails (entries_of done)) ≡ length (made_in fails (entries_of done)) = omega arith in e)
    go false = ap (numbers_from 0 f) (append-nil (made_in fails (entries_of done))) ∙ sym (append-nil (numbers_from 0 f (made_in fails (entries_of done))))
