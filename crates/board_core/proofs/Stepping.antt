-- When a step is allowed, by what the pool answers.
use Rattle.std.proofs.Common.{◌≡◌, ◌≢◌, ℕ, ◌+◌, ◌-◌, ◌%◌, ◌<◌, ◌≤◌, ◌^◌, ◌⊎◌, inl, inr, Bool, true, false, ◌==◌, ◌&&◌, nat_le, if◌then◌else◌, List, [], ◌∷◌, length, Result, Ok, Err, refl, ap, sym, ◌∙◌, arith, subst, eqb-true}
use Rattle.std.proofs.lemmas.Bool.{and_parts, cases_Bool, eqb-false, leb-true, leb-false}
use Rattle.patch_layout.specs.Grid.{IsPort, HasStore}
use Rattle.magic_pool.specs.declared.Fail.{Fail}
use Rattle.magic_pool.specs.declared.Stepped.{Stepped}
use Rattle.magic_pool.specs.declared.StepRefused.{StepRefused}
use Rattle.magic_pool.specs.declared.StepRefused.TheVariants.{NoFactory, Stocked}
use Rattle.magic_pool.specs.Recount.{step_count, ready_of, makers_of}
use Rattle.magic_pool.specs.Pooled.{HasFewer, store_of, outcome_of, answer_of, step_answer}
use Rattle.board_core.specs.declared.Entry.TheVariants.{Claim, Deliver, Release, Settle}
use Rattle.board_core.specs.declared.Entry.TheVariants as entry
use Rattle.board_core.specs.History.{History, steps, taken_states}
use Rattle.board_core.specs.Legal.{BoardJob, Allowed}
use Rattle.board_core.specs.inside.Kept.{Tables, Kept}
use Rattle.board_core.proofs.Short.{legal_short}

steps_few : (h : History) → length (steps h) ≤ length h
steps_few [] = omega arith
steps_few (Claim p axis through state cells ∷ es) = let i = steps_few es in omega arith
steps_few (Deliver p g ∷ es) = let i = steps_few es in omega arith
steps_few (Release p ∷ es) = let i = steps_few es in omega arith
steps_few (entry.Step f ∷ es) = let i = steps_few es in omega arith
steps_few (Settle p flip ∷ es) = let i = steps_few es in omega arith

pub has_fewer : (j : BoardJob) (h : History) (t : Tables) → Kept j h t → HasFewer t.pool (2 ^ 32 - 1)
has_fewer j h t k = (steps h, taken_states h, k.pool, (let few = steps_few h in let s = legal_short j h k.limits k.sound.stores k.legal in omega arith))

-- the three answers of a pool
module _ (fails : List Fail) (f store before made ready : ℕ) where
  runs_on : (before % 11 == 0 && nat_le store ready) ≡ false → (before % 11 ≢ 0) ⊎ (ready < store)
  runs_on e =
      elim (cases_Bool (before % 11 == 0)) [
        | inr n ↦ inl (eqb-false (before % 11) 0 n)
        | inl y ↦ inr (leb-false store ready (sym (ap (λ (b : Bool). b && nat_le store ready) y) ∙ e))
      ]

  pub answer_ok : (o : Stepped) → Ok o ≡ answer_of fails f store before made ready → (0 < store) × ((before % 11 ≢ 0) ⊎ (ready < store)) × (o ≡ outcome_of fails f (before + 1) made)
  answer_ok o e = go (store == 0) (before % 11 == 0 && nat_le store ready) refl refl e
    where
      go : (a b : Bool) → (store == 0) ≡ a → (before % 11 == 0 && nat_le store ready) ≡ b → Ok o ≡ (if a then Err NoFactory else (if b then Err (Stocked ready) else Ok (outcome_of fails f (before + 1) made))) → (0 < store) × ((before % 11 ≢ 0) ⊎ (ready < store)) × (o ≡ outcome_of fails f (before + 1) made)
      go true b s t k = absurd (never k)
        where
          never : Ok o ≡ Err NoFactory → ⊥
          never k = cc
      go false true s t k = absurd (never k)
        where
          never : Ok o ≡ Err (Stocked ready) → ⊥
          never k = cc
      go false false s t k = ((let n = eqb-false store 0 s in omega arith), runs_on t, (cc))

  pub answer_none : Err NoFactory ≡ answer_of fails f store before made ready → store ≡ 0
  answer_none e = go (store == 0) (before % 11 == 0 && nat_le store ready) refl e
    where
      go : (a b : Bool) → (store == 0) ≡ a → Err NoFactory ≡ (if a then Err NoFactory else (if b then Err (Stocked ready) else Ok (outcome_of fails f (before + 1) made))) → store ≡ 0
      go true b s k = eqb-true store 0 s
      go false true s k = absurd (never k)
        where
          never : ◌≡◌ {A = Result Stepped StepRefused} (Err NoFactory) (Err (Stocked ready)) → ⊥
          never k = cc
      go false false s k = absurd (never k)
        where
          never : Err NoFactory ≡ Ok (outcome_of fails f (before + 1) made) → ⊥
          never k = cc

  pub answer_full : (n : ℕ) → Err (Stocked n) ≡ answer_of fails f store before made ready → (0 < store) × (before % 11 ≡ 0) × (ready ≡ n) × (store ≤ n)
  answer_full n e = go (store == 0) (before % 11 == 0 && nat_le store ready) refl refl e
    where
      go : (a b : Bool) → (store == 0) ≡ a → (before % 11 == 0 && nat_le store ready) ≡ b → Err (Stocked n) ≡ (if a then Err NoFactory else (if b then Err (Stocked ready) else Ok (outcome_of fails f (before + 1) made))) → (0 < store) × (before % 11 ≡ 0) × (ready ≡ n) × (store ≤ n)
      go true b s t k = absurd (never k)
        where
          never : ◌≡◌ {A = Result Stepped StepRefused} (Err (Stocked n)) (Err NoFactory) → ⊥
          never k = cc
      go false true s t k =
          let parts = and_parts (before % 11 == 0) (nat_le store ready) t in
          let same : ready ≡ n = as_many k in
          let l = leb-true store ready parts.1 in
          ((let m = eqb-false store 0 s in omega arith), eqb-true (before % 11) 0 parts.0, same, omega arith)
        where
          as_many : ◌≡◌ {A = Result Stepped StepRefused} (Err (Stocked n)) (Err (Stocked ready)) → ready ≡ n
          as_many k = cc
      go false false s t k = absurd (never k)
        where
          never : Err (Stocked n) ≡ Ok (outcome_of fails f (before + 1) made) → ⊥
          never k = cc

module _ (j : BoardJob) (h : History) (t : Tables) (f : ℕ) (k : Kept j h t) where
  pub step_allowed : (o : Stepped) → Ok o ≡ step_answer t.pool.makers j.fails (steps h) (taken_states h) f → Allowed j h (entry.Step f) × (o ≡ outcome_of j.fails f (step_count f (steps h) + 1) (length (makers_of j.fails (steps h))))
  step_allowed o e =
      let a = answer_ok j.fails f (store_of t.pool.makers f) (step_count f (steps h)) (length (makers_of j.fails (steps h))) (length (ready_of j.fails (steps h) (taken_states h) f)) o e in
      ((store_of t.pool.makers f, (k.makers f (store_of t.pool.makers f)).1 (refl, a.0), a.1), a.2)

  pub step_nowhere : (why : StepRefused) → why ≡ NoFactory → Err why ≡ step_answer t.pool.makers j.fails (steps h) (taken_states h) f → (c : ℕ) → IsPort j.grid f c → ⊥
  step_nowhere why is e' c port =
      let e = subst (λ (w : StepRefused). Err w ≡ step_answer t.pool.makers j.fails (steps h) (taken_states h) f) is e' in
      let none = answer_none j.fails f (store_of t.pool.makers f) (step_count f (steps h)) (length (makers_of j.fails (steps h))) (length (ready_of j.fails (steps h) (taken_states h) f)) e in
      let some = (k.makers f port.1).0 (c, port.0, port.2) in
      let same = some.0 in
      let l = some.1 in
      omega arith

  pub step_full : (n : ℕ) (why : StepRefused) → why ≡ Stocked n → Err why ≡ step_answer t.pool.makers j.fails (steps h) (taken_states h) f → n ≡ store_of t.pool.makers f
      → HasStore j.grid f n × (step_count f (steps h) % 11 ≡ 0) × (length (ready_of j.fails (steps h) (taken_states h) f) ≡ n)
  step_full n why is e' store =
      let e = subst (λ (w : StepRefused). Err w ≡ step_answer t.pool.makers j.fails (steps h) (taken_states h) f) is e' in
      let a = answer_full j.fails f (store_of t.pool.makers f) (step_count f (steps h)) (length (makers_of j.fails (steps h))) (length (ready_of j.fails (steps h) (taken_states h) f)) n e in
      ((k.makers f n).1 (sym store, (let some = a.0 in omega arith)), a.1, a.2)
