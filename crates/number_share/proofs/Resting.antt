-- A hand after each of its changes.
use Rattle.std.proofs.Common.{◌≡◌, ℕ, zero, suc, ◌<◌, ◌≤◌, Bool, true, List, [], ◌∷◌, ◌++◌, length, get_or, remove, refl, sym, ap, ◌∙◌, subst, arith, All, Contains, Option, slice_get, eqb, eq-eqb, ne_eqb, length-append}
use Rattle.std.proofs.lemmas.List.Elements.{All-push, All-tail}
use Rattle.std.proofs.lemmas.List.Sorted.{IsPermutation-remove, sum_by-IsPermutation, length_permutation, All-permutation}
use Rattle.std.proofs.lemmas.Grind.{common_steps}
use mathlib.Core.Logic.{dite}
use native.Mathlib.Decide.{ℕ_discrete}
use Rattle.number_share.specs.declared.view.View.{View}
use Rattle.number_share.specs.Lists.{one_if, times, without}
use Rattle.number_share.specs.inside.Views.{drawing, passing, IsSound}
use Rattle.number_share.specs.inside.Plays.{Sat}
use Rattle.number_share.specs.Hands.{Owner, IsSpent, Takes, ends, retakes, spending, retaking}
use Rattle.number_share.specs.inside.Hands.{HandRests}
use Rattle.number_share.proofs.Lists.{times-push, times-cons, times_at, weight_eq}

-- its step read r, which isn't shared
pub rests_spent : (m m' : Sat) (r : ℕ) (b : Bool) (held left : List ℕ) (hr lr : ℕ) → HandRests m b held left hr lr → m.0.past ≡ [] → m'.1 ≡ m.1 → m.0.numbers ≤ r → m'.0 ≡ passing m.0 r → HandRests m' true held left hr lr
rests_spent m m' r b held left hr lr k unspent slot over is =
    let v : View = m.0 in
    let after : Sat = (passing v r, m.1) in
    let rests : HandRests after true held left hr lr = record {
      no_slot = k.no_slot;
      one = k.one;
      sound = k.sound;
      unspent = λ e. cc;
      spent_by = λ _. (r, over, ap (λ l. l ++ r ∷ []) unspent);
      each = k.each;
      long = k.long;
      below = k.below;
      below_held = k.below_held;
      held_fits = k.held_fits;
      left_fits = k.left_fits;
    } in subst (λ (z : Sat). HandRests z true held left hr lr) (λ i. (sym is i, sym slot i)) rests

-- its step drew n
pub rests_drawn : (m m' : Sat) (n : ℕ) (b : Bool) (held left : List ℕ) (hr lr : ℕ) → HandRests m b held left hr lr → m'.1 ≡ m.1 → n < m.0.numbers → m'.0 ≡ drawing m.0 n → IsSound m'.0
    → HandRests m' b (held ++ n ∷ []) left hr lr × (length held < hr)
rests_drawn m m' n b held left hr lr k slot under is sound' =
    let v : View = m.0 in
    let after : Sat = (drawing v n, m.1) in
    let sound : IsSound (drawing v n) = subst IsSound is sound' in
    let long = length-append held (n ∷ []) in
    let longer = length-append v.drawn (n ∷ []) in
    let fits = sound.1 in
    let room = k.held_fits in
    let was = k.long in
    let rests : HandRests after b (held ++ n ∷ []) left hr lr = record {
      no_slot = k.no_slot;
      one = k.one;
      sound = sound;
      unspent = k.unspent;
      spent_by = k.spent_by;
      each = λ j. (let a = times-push j held n in let d = times-push j v.drawn n in let e = k.each j in omega arith);
      long = omega arith;
      below = k.below;
      below_held = All-push (λ j. j < v.numbers) held n k.below_held under;
      held_fits = k.held_fits;
      left_fits = k.left_fits;
    } in (subst (λ (z : Sat). HandRests z b (held ++ n ∷ []) left hr lr) (λ i. (sym is i, sym slot i)) rests, omega arith)

-- the last number of the list stands there once
pub apart : (m : Sat) (n : ℕ) (b : Bool) (held left : List ℕ) (hr lr : ℕ) → HandRests m b (held ++ n ∷ []) left hr lr → ¬ (Contains held n)
apart m n b held left hr lr k there =
    let a = times-push n held n in
    let d = weight_eq n n refl in
    let e = k.each n in
    let o = k.sound.0 n in
    let t = times_at held n there.0 there.1 there.2 in absurd (omega arith)

-- the oldest number that was put was taken again
pub rests_retaken : (m : Sat) (n : ℕ) (b : Bool) (held left rest : List ℕ) (hr lr : ℕ) → HandRests m b held left hr lr → left ≡ n ∷ rest → HandRests m b (held ++ n ∷ []) rest hr lr
rests_retaken m n b held left rest hr lr k is =
    let v : View = m.0 in
    let long = length-append held (n ∷ []) in
    let was = k.long in
    let shorter = ap length is in
    let below : All (λ j. j < v.numbers) (n ∷ rest) = subst (All (λ j. j < v.numbers)) is k.below in record {
      no_slot = k.no_slot;
      one = k.one;
      sound = k.sound;
      unspent = k.unspent;
      spent_by = k.spent_by;
      each = λ j. (let a = times-push j held n in let d = times-cons j n rest in let t = ap (times j) is in let e = k.each j in omega arith);
      long = omega arith;
      below = All-tail (λ j. j < v.numbers) n rest below;
      below_held = All-push (λ j. j < v.numbers) held n k.below_held (below 0 n (omega arith));
      held_fits = k.held_fits;
      left_fits = k.left_fits;
    }

without_absent : (n : ℕ) (xs : List ℕ) → times n xs ≡ 0 → without n xs ≡ xs
without_absent n [] none = refl
without_absent n (x ∷ xs) none = dite (ℕ_discrete x n)
    (λ is. let a = times-cons n x xs in let b = weight_eq x n is in absurd (omega arith))
    (λ not_it. let a = times-cons n x xs in let b = ne_eqb x n not_it in let t = without_absent n xs (omega arith) in grind (arith, common_steps))

-- a list that has the number once loses it
pub remove_is_without : (n : ℕ) (xs : List ℕ) (k : ℕ) → k < length xs → get_or xs k n ≡ n → times n xs ≤ 1 → remove xs k ≡ without n xs
remove_is_without n [] k inside is once = absurd (omega arith)
remove_is_without n (x ∷ xs) zero inside is once =
    let a = times-cons n x xs in
    let b = weight_eq x n is in
    let c = eq-eqb x n is in
    let t = without_absent n xs (omega arith) in grind (arith, common_steps)
remove_is_without n (x ∷ xs) (suc k) inside is once = dite (ℕ_discrete x n)
    (λ same. let a = times-cons n x xs in let b = weight_eq x n same in let c = times_at xs n k (omega arith) is in absurd (omega arith))
    (λ other.
    let a = times-cons n x xs in
    let c = ne_eqb x n other in
    let t = remove_is_without n xs k (omega arith) is (omega arith) in grind (arith, common_steps))

-- n was put back from place k
pub rests_put : (m : Sat) (n k : ℕ) (b : Bool) (held left : List ℕ) (hr lr : ℕ) → HandRests m b held left hr lr → k < length held → get_or held k n ≡ n
    → HandRests m b (remove held k) (left ++ n ∷ []) hr lr × (length left < lr) × (remove held k ≡ without n held)
rests_put m n k b held left hr lr r inside is =
    let v : View = m.0 in
    let moved = IsPermutation-remove held k n inside (sym is) in
    let shorter = length_permutation held (n ∷ remove held k) moved in
    let below : All (λ j. j < v.numbers) (n ∷ remove held k) = All-permutation (λ j. j < v.numbers) held (n ∷ remove held k) moved r.below_held in
    let longer = length-append left (n ∷ []) in
    let was = r.long in
    let fits = r.sound.1 in
    let room = r.left_fits in (
      record {
        no_slot = r.no_slot;
        one = r.one;
        sound = r.sound;
        unspent = r.unspent;
        spent_by = r.spent_by;
        each = λ j. (
            let a = sum_by-IsPermutation (λ (x : ℕ). one_if (eqb x j)) held (n ∷ remove held k) moved in
            let c = times-cons j n (remove held k) in
            let d = times-push j left n in
            let e = r.each j in omega arith
            );
        long = omega arith;
        below = All-push (λ j. j < v.numbers) left n r.below (below 0 n (omega arith));
        below_held = All-tail (λ j. j < v.numbers) n (remove held k) below;
        held_fits = r.held_fits;
        left_fits = r.left_fits;
      },
      omega arith,
      remove_is_without n held k inside is (let e = r.each n in let o = r.sound.0 n in omega arith),
    )

-- a step that read r, and what was put after that
pub takes_ended : (h mid after : Owner) (answer : Option ℕ) (r : ℕ) → h.past ≡ [] → h.numbers ≤ r → mid ≡ spending h r → answer ≡ slice_get mid.left 0 → after ≡ retaking mid → Takes h answer after
takes_ended h mid after answer r unspent over is told then =
    ends r unspent over (told ∙ ap (λ (m : Owner). slice_get m.left 0) is) (then ∙ ap retaking is)

-- no step, of a spent hand
pub takes_again : (h mid after : Owner) (answer : Option ℕ) → IsSpent h → mid ≡ h → answer ≡ slice_get mid.left 0 → after ≡ retaking mid → Takes h answer after
takes_again h mid after answer spent is told then = retakes spent (told ∙ ap (λ (m : Owner). slice_get m.left 0) is) (then ∙ ap retaking is)
