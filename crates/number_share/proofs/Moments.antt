-- The rule, read off.
use Rattle.std.proofs.Common.{◌≡◌, ℕ, ◌<◌, length, get_or, ltb, ap, arith}
use Rattle.std.proofs.lemmas.List.{nil_from_length}
use mathlib.Core.Logic.{dite}
use native.Mathlib.Decide.{dec_le, ℕ_discrete}
use Rattle.atomic_table.specs.Table.{State}
use Rattle.number_share.specs.declared.view.View.{View}
use Rattle.number_share.specs.Lists.{times}
use Rattle.number_share.specs.Rule.{Kept}
use Rattle.number_share.specs.Moments.{IsDrawn, Moment}
use Rattle.number_share.proofs.Lists.{sum_at, sum_two, sum_find, weight_le, weight_lt, weight_ge, times_at, contains_of_times}

pub moment : (numbers owners : ℕ) (s : State (Unit {0}) View) → Kept numbers owners s → Moment numbers s
moment numbers owners s r =
    let word : get_or s.words 0 0 ≡ r.next = ap (λ l. get_or l 0 0) r.words in
    let count_is = r.count_is in
    let past = r.past in
    let drawn : (n : ℕ) → n < r.count → IsDrawn s n = λ n under.
    let t = sum_find (λ (v : View). times n v.drawn) s.views (let a = r.once n in let b = weight_lt n r.count under in omega arith) in
    (t.0, t.1, t.2, contains_of_times t.1.drawn n t.3) in record {
      once = λ j v n at. let a = sum_at (λ (u : View). times n u.drawn) s.views j v at in let b = r.once n in let c = weight_le (ltb n r.count) in omega arith;
      apart = λ i j v w n at too here there. dite (ℕ_discrete i j) (λ same. same) (λ other.
          let a = sum_two (λ (u : View). times n u.drawn) s.views i j v w other at too in
          let b = r.once n in
          let c = weight_le (ltb n r.count) in
          let d = times_at v.drawn n here.0 here.1 here.2 in
          let e = times_at w.drawn n there.0 there.1 there.2 in absurd (omega arith));
      drawn = λ n under shared. drawn n (omega arith);
      below = λ n d. dite (dec_le r.count n)
          (λ over.
          let a = sum_at (λ (u : View). times n u.drawn) s.views d.0 d.1 d.2 in
          let b = r.once n in
          let c = weight_ge n r.count over in
          let e = times_at d.1.drawn n d.3.0 d.3.1 d.3.2 in absurd (omega arith))
          (λ under. (omega arith, omega arith));
      spent = λ j v at some n shared. dite (ℕ_discrete (length v.past) 0)
          (λ none. absurd (some (nil_from_length v.past none)))
          (λ more. let a = sum_at (λ (u : View). length u.past) s.views j v at in drawn n (omega arith));
    }
