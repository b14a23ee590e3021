-- Each step on the word keeps its rule.
use Rattle.std.proofs.Common.{◌≡◌, ℕ, ◌+◌, ◌%◌, ◌^◌, ◌<◌, List, [], ◌∷◌, length, set, get_or, refl, sym, ap, ◌∙◌, arith, sum_by, eqb, ltb, length-append}
use Rattle.std.proofs.Math.Nat.{mod-eq_of_lt}
use mathlib.Core.Logic.{dite}
use mathlib.Core.Option.{none, some}
use native.Mathlib.Decide.{dec_le}
use lib.ListN.{get_elem?}
use Rattle.atomic_table.specs.Table.{State, step, keeps, opening, Allows, Splits, Joins}
use Rattle.atomic_table.proofs.Lists.{set_else}
use Rattle.number_share.specs.declared.view.View.{View}
use Rattle.number_share.specs.Lists.{one_if, times}
use Rattle.number_share.specs.inside.Views.{opener, dealing, dealt, drawing, passing, joining, ended}
use Rattle.number_share.specs.Rule.{Fits, Kept}
use Rattle.number_share.specs.inside.Plays.{Sat, drew}
use Rattle.number_share.proofs.Lists.{set_at, each_lone, each_set, each_push, sum_at, sum_grown, sum_cut, sum_joined, sum_le, weight_le, weight_ge, weight_next, times-push, times-append}

abbrev pub drawn_times : ℕ → View → ℕ
drawn_times n v = times n v.drawn

abbrev pub drawn_length : View → ℕ
drawn_length v = length v.drawn

abbrev pub past_length : View → ℕ
past_length v = length v.past

abbrev pub part_of : View → ℕ
part_of v = v.part

pub opens : (numbers owners : ℕ) → numbers + owners < 2 ^ 32 → Kept numbers owners (opening (0 ∷ []) [] (opener numbers owners))
opens numbers owners small = record {
  next = 0;
  count = 0;
  words = refl;
  count_is = omega arith;
  once = λ n. (let a : drawn_times n (opener numbers owners) ≡ 0 = refl in let b = weight_ge n 0 (omega arith) in sym b);
  drawn = refl;
  past = omega arith;
  parts = omega arith;
  small = small;
  each = each_lone (Fits numbers) (opener numbers owners) record { same = λ _. refl; idle = λ _. refl; few = omega arith };
}

module _ (numbers owners : ℕ) where
  abbrev St : Type 0
  St = State (Unit {0}) View

  abbrev Rule : St → Type 0
  Rule = Kept numbers owners

  pub draws : (slots id : ℕ) (me : Sat) → me.0.part ≡ 1 → me.0.past ≡ [] → Allows Rule slots id me 0 (λ n. (n + 1) % 2 ^ 64) (drew (step slots 0 1 0 none) me)
  draws slots id me one unspent s r _ at _ =
      let v : View = me.0 in
      let x : ℕ = get_or s.words 0 0 in
      let found : x ≡ r.next = ap (λ l. get_or l 0 0) r.words in
      let k = r.each id v at in
      let same : v.numbers ≡ numbers = k.same (omega arith) in
      let few = sum_le past_length part_of s.views (λ j u e. (r.each j u e).few) in
      let past = r.past in
      let parts = r.parts in
      let small = r.small in
      let count_is = r.count_is in
      let none_past : length v.past ≡ 0 = ap length unspent in
      let raised : (x + 1) % 2 ^ 64 ≡ r.next + 1 = mod-eq_of_lt (omega arith) ∙ omega arith in
      let words : set s.words 0 ((x + 1) % 2 ^ 64) ≡ (r.next + 1) ∷ [] = ap (λ l. set l 0 ((x + 1) % 2 ^ 64)) r.words ∙ ap (λ (n : ℕ). n ∷ []) raised in
      dite (dec_le numbers x)
      (λ over.
      let w : View = passing v x in
      let longer : length w.past ≡ length v.past + 1 = length-append v.past (x ∷ []) in (
        w,
        keeps,
        tt,
        record {
          next = r.next + 1;
          count = r.count;
          words = words;
          count_is = omega arith;
          once = λ n. (let t = sum_grown (drawn_times n) s.views id v w 0 at (omega arith) in let h = r.once n in omega arith);
          drawn = (let t = sum_grown drawn_length s.views id v w 0 at (omega arith) in let h = r.drawn in omega arith);
          past = (let t = sum_grown past_length s.views id v w 1 at longer in omega arith);
          parts = (let t = sum_grown part_of s.views id v w 0 at (omega arith) in omega arith);
          small = r.small;
          each = each_set (Fits numbers) s.views id w record { same = k.same; idle = k.idle; few = omega arith } r.each;
        },
        (refl, (λ under. absurd (omega arith)), λ _. refl),
      ))
      (λ under.
      let w : View = drawing v x in
      let longer : length w.drawn ≡ length v.drawn + 1 = length-append v.drawn (x ∷ []) in
      let at_count : x ≡ r.count = omega arith in
      let once : (n : ℕ) → sum_by (drawn_times n) (set s.views id w) ≡ one_if (ltb n (r.count + 1)) = λ n. (
      let t = sum_grown (drawn_times n) s.views id v w (one_if (eqb x n)) at (times-push n v.drawn x) in
      let h = r.once n in
      let u = weight_next n r.count in
      let q : one_if (eqb x n) ≡ one_if (eqb r.count n) = ap (λ (m : ℕ). one_if (eqb m n)) at_count in
      omega arith
      ) in
      let drawn : sum_by drawn_length (set s.views id w) ≡ r.count + 1 = (let t = sum_grown drawn_length s.views id v w 1 at longer in let h = r.drawn in omega arith) in
      let here : get_elem? (set s.views id w) id ≡ some w = set_at s.views id v w at in (
        w,
        keeps,
        tt,
        record {
          next = r.next + 1;
          count = r.count + 1;
          words = words;
          count_is = omega arith;
          once = once;
          drawn = drawn;
          past = (let t = sum_grown past_length s.views id v w 0 at (omega arith) in omega arith);
          parts = (let t = sum_grown part_of s.views id v w 0 at (omega arith) in omega arith);
          small = r.small;
          each = each_set (Fits numbers) s.views id w record { same = k.same; idle = λ zero. absurd (omega arith); few = k.few } r.each;
        },
        (
          refl,
          (λ _. (
            refl,
            ((λ n. (let a = sum_at (drawn_times n) (set s.views id w) id w here in let b = once n in let c = weight_le (ltb n (r.count + 1)) in omega arith)), (let a = sum_at drawn_length (set s.views id w) id w here in omega arith)),
          )),
          λ over. absurd (omega arith),
        ),
      ))

  pub deals : (id : ℕ) (v : View) → 0 < v.part → v.drawn ≡ [] → v.past ≡ [] → Splits Rule id v (dealing v) (dealt v)
  deals id v more idle unspent s r at =
      let k = r.each id v at in
      let same : v.numbers ≡ numbers = k.same more in
      let vs : List View = set s.views id (dealing v) in
      record {
        next = r.next;
        count = r.count;
        words = r.words;
        count_is = r.count_is;
        once = λ n. sum_cut (drawn_times n) s.views id v (dealing v) (dealt v) at (omega arith) ∙ r.once n;
        drawn = sum_cut drawn_length s.views id v (dealing v) (dealt v) at (omega arith) ∙ r.drawn;
        past = sum_cut past_length s.views id v (dealing v) (dealt v) at (omega arith) ∙ r.past;
        parts = sum_cut part_of s.views id v (dealing v) (dealt v) at (omega arith) ∙ r.parts;
        small = r.small;
        each = each_push (Fits numbers) vs (dealt v) record { same = λ _. same; idle = λ _. refl; few = omega arith }
            (each_set (Fits numbers) s.views id (dealing v) record { same = λ _. same; idle = λ _. idle; few = (let t : length v.past ≡ 0 = ap length unspent in omega arith) } r.each);
      }

  pub joins : (id : ℕ) (v : View) (other : ℕ) (w : View) → 0 < v.part → Joins Rule id v other w (joining v w) ended
  joins id v other w more s r at apart there =
      let k = r.each id v at in
      let there' : get_elem? s.views other ≡ some w = sym (set_else s.views id other (joining v w) apart) ∙ there in
      let q = r.each other w there' in
      let vs : List View = set s.views id (joining v w) in
      record {
        next = r.next;
        count = r.count;
        words = r.words;
        count_is = r.count_is;
        once = λ n. sum_joined (drawn_times n) s.views id other v w (joining v w) ended at there (let t = times-append n v.drawn w.drawn in omega arith) ∙ r.once n;
        drawn = sum_joined drawn_length s.views id other v w (joining v w) ended at there (let t = length-append v.drawn w.drawn in omega arith) ∙ r.drawn;
        past = sum_joined past_length s.views id other v w (joining v w) ended at there (let t = length-append v.past w.past in omega arith) ∙ r.past;
        parts = sum_joined part_of s.views id other v w (joining v w) ended at there (omega arith) ∙ r.parts;
        small = r.small;
        each = each_set (Fits numbers) vs other ended record { same = λ none. absurd (omega arith); idle = λ _. refl; few = omega arith }
            (each_set (Fits numbers) s.views id (joining v w) record { same = λ _. k.same more; idle = λ none. absurd (omega arith); few = (let a = k.few in let b = q.few in let t = length-append v.past w.past in omega arith) } r.each);
      }
