-- All hands together, and the word at the end.
use Rattle.std.proofs.Common.{◌≡◌, ℕ, zero, suc, flat_map, add-one, ◌+◌, ◌-◌, ◌^◌, ◌<◌, ◌≤◌, min, Bool, List, [], ◌∷◌, ◌++◌, length, ltb, refl, sym, ap, ◌∙◌, subst, arith, sum_by, length-append, append_assoc, All}
use Rattle.std.proofs.lemmas.List.Sums.{sum_by_push, sum_by-cons}
use Rattle.std.proofs.lemmas.List.{get_or_append_left}
use Rattle.std.proofs.Math.Seq.{get_or-append_seam}
use Rattle.std.specs.List.{range_with_len}
use Rattle.atomic_table.proofs.Lists.{at_index}
use mathlib.Core.Option.{some, some-injective}
use lib.ListN.{get_elem?}
use Rattle.atomic_table.specs.Table.{Final, Seen}
use Rattle.number_share.specs.declared.view.View.{View}
use Rattle.number_share.specs.Lists.{one_if, times, HasEachOnce}
use Rattle.number_share.specs.inside.Views.{joining}
use Rattle.number_share.specs.Rule.{Kept}
use Rattle.number_share.specs.inside.Plays.{Sat}
use Rattle.number_share.specs.Hands.{Owner, LeavesPut}
use Rattle.number_share.specs.inside.Hands.{HandRests, worth, HoldsAll, Drawn}
use Rattle.number_share.proofs.Lists.{sum_at, sum_only, sum_le, times-append, times-cons, weight_next}
use Rattle.number_share.proofs.Keeps.{drawn_times, past_length, part_of}

module _ {A : Type 0} (P : A → Type 0) (now front : List A) (x : A) (is : now ≡ front ++ x ∷ []) (all : All P now) where
  each_of : All P (front ++ x ∷ [])
  each_of = subst (All P) is all

  pub all_front : All P front
  all_front k d inside = subst P (get_or_append_left front (x ∷ []) d k inside) (each_of k d (let t = length-append front (x ∷ []) in omega arith))

  pub all_last : P x
  all_last = subst P (get_or-append_seam front x [] x) (each_of (length front) x (let t = length-append front (x ∷ []) in omega arith))

abbrev pub past_of : Owner → ℕ
past_of h = length h.past

-- v stands for all hands but those that are left
pub record StandsFor (all left : List Owner) (v : View) : Type 0 where
  pub live : 0 < v.part
  pub part : v.part + length left ≡ length all
  pub drawn : (n : ℕ) → times n v.drawn + sum_by (worth n) left ≡ sum_by (worth n) all
  pub past : length v.past + sum_by past_of left ≡ sum_by past_of all

module _ (h : Owner) (m : Sat) (b : Bool) (held left : List ℕ) (hr lr : ℕ) (r : HandRests m b held left hr lr) (past_is : m.0.past ≡ h.past) (held_is : held ≡ h.held) (left_is : left ≡ h.left) where
  worth_is : (n : ℕ) → times n m.0.drawn ≡ worth n h
  worth_is n = sym (r.each n) ∙ (λ i. times n (held_is i) + times n (left_is i))

  pub stands_first : (all front : List Owner) → all ≡ front ++ h ∷ [] → StandsFor all front m.0
  stands_first all front is =
      let one = r.one in record {
        live = omega arith;
        part = (let t = ap length is in let u = length-append front (h ∷ []) in omega arith);
        drawn = λ n. (let t = ap (sum_by (worth n)) is in let u = sum_by_push (worth n) front h in let w = worth_is n in omega arith);
        past = (let t = ap (sum_by past_of) is in let u = sum_by_push past_of front h in let w = ap length past_is in omega arith);
      }

  pub stands_more : (all now front : List Owner) (v : View) → StandsFor all now v → now ≡ front ++ h ∷ [] → StandsFor all front (joining v m.0)
  stands_more all now front v s is =
      let one = r.one in
      let live = s.live in
      let part = s.part in
      let past = s.past in record {
        live = omega arith;
        part = (let t = ap length is in let u = length-append front (h ∷ []) in omega arith);
        drawn = λ n. (let t = ap (sum_by (worth n)) is in let u = sum_by_push (worth n) front h in let w = worth_is n in let a = times-append n v.drawn m.0.drawn in let e = s.drawn n in omega arith);
        past = (let t = ap (sum_by past_of) is in let u = sum_by_push past_of front h in let w = ap length past_is in let a = length-append v.past m.0.past in omega arith);
      }

pub stands_all : (all left : List Owner) (v : View) → StandsFor all left v → left ≡ [] → HoldsAll all v
stands_all all left v s none = record {
  part = (let t = ap length none in let p = s.part in omega arith);
  drawn = λ n. (let t = ap (sum_by (worth n)) none in let e = s.drawn n in omega arith);
  past = (let t = ap (sum_by past_of) none in let e = s.past in omega arith);
}

-- the table at the end
pub closes : (numbers owners : ℕ) (hands : List Owner) (ws : List ℕ) (xs : List (Unit {0})) (id next : ℕ) (v : View) → length hands ≡ owners → HoldsAll hands v → Final (Seen (Kept numbers owners) id v) ws xs → get_elem? ws 0 ≡ some next
    → Drawn hands numbers next × (next < 2 ^ 32)
closes numbers owners hands ws xs id next v all holds end taken =
    let s = end.0 in
    let r = end.1.0 in
    let at = end.1.1 in
    let word : r.next ≡ next = some-injective r.next next (ap (λ l. get_elem? l 0) (sym r.words ∙ end.2) ∙ taken) in
    let part = holds.part in
    let parts = r.parts in
    let past = r.past in
    let small = r.small in
    let count_is = r.count_is in
    let whole : sum_by part_of s.views ≡ part_of v = omega arith in
    let few = sum_le past_length part_of s.views (λ j u e. (r.each j u e).few) in
    let count : r.count ≡ min next numbers = count_is ∙ ap (λ (n : ℕ). min n numbers) word in (
      record {
        each = λ n. sym (holds.drawn n) ∙ (sym (sum_only (drawn_times n) part_of s.views id v at whole (λ j u e none. ap (times n) ((r.each j u e).idle none))) ∙ (r.once n ∙ ap (λ (k : ℕ). one_if (ltb n k)) count));
        past = (let a = sum_only past_length part_of s.views id v at whole (λ j u e none. let f = (r.each j u e).few in omega arith) in let b = holds.past in omega arith);
      },
      omega arith,
    )

times_flat : {A : Type 0} (f : A → List ℕ) (n : ℕ) (xs : List A) → times n (flat_map f xs) ≡ sum_by (λ x. times n (f x)) xs
times_flat f n [] = refl
times_flat f n (x ∷ xs) = let t = times_flat f n xs in let a = times-append n (f x) (flat_map f xs) in let b = sum_by-cons (λ y. times n (f y)) x xs in omega arith

sum_plus : {A : Type 0} (f g : A → ℕ) (xs : List A) → sum_by (λ x. f x + g x) xs ≡ sum_by f xs + sum_by g xs
sum_plus f g [] = refl
sum_plus f g (x ∷ xs) =
    let t = sum_plus f g xs in
    let a = sum_by-cons (λ y. f y + g y) x xs in
    let b = sum_by-cons f x xs in
    let c = sum_by-cons g x xs in omega arith

-- one number more
pub range_more : (a n j : ℕ) → a + n ≡ j → range_with_len a (n + 1) ≡ range_with_len a n ++ j ∷ []
range_more a n j is = rw add-one (more a n j is) where
  more : (a n j : ℕ) → a + n ≡ j → range_with_len a (suc n) ≡ range_with_len a n ++ j ∷ []
  more a zero j is = ap (λ (k : ℕ). k ∷ []) (let t : a ≡ j = omega arith in t)
  more a (suc n) j is = ap (λ l. a ∷ l) (more (a + 1) n j (omega arith))

-- the loop that adds the numbers that no hand drew
pub gathered : (put now later : List ℕ) (first j : ℕ) → now ≡ put ++ range_with_len first (j - first) → later ≡ now ++ j ∷ [] → first ≤ j → later ≡ put ++ range_with_len first (j + 1 - first)
gathered put now later first j is step inside =
    let more = range_more first (j - first) j (omega arith) in
    let long : j - first + 1 ≡ j + 1 - first = omega arith in
    step ∙ (ap (λ (l : List ℕ). l ++ j ∷ []) is ∙ (append_assoc put (range_with_len first (j - first)) (j ∷ []) ∙ ap (λ (l : List ℕ). put ++ l) (sym more ∙ ap (range_with_len first) long)))

-- the numbers below a and the k numbers from a on are those below a + k
times_range : (n a k : ℕ) → times n (range_with_len a k) + one_if (ltb n a) ≡ one_if (ltb n (a + k))
times_range n a zero = let t : one_if (ltb n a) ≡ one_if (ltb n (a + 0)) = ap (λ (j : ℕ). one_if (ltb n j)) (omega arith) in omega arith
times_range n a (suc k) =
    let t = times_range n (a + 1) k in
    let u = times-cons n a (range_with_len (a + 1) k) in
    let w = weight_next n a in
    let same : one_if (ltb n (a + 1 + k)) ≡ one_if (ltb n (a + suc k)) = ap (λ (j : ℕ). one_if (ltb n j)) (omega arith) in omega arith

-- what was put, what no hand drew and what is held
pub each_once : (hands : List Owner) (numbers next first : ℕ) → Drawn hands numbers next → first ≡ min next numbers
    → HasEachOnce numbers ((flat_map (λ (h : Owner). h.left) hands ++ range_with_len first (numbers - first)) ++ flat_map (λ (h : Owner). h.held) hands)
each_once hands numbers next first drawn is n =
    let a = times-append n (flat_map (λ (h : Owner). h.left) hands ++ range_with_len first (numbers - first)) (flat_map (λ (h : Owner). h.held) hands) in
    let b = times-append n (flat_map (λ (h : Owner). h.left) hands) (range_with_len first (numbers - first)) in
    let c = times_flat (λ (h : Owner). h.left) n hands in
    let d = times_flat (λ (h : Owner). h.held) n hands in
    let e = sum_plus (λ (h : Owner). times n h.held) (λ (h : Owner). times n h.left) hands in
    let f = drawn.each n in
    let g = times_range n first (numbers - first) in
    let same : one_if (ltb n first) ≡ one_if (ltb n (min next numbers)) = ap (λ (j : ℕ). one_if (ltb n j)) is in
    let whole : one_if (ltb n (first + (numbers - first))) ≡ one_if (ltb n numbers) = ap (λ (j : ℕ). one_if (ltb n j)) (omega arith) in omega arith

-- where a hand is spent, no number below `numbers` is left undrawn
pub leaves : (hands : List Owner) (numbers next first : ℕ) (answer : List ℕ) → Drawn hands numbers next → first ≡ min next numbers → answer ≡ flat_map (λ (h : Owner). h.left) hands ++ range_with_len first (numbers - first)
    → LeavesPut numbers hands answer
leaves hands numbers next first answer drawn first_is is = record {
  next = first;
  inside = omega arith;
  is = is;
  spent = λ some_spent. (
      let a = sum_at past_of hands some_spent.0 some_spent.1 (at_index hands some_spent.0 some_spent.1 some_spent.2 (sym some_spent.3)) in
      let b = ap length some_spent.4.2 in
      let c = drawn.past in omega arith
      );
}

-- the answer of `gather`: k is the share's own count of its numbers, j the end of the loop
pub answers : (hands : List Owner) (numbers k next j : ℕ) (put answer : List ℕ) → k ≡ numbers → Drawn hands numbers next → put ≡ flat_map (λ (h : Owner). h.left) hands → answer ≡ put ++ range_with_len (min next k) (j - min next k) → j ≡ k
    → HasEachOnce numbers (answer ++ flat_map (λ (h : Owner). h.held) hands) × LeavesPut numbers hands answer
answers hands numbers k next j put answer same drawn put_is is end =
    let first : ℕ = min next numbers in
    let whole : answer ≡ flat_map (λ (h : Owner). h.left) hands ++ range_with_len first (numbers - first) = is ∙ (λ i. put_is i ++ range_with_len (min next (same i)) ((end ∙ same) i - min next (same i))) in (
      subst (λ (l : List ℕ). HasEachOnce numbers (l ++ flat_map (λ (h : Owner). h.held) hands)) (sym whole) (each_once hands numbers next first drawn refl),
      leaves hands numbers next first answer drawn refl whole,
    )
