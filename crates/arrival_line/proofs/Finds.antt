-- The strays are found one after another.
use Rattle.std.proofs.Common.{◌≡◌, ◌<◌, ◌+◌, ℕ, zero, suc, Bool, true, false, not, cond, List, [], ◌∷◌, ◌++◌, Option, length, take, get_or, sym, ap, ◌∙◌, add-zero, add-one, append-nil, arith}
use Rattle.std.specs.List.{filter, range_with_len}
use Rattle.std.proofs.lemmas.List.{take_more}
use Rattle.std.proofs.lemmas.List.Elements.{filter-append}
use Rattle.std.proofs.lemmas.Option.{slice_get-get_or}
use Rattle.arrival_line.specs.declared.arrival.Arrival.{Arrival}
use Rattle.source_model.specs.declared.Kind.{Kind}
use Rattle.arrival_line.specs.Strays.{fits, serves, is_stray, is_stray_as}
use Rattle.arrival_line.specs.inside.Inboxes.{sifted}
use Rattle.arrival_line.proofs.Inboxes.{sifts_on}

range_more : (a n : ℕ) → range_with_len a (suc n) ≡ range_with_len a n ++ (a + n) ∷ []
range_more a zero = ap (λ k. k ∷ []) (sym (add-zero a))
range_more a (suc n) = let e : (a + 1) + n ≡ a + suc n = omega arith in ap (λ l. a ∷ l) (range_more (a + 1) n ∙ ap (λ k. range_with_len (a + 1) n ++ k ∷ []) e)

-- the places below i that pass a test, and one more place
filter_more : (p : ℕ → Bool) (i : ℕ) (b : Bool) → p i ≡ b → filter p (range_with_len 0 (i + 1)) ≡ filter p (range_with_len 0 i) ++ cond b (i ∷ []) []
filter_more p i b is =
    let z : 0 + i ≡ i = omega arith in
    ap (λ n. filter p (range_with_len 0 n)) (add-one i) ∙ ap (filter p) (range_more 0 i ∙ ap (λ k. range_with_len 0 i ++ k ∷ []) z) ∙ filter-append p (range_with_len 0 i) (i ∷ [])
    ∙ ap (λ c. filter p (range_with_len 0 i) ++ cond c (i ∷ []) []) is

module _ (w₀ w : List (Option Kind)) (all : List Arrival) (i : ℕ) (d : Arrival) (within : i < length all) (sifts : (b : Arrival) → fits w b ≡ serves w₀ (take i all) b) where
  abbrev here : Arrival
  here = get_or all i d

  abbrev found_below : ℕ → List ℕ
  found_below n = filter (is_stray w₀ all) (range_with_len 0 n)

  next : take i all ++ here ∷ [] ≡ take (i + 1) all
  next = sym (take_more all i d within)

  pub sifts_next : (w' : List (Option Kind)) → w' ≡ sifted w here → (b : Arrival) → fits w' b ≡ serves w₀ (take (i + 1) all) b
  sifts_next w' is b = ap (λ l. fits l b) is ∙ sifts_on w₀ (take i all) w here b sifts ∙ ap (λ t. serves w₀ t b) next

  stray_here : is_stray w₀ all i ≡ not (fits w here)
  stray_here = ap (is_stray_as w₀ (take i all)) (slice_get-get_or all i d within) ∙ ap not (sym (sifts here))

  pub at_served : (found found' : List ℕ) → found ≡ found_below i → found' ≡ found → fits w here ≡ true → found' ≡ found_below (i + 1)
  at_served found found' is same h = same ∙ is ∙ sym (filter_more (is_stray w₀ all) i false (stray_here ∙ ap not h) ∙ append-nil (found_below i))

  pub at_stray : (found found' : List ℕ) → found ≡ found_below i → found' ≡ found ++ i ∷ [] → fits w here ≡ false → found' ≡ found_below (i + 1)
  at_stray found found' is more h = more ∙ ap (λ l. l ++ i ∷ []) is ∙ sym (filter_more (is_stray w₀ all) i true (stray_here ∙ ap not h))
