-- What the sets of the products of lower layers tell of a product, and how they change.
use Rattle.std.proofs.Common.{◌≡◌, ℕ, ◌+◌, ◌-◌, ◌<◌, ◌≤◌, Bool, true, false, not, ltb, List, [], ◌∷◌, ◌++◌, length, get_or, set, Option, Some, None, inl, inr, sym, ap, ◌∙◌, subst, arith}
use Rattle.std.specs.Prelude.{All}
use Rattle.std.proofs.lemmas.Bool.{cases_lt, cases_eq, cond-true, cond-false, lt-ltb, le-ltb, not-false, true_from_ne_false, both_ways}
use Rattle.std.proofs.lemmas.List.{length_push, length-set, get_or-set_same, get_or-set_other}
use Rattle.std.proofs.lemmas.Option.{slice_get-get_or}
use Rattle.pauli_product.specs.Signed.{Signed}
use Rattle.commute_order.specs.declared.Uses.{Uses}
use Rattle.commute_order.specs.Commuting.{commuting_at, WaitsOn, LeastWait}
use Rattle.layer_pass.specs.declared.draft.Low.{Low}
use Rattle.layer_pass.specs.Layering.{IsLeastNumber}
use Rattle.layer_pass.specs.inside.Drafts.{first_clash_of, IsPlace, IsFilled}
use Rattle.layer_pass.specs.inside.Lows.{IsLow, marked, IsAbove, LeastAbove, IsReach}
use Rattle.layer_pass.proofs.Finds.{find-none, find-first, none_passes}
use Rattle.layer_pass.proofs.Rising.{rises}
use Rattle.layer_pass.proofs.Rows.{place_in, layer_before, layer_last}

module _ (ps : List Signed) (us : List Uses) (layer : List ℕ) where
  -- ---- what a product waits on over a set
  module _ (n p : ℕ) (low : Low) (is : IsLow layer n low) (size : length layer ≡ p) (inside : p < n) where
    above_waits : (j : ℕ) → IsAbove ps us layer low.row p j → WaitsOn ps us low.set p j
    above_waits j a =
        let earlier = a.earlier in
        let within : j < length low.set = omega (arith, is.size) in
        record {
          earlier = a.earlier;
          clash = a.clash;
          undone = slice_get-get_or low.set j false within ∙ ap (λ (b : Bool). Some b) (is.lacks j (omega arith) (λ h. a.above));
        }

    waits_above : (j : ℕ) → WaitsOn ps us low.set p j → IsAbove ps us layer low.row p j
    waits_above j w =
        let earlier = w.earlier in
        let within : j < length low.set = omega (arith, is.size) in
        record {
          earlier = w.earlier;
          clash = w.clash;
          above = elim (cases_lt low.row (get_or layer j 0)) [
            | inl over ↦ over
            | inr under ↦
                let done = is.has j (omega arith) under in
                let there : Some true ≡ Some false = sym (slice_get-get_or low.set j false within ∙ ap (λ (b : Bool). Some b) done) ∙ w.undone in
                absurd (cc)
          ];
        }

    pub least_above : (r : Option ℕ) → LeastWait ps us low.set p r → LeastAbove ps us layer low.row p r
    least_above None w = λ j a. w j (above_waits j a)
    least_above (Some j) w = record {
      has = waits_above j w.0;
      none_below = λ k less a. w.1 k less (above_waits k a);
    }

  -- ---- from sets to rows
  module _ (rows : List (List ℕ)) (filled : IsFilled layer rows) (p : ℕ) (size : length layer ≡ p) where
    -- above so many layers nothing holds the product
    pub silent_above : (below : ℕ) → ((j : ℕ) → IsAbove ps us layer below p j → ⊥) → (k : ℕ) → below ≤ k → k < length rows → first_clash_of ps us p (get_or rows k []) ≡ None
    silent_above below none k over inside =
        let row = get_or rows k [] in
        find-none (λ j. not (commuting_at ps us j p)) row
        (λ i l.
        let member = (filled.row k inside).members i 0 l in
        let j = get_or row i 0 in
        let number : get_or layer j 0 ≡ k + 1 = member.1 in
        let high : below < get_or layer j 0 = omega arith in
        let earlier : j < p = subst (λ q. j < q) size member.0 in
        ap not (true_from_ne_false (commuting_at ps us j p) (λ clash. none j (record { earlier = earlier; clash = clash; above = high }))))

    -- the least that holds it above so many layers stands in the next one, where no higher row holds it
    pub held_there : (below blocker : ℕ) → 0 < below → ((k : ℕ) → below ≤ k → k < length rows → first_clash_of ps us p (get_or rows k []) ≡ None) → IsLeastNumber (IsAbove ps us layer (below - 1) p) blocker → first_clash_of ps us p (get_or rows (below - 1) []) ≡ Some blocker
    held_there below blocker some silent least =
        let has = least.has in
        let there : blocker < length layer = subst (λ q. blocker < q) (sym size) has.earlier in
        let high : below - 1 < get_or layer blocker 0 = has.above in
        let number = filled.numbers blocker 0 there in
        elim (cases_lt below (get_or layer blocker 0)) [
          | inl over ↦
              let k = get_or layer blocker 0 - 1 in
              let inside : k < length rows = omega (arith, number.1) in
              let own : get_or layer blocker 0 ≡ k + 1 = omega arith in
              let at = place_in (get_or rows k []) blocker ((filled.row k inside).whole blocker there own) in
              let quiet = none_passes (λ j. not (commuting_at ps us j p)) (get_or rows k []) (silent k (omega arith) inside) at.0 at.1.within in
              absurd (both_ways _ has.clash (sym (ap (λ j. commuting_at ps us j p) at.1.is) ∙ not-false _ quiet))
          | inr same ↦
              let k = below - 1 in
              let inside : k < length rows = omega (arith, number.1) in
              let own : get_or layer blocker 0 ≡ k + 1 = omega arith in
              let row = get_or rows k [] in
              let is = filled.row k inside in
              let at = place_in row blocker (is.whole blocker there own) in
              let before : (i : ℕ) → i < at.0 → not (commuting_at ps us (get_or row i 0) p) ≡ false = λ i l.
              let w = at.1.within in
              let stands : i < length row = omega arith in
              let member = is.members i 0 stands in
              let lower : get_or row i 0 < get_or row at.0 0 = rises row is.rising i at.0 l w in
              let less : get_or row i 0 < blocker = subst (λ q. get_or row i 0 < q) at.1.is lower in
              let layer_is : get_or layer (get_or row i 0) 0 ≡ k + 1 = member.1 in
              let over : below - 1 < get_or layer (get_or row i 0) 0 = omega arith in
              let earlier : get_or row i 0 < p = subst (λ q. get_or row i 0 < q) size member.0 in
              ap not (true_from_ne_false _ (λ clash. least.none_below (get_or row i 0) less (record { earlier = earlier; clash = clash; above = over }))) in
              let passes : not (commuting_at ps us (get_or row at.0 0) p) ≡ true = ap (λ j. not (commuting_at ps us j p)) at.1.is ∙ ap not has.clash in
              find-first (λ j. not (commuting_at ps us j p)) row at.0 at.1.within before passes ∙ ap (λ j. Some j) at.1.is
        ]

  -- ---- a step of the search
  module _ (rows : List (List ℕ)) (p below blocker end : ℕ) (reach : IsReach ps us layer rows p below blocker end) where
    pub reach_held : (row j : ℕ) → IsLeastNumber (IsAbove ps us layer row p) j → IsReach ps us layer rows p (row + 1) j end
    reach_held row j least = record {
      silent = reach.silent;
      held = λ h. let same : row ≡ row + 1 - 1 = omega arith in subst (λ b. IsLeastNumber (IsAbove ps us layer b p) j) same least;
    }

    pub reach_silent : (row : ℕ) → IsFilled layer rows → length layer ≡ p → ((j : ℕ) → IsAbove ps us layer row p j → ⊥) → IsReach ps us layer rows p below blocker row
    reach_silent row filled size none = record {
      silent = silent_above rows filled p size row none;
      held = reach.held;
    }

    -- the end of the search
    pub placed : (now by : ℕ) → IsFilled layer rows → length layer ≡ p → below ≤ now → (now ≡ below → by ≡ blocker)
        → ((k : ℕ) → now ≤ k → k < end → first_clash_of ps us p (get_or rows k []) ≡ None)
        → (below < now → first_clash_of ps us p (get_or rows (now - 1) []) ≡ Some by)
        → IsPlace ps us rows p now by
    placed now by filled size le kept silent found =
        let above : (k : ℕ) → now ≤ k → k < length rows → first_clash_of ps us p (get_or rows k []) ≡ None = λ k over inside. elim (cases_lt k end) [
          | inl low ↦ silent k over low
          | inr high ↦ reach.silent k high inside
        ] in record {
          above = above;
          blocks = λ some. elim (cases_lt below now) [
            | inl up ↦ found up
            | inr still ↦
                let same : now ≡ below = omega arith in
                held_there rows filled p size now by some above
                (subst (λ b. IsLeastNumber (IsAbove ps us layer (b - 1) p) by) (sym same)
                (subst (IsLeastNumber (IsAbove ps us layer (below - 1) p)) (sym (kept same)) (reach.held (omega arith))))
          ];
        }

  -- no set is tried
  pub reach_none : (rows : List (List ℕ)) (p end : ℕ) → ((k : ℕ) → end ≤ k → k < length rows → first_clash_of ps us p (get_or rows k []) ≡ None) → IsReach ps us layer rows p 0 0 end
  reach_none rows p end silent = record { silent = silent; held = λ h. absurd (omega arith) }

-- ---- how the sets change
module _ (layer : List ℕ) (n below : ℕ) (inside : length layer < n) where
  low_marked : (low : Low) → below < low.row → IsLow layer n low → IsLow (layer ++ (below + 1) ∷ []) n (record low { set = set low.set (length layer) true })
  low_marked low under is =
      let p = length layer in
      let new = set low.set p true in
      let size = is.size in
      let there : p < length low.set = omega arith in
      record {
        size = length-set low.set p true ∙ is.size;
        has = λ j h l. elim (cases_eq j p) [
          | inl last ↦ subst (λ q. get_or new q false ≡ true) (sym last) (get_or-set_same low.set p true false there)
          | inr other ↦
              let old : j < length layer = omega (arith, length_push layer (below + 1)) in
              let same = layer_before layer (below + 1) j old in
              get_or-set_other low.set p j true false other ∙ is.has j old (omega arith)
        ];
        lacks = λ j h l. elim (cases_eq j p) [
          | inl last ↦
              let high = l (omega (arith, length_push layer (below + 1))) in
              let own : get_or (layer ++ (below + 1) ∷ []) j 0 ≡ below + 1 = ap (λ q. get_or (layer ++ (below + 1) ∷ []) q 0) last ∙ layer_last layer (below + 1) in
              absurd (omega arith)
          | inr other ↦
              get_or-set_other low.set p j true false other
              ∙ is.lacks j h (λ old.
              let same = layer_before layer (below + 1) j old in
              let high = l (omega (arith, length_push layer (below + 1))) in
              omega arith)
        ];
      }

  low_kept : (low : Low) → low.row ≤ below → IsLow layer n low → IsLow (layer ++ (below + 1) ∷ []) n low
  low_kept low over is = record {
    size = is.size;
    has = λ j h l. elim (cases_lt j (length layer)) [
      | inl old ↦
          let same = layer_before layer (below + 1) j old in
          is.has j old (omega arith)
      | inr last ↦
          let at : j ≡ length layer = omega (arith, length_push layer (below + 1)) in
          let own : get_or (layer ++ (below + 1) ∷ []) j 0 ≡ below + 1 = ap (λ q. get_or (layer ++ (below + 1) ∷ []) q 0) at ∙ layer_last layer (below + 1) in
          absurd (omega arith)
    ];
    lacks = λ j h l. is.lacks j h (λ old.
        let same = layer_before layer (below + 1) j old in
        let high = l (omega (arith, length_push layer (below + 1))) in
        omega arith);
  }

  low_more : (low : Low) → IsLow layer n low → IsLow (layer ++ (below + 1) ∷ []) n (marked below (length layer) low)
  low_more low is = elim (cases_lt below low.row) [
    | inl under ↦ subst (IsLow (layer ++ (below + 1) ∷ []) n) (sym (cond-true (ltb below low.row) _ _ (lt-ltb below low.row under))) (low_marked low under is)
    | inr over ↦ subst (IsLow (layer ++ (below + 1) ∷ []) n) (sym (cond-false (ltb below low.row) _ _ (le-ltb below low.row over))) (low_kept low over is)
  ]

  pub lows_more : (lows new : List Low) → length new ≡ length lows → ((k : ℕ) (d : Low) → k < length lows → get_or new k d ≡ marked below (length layer) (get_or lows k d)) → All (IsLow layer n) lows → All (IsLow (layer ++ (below + 1) ∷ []) n) new
  lows_more lows new size each all k d h =
      let old : k < length lows = omega arith in
      subst (IsLow (layer ++ (below + 1) ∷ []) n) (sym (each k d old)) (low_more (get_or lows k d) (all k d old))

-- the rows of the sets stay
marked_row : (below p : ℕ) (low : Low) → (marked below p low).row ≡ low.row
marked_row below p low = elim (cases_lt below low.row) [
  | inl under ↦ ap (λ (l : Low). l.row) (cond-true (ltb below low.row) _ _ (lt-ltb below low.row under))
  | inr over ↦ ap (λ (l : Low). l.row) (cond-false (ltb below low.row) _ _ (le-ltb below low.row over))
]

pub marked_within : (below p count more : ℕ) (lows new : List Low) → count ≤ more → length new ≡ length lows → ((k : ℕ) (d : Low) → k < length lows → get_or new k d ≡ marked below p (get_or lows k d)) → All (λ (low : Low). low.row < count) lows → All (λ (low : Low). low.row < more) new
marked_within below p count more lows new le size each all k d h =
    let old : k < length lows = omega arith in
    let same : (get_or new k d).row ≡ (get_or lows k d).row = ap (λ (l : Low). l.row) (each k d old) ∙ marked_row below p (get_or lows k d) in
    let less = all k d old in
    omega arith
