-- What a placed product changes in the rows of the layers.
use Rattle.std.proofs.Common.{◌≡◌, ◌≢◌, ℕ, ◌+◌, ◌<◌, ◌≤◌, List, [], ◌∷◌, ◌++◌, length, get_or, set, inl, inr, refl, sym, ap, ◌∙◌, subst, arith}
use Rattle.std.specs.Prelude.{All, Contains}
use Rattle.std.proofs.lemmas.Bool.{cases_lt, cases_eq}
use Rattle.std.proofs.lemmas.List.{get_or_append_left, get_or_push, length_push, length-set, get_or-set_same, get_or-set_other, get_or_default}
use Rattle.std.proofs.lemmas.List.Elements.{All-weaker, All-from_get_or, All-push, Contains-append_left, Contains-push}
use Rattle.layer_pass.specs.inside.Drafts.{IsRow, IsFilled}
use Rattle.layer_pass.proofs.Rising.{rising-push}

-- a product that a row contains stands at some place of it
pub record IsAt (row : List ℕ) (j i : ℕ) : Type 0 where
  pub within : i < length row
  pub is : get_or row i 0 ≡ j

pub place_in : (row : List ℕ) (j : ℕ) → Contains row j → (i : ℕ) × IsAt row j i
place_in row j (i, within, is) = (i, record { within = within; is = get_or_default row i 0 j within ∙ is })

module _ (layer : List ℕ) (m : ℕ) where
  abbrev new : List ℕ
  new = layer ++ m ∷ []

  pub layer_before : (j : ℕ) → j < length layer → get_or new j 0 ≡ get_or layer j 0
  layer_before j h = get_or_append_left layer (m ∷ []) 0 j h

  pub layer_last : get_or new (length layer) 0 ≡ m
  layer_last = get_or_push layer m 0 (length layer) refl

  kept : (number : ℕ) (row : List ℕ) → IsRow layer number row → All (λ j. (j < length new) × (get_or new j 0 ≡ number)) row
  kept number row r =
      All-weaker (λ j. (j < length layer) × (get_or layer j 0 ≡ number)) (λ j. (j < length new) × (get_or new j 0 ≡ number))
      (λ j h. (omega (arith, length_push layer m, h.0), layer_before j h.0 ∙ h.1)) row r.members

  -- the row of another layer stays
  pub row_other : (number : ℕ) (row : List ℕ) → number ≢ m → IsRow layer number row → IsRow new number row
  row_other number row ne r = record {
    some = r.some;
    members = kept number row r;
    rising = r.rising;
    whole = λ j h e. elim (cases_lt j (length layer)) [
      | inl old ↦ r.whole j old (sym (layer_before j old) ∙ e)
      | inr last ↦
          let at : j ≡ length layer = omega (arith, length_push layer m) in
          absurd (ne (sym e ∙ ap (λ q. get_or new q 0) at ∙ layer_last))
    ];
  }

  -- the product goes behind those of its layer
  pub row_more : (row : List ℕ) → IsRow layer m row → IsRow new m (row ++ length layer ∷ [])
  row_more row r = record {
    some = omega (arith, length_push row (length layer));
    members = All-push (λ j. (j < length new) × (get_or new j 0 ≡ m)) row (length layer) (kept m row r) (omega (arith, length_push layer m), layer_last);
    rising = rising-push row (length layer) r.rising (All-weaker (λ j. (j < length layer) × (get_or layer j 0 ≡ m)) (λ j. j < length layer) (λ j h. h.0) row r.members);
    whole = λ j h e. elim (cases_lt j (length layer)) [
      | inl old ↦ Contains-append_left row (length layer ∷ []) j (r.whole j old (sym (layer_before j old) ∙ e))
      | inr last ↦
          let at : length layer ≡ j = omega (arith, length_push layer m) in
          subst (Contains (row ++ length layer ∷ [])) at (Contains-push row (length layer))
    ];
  }

  -- the first product of a layer
  pub row_new : All (λ k. k < m) layer → IsRow new m (length layer ∷ [])
  row_new low = record {
    some = omega arith;
    members = All-push (λ j. (j < length new) × (get_or new j 0 ≡ m)) [] (length layer) (λ k d h. absurd (omega arith)) (omega (arith, length_push layer m), layer_last);
    rising = λ k h. absurd (omega arith);
    whole = λ j h e. elim (cases_lt j (length layer)) [
      | inl old ↦
          let under = low j 0 old in
          let same = layer_before j old in
          absurd (omega arith)
      | inr last ↦
          let at : length layer ≡ j = omega (arith, length_push layer m) in
          subst (Contains (length layer ∷ [])) at (Contains-push [] (length layer))
    ];
  }

-- the product goes above so many layers
module _ (layer : List ℕ) (rows : List (List ℕ)) (filled : IsFilled layer rows) (below : ℕ) where
  pub filled_behind : (new : List (List ℕ)) → below < length rows → new ≡ set rows below (get_or rows below [] ++ length layer ∷ []) → IsFilled (layer ++ (below + 1) ∷ []) new
  filled_behind new h e =
      let put = get_or rows below [] ++ length layer ∷ [] in
      subst (IsFilled (layer ++ (below + 1) ∷ [])) (sym e)
      (record {
        numbers = All-push (λ k. (1 ≤ k) × (k ≤ length (set rows below put))) layer (below + 1)
            (All-weaker (λ k. (1 ≤ k) × (k ≤ length rows)) (λ k. (1 ≤ k) × (k ≤ length (set rows below put))) (λ k n. (n.0, omega (arith, length-set rows below put, n.1))) layer filled.numbers)
            (omega arith, omega (arith, length-set rows below put));
        row = λ k l. elim (cases_eq k below) [
          | inl same ↦
              subst (λ q. IsRow (layer ++ (below + 1) ∷ []) (q + 1) (get_or (set rows below put) q [])) (sym same)
              (subst (IsRow (layer ++ (below + 1) ∷ []) (below + 1)) (sym (get_or-set_same rows below put [] h))
              (row_more layer (below + 1) (get_or rows below []) (filled.row below h)))
          | inr other ↦
              subst (IsRow (layer ++ (below + 1) ∷ []) (k + 1)) (sym (get_or-set_other rows below k put [] other))
              (row_other layer (below + 1) (k + 1) (get_or rows k []) (λ q. other (omega arith)) (filled.row k (omega (arith, length-set rows below put))))
        ];
      })

  pub filled_above : (new : List (List ℕ)) → below ≡ length rows → new ≡ rows ++ (length layer ∷ []) ∷ [] → IsFilled (layer ++ (below + 1) ∷ []) new
  filled_above new h e =
      let row = length layer ∷ [] in
      let size : length (rows ++ row ∷ []) ≡ below + 1 = length_push rows row ∙ ap (λ q. q + 1) (sym h) in
      subst (IsFilled (layer ++ (below + 1) ∷ [])) (sym e)
      (record {
        numbers = All-push (λ k. (1 ≤ k) × (k ≤ length (rows ++ row ∷ []))) layer (below + 1)
            (All-weaker (λ k. (1 ≤ k) × (k ≤ length rows)) (λ k. (1 ≤ k) × (k ≤ length (rows ++ row ∷ []))) (λ k n. (n.0, omega (arith, size, n.1, h))) layer filled.numbers)
            (omega arith, omega (arith, size));
        row = λ k l. elim (cases_eq k below) [
          | inl same ↦
              subst (λ q. IsRow (layer ++ (below + 1) ∷ []) (q + 1) (get_or (rows ++ row ∷ []) q [])) (sym same)
              (subst (IsRow (layer ++ (below + 1) ∷ []) (below + 1)) (sym (get_or_push rows row [] below (sym h)))
              (row_new layer (below + 1) (All-weaker (λ k. (1 ≤ k) × (k ≤ length rows)) (λ k. k < below + 1) (λ k n. omega (arith, n.1, h)) layer filled.numbers)))
          | inr other ↦
              let inside : k < length rows = omega (arith, size) in
              subst (IsRow (layer ++ (below + 1) ∷ []) (k + 1)) (sym (get_or_append_left rows (row ∷ []) [] k inside))
              (row_other layer (below + 1) (k + 1) (get_or rows k []) (λ q. other (omega arith)) (filled.row k inside))
        ];
      })

  -- the new row stands behind the others, or above them
  pub filled_more : (new : List (List ℕ)) → below ≤ length rows → (below < length rows → new ≡ set rows below (get_or rows below [] ++ length layer ∷ [])) → (below ≡ length rows → new ≡ rows ++ (length layer ∷ []) ∷ []) → IsFilled (layer ++ (below + 1) ∷ []) new
  filled_more new h behind above = elim (cases_lt below (length rows)) [
    | inl old ↦ filled_behind new old (behind old)
    | inr top ↦ let at : below ≡ length rows = omega arith in filled_above new at (above at)
  ]

-- a product adds one row at most
pub rows_more : (rows new : List (List ℕ)) (below : ℕ) (row first : List ℕ) → below ≤ length rows → (below < length rows → new ≡ set rows below row) → (below ≡ length rows → new ≡ rows ++ first ∷ []) → length new ≤ length rows + 1
rows_more rows new below row first h behind above = elim (cases_lt below (length rows)) [
  | inl old ↦ omega (arith, ap length (behind old), length-set rows below row)
  | inr top ↦
      let at : below ≡ length rows = omega arith in
      omega (arith, ap length (above at), length_push rows first)
]

-- and keeps the others
pub rows_grow : (rows new : List (List ℕ)) (below : ℕ) (row first : List ℕ) → below ≤ length rows → (below < length rows → new ≡ set rows below row) → (below ≡ length rows → new ≡ rows ++ first ∷ []) → (length rows ≤ length new) × (below < length new)
rows_grow rows new below row first h behind above = elim (cases_lt below (length rows)) [
  | inl old ↦
      let same : length new ≡ length rows = ap length (behind old) ∙ length-set rows below row in
      (omega arith, omega arith)
  | inr top ↦
      let at : below ≡ length rows = omega arith in
      let more : length new ≡ length rows + 1 = ap length (above at) ∙ length_push rows first in
      (omega arith, omega arith)
]

-- all products of the rows are earlier than the next
pub earlier_rows : (layer : List ℕ) (rows : List (List ℕ)) → IsFilled layer rows → All (All (λ j. j < length layer)) rows
earlier_rows layer rows filled =
    All-from_get_or (All (λ j. j < length layer)) rows []
    (λ k h. All-weaker (λ j. (j < length layer) × (get_or layer j 0 ≡ k + 1)) (λ j. j < length layer) (λ j m. m.0) (get_or rows k []) (filled.row k h).members)

-- and each row has one
pub rows_within : (layer before : List ℕ) (rows : List (List ℕ)) → IsFilled layer rows → length layer ≡ length before → All (λ row. (0 < length row) × All (λ j. j < length before) row) rows
rows_within layer before rows filled same =
    All-from_get_or (λ row. (0 < length row) × All (λ j. j < length before) row) rows []
    (λ k h. ((filled.row k h).some, All-weaker (λ j. (j < length layer) × (get_or layer j 0 ≡ k + 1)) (λ j. j < length before) (λ j m. omega (arith, m.0)) (get_or rows k []) (filled.row k h).members))
