-- Lines of layers, and the products of each layer.
use Rattle.std.proofs.Common.{◌≡◌, ℕ, ◌+◌, ◌<◌, Bool, true, false, cond, ◌==◌, List, [], ◌∷◌, ◌++◌, length, get_or, set, take, refl, ap, sym, ◌∙◌, arith, append_assoc, append-nil, eq-eqb, replicate}
use Rattle.std.specs.List.{filter, range_with_len}
use Rattle.std.proofs.lemmas.Bool.{ne_eqb, eqb-true, eqb-false}
use Rattle.std.proofs.lemmas.List.{ext_get_or, length-take-le, map-id, take_more, get_or-set_other, get_or-replicate}
use Rattle.std.proofs.lemmas.Grind.{get_or-set_at}
use Rattle.std.proofs.lemmas.List.FromFn.{filter_of_map_range_with_len_more, get_or-map-range_with_len, length-map-range_with_len}
use Rattle.tool_top.specs.Layers.{layer_line, layer_lines, members_below, rows_of}

-- ---- lines

lines_more : (k j : ℕ) (rows : List (List ℕ)) (row : List ℕ) → k + length rows ≡ j → layer_lines k (rows ++ row ∷ []) ≡ layer_lines k rows ++ layer_line j row
lines_more k j [] row e = append-nil (layer_line k row) ∙ ap (λ n. layer_line n row) (let same : k ≡ j = omega arith in same)
lines_more k j (r ∷ rows) row e =
    ap (λ t. layer_line k r ++ t) (lines_more (k + 1) j rows row (omega arith)) ∙ sym (append_assoc (layer_line k r) (layer_lines (k + 1) rows) (layer_line j row))

pub lines_taken : (rows : List (List ℕ)) (i : ℕ) → i < length rows → layer_lines 1 (take (i + 1) rows) ≡ layer_lines 1 (take i rows) ++ layer_line (i + 1) (get_or rows i [])
lines_taken rows i l =
    ap (layer_lines 1) (take_more rows i [] l) ∙ lines_more 1 (i + 1) (take i rows) (get_or rows i []) (omega (arith, length-take-le i rows (omega arith)))

-- ---- the products of each layer

-- one product more
members_more : (layer : List ℕ) (n k : ℕ) → members_below layer (n + 1) k ≡ members_below layer n k ++ cond (get_or layer n 0 == k) (n ∷ []) []
members_more layer n k =
    ap (filter in_layer) (sym (map-id (range_with_len 0 (n + 1)))) ∙ filter_of_map_range_with_len_more in_layer (λ p. p) 0 n n (omega arith)
    ∙ ap (λ ps. filter in_layer ps ++ cond (get_or layer n 0 == k) (n ∷ []) []) (map-id (range_with_len 0 n))
  where
    in_layer : ℕ → Bool
    in_layer p = get_or layer p 0 == k

abbrev pub AreRows : List ℕ → ℕ → ℕ → List (List ℕ) → Type 0
AreRows layer count n rows = (k : ℕ) → k < count → get_or rows k [] ≡ members_below layer n (k + 1)

-- nothing yet
pub empty_rows : (layer : List ℕ) (count : ℕ) → AreRows layer count 0 (replicate count [])
empty_rows layer count k l = get_or-replicate count k [] [] l

-- product n goes to the row of its layer
pub row_more : (layer : List ℕ) (count n k : ℕ) (rows : List (List ℕ)) (row : List ℕ) → length rows ≡ count → AreRows layer count n rows → get_or layer n 0 ≡ k + 1 → k < count → row ≡ get_or rows k [] ++ n ∷ [] → AreRows layer count (n + 1) (set rows k row)
row_more layer count n k rows row size are is below_count below j l = go (j == k) refl
  where
    go : (b : Bool) → (j == k) ≡ b → get_or (set rows k row) j [] ≡ members_below layer (n + 1) (j + 1)
    go true e =
        let same : j ≡ k = eqb-true j k e in
        get_or-set_at rows k j row [] same (omega arith) ∙ below
        ∙ ap (λ ps. ps ++ n ∷ []) (are k below_count)
        ∙ sym (members_more layer n (j + 1) ∙ ap (λ t. members_below layer n (j + 1) ++ cond t (n ∷ []) []) (eq-eqb (get_or layer n 0) (j + 1) (omega arith)) ∙ ap (λ i. members_below layer n (i + 1) ++ n ∷ []) same)
    go false e =
        let other : j ≡ k → ⊥ = eqb-false j k e in
        let differs : get_or layer n 0 ≡ j + 1 → ⊥ = λ x. other (omega arith) in
        get_or-set_other rows k j row [] other ∙ are j l
        ∙ sym (members_more layer n (j + 1) ∙ ap (λ t. members_below layer n (j + 1) ++ cond t (n ∷ []) []) (ne_eqb (get_or layer n 0) (j + 1) differs) ∙ append-nil (members_below layer n (j + 1)))

pub whole_rows : (layer : List ℕ) (count : ℕ) (rows : List (List ℕ)) → length rows ≡ count → AreRows layer count (length layer) rows → rows ≡ rows_of layer count
whole_rows layer count rows size are =
    ext_get_or [] rows (rows_of layer count) (size ∙ sym (length-map-range_with_len (members_below layer (length layer)) 1 count))
    (λ k l. are k (omega arith) ∙ sym (get_or-map-range_with_len (members_below layer (length layer)) 1 count k (k + 1) [] (omega arith) (omega arith)))
