-- The entries of a history with their slices, one after another.
use Rattle.std.proofs.Common.{◌≡◌, ℕ, zero, suc, ◌+◌, ◌<◌, List, [], ◌∷◌, ◌++◌, length, refl, ap, sym, ◌∙◌, arith, append_assoc, append-nil, length-append}
use Rattle.std.specs.Prelude.{slice_get, Some}
use Rattle.std.proofs.lemmas.Option.{slice_get-map, same_Some}
use Rattle.std.proofs.lemmas.List.{map-append}
use Rattle.board_core.specs.declared.Entry.{Entry}
use Rattle.board_core.specs.History.{History}
use Rattle.board_core.specs.Legal.{BoardJob}
use Rattle.slice_write.specs.Slices.{Sliced, with_slice, sliced_after, sliced, slices_of, slice_of, entries_of}

after_extends : (j : BoardJob) (done : List Sliced) (es : History) → (rest : List Sliced) × (sliced_after j done es ≡ done ++ rest)
after_extends j done [] = ([], sym (append-nil done))
after_extends j done (e ∷ es) =
    let (rest, is) = after_extends j (done ++ with_slice j done e ∷ []) es in
    (with_slice j done e ∷ rest, is ∙ append_assoc done (with_slice j done e ∷ []) rest)

-- the entry at a place has the slice that it has behind those before it
after_split : (j : BoardJob) (done : List Sliced) (es : History) (n : ℕ) (e : Entry) → slice_get es n ≡ Some e
    → (before : List Sliced) × (rest : List Sliced) × (sliced_after j done es ≡ before ++ with_slice j before e ∷ rest) × (length before ≡ length done + n)
after_split j done [] n e at = cc
after_split j done (x ∷ es) zero e at =
    let here : x ≡ e = same_Some x e at in
    let (rest, is) = after_extends j (done ++ with_slice j done x ∷ []) es in
    (done, rest, is ∙ append_assoc done (with_slice j done x ∷ []) rest ∙ ap (λ y. done ++ with_slice j done y ∷ rest) here, omega arith)
after_split j done (x ∷ es) (suc n) e at =
    let (before, rest, is, long) = after_split j (done ++ with_slice j done x ∷ []) es n e at in
    (before, rest, is, omega (arith, long, length-append done (with_slice j done x ∷ [])))

pub sliced_split : (j : BoardJob) (h : History) (n : ℕ) (e : Entry) → slice_get h n ≡ Some e
    → (before : List Sliced) × (rest : List Sliced) × (sliced j h ≡ before ++ with_slice j before e ∷ rest) × (length before ≡ n)
unfolding sliced
sliced_split j h n e at =
    let (before, rest, is, long) = after_split j [] h n e at in
    (before, rest, is, omega (arith, long))

after_append : (j : BoardJob) (done : List Sliced) (es : History) (e : Entry) → sliced_after j done (es ++ e ∷ []) ≡ sliced_after j done es ++ with_slice j (sliced_after j done es) e ∷ []
after_append j done [] e = refl
after_append j done (x ∷ es) e = after_append j (done ++ with_slice j done x ∷ []) es e

-- one entry more
pub sliced_more : (j : BoardJob) (h : History) (e : Entry) → sliced j (h ++ e ∷ []) ≡ sliced j h ++ (e, slice_of j (sliced j h) e) ∷ []
unfolding sliced
sliced_more j h e = after_append j [] h e

pub sliced_none : (j : BoardJob) → sliced j [] ≡ []
unfolding sliced
sliced_none j = refl

after_entries : (j : BoardJob) (done : List Sliced) (es : History) → entries_of (sliced_after j done es) ≡ entries_of done ++ es
after_entries j done [] = sym (append-nil (entries_of done))
after_entries j done (e ∷ es) =
    after_entries j (done ++ with_slice j done e ∷ []) es
    ∙ ap (λ l. l ++ es) (map-append (λ x. x.0) done (with_slice j done e ∷ []))
    ∙ append_assoc (entries_of done) (e ∷ []) es

-- the entries are those of the history
pub sliced_entries : (j : BoardJob) (h : History) → entries_of (sliced j h) ≡ h
unfolding sliced
sliced_entries j h = after_entries j [] h

pub get_in_left : {X : Type 0} (xs ys : List X) (n : ℕ) → n < length xs → slice_get (xs ++ ys) n ≡ slice_get xs n
get_in_left [] ys n low = absurd (omega arith)
get_in_left (x ∷ xs) ys zero low = refl
get_in_left (x ∷ xs) ys (suc n) low = get_in_left xs ys n (omega arith)

pub get_at : {X : Type 0} (xs ys : List X) (x : X) (n : ℕ) → length xs ≡ n → slice_get (xs ++ x ∷ ys) n ≡ Some x
get_at [] ys x zero long = refl
get_at [] ys x (suc n) long = absurd (omega (arith, long))
get_at (y ∷ xs) ys x zero long = absurd (omega (arith, long))
get_at (y ∷ xs) ys x (suc n) long = get_at xs ys x n (omega (arith, long))

-- the slice of the entry at a place, behind those before it
pub slice_at : (j : BoardJob) (h : History) (n slice : ℕ) (e : Entry) (before rest : List Sliced) → sliced j h ≡ before ++ with_slice j before e ∷ rest → length before ≡ n
    → slice_get (slices_of j h) n ≡ Some slice → slice ≡ slice_of j before e
slice_at j h n slice e before rest is long at =
    let there : slice_get (sliced j h) n ≡ Some (with_slice j before e) = ap (λ l. slice_get l n) is ∙ get_at before rest (with_slice j before e) n long in
    let mapped : slice_get (slices_of j h) n ≡ Some (slice_of j before e) = slice_get-map (λ (x : Sliced). x.1) (sliced j h) n ∙ (rw there refl) in
    same_Some slice (slice_of j before e) (sym at ∙ mapped)

-- of two places the entry at the first stands, with its slice, before that at the second
pub earlier : (j : BoardJob) (h : History) (m n slice : ℕ) (d e : Entry) → m < n → slice_get h m ≡ Some d → slice_get (slices_of j h) m ≡ Some slice → slice_get h n ≡ Some e
    → (before : List Sliced) × (rest : List Sliced) × (sliced j h ≡ before ++ with_slice j before e ∷ rest) × (length before ≡ n) × (slice_get before m ≡ Some (d, slice))
earlier j h m n slice d e low at has later =
    let (front, back, split, size) = sliced_split j h m d at in
    let (before, rest, is, long) = sliced_split j h n e later in
    let its : slice ≡ slice_of j front d = slice_at j h m slice d front back split size has in
    let there : slice_get (sliced j h) m ≡ Some (d, slice) = ap (λ l. slice_get l m) split ∙ get_at front back (with_slice j front d) m size ∙ ap (λ k. Some (d, k)) (sym its) in
    let inside : m < length before = omega (arith, long) in
    (before, rest, is, long, sym (get_in_left before (with_slice j before e ∷ rest) m inside) ∙ ap (λ l. slice_get l m) (sym is) ∙ there)
