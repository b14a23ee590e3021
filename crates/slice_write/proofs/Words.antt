-- The words of a slice's line, and the pages' texts.
use Rattle.std.proofs.Common.{◌≡◌, ℕ, zero, suc, ◌+◌, ◌-◌, ◌<◌, Bool, true, false, List, [], ◌∷◌, ◌++◌, length, get_or, refl, ap, sym, ◌∙◌, arith, append_assoc, append-nil}
use Rattle.std.specs.Prelude.{filter, flat_map, decimal, if◌then◌else◌}
use Rattle.std.proofs.lemmas.List.Elements.{filter-append}
use Rattle.std.proofs.lemmas.Grind.{flat_map-append}
use Rattle.std.specs.Prelude.{Some, None, map, codes}
use Rattle.std.proofs.lemmas.Option.{slice_get-get_or}
use Rattle.patch_layout.specs.Grid.{Grid}
use Rattle.board_core.specs.History.{History}
use Rattle.slice_write.specs.declared.page.Page.{Page}
use Rattle.slice_write.specs.Slices.{Sliced, is_step_of, any_of, upto, greatest}
use Rattle.slice_write.specs.Pictures.{slice_line, slice_text, slices_text, stepping, picture, holder, in_slice}
use Rattle.slice_write.specs.inside.Marks.{mark_at}
use Rattle.slice_write.specs.inside.Pages.{PageIs, PagesAre, AreNarrow, stepping_by, page_text, page_at, pages_text}
use Rattle.slice_write.proofs.Drawn.{picture_agree}
use Rattle.slice_write.proofs.Pieces.{upto_suc}

abbrev pub word : ℕ → List ℕ
word f = 32 ∷ decimal f

words_more : (p : ℕ → Bool) (n : ℕ) → flat_map word (filter p (upto (n + 1))) ≡ flat_map word (filter p (upto n)) ++ (if p n then word n else [])
words_more p n =
    ap (λ l. flat_map word (filter p l)) (upto_suc n) ∙ ap (flat_map word) (filter-append p (upto n) (n ∷ [])) ∙ flat_map-append word (filter p (upto n)) (filter p (n ∷ [])) ∙ ap (λ l. flat_map word (filter p (upto n)) ++ l) (go (p n))
  where
    go : (b : Bool) → flat_map word (if b then (n ∷ []) else []) ≡ (if b then word n else [])
    go true = append-nil (word n)
    go false = refl

pub step_word : (start was now : List ℕ) (steps : List Bool) (f : ℕ) → get_or steps f false ≡ true → was ≡ start ++ flat_map word (filter (λ n. get_or steps n false) (upto f)) → now ≡ (was ++ 32 ∷ []) ++ decimal f
    → now ≡ start ++ flat_map word (filter (λ n. get_or steps n false) (upto (f + 1)))
step_word start was now steps f steps_on so_far is =
    let p : ℕ → Bool = λ n. get_or steps n false in
    is ∙ append_assoc was (32 ∷ []) (decimal f) ∙ ap (λ l. l ++ word f) so_far ∙ append_assoc start (flat_map word (filter p (upto f))) (word f)
    ∙ ap (λ l. start ++ l) (sym (words_more p f ∙ ap (λ b. flat_map word (filter p (upto f)) ++ (if b then word f else [])) steps_on))

pub step_none : (start was now : List ℕ) (steps : List Bool) (f : ℕ) → get_or steps f false ≡ false → was ≡ start ++ flat_map word (filter (λ n. get_or steps n false) (upto f)) → now ≡ was
    → now ≡ start ++ flat_map word (filter (λ n. get_or steps n false) (upto (f + 1)))
step_none start was now steps f rests so_far is =
    let p : ℕ → Bool = λ n. get_or steps n false in
    is ∙ so_far ∙ ap (λ l. start ++ l) (sym (words_more p f ∙ ap (λ b. flat_map word (filter p (upto f)) ++ (if b then word f else [])) rests ∙ append-nil (flat_map word (filter p (upto f)))))

pub line_parts : (start s d f e : List ℕ) → (((start ++ s) ++ d) ++ f) ++ e ≡ start ++ (((s ++ d) ++ f) ++ e)
line_parts start s d f e = cc (append_assoc start s d, append_assoc start (s ++ d) f, append_assoc start ((s ++ d) ++ f) e)

-- the text of a page by its parts
pub page_parts : (g : Grid) (n : ℕ) (page : Page) (bytes : List ℕ) → page.claims ≡ true → bytes ≡ picture g (mark_at page.marks.items) → page_text g n page ≡ slice_line n (stepping_by page.steps) ++ bytes
page_parts g n page bytes claims is = ap (λ b. slice_line n (stepping_by page.steps) ++ (if b then picture g (mark_at page.marks.items) else [])) claims ∙ ap (λ l. slice_line n (stepping_by page.steps) ++ l) (sym is)

pub page_bare : (g : Grid) (n : ℕ) (page : Page) → page.claims ≡ false → page_text g n page ≡ slice_line n (stepping_by page.steps)
page_bare g n page claims = ap (λ b. slice_line n (stepping_by page.steps) ++ (if b then picture g (mark_at page.marks.items) else [])) claims ∙ append-nil (slice_line n (stepping_by page.steps))

pub page_here : (g : Grid) (pages : List Page) (n : ℕ) (d : Page) → n + 1 < length pages → page_at g pages n ≡ page_text g (n + 1) (get_or pages (n + 1) d)
page_here g pages n d inside = ap (λ o. elim o [ None ↦ [] | Some page ↦ page_text g (n + 1) page ]) (slice_get-get_or pages (n + 1) d inside)

filter_agree_below : (p q : ℕ → Bool) (n : ℕ) → ((f : ℕ) → f < n → p f ≡ q f) → filter p (upto n) ≡ filter q (upto n)
filter_agree_below p q zero same = refl
filter_agree_below p q (suc n) same =
    filter-append p (upto n) (n ∷ []) ∙ ap (λ l. l ++ filter p (n ∷ [])) (filter_agree_below p q n (λ f low. same f (omega arith)))
    ∙ ap (λ b. filter q (upto n) ++ (if b then (n ∷ []) else [])) (same n (omega arith)) ∙ sym (filter-append q (upto n) (n ∷ []))

-- the page of a slice has its text
page_says : (g : Grid) (n : ℕ) (here : History) (page : Page) → PageIs g here page → page_text g n page ≡ slice_text g n here
page_says g n here page is =
    ap (λ l. slice_line n l ++ (if page.claims then picture g (mark_at page.marks.items) else [])) (filter_agree_below (λ f. get_or page.steps f false) (λ f. any_of (is_step_of f) here) 16 is.steps)
    ∙ ap (λ l. slice_line n (stepping here) ++ (if page.claims then l else [])) (picture_agree g (mark_at page.marks.items) (holder g here) is.marks)
    ∙ ap (λ b. slice_line n (stepping here) ++ (if b then picture g (holder g here) else [])) is.claims

flat_agree_below : (f h : ℕ → List ℕ) (n : ℕ) → ((x : ℕ) → x < n → f x ≡ h x) → flat_map f (upto n) ≡ flat_map h (upto n)
flat_agree_below f h zero same = refl
flat_agree_below f h (suc n) same =
    flat_map-append f (upto n) (n ∷ []) ∙ ap (λ l. l ++ flat_map f (n ∷ [])) (flat_agree_below f h n (λ x low. same x (omega arith))) ∙ ap (λ l. flat_map h (upto n) ++ (l ++ [])) (same n (omega arith)) ∙ sym (flat_map-append h (upto n) (n ∷ []))

some_page : (pages : List Page) → 0 < length pages → Page
some_page [] some = absurd (omega arith)
some_page (x ∷ pages) some = x

pub pages_say : (g : Grid) (done : List Sliced) (last : ℕ) (pages : List Page) → last ≡ greatest (map (λ (e : Sliced). e.1) done) → PagesAre g done last pages → pages_text g last pages ≡ slices_text g done
pages_say g done last pages is are =
    let d = some_page pages (omega (arith, are.count)) in
    let count : length pages - 1 ≡ last = omega (arith, are.count) in
    ap (λ n. ((codes "slices 1 " ++ decimal last) ++ 10 ∷ []) ++ flat_map (page_at g pages) (upto n)) count
    ∙ ap (λ l. ((codes "slices 1 " ++ decimal last) ++ 10 ∷ []) ++ l) (flat_agree_below (page_at g pages) (λ n. slice_text g (n + 1) (in_slice (n + 1) done)) last (λ n low.
    page_here g pages n d (omega (arith, low, are.count)) ∙ page_says g (n + 1) (in_slice (n + 1) done) (get_or pages (n + 1) d) (are.each (n + 1) d (omega arith))))
    ∙ ap (λ l. ((codes "slices 1 " ++ decimal l) ++ 10 ∷ []) ++ flat_map (λ n. slice_text g (n + 1) (in_slice (n + 1) done)) (upto l)) is

pub pages_narrow : (g : Grid) (done : List Sliced) (last : ℕ) (pages : List Page) → PagesAre g done last pages → AreNarrow g pages
pages_narrow g done last pages are = λ n d low. (are.each n d (omega (arith, low, are.count))).narrow
