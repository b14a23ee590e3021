-- Pages, entry by entry.
use Rattle.std.proofs.Common.{◌≡◌, ℕ, zero, suc, ◌+◌, ◌<◌, ◌≤◌, Bool, true, false, ◌==◌, ◌||◌, List, [], ◌∷◌, ◌++◌, length, get_or, set, take, map, refl, ap, sym, ◌∙◌, subst, arith, inl, inr, length-append, eqb-true, get_or-set_same, get_or-set_other, length-set, append-nil}
use Rattle.std.specs.Prelude.{filter, All, Option, Some, None, slice_get, slice_index_or, not, if◌then◌else◌}
use Rattle.std.proofs.lemmas.Bool.{cases_Bool, cases_lt, eqb-false}
use Rattle.std.proofs.lemmas.List.{map-append, get_or_append_left, get_or_push}
use Rattle.std.proofs.lemmas.List.Elements.{filter-append}
use Rattle.patch_layout.specs.Grid.{Grid}
use Rattle.board_core.specs.declared.Entry.{Entry}
use Rattle.board_core.specs.History.{History}
use Rattle.slice_write.specs.declared.page.Page.{Page}
use Rattle.std.proofs.lemmas.Option.{slice_get_within}
use Rattle.std.proofs.lemmas.List.{get_or_past, get_or_at, take_more, length-take-le, length-map}
use Rattle.std.proofs.lemmas.Bool.{true≢false}
use Rattle.std.proofs.lemmas.Fmt.{length-decimal-le}
use Rattle.pauli_product.specs.declared.Letter.TheVariants as letter
use Rattle.pauli_product.specs.Signed.{Signed, letter_at}
use Rattle.patch_layout.specs.Grid.{IsAncilla, tile_of}
use Rattle.patch_layout.specs.declared.layout.Site.{Site}
use Rattle.patch_layout.specs.declared.layout.Site.TheVariants as site
use Rattle.board_core.specs.declared.Noted.{Noted}
use Rattle.board_core.specs.declared.Entry.TheVariants.{Claim, Step}
use Rattle.board_core.specs.History.{entries}
use Rattle.slice_write.specs.declared.marks.Mark.{Mark}
use Rattle.slice_write.specs.Slices.{Sliced, is_step_of, is_among, is_claim_cell, holds_site, is_identity, any_of}
use Rattle.slice_write.specs.Pictures.{in_slice, tile_text, holder, holder_in, is_a_claim}
use Rattle.slice_write.specs.inside.Marks.{mark, mark_at, marked_by, IsNarrow, HasRoom, FewFactories, paired}
use Rattle.slice_write.specs.inside.Pages.{PageIs, PagesAre}
use Rattle.slice_write.proofs.Among.{or_true, or_false, or_assoc, all_among, among_all}

pub page_push : (g : Grid) (xs : List Page) (x : Page) (m : ℕ) → length xs ≡ m → ((n : ℕ) (d : Page) → n < m → PageIs g [] (get_or xs n d)) → PageIs g [] x → (n : ℕ) (d : Page) → n < m + 1 → PageIs g [] (get_or (xs ++ x ∷ []) n d)
page_push g xs x m long each this n d low = elim (cases_lt n m) [
  | inl below ↦ (let P : Page → Type 0 = λ y. PageIs g [] y in subst P (sym (get_or_append_left xs (x ∷ []) d n (omega (arith, long)))) (each n d below))
  | inr past ↦
      let e : length xs ≡ n = omega (arith, long) in
      (let P : Page → Type 0 = λ y. PageIs g [] y in subst P (sym (get_or_push xs x d n e)) this)
]

any_more : {X : Type 0} (t : X → Bool) (xs : List X) (x : X) → any_of t (xs ++ x ∷ []) ≡ (any_of t xs || t x)
any_more t [] x = or_false (t x)
any_more t (y ∷ xs) x = ap (λ b. t y || b) (any_more t xs x) ∙ or_assoc (t y) (any_of t xs) (t x)

-- the first of two that is there
abbrev pub rather : Option ℕ → Option ℕ → Option ℕ
rather a b = elim a [ None ↦ b | Some p ↦ Some p ]

rather_assoc : (a b c : Option ℕ) → rather (rather a b) c ≡ rather a (rather b c)
rather_assoc None b c = refl
rather_assoc (Some p) b c = refl

rather_none : (a : Option ℕ) → rather a None ≡ a
rather_none None = refl
rather_none (Some p) = refl

holder_more : (g : Grid) (here : History) (e : Entry) (c : ℕ) → holder g (here ++ e ∷ []) c ≡ rather (holder_in g c e) (holder g here c)
holder_more g [] e c = sym (rather_none (holder_in g c e))
holder_more g (x ∷ here) e c = ap (λ o. rather o (holder_in g c x)) (holder_more g here e c) ∙ rather_assoc (holder_in g c e) (holder g here c) (holder_in g c x)

mark_append : (ms ns : List Mark) (c : ℕ) → mark_at (ms ++ ns) c ≡ rather (mark_at ns c) (mark_at ms c)
mark_append [] ns c = sym (rather_none (mark_at ns c))
mark_append (m ∷ ms) ns c = ap (λ o. rather o (marked_by m c)) (mark_append ms ns c) ∙ rather_assoc (mark_at ns c) (mark_at ms c) (marked_by m c)

mark_held : (p : ℕ) (held : List ℕ) (c : ℕ) → mark_at (map (mark p) held) c ≡ (if is_among held c then Some p else None)
mark_held p [] c = refl
mark_held p (d ∷ held) c = ap (λ o. rather o (marked_by (mark p d) c)) (mark_held p held c) ∙ go (d == c) (is_among held c)
  where
    go : (a b : Bool) → rather (if b then Some p else None) (if a then Some p else None) ≡ (if a || b then Some p else None)
    go true true = refl
    go true false = refl
    go false true = refl
    go false false = refl

-- a claim's cells aren't too wide
claim_narrow : (g : Grid) (axis : Signed) (through : Option ℕ) (cells : List ℕ) (c : ℕ) → All (IsAncilla g) cells → FewFactories g → length axis.letters ≤ 1024 → is_claim_cell g axis through cells c ≡ true
    → (c < length g.sites) × (length (tile_text (tile_of (slice_get g.sites c))) ≤ 6)
unfolding is_claim_cell
claim_narrow g axis through cells c ancilla few qubits holds = elim (cases_Bool (is_among cells c)) [
  | inl among ↦
      let at : IsAncilla g c = among_all (IsAncilla g) cells c ancilla among in
      (slice_get_within g.sites c site.Ancilla at, (let P : Option Site → Type 0 = λ o. length (tile_text (tile_of o)) ≤ 6 in subst P (sym at) (omega arith)))
  | inr other ↦ go (slice_get g.sites c) refl (ap (λ b. b || holds_site axis through (slice_get g.sites c)) (sym other) ∙ holds)
]
  where
    letter_below : (q : ℕ) → not (is_identity (letter_at axis q)) ≡ true → q < length axis.letters
    letter_below q e = elim (cases_lt q (length axis.letters)) [
      | inl below ↦ below
      | inr past ↦ absurd (true≢false (sym e ∙ ap (λ l. not (is_identity l)) (get_or_past axis.letters q letter.I past)))
    ]

    go : (o : Option Site) → slice_get g.sites c ≡ o → holds_site axis through o ≡ true → (c < length g.sites) × (length (tile_text (tile_of o)) ≤ 6)
    go None e f = absurd (true≢false (sym f))
    go (Some site.Ancilla) e f = absurd (true≢false (sym f))
    go (Some site.Wall) e f = absurd (true≢false (sym f))
    go (Some (site.Patch q level)) e f =
        let low : q < length axis.letters = letter_below q f in
        (slice_get_within g.sites c (site.Patch q level) e, omega (arith, length-decimal-le 4 q (omega arith) (omega (arith, low, qubits)) (omega (arith, low, qubits))))
    go (Some (site.Port h level store)) e f =
        let low : h < 16 = few h store (c, level, e) in
        (slice_get_within g.sites c (site.Port h level store) e, omega (arith, length-decimal-le 2 h (omega arith) (omega (arith, low)) (omega (arith, low))))

narrow_marks : (g : Grid) (p : ℕ) (ms : List Mark) (held : List ℕ) → All (IsNarrow g) ms → All (λ c. IsNarrow g (mark p c)) held → All (IsNarrow g) (ms ++ map (mark p) held)
narrow_marks g p [] [] all each k d h = absurd (omega arith)
narrow_marks g p [] (c ∷ held) all each zero d h = each 0 c (omega arith)
narrow_marks g p [] (c ∷ held) all each (suc k) d h = narrow_marks g p [] held all (λ i e low. each (suc i) e (omega arith)) k d (omega arith)
narrow_marks g p (m ∷ ms) held all each zero d h = all 0 m (omega arith)
narrow_marks g p (m ∷ ms) held all each (suc k) d h = narrow_marks g p ms held (λ i e low. all (suc i) e (omega arith)) each k d (omega arith)

pub page_claim : (g : Grid) (here : History) (was now : Page) (held : List ℕ) (e : Entry) (p : ℕ) (axis : Signed) (through state : Option ℕ) (cells : List ℕ) → e ≡ Claim p axis through state cells → HasRoom g e → FewFactories g → length axis.letters ≤ 1024
    → ((c : ℕ) → is_among held c ≡ is_claim_cell g axis through cells c) → now.steps ≡ was.steps → now.claims ≡ true → now.marks.items ≡ was.marks.items ++ map (mark p) held
    → PageIs g here was → PageIs g (here ++ e ∷ []) now
page_claim g here was now held e p axis through state cells entry room few qubits same steps claims marks page =
    let P : Entry → Type 0 = λ x. HasRoom g x in
    let (small, ancilla) = subst P entry room in
    let Q : Entry → Type 0 = λ x. PageIs g (here ++ x ∷ []) now in
    let claim = Claim p axis through state cells in
    subst Q (sym entry) (record {
      count = ap length steps ∙ page.count;
      steps = λ f low. ap (λ l. slice_index_or l f false) steps ∙ page.steps f low ∙ sym (any_more (is_step_of f) here claim ∙ or_false (any_of (is_step_of f) here));
      claims = claims ∙ sym (any_more is_a_claim here claim ∙ or_true (any_of is_a_claim here));
      marks = λ c. ap (λ l. mark_at l c) marks ∙ mark_append was.marks.items (map (mark p) held) c ∙ ap (λ o. rather o (mark_at was.marks.items c)) (mark_held p held c ∙ ap (λ b. if b then Some p else None) (same c))
          ∙ ap (rather (holder_in g c claim)) (page.marks c) ∙ sym (holder_more g here claim c);
      narrow = (let R : List Mark → Type 0 = λ l. All (IsNarrow g) l in subst R (sym marks) (narrow_marks g p was.marks.items held page.narrow (all_among (λ c. IsNarrow g (mark p c)) held (λ c among.
          let (inside, wide) = claim_narrow g axis through cells c ancilla few qubits (sym (same c) ∙ among) in
          record { inside = inside; tile = wide; product = small }))));
    })

pub page_step : (g : Grid) (here : History) (was now : Page) (e : Entry) (f : ℕ) → e ≡ Step f → HasRoom g e → now.steps ≡ set was.steps f true → now.claims ≡ was.claims → now.marks.items ≡ was.marks.items → PageIs g here was → PageIs g (here ++ e ∷ []) now
page_step g here was now e f entry room steps claims marks page =
    let P : Entry → Type 0 = λ x. HasRoom g x in
    let low : f < 16 = subst P entry room in
    let Q : Entry → Type 0 = λ x. PageIs g (here ++ x ∷ []) now in
    subst Q (sym entry) (record {
      count = ap length steps ∙ length-set was.steps f true ∙ page.count;
      steps = λ h inside. ap (λ l. slice_index_or l h false) steps ∙ elim (cases_Bool (f == h)) [
        | inl same ↦
            let is : f ≡ h = eqb-true f h same in
            ap (λ k. get_or (set was.steps f true) k false) (sym is) ∙ get_or-set_same was.steps f true false (omega (arith, page.count, low))
            ∙ sym (any_more (is_step_of h) here (Step f) ∙ ap (λ b. any_of (is_step_of h) here || b) same ∙ or_true (any_of (is_step_of h) here))
        | inr apart ↦
            get_or-set_other was.steps f h true false (λ e. eqb-false f h apart (sym e)) ∙ page.steps h inside
            ∙ sym (any_more (is_step_of h) here (Step f) ∙ ap (λ b. any_of (is_step_of h) here || b) apart ∙ or_false (any_of (is_step_of h) here))
      ];
      claims = claims ∙ page.claims ∙ sym (any_more is_a_claim here (Step f) ∙ or_false (any_of is_a_claim here));
      marks = λ c. ap (λ l. mark_at l c) marks ∙ page.marks c ∙ sym (holder_more g here (Step f) c);
      narrow = (let R : List Mark → Type 0 = λ l. All (IsNarrow g) l in subst R (sym marks) page.narrow);
    })

pub page_quiet : (g : Grid) (here : History) (page : Page) (e x : Entry) → e ≡ x → ((f : ℕ) → is_step_of f x ≡ false) → is_a_claim x ≡ false → ((c : ℕ) → holder_in g c x ≡ None) → PageIs g here page → PageIs g (here ++ e ∷ []) page
page_quiet g here page e x entry steps claims marks is =
    let Q : Entry → Type 0 = λ y. PageIs g (here ++ y ∷ []) page in
    subst Q (sym entry) (record {
      count = is.count;
      steps = λ f low. is.steps f low ∙ sym (any_more (is_step_of f) here x ∙ ap (λ b. any_of (is_step_of f) here || b) (steps f) ∙ or_false (any_of (is_step_of f) here));
      claims = is.claims ∙ sym (any_more is_a_claim here x ∙ ap (λ b. any_of is_a_claim here || b) claims ∙ or_false (any_of is_a_claim here));
      marks = λ c. is.marks c ∙ sym (holder_more g here x c ∙ ap (λ o. rather o (holder g here c)) (marks c));
      narrow = is.narrow;
    })

-- ---- pages, entry by entry
paired_more : (es : History) (e : Entry) (ns : List ℕ) (n : ℕ) → length es ≡ length ns → paired (es ++ e ∷ []) (ns ++ n ∷ []) ≡ paired es ns ++ (e, n) ∷ []
paired_more [] e [] n long = refl
paired_more [] e (m ∷ ns) n long = absurd (omega (arith, long))
paired_more (x ∷ es) e [] n long = absurd (omega (arith, long))
paired_more (x ∷ es) e (m ∷ ns) n long = ap (λ l. (x, m) ∷ l) (paired_more es e ns n (omega (arith, long)))

pub paired_all : (done : List Sliced) → paired (map (λ (x : Sliced). x.0) done) (map (λ (x : Sliced). x.1) done) ≡ done
paired_all [] = refl
paired_all (x ∷ done) = ap (λ l. x ∷ l) (paired_all done)

in_slice_more : (m : ℕ) (done : List Sliced) (e : Entry) (n : ℕ) → in_slice m (done ++ (e, n) ∷ []) ≡ in_slice m done ++ (if n == m then e ∷ [] else [])
in_slice_more m done e n =
    ap (map (λ (x : Sliced). x.0)) (filter-append (λ (x : Sliced). x.1 == m) done ((e, n) ∷ []))
    ∙ map-append (λ (x : Sliced). x.0) (filter (λ (x : Sliced). x.1 == m) done) (filter (λ (x : Sliced). x.1 == m) ((e, n) ∷ []))
    ∙ ap (λ l. in_slice m done ++ l) (go (n == m))
  where
    go : (b : Bool) → map (λ (x : Sliced). x.0) (if b then ((e, n) ∷ []) else []) ≡ (if b then e ∷ [] else [])
    go true = refl
    go false = refl

-- the pages behind one entry more, of the slice at its place
pub pages_more : (g : Grid) (seen : List Noted) (x : Noted) (slices : List ℕ) (place last : ℕ) (was now : List Page) (page : Page) → place ≡ length seen → place < length slices → get_or slices place 0 ≤ last
    → PagesAre g (paired (entries seen) (take place slices)) last was → ((here : History) → PageIs g here (get_or was (get_or slices place 0) page) → PageIs g (here ++ x.entry ∷ []) page) → now ≡ set was (get_or slices place 0) page
    → PagesAre g (paired (entries (seen ++ x ∷ [])) (take (place + 1) slices)) last now
pages_more g seen x slices place last was now page at inside few are added is =
    let n = get_or slices place 0 in
    let done = paired (entries seen) (take place slices) in
    let long : length (entries seen) ≡ length (take place slices) = omega (arith, length-map seen (λ (y : Noted). y.entry), length-take-le place slices (omega arith), at) in
    let all : paired (entries (seen ++ x ∷ [])) (take (place + 1) slices) ≡ done ++ (x.entry, n) ∷ [] =
    ap (λ l. paired l (take (place + 1) slices)) (map-append (λ (y : Noted). y.entry) seen (x ∷ [])) ∙ ap (paired (entries seen ++ x.entry ∷ [])) (take_more slices place 0 inside) ∙ paired_more (entries seen) x.entry (take place slices) n long in
    let P : List Sliced → Type 0 = λ l. PagesAre g l last now in
    subst P (sym all) (record {
      count = ap length is ∙ length-set was n page ∙ are.count;
      each = λ m d low. each m d low;
    })
  where
    each : (m : ℕ) (d : Page) → m ≤ last → PageIs g (in_slice m (paired (entries seen) (take place slices) ++ (x.entry, get_or slices place 0) ∷ [])) (get_or now m d)
    each m d low =
        let n = get_or slices place 0 in
        let done = paired (entries seen) (take place slices) in
        let Q : History → Type 0 = λ h. PageIs g h (get_or now m d) in
        subst Q (sym (in_slice_more m done x.entry n)) (let R : List Page → Type 0 = λ l. PageIs g (in_slice m done ++ (if n == m then x.entry ∷ [] else [])) (get_or l m d) in
        subst R (sym is) (elim (cases_Bool (n == m)) [
          | inl same ↦
              let e : n ≡ m = eqb-true n m same in
              let here : get_or (set was n page) m d ≡ page = ap (λ k. get_or (set was n page) k d) (sym e) ∙ get_or-set_same was n page d (omega (arith, are.count, few)) in
              let S : Page → Type 0 = λ y. PageIs g (in_slice m done ++ x.entry ∷ []) y in
              let T : Bool → Type 0 = λ b. PageIs g (in_slice m done ++ (if b then x.entry ∷ [] else [])) (get_or (set was n page) m d) in
              let U : ℕ → Type 0 = λ k. PageIs g (in_slice m done) (get_or was k page) in
              subst T (sym same) (subst S (sym here) (added (in_slice m done) (subst U (sym e) (are.each m page low))))
          | inr other ↦
              let ne : n ≡ m → ⊥ = eqb-false n m other in
              let here : get_or (set was n page) m d ≡ get_or was m d = get_or-set_other was n m page d (λ e. ne (sym e)) in
              let S : Page → Type 0 = λ y. PageIs g (in_slice m done ++ []) y in
              let T : Bool → Type 0 = λ b. PageIs g (in_slice m done ++ (if b then x.entry ∷ [] else [])) (get_or (set was n page) m d) in
              let U : History → Type 0 = λ h. PageIs g h (get_or was m d) in
              subst T (sym other) (subst S (sym here) (subst U (sym (append-nil (in_slice m done))) (are.each m d low)))
        ]))

pub room_at : (g : Grid) (history seen rest : List Noted) (x : Noted) → seen ++ x ∷ rest ≡ history → All (HasRoom g) (entries history) → HasRoom g x.entry
room_at g history seen rest x whole all =
    let long : length seen < length (entries history) = omega (arith, ap length whole, length-append seen (x ∷ rest), length-map history (λ (y : Noted). y.entry)) in
    let split : entries history ≡ entries seen ++ x.entry ∷ entries rest = ap entries (sym whole) ∙ map-append (λ (y : Noted). y.entry) seen (x ∷ rest) in
    let here : get_or (entries history) (length seen) x.entry ≡ x.entry = ap (λ l. get_or l (length seen) x.entry) split ∙ get_or_at (entries seen) x.entry (entries rest) x.entry (length seen) (length-map seen (λ (y : Noted). y.entry)) in
    let P : Entry → Type 0 = λ e. HasRoom g e in
    subst P here (all (length seen) x.entry long)
