-- Every ascending region that fits has a certificate.
use Rattle.std.proofs.Common.{◌≡◌, ◌≢◌, ℕ, zero, suc, true, false, ◌+◌, ◌<◌, ◌==◌, inl, inr, ◌⊎◌, length, slice_get, Option, Some, None, is_some, List, [], ◌∷◌, refl, sym, ◌∙◌, subst, arith, Contains, All, AllPairs, if◌then◌else◌}
use Rattle.std.proofs.lemmas.Bool.{cases_lt}
use Rattle.std.proofs.lemmas.Option.{slice_get_within}
use Rattle.pauli_product.specs.Signed.{Signed}
use Rattle.patch_layout.specs.declared.plan.Parent.{Parent}
use Rattle.patch_layout.specs.declared.layout.Side.{Side}
use Rattle.patch_layout.specs.declared.layout.Site.TheVariants as site
use Rattle.patch_layout.specs.Grid.{Grid, Sound, Adjacent, IsAncilla}
use Rattle.patch_layout.specs.Region.{Fit, Touches, OnSide, AreJoined, wanted_sides}
use Rattle.patch_layout.specs.Certificate.{Certified, ParentFits, Each}
use Rattle.patch_layout.specs.Case.{Ascending, case}
use Rattle.patch_layout.specs.inside.Tree.{TouchEach}
use Rattle.patch_layout.proofs.Places.{get_below, same_entry, get_from_Contains, Contains_from_get}
use Rattle.patch_layout.proofs.Looking.{one_place}
use Rattle.patch_layout.proofs.Certifying.{certified_both}
use Rattle.std.proofs.lemmas.List.Elements.{All-contains}
use Rattle.patch_layout.proofs.Orders.{Has, Ordered, order_of}

put : (ℕ → ℕ) → ℕ → ℕ → ℕ → ℕ
put n p x j = if j == p then x else n j

put_here : (n : ℕ → ℕ) (p x : ℕ) → put n p x p ≡ x
unfolding put
put_here n p x = rw (let e : (p == p) ≡ true = grind arith in e)

put_other : (n : ℕ → ℕ) (p x j : ℕ) → j ≢ p → put n p x j ≡ n j
unfolding put
put_other n p x j ne = rw (let e : (j == p) ≡ false = grind arith in e)

-- one of the first n of the list
Among : List ℕ → ℕ → ℕ → Type 0
Among ys n x = (k : ℕ) × (k < n) × (slice_get ys k ≡ Some x)

not_there : (ys : List ℕ) (n x y : ℕ) → (Among ys n x → ⊥) → slice_get ys n ≡ Some y → x ≢ y → Among ys (suc n) x → ⊥
unfolding Among
not_there ys n x y none is off (k, lt, e) = elim (cases_lt k n) [
  | inl lt' ↦ none (k, lt', e)
  | inr ge ↦ let same : k ≡ n = omega arith in off (same_entry ys n x y (subst (λ (z : ℕ). slice_get ys z ≡ Some x) same e) is)
]

seen : (ys : List ℕ) (n x : ℕ) → Among ys n x ⊎ (Among ys n x → ⊥)
unfolding Among
seen ys zero x = inr (λ (k, lt, e). omega arith)
seen ys (suc n) x =
    elim (seen ys n x) [
      | inl (k, lt, e) ↦ inl (k, omega arith, e)
      | inr not' ↦ elim (slice_get ys n) as (λ o. slice_get ys n ≡ o → Among ys (suc n) x ⊎ (Among ys (suc n) x → ⊥)) [
        | None ↦ λ e. inr (λ (k, lt, at'). elim (cases_lt k n) [ inl lt' ↦ not' (k, lt', at') | inr ge ↦ (let same : k ≡ n = omega arith in let f : slice_get ys n ≡ Some x = subst (λ (y : ℕ). slice_get ys y ≡ Some x) same at' in absurd (cc)) ])
        | Some y ↦ λ e. elim (cases_lt x y) [
          | inl less ↦ inr (not_there ys n x y not' e (omega arith))
          | inr ge ↦ elim (cases_lt y x) [
            | inl more ↦ inr (not_there ys n x y not' e (omega arith))
            | inr le ↦ inl (n, omega arith, subst (λ (z : ℕ). slice_get ys n ≡ Some z) (let w : y ≡ x = omega arith in w) e)
          ]
        ]
      ] refl
    ]

-- each of the first n is the first cell, with depth 0, or has a parent among them, one step nearer
record Named (g : Grid) (v : ℕ) (ys : List ℕ) (n : ℕ) (D Q : ℕ → ℕ) : Type 0 where
  named : (x : ℕ) → Among ys n x → ((x ≡ v) × (D x ≡ 0)) ⊎ (Among ys n (Q x) × Adjacent g x (Q x) × (D x ≡ D (Q x) + 1))

more : (ys : List ℕ) (n x : ℕ) → Among ys n x → Among ys (suc n) x
unfolding Among
more ys n x (k, lt, e) = (k, omega arith, e)

last_or : (ys : List ℕ) (n b x : ℕ) → slice_get ys n ≡ Some b → Among ys (suc n) x → Among ys n x ⊎ (b ≡ x)
unfolding Among
last_or ys n b x is (k, lt, e) = elim (cases_lt k n) [
  | inl lt' ↦ inl (k, lt', e)
  | inr ge ↦ let same : k ≡ n = omega arith in inr (same_entry ys n b x is (subst (λ (y : ℕ). slice_get ys y ≡ Some x) same e))
]

among_at : (ys : List ℕ) (n k x : ℕ) → k < n → slice_get ys k ≡ Some x → Among ys n x
unfolding Among
among_at ys n k x lt e = (k, lt, e)

only_first : (ys : List ℕ) (v x : ℕ) → slice_get ys 0 ≡ Some v → Among ys 1 x → x ≡ v
unfolding Among
only_first ys v x root (k, lt, e) = let same : k ≡ 0 = omega arith in same_entry ys 0 x v (subst (λ (y : ℕ). slice_get ys y ≡ Some x) same e) root

names : (g : Grid) (v : ℕ) (ys : List ℕ) → Ordered g v ys → (n : ℕ) → n < length ys → (D : ℕ → ℕ) × (Q : ℕ → ℕ) × Named g v ys (suc n) D Q
names g v ys o zero lt = ((λ x. 0), (λ x. x), record { named = λ x h. inl (only_first ys v x o.root h, refl) })
names g v ys o (suc n) lt =
    let (D, Q, w) = names g v ys o n (omega arith) in
    let (b, is) = get_below ys (suc n) lt in
    let (p, a, le, at', adj) = o.parent n b is in
    let a-in : Among ys (suc n) a = among_at ys (suc n) p a (omega arith) at' in
    elim (seen ys (suc n) b) [
      | inl old ↦ (
        D,
        Q,
        record {
          named = λ x h.
              let before : Among ys (suc n) x = elim (last_or ys (suc n) b x is h) [ inl in' ↦ in' | inr same ↦ subst (λ (y : ℕ). Among ys (suc n) y) same old ] in
              elim (w.named x before) [ inl root ↦ inl root | inr (q, next, step) ↦ inr (more ys (suc n) (Q x) q, next, step) ];
        },
      )
      | inr new ↦
          let apart = λ (x : ℕ) (h : Among ys (suc n) x) (e : x ≡ b). new (subst (λ (y : ℕ). Among ys (suc n) y) e h) in (
            put D b (D a + 1),
            put Q b a,
            record {
              named = λ x h. elim (last_or ys (suc n) b x is h) [
                | inl before ↦
                    let dx = put_other D b (D a + 1) x (apart x before) in
                    let qx = put_other Q b a x (apart x before) in
                    elim (w.named x before) [
                      | inl (same, none) ↦ inl (same, dx ∙ none)
                      | inr (q, next, step) ↦
                          let dq = put_other D b (D a + 1) (Q x) (apart (Q x) q) in
                          let P : ℕ → Type 0 = λ y. Among ys (suc (suc n)) y × Adjacent g x y × (put D b (D a + 1) x ≡ put D b (D a + 1) y + 1) in
                          inr (subst P (sym qx) (more ys (suc n) (Q x) q, next, omega arith))
                    ]
                | inr same ↦
                    let db = put_here D b (D a + 1) in
                    let qb = put_here Q b a in
                    let da = put_other D b (D a + 1) a (apart a a-in) in
                    let P : ℕ → Type 0 = λ y. Among ys (suc (suc n)) y × Adjacent g b y × (put D b (D a + 1) b ≡ put D b (D a + 1) y + 1) in
                    let here : P (put Q b a b) = subst P (sym qb) (more ys (suc n) a a-in, adj, omega arith) in
                    let R : ℕ → Type 0 = λ z. ((z ≡ v) × (put D b (D a + 1) z ≡ 0)) ⊎ (Among ys (suc (suc n)) (put Q b a z) × Adjacent g z (put Q b a z) × (put D b (D a + 1) z ≡ put D b (D a + 1) (put Q b a z) + 1)) in
                    let r : R b = inr here in
                    subst R same r
              ];
            },
          )
    ]

each_more : {A B : Type 0} (R : ℕ → A → B → Type 0) (z : A) (zs : List A) (p : B) (ps : List B) → R zero z p → ((k : ℕ) (c : A) → slice_get zs k ≡ Some c → (q : B) × (slice_get ps k ≡ Some q) × R (suc k) c q)
    → (k : ℕ) (c : A) → slice_get (z ∷ zs) k ≡ Some c → (q : B) × (slice_get (p ∷ ps) k ≡ Some q) × R k c q
each_more R z zs p ps r all zero c e = let same : z ≡ c = (let f : Some z ≡ Some c = e in grind arith) in (p, refl, subst (λ (y : _). R zero y p) same r)
each_more R z zs p ps r all (suc k) c e = all k c e

-- a list with an entry for each
each_one : {A B : Type 0} (R : ℕ → A → B → Type 0) (zs : List A) → ((k : ℕ) (c : A) → slice_get zs k ≡ Some c → (p : B) × R k c p)
    → (ps : List B) × (length ps ≡ length zs) × ((k : ℕ) (c : A) → slice_get zs k ≡ Some c → (p : B) × (slice_get ps k ≡ Some p) × R k c p)
each_one R [] f = ([], refl, λ k c e. absurd (cc))
each_one R (z ∷ zs) f =
    let (p, r) = f zero z refl in
    let (ps, size, all) = each_one (λ k c q. R (suc k) c q) zs (λ k c e. f (suc k) c e) in
    (p ∷ ps, omega arith, each_more R z zs p ps r all)

record Entry (g : Grid) (cells : List ℕ) (v : ℕ) (D : ℕ → ℕ) (k c : ℕ) (p : Parent) : Type 0 where
  depth : p.depth ≡ D c
  parent : ((c ≡ v) × (p.index ≡ k) × (D c ≡ 0)) ⊎ ((q : ℕ) × (slice_get cells p.index ≡ Some q) × Adjacent g c q × (D c ≡ D q + 1))

-- the cell is the first one, or its parent has a place
entry_of : (g : Grid) (cells ys : List ℕ) (v : ℕ) (D Q : ℕ → ℕ) (k c n : ℕ) → AllPairs (λ a b. a ≢ b) cells → slice_get cells k ≡ Some c → slice_get cells 0 ≡ Some v → ((x : ℕ) → Has ys x → Has cells x)
    → ((c ≡ v) × (D c ≡ 0)) ⊎ (Among ys n (Q c) × Adjacent g c (Q c) × (D c ≡ D (Q c) + 1)) → (p : Parent) × Entry g cells v D k c p
unfolding Among
entry_of g cells ys v D Q k c n distinct is is-v among (inl (same, none)) = (record { index = k; depth = D c }, record { depth = refl; parent = inl (same, refl, none) })
entry_of g cells ys v D Q k c n distinct is is-v among (inr ((i, lt, at'), next, step)) =
    let (j, is-q) = among (Q c) (i, at') in
    (record { index = j; depth = D c }, record { depth = refl; parent = inr (Q c, is-q, next, step) })

some_length : (xs : List ℕ) (k x : ℕ) → slice_get xs k ≡ Some x → (t : ℕ) × (length xs ≡ t + 1)
some_length [] k x e = absurd (cc)
some_length (y ∷ ys) k x e = (length ys, omega arith)

-- the place of a cell on the side
abbrev Touching : Grid → List ℕ → Side → ℕ → Type 0
Touching g cells s t = (d : ℕ) × (slice_get cells t ≡ Some d) × OnSide g s d

-- a parent for each cell
pub parents_for : (g : Grid) (cells : List ℕ) → ((x : ℕ) → Contains cells x → x < length g.sites) → 0 < length cells → AllPairs (λ a b. a ≢ b) cells → AreJoined g cells → (parents : List Parent) × (length parents ≡ length cells) × Each (ParentFits g cells parents) (length cells)
parents_for g cells within some distinct joined =
    let (v, is-v) = get_below cells 0 some in
    let (ys, o) = order_of g cells v (λ x (k, is). within x (Contains_from_get cells k x is)) joined (0, is-v) in
    let (t, size) = some_length ys 0 v o.ordered.root in
    let (D, Q, w) = names g v ys o.ordered t (omega arith) in
    let of-cell = λ (k c : ℕ) (is : slice_get cells k ≡ Some c).
    let (i, at') = o.all c (k, is) in
    let low : i < length ys = slice_get_within ys i c at' in
    let entry : (p : Parent) × Entry g cells v D k c p = entry_of g cells ys v D Q k c (suc t) distinct is is-v o.among (w.named c (among_at ys (suc t) i c (omega arith) at')) in entry in
    let (parents, many, all) = each_one (λ k c p. Entry g cells v D k c p) cells of-cell in (
      parents,
      many,
      λ k lt.
          let (c, is) = get_below cells k lt in
          let (p, at', e) = all k c is in
          let dc = e.depth in (
            p,
            at',
            elim e.parent [
              | inl (same, own, none') ↦ inl (
                omega (arith, dc, none'),
                own,
                λ j r less at'' none.
                    let (b, is-b) = get_below cells j (omega arith) in
                    let (r', at3, e') = all j b is-b in
                    let same-r : r' ≡ r = same_entry parents j r' r at3 at'' in
                    let r0 : r'.depth ≡ 0 = subst (λ (y : Parent). y.depth ≡ 0) (sym same-r) none in
                    let eb = e'.depth in
                    let db : D b ≡ 0 = omega (arith, eb, r0) in
                    elim e'.parent [
                      | inl (same-b, own', zero-b) ↦
                          let here : slice_get cells j ≡ Some v = subst (λ (y : ℕ). slice_get cells j ≡ Some y) same-b is-b in
                          let there : slice_get cells k ≡ Some v = subst (λ (y : ℕ). slice_get cells k ≡ Some y) same is in
                          let w : j ≡ k = one_place cells distinct j k v here there in omega arith
                      | inr (q, at4, next, step) ↦ omega arith
                    ],
              )
              | inr (q, at'', next, step) ↦
                  let (above, at3, e') = all p.index q at'' in
                  let dp = e.depth in
                  let dq = e'.depth in
                  inr (record {
                    above = above;
                    is = at3;
                    depth = omega arith;
                    cell = c;
                    cell-is = is;
                    next = q;
                    next-is = at'';
                    adjacent = next;
                  })
            ],
          ),
    )

-- a touch for each side
touches_for : (g : Grid) (cells : List ℕ) (sides : List Side) → All (Touches g cells) sides → (touches : List ℕ) × (length touches ≡ length sides) × TouchEach g cells sides touches (length sides)
touches_for g cells sides touched =
    let of-side = λ (k : ℕ) (s : Side) (is : slice_get sides k ≡ Some s).
    let (d, has, on) = All-contains (Touches g cells) sides s touched (Contains_from_get sides k s is) in
    let (t, at') = get_from_Contains cells d has in
    let entry : (t : ℕ) × Touching g cells s t = (t, (d, at', on)) in entry in
    let (touches, many, all) = each_one (λ k s t. Touching g cells s t) sides of-side in
    (touches, many, λ k s lt is _. let (t, at', (d, at'', on)) = all k s is in (t, d, s, at', at'', is, on))

-- every ascending region that fits has a certificate that keeps every rule
pub certificate_for : (g : Grid) (axis : Signed) (port : Option ℕ) (cells : List ℕ) → Sound g → Ascending cells → Fit g axis port cells
    → (parents : List Parent) × (touches : List ℕ) × Certified (case g (is_some port) axis port cells parents touches)
certificate_for g axis port cells sound up fit =
    let within = λ (x : ℕ) (h : Contains cells x). slice_get_within g.sites x site.Ancilla (All-contains (IsAncilla g) cells x fit.ancilla h) in
    let (parents, many, each) = parents_for g cells within fit.some fit.distinct fit.joined in
    let (touches, as-many, touch) = touches_for g cells (wanted_sides axis port) fit.touched in
    (parents, touches, (certified_both g axis port cells parents touches (wanted_sides axis port) sound refl fit.some many (λ j. each) as-many touch).1 (up, fit))
