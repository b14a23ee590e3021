-- The certificate of a region that grew keeps every rule.
use Rattle.std.proofs.Common.{◌≡◌, ℕ, ◌+◌, ◌<◌, inl, inr, length, slice_get, slice_set, get_or, List, Option, Some, is_some, [], ◌∷◌, ◌++◌, sym, subst, arith, Contains, All}
use Rattle.std.specs.List.Sorted.{IsPermutation}
use Rattle.std.proofs.lemmas.Option.{slice_get_within, get_or_from_slice_get}
use Rattle.std.proofs.lemmas.Bool.{cases_lt}
use Rattle.std.proofs.lemmas.List.Elements.{All-weaker}
use Rattle.std.proofs.lemmas.List.Sorted.{Contains-permutation, IsPermutation-trans, IsPermutation-sym, IsPermutation-refl}
use Rattle.pauli_product.specs.Signed.{Signed}
use Rattle.patch_layout.specs.declared.walk.Reached.{Reached}
use Rattle.patch_layout.specs.declared.plan.Parent.{Parent}
use Rattle.patch_layout.specs.declared.plan.Plan.{Plan}
use Rattle.patch_layout.specs.declared.look.Look.{Look}
use Rattle.patch_layout.specs.declared.layout.Side.{Side}
use Rattle.patch_layout.specs.Grid.{Grid, IsAncilla, Adjacent}
use Rattle.patch_layout.specs.Region.{Touches, Fit, wanted_sides}
use Rattle.patch_layout.specs.Spread.{InQueue}
use Rattle.patch_layout.specs.Case.{Ascending, case}
use Rattle.patch_layout.specs.Certificate.{Certified, ParentFits, TouchFits, Each}
use Rattle.patch_layout.specs.Tree.{Tree, ParentsNamed}
use Rattle.patch_layout.proofs.Places.{same_entry, get_below, get_cases, get_set_here, get_set_other, Contains_from_get, get_from_Contains, get_map, get_mapped, get_added, get_kept}
use Rattle.patch_layout.proofs.Looking.{one_place}
use Rattle.patch_layout.proofs.Trees.{named_at}
use Rattle.patch_layout.proofs.Laws.{law_neighbours}
use Rattle.patch_layout.proofs.Asked.{side_count_is}
use Rattle.patch_layout.proofs.Certifying.{fit_patched, fit_port, cells_fit}
use Rattle.region_plan.specs.inside.Tree.{cells_in, Rooted, TouchedTo}
use Rattle.region_plan.specs.Free.{Free}
use Rattle.region_plan.proofs.Grafting.{free_within}
use Rattle.region_plan.specs.inside.Ways.{Sprung}
use Rattle.region_plan.specs.inside.Finish.{PlacesIn, RenumberedTo, Renumbered, Finished}
use Rattle.region_plan.proofs.Least.{Distinct}
use Rattle.region_plan.proofs.Regions.{Region, region_one, grown_region, region_permuted}
use Rattle.region_plan.proofs.Shuffled.{permuted_distinct}

-- a region that grew fits in any order, and lies in the free cells
pub sprung_fits : (g : Grid) (Free : ℕ → Type 0) (axis : Signed) (port : Option ℕ) (first : ℕ) (tree : List Reached) (touched : List ℕ) (sorted : List ℕ)
    → ((x : ℕ) → Free x → IsAncilla g x) → Sprung g Free (wanted_sides axis port) first tree touched → IsPermutation (cells_in tree) sorted
    → Fit g axis port sorted × All Free sorted
sprung_fits g Free axis port first tree touched sorted anc s perm =
    let (whole, r, perm', holds, all) = grown_region g Free (first ∷ []) (wanted_sides axis port) (cells_in tree) anc (region_one g Free first s.free) s.grown in
    let both : IsPermutation whole sorted = IsPermutation-trans whole (cells_in tree) sorted perm' perm in
    let r' : Region g Free sorted = region_permuted g Free whole sorted both (permuted_distinct whole sorted both r.distinct) r in (
      record {
        some = r'.some;
        distinct = r'.distinct;
        ancilla = All-weaker Free (IsAncilla g) anc sorted r'.free;
        joined = r'.joined;
        touched = All-weaker (Touches g whole) (Touches g sorted) (λ x (d, has, on'). (d, Contains-permutation whole sorted d both has, on')) (wanted_sides axis port) all;
      },
      r'.free,
    )

-- the cells of the tree, each at one place, and each joined to an entry that is there
pub tree_of : (g : Grid) (Free : ℕ → Type 0) (first : ℕ) (tree : List Reached) (cells : List ℕ) → Rooted g Free first tree → Distinct (cells_in tree) → IsPermutation (cells_in tree) cells → Tree cells tree
tree_of g Free first tree cells rooted distinct perm =
    let in-tree = λ (k : ℕ) (r : Reached) (e : slice_get tree k ≡ Some r). get_mapped (λ x. x.cell) tree k r e in
    record {
      cell = λ k r e. Contains-permutation (cells_in tree) cells r.cell perm (Contains_from_get (cells_in tree) k r.cell (in-tree k r e));
      base = λ k r e. elim (rooted k r e) [
        | inl start ↦ let w : k < length tree = slice_get_within tree k r e in omega (arith, start.1)
        | inr f ↦ slice_get_within tree r.from f.base f.is
      ];
      once = λ i j a b ea eb same. one_place (cells_in tree) distinct i j a.cell (in-tree i a ea) (let P : ℕ → Type 0 = λ x. slice_get (cells_in tree) j ≡ Some x in subst P (sym same) (in-tree j b eb));
    }

pub in_tree : (tree : List Reached) (cells : List ℕ) (x : ℕ) → IsPermutation (cells_in tree) cells → Contains cells x → InQueue tree x
in_tree tree cells x perm has =
    let (k, is) = get_from_Contains (cells_in tree) x (Contains-permutation cells (cells_in tree) x (IsPermutation-sym (cells_in tree) cells perm) has) in
    let (r, is', cell) = get_map (λ r. r.cell) tree k x is in (k, r, is', cell)

-- the entry of a cell of the sorted list, and its parent
parent_at : (tree : List Reached) (cells places : List ℕ) (parents : List Parent) → IsPermutation (cells_in tree) cells → Tree cells tree → PlacesIn cells places → ParentsNamed tree places parents (length tree)
    → (i c : ℕ) → slice_get cells i ≡ Some c
    → (k : ℕ) × (r : Reached) × (b : Reached) × (j : ℕ) × (slice_get tree k ≡ Some r) × (r.cell ≡ c) × (slice_get tree r.from ≡ Some b) × (slice_get cells j ≡ Some b.cell) × (slice_get parents i ≡ Some (record { index = j; depth = r.steps }))
parent_at tree cells places parents perm t at' named i c is =
    let (k, r, er, cell) = in_tree tree cells c perm (Contains_from_get cells i c is) in
    let P : ℕ → Type 0 = λ x. slice_get cells i ≡ Some x in
    let (b, j, eb, ej, ep) = named_at cells tree places parents t at' named k r i er (subst P (sym cell) is) in
    (k, r, b, j, er, cell, eb, ej, ep)

only : (c x : ℕ) → Contains (c ∷ []) x → c ≡ x
only c x has =
    let (k, is) = get_from_Contains (c ∷ []) x has in
    elim (get_cases [] c k x is) [ inl old ↦ absurd (cc) | inr new ↦ new.1 ]

-- each parent fits
pub parents_fit : (g : Grid) (Free : ℕ → Type 0) (first : ℕ) (tree : List Reached) (cells places : List ℕ) (parents : List Parent) → ((x : ℕ) → Free x → x < length g.sites)
    → Rooted g Free first tree → Free first → Distinct cells → IsPermutation (cells_in tree) cells → Tree cells tree → PlacesIn cells places → ParentsNamed tree places parents (length tree)
    → Each (ParentFits g cells parents) (length cells)
parents_fit g Free first tree cells places parents within rooted free distinct perm t at' named i in' =
    let (c, ec) = get_below cells i in' in
    let (k, r, b, j, er, cell, eb, ej, ep) = parent_at tree cells places parents perm t at' named i c ec in
    let E : ℕ → Type 0 = λ x. slice_get cells i ≡ Some x in
    let er-place : slice_get cells i ≡ Some r.cell = subst E (sym cell) ec in (
      record { index = j; depth = r.steps },
      ep,
      elim (rooted k r er) [
        | inl start ↦
            let r-first : first ≡ r.cell = only first r.cell start.2 in
            let Z : ℕ → Type 0 = λ x. slice_get tree x ≡ Some b in
            let eb0 : slice_get tree 0 ≡ Some b = subst Z start.1 eb in
            let b-first : first ≡ b.cell = elim (rooted 0 b eb0) [ inl st ↦ only first b.cell st.2 | inr f ↦ absurd (omega (arith, f.earlier)) ] in
            let J : ℕ → Type 0 = λ x. slice_get cells j ≡ Some x in
            let same : b.cell ≡ r.cell = cc in
            let j-is : j ≡ i = one_place cells distinct j i r.cell (subst J same ej) er-place in
            inl (
              start.0,
              j-is,
              λ m q lt em depth.
                  let (d, ed) = get_below cells m (omega arith) in
                  let (k', r', b', j', er', cell', eb', ej', ep') = parent_at tree cells places parents perm t at' named m d ed in
                  let q-is : record { index = j'; depth = r'.steps } ≡ q = same_entry parents m (record { index = j'; depth = r'.steps }) q ep' em in
                  let D : Parent → Type 0 = λ x. x.depth ≡ 0 in
                  let none : r'.steps ≡ 0 = subst D (sym q-is) depth in
                  elim (rooted k' r' er') [
                    | inl st ↦
                        let d-first : first ≡ r'.cell = only first r'.cell st.2 in
                        let d-is : d ≡ r.cell = cc in
                        let M : ℕ → Type 0 = λ x. slice_get cells m ≡ Some x in
                        let w : m ≡ i = one_place cells distinct m i r.cell (subst M d-is ed) er-place in
                        omega arith
                    | inr f ↦ omega (arith, f.steps)
                  ],
            )
        | inr f ↦
            let b-is : f.base ≡ b = same_entry tree r.from f.base b f.is eb in
            let (k', r', b', j', er', cell', eb', ej', ep') = parent_at tree cells places parents perm t at' named j b.cell ej in
            let A : Reached → Type 0 = λ x. Adjacent g x.cell r.cell in
            let S : Reached → Type 0 = λ x. r.steps ≡ x.steps + 1 in
            let r-is : r' ≡ b = (let w : k' ≡ r.from = t.once k' r.from r' b er' eb cell' in let T : ℕ → Type 0 = λ x. slice_get tree x ≡ Some r' in same_entry tree r.from r' b (subst T w er') eb) in
            let D : Reached → Type 0 = λ x. slice_get parents j ≡ Some (record { index = j'; depth = x.steps }) in
            let b-free : Free b.cell = elim (rooted r.from b eb) [
              | inl st ↦ let F : ℕ → Type 0 = λ x. Free x in subst F (only first b.cell st.2) free
              | inr f' ↦ f'.free
            ] in
            inr (record {
              above = record { index = j'; depth = b.steps };
              is = subst D r-is ep';
              depth = subst S b-is f.steps;
              cell = r.cell;
              cell-is = er-place;
              next = b.cell;
              next-is = ej;
              adjacent = law_neighbours g b.cell r.cell (within b.cell b-free) (subst A b-is f.adjacent);
            })
      ],
    )

-- each touch fits
pub touches_fit : (g : Grid) (sides : List Side) (tree : List Reached) (cells places touched touches : List ℕ) → Tree cells tree → PlacesIn cells places → length touched ≡ length sides
    → TouchedTo g sides tree touched (length sides) → Renumbered tree places touched touches → Each (TouchFits g cells touches sides) (length touches)
touches_fit g sides tree cells places touched touches t at' as-many touch (len, renumbered) k b =
    let in-sides : k < length sides = omega arith in
    let (s, es) = get_below sides k in-sides in
    let (place, r, touched-is, r-is, on) = touch k s in-sides es in
    let (p, ep) = get_from_Contains cells r.cell (t.cell place r r-is) in
    (p, r.cell, s, renumbered k place p r (omega arith) touched-is r-is (at' p r.cell ep), ep, es, on)

-- the whole certificate
pub sprung_certified : (g : Grid) (Free : ℕ → Type 0) (axis : Signed) (port : Option ℕ) (first : ℕ) (tree : List Reached) (touched cells places : List ℕ) (parents : List Parent) (touches : List ℕ)
    → ((x : ℕ) → Free x → IsAncilla g x) → ((x : ℕ) → Free x → x < length g.sites) → Sprung g Free (wanted_sides axis port) first tree touched
    → IsPermutation (cells_in tree) cells → (Distinct cells → Ascending cells) → PlacesIn cells places → length parents ≡ length cells → ParentsNamed tree places parents (length tree)
    → Renumbered tree places touched touches → Certified (case g (is_some port) axis port cells parents touches)
sprung_certified g Free axis port first tree touched cells places parents touches anc within s perm up at' sizes named renumbered =
    let (fit, free) = sprung_fits g Free axis port first tree touched cells anc s perm in
    let t : Tree cells tree = tree_of g Free first tree cells s.rooted s.distinct perm in (
      (
        (
          (
            record { some = fit.some; as_many_parents = sizes; as_many_touches = omega (arith, renumbered.0, s.as_many, side_count_is g axis (is_some port) port (fit_port g axis port cells fit)); patched = fit_patched g axis port cells fit },
            fit_port g axis port cells fit,
          ),
          cells_fit g cells fit.ancilla (up fit.distinct),
        ),
        parents_fit g Free first tree cells places parents within s.rooted s.free fit.distinct perm t at' named,
      ),
      touches_fit g (wanted_sides axis port) tree cells places touched touches t at' s.as_many s.touches renumbered,
    )

-- one more cell has its place
pub placed_next : (cells places : List ℕ) (n c : ℕ) → Distinct cells → slice_get cells n ≡ Some c → c < length places → ((i x : ℕ) → i < n → slice_get cells i ≡ Some x → slice_get places x ≡ Some i)
    → (i x : ℕ) → i < n + 1 → slice_get cells i ≡ Some x → slice_get (slice_set places c n) x ≡ Some i
placed_next cells places n c distinct at-n in' placed i x lt is = elim (cases_lt i n) [
  | inl less ↦ get_set_other places c x n i (λ same.
      let P : ℕ → Type 0 = λ y. slice_get cells n ≡ Some y in
      let w : n ≡ i = one_place cells distinct n i x (subst P same at-n) is in omega arith) (placed i x less is)
  | inr ge ↦
      let same : i ≡ n = omega arith in
      let P : ℕ → Type 0 = λ y. slice_get cells y ≡ Some x in
      let e : c ≡ x = same_entry cells n c x at-n (subst P same is) in
      let Q : ℕ → Type 0 = λ y. slice_get (slice_set places c n) y ≡ Some n in
      let R : ℕ → Type 0 = λ y. slice_get (slice_set places c n) x ≡ Some y in
      subst R (sym same) (subst Q e (get_set_here places c n in'))
]

-- one more touch has its place
pub renumbered_next : (tree : List Reached) (places touched touches more : List ℕ) (n t p : ℕ) (r : Reached) → RenumberedTo tree places touched touches n → length touches ≡ n
    → slice_get touched n ≡ Some t → slice_get tree t ≡ Some r → slice_get places r.cell ≡ Some p → more ≡ touches ++ p ∷ [] → RenumberedTo tree places touched more (n + 1)
renumbered_next tree places touched touches more n t p r done len touched-is r-is p-is more-is k t' p' r' lt e er ep = elim (cases_lt k n) [
  | inl less ↦ let P : List ℕ → Type 0 = λ xs. slice_get xs k ≡ Some p' in subst P (sym more-is) (get_kept touches (p ∷ []) k p' (done k t' p' r' less e er ep))
  | inr ge ↦
      let same : k ≡ n = omega arith in
      let T : ℕ → Type 0 = λ x. slice_get touched x ≡ Some t' in
      let te : t ≡ t' = same_entry touched n t t' touched-is (subst T same e) in
      let R : ℕ → Type 0 = λ x. slice_get tree x ≡ Some r' in
      let re : r ≡ r' = same_entry tree t r r' r-is (subst R (sym te) er) in
      let Q : Reached → Type 0 = λ x. slice_get places x.cell ≡ Some p' in
      let pe : p ≡ p' = same_entry places r.cell p p' p-is (subst Q (sym re) ep) in
      let P : List ℕ → Type 0 = λ xs. slice_get xs k ≡ Some p' in
      let N : ℕ → Type 0 = λ x. slice_get (touches ++ p ∷ []) x ≡ Some p' in
      let V : ℕ → Type 0 = λ x. slice_get (touches ++ p ∷ []) (length touches) ≡ Some x in
      subst P (sym more-is) (subst N (let w : length touches ≡ k = omega arith in w) (subst V pe (get_added touches p)))
]

-- what holds of the sorted cells of a region that grew
pub sorted_cells : (g : Grid) (held : List (Option ℕ)) (axis : Signed) (port : Option ℕ) (first : ℕ) (tree : List Reached) (touched sorted list : List ℕ) (size : ℕ)
    → Sprung g (Free g held) (wanted_sides axis port) first tree touched → IsPermutation (cells_in tree) sorted → list ≡ sorted → size ≡ length g.sites
    → All (λ x. x < size) list × Distinct list × Tree list tree
sorted_cells g held axis port first tree touched sorted list size s perm e size-is =
    let (fit, free) = sprung_fits g (Free g held) axis port first tree touched sorted (λ x f. f.0) s perm in
    let P : List ℕ → Type 0 = λ xs. All (λ x. x < size) xs × Distinct xs × Tree xs tree in
    subst P (sym e) (
      All-weaker (Free g held) (λ x. x < size) (λ x f. omega (arith, free_within g held x f)) sorted free,
      fit.distinct,
      tree_of g (Free g held) first tree sorted s.rooted s.distinct perm,
    )

pub touched_within : (g : Grid) (Free : ℕ → Type 0) (sides : List Side) (first : ℕ) (tree : List Reached) (touched : List ℕ) → Sprung g Free sides first tree touched → All (λ t. t < length tree) touched
touched_within g Free sides first tree touched s k d b =
    let in-sides : k < length sides = omega (arith, s.as_many) in
    let (x, ex) = get_below sides k in-sides in
    let (t, r, t-is, r-is, on) = s.touches k x in-sides ex in
    let e : get_or touched k d ≡ t = get_or_from_slice_get touched k t d t-is in
    let w : t < length tree = slice_get_within tree t r r-is in
    omega arith

pub tree_within : (g : Grid) (held : List (Option ℕ)) (axis : Signed) (port : Option ℕ) (first : ℕ) (tree : List Reached) (touched : List ℕ) (size : ℕ)
    → Sprung g (Free g held) (wanted_sides axis port) first tree touched → size ≡ length g.sites → All (λ x. x < size) (cells_in tree)
tree_within g held axis port first tree touched size s size-is =
    let (fit, free) = sprung_fits g (Free g held) axis port first tree touched (cells_in tree) (λ x f. f.0) s (IsPermutation-refl (cells_in tree)) in
    All-weaker (Free g held) (λ x. x < size) (λ x f. omega (arith, free_within g held x f)) (cells_in tree) free

-- the plan of the sorted cells
pub finished : (g : Grid) (look : Look) (port : Option ℕ) (first : ℕ) (tree : List Reached) (touched sorted places : List ℕ) (parents : List Parent) (touches : List ℕ) (p : Plan)
    → Sprung g (Free g look.held) (wanted_sides look.axis port) first tree touched → IsPermutation (cells_in tree) sorted → (Distinct sorted → Ascending sorted) → PlacesIn sorted places
    → length parents ≡ length sorted → ParentsNamed tree places parents (length tree) → Renumbered tree places touched touches
    → p.number ≡ look.product → p.axis ≡ look.axis → p.port ≡ port → p.cells ≡ sorted → p.parents ≡ parents → p.touches ≡ touches → Finished g look port (cells_in tree) p
finished g look port first tree touched sorted places parents touches p s perm up at' sizes named renumbered ne ae oe ce pe te =
    let (fit, free) = sprung_fits g (Free g look.held) look.axis port first tree touched sorted (λ x f. f.0) s perm in
    let whole : Certified (case g (is_some port) look.axis port sorted parents touches) =
    sprung_certified g (Free g look.held) look.axis port first tree touched sorted places parents touches (λ x f. f.0) (free_within g look.held) s perm up at' sizes named renumbered in
    let A : Signed → Type 0 = λ x. Certified (case g (is_some port) x p.port p.cells p.parents p.touches) in
    let O : Option ℕ → Type 0 = λ x. Certified (case g (is_some port) look.axis x p.cells p.parents p.touches) in
    let C : List ℕ → Type 0 = λ x. Certified (case g (is_some port) look.axis port x p.parents p.touches) in
    let P : List Parent → Type 0 = λ x. Certified (case g (is_some port) look.axis port sorted x p.touches) in
    let T : List ℕ → Type 0 = λ x. Certified (case g (is_some port) look.axis port sorted parents x) in
    let F : List ℕ → Type 0 = λ x. All (Free g look.held) x in
    let M : List ℕ → Type 0 = λ x. IsPermutation (cells_in tree) x in (
      record {
        number = ne;
        axis = ae;
        port-is = oe;
        free = subst F (sym ce) free;
        certified = subst A (sym ae) (subst O (sym oe) (subst C (sym ce) (subst P (sym pe) (subst T (sym te) whole))));
      },
      subst M (sym ce) perm,
    )
