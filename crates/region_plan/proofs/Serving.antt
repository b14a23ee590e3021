-- A region from a cell of the first side, and which cell serves.
use Rattle.std.proofs.Common.{◌≡◌, ℕ, Bool, true, false, ◌+◌, ◌<◌, ◌≤◌, inl, inr, length, slice_get, List, Option, Some, None, [], ◌∷◌, refl, subst, arith, Contains, All, ◌↔◌}
use Rattle.std.proofs.lemmas.Option.{slice_get_within, same_Some, get_or_from_slice_get}
use Rattle.std.proofs.lemmas.Bool.{cases_lt, cases_order}
use Rattle.std.proofs.lemmas.List.Elements.{All-cons, All-nil}
use Rattle.patch_layout.specs.declared.walk.Reached.{Reached}
use Rattle.patch_layout.specs.declared.layout.Side.{Side}
use Rattle.patch_layout.specs.Grid.{Grid}
use Rattle.patch_layout.specs.Region.{OnSide, Ascend}
use Rattle.patch_layout.specs.Spread.{starting}
use Rattle.patch_layout.proofs.Places.{same_entry, get_from_Contains, get_cases}
use Rattle.region_plan.specs.inside.Growing.{CutOff}
use Rattle.region_plan.specs.inside.Tree.{cells_in, Rooted}
use Rattle.region_plan.specs.inside.Ways.{Sprung, SprungFrom, GrownOver, At, Served}
use Rattle.region_plan.specs.declared.growth.Region.{Region}
use Rattle.region_plan.proofs.Least.{Distinct}

pub one_free : (Free : ℕ → Type 0) (first : ℕ) → Free first → All Free (cells_in (starting first ∷ []))
one_free Free first free = All-cons Free first [] free (All-nil Free)

pub one_distinct : (first : ℕ) → Distinct (cells_in (starting first ∷ []))
one_distinct first = λ i j d lt b. absurd (omega arith)

-- the one cell of a start has no parent
pub one_rooted : (g : Grid) (Free : ℕ → Type 0) (first : ℕ) → Rooted g Free first (starting first ∷ [])
one_rooted g Free first k r e =
    let both : (k ≡ 0) × (starting first ≡ r) = elim (get_cases [] (starting first) k r e) [ inl old ↦ absurd (cc) | inr new ↦ new ] in
    let P : Reached → Type 0 = λ x. (x.steps ≡ 0) × (x.from ≡ 0) × Contains (first ∷ []) x.cell in
    inl (subst P both.1 (refl, refl, (0, omega arith, refl)))

pub sprouted : (g : Grid) (Free : ℕ → Type 0) (sides : List Side) (first : ℕ) (start after : List Reached) (touched : List ℕ) (done : Bool) → done ≡ true → start ≡ starting first ∷ [] → Free first
    → SprungFrom g Free sides start after touched done → Sprung g Free sides first after touched
sprouted g Free sides first start after touched done yes' start-is free sprung =
    let P : Bool → Type 0 = λ b. SprungFrom g Free sides start after touched b in
    let Q : List Reached → Type 0 = λ xs. GrownOver g Free sides xs after touched in
    let over : GrownOver g Free sides (starting first ∷ []) after touched = subst Q start-is (subst P yes' sprung) in
    record {
      free = free;
      grown = over.grown;
      root = over.kept 0 (starting first) refl;
      rooted = over.rooted first (one_rooted g Free first);
      distinct = over.distinct;
      as_many = over.as_many;
      touches = over.touches;
    }

pub sprouted_not : (g : Grid) (Free : ℕ → Type 0) (sides : List Side) (first : ℕ) (start after : List Reached) (touched : List ℕ) (done : Bool) → done ≡ false → start ≡ starting first ∷ []
    → SprungFrom g Free sides start after touched done → At g Free (Some first) sides None
sprouted_not g Free sides first start after touched done no' start-is sprung c same free =
    let P : Bool → Type 0 = λ b. SprungFrom g Free sides start after touched b in
    let Q : List Reached → Type 0 = λ xs. CutOff g Free (cells_in xs) sides in
    let cut : CutOff g Free (first ∷ []) sides = subst Q start-is (subst P no' sprung) in
    let e : first ≡ c = same_Some first c same in
    let R : ℕ → Type 0 = λ x. CutOff g Free (x ∷ []) sides in
    subst R e cut

-- the free ones of the first n cells of the pair are cut off
abbrev pub Tried : Grid → (ℕ → Type 0) → List Side → List (Option ℕ) → ℕ → Type 0
Tried g Free sides pair n = (i c : ℕ) → i < n → slice_get pair i ≡ Some (Some c) → Free c → CutOff g Free (c ∷ []) sides

pub tried_more : (g : Grid) (Free : ℕ → Type 0) (sides : List Side) (pair : List (Option ℕ)) (n : ℕ) (cell : Option ℕ) (found : Option Region) → Tried g Free sides pair n
    → slice_get pair n ≡ Some cell → found ≡ None → At g Free cell sides found → Tried g Free sides pair (n + 1)
tried_more g Free sides pair n cell found tried here none at' i c lt is free = elim (cases_lt i n) [
  | inl lt' ↦ tried i c lt' is free
  | inr ge ↦
      let same : i ≡ n = omega arith in
      let P : ℕ → Type 0 = λ x. slice_get pair x ≡ Some (Some c) in
      let e : cell ≡ Some c = same_entry pair n cell (Some c) here (subst P same is) in
      let Q : Option Region → Type 0 = λ o. At g Free cell sides o in
      let cut : At g Free cell sides None = subst Q none at' in
      cut c e free
]

-- every cell was tried
pub served_none : (g : Grid) (Free : ℕ → Type 0) (s : Side) (sides : List Side) (pair : List (Option ℕ)) (n : ℕ) → ((d : ℕ) → Contains pair (Some d) ↔ OnSide g s d)
    → length pair ≤ n → Tried g Free sides pair n → Served g Free s sides None
served_none g Free s sides pair n on all tried c free on-side =
    let (i, is) = get_from_Contains pair (Some c) ((on c).1 on-side) in
    tried i c (let w : i < length pair = slice_get_within pair i (Some c) is in omega arith) is free

-- the n-th cell serves
pub served_some : (g : Grid) (Free : ℕ → Type 0) (s : Side) (sides : List Side) (pair : List (Option ℕ)) (n : ℕ) (cell : Option ℕ) (found : Option Region) (r : Region)
    → ((d : ℕ) → Contains pair (Some d) ↔ OnSide g s d) → Ascend pair → length pair ≡ 2 → Tried g Free sides pair n → slice_get pair n ≡ Some cell → found ≡ Some r → At g Free cell sides found
    → Served g Free s sides (Some r)
served_some g Free s sides pair n cell found r on ascend two tried at-n found-is at' =
    let Q : Option Region → Type 0 = λ o. At g Free cell sides o in
    let (first, cell-is, sprung, tables) = subst Q found-is at' in
    let P : Option ℕ → Type 0 = λ o. slice_get pair n ≡ Some o in
    let here : slice_get pair n ≡ Some (Some first) = subst P cell-is at-n in (
      first,
      (on first).0 (n, slice_get_within pair n (Some first) here, get_or_from_slice_get pair n (Some first) (Some first) here),
      sprung,
      λ c less free' on-side.
          let (i, is) = get_from_Contains pair (Some c) ((on c).1 on-side) in
          let in' : i < length pair = slice_get_within pair i (Some c) is in
          let n-in : n < length pair = slice_get_within pair n (Some first) here in
          elim (cases_order i n) [
            | inl same ↦
                let e : Some c ≡ Some first = same_entry pair n (Some c) (Some first) (subst (λ (x : ℕ). slice_get pair x ≡ Some (Some c)) same is) here in
                let f : c ≡ first = same_Some c first e in absurd (omega arith)
            | inr (inl lt) ↦ tried i c lt is free'
            | inr (inr gt) ↦
                let n-zero : n ≡ 0 = omega arith in
                let i-one : i ≡ 1 = omega arith in
                let w : first ≤ c = ascend first c (subst (λ (x : ℕ). slice_get pair x ≡ Some (Some first)) n-zero here) (subst (λ (x : ℕ). slice_get pair x ≡ Some (Some c)) i-one is) in
                absurd (omega arith)
          ],
    )
