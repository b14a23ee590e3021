-- What the loop over the sides keeps.
use Rattle.std.proofs.Common.{◌≡◌, ℕ, true, false, ◌+◌, ◌<◌, ◌≤◌, inl, inr, length, get_or, slice_get, drop, Option, Some, None, List, [], ◌∷◌, ◌++◌, refl, sym, subst, arith, Contains, All, add-one, drop-cons, length-append}
use Rattle.std.proofs.lemmas.Option.{get_or_from_slice_get}
use Rattle.std.proofs.lemmas.Bool.{cases_lt}
use Rattle.std.proofs.lemmas.List.Elements.{All-append, Contains-append_left, Contains-get_or}
use Rattle.std.proofs.lemmas.List.{drop_all}
use Rattle.std.proofs.lemmas.List.Sorted.{IsPermutation-refl}
use Rattle.patch_layout.specs.declared.walk.Reached.{Reached}
use Rattle.patch_layout.specs.declared.layout.Side.{Side}
use Rattle.patch_layout.specs.Grid.{Grid}
use Rattle.patch_layout.specs.Region.{OnSide}
use Rattle.patch_layout.specs.Joined.{Grown}
use Rattle.patch_layout.proofs.Places.{get_kept, get_added}
use Rattle.region_plan.specs.inside.Tree.{cells_in, Rooted, Grafted, TouchedTo}
use Rattle.region_plan.specs.inside.Ways.{SprungFrom}
use Rattle.region_plan.proofs.Least.{Distinct, adds_distinct, leads_all}
use Rattle.region_plan.proofs.Rooting.{cells_more}

-- a growth over the sides that are left goes on to one over all, and the cells at hand are distinct free cells that hold those of the start
pub record Growing (g : Grid) (Free : ℕ → Type 0) (start : List Reached) (sides : List Side) (i : ℕ) (tree : List Reached) (touched : List ℕ) : Type 0 where
  pub goes_on : (after : List ℕ) → Grown g Free (cells_in tree) (drop i sides) after → Grown g Free (cells_in start) sides after
  pub holds : (c : ℕ) → Contains (cells_in start) c → Contains (cells_in tree) c
  pub free : All Free (cells_in tree)
  pub distinct : Distinct (cells_in tree)
  pub kept : (k : ℕ) (r : Reached) → slice_get start k ≡ Some r → slice_get tree k ≡ Some r
  pub rooted : (first : ℕ) → Rooted g Free first start → Rooted g Free first tree
  pub as_many : length touched ≡ i
  pub touches : TouchedTo g sides tree touched i

pub growing_start : (g : Grid) (Free : ℕ → Type 0) (start : List Reached) (sides : List Side) (touched : List ℕ) → All Free (cells_in start) → Distinct (cells_in start) → touched ≡ []
    → Growing g Free start sides 0 start touched
growing_start g Free start sides touched free distinct none =
    record {
      goes_on = λ after grown. grown;
      holds = λ c has. has;
      free = free;
      distinct = distinct;
      kept = λ k r e. e;
      rooted = λ first rooted. rooted;
      as_many = (let P : List ℕ → Type 0 = λ xs. length xs ≡ 0 in subst P (sym none) refl);
      touches = λ k s lt. absurd (omega arith);
    }

pub grafted_some : (g : Grid) (Free T : ℕ → Type 0) (tree after : List Reached) (found : Option ℕ) (place : ℕ) → found ≡ Some place → Grafted g Free T tree after found → Grafted g Free T tree after (Some place)
grafted_some g Free T tree after found place e w = let P : Option ℕ → Type 0 = λ o. Grafted g Free T tree after o in subst P e w

-- one more side was joined
pub growing_more : (g : Grid) (Free : ℕ → Type 0) (start : List Reached) (sides : List Side) (i : ℕ) (tree after : List Reached) (touched more : List ℕ) (d : Side) (found : Option ℕ) (place : ℕ)
    → Growing g Free start sides i tree touched → i < length sides → found ≡ Some place → Grafted g Free (OnSide g (get_or sides i d)) tree after found
    → ((first : ℕ) → Rooted g Free first tree → Rooted g Free first after) → more ≡ touched ++ place ∷ [] → Growing g Free start sides (i + 1) after more
growing_more g Free start sides i tree after touched more d found place grow in' found-is graft rooted more-is =
    let s : Side = get_or sides i d in
    let (added, after-is, adds, (r, r-is, on)) = grafted_some g Free (OnSide g s) tree after found place found-is graft in
    let cells : cells_in after ≡ cells_in tree ++ cells_in added = (let E : List Reached → Type 0 = λ xs. cells_in xs ≡ cells_in tree ++ cells_in added in subst E (sym after-is) (cells_more tree added)) in
    let rest : drop i sides ≡ s ∷ drop (i + 1) sides = rw (add-one, drop-cons sides i d in') refl in
    let F : List ℕ → Type 0 = λ x. All Free x in
    let D : List ℕ → Type 0 = λ x. Distinct x in
    let keeps = λ (k : ℕ) (x : Reached) (e : slice_get tree k ≡ Some x).
    let K : List Reached → Type 0 = λ xs. slice_get xs k ≡ Some x in subst K (sym after-is) (get_kept tree added k x e) in
    let touch-kept = λ (k t : ℕ) (e : slice_get touched k ≡ Some t).
    let K : List ℕ → Type 0 = λ xs. slice_get xs k ≡ Some t in subst K (sym more-is) (get_kept touched (place ∷ []) k t e) in
    let new-touch : slice_get more i ≡ Some place =
    (let K : List ℕ → Type 0 = λ xs. slice_get xs i ≡ Some place in
    let I : ℕ → Type 0 = λ x. slice_get (touched ++ place ∷ []) x ≡ Some place in subst K (sym more-is) (subst I grow.as_many (get_added touched place))) in
    record {
      goes_on = λ final grown.
          let R : List Side → Type 0 = λ ss. Grown g Free (cells_in tree) ss final in
          let C : List ℕ → Type 0 = λ x. Grown g Free x (drop (i + 1) sides) final in
          grow.goes_on final (subst R (sym rest) (cells_in added, adds, subst C cells grown));
      holds = λ c has. let C : List ℕ → Type 0 = λ x. Contains x c in subst C (sym cells) (Contains-append_left (cells_in tree) (cells_in added) c (grow.holds c has));
      free = subst F (sym cells) (All-append Free (cells_in tree) (cells_in added) grow.free (leads_all g Free (OnSide g s) adds.0.0 (cells_in added) adds.0.2));
      distinct = subst D (sym cells) (adds_distinct g Free (OnSide g s) (cells_in tree) (cells_in added) adds grow.distinct);
      kept = λ k x e. keeps k x (grow.kept k x e);
      rooted = λ first was. rooted first (grow.rooted first was);
      as_many = (let L : List ℕ → Type 0 = λ xs. length xs ≡ i + 1 in subst L (sym more-is) (omega (arith, length-append touched (place ∷ []), grow.as_many)));
      touches = λ k x lt at'. elim (cases_lt k i) [
        | inl less ↦ let (t, y, t-is, y-is, on') = grow.touches k x less at' in (t, y, touch-kept k t t-is, keeps t y y-is, on')
        | inr ge ↦
            let same : k ≡ i = omega arith in
            let A : ℕ → Type 0 = λ y. slice_get sides y ≡ Some x in
            let e : s ≡ x = get_or_from_slice_get sides i x d (subst A same at') in
            let O : Side → Type 0 = λ y. OnSide g y r.cell in
            let T : ℕ → Type 0 = λ y. slice_get more y ≡ Some place in
            (place, r, subst T (sym same) new-touch, r-is, subst O e on)
      ];
    }

-- a side that can't be joined can't be reached from the start either
pub growing_stuck : (g : Grid) (Free : ℕ → Type 0) (start : List Reached) (sides : List Side) (i : ℕ) (tree after : List Reached) (touched more : List ℕ) (d : Side) (found : Option ℕ)
    → Growing g Free start sides i tree touched → i < length sides → found ≡ None → Grafted g Free (OnSide g (get_or sides i d)) tree after found
    → SprungFrom g Free sides start after more false
growing_stuck g Free start sides i tree after touched more d found grow in' found-is graft =
    let s : Side = get_or sides i d in
    let P : Option ℕ → Type 0 = λ o. Grafted g Free (OnSide g s) tree after o in
    let (same, none) = subst P found-is graft in (
      s,
      Contains-get_or sides i d in',
      λ others (from, has, leads). none others (from, grow.holds from has, leads),
    )

-- all sides were joined
pub growing_done : (g : Grid) (Free : ℕ → Type 0) (start : List Reached) (sides : List Side) (i : ℕ) (tree : List Reached) (touched : List ℕ)
    → Growing g Free start sides i tree touched → length sides ≤ i → i ≤ length sides → SprungFrom g Free sides start tree touched true
growing_done g Free start sides i tree touched grow all low =
    let R : List Side → Type 0 = λ ss. Grown g Free (cells_in tree) ss (cells_in tree) in
    record {
      grown = grow.goes_on (cells_in tree) (subst R (sym (drop_all i sides all)) (IsPermutation-refl (cells_in tree)));
      kept = grow.kept;
      rooted = grow.rooted;
      distinct = grow.distinct;
      as_many = omega (arith, grow.as_many);
      touches = λ k s lt. grow.touches k s (omega arith);
    }
