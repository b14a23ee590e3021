-- Regions that go on to a port.
use Rattle.std.proofs.Common.{◌≡◌, ◌↔◌, ℕ, Bool, true, false, ◌+◌, ◌<◌, ◌≤◌, ◌⊎◌, inl, inr, length, slice_get, List, Option, Some, None, [], ◌∷◌, ◌++◌, refl, sym, subst, arith, Contains, All, length-append}
use Rattle.std.proofs.lemmas.Option.{slice_get_within, same_Some, get_or_from_slice_get}
use Rattle.std.proofs.lemmas.Bool.{cases_lt}
use Rattle.std.proofs.lemmas.List.Elements.{Contains-append_left, Contains-append_right}
use Rattle.std.proofs.lemmas.List.Sorted.{All-permutation, Contains-permutation, IsPermutation-sym, IsPermutation-append_left}
use Rattle.pauli_product.specs.Signed.{Signed}
use Rattle.patch_layout.specs.declared.look.Look.{Look}
use Rattle.patch_layout.specs.declared.walk.Reached.{Reached}
use Rattle.patch_layout.specs.declared.layout.Side.{Side}
use Rattle.patch_layout.specs.declared.layout.Side.TheVariants as side
use Rattle.patch_layout.specs.Grid.{Grid, IsAncilla}
use Rattle.patch_layout.specs.Region.{OnSide, Ascend, sides_from, wanted_sides}
use Rattle.patch_layout.specs.Spread.{starting}
use Rattle.patch_layout.specs.Joined.{Joining, Adds, Grown}
use Rattle.patch_layout.proofs.Places.{get_kept, get_added, get_cases, get_from_Contains, same_entry}
use Rattle.region_plan.specs.Free.{Free, IsOffered}
use Rattle.region_plan.specs.inside.Growing.{CutOff}
use Rattle.region_plan.specs.inside.Tree.{cells_in, Rooted, Grafted}
use Rattle.region_plan.specs.inside.Ways.{Sprung, At, HasTables}
use Rattle.region_plan.specs.inside.Ports.{Unreached, GoesOn, PortTried, NoneReached, PortJoined, CutFromPort, NoneFrom, WayAt, BestWay}
use Rattle.region_plan.specs.declared.growth.Region.{Region}
use Rattle.region_plan.specs.declared.ports.Way.{Way}
use Rattle.region_plan.proofs.Least.{Distinct, adds_distinct}
use Rattle.region_plan.proofs.Rooting.{cells_more}
use Rattle.region_plan.proofs.Regions.{region_one, grown_region, only, in_head}

-- a growth goes on to one more side
grown_more : (g : Grid) (Free : ℕ → Type 0) (have : List ℕ) (ss : List Side) (s : Side) (cells added : List ℕ) → Grown g Free have ss cells → Adds g Free (OnSide g s) cells added
    → Grown g Free have (ss ++ s ∷ []) (cells ++ added)
grown_more g Free have [] s cells added perm ((from, has, leads), least) = (
  added,
  (
    (from, Contains-permutation cells have from (IsPermutation-sym have cells perm) has, leads),
    λ others (from', has', leads'). least others (from', Contains-permutation have cells from' perm has', leads'),
  ),
  IsPermutation-append_left added have cells perm,
)
grown_more g Free have (x ∷ xs) s cells added (a, adds', rest) adds = (a, adds', grown_more g Free (have ++ a) xs s cells added rest adds)

-- the cells of a region are free
pub sprung_free : (g : Grid) (Free : ℕ → Type 0) (sides : List Side) (first : ℕ) (tree : List Reached) (touched : List ℕ) → ((x : ℕ) → Free x → IsAncilla g x) → Sprung g Free sides first tree touched → All Free (cells_in tree)
sprung_free g Free sides first tree touched anc s =
    let (whole, r, perm, holds, all) = grown_region g Free (first ∷ []) sides (cells_in tree) anc (region_one g Free first s.free) s.grown in
    All-permutation Free whole (cells_in tree) perm r.free

-- a region that grew over some sides is joined to one more
pub sprung_more : (g : Grid) (Free : ℕ → Type 0) (sides : List Side) (s : Side) (first : ℕ) (tree after : List Reached) (touched more : List ℕ) (place : ℕ) → Grafted g Free (OnSide g s) tree after (Some place)
    → ((root : ℕ) → Rooted g Free root tree → Rooted g Free root after) → more ≡ touched ++ place ∷ [] → Sprung g Free sides first tree touched → Sprung g Free (sides ++ s ∷ []) first after more
sprung_more g Free sides s first tree after touched more place (added, after-is, adds, (r, r-is, on)) rooted more-is sprung =
    let cells : cells_in after ≡ cells_in tree ++ cells_in added = (let E : List Reached → Type 0 = λ xs. cells_in xs ≡ cells_in tree ++ cells_in added in subst E (sym after-is) (cells_more tree added)) in
    let D : List ℕ → Type 0 = λ x. Distinct x in
    let G : List ℕ → Type 0 = λ x. Grown g Free (first ∷ []) (sides ++ s ∷ []) x in
    let keeps = λ (k : ℕ) (x : Reached) (e : slice_get tree k ≡ Some x).
    let K : List Reached → Type 0 = λ xs. slice_get xs k ≡ Some x in subst K (sym after-is) (get_kept tree added k x e) in
    let touch-kept = λ (k t : ℕ) (e : slice_get touched k ≡ Some t).
    let K : List ℕ → Type 0 = λ xs. slice_get xs k ≡ Some t in subst K (sym more-is) (get_kept touched (place ∷ []) k t e) in
    let new-touch : slice_get more (length sides) ≡ Some place =
    (let K : List ℕ → Type 0 = λ xs. slice_get xs (length sides) ≡ Some place in
    let I : ℕ → Type 0 = λ x. slice_get (touched ++ place ∷ []) x ≡ Some place in subst K (sym more-is) (subst I sprung.as_many (get_added touched place))) in
    record {
      free = sprung.free;
      grown = subst G (sym cells) (grown_more g Free (first ∷ []) sides s (cells_in tree) (cells_in added) sprung.grown adds);
      root = keeps 0 (starting first) sprung.root;
      rooted = rooted first sprung.rooted;
      distinct = subst D (sym cells) (adds_distinct g Free (OnSide g s) (cells_in tree) (cells_in added) adds sprung.distinct);
      as_many = (let L : List ℕ → Type 0 = λ xs. length xs ≡ length (sides ++ s ∷ []) in subst L (sym more-is) (omega (arith, length-append touched (place ∷ []), length-append sides (s ∷ []), sprung.as_many)));
      touches = λ k x lt at'. elim (get_cases sides s k x at') [
        | inl old ↦ let (t, y, t-is, y-is, on') = sprung.touches k x (slice_get_within sides k x old) old in (t, y, touch-kept k t t-is, keeps t y y-is, on')
        | inr (k-is, x-is) ↦
            let O : Side → Type 0 = λ y. OnSide g y r.cell in
            let T : ℕ → Type 0 = λ y. slice_get more y ≡ Some place in
            (place, r, subst T (sym k-is) new-touch, r-is, subst O x-is on)
      ];
    }

-- a side that can't be reached from a region can't be reached from its first cell
pub first_in : (g : Grid) (Free : ℕ → Type 0) (sides : List Side) (first : ℕ) (tree : List Reached) (touched : List ℕ) → Sprung g Free sides first tree touched → ((x : ℕ) → Free x → IsAncilla g x) → Contains (cells_in tree) first
first_in g Free sides first tree touched s anc =
    let (whole, r, perm, holds, all) = grown_region g Free (first ∷ []) sides (cells_in tree) anc (region_one g Free first s.free) s.grown in
    Contains-permutation whole (cells_in tree) first perm (holds first (in_head first []))

pub unreached_cut : (g : Grid) (Free : ℕ → Type 0) (sides : List Side) (s : Side) (first : ℕ) (tree : List Reached) (touched : List ℕ) → ((x : ℕ) → Free x → IsAncilla g x) → Sprung g Free sides first tree touched
    → ((others : List ℕ) → Joining g Free (OnSide g s) (cells_in tree) others → ⊥) → CutOff g Free (first ∷ []) (sides ++ s ∷ [])
unreached_cut g Free sides s first tree touched anc sprung none = (
  s,
  Contains-append_right sides (s ∷ []) s (0, omega arith, refl),
  λ others (from, has, leads).
      let P : ℕ → Type 0 = λ x. Contains (cells_in tree) x in
      none others (from, subst P (only first from has) (first_in g Free sides first tree touched sprung anc), leads),
)

cut_more : (g : Grid) (Free : ℕ → Type 0) (have : List ℕ) (sides more : List Side) → CutOff g Free have sides → CutOff g Free have (sides ++ more)
cut_more g Free have sides more (s, among, none) = (s, Contains-append_left sides more s among, none)

without_end : (xs : List Side) (s : Side) → (xs ++ []) ++ s ∷ [] ≡ xs ++ s ∷ []
without_end [] s = refl
without_end (x ∷ xs) s = let e = without_end xs s in grind arith

-- the sides of the patches, and then the port's
pub port_last : (axis : Signed) (sides : List Side) (f : ℕ) → sides ≡ wanted_sides axis None → sides ++ side.Port f ∷ [] ≡ wanted_sides axis (Some f)
port_last axis sides f e =
    let P : List Side → Type 0 = λ xs. xs ++ side.Port f ∷ [] ≡ wanted_sides axis (Some f) in
    subst P (sym e) (without_end (sides_from 0 axis.letters) (side.Port f))

pub not_reached : (g : Grid) (look : Look) (f : ℕ) (tree after : List Reached) (found : Option ℕ) → found ≡ None → Grafted g (Free g look.held) (OnSide g (side.Port f)) tree after found
    → (after ≡ tree) × Unreached g look f tree
not_reached g look f tree after found e graft = let P : Option ℕ → Type 0 = λ o. Grafted g (Free g look.held) (OnSide g (side.Port f)) tree after o in subst P e graft

-- the region is joined to the port
pub goes_on : (g : Grid) (look : Look) (f : ℕ) (old new : Region) (found : Option ℕ) (place : ℕ) → found ≡ Some place → Grafted g (Free g look.held) (OnSide g (side.Port f)) old.tree.tree new.tree.tree found
    → ((root : ℕ) → Rooted g (Free g look.held) root old.tree.tree → Rooted g (Free g look.held) root new.tree.tree) → new.touched.items ≡ old.touched.items ++ place ∷ [] → GoesOn g look f old new
goes_on g look f old new found place e graft rooted more-is first sides sprung =
    let P : Option ℕ → Type 0 = λ o. Grafted g (Free g look.held) (OnSide g (side.Port f)) old.tree.tree new.tree.tree o in
    sprung_more g (Free g look.held) sides (side.Port f) first old.tree.tree new.tree.tree old.touched.items new.touched.items place (subst P e graft) rooted more-is sprung

-- the region at hand is as it was, and none of the first n ports can be reached
pub record Trying (g : Grid) (look : Look) (old now : Region) (n : ℕ) : Type 0 where
  pub tree : now.tree.tree ≡ old.tree.tree
  pub touched : now.touched.items ≡ old.touched.items
  pub tables : HasTables g now
  pub none : NoneReached g look n old.tree.tree

pub trying_more : (g : Grid) (look : Look) (old now after : Region) (n : ℕ) (yes' : Bool) → Trying g look old now n → yes' ≡ false → PortTried g look n now after yes' → Trying g look old after (n + 1)
trying_more g look old now after n yes' t e tried =
    let P : Bool → Type 0 = λ b. PortTried g look n now after b in
    let (tree, touched, tables, none) = subst P e tried in
    let T : List Reached → Type 0 = λ x. after.tree.tree ≡ x in
    let U : List ℕ → Type 0 = λ x. after.touched.items ≡ x in
    record {
      tree = subst T t.tree tree;
      touched = subst U t.touched touched;
      tables = tables;
      none = λ f lt offered. elim (cases_lt f n) [
        | inl less ↦ t.none f less offered
        | inr ge ↦
            let same : f ≡ n = omega arith in
            let O : ℕ → Type 0 = λ x. IsOffered g look x in
            let Q : ℕ → Type 0 = λ x. Unreached g look x old.tree.tree in
            let R : List Reached → Type 0 = λ x. Unreached g look n x in
            subst Q (sym same) (subst R t.tree (none (subst O same offered)))
      ];
    }

pub trying_done : (g : Grid) (look : Look) (old now after : Region) (n m : ℕ) (yes' : Bool) → Trying g look old now n → n < m → yes' ≡ true → PortTried g look n now after yes' → PortJoined g look m old after (Some n)
trying_done g look old now after n m yes' t lt e tried =
    let P : Bool → Type 0 = λ b. PortTried g look n now after b in
    let (offered, on) = subst P e tried in (
      lt,
      offered,
      t.none,
      λ first sides sprung.
          let S : List Reached → Type 0 = λ x. Sprung g (Free g look.held) sides first x old.touched.items in
          let U : List ℕ → Type 0 = λ x. Sprung g (Free g look.held) sides first now.tree.tree x in
          on first sides (subst U (sym t.touched) (subst S (sym t.tree) sprung)),
    )

-- no port is offered
pub way_unoffered : (g : Grid) (look : Look) (cell : Option ℕ) (n : ℕ) → ((f : ℕ) → f < n → IsOffered g look f → ⊥) → WayAt g look cell n None
way_unoffered g look cell n none c same free f lt offered = absurd (none f lt offered)

-- the patches can't be joined
pub way_apart : (g : Grid) (look : Look) (cell : Option ℕ) (n : ℕ) (sides : List Side) (found : Option Region) → sides ≡ wanted_sides look.axis None → found ≡ None → At g (Free g look.held) cell sides found → WayAt g look cell n None
way_apart g look cell n sides found asked e at' c same free f lt offered =
    let P : Option Region → Type 0 = λ o. At g (Free g look.held) cell sides o in
    let Q : List Side → Type 0 = λ xs. CutOff g (Free g look.held) (c ∷ []) xs in
    subst Q (port_last look.axis sides f asked) (cut_more g (Free g look.held) (c ∷ []) sides (side.Port f ∷ []) (subst P e at' c same free))

pub at_some : (g : Grid) (look : Look) (cell : Option ℕ) (sides : List Side) (found : Option Region) (r : Region) → found ≡ Some r → At g (Free g look.held) cell sides found → At g (Free g look.held) cell sides (Some r)
at_some g look cell sides found r e at' = let P : Option Region → Type 0 = λ o. At g (Free g look.held) cell sides o in subst P e at'

none_from : (g : Grid) (look : Look) (n : ℕ) (sides : List Side) (first : ℕ) (tree : List Reached) (touched : List ℕ) → sides ≡ wanted_sides look.axis None → Sprung g (Free g look.held) sides first tree touched
    → NoneReached g look n tree → NoneFrom g look n first
none_from g look n sides first tree touched asked sprung none f lt offered =
    let Q : List Side → Type 0 = λ xs. CutOff g (Free g look.held) (first ∷ []) xs in
    subst Q (port_last look.axis sides f asked) (unreached_cut g (Free g look.held) sides (side.Port f) first tree touched (λ x free. free.0) sprung (none f lt offered))

-- no port can be reached
pub way_none : (g : Grid) (look : Look) (cell : Option ℕ) (n : ℕ) (sides : List Side) (old new : Region) (found : Option ℕ) → sides ≡ wanted_sides look.axis None → At g (Free g look.held) cell sides (Some old)
    → found ≡ None → PortJoined g look n old new found → WayAt g look cell n None
way_none g look cell n sides old new found asked (first, cell-is, sprung, tables) e joined c same free =
    let P : Option ℕ → Type 0 = λ o. PortJoined g look n old new o in
    let here : Some first ≡ Some c = (let O : Option ℕ → Type 0 = λ o. o ≡ Some c in subst O cell-is same) in
    let Q : ℕ → Type 0 = λ x. NoneFrom g look n x in
    subst Q (same_Some first c here) (none_from g look n sides first old.tree.tree old.touched.items asked sprung (subst P e joined))

-- the region goes through the port
pub way_some : (g : Grid) (look : Look) (cell : Option ℕ) (n : ℕ) (sides : List Side) (old new : Region) (found : Option ℕ) (f : ℕ) (w : Way) → sides ≡ wanted_sides look.axis None → At g (Free g look.held) cell sides (Some old)
    → found ≡ Some f → PortJoined g look n old new found → w ≡ record { region = new; factory = f } → WayAt g look cell n (Some w)
way_some g look cell n sides old new found f w asked (first, cell-is, sprung, tables) e joined w-is =
    let P : Option ℕ → Type 0 = λ o. PortJoined g look n old new o in
    let (lt, offered, none, on) = subst P e joined in
    let S : List Side → Type 0 = λ xs. Sprung g (Free g look.held) xs first new.tree.tree new.touched.items in
    let W : Way → Type 0 = λ x. WayAt g look cell n (Some x) in
    subst W (sym w-is) (
      first,
      cell-is,
      lt,
      offered,
      none_from g look f sides first old.tree.tree old.touched.items asked sprung none,
      subst S (port_last look.axis sides f asked) (on first sides sprung),
    )

-- the two cells of a side
pub record TwoCells (g : Grid) (s : Side) (pair : List (Option ℕ)) (a b : Option ℕ) : Type 0 where
  pub on : (d : ℕ) → Contains pair (Some d) ↔ OnSide g s d
  pub up : Ascend pair
  pub two : length pair ≡ 2
  pub first : slice_get pair 0 ≡ Some a
  pub second : slice_get pair 1 ≡ Some b

one_of : (g : Grid) (s : Side) (pair : List (Option ℕ)) (a b : Option ℕ) → TwoCells g s pair a b → (c : ℕ) → OnSide g s c → (a ≡ Some c) ⊎ (b ≡ Some c)
one_of g s pair a b t c on-c =
    let (i, is) = get_from_Contains pair (Some c) ((t.on c).1 on-c) in
    let lt : i < length pair = slice_get_within pair i (Some c) is in
    let two : length pair ≡ 2 = t.two in
    let P : ℕ → Type 0 = λ x. slice_get pair x ≡ Some (Some c) in
    elim (cases_lt i 1) [
      | inl less ↦ let z : i ≡ 0 = omega arith in inl (same_entry pair 0 a (Some c) t.first (subst P z is))
      | inr ge ↦ let z : i ≡ 1 = omega arith in inr (same_entry pair 1 b (Some c) t.second (subst P z is))
    ]

on_side : (g : Grid) (s : Side) (pair : List (Option ℕ)) (k : ℕ) (a : Option ℕ) (c : ℕ) → ((d : ℕ) → Contains pair (Some d) ↔ OnSide g s d) → slice_get pair k ≡ Some a → a ≡ Some c → OnSide g s c
on_side g s pair k a c on is e =
    let P : Option ℕ → Type 0 = λ o. slice_get pair k ≡ Some o in
    let here : slice_get pair k ≡ Some (Some c) = subst P e is in
    (on c).0 (k, slice_get_within pair k (Some c) here, get_or_from_slice_get pair k (Some c) (Some c) here)

same_cell : (a : Option ℕ) (c d : ℕ) → a ≡ Some c → a ≡ Some d → c ≡ d
same_cell a c d ec ed = let O : Option ℕ → Type 0 = λ o. o ≡ Some d in same_Some c d (subst O ec ed)

-- the first cell serves, and the second through no lesser port
pub best_near : (g : Grid) (look : Look) (s : Side) (pair : List (Option ℕ)) (a b : Option ℕ) (n : ℕ) (w : Way) (near lesser : Option Way) → TwoCells g s pair a b → near ≡ Some w → WayAt g look a n near
    → lesser ≡ None → WayAt g look b w.factory lesser → BestWay g look s (Some w)
best_near g look s pair a b n w near lesser t near-is way none-is far =
    let N : Option Way → Type 0 = λ o. WayAt g look a n o in
    let L : Option Way → Type 0 = λ o. WayAt g look b w.factory o in
    let other : WayAt g look b w.factory None = subst L none-is far in
    let (first, a-is, lt, offered, none, sprung) = subst N near-is way in (
      offered,
      λ f less off c free on-c. elim (one_of g s pair a b t c on-c) [
        | inl at-a ↦ let C : ℕ → Type 0 = λ x. CutFromPort g look f x in subst C (same_cell a first c a-is at-a) (none f less off)
        | inr at-b ↦ other c at-b free f less off
      ],
      (
        first,
        on_side g s pair 0 a first t.on t.first a-is,
        sprung,
        λ c less free on-c. elim (one_of g s pair a b t c on-c) [
          | inl at-a ↦ let e : first ≡ c = same_cell a first c a-is at-a in absurd (omega arith)
          | inr at-b ↦
              let A : Option ℕ → Type 0 = λ o. slice_get pair 0 ≡ Some o in
              let B : Option ℕ → Type 0 = λ o. slice_get pair 1 ≡ Some o in
              let le : first ≤ c = t.up first c (subst A a-is t.first) (subst B at-b t.second) in
              absurd (omega arith)
        ],
      ),
    )

-- the second cell serves, and the first through no port up to there
pub best_far : (g : Grid) (look : Look) (s : Side) (pair : List (Option ℕ)) (a b : Option ℕ) (n : ℕ) (w : Way) → TwoCells g s pair a b
    → ((c : ℕ) → a ≡ Some c → Free g look.held c → NoneFrom g look n c) → WayAt g look b n (Some w) → BestWay g look s (Some w)
best_far g look s pair a b n w t others (first, b-is, lt, offered, none, sprung) = (
  offered,
  λ f less off c free on-c. elim (one_of g s pair a b t c on-c) [
    | inl at-a ↦ others c at-a free f (omega arith) off
    | inr at-b ↦ let C : ℕ → Type 0 = λ x. CutFromPort g look f x in subst C (same_cell b first c b-is at-b) (none f less off)
  ],
  (
    first,
    on_side g s pair 1 b first t.on t.second b-is,
    sprung,
    λ c less free on-c. elim (one_of g s pair a b t c on-c) [
      | inl at-a ↦ others c at-a free w.factory lt offered
      | inr at-b ↦ let e : first ≡ c = same_cell b first c b-is at-b in absurd (omega arith)
    ],
  ),
)

-- the second cell serves through a lesser port than the first
pub best_lesser : (g : Grid) (look : Look) (s : Side) (pair : List (Option ℕ)) (a b : Option ℕ) (n : ℕ) (w v : Way) (near lesser : Option Way) → TwoCells g s pair a b → near ≡ Some w → WayAt g look a n near
    → lesser ≡ Some v → WayAt g look b w.factory lesser → BestWay g look s (Some v)
best_lesser g look s pair a b n w v near lesser t near-is way lesser-is far =
    let N : Option Way → Type 0 = λ o. WayAt g look a n o in
    let L : Option Way → Type 0 = λ o. WayAt g look b w.factory o in
    let (first, a-is, lt, offered, none, sprung) = subst N near-is way in
    best_far g look s pair a b w.factory v t
    (λ c at-a free. let Q : ℕ → Type 0 = λ x. NoneFrom g look w.factory x in subst Q (same_cell a first c a-is at-a) none) (subst L lesser-is far)

-- the first cell doesn't serve
pub best_second : (g : Grid) (look : Look) (s : Side) (pair : List (Option ℕ)) (a b : Option ℕ) (n : ℕ) (near other : Option Way) → TwoCells g s pair a b → n ≡ length look.ready → near ≡ None → WayAt g look a n near
    → WayAt g look b n other → BestWay g look s other
best_second g look s pair a b n near None t count none-is way far = λ f lt offered c free on-c.
    let N : Option Way → Type 0 = λ o. WayAt g look a n o in
    let none : WayAt g look a n None = subst N none-is way in
    let less : f < n = omega arith in
    elim (one_of g s pair a b t c on-c) [ inl at-a ↦ none c at-a free f less offered | inr at-b ↦ far c at-b free f less offered ]
best_second g look s pair a b n near (Some w) t count none-is way far =
    let N : Option Way → Type 0 = λ o. WayAt g look a n o in
    let none : WayAt g look a n None = subst N none-is way in
    best_far g look s pair a b n w t none far
