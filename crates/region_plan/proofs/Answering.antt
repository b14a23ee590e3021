-- Which ports and cells serve.
use Rattle.std.proofs.Common.{◌≡◌, ◌≢◌, ◌↔◌, not, IsTrue, ℕ, zero, suc, Bool, true, false, ◌+◌, ◌<◌, ◌≤◌, length, get_or, slice_get, List, Option, Some, None, is_some, [], ◌∷◌, ◌++◌, refl, sym, subst, arith, Contains, All, length-append}
use Rattle.std.specs.List.Sorted.{IsPermutation}
use Rattle.std.proofs.lemmas.Option.{slice_get_within, same_Some}
use Rattle.std.proofs.lemmas.Bool.{false≢true}
use Rattle.std.proofs.lemmas.List.Elements.{All-cons, All-head, All-contains}
use Rattle.std.proofs.lemmas.List.Sorted.{IsPermutation-trans}
use Rattle.pauli_product.specs.declared.Letter.{Letter}
use Rattle.pauli_product.specs.declared.Letter.TheVariants as letter
use Rattle.pauli_product.specs.Signed.{Signed, HasLetter}
use Rattle.patch_layout.specs.declared.look.Look.{Look}
use Rattle.patch_layout.specs.declared.plan.Plan.{Plan}
use Rattle.patch_layout.specs.declared.layout.Side.{Side}
use Rattle.patch_layout.specs.declared.layout.Side.TheVariants as side
use Rattle.patch_layout.specs.Grid.{Grid, Sound, IsAncilla}
use Rattle.patch_layout.specs.Region.{Fit, Touches, wanted_sides, sides_of, sides_from, port_side, OnSide}
use Rattle.patch_layout.specs.Joined.{Grown}
use Rattle.patch_layout.specs.Certificate.{Certified}
use Rattle.patch_layout.specs.Case.{case_of}
use Rattle.region_plan.specs.Free.{Free, HasState, LacksState, MayTake, FitsFree, Serves, IsOffered}
use Rattle.region_plan.specs.inside.Growing.{CutOff}
use Rattle.region_plan.specs.inside.Tree.{cells_in}
use Rattle.region_plan.specs.inside.Ways.{Sprung, Served}
use Rattle.region_plan.specs.Answer.{GrownFrom, GrownFromLeast, IsRegion}
use Rattle.region_plan.specs.inside.Finish.{Planning, Finished, Through, Found}
use Rattle.region_plan.specs.inside.Ports.{NoneOn, BestWay}
use Rattle.region_plan.specs.declared.growth.Region.{Region}
use Rattle.region_plan.specs.declared.ports.Way.{Way}
use Rattle.patch_layout.proofs.Laws.{law_certified_fits}
use Rattle.region_plan.proofs.Regions.{region_one, grown_region, no_region, in_head}
use Rattle.region_plan.proofs.Porting.{port_last}

-- a letter asks for a side
some_of : (q : ℕ) (l : Letter) (rest : List Side) → l ≢ letter.I → 0 < length (sides_of q l ++ rest)
some_of q letter.I rest other = absurd (other refl)
some_of q letter.X rest other = omega arith
some_of q letter.Y rest other = omega arith
some_of q letter.Z rest other = omega arith

some_from : (ls : List Letter) (q k : ℕ) (l : Letter) → slice_get ls k ≡ Some l → l ≢ letter.I → 0 < length (sides_from q ls)
some_from [] q k l is other = absurd (cc)
some_from (m ∷ ls) q zero l is other = let same : m ≡ l = grind arith in some_of q m (sides_from (q + 1) ls) (λ e. other (let f : l ≡ letter.I = cc in f))
some_from (m ∷ ls) q (suc k) l is other = let w : 0 < length (sides_from (q + 1) ls) = some_from ls (q + 1) k l is other in omega (arith, length-append (sides_of q m) (sides_from (q + 1) ls))

pub some_sides : (axis : Signed) (port : Option ℕ) (q : ℕ) → HasLetter axis q → 0 < length (wanted_sides axis port)
some_sides axis port q (l, is, other) = omega (arith, some_from axis.letters 0 q l is other, length-append (sides_from 0 axis.letters) (port_side port))

grown_permuted : (g : Grid) (Free : ℕ → Type 0) (have : List ℕ) (ss : List Side) (cells sorted : List ℕ) → Grown g Free have ss cells → IsPermutation cells sorted → Grown g Free have ss sorted
grown_permuted g Free have [] cells sorted grown perm = IsPermutation-trans have cells sorted grown perm
grown_permuted g Free have (s ∷ ss) cells sorted (added, adds, rest) perm = (added, adds, grown_permuted g Free (have ++ added) ss cells sorted rest perm)

empty : (xs : List ℕ) → length xs ≤ 0 → xs ≡ []
empty [] b = refl
empty (x ∷ xs) b = absurd (omega arith)

-- the first cell lies on the first side, which so adds no cell
pub grown_from : (g : Grid) (Free : ℕ → Type 0) (sides : List Side) (s : Side) (first : ℕ) (cells : List ℕ) → s ≡ get_or sides 0 s → 0 < length sides → Free first → OnSide g s first
    → Grown g Free (first ∷ []) sides cells → GrownFrom g Free sides first cells
grown_from g Free [] s first cells e some free on grown = absurd (omega arith)
grown_from g Free (x ∷ xs) s first cells e some free on (added, (joining, least), rest) =
    let O : Side → Type 0 = λ y. OnSide g y first in
    let on' : OnSide g x first = subst O e on in
    let none : added ≡ [] = empty added (least [] (first, in_head first [], on')) in
    let P : List ℕ → Type 0 = λ ys. Grown g Free ((first ∷ []) ++ ys) xs cells in
    (free, on', subst P none rest)

-- nothing grows from a cell that is cut off
pub cut_grows_not : (g : Grid) (Free : ℕ → Type 0) (sides : List Side) (c : ℕ) (cells : List ℕ) → ((x : ℕ) → Free x → IsAncilla g x) → CutOff g Free (c ∷ []) sides → GrownFrom g Free sides c cells → ⊥
cut_grows_not g Free [] c cells anc cut grown = grown
cut_grows_not g Free (x ∷ xs) c cells anc (side, among, none) (free, on, grown) =
    let (whole, r, perm, holds, all) = grown_region g Free (c ∷ []) xs cells anc (region_one g Free c free) grown in
    let has : Contains whole c = holds c (in_head c []) in
    let touched : All (Touches g whole) (x ∷ xs) = All-cons (Touches g whole) x xs (c, has, on) all in
    no_region g Free c side none whole r.free r.joined has (All-contains (Touches g whole) (x ∷ xs) side touched among)

on_first : (g : Grid) (Free : ℕ → Type 0) (sides : List Side) (s : Side) (c : ℕ) (cells : List ℕ) → s ≡ get_or sides 0 s → GrownFrom g Free sides c cells → Free c × OnSide g s c
on_first g Free [] s c cells e grown = absurd grown
on_first g Free (x ∷ xs) s c cells e (free, on, grown) = let O : Side → Type 0 = λ y. OnSide g y c in (free, subst O (sym e) on)

-- the plan through a port
pub through_some : (g : Grid) (look : Look) (port : Option ℕ) (s : Side) (sides : List Side) (found : Option Region) (r : Region) (p : Plan) → sides ≡ wanted_sides look.axis port → s ≡ get_or sides 0 s → 0 < length sides
    → found ≡ Some r → Served g (Free g look.held) s sides found → Finished g look port (cells_in r.tree.tree) p → Through g look port (Some p)
through_some g look port s sides found r p asked first-is some found-is served (planning, perm) =
    let P : Option Region → Type 0 = λ o. Served g (Free g look.held) s sides o in
    let (first, on, sprung, least) = subst P found-is served in
    let Q : List Side → Type 0 = λ ss. GrownFromLeast g (Free g look.held) ss p.cells in (
      planning,
      subst Q asked (
        first,
        grown_from g (Free g look.held) sides s first p.cells first-is some sprung.free on (grown_permuted g (Free g look.held) (first ∷ []) sides (cells_in r.tree.tree) p.cells sprung.grown perm),
        λ c others less grown.
            let (free, on-side) = on_first g (Free g look.held) sides s c others first-is grown in
            cut_grows_not g (Free g look.held) sides c others (λ x f. f.0) (least c less free on-side) grown,
      ),
    )

touched_first : (g : Grid) (cells : List ℕ) (sides : List Side) (s : Side) → s ≡ get_or sides 0 s → 0 < length sides → All (Touches g cells) sides → Touches g cells s
touched_first g cells [] s e some all = absurd (omega arith)
touched_first g cells (x ∷ xs) s e some all = let T : Side → Type 0 = λ y. Touches g cells y in subst T (sym e) (All-head (Touches g cells) x xs all)

-- nothing serves, so no region fits
pub through_none : (g : Grid) (look : Look) (port : Option ℕ) (s : Side) (sides : List Side) (found : Option Region) → sides ≡ wanted_sides look.axis port → s ≡ get_or sides 0 s → 0 < length sides
    → found ≡ None → Served g (Free g look.held) s sides found → Through g look port None
through_none g look port s sides found asked first-is some found-is served (cells, (fit, all)) =
    let P : Option Region → Type 0 = λ o. Served g (Free g look.held) s sides o in
    let none : Served g (Free g look.held) s sides None = subst P found-is served in
    let Q : List Side → Type 0 = λ xs. All (Touches g cells) xs in
    let touched : All (Touches g cells) sides = subst Q (sym asked) fit.touched in
    let (d, has, on) = touched_first g cells sides s first-is some touched in
    let (x, among, cut) = none d (All-contains (Free g look.held) cells d all has) on in
    no_region g (Free g look.held) d x cut cells all fit.joined has (All-contains (Touches g cells) sides x touched among)

-- no region through any of the first n factories
abbrev pub NoneThrough : Grid → Look → ℕ → Type 0
NoneThrough g look n = (f : ℕ) → f < n → IsOffered g look f → Serves g look (Some f) → ⊥

-- the region of a plan for a look
pub region_of : (g : Grid) (look : Look) (port : Option ℕ) (p : Plan) → Planning g look port p → MayTake g look port → is_some port ≡ look.rotation → IsRegion g look p
region_of g look port p planning may kind =
    let P : Option ℕ → Type 0 = λ o. MayTake g look o in
    let Q : Bool → Type 0 = λ b. Certified (case_of g b p) in
    record {
      number = planning.number;
      axis = planning.axis;
      port = subst P (sym planning.port-is) may;
      free = planning.free;
      certified = subst Q kind planning.certified;
    }

-- the first factory that is offered and serves
pub found_some : (g : Grid) (look : Look) (n : ℕ) (p : Plan) → look.rotation ≡ true → NoneThrough g look n → IsOffered g look n → Through g look (Some n) (Some p) → Found g look (Some p)
found_some g look n p rotation none offered (planning, grown) =
    let Q : Option ℕ → Type 0 = λ o. GrownFromLeast g (Free g look.held) (wanted_sides look.axis o) p.cells in (
      region_of g look (Some n) p planning (rotation, offered) (sym rotation),
      (
        λ f other is less (rot, offered') serves.
            let same : Some n ≡ Some f = (let e : p.port ≡ Some n = planning.port-is in cc) in
            let w : n ≡ f = same_Some n f same in
            none other (omega arith) offered' serves,
        subst Q (sym planning.port-is) grown,
      ),
    )

-- no factory that is offered serves
pub found_none : (g : Grid) (look : Look) (n : ℕ) → look.rotation ≡ true → length look.ready ≤ n → NoneThrough g look n → Found g look None
found_none g look n rotation all none None may serves = false≢true (let e : false ≡ true = cc in e)
found_none g look n rotation all none (Some f) (rot, (state, port)) serves =
    none f (let w : f < length look.ready = slice_get_within look.ready f state.0 state.1 in omega arith) (state, port) serves

not_through : (g : Grid) (look : Look) → look.rotation ≡ false → (Serves g look None → ⊥) → Found g look None
not_through g look measured none None may serves = none serves
not_through g look measured none (Some f) (rot, offered) serves = false≢true (let e : false ≡ true = cc in e)

-- a measurement
pub found_through : (g : Grid) (look : Look) (found : Option Plan) → look.rotation ≡ false → Through g look None found → Found g look found
found_through g look None measured none = not_through g look measured none
found_through g look (Some p) measured (planning, grown) =
    let Q : Option ℕ → Type 0 = λ o. GrownFromLeast g (Free g look.held) (wanted_sides look.axis o) p.cells in (
      region_of g look None p planning measured (sym measured),
      (
        λ f other is less may serves. (let e : p.port ≡ None = planning.port-is in absurd (cc)),
        subst Q (sym planning.port-is) grown,
      ),
    )

-- what serves grew over the wanted sides
pub served_region : (g : Grid) (look : Look) (port : Option ℕ) (s : Side) (sides : List Side) (found : Option Region) (r : Region) → sides ≡ wanted_sides look.axis port
    → found ≡ Some r → Served g (Free g look.held) s sides found → (first : ℕ) × Sprung g (Free g look.held) (wanted_sides look.axis port) first r.tree.tree r.touched.items
served_region g look port s sides found r asked found-is served =
    let P : Option Region → Type 0 = λ o. Served g (Free g look.held) s sides o in
    let (first, on, sprung, least) = subst P found-is served in
    let Q : List Side → Type 0 = λ ss. Sprung g (Free g look.held) ss first r.tree.tree r.touched.items in
    (first, subst Q asked sprung)

pub lacks : (look : Look) (r : Bool) → look.rotation ≡ true → (IsTrue r ↔ ((f : ℕ) × HasState look f)) → IsTrue (not r) ↔ LacksState look
lacks look true rotation test = (
  λ t. absurd (false≢true t),
  λ (rot, none). let (f, has) = test.0 refl in absurd (none f has),
)
lacks look false rotation test = (
  λ t. (rotation, λ f has. false≢true (test.1 (f, has))),
  λ _. refl,
)

-- a region that the check passes fits
pub region_fits : (g : Grid) (look : Look) (p : Plan) → Sound g → IsRegion g look p → FitsFree g look p.port p.cells
region_fits g look p sound r =
    let P : Signed → Type 0 = λ a. Fit g a p.port p.cells in
    (subst P r.axis (law_certified_fits (case_of g look.rotation p) sound r.certified), r.free)

head_kept : (sides more : List Side) (s : Side) → 0 < length sides → s ≡ get_or sides 0 s → s ≡ get_or (sides ++ more) 0 s
head_kept [] more s some e = absurd (omega arith)
head_kept (x ∷ xs) more s some e = e

head_to : (axis : Signed) (sides : List Side) (s : Side) (f : ℕ) → sides ≡ wanted_sides axis None → s ≡ get_or sides 0 s → 0 < length sides
    → (s ≡ get_or (wanted_sides axis (Some f)) 0 s) × (0 < length (wanted_sides axis (Some f)))
head_to axis sides s f asked first-is some =
    let P : List Side → Type 0 = λ xs. (s ≡ get_or xs 0 s) × (0 < length xs) in
    subst P (port_last axis sides f asked) (head_kept sides (side.Port f ∷ []) s some first-is, omega (arith, length-append sides (side.Port f ∷ [])))

none_on : (g : Grid) (look : Look) (s : Side) (sides : List Side) (n : ℕ) → sides ≡ wanted_sides look.axis None → s ≡ get_or sides 0 s → 0 < length sides → NoneOn g look s n → NoneThrough g look n
none_on g look s sides n asked first-is some none f lt offered =
    let (head, some') = head_to look.axis sides s f asked first-is some in
    through_none g look (Some f) s (wanted_sides look.axis (Some f)) None refl head some' refl (none f lt offered)

pub best_some : (g : Grid) (look : Look) (s : Side) (found : Option Way) (w : Way) → found ≡ Some w → BestWay g look s found → BestWay g look s (Some w)
best_some g look s found w e best = let P : Option Way → Type 0 = λ o. BestWay g look s o in subst P e best

-- a rotation's plan
pub found_way : (g : Grid) (look : Look) (s : Side) (sides : List Side) (w : Way) (p : Plan) → look.rotation ≡ true → sides ≡ wanted_sides look.axis None → s ≡ get_or sides 0 s → 0 < length sides
    → BestWay g look s (Some w) → Finished g look (Some w.factory) (cells_in w.region.tree.tree) p → Found g look (Some p)
found_way g look s sides w p rotation asked first-is some (offered, none, served) finished =
    let (head, some') = head_to look.axis sides s w.factory asked first-is some in
    found_some g look w.factory p rotation (none_on g look s sides w.factory asked first-is some none) offered
    (through_some g look (Some w.factory) s (wanted_sides look.axis (Some w.factory)) (Some w.region) w.region p refl head some' refl served finished)

pub found_no_way : (g : Grid) (look : Look) (s : Side) (sides : List Side) (found : Option Way) → look.rotation ≡ true → sides ≡ wanted_sides look.axis None → s ≡ get_or sides 0 s → 0 < length sides
    → found ≡ None → BestWay g look s found → Found g look None
found_no_way g look s sides found rotation asked first-is some none-is best =
    let P : Option Way → Type 0 = λ o. BestWay g look s o in
    found_none g look (length look.ready) rotation (omega arith) (none_on g look s sides (length look.ready) asked first-is some (subst P none-is best))
