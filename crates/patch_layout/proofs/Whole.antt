-- All ancilla cells: a region that fits, in ascending order.
use Rattle.std.proofs.Common.{◌≡◌, ◌≢◌, ℕ, zero, suc, Bool, true, false, ◌+◌, ◌-◌, ◌<◌, ◌≤◌, length, slice_get, drop, get_or, Option, Some, None, List, [], ◌∷◌, ◌++◌, refl, sym, subst, ap, arith, All, Contains, append_assoc, ◌∙◌}
use Rattle.std.proofs.lemmas.Option.{slice_get-get_or}
use Rattle.std.proofs.lemmas.List.Elements.{All-cons}
use Rattle.pauli_product.specs.declared.Letter.{Letter}
use Rattle.pauli_product.specs.declared.Letter.TheVariants as letter
use Rattle.patch_layout.specs.declared.layout.Edge.{Edge}
use Rattle.patch_layout.specs.declared.layout.Edge.TheVariants as edge
use Rattle.patch_layout.specs.declared.layout.Side.{Side}
use Rattle.patch_layout.specs.declared.layout.Side.TheVariants as side
use Rattle.patch_layout.specs.declared.layout.Site.{Site}
use Rattle.patch_layout.specs.declared.layout.Site.TheVariants as site
use Rattle.patch_layout.specs.Grid.{Grid, Open, Demand, IsAncilla, sides_at, beside, lies_level, ancilla, if_ancilla, left, right, above, below}
use Rattle.patch_layout.specs.Region.{OnSide, Touches, sides_of, sides_from, port_side}
use Rattle.patch_layout.specs.Row.{ancilla_from, ancilla_cells, HasNamed, WholeFits, WholeAscends, WholeIsAncilla, IsUsed}
use Rattle.patch_layout.proofs.Places.{get_below, Contains_from_get, get_from_Contains}
use Rattle.patch_layout.proofs.Asked.{drop_get}
use Rattle.patch_layout.proofs.OnSides.{none_on}
use Rattle.patch_layout.proofs.Fits.{cells_distinct}
use Rattle.patch_layout.proofs.Certifying.{cells_fit}
use Rattle.patch_layout.proofs.Trees.{leads_wider}

past : (c : ℕ) (s : Site) (ss : List Site) (x : ℕ) → (c + 1 ≤ x) × (slice_get ss (x - (c + 1)) ≡ Some site.Ancilla) → (c ≤ x) × (slice_get (s ∷ ss) (x - c) ≡ Some site.Ancilla)
past c s ss x (le, is) =
    let e : suc (x - (c + 1)) ≡ x - c = omega arith in
    let P : ℕ → Type 0 = λ n. slice_get (s ∷ ss) n ≡ Some site.Ancilla in
    (omega arith, subst P e is)

-- each listed cell is an ancilla cell, and not below the first number
pub listed : (c : ℕ) (ss : List Site) (k x : ℕ) → slice_get (ancilla_from c ss) k ≡ Some x → (c ≤ x) × (slice_get ss (x - c) ≡ Some site.Ancilla)
listed c [] k x e = absurd (cc)
listed c (site.Ancilla ∷ ss) zero x e =
    let same : c ≡ x = grind arith in
    let z : 0 ≡ x - c = omega arith in
    let P : ℕ → Type 0 = λ n. slice_get (site.Ancilla ∷ ss) n ≡ Some site.Ancilla in
    (omega arith, subst P z refl)
listed c (site.Ancilla ∷ ss) (suc k) x e = past c site.Ancilla ss x (listed (c + 1) ss k x e)
listed c (site.Wall ∷ ss) k x e = past c site.Wall ss x (listed (c + 1) ss k x e)
listed c (site.Patch q l ∷ ss) k x e = past c (site.Patch q l) ss x (listed (c + 1) ss k x e)
listed c (site.Port f l s ∷ ss) k x e = past c (site.Port f l s) ss x (listed (c + 1) ss k x e)

more_has : (c : ℕ) (xs : List ℕ) (x y : ℕ) → x ≡ y → Contains xs x → Contains (c ∷ xs) y
more_has c xs x y e has =
    let (k, is) = get_from_Contains xs x has in
    let P : ℕ → Type 0 = λ n. Contains (c ∷ xs) n in
    subst P e (Contains_from_get (c ∷ xs) (suc k) x is)

same_has : (xs : List ℕ) (x y : ℕ) → x ≡ y → Contains xs x → Contains xs y
same_has xs x y e has = let P : ℕ → Type 0 = λ n. Contains xs n in subst P e has

-- each ancilla cell is listed
pub listing : (c : ℕ) (ss : List Site) (k : ℕ) → slice_get ss k ≡ Some site.Ancilla → Contains (ancilla_from c ss) (c + k)
listing c [] k e = absurd (cc)
listing c (site.Ancilla ∷ ss) zero e = Contains_from_get (c ∷ ancilla_from (c + 1) ss) 0 (c + 0) (let w : c ≡ c + 0 = omega arith in ap (λ (x : ℕ). Some x) w)
listing c (site.Ancilla ∷ ss) (suc k) e = more_has c (ancilla_from (c + 1) ss) (c + 1 + k) (c + suc k) (omega arith) (listing (c + 1) ss k e)
listing c (site.Wall ∷ ss) zero e = absurd (cc)
listing c (site.Wall ∷ ss) (suc k) e = same_has (ancilla_from (c + 1) ss) (c + 1 + k) (c + suc k) (omega arith) (listing (c + 1) ss k e)
listing c (site.Patch q l ∷ ss) zero e = absurd (cc)
listing c (site.Patch q l ∷ ss) (suc k) e = same_has (ancilla_from (c + 1) ss) (c + 1 + k) (c + suc k) (omega arith) (listing (c + 1) ss k e)
listing c (site.Port f l s ∷ ss) zero e = absurd (cc)
listing c (site.Port f l s ∷ ss) (suc k) e = same_has (ancilla_from (c + 1) ss) (c + 1 + k) (c + suc k) (omega arith) (listing (c + 1) ss k e)

pub whole_ancilla : (g : Grid) (c : ℕ) → IsAncilla g c → Contains (ancilla_cells g) c
whole_ancilla g c is = same_has (ancilla_cells g) (0 + c) c (omega arith) (listing 0 g.sites c is)

pub ancilla_whole : (g : Grid) (k x : ℕ) → slice_get (ancilla_cells g) k ≡ Some x → IsAncilla g x
ancilla_whole g k x e =
    let z : x - 0 ≡ x = omega arith in
    let P : ℕ → Type 0 = λ n. slice_get g.sites n ≡ Some site.Ancilla in
    subst P z (listed 0 g.sites k x e).1

-- the list ascends
ascends_from : (c : ℕ) (ss : List Site) (j a b : ℕ) → slice_get (ancilla_from c ss) j ≡ Some a → slice_get (ancilla_from c ss) (suc j) ≡ Some b → a < b
ascends_from c [] j a b ea eb = absurd (cc)
ascends_from c (site.Ancilla ∷ ss) zero a b ea eb =
    let same : c ≡ a = grind arith in
    let l = listed (c + 1) ss 0 b eb in omega (arith, l.0)
ascends_from c (site.Ancilla ∷ ss) (suc j) a b ea eb = ascends_from (c + 1) ss j a b ea eb
ascends_from c (site.Wall ∷ ss) j a b ea eb = ascends_from (c + 1) ss j a b ea eb
ascends_from c (site.Patch q l ∷ ss) j a b ea eb = ascends_from (c + 1) ss j a b ea eb
ascends_from c (site.Port f l s ∷ ss) j a b ea eb = ascends_from (c + 1) ss j a b ea eb

pub whole_ascends : WholeAscends
whole_ascends g j a b ea eb =
    let e : j + 1 ≡ suc j = omega arith in
    let P : ℕ → Type 0 = λ n. slice_get (ancilla_cells g) n ≡ Some b in
    ascends_from 0 g.sites j a b ea (subst P e eb)

pub whole_is_ancilla : WholeIsAncilla
whole_is_ancilla g c is = whole_ancilla g c is

pub all_ancilla : (g : Grid) → All (IsAncilla g) (ancilla_cells g)
all_ancilla g k d b = ancilla_whole g k (get_or (ancilla_cells g) k d) (slice_get-get_or (ancilla_cells g) k d b)

-- what lies on a side is an ancilla cell
at_site : (g : Grid) (s : Option Site) (c a : ℕ) → slice_get g.sites c ≡ s → if_ancilla s c ≡ Some a → IsAncilla g a
at_site g None c a is e = absurd (cc)
at_site g (Some site.Ancilla) c a is e =
    let same : c ≡ a = grind arith in
    let P : ℕ → Type 0 = λ n. slice_get g.sites n ≡ Some site.Ancilla in subst P same is
at_site g (Some site.Wall) c a is e = absurd (cc)
at_site g (Some (site.Patch q level)) c a is e = absurd (cc)
at_site g (Some (site.Port f level store)) c a is e = absurd (cc)

by_ancilla : (g : Grid) (o : Option ℕ) (a : ℕ) → ancilla g o ≡ Some a → IsAncilla g a
by_ancilla g None a e = absurd (cc)
by_ancilla g (Some c) a e = at_site g (slice_get g.sites c) c a refl e

of_two : (g : Grid) (o p : Option ℕ) (d : ℕ) → Contains (ancilla g o ∷ ancilla g p ∷ []) (Some d) → IsAncilla g d
of_two g o p d (zero, lt, e) = by_ancilla g o d e
of_two g o p d (suc zero, lt, e) = by_ancilla g p d e
of_two g o p d (suc (suc k), lt, e) = absurd (omega arith)

beside_ancilla : (g : Grid) (level : Bool) (c d : ℕ) → Contains (beside g level c) (Some d) → IsAncilla g d
beside_ancilla g true c d has = of_two g (left g c) (right g c) d has
beside_ancilla g false c d has = of_two g (above g c) (below g c) d has

sides_ancilla : (g : Grid) (c : ℕ) (e : Edge) (s : Option Site) (d : ℕ) → Contains (sides_at g c e s) (Some d) → IsAncilla g d
sides_ancilla g c e None d has = absurd (none_on d has)
sides_ancilla g c e (Some site.Ancilla) d has = absurd (none_on d has)
sides_ancilla g c e (Some site.Wall) d has = absurd (none_on d has)
sides_ancilla g c e (Some (site.Patch q level)) d has = beside_ancilla g (lies_level level e) c d has
sides_ancilla g c e (Some (site.Port f level store)) d has = beside_ancilla g (lies_level level e) c d has

pub side_ancilla : (g : Grid) (s : Side) (d : ℕ) → OnSide g s d → IsAncilla g d
side_ancilla g (side.Patch q e) d (c, p, has) = sides_ancilla g c e (slice_get g.sites c) d has
side_ancilla g (side.Port f) d (c, p, has) = sides_ancilla g c edge.Z (slice_get g.sites c) d has

touch_whole : (g : Grid) (s : Side) (d : ℕ) → OnSide g s d → Touches g (ancilla_cells g) s
touch_whole g s d on = (d, whole_ancilla g d (side_ancilla g s d on), on)

-- the sides of a letter at a used qubit
touch_letter : (g : Grid) (w : Demand) → Open g w → (q : ℕ) (l : Letter) → (l ≢ letter.I → IsUsed w.used q) → (rest : List Side) → All (Touches g (ancilla_cells g)) rest
    → All (Touches g (ancilla_cells g)) (sides_of q l ++ rest)
touch_letter g w o q letter.I is rest all = all
touch_letter g w o q letter.X is rest all =
    let (d, on) = o.sides q edge.X (is (λ e. cc)) in All-cons (Touches g (ancilla_cells g)) (side.Patch q edge.X) rest (touch_whole g (side.Patch q edge.X) d on) all
touch_letter g w o q letter.Z is rest all =
    let (d, on) = o.sides q edge.Z (is (λ e. cc)) in All-cons (Touches g (ancilla_cells g)) (side.Patch q edge.Z) rest (touch_whole g (side.Patch q edge.Z) d on) all
touch_letter g w o q letter.Y is rest all =
    let (d, on) = o.sides q edge.X (is (λ e. cc)) in
    let (b, upon) = o.sides q edge.Z (is (λ e. cc)) in
    All-cons (Touches g (ancilla_cells g)) (side.Patch q edge.X) (side.Patch q edge.Z ∷ rest) (touch_whole g (side.Patch q edge.X) d on)
    (All-cons (Touches g (ancilla_cells g)) (side.Patch q edge.Z) rest (touch_whole g (side.Patch q edge.Z) b upon) all)

touch_letters : (g : Grid) (w : Demand) → Open g w → (q : ℕ) (ls : List Letter) → ((k : ℕ) (l : Letter) → slice_get ls k ≡ Some l → l ≢ letter.I → IsUsed w.used (q + k))
    → (rest : List Side) → All (Touches g (ancilla_cells g)) rest → All (Touches g (ancilla_cells g)) (sides_from q ls ++ rest)
touch_letters g w o q [] is rest all = all
touch_letters g w o q (l ∷ ls) is rest all =
    let P : List Side → Type 0 = λ ss. All (Touches g (ancilla_cells g)) ss in
    let U : ℕ → Type 0 = λ n. IsUsed w.used n in
    subst P (sym (append_assoc (sides_of q l) (sides_from (q + 1) ls) rest))
    (touch_letter g w o q l (λ other. subst U (let z : q + 0 ≡ q = omega arith in z) (is 0 l refl other)) (sides_from (q + 1) ls ++ rest)
    (touch_letters g w o (q + 1) ls (λ k m e other. subst U (let z : q + suc k ≡ q + 1 + k = omega arith in z) (is (suc k) m e other)) rest all))

touch_port : (g : Grid) (w : Demand) → Open g w → (port : Option ℕ) → HasNamed g port → All (Touches g (ancilla_cells g)) (port_side port)
touch_port g w o None has = λ k d b. absurd (omega arith)
touch_port g w o (Some f) (c, is) =
    let (d, on) = o.ports c f is in All-cons (Touches g (ancilla_cells g)) (side.Port f) [] (touch_whole g (side.Port f) d on) (λ k e b. absurd (omega arith))

pub whole_fits : WholeFits
whole_fits g w axis port o stands has some =
    let cells = ancilla_cells g in
    let each = cells_fit g cells (all_ancilla g) (whole_ascends g) in
    let U : ℕ → Type 0 = λ n. IsUsed w.used n in
    record {
      some = some;
      distinct = cells_distinct g cells each;
      ancilla = all_ancilla g;
      joined = λ a b ha hb.
          let (i, ia) = get_from_Contains cells a ha in
          let (j, jb) = get_from_Contains cells b hb in
          let (cs, p, l) = o.joined a b (ancilla_whole g i a ia) (ancilla_whole g j b jb) in
          (cs, ha, leads_wider g (IsAncilla g) (Contains cells) (λ c. c ≡ b) cs a (λ x q. whole_ancilla g x q) l);
      touched = touch_letters g w o 0 axis.letters (λ k l e other. subst U (let z : k ≡ 0 + k = omega arith in z) (stands k l e other)) (port_side port) (touch_port g w o port has);
    }

-- one more cell
pub ancilla_here : (g : Grid) (c : ℕ) → IsAncilla g c → ancilla_from c (drop c g.sites) ≡ c ∷ ancilla_from (c + 1) (drop (c + 1) g.sites)
ancilla_here g c is =
    let P : List Site → Type 0 = λ ss. ancilla_from c ss ≡ c ∷ ancilla_from (c + 1) (drop (c + 1) g.sites) in
    let e : c + 1 ≡ suc c = omega arith in
    let Q : ℕ → Type 0 = λ n. c ∷ ancilla_from (c + 1) (drop (suc c) g.sites) ≡ c ∷ ancilla_from (c + 1) (drop n g.sites) in
    subst P (sym (drop_get g.sites c site.Ancilla is)) (subst Q (sym e) refl)

other_here : (c : ℕ) (s : Site) (ss : List Site) → s ≢ site.Ancilla → ancilla_from c (s ∷ ss) ≡ ancilla_from (c + 1) ss
other_here c site.Ancilla ss n = absurd (n refl)
other_here c site.Wall ss n = refl
other_here c (site.Patch q l) ss n = refl
other_here c (site.Port f l s) ss n = refl

pub ancilla_not_here : (g : Grid) (c : ℕ) → c < length g.sites → (IsAncilla g c → ⊥) → ancilla_from c (drop c g.sites) ≡ ancilla_from (c + 1) (drop (c + 1) g.sites)
ancilla_not_here g c b not-is =
    let (s, is) = get_below g.sites c b in
    let P : List Site → Type 0 = λ ss. ancilla_from c ss ≡ ancilla_from (c + 1) (drop (c + 1) g.sites) in
    let e : c + 1 ≡ suc c = omega arith in
    let Q : ℕ → Type 0 = λ n. ancilla_from (c + 1) (drop (suc c) g.sites) ≡ ancilla_from (c + 1) (drop n g.sites) in
    let f : ancilla_from c (s ∷ drop (suc c) g.sites) ≡ ancilla_from (c + 1) (drop (suc c) g.sites) = other_here c s (drop (suc c) g.sites) (λ same. not-is (subst (λ (x : Site). slice_get g.sites c ≡ Some x) same is)) in
    let h : ancilla_from (c + 1) (drop (suc c) g.sites) ≡ ancilla_from (c + 1) (drop (c + 1) g.sites) = subst Q (sym e) refl in
    subst P (sym (drop_get g.sites c s is)) (f ∙ h)
