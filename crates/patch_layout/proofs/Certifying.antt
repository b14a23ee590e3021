-- A region that fits has a certificate that keeps every rule.
use Rattle.std.proofs.Common.{◌≡◌, ◌≢◌, ℕ, zero, suc, Bool, true, false, ◌+◌, ◌<◌, ◌↔◌, length, slice_get, List, Option, Some, None, is_some, [], ◌∷◌, ◌++◌, refl, sym, subst, arith, All, IsTrue}
use Rattle.std.proofs.lemmas.Option.{slice_get_within}
use Rattle.std.proofs.lemmas.List.Elements.{All-head, All-tail, All-cons, All-contains}
use Rattle.pauli_product.specs.declared.Letter.{Letter}
use Rattle.pauli_product.specs.declared.Letter.TheVariants as letter
use Rattle.pauli_product.specs.Signed.{Signed}
use Rattle.patch_layout.specs.declared.layout.Side.{Side}
use Rattle.patch_layout.specs.declared.layout.Side.TheVariants as side
use Rattle.patch_layout.specs.declared.layout.Edge.TheVariants as edge
use Rattle.patch_layout.specs.declared.plan.Parent.{Parent}
use Rattle.patch_layout.specs.Grid.{Grid, Sound, IsAncilla, IsPatch}
use Rattle.patch_layout.specs.Region.{Touches, Fit, AreJoined, sides_of, sides_from, wanted_sides}
use Rattle.patch_layout.specs.Certificate.{Case, Certified, CellFits, ParentFits, PortFits, Patched, Each}
use Rattle.patch_layout.specs.Case.{Ascending}
use Rattle.patch_layout.specs.inside.Tree.{TouchEach}
use Rattle.patch_layout.proofs.Asked.{side_count_is}
use Rattle.patch_layout.proofs.Places.{same_entry, get_below, Contains_from_get}
use Rattle.patch_layout.proofs.Fits.{certified_fits}

pub all_after : (P : Side → Type 0) (xs ys : List Side) → All P (xs ++ ys) → All P ys
all_after P [] ys all = all
all_after P (x ∷ xs) ys all = all_after P xs ys (All-tail P x (xs ++ ys) all)

pub all_front : (P : Side → Type 0) (xs ys : List Side) → All P (xs ++ ys) → All P xs
all_front P [] ys all = λ k d b. absurd (omega arith)
all_front P (x ∷ xs) ys all = All-cons P x xs (All-head P x (xs ++ ys) all) (all_front P xs ys (All-tail P x (xs ++ ys) all))

-- a side of a letter is touched, so the patch is there
pub patch_of : (g : Grid) (cells : List ℕ) (q : ℕ) (l : Letter) (rest : List Side) → l ≢ letter.I → All (Touches g cells) (sides_of q l ++ rest) → (c : ℕ) × IsPatch g q c
patch_of g cells q letter.I rest other all = absurd (other refl)
patch_of g cells q letter.X rest other all = let (d, has, (c, is, on)) = All-head (Touches g cells) (side.Patch q edge.X) rest all in (c, is)
patch_of g cells q letter.Z rest other all = let (d, has, (c, is, on)) = All-head (Touches g cells) (side.Patch q edge.Z) rest all in (c, is)
patch_of g cells q letter.Y rest other all = let (d, has, (c, is, on)) = All-head (Touches g cells) (side.Patch q edge.X) (side.Patch q edge.Z ∷ rest) all in (c, is)

pub patched_from : (g : Grid) (cells : List ℕ) (ls : List Letter) (q k : ℕ) (l : Letter) → All (Touches g cells) (sides_from q ls) → slice_get ls k ≡ Some l → l ≢ letter.I → (c : ℕ) × IsPatch g (q + k) c
patched_from g cells [] q k l all is other = absurd (cc)
patched_from g cells (m ∷ ls) q zero l all is other =
    let same : m ≡ l = grind arith in
    let P : Letter → Type 0 = λ x. All (Touches g cells) (sides_of q x ++ sides_from (q + 1) ls) in
    let Q : ℕ → Type 0 = λ x. (c : ℕ) × IsPatch g x c in
    subst Q (omega arith) (patch_of g cells q l (sides_from (q + 1) ls) other (subst P same all))
patched_from g cells (m ∷ ls) q (suc k) l all is other =
    let Q : ℕ → Type 0 = λ x. (c : ℕ) × IsPatch g x c in
    subst Q (omega arith) (patched_from g cells ls (q + 1) k l (all_after (Touches g cells) (sides_of q m) (sides_from (q + 1) ls) all) is other)

pub fit_patched : (g : Grid) (axis : Signed) (port : Option ℕ) (cells : List ℕ) → Fit g axis port cells → Patched g axis.letters
fit_patched g axis port cells fit k l is other =
    let Q : ℕ → Type 0 = λ x. (c : ℕ) × IsPatch g x c in
    subst Q (omega arith) (patched_from g cells axis.letters 0 k l (all_front (Touches g cells) (sides_from 0 axis.letters) _ fit.touched) is other)

pub fit_port : (g : Grid) (axis : Signed) (port : Option ℕ) (cells : List ℕ) → Fit g axis port cells → PortFits g (is_some port) port
fit_port g axis None cells fit = tt
fit_port g axis (Some f) cells fit =
    let (d, has, (c, is, on)) = All-head (Touches g cells) (side.Port f) [] (all_after (Touches g cells) (sides_from 0 axis.letters) (side.Port f ∷ []) fit.touched) in (c, is)

pub cells_fit : (g : Grid) (cells : List ℕ) → All (IsAncilla g) cells → Ascending cells → Each (CellFits g cells) (length cells)
cells_fit g cells anc up k b =
    let (c, is) = get_below cells k b in (
      c,
      is,
      All-contains (IsAncilla g) cells c anc (Contains_from_get cells k c is),
      λ j a e at-j. up j a c at-j (subst (λ (x : ℕ). slice_get cells x ≡ Some c) (sym e) is),
    )

pub fits_ascending : (g : Grid) (cells : List ℕ) → Each (CellFits g cells) (length cells) → Ascending cells
fits_ascending g cells all j a b ea eb =
    let (c, is, anc, less) = all (j + 1) (slice_get_within cells (j + 1) b eb) in
    let same : c ≡ b = same_entry cells (j + 1) c b is eb in
    let w : a < c = less j a refl ea in
    omega arith

-- with fitting parents and touches the certificate keeps every rule exactly where the region ascends and fits
pub certified_both : (g : Grid) (axis : Signed) (port : Option ℕ) (cells : List ℕ) (parents : List Parent) (touches : List ℕ) (sides : List Side) → Sound g
    → sides ≡ wanted_sides axis port → 0 < length cells → length parents ≡ length cells → (AreJoined g cells → Each (ParentFits g cells parents) (length cells))
    → length touches ≡ length sides → TouchEach g cells sides touches (length sides)
    → Certified (record { grid = g; rotation = is_some port; axis = axis; port = port; cells = cells; parents = parents; touches = touches }) ↔ (Ascending cells × Fit g axis port cells)
certified_both g axis port cells parents touches sides sound asked some sizes fits many touch =
    let c : Case = record { grid = g; rotation = is_some port; axis = axis; port = port; cells = cells; parents = parents; touches = touches } in
    let P : List Side → Type 0 = λ ss. (length touches ≡ length ss) × TouchEach g cells ss touches (length ss) in
    let p : P (wanted_sides axis port) = subst P asked (many, touch) in (
      λ whole. (fits_ascending g cells whole.0.0.1, certified_fits c sound whole),
      λ (up, fit). (
        (
          (
            (
              record { some = some; as_many_parents = sizes; as_many_touches = omega (arith, p.0, side_count_is g axis (is_some port) port (fit_port g axis port cells fit)); patched = fit_patched g axis port cells fit },
              fit_port g axis port cells fit,
            ),
            cells_fit g cells fit.ancilla up,
          ),
          fits fit.joined,
        ),
        λ k b.
            let b' : k < length (wanted_sides axis port) = omega (arith, p.0) in
            let (s, is) = get_below (wanted_sides axis port) k b' in
            p.1 k s b' is (All-contains (Touches g cells) (wanted_sides axis port) s fit.touched (Contains_from_get (wanted_sides axis port) k s is)),
      ),
    )

-- without cells, or with a bad one, the certificate keeps not every rule, and the region ascends and fits not
pub certified_neither : (c : Case) → ((0 < length c.cells) × Each (CellFits c.grid c.cells) (length c.cells) → ⊥) → Certified c ↔ (Ascending c.cells × Fit c.grid c.axis c.port c.cells)
certified_neither c bad = (
  λ whole. absurd (bad ((whole.0.0.0.0).some, whole.0.0.1)),
  λ (up, fit). absurd (bad (fit.some, cells_fit c.grid c.cells fit.ancilla up)),
)

pub neither_listed : (c : Case) (list : List ℕ) (r : Bool) → list ≡ c.cells → (IsTrue r ↔ ((0 < length list) × Each (CellFits c.grid list) (length list))) → r ≡ false
    → Certified c ↔ (Ascending c.cells × Fit c.grid c.axis c.port c.cells)
neither_listed c list r e test off =
    certified_neither c (λ p.
    let P : List ℕ → Type 0 = λ xs. (0 < length xs) × Each (CellFits c.grid xs) (length xs) in
    let t : r ≡ true = test.1 (subst P (sym e) p) in absurd (cc))

pub both_listed : (g : Grid) (axis : Signed) (port : Option ℕ) (cells list : List ℕ) (parents : List Parent) (touches : List ℕ) (sides ss : List Side) → Sound g → list ≡ cells
    → sides ≡ wanted_sides axis port → ss ≡ sides → 0 < length list → length parents ≡ length list → (AreJoined g list → Each (ParentFits g list parents) (length list))
    → length touches ≡ length ss → TouchEach g list ss touches (length ss)
    → Certified (record { grid = g; rotation = is_some port; axis = axis; port = port; cells = cells; parents = parents; touches = touches }) ↔ (Ascending cells × Fit g axis port cells)
both_listed g axis port cells list parents touches sides ss sound e asked es some sizes fits many touch =
    let P : List ℕ → Type 0 = λ xs. Certified (record { grid = g; rotation = is_some port; axis = axis; port = port; cells = xs; parents = parents; touches = touches }) ↔ (Ascending xs × Fit g axis port xs) in
    let asked' : ss ≡ wanted_sides axis port = cc in
    subst P e (certified_both g axis port list parents touches ss sound asked' some sizes fits many touch)

-- what is said of two lists is said of what was made from them
pub lists_given : (T : List Parent → List ℕ → Type 0) (ps qs : List Parent) (ts us : List ℕ) → ps ≡ qs → ts ≡ us → T qs us → T ps ts
lists_given T ps qs ts us e f t =
    let P : List Parent → Type 0 = λ x. T x us in
    let Q : List ℕ → Type 0 = λ x. T ps x in
    subst Q (sym f) (subst P (sym e) t)
