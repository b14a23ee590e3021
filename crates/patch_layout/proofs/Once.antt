-- A text stands for one grid at most.
use Rattle.std.proofs.Common.{◌≡◌, ◌≢◌, ◌⊎◌, inl, inr, ℕ, zero, suc, ◌*◌, ◌<◌, Some, Result, Ok, Err, MatchResult, IfOk, IfErr, List, [], ◌∷◌, ◌++◌, slice_get, get_or, refl, sym, ◌∙◌, subst, ap, arith, decimal, Contains}
use Rattle.std.proofs.lemmas.List.{ext_get_or}
use Rattle.std.proofs.lemmas.Fmt.{decimal_injective}
use Rattle.std.proofs.lemmas.Option.{get_or_from_slice_get}
use Rattle.std.specs.List.{onto_first}
use Rattle.patch_base.specs.Texts.{lines, words, IsSkipped}
use Rattle.patch_layout.specs.declared.line.Line.{Line}
use Rattle.patch_layout.specs.declared.line.Line.TheVariants as line
use Rattle.patch_layout.specs.declared.layout.Site.{Site}
use Rattle.patch_layout.specs.declared.layout.Site.TheVariants as site
use Rattle.patch_layout.specs.declared.layout.Edge.TheVariants as edge
use Rattle.patch_layout.specs.declared.fault.LayoutFault.{LayoutFault}
use Rattle.patch_layout.specs.declared.fault.LayoutFault.TheVariants as fault
use Rattle.patch_layout.specs.Grid.{Grid, Demand, Open}
use Rattle.patch_layout.specs.Openness.{Opens}
use Rattle.patch_layout.specs.LayoutText.{words_of, cell_of, site_of, Takes, Body, BadBody, Header, Formed, FirstBadText, Sized, Twice, Laid, StandsFor, Refused}
use Rattle.patch_layout.specs.Laws.{OfForm}
use Rattle.patch_layout.proofs.Bodies.{words_of_same}
use Rattle.patch_layout.proofs.Laying.{equal_or}
use Rattle.patch_layout.proofs.Places.{get_from_Contains, Contains_from_get}

-- the first byte of a first word
abbrev head : List (List ℕ) → ℕ
head ws = get_or (get_or ws 0 []) 0 0

line_head : (l : Line) → (head (words_of l) ≡ 0 → ⊥) × (head (words_of l) ≡ 35 → ⊥)
line_head (line.Patch q c level) = (λ e. omega arith, λ e. omega arith)
line_head (line.Port f c level s) = (λ e. omega arith, λ e. omega arith)
line_head (line.Wall c) = (λ e. omega arith, λ e. omega arith)

onto_head : (x : ℕ) (ps : List (List ℕ)) → head (onto_first x ps) ≡ x
onto_head x [] = refl
onto_head x (p ∷ ps) = refl

skipped_head : (bs : List ℕ) → head (words (35 ∷ bs)) ≡ 35
skipped_head bs = onto_head 35 (words bs)

-- a line that is passed over spells nothing
skipped_mute : (text : List ℕ) (l : Line) → IsSkipped text → words text ≡ words_of l → ⊥
skipped_mute [] l s e = (line_head l).0 (sym (ap head e))
skipped_mute (b ∷ bs) l s e =
    let P : ℕ → Type 0 = λ x. words (x ∷ bs) ≡ words_of l in
    (line_head l).1 (sym (ap head (subst P s e)) ∙ skipped_head bs)

pub takes_one : (before : List Line) (text : List ℕ) (xs ys : List Line) → Takes before text xs → Takes before text ys → xs ≡ ys
takes_one before text xs ys (inl s) (inl t) = s.1 ∙ sym t.1
takes_one before text xs ys (inl s) (inr (l, t, f, e)) = absurd (skipped_mute text l s.0 t.0)
takes_one before text xs ys (inr (l, t, f, e)) (inl s) = absurd (skipped_mute text l s.0 t.0)
takes_one before text xs ys (inr (l, t, f, e)) (inr (m, u, g, h)) =
    let w : words_of l ≡ words_of m = sym t.0 ∙ u.0 in
    let same : l ≡ m = words_of_same l m t.1 u.1 w in
    e ∙ ap (λ (x : Line). before ++ x ∷ []) same ∙ sym h

body_one : (before : List Line) (texts : List (List ℕ)) (xs ys : List Line) → Body before texts xs → Body before texts ys → xs ≡ ys
body_one before [] xs ys e f = e ∙ sym f
body_one before (text ∷ texts) xs ys (a, s, p) (b, t, q) =
    let P : List Line → Type 0 = λ zs. Body zs texts ys in
    body_one a texts xs ys p (subst P (sym (takes_one before text a b s t)) q)

body_not_bad : (before : List Line) (texts : List (List ℕ)) (xs : List Line) (n : ℕ) → Body before texts xs → BadBody before texts n → ⊥
body_not_bad before [] xs n b bad = bad
body_not_bad before (text ∷ texts) xs zero (a, inl s, p) bad = bad.0 s.0
body_not_bad before (text ∷ texts) xs zero (a, inr (l, t, f, e), p) bad = bad.1 l t f
body_not_bad before (text ∷ texts) xs (suc n) (a, s, p) (b, t, q) =
    let P : List Line → Type 0 = λ zs. BadBody zs texts n in
    body_not_bad a texts xs n p (subst P (sym (takes_one before text a b s t)) q)

header_one : (text : List ℕ) (r c s d : ℕ) → Header r c text → Header s d text → (r ≡ s) × (c ≡ d)
header_one text r c s d (e, rl, cl) (f, sl, dl) =
    let both = sym e ∙ f in
    let rs : decimal r ≡ decimal s = ap (λ (ws : List (List ℕ)). get_or ws 2 []) both in
    let cs : decimal c ≡ decimal d = ap (λ (ws : List (List ℕ)). get_or ws 3 []) both in
    (decimal_injective r s (omega arith) (omega arith) rs, decimal_injective c d (omega arith) (omega arith) cs)

pub formed_one : (texts : List (List ℕ)) (r c s d : ℕ) (xs ys : List Line) → Formed texts r c xs → Formed texts s d ys → (r ≡ s) × (c ≡ d) × (xs ≡ ys)
formed_one [] r c s d xs ys f g = absurd f
formed_one (text ∷ texts) r c s d xs ys (h, b) (k, e) = let w = header_one text r c s d h k in (w.0, w.1, body_one [] texts xs ys b e)

pub formed_not_bad : (texts : List (List ℕ)) (r c : ℕ) (xs : List Line) (n : ℕ) → Formed texts r c xs → FirstBadText texts n → ⊥
formed_not_bad [] r c xs n f bad = f
formed_not_bad (text ∷ texts) r c xs zero (h, b) bad = bad r c h
formed_not_bad (text ∷ texts) r c xs (suc n) (h, b) bad = body_not_bad [] texts xs n b bad.1

later : (l : Line) (ls : List Line) (c : ℕ) → (cell_of l ≡ c → ⊥) → ((m : Line) → Contains ls m → cell_of m ≢ c) → (m : Line) → (k : ℕ) × (slice_get (l ∷ ls) k ≡ Some m) → cell_of m ≡ c → ⊥
later l ls c differ none m (zero, is) e = let same : l ≡ m = grind arith in let P : Line → Type 0 = λ x. cell_of x ≡ c in differ (subst P (sym same) e)
later l ls c differ none m (suc k, is) e = none m (Contains_from_get ls k m is) e

-- whether a line names the cell
named_or : (ls : List Line) (c : ℕ) → ((l : Line) × Contains ls l × (cell_of l ≡ c)) ⊎ ((l : Line) → Contains ls l → cell_of l ≢ c)
named_or [] c = inr (λ l in' e. let (k, is) = get_from_Contains [] l in' in cc)
named_or (l ∷ ls) c = elim (equal_or (cell_of l) c) [
  | inl same ↦ inl (l, Contains_from_get (l ∷ ls) 0 l refl, same)
  | inr differ ↦ elim (named_or ls c) [
    | inl (m, in', e) ↦ let (k, is) = get_from_Contains ls m in' in inl (m, Contains_from_get (l ∷ ls) (suc k) m is, e)
    | inr none ↦ inr (λ m in' e. later l ls c differ none m (get_from_Contains (l ∷ ls) m in') e)
  ]
]

same_cell : (r c : ℕ) (ls : List Line) (g h : Grid) (n : ℕ) → Laid r c ls g → Laid r c ls h → n < r * c → get_or g.sites n site.Ancilla ≡ get_or h.sites n site.Ancilla
same_cell r c ls g h n x y lt = elim (named_or ls n) [
  | inl (l, in', e) ↦
      let P : ℕ → Type 0 = λ k. get_or g.sites k site.Ancilla ≡ get_or h.sites k site.Ancilla in
      subst P e (get_or_from_slice_get g.sites (cell_of l) (site_of l) site.Ancilla (x.named l in') ∙ sym (get_or_from_slice_get h.sites (cell_of l) (site_of l) site.Ancilla (y.named l in')))
  | inr none ↦ get_or_from_slice_get g.sites n site.Ancilla site.Ancilla (x.others n lt none) ∙ sym (get_or_from_slice_get h.sites n site.Ancilla site.Ancilla (y.others n lt none))
]

grid_same : (g h : Grid) → g.rows ≡ h.rows → g.columns ≡ h.columns → g.sites ≡ h.sites → g ≡ h
grid_same g h e f s =
    let P : ℕ → Type 0 = λ x. g ≡ record { rows = x; columns = g.columns; sites = g.sites } in
    let Q : ℕ → Type 0 = λ x. g ≡ record { rows = h.rows; columns = x; sites = g.sites } in
    let R : List Site → Type 0 = λ x. g ≡ record { rows = h.rows; columns = h.columns; sites = x } in
    subst R s (subst Q f (subst P e refl))

laid_one : (r c : ℕ) (ls : List Line) (g h : Grid) → Laid r c ls g → Laid r c ls h → g ≡ h
laid_one r c ls g h x y =
    grid_same g h (x.rows_are ∙ sym y.rows_are) (x.columns_are ∙ sym y.columns_are)
    (ext_get_or site.Ancilla g.sites h.sites (x.cells ∙ sym y.cells) (λ n lt. same_cell r c ls g h n x y (let w = x.cells in omega arith)))

pub stands_one : (text : List ℕ) (g h : Grid) → StandsFor text g → StandsFor text h → g ≡ h
stands_one text g h (r, c, xs, short, formed, sized, once, laid) (s, d, ys, short', formed', sized', once', laid') =
    let w = formed_one (lines text) r c s d xs ys formed formed' in
    let P : ℕ → Type 0 = λ x. Laid x d ys h in
    let Q : ℕ → Type 0 = λ x. Laid r x ys h in
    let R : List Line → Type 0 = λ x. Laid r c x h in
    laid_one r c xs g h laid (subst R (sym w.2) (subst Q (sym w.1) (subst P (sym w.0) laid')))

-- what is open has no cause to be refused
open_not : (g : Grid) (w : Demand) (f : LayoutFault) → Open g w → Opens g w (Some f) → ⊥
open_not g w (fault.PatchMissing q) o ((used, none), least) = let (d, (c, is, on)) = o.sides q edge.X used in none c is
open_not g w (fault.Split c) o (has, (first, (anc, least), ((is, cut), lesser))) = cut (o.joined first c anc is)
open_not g w (fault.Shut q edge.X) o (has, whole, (used, none, all)) = none (o.sides q edge.X used)
open_not g w (fault.Shut q edge.Z) o (has, whole, (used, (x, none), all)) = none (o.sides q edge.Z used)
open_not g w fault.NoPort o (has, whole, sides, rotations, none) = none (o.port rotations)
open_not g w (fault.ShutPort p) o (has, whole, sides, port, (((c, is), none), least)) = let (d, on) = o.ports c p is in none d on
open_not g w fault.TooLong o b = b
open_not g w (fault.Form line) o b = b
open_not g w fault.Size o b = b
open_not g w (fault.Overlap c) o b = b
open_not g w fault.Memory o b = b

-- a text that stands for an open grid is refused only where memory is out
stands_open : (text : List ℕ) (w : Demand) (g h : Grid) (f : LayoutFault) → StandsFor text g → Open g w → StandsFor text h → Opens h w (Some f) → ⊥
stands_open text w g h f s o t cause = let P : Grid → Type 0 = λ x. Opens x w (Some f) in open_not g w f o (subst P (sym (stands_one text g h s t)) cause)

-- a text that stands for a grid isn't refused for its form
pub stands_not : (text : List ℕ) (g : Grid) (w : Demand) (f : LayoutFault) → StandsFor text g → OfForm f → Refused text w f → ⊥
stands_not text g w fault.TooLong (r, c, ls, short, formed, sized, once, laid) o long = omega arith
stands_not text g w (fault.Form line) (r, c, ls, short, formed, sized, once, laid) o (short', (n, e, bad)) = formed_not_bad (lines text) r c ls n formed bad
stands_not text g w fault.Size (r, c, xs, short, formed, sized, once, laid) o (short', (s, d, ys, formed', not-sized)) =
    let w' = formed_one (lines text) r c s d xs ys formed formed' in
    let P : ℕ → Type 0 = λ x. Sized x c xs in
    let Q : ℕ → Type 0 = λ x. Sized s x xs in
    let R : List Line → Type 0 = λ x. Sized s d x in
    not-sized (subst R w'.2 (subst Q w'.1 (subst P w'.0 sized)))
stands_not text g w (fault.Overlap cell) (r, c, xs, short, formed, sized, once, laid) o (short', (s, d, ys, formed', sized', (two, least))) =
    let w' = formed_one (lines text) r c s d xs ys formed formed' in
    let R : List Line → Type 0 = λ x. Twice x cell in
    once cell (subst R (sym w'.2) two)
stands_not text g w (fault.PatchMissing q) s o r = o
stands_not text g w (fault.Split c) s o r = o
stands_not text g w (fault.Shut q e) s o r = o
stands_not text g w fault.NoPort s o r = o
stands_not text g w (fault.ShutPort p) s o r = o
stands_not text g w fault.Memory s o r = o

pub open_read : (text : List ℕ) (w : Demand) (g : Grid) (f : LayoutFault) → StandsFor text g → Open g w → Refused text w f → f ≡ fault.Memory
open_read text w g fault.TooLong s o r = absurd (stands_not text g w fault.TooLong s tt r)
open_read text w g (fault.Form line) s o r = absurd (stands_not text g w (fault.Form line) s tt r)
open_read text w g fault.Size s o r = absurd (stands_not text g w fault.Size s tt r)
open_read text w g (fault.Overlap cell) s o r = absurd (stands_not text g w (fault.Overlap cell) s tt r)
open_read text w g (fault.PatchMissing q) s o (h, t, cause) = absurd (stands_open text w g h (fault.PatchMissing q) s o t cause)
open_read text w g (fault.Split c) s o (h, t, cause) = absurd (stands_open text w g h (fault.Split c) s o t cause)
open_read text w g (fault.Shut q e) s o (h, t, cause) = absurd (stands_open text w g h (fault.Shut q e) s o t cause)
open_read text w g fault.NoPort s o (h, t, cause) = absurd (stands_open text w g h fault.NoPort s o t cause)
open_read text w g (fault.ShutPort p) s o (h, t, cause) = absurd (stands_open text w g h (fault.ShutPort p) s o t cause)
open_read text w g fault.Memory s o r = refl

pub read_exact : (text : List ℕ) (w : Demand) (r : Result Grid LayoutFault) → IfOk r (StandsFor text) → IfErr r (Refused text w) → (g : Grid) → StandsFor text g → Open g w → MatchResult r (λ l. l ≡ g) (λ f. f ≡ fault.Memory)
read_exact text w (Ok l) stands refused g s o = stands_one text l g stands s
read_exact text w (Err f) stands refused g s o = open_read text w g f s o refused
