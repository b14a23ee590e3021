-- Lines laid on the cells of a grid, one after another.
use Rattle.std.proofs.Common.{◌≡◌, ◌≢◌, ◌⊎◌, inl, inr, ℕ, zero, suc, Bool, ◌+◌, ◌*◌, ◌<◌, ◌≤◌, Option, Some, None, List, length, slice_get, slice_set, refl, sym, ◌∙◌, subst, ap, arith, Contains, MatchOption, IfNone, IfSome, length-set, get_or}
use Rattle.std.proofs.Math.Nat.{le-mul_of_pos_right}
use Rattle.std.proofs.lemmas.Bool.{cases_lt}
use Rattle.std.proofs.lemmas.Option.{slice_get_within, slice_get-get_or}
use Rattle.patch_layout.specs.declared.line.Line.{Line}
use Rattle.patch_layout.specs.declared.line.Line.TheVariants as line
use Rattle.patch_layout.specs.declared.layout.Site.{Site}
use Rattle.patch_layout.specs.declared.layout.Site.TheVariants as site
use Rattle.patch_layout.specs.Grid.{Sound}
use Rattle.patch_layout.specs.Kept.{grid_of}
use Rattle.patch_layout.specs.Openness.{Least}
use Rattle.patch_layout.specs.LayoutText.{InRange, cell_of, site_of, Doubles, Sized, Twice, Laid}
use Rattle.patch_layout.specs.inside.Reading.{Proper, TwiceTo, CellIs, Lays}
use Rattle.patch_layout.proofs.Places.{same_entry, get_set_here, get_set_other, Contains_from_get, get_from_Contains}

-- no line makes an ancilla cell
not_clear : (l : Line) → site_of l ≡ site.Ancilla → ⊥
not_clear (line.Patch q c level) e = cc
not_clear (line.Port f c level s) e = cc
not_clear (line.Wall c) e = cc

pub equal_or : (m n : ℕ) → (m ≡ n) ⊎ (m ≡ n → ⊥)
equal_or m n = elim (cases_lt m n) [
  | inl lt ↦ inr (λ e. omega arith)
  | inr ge ↦ elim (cases_lt n m) [ inl gt ↦ inr (λ e. omega arith) | inr le ↦ inl (omega arith) ]
]

-- none of the first n lines names the cell
abbrev Unnamed : List Line → ℕ → ℕ → Type 0
Unnamed ls n c = (i : ℕ) (l : Line) → i < n → slice_get ls i ≡ Some l → cell_of l ≢ c

abbrev Named : List Line → ℕ → ℕ → Type 0
Named ls n c = (i : ℕ) × (l : Line) × (i < n) × (slice_get ls i ≡ Some l) × (cell_of l ≡ c)

abbrev Doubled : List Line → ℕ → Option ℕ → Type 0
Doubled ls n d = MatchOption d ((c : ℕ) → TwiceTo ls n c → ⊥) (Least (TwiceTo ls n))

twice_more : (ls : List Line) (n c : ℕ) → TwiceTo ls n c → TwiceTo ls (n + 1) c
twice_more ls n c (i, j, k, l, lt, in', e, f, a, b) = (i, j, k, l, lt, omega arith, e, f, a, b)

-- two of one line more are two of the lines before, or the new line and one before
twice_split : (ls : List Line) (n c : ℕ) (l : Line) → slice_get ls n ≡ Some l → TwiceTo ls (n + 1) c → TwiceTo ls n c ⊎ ((cell_of l ≡ c) × Named ls n c)
twice_split ls n c l at-n (i, j, k, m, lt, in', e, f, a, b) = elim (cases_lt j n) [
  | inl lt' ↦ inl (i, j, k, m, lt, lt', e, f, a, b)
  | inr ge ↦
      let j-is : j ≡ n = omega arith in
      let P : ℕ → Type 0 = λ x. slice_get ls x ≡ Some m in
      let same : m ≡ l = same_entry ls n m l (subst P j-is f) at-n in
      let Q : Line → Type 0 = λ x. cell_of x ≡ c in
      inr (subst Q same b, (i, k, omega arith, e, a))
]

-- the last line names the cell as well
last_twice : (ls : List Line) (n : ℕ) (l : Line) → slice_get ls n ≡ Some l → Named ls n (cell_of l) → TwiceTo ls (n + 1) (cell_of l)
last_twice ls n l at-n (i, k, lt, e, a) = (i, n, k, l, lt, omega arith, e, at-n, a, refl)

doubled_same : (ls : List Line) (n : ℕ) (d : Option ℕ) → ((c : ℕ) → TwiceTo ls (n + 1) c → TwiceTo ls n c) → Doubled ls n d → Doubled ls (n + 1) d
doubled_same ls n None less none = λ c t. none c (less c t)
doubled_same ls n (Some x) less least = (twice_more ls n x least.0, λ m lt t. least.1 m lt (less m t))

doubled_more : (ls : List Line) (n : ℕ) (l : Line) (d : Option ℕ) (x : ℕ) → slice_get ls n ≡ Some l → Named ls n (cell_of l) → Doubled ls n d → IfNone d (x ≡ cell_of l)
    → IfSome d (λ c. (x ≤ c) × (x ≤ cell_of l) × ((x ≡ c) ⊎ (x ≡ cell_of l))) → Least (TwiceTo ls (n + 1)) x
doubled_more ls n l None x at-n named none same some =
    let P : ℕ → Type 0 = λ c. TwiceTo ls (n + 1) c in (
      subst P (sym same) (last_twice ls n l at-n named),
      λ m lt t. elim (twice_split ls n m l at-n t) [ inl old ↦ none m old | inr new ↦ omega (arith, new.0) ],
    )
doubled_more ls n l (Some y) x at-n named least same (le, le', which) =
    let P : ℕ → Type 0 = λ c. TwiceTo ls (n + 1) c in (
      elim which [
        | inl e ↦ subst P (sym e) (twice_more ls n y least.0)
        | inr e ↦ subst P (sym e) (last_twice ls n l at-n named)
      ],
      λ m lt t. elim (twice_split ls n m l at-n t) [ inl old ↦ least.1 m (omega arith) old | inr new ↦ omega (arith, new.0) ],
    )

unnamed_more : (ls : List Line) (n c : ℕ) (l : Line) → slice_get ls n ≡ Some l → (cell_of l ≡ c → ⊥) → Unnamed ls n c → Unnamed ls (n + 1) c
unnamed_more ls n c l at-n other none i m lt e is = elim (cases_lt i n) [
  | inl lt' ↦ none i m lt' e is
  | inr ge ↦
      let i-is : i ≡ n = omega arith in
      let P : ℕ → Type 0 = λ x. slice_get ls x ≡ Some m in
      let same : m ≡ l = same_entry ls n m l (subst P i-is e) at-n in
      let Q : Line → Type 0 = λ x. cell_of x ≡ c in
      other (subst Q same is)
]

-- a cell after one line more, which makes its own cell what it says
cell_laid : (ls : List Line) (n : ℕ) (sites : List Site) (l : Line) (c : ℕ) → slice_get ls n ≡ Some l → cell_of l < length sites → CellIs ls n sites c → CellIs ls (n + 1) (slice_set sites (cell_of l) (site_of l)) c
cell_laid ls n sites l c at-n in' was = elim (equal_or (cell_of l) c) [
  | inl same ↦ let P : ℕ → Type 0 = λ y. slice_get (slice_set sites (cell_of l) (site_of l)) y ≡ Some (site_of l) in inr (n, l, omega arith, at-n, same, subst P same (get_set_here sites (cell_of l) (site_of l) in'))
  | inr differ ↦ elim was [
    | inl none ↦ inl (get_set_other sites (cell_of l) c (site_of l) site.Ancilla differ none.0, unnamed_more ls n c l at-n differ none.1)
    | inr (i, k, lt, e, a, b) ↦ inr (i, k, omega arith, e, a, get_set_other sites (cell_of l) c (site_of l) (site_of k) differ b)
  ]
]

-- before the first line
pub lays_none : (ls : List Line) (sites : List Site) → ((c : ℕ) → c < length sites → slice_get sites c ≡ Some site.Ancilla) → Lays ls 0 sites None
lays_none ls sites clear = record {
  cells = λ c lt. inl (clear c lt, λ i l lt' e is. omega arith);
  least = λ c t. let in' = t.5 in omega arith;
}

-- a line whose cell is clear makes it what it says
pub lays_laid : (ls : List Line) (n : ℕ) (sites : List Site) (d : Option ℕ) (l : Line) → Lays ls n sites d → slice_get ls n ≡ Some l → cell_of l < length sites → slice_get sites (cell_of l) ≡ Some site.Ancilla
    → Lays ls (n + 1) (slice_set sites (cell_of l) (site_of l)) d
lays_laid ls n sites d l s at-n in' clear =
    let unnamed : Unnamed ls n (cell_of l) = elim (s.cells (cell_of l) in') [
      | inl none ↦ none.1
      | inr (i, k, lt, e, a, b) ↦ absurd (not_clear k (same_entry sites (cell_of l) (site_of k) site.Ancilla b clear))
    ] in record {
      cells = λ c lt. cell_laid ls n sites l c at-n in' (s.cells c (let w = length-set sites (cell_of l) (site_of l) in omega arith));
      least = doubled_same ls n d (λ c t. elim (twice_split ls n c l at-n t) [
        | inl old ↦ old
        | inr (is, (i, k, lt, e, a)) ↦ absurd (unnamed i k lt e (a ∙ sym is))
      ]) s.least;
    }

-- a line whose cell isn't clear leaves all as it is
pub lays_double : (ls : List Line) (n : ℕ) (sites : List Site) (d : Option ℕ) (l : Line) (x : ℕ) → Lays ls n sites d → slice_get ls n ≡ Some l → cell_of l < length sites → (slice_get sites (cell_of l) ≡ Some site.Ancilla → ⊥)
    → IfNone d (x ≡ cell_of l) → IfSome d (λ c. (x ≤ c) × (x ≤ cell_of l) × ((x ≡ c) ⊎ (x ≡ cell_of l))) → Lays ls (n + 1) sites (Some x)
lays_double ls n sites d l x s at-n in' other same some = record {
  cells = λ c lt. elim (s.cells c lt) [
    | inl none ↦ inl (none.0, unnamed_more ls n c l at-n (λ e. let P : ℕ → Type 0 = λ y. slice_get sites y ≡ Some site.Ancilla in other (subst P (sym e) none.0)) none.1)
    | inr (i, k, lt', e, a, b) ↦ inr (i, k, omega arith, e, a, b)
  ];
  least = doubled_more ls n l d x at-n (elim (s.cells (cell_of l) in') [
    | inl none ↦ absurd (other none.0)
    | inr (i, k, lt', e, a, b) ↦ (i, k, lt', e, a)
  ]) s.least same some;
}

-- a line that is read at its place, and its cell
pub line_read : (ls : List Line) (n : ℕ) (d : Line) (cell m : ℕ) → n < length ls → cell ≡ cell_of (get_or ls n d) → ((l : Line) → Contains ls l → cell_of l < m) → (slice_get ls n ≡ Some (get_or ls n d)) × (cell < m)
line_read ls n d cell m in' e within =
    let at-n = slice_get-get_or ls n d in' in
    let w = within (get_or ls n d) (Contains_from_get ls n (get_or ls n d) at-n) in
    (at-n, omega arith)

-- the same for such a line
pub laid_step : (ls : List Line) (n : ℕ) (l : Line) (cell : ℕ) (s : Site) (sites : List Site) (d : Option ℕ) → Lays ls n sites d → slice_get ls n ≡ Some l → cell ≡ cell_of l → s ≡ site_of l → cell < length sites
    → slice_get sites cell ≡ Some site.Ancilla → Lays ls (n + 1) (slice_set sites cell s) d
laid_step ls n l cell s sites d y at-n c-is s-is in' clear =
    let P : ℕ → Type 0 = λ x. (x < length sites) × (slice_get sites x ≡ Some site.Ancilla) in
    let (b, e) = subst P c-is (in', clear) in
    let Q : ℕ → Type 0 = λ x. Lays ls (n + 1) (slice_set sites x s) d in
    let R : Site → Type 0 = λ x. Lays ls (n + 1) (slice_set sites (cell_of l) x) d in
    subst Q (sym c-is) (subst R (sym s-is) (lays_laid ls n sites d l y at-n b e))

pub double_step : (ls : List Line) (n : ℕ) (l : Line) (cell x : ℕ) (sites : List Site) (d : Option ℕ) → Lays ls n sites d → slice_get ls n ≡ Some l → cell ≡ cell_of l → cell < length sites → (slice_get sites cell ≡ Some site.Ancilla → ⊥)
    → IfNone d (x ≡ cell) → IfSome d (λ c. (x ≤ c) × (x ≤ cell) × ((x ≡ c) ⊎ (x ≡ cell))) → Lays ls (n + 1) sites (Some x)
double_step ls n l cell x sites d y at-n c-is in' other none some =
    let P : ℕ → Type 0 = λ z. (z < length sites) × (slice_get sites z ≡ Some site.Ancilla → ⊥) × IfNone d (x ≡ z) × IfSome d (λ c. (x ≤ c) × (x ≤ z) × ((x ≡ c) ⊎ (x ≡ z))) in
    let (b, e, f, g) = subst P c-is (in', other, none, some) in
    lays_double ls n sites d l x y at-n b e f g

-- two of all the lines
pub doubled_all : (ls : List Line) (d : Option ℕ) → Doubled ls (length ls) d → MatchOption d ((c : ℕ) → Twice ls c → ⊥) (Least (Twice ls))
doubled_all ls None none = λ c (i, j, k, l, lt, e, f, a, b). none c (i, j, k, l, lt, slice_get_within ls j l f, e, f, a, b)
doubled_all ls (Some x) (two, least) = (
  (let (i, j, k, l, lt, in', e, f, a, b) = two in (i, j, k, l, lt, e, f, a, b)),
  λ m lt (i, j, k, l, lt', e, f, a, b). least m lt (i, j, k, l, lt', slice_get_within ls j l f, e, f, a, b),
)

-- a cell that is no ancilla cell is what a line makes it
abbrev Source : List Line → ℕ → Site → Type 0
Source ls c s = (i : ℕ) × (l : Line) × (slice_get ls i ≡ Some l) × (cell_of l ≡ c) × (site_of l ≡ s)

source : (ls : List Line) (n : ℕ) (sites : List Site) (d : Option ℕ) (c : ℕ) (s : Site) → Lays ls n sites d → slice_get sites c ≡ Some s → (site.Ancilla ≡ s → ⊥) → Source ls c s
source ls n sites d c s y is other = elim (y.cells c (slice_get_within sites c s is)) [
  | inl none ↦ absurd (other (same_entry sites c site.Ancilla s none.0 is))
  | inr (i, k, lt, e, a, b) ↦ (i, k, e, a, same_entry sites c (site_of k) s b is)
]

patch_doubles : (k l : Line) (q : ℕ) (a b : Bool) → site_of k ≡ site.Patch q a → site_of l ≡ site.Patch q b → Doubles k l
patch_doubles (line.Patch q c a) (line.Patch r d b) p x y e f = let g : q ≡ p = cc in let h : r ≡ p = cc in g ∙ sym h
patch_doubles (line.Patch q c a) (line.Port g d b t) p x y e f = absurd (cc)
patch_doubles (line.Patch q c a) (line.Wall d) p x y e f = absurd (cc)
patch_doubles (line.Port f' c a s) l p x y e f = absurd (cc)
patch_doubles (line.Wall c) l p x y e f = absurd (cc)

port_doubles : (k l : Line) (q : ℕ) (a b : Bool) (s t : ℕ) → site_of k ≡ site.Port q a s → site_of l ≡ site.Port q b t → Doubles k l
port_doubles (line.Port q c a s) (line.Port r d b t) p x y u v e f = let g : q ≡ p = cc in let h : r ≡ p = cc in g ∙ sym h
port_doubles (line.Port q c a s) (line.Patch r d b) p x y u v e f = absurd (cc)
port_doubles (line.Port q c a s) (line.Wall d) p x y u v e f = absurd (cc)
port_doubles (line.Patch q c a) l p x y u v e f = absurd (cc)
port_doubles (line.Wall c) l p x y u v e f = absurd (cc)

-- two lines that double each other are one line
one_source : (ls : List Line) (c d : ℕ) (s t : Site) → Proper ls → ((k l : Line) → site_of k ≡ s → site_of l ≡ t → Doubles k l × Doubles l k) → Source ls c s → Source ls d t → c ≡ d
one_source ls c d s t p doubles (i, k, e, a, b) (j, l, f, g, h) = elim (cases_lt i j) [
  | inl lt ↦ absurd (p.distinct i j k l lt e f (doubles k l b h).0)
  | inr ge ↦ elim (cases_lt j i) [
    | inl gt ↦ absurd (p.distinct j i l k gt f e (doubles k l b h).1)
    | inr le ↦
        let same : i ≡ j = omega arith in
        let P : ℕ → Type 0 = λ x. slice_get ls x ≡ Some k in
        let one : k ≡ l = same_entry ls j k l (subst P same e) f in
        sym a ∙ ap cell_of one ∙ g
  ]
]

patch_source : (l : Line) (q : ℕ) (level : Bool) → site_of l ≡ site.Patch q level → InRange l → q < 1024
patch_source (line.Patch r c a) q level e range = let same : r ≡ q = cc in omega (arith, range.0)
patch_source (line.Port f c a s) q level e range = absurd (cc)
patch_source (line.Wall c) q level e range = absurd (cc)

port_source : (l : Line) (f : ℕ) (level : Bool) (store : ℕ) → site_of l ≡ site.Port f level store → InRange l → (f < 16) × (0 < store) × (store ≤ 16)
port_source (line.Port g c a s) f level store e range =
    let same : g ≡ f = cc in
    let held : s ≡ store = cc in
    (omega (arith, range.0), omega (arith, range.2), omega (arith, range.3))
port_source (line.Patch q c a) f level store e range = absurd (cc)
port_source (line.Wall c) f level store e range = absurd (cc)

-- rows and columns of a grid with cells
few_rows : (rows columns : ℕ) → 0 < rows * columns → rows * columns ≤ 4096 → rows ≤ 4096
few_rows rows zero some few = absurd (omega arith)
few_rows rows (suc c) some few = let w : rows ≤ rows * suc c = le-mul_of_pos_right rows (omega arith) in omega arith

few_columns : (rows columns : ℕ) → 0 < rows * columns → rows * columns ≤ 4096 → columns ≤ 4096
few_columns zero columns some few = absurd (omega arith)
few_columns (suc r) columns some few = let w : columns ≤ columns * suc r = le-mul_of_pos_right columns (omega arith) in omega arith

pub laid_sound : (rows columns : ℕ) (ls : List Line) (sites : List Site) (d : Option ℕ) → Proper ls → length sites ≡ rows * columns → 0 < rows * columns → rows * columns ≤ 4096 → Lays ls (length ls) sites d
    → Sound (grid_of rows columns sites)
laid_sound rows columns ls sites d p size some few y = record {
  cells = size;
  some = omega arith;
  few = omega arith;
  rows = few_rows rows columns some few;
  columns = few_columns rows columns some few;
  one_patch = λ q c e (a, is) (b, at'). one_source ls c e (site.Patch q a) (site.Patch q b) p (λ k l f g. (patch_doubles k l q a b f g, patch_doubles l k q b a g f)) (source ls (length ls) sites d c (site.Patch q a) y is (λ w. cc)) (source ls (length ls) sites d e (site.Patch q b) y at' (λ w. cc));
  one_port = λ q c e (a, s, is) (b, t, at'). one_source ls c e (site.Port q a s) (site.Port q b t) p (λ k l f g. (port_doubles k l q a b s t f g, port_doubles l k q b a t s g f)) (source ls (length ls) sites d c (site.Port q a s) y is (λ w. cc)) (source ls (length ls) sites d e (site.Port q b t) y at' (λ w. cc));
  patches = λ q c (level, is). let (i, l, e, a, b) = source ls (length ls) sites d c (site.Patch q level) y is (λ w. cc) in patch_source l q level b (p.ranged l (Contains_from_get ls i l e));
  stores = λ f store (c, level, is). let (i, l, e, a, b) = source ls (length ls) sites d c (site.Port f level store) y is (λ w. cc) in port_source l f level store b (p.ranged l (Contains_from_get ls i l e));
}

pub sized_is : (rows columns n : ℕ) (ls : List Line) → (n ≡ rows * columns) × (0 < n) × (n ≤ 4096) → ((l : Line) → Contains ls l → cell_of l < n) → Sized rows columns ls
sized_is rows columns n ls (e, some, few) within = record {
  some = omega arith;
  few = omega arith;
  within = λ l in'. let w = within l in' in omega arith;
}

-- where no two lines name one cell, each cell is what its line says
pub laid_all : (rows columns : ℕ) (ls : List Line) (sites : List Site) → length sites ≡ rows * columns → ((l : Line) → Contains ls l → cell_of l < rows * columns) → Lays ls (length ls) sites None
    → Laid rows columns ls (grid_of rows columns sites)
laid_all rows columns ls sites size within y = record {
  rows_are = refl;
  columns_are = refl;
  cells = size;
  named = λ l in'. let (i, e) = get_from_Contains ls l in' in elim (y.cells (cell_of l) (let w = within l in' in omega arith)) [
    | inl none ↦ absurd (none.1 i l (slice_get_within ls i l e) e refl)
    | inr (j, k, lt, f, a, b) ↦ elim (cases_lt i j) [
      | inl less ↦ absurd (y.least (cell_of l) (i, j, l, k, less, lt, e, f, refl, a))
      | inr ge ↦ elim (cases_lt j i) [
        | inl more ↦ absurd (y.least (cell_of l) (j, i, k, l, more, slice_get_within ls i l e, f, e, a, refl))
        | inr le ↦
            let same : j ≡ i = omega arith in
            let P : ℕ → Type 0 = λ x. slice_get ls x ≡ Some k in
            let one : k ≡ l = same_entry ls i k l (subst P same f) e in
            let Q : Line → Type 0 = λ x. slice_get sites (cell_of l) ≡ Some (site_of x) in
            subst Q one b
      ]
    ]
  ];
  others = λ c lt none. elim (y.cells c (omega arith)) [
    | inl clear ↦ clear.0
    | inr (j, k, lt', f, a, b) ↦ absurd (none k (Contains_from_get ls j k f) a)
  ];
}
