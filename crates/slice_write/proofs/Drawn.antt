-- A picture of which one cell is written anew.
use Rattle.std.proofs.Common.{◌≡◌, ℕ, zero, suc, ◌+◌, ◌-◌, ◌<◌, ◌≤◌, Bool, true, false, ◌==◌, ◌||◌, List, [], ◌∷◌, ◌++◌, length, get_or, take, drop, refl, ap, sym, ◌∙◌, subst, arith, inl, inr, append_assoc, length-append, eq-eqb, ne_eqb, eqb-true}
use Rattle.std.specs.Prelude.{flat_map, replicate, decimal, slice_get, Option, Some, None, if◌then◌else◌}
use Rattle.std.proofs.lemmas.Bool.{cases_Bool, cases_lt, true≢false}
use Rattle.std.proofs.lemmas.List.{length-replicate, take_at, drop_at, take_more, length-take-le, length-drop, get_or_append_left, get_or_push}
use Rattle.std.proofs.lemmas.Grind.{flat_map-append}
use Rattle.std.proofs.lemmas.Fmt.{length-decimal-le}
use Rattle.patch_layout.specs.Grid.{Grid, tile_of}
use Rattle.slice_write.specs.declared.marks.Mark.{Mark}
use Rattle.slice_write.specs.declared.drawing.Drawing.{Drawing}
use Rattle.slice_write.specs.Slices.{upto, is_among}
use Rattle.slice_write.specs.Pictures.{aligned, shown_text, cell_text, row_end, piece, picture, nobody, tile_text}
use Rattle.slice_write.specs.inside.Marks.{mark_at, marked_by, with_mark, IsNarrow}
use Rattle.slice_write.specs.inside.Pages.{Draws}
use Rattle.slice_write.proofs.Among.{among_append, or_true, or_false, among_here, upto_below}

-- the numbers below n up to one of them, and the greater ones
upto_split : (n c : ℕ) → c < n → (rest : List ℕ) × (upto n ≡ upto c ++ c ∷ rest) × ((x : ℕ) → is_among rest x ≡ true → c < x)
upto_split zero c low = absurd (omega arith)
upto_split (suc n) c low = elim (cases_lt c n) [
  | inl below ↦
      let (rest, whole, above) = upto_split n c below in (
        rest ++ n ∷ [],
        ap (λ l. l ++ n ∷ []) whole ∙ append_assoc (upto c) (c ∷ rest) (n ∷ []),
        λ x among.
            elim (cases_Bool (is_among rest x)) [
              | inl here ↦ above x here
              | inr other ↦
                  let same : (n == x) ≡ true = sym (or_false (n == x)) ∙ ap (λ b. b || (n == x || false)) (sym other) ∙ sym (among_append rest (n ∷ []) x) ∙ among in
                  let e : n ≡ x = eqb-true n x same in omega (arith, below, e)
            ],
      )
  | inr past ↦
      let e : n ≡ c = omega arith in
      ([], ap (λ k. upto k ++ k ∷ []) e, λ x among. absurd (true≢false (sym among)))
]

flat_agree : (f f' : ℕ → List ℕ) (cs : List ℕ) → ((x : ℕ) → is_among cs x ≡ true → f x ≡ f' x) → flat_map f cs ≡ flat_map f' cs
flat_agree f f' [] same = refl
flat_agree f f' (c ∷ cs) same = ap (λ l. l ++ flat_map f cs) (same c (among_here cs c)) ∙ ap (λ l. f' c ++ l) (flat_agree f f' cs (λ x among. same x (rw among (or_true (c == x)))))

flat_long : (f f' : ℕ → List ℕ) (cs : List ℕ) → ((x : ℕ) → length (f x) ≡ length (f' x)) → length (flat_map f cs) ≡ length (flat_map f' cs)
flat_long f f' [] same = refl
flat_long f f' (c ∷ cs) same = omega (arith, length-append (f c) (flat_map f cs), length-append (f' c) (flat_map f' cs), same c, flat_long f f' cs same)

piece_at : (g : Grid) (c : ℕ) (a b : Option ℕ) → a ≡ b → aligned (shown_text a (tile_of (slice_get g.sites c))) ++ row_end g c ≡ aligned (shown_text b (tile_of (slice_get g.sites c))) ++ row_end g c
piece_at g c a b e = ap (λ o. aligned (shown_text o (tile_of (slice_get g.sites c))) ++ row_end g c) e

-- equal products show equal pictures
pub draws_agree : (g : Grid) (shown other : ℕ → Option ℕ) (d : Drawing) → ((c : ℕ) → shown c ≡ other c) → Draws g shown d → Draws g other d
unfolding picture
draws_agree g shown other d same draws = record {
  bytes = draws.bytes ∙ flat_agree (piece g shown) (piece g other) (upto (length g.sites)) (λ x among. piece_at g x (shown x) (other x) (same x));
  blank = draws.blank;
  size = draws.size;
  starts = draws.starts;
  same = λ c. ap length (piece_at g c (other c) (shown c) (sym (same c))) ∙ draws.same c;
}

aligned_six : (text : List ℕ) → length text ≤ 6 → length (aligned text) ≡ 6
aligned_six text few = omega (arith, length-append (replicate (6 - length text) 32) text, length-replicate {A = ℕ} (6 - length text) 32)

decimal_six : (p : ℕ) → p < 1000000 → length (aligned (decimal p)) ≡ 6
decimal_six p few = aligned_six (decimal p) (length-decimal-le 6 p (omega arith) (omega arith) (omega arith))

-- the picture up to a cell, the cell, and the rest
pub record Cut (g : Grid) (shown : ℕ → Option ℕ) (m : Mark) (bytes : List ℕ) (start : ℕ) : Type 0 where
  front : List ℕ
  back : List ℕ
  whole : bytes ≡ front ++ (cell_text g shown m.cell ++ back)
  long : length front ≡ start
  wide : length (cell_text g shown m.cell) ≡ 6
  anew : picture g (with_mark shown m) ≡ front ++ (aligned (decimal m.product) ++ back)

cut : (g : Grid) (shown : ℕ → Option ℕ) (m : Mark) (d : Drawing) → Draws g shown d → IsNarrow g m → Cut g shown m d.bytes.items (get_or d.starts.items m.cell 0)
unfolding picture
cut g shown m d draws narrow =
    let (rest, split, above) = upto_split (length g.sites) m.cell narrow.inside in
    let front = flat_map (piece g shown) (upto m.cell) in
    let back = row_end g m.cell ++ flat_map (piece g shown) rest in
    let here : with_mark shown m m.cell ≡ Some m.product = ap (λ b. if b then Some m.product else shown m.cell) (eq-eqb m.cell m.cell refl) in
    record {
      front = front;
      back = back;
      whole = draws.bytes ∙ ap (flat_map (piece g shown)) split ∙ flat_map-append (piece g shown) (upto m.cell) (m.cell ∷ rest) ∙ ap (λ l. front ++ l) (append_assoc (cell_text g shown m.cell) (row_end g m.cell) (flat_map (piece g shown) rest));
      long = flat_long (piece g shown) (piece g nobody) (upto m.cell) draws.same ∙ sym (draws.starts m.cell narrow.inside);
      wide = omega (arith, draws.same m.cell, length-append (cell_text g shown m.cell) (row_end g m.cell), length-append (cell_text g nobody m.cell) (row_end g m.cell), aligned_six (tile_text (tile_of (slice_get g.sites m.cell))) narrow.tile);
      anew = ap (flat_map (piece g (with_mark shown m))) split ∙ flat_map-append (piece g (with_mark shown m)) (upto m.cell) (m.cell ∷ rest)
          ∙ ap (λ l. l ++ (piece g (with_mark shown m) m.cell ++ flat_map (piece g (with_mark shown m)) rest)) (flat_agree (piece g (with_mark shown m)) (piece g shown) (upto m.cell) (λ x among. piece_at g x (with_mark shown m x) (shown x) (other x (λ e. before x among e))))
          ∙ ap (λ l. front ++ (piece g (with_mark shown m) m.cell ++ l)) (flat_agree (piece g (with_mark shown m)) (piece g shown) rest (λ x among. piece_at g x (with_mark shown m x) (shown x) (other x (λ e. (let far : m.cell < x = above x among in omega (arith, e, far))))))
          ∙ ap (λ l. front ++ (l ++ flat_map (piece g shown) rest)) (piece_at g m.cell (with_mark shown m m.cell) (Some m.product) here)
          ∙ ap (λ l. front ++ l) (append_assoc (aligned (decimal m.product)) (row_end g m.cell) (flat_map (piece g shown) rest));
    }
  where
    other : (x : ℕ) → (m.cell ≡ x → ⊥) → with_mark shown m x ≡ shown x
    other x ne = ap (λ b. if b then Some m.product else shown x) (ne_eqb m.cell x ne)

    before : (x : ℕ) → is_among (upto m.cell) x ≡ true → m.cell ≡ x → ⊥
    before x among e = let low : x < m.cell = upto_below m.cell x among in omega (arith, e, low)

pub patch_fits : (g : Grid) (shown : ℕ → Option ℕ) (m : Mark) (d : Drawing) → Draws g shown d → IsNarrow g m → get_or d.starts.items m.cell 0 + 6 ≤ length d.bytes.items
patch_fits g shown m d draws narrow =
    let k = cut g shown m d draws narrow in
    omega (arith, ap length k.whole, length-append k.front (cell_text g shown m.cell ++ k.back), length-append (cell_text g shown m.cell) k.back, k.long, k.wide)

-- the bytes with six of them written anew
abbrev pub anew_at : List ℕ → ℕ → List ℕ → List ℕ
anew_at bytes start six = take start bytes ++ (six ++ drop (start + 6) bytes)

patched_at : (a old new b : List ℕ) (s : ℕ) → length a ≡ s → length old ≡ 6 → anew_at (a ++ (old ++ b)) s new ≡ a ++ (new ++ b)
patched_at a old new b s long wide =
    ap (λ l. l ++ (new ++ drop (s + 6) (a ++ (old ++ b)))) (take_at a (old ++ b) s long)
    ∙ ap (λ l. a ++ (new ++ drop (s + 6) l)) (sym (append_assoc a old b))
    ∙ ap (λ l. a ++ (new ++ l)) (drop_at (a ++ old) b (s + 6) (omega (arith, length-append a old, long, wide)))

pub anew_long : (bytes new : List ℕ) (s : ℕ) → s + 6 ≤ length bytes → length new ≡ 6 → length (anew_at bytes s new) ≡ length bytes
anew_long bytes new s fits wide = omega (arith, length-append (take s bytes) (new ++ drop (s + 6) bytes), length-append new (drop (s + 6) bytes), length-take-le s bytes (omega arith), length-drop (s + 6) bytes, fits, wide)

pub decimal_wide : (m : Mark) (g : Grid) → IsNarrow g m → length (aligned (decimal m.product)) ≡ 6
decimal_wide m g narrow = decimal_six m.product narrow.product

pub patched : (g : Grid) (shown : ℕ → Option ℕ) (m : Mark) (d now : Drawing) → Draws g shown d → IsNarrow g m
    → now.bytes.items ≡ anew_at d.bytes.items (get_or d.starts.items m.cell 0) (aligned (decimal m.product)) → now.blank.items ≡ d.blank.items → now.starts.items ≡ d.starts.items
    → Draws g (with_mark shown m) now
patched g shown m d now draws narrow bytes blank starts =
    let k = cut g shown m d draws narrow in
    record {
      bytes = bytes ∙ ap (λ l. anew_at l (get_or d.starts.items m.cell 0) (aligned (decimal m.product))) k.whole ∙ patched_at k.front (cell_text g shown m.cell) (aligned (decimal m.product)) k.back (get_or d.starts.items m.cell 0) k.long k.wide ∙ sym k.anew;
      blank = blank ∙ draws.blank;
      size = ap length starts ∙ draws.size;
      starts = λ c low. ap (λ l. get_or l c 0) starts ∙ draws.starts c low;
      same = λ c. elim (cases_Bool (m.cell == c)) [
        | inl here ↦
            let e : m.cell ≡ c = eqb-true m.cell c here in
            let shows : with_mark shown m c ≡ Some m.product = ap (λ b. if b then Some m.product else shown c) here in
            let P : ℕ → Type 0 = λ x. length (cell_text g nobody x) ≡ 6 in
            let wide : length (cell_text g nobody c) ≡ 6 = subst P e (aligned_six (tile_text (tile_of (slice_get g.sites m.cell))) narrow.tile) in
            ap length (piece_at g c (with_mark shown m c) (Some m.product) shows) ∙ omega (arith, length-append (aligned (decimal m.product)) (row_end g c), length-append (cell_text g nobody c) (row_end g c), decimal_six m.product narrow.product, wide)
        | inr other ↦ ap length (piece_at g c (with_mark shown m c) (shown c) (ap (λ b. if b then Some m.product else shown c) other)) ∙ draws.same c
      ];
    }

-- nothing shown, as at first
pub blanked : (g : Grid) (shown : ℕ → Option ℕ) (d now : Drawing) → Draws g shown d → now.bytes.items ≡ d.blank.items → now.blank.items ≡ d.blank.items → now.starts.items ≡ d.starts.items → Draws g nobody now
blanked g shown d now draws bytes blank starts = record {
  bytes = bytes ∙ draws.blank;
  blank = blank ∙ draws.blank;
  size = ap length starts ∙ draws.size;
  starts = λ c low. ap (λ l. get_or l c 0) starts ∙ draws.starts c low;
  same = λ c. refl;
}

pub as_long : (g : Grid) (shown : ℕ → Option ℕ) (d : Drawing) → Draws g shown d → length d.bytes.items ≡ length d.blank.items
unfolding picture
as_long g shown d draws = ap length draws.bytes ∙ flat_long (piece g shown) (piece g nobody) (upto (length g.sites)) draws.same ∙ ap length (sym draws.blank)

-- the mark behind others
pub mark_last : (ms : List Mark) (m : Mark) (c : ℕ) → mark_at (ms ++ m ∷ []) c ≡ with_mark (mark_at ms) m c
mark_last [] m c = refl
mark_last (x ∷ ms) m c = ap (λ o. elim o [ None ↦ marked_by x c | Some p ↦ Some p ]) (mark_last ms m c) ∙ go (m.cell == c)
  where
    go : (b : Bool) → (elim (if b then Some m.product else mark_at ms c) [ None ↦ marked_by x c | Some p ↦ Some p ]) ≡ (if b then Some m.product else (elim (mark_at ms c) [ None ↦ marked_by x c | Some p ↦ Some p ]))
    go true = refl
    go false = refl

pub mark_more : (ms : List Mark) (i : ℕ) (m : Mark) (c : ℕ) → i < length ms → (get_or ms i m) ≡ m → with_mark (mark_at (take i ms)) m c ≡ mark_at (take (i + 1) ms) c
mark_more ms i m c inside is = sym (ap (λ l. mark_at l c) (take_more ms i m inside ∙ ap (λ x. take i ms ++ x ∷ []) is) ∙ mark_last (take i ms) m c)

-- where one cell more begins
pub starts_more : (f : ℕ → List ℕ) (starts : List ℕ) (at n x : ℕ) → length starts ≡ n → at ≡ length (flat_map f (upto n)) → ((c : ℕ) → c < n → get_or starts c 0 ≡ length (flat_map f (upto c))) → x < n + 1
    → get_or (starts ++ at ∷ []) x 0 ≡ length (flat_map f (upto x))
starts_more f starts at n x long is so_far low = elim (cases_lt x n) [
  | inl below ↦ get_or_append_left starts (at ∷ []) 0 x (omega (arith, long)) ∙ so_far x below
  | inr past ↦
      let e : n ≡ x = omega arith in
      let here : length starts ≡ x = long ∙ e in
      get_or_push starts at 0 x here ∙ is ∙ ap (λ k. length (flat_map f (upto k))) e
]

pub picture_agree : (g : Grid) (shown other : ℕ → Option ℕ) → ((c : ℕ) → shown c ≡ other c) → picture g shown ≡ picture g other
unfolding picture
picture_agree g shown other same = flat_agree (piece g shown) (piece g other) (upto (length g.sites)) (λ x among. piece_at g x (shown x) (other x) (same x))
