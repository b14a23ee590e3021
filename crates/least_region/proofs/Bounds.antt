-- No joined set of free cells that touches the sides has fewer cells than the table says.
use Rattle.std.proofs.Common.{◌≡◌, ℕ, zero, suc, Bool, true, false, ◌+◌, ◌-◌, ◌^◌, ◌<◌, ◌≤◌, ◌==◌, inl, inr, length, slice_get, get_or, Some, List, [], ◌∷◌, refl, sym, ◌∙◌, subst, arith, Contains, All, if◌then◌else◌}
use Rattle.std.proofs.lemmas.Bool.{cases_lt}
use Rattle.std.proofs.lemmas.Nat.{pow_pos}
use Rattle.std.proofs.Math.Pow.{pow-lt, pow_mono}
use Rattle.std.proofs.lemmas.Option.{slice_get_within, get_or_from_slice_get}
use Rattle.std.proofs.lemmas.List.Elements.{All-head, All-tail}
use Rattle.patch_layout.specs.declared.layout.Side.{Side}
use Rattle.patch_layout.specs.Grid.{Grid, Adjacent}
use Rattle.patch_layout.specs.Region.{AreJoined, Touches, OnSide}
use Rattle.patch_layout.specs.Spread.{Marked}
use Rattle.patch_layout.proofs.Places.{get_from_Contains, Contains_from_get, get_below, same_entry}
use Rattle.least_region.specs.inside.Subset.{Parts}
use Rattle.least_region.specs.inside.Table.{AtMost, Entry, Table}
use Rattle.least_region.proofs.Masks.{mask, mask_one_more, mask_below, twice}
use Rattle.patch_layout.proofs.Orders.{Has, order_of}
use Rattle.least_region.proofs.Collapse.{total, collapse}

-- an entry of at most n
abbrev pub EntryAtMost : List (List ℕ) → ℕ → ℕ → ℕ → Type 0
EntryAtMost rows m c n = (v : ℕ) × Entry rows m c v × (v ≤ n)

in_row : (rows : List (List ℕ)) (m c n : ℕ) (row : List ℕ) → slice_get rows m ≡ Some row → AtMost row c n → EntryAtMost rows m c n
in_row rows m c n row is (v, at', le) = (v, (row, is, at'), le)

entry_of : (rows : List (List ℕ)) (m c v : ℕ) (row : List ℕ) → slice_get rows m ≡ Some row → Entry rows m c v → slice_get row c ≡ Some v
entry_of rows m c v row is (row', is', at') = let e : row' ≡ row = same_entry rows m row' row is' is in subst (λ (r : List ℕ). slice_get r c ≡ Some v) e at'

module _ (g : Grid) (free : List Bool) (limit : ℕ) (sides : List Side) (rows : List (List ℕ)) (k : ℕ) (count : length rows ≡ 2 ^ k) (t : Table g free limit sides rows) where
  grows : (m c d n : ℕ) → m < 2 ^ k → EntryAtMost rows m c n → n < limit → Adjacent g c d → Marked free d → EntryAtMost rows m d (n + 1)
  grows m c d n low (v, (row, is, at'), le) lt adj free' =
      let (w, at'', le') = (t m row is).1.grown c d v at' (omega arith) adj free' in
      (w, (row, is, at''), omega arith)

  positive : (m c v : ℕ) → Entry rows m c v → 0 < v
  positive m c v (row, is, at') = (t m row is).0.some c v at'

  unites : (a b m c x y n : ℕ) → Parts a b m → m < 2 ^ k → EntryAtMost rows a c x → EntryAtMost rows b c y → x + y ≡ n + 1 → n ≤ limit → EntryAtMost rows m c n
  unites a b m c x y n parts low (v, ev, lv) (w, ew, lw) sum few =
      let pv = positive a c v ev in
      let pw = positive b c w ew in
      elim (cases_lt 0 a) [
        | inr none-a ↦
            let e : b ≡ m = omega (arith, parts.0) in
            subst (λ (z : ℕ). EntryAtMost rows z c n) e (w, ew, omega arith)
        | inl some-a ↦ elim (cases_lt 0 b) [
          | inr none-b ↦
              let e : a ≡ m = omega (arith, parts.0) in
              subst (λ (z : ℕ). EntryAtMost rows z c n) e (v, ev, omega arith)
          | inl some-b ↦
              let (row, is) = get_below rows m (omega arith) in
              let (z, at', le) = (t m row is).1.united a b c v w (v + w - 1) parts some-a some-b ev ew (omega arith) (omega arith) in
              (z, (row, is, at'), omega arith)
        ]
      ]

  -- the entry of a cell for the sides that it was given
  single : (c : ℕ) (p : ℕ → Bool) → Marked free c → 1 ≤ limit → ((i : ℕ) → i < k → p i ≡ true → (s : Side) × (slice_get sides i ≡ Some s) × OnSide g s c)
      → (n : ℕ) → n ≤ k → EntryAtMost rows (mask n p) c 1
  single c p free' some on zero le =
      let (row, is) = get_below rows 0 (let w = pow_pos k in omega arith) in
      in_row rows 0 c 1 row is ((t 0 row is).1.base c (inl refl) free')
  single c p free' some on (suc n) le =
      let before : EntryAtMost rows (mask n p) c 1 = single c p free' some on n (omega arith) in
      elim (p n) as (λ b. p n ≡ b → EntryAtMost rows (mask n p + (if b then 2 ^ n else 0)) c 1) [
        | true ↦ λ e.
            let (s, at', lies) = on n (omega arith) e in
            let power : 2 ^ n < 2 ^ k = let w : n < k = omega arith in pow-lt w in
            let (row, is) = get_below rows (2 ^ n) (omega arith) in
            let here : EntryAtMost rows (2 ^ n) c 1 = in_row rows (2 ^ n) c 1 row is ((t (2 ^ n) row is).1.base c (inr (n, s, refl, at', lies)) free') in
            let below : mask n p + 2 ^ n < 2 ^ k = (let a = mask_below n p in let b : suc n ≤ k = le in let m : 2 ^ suc n ≤ 2 ^ k = pow_mono b in let e2 = twice n in omega arith) in
            unites (mask n p) (2 ^ n) (mask n p + 2 ^ n) c 1 1 1 (mask_one_more n p) below before here refl some
        | false ↦ λ e. let z : mask n p ≡ mask n p + 0 = omega arith in subst (λ (m : ℕ). EntryAtMost rows m c 1) z before
      ] refl

-- for each side the place of a cell in the order that lies on it
record Labels (g : Grid) (ys : List ℕ) (sides : List Side) (ls : List ℕ) : Type 0 where
  at_side : (i : ℕ) (s : Side) → slice_get sides i ≡ Some s → (l : ℕ) × (d : ℕ) × (slice_get ls i ≡ Some l) × (slice_get ys l ≡ Some d) × OnSide g s d

labelled : (g : Grid) (ys : List ℕ) (s : Side) (ss : List Side) (ls : List ℕ) (l d : ℕ) → slice_get ys l ≡ Some d → OnSide g s d → Labels g ys ss ls
    → (i : ℕ) (x : Side) → slice_get (s ∷ ss) i ≡ Some x → (l' : ℕ) × (d' : ℕ) × (slice_get (l ∷ ls) i ≡ Some l') × (slice_get ys l' ≡ Some d') × OnSide g x d'
labelled g ys s ss ls l d is on rest zero x e = let same : s ≡ x = (let f : Some s ≡ Some x = e in grind arith) in let P : Side → Type 0 = λ y. OnSide g y d in (l, d, refl, is, subst P same on)
labelled g ys s ss ls l d is on rest (suc i) x e = rest.at_side i x e

labels : (g : Grid) (cells ys : List ℕ) → ((x : ℕ) → Has cells x → Has ys x) → (sides : List Side) → All (Touches g cells) sides → (ls : List ℕ) × Labels g ys sides ls
labels g cells ys all [] touched = ([], record { at_side = λ i s e. absurd (cc) })
labels g cells ys all (s ∷ ss) touched =
    let (d, among, on) = All-head (Touches g cells) s ss touched in
    let (l, is) = all d (get_from_Contains cells d among) in
    let (ls, rest) = labels g cells ys all ss (All-tail (Touches g cells) s ss touched) in
    (l ∷ ls, record { at_side = labelled g ys s ss ls l d is on rest })

total_ones : (t : ℕ) → total t (λ j. 1) ≡ t + 1
total_ones zero = refl
total_ones (suc t) = let e = total_ones t in omega arith

length_some : (xs : List ℕ) (k x : ℕ) → slice_get xs k ≡ Some x → (t : ℕ) × (length xs ≡ t + 1)
length_some [] k x e = absurd (cc)
length_some (y ∷ ys) k x e = (length ys, omega arith)

-- a joined set of free cells that touches the sides has at least as many cells as the entry of each of its cells says
pub table_low : (g : Grid) (free : List Bool) (limit : ℕ) (sides : List Side) (rows : List (List ℕ)) → length rows ≡ 2 ^ length sides → Table g free limit sides rows
    → ((x : ℕ) → Marked free x → x < length g.sites) → (cells : List ℕ) (v : ℕ) → ((x : ℕ) → Contains cells x → Marked free x) → AreJoined g cells → All (Touches g cells) sides → Contains cells v → length cells ≤ limit
    → EntryAtMost rows (mask (length sides) (λ i. true)) v (length cells)
table_low g free limit sides rows count t within cells v on-free joined touched has few =
    let (ys, o) = order_of g cells v (λ x (k, is). within x (on-free x (Contains_from_get cells k x is))) joined (get_from_Contains cells v has) in
    let (ls, lab) = labels g cells ys o.all sides touched in
    let (n, size) = length_some ys 0 v o.ordered.root in
    let k : ℕ = length sides in
    let X : ℕ → ℕ = λ j. get_or ys j 0 in
    let L : ℕ → ℕ = λ i. get_or ls i 0 in
    let o-few = o.few in
    let free-at = λ (j : ℕ) (le : j ≤ n).
    let (x, is) = get_below ys j (omega arith) in
    let (i, at') = o.among x (j, is) in
    let e : x ≡ get_or ys j 0 = sym (get_or_from_slice_get ys j x 0 is) in
    let f : Marked free x = on-free x (Contains_from_get cells i x at') in
    let P : ℕ → Type 0 = λ y. Marked free y in subst P e f in
    let whole : EntryAtMost rows (mask k (λ i. true)) (X 0) (total n (λ j. 1)) =
    collapse g (λ x. Marked free x) limit k (λ m c z. EntryAtMost rows m c z) (grows g free limit sides rows k count t) (unites g free limit sides rows k count t)
    n X L (λ j. 1)
    (λ j lt.
    let (b, is) = get_below ys (suc j) (omega arith) in
    let (p, a, le, at', adj) = o.ordered.parent j b is in
    let eb : b ≡ get_or ys (suc j) 0 = sym (get_or_from_slice_get ys (suc j) b 0 is) in
    let ea : a ≡ get_or ys p 0 = sym (get_or_from_slice_get ys p a 0 at') in
    let P : ℕ → Type 0 = λ y. Adjacent g y a in
    let Q : ℕ → Type 0 = λ y. Adjacent g (get_or ys (suc j) 0) y in
    (p, le, subst Q ea (subst P eb adj)))
    free-at
    (λ j le. omega arith)
    (λ j le. single g free limit sides rows k count t (X j) (λ i. L i == j) (free-at j le) (omega arith)
    (λ i lt e.
    let (s, is) = get_below sides i lt in
    let (l, d, at', at'', on) = lab.at_side i s is in
    let el : get_or ls i 0 ≡ l = get_or_from_slice_get ls i l 0 at' in
    let ej : get_or ls i 0 ≡ j = grind arith in
    let same : l ≡ j = sym el ∙ ej in
    let P : ℕ → Type 0 = λ y. slice_get ys y ≡ Some d in
    let ed : d ≡ get_or ys j 0 = sym (get_or_from_slice_get ys j d 0 (subst P same at'')) in
    let Q : ℕ → Type 0 = λ y. OnSide g s y in
    (s, is, subst Q ed on))
    k (omega arith))
    (λ i lt.
    let (s, is) = get_below sides i lt in
    let (l, d, at', at'', on) = lab.at_side i s is in
    let el : get_or ls i 0 ≡ l = get_or_from_slice_get ls i l 0 at' in
    let low : l < length ys = slice_get_within ys l d at'' in
    omega arith)
    (let ones = total_ones n in omega arith) in
    let ev : get_or ys 0 0 ≡ v = get_or_from_slice_get ys 0 v 0 o.ordered.root in
    let R : ℕ → Type 0 = λ y. EntryAtMost rows (mask k (λ i. true)) y (total n (λ j. 1)) in
    let (z, entry, le) = subst R ev whole in
    (z, entry, let ones = total_ones n in omega arith)
