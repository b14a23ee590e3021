-- What marking the set of an entry leaves.
use Rattle.std.proofs.Common.{◌≡◌, ℕ, Bool, true, false, ◌+◌, ◌<◌, ◌≤◌, inl, inr, length, slice_get, slice_set, get_or, Option, Some, None, List, [], ◌∷◌, ◌++◌, refl, sym, ◌∙◌, subst, arith, Contains, if◌then◌else◌, length-append}
use Rattle.std.specs.Int.{bit_at}
use Rattle.std.proofs.lemmas.Bool.{cases_lt, false≢true}
use Rattle.std.proofs.lemmas.Option.{slice_get_within, slice_get-get_or, get_or_from_slice_get}
use Rattle.std.proofs.lemmas.List.Sums.{sum_by-set, count_by_more_yes, count_by_more_no}
use Rattle.std.proofs.lemmas.List.Elements.{Contains-append_left, Contains-push, Contains-push_cases}
use Rattle.patch_layout.specs.declared.layout.Side.{Side}
use Rattle.patch_layout.specs.Grid.{Grid, Adjacent, Joins, neighbours}
use Rattle.patch_layout.specs.Region.{OnSide}
use Rattle.patch_layout.specs.Spread.{Marked}
use Rattle.patch_layout.proofs.Places.{get_cases, get_set_cases, get_set_here, get_from_Contains, Contains_from_get, same_entry, mark_kept}
use Rattle.patch_layout.proofs.Fits.{joins_on}
use Rattle.patch_layout.proofs.Trees.{leads_wider}
use Rattle.least_region.specs.inside.Subset.{Parts}
use Rattle.least_region.specs.inside.Table.{Entry, IsBase, HasReason, Table}
use Rattle.least_region.specs.inside.Trace.{Nearer, PartAt, marked, Traced, ListedTo}
use Rattle.least_region.proofs.Masks.{part_has, power_has, none_has}

pub joins_wider : (g : Grid) (P Q : ℕ → Type 0) (a b : ℕ) → ((x : ℕ) → P x → Q x) → Joins g P a b → Joins g Q a b
joins_wider g P Q a b f (cs, p, leads) = (cs, f a p, leads_wider g P Q (λ x. x ≡ b) cs a f leads)

-- a mark more
pub count_one : (marks : List Bool) (d : ℕ) → d < length marks → marked (slice_set marks d true) ≤ marked marks + 1
count_one marks d lt =
    let one : Bool → ℕ = λ b. if b then 1 else 0 in
    let s : marked (slice_set marks d true) + one (get_or marks d true) ≡ marked marks + 1 = sum_by-set one marks d true true lt in
    omega arith

pub reason_of : (g : Grid) (free : List Bool) (limit : ℕ) (sides : List Side) (rows : List (List ℕ)) (m c v : ℕ) → Table g free limit sides rows → Entry rows m c v → v ≤ limit
    → (0 < v) × Marked free c × ((row : List ℕ) × (slice_get rows m ≡ Some row) × HasReason g (IsBase g sides m) rows m row c v)
reason_of g free limit sides rows m c v t (row, is, at') few = ((t m row is).0.some c v at', (t m row is).0.on_free c v at' few, (row, is, (t m row is).0.reason c v at' few))

-- the cell alone is the set
pub traced_one : (g : Grid) (free : List Bool) (limit : ℕ) (sides : List Side) (rows : List (List ℕ)) (m c v : ℕ) (row : List ℕ) (marks : List Bool) → Table g free limit sides rows → slice_get rows m ≡ Some row → slice_get row c ≡ Some v → v ≤ limit
    → Marked marks c → Nearer g row c None → PartAt rows m c v None → Traced g free sides rows m c marks marks
traced_one g free limit sides rows m c v row marks t is at' few here none-near none-part =
    let r = t m row is in
    let some = r.0.some c v at' in
    record {
      kept = λ x h. h;
      on_free = λ x h. inl h;
      joined = λ x h. inl h;
      touched = λ i s has side. elim (r.0.reason c v at' few) [
        | inl (inl none) ↦ absurd (none_has i (subst (λ (y : ℕ). bit_at y i ≡ 1) none has))
        | inl (inr (j, s', is-power, side', on)) ↦
            let same : i ≡ j = power_has j i (subst (λ (y : ℕ). bit_at y i ≡ 1) is-power has) in
            let e : s' ≡ s = same_entry sides i s' s (subst (λ (y : ℕ). slice_get sides y ≡ Some s') (sym same) side') side in
            (c, here, subst (λ (y : Side). OnSide g y c) e on)
        | inr (inl (d, w, adj, at'', lt)) ↦ absurd (none-near d w v adj at'' at' lt)
        | inr (inr united) ↦ absurd (none-part united)
      ];
      few = λ v' (row', is', at'').
          let e : row' ≡ row = same_entry rows m row' row is' is in
          let f : v' ≡ v = same_entry row c v' v (subst (λ (r : List ℕ). slice_get r c ≡ Some v') e at'') at' in
          omega arith;
    }

-- the set of a neighbour's entry, and the cell
pub traced_grown : (g : Grid) (free : List Bool) (limit : ℕ) (sides : List Side) (rows : List (List ℕ)) (m c d v w : ℕ) (row : List ℕ) (old new : List Bool) → Table g free limit sides rows → slice_get rows m ≡ Some row
    → slice_get row c ≡ Some v → slice_get row d ≡ Some w → w < v → v ≤ limit → Adjacent g c d → Marked old c → d < length old → Traced g free sides rows m d (slice_set old d true) new → Traced g free sides rows m c old new
traced_grown g free limit sides rows m c d v w row old new t is at' at'' lt few adj here in' tr =
    let on-free : Marked free d = (t m row is).0.on_free d w at'' (omega arith) in
    let mid : List Bool = slice_set old d true in
    let kept = λ (x : ℕ) (h : Marked old x). tr.kept x (mark_kept old d x h) in
    let d-new : Marked new d = tr.kept d (get_set_here old d true in') in
    let step : Joins g (Marked new) c d = (d ∷ [], kept c here, (adj, d-new, refl)) in
    record {
      kept = kept;
      on_free = λ x h. elim (tr.on_free x h) [
        | inl old' ↦ elim (get_set_cases old d true x true old') [ inl before ↦ inl before | inr new' ↦ inr (subst (λ (y : ℕ). Marked free y) (sym new'.0) on-free) ]
        | inr f ↦ inr f
      ];
      joined = λ x h. elim (tr.joined x h) [
        | inl old' ↦ elim (get_set_cases old d true x true old') [ inl before ↦ inl before | inr new' ↦ inr (subst (λ (y : ℕ). Joins g (Marked new) c y) (sym new'.0) step) ]
        | inr j ↦ inr (joins_on g (Marked new) c d x step j)
      ];
      touched = tr.touched;
      few = λ v' (row', is', e'').
          let e : row' ≡ row = same_entry rows m row' row is' is in
          let f : v' ≡ v = same_entry row c v' v (subst (λ (r : List ℕ). slice_get r c ≡ Some v') e e'') at' in
          let a = tr.few w (row, is, at'') in
          let b = count_one old d in' in
          omega arith;
    }

-- the union of the sets of two parts
pub traced_united : (g : Grid) (free : List Bool) (limit : ℕ) (sides : List Side) (rows : List (List ℕ)) (m c v a b x y : ℕ) (old mid new : List Bool) → Table g free limit sides rows → Entry rows m c v → Parts a b m
    → Entry rows a c x → Entry rows b c y → x + y ≤ v + 1 → Traced g free sides rows a c old mid → Traced g free sides rows b c mid new → Traced g free sides rows m c old new
traced_united g free limit sides rows m c v a b x y old mid new t (row, is, at') parts ex ey sum ta tb =
    record {
      kept = λ z h. tb.kept z (ta.kept z h);
      on_free = λ z h. elim (tb.on_free z h) [ inl before ↦ ta.on_free z before | inr f ↦ inr f ];
      joined = λ z h. elim (tb.joined z h) [
        | inl before ↦ elim (ta.joined z before) [ inl old' ↦ inl old' | inr j ↦ inr (joins_wider g (Marked mid) (Marked new) c z tb.kept j) ]
        | inr j ↦ inr j
      ];
      touched = λ i s has side. elim (part_has a b m i parts has) [
        | inl in-a ↦ let (d, h, on) = ta.touched i s in-a side in (d, tb.kept d h, on)
        | inr in-b ↦ tb.touched i s in-b side
      ];
      few = λ v' (row', is', e'').
          let e : row' ≡ row = same_entry rows m row' row is' is in
          let f : v' ≡ v = same_entry row c v' v (subst (λ (r : List ℕ). slice_get r c ≡ Some v') e e'') at' in
          let p = ta.few x ex in
          let q = tb.few y ey in
          omega arith;
    }

pub nearer_none : (g : Grid) (row : List ℕ) (c v : ℕ) (items : List (Option ℕ)) → items ≡ neighbours g c → slice_get row c ≡ Some v → ((i d w : ℕ) → i < 4 → slice_get items i ≡ Some (Some d) → slice_get row d ≡ Some w → w < v → ⊥) → Nearer g row c None
nearer_none g row c v items items-are is none d w v' adj at' is' lt =
    let (i, e) = get_from_Contains (neighbours g c) (Some d) adj in
    let low : i < 4 = slice_get_within (neighbours g c) i (Some d) e in
    let same : v' ≡ v = same_entry row c v' v is' is in
    none i d w low (rw items-are e) at' (omega arith)

pub listed_start : (marks : List Bool) → ListedTo marks [] 0
listed_start marks =
    record {
      ascending = λ j a b e. absurd (cc);
      below = λ c (k, lt, e). absurd (omega arith);
      among = λ c (k, lt, e). absurd (omega arith);
      all = λ c lt. absurd (omega arith);
      count = refl;
    }

pub listed_past : (marks : List Bool) (cells : List ℕ) (n : ℕ) (d : Bool) → ListedTo marks cells n → n < length marks → get_or marks n d ≡ false → ListedTo marks cells (n + 1)
listed_past marks cells n d l lt off =
    record {
      ascending = l.ascending;
      below = λ c h. let w = l.below c h in omega arith;
      among = l.among;
      all = λ c low h. elim (cases_lt c n) [
        | inl lt' ↦ l.all c lt' h
        | inr ge ↦ absurd (let same : c ≡ n = omega arith in let e : get_or marks n d ≡ true = get_or_from_slice_get marks n true d (subst (λ (y : ℕ). Marked marks y) same h) in false≢true (sym off ∙ e))
      ];
      count = l.count ∙ sym (count_by_more_no (λ b. b) marks n d lt off);
    }

pub listed_more : (marks : List Bool) (cells : List ℕ) (n : ℕ) (d : Bool) → ListedTo marks cells n → n < length marks → get_or marks n d ≡ true → ListedTo marks (cells ++ n ∷ []) (n + 1)
listed_more marks cells n d l lt on =
    let here : Marked marks n = (let e = slice_get-get_or marks n d lt in subst (λ (b : Bool). slice_get marks n ≡ Some b) on e) in
    record {
      ascending = λ j a b ea eb. elim (get_cases cells n (j + 1) b eb) [
        | inl oldb ↦ elim (get_cases cells n j a ea) [
          | inl olda ↦ l.ascending j a b olda oldb
          | inr newa ↦ absurd (let w = slice_get_within cells (j + 1) b oldb in let e = newa.0 in omega arith)
        ]
        | inr newb ↦ elim (get_cases cells n j a ea) [
          | inl olda ↦ let w = l.below a (Contains_from_get cells j a olda) in let e = newb.1 in omega arith
          | inr newa ↦ absurd (let e = newb.0 in let f = newa.0 in omega arith)
        ]
      ];
      below = λ c h. elim (Contains-push_cases cells n c h) [ inl old ↦ let w = l.below c old in omega arith | inr e ↦ omega arith ];
      among = λ c h. elim (Contains-push_cases cells n c h) [ inl old ↦ l.among c old | inr e ↦ subst (λ (y : ℕ). Marked marks y) e here ];
      all = λ c low h. elim (cases_lt c n) [
        | inl lt' ↦ Contains-append_left cells (n ∷ []) c (l.all c lt' h)
        | inr ge ↦ let same : n ≡ c = omega arith in subst (λ (y : ℕ). Contains (cells ++ n ∷ []) y) same (Contains-push cells n)
      ];
      count = let e = l.count in let f = count_by_more_yes (λ b. b) marks n d lt on in omega (arith, length-append cells (n ∷ []));
    }

pub not_less : (items : List (Option ℕ)) (sizes : List ℕ) (n d next w size : ℕ) → slice_get items n ≡ Some (Some d) → slice_get items n ≡ Some (Some next) → slice_get sizes d ≡ Some w → size ≤ get_or sizes next 0 → w < size → ⊥
not_less items sizes n d next w size at' item is le lt =
    let f : Some d ≡ Some next = same_entry items n (Some d) (Some next) at' item in
    let e : d ≡ next = grind arith in
    let g' : get_or sizes next 0 ≡ w = get_or_from_slice_get sizes next w 0 (subst (λ (y : ℕ). slice_get sizes y ≡ Some w) e is) in
    omega arith

pub listed_more_is : (marks : List Bool) (cells after : List ℕ) (n : ℕ) (d : Bool) → ListedTo marks cells n → n < length marks → get_or marks n d ≡ true → after ≡ cells ++ n ∷ [] → ListedTo marks after (n + 1)
listed_more_is marks cells after n d l lt on e = subst (λ (xs : List ℕ). ListedTo marks xs (n + 1)) (sym e) (listed_more marks cells n d l lt on)

pub entry_get : (rows : List (List ℕ)) (m c v : ℕ) → Entry rows m c v → get_or (get_or rows m []) c 0 ≡ v
entry_get rows m c v (row, is, at') =
    let e : get_or rows m [] ≡ row = get_or_from_slice_get rows m row [] is in
    subst (λ (r : List ℕ). get_or r c 0 ≡ v) (sym e) (get_or_from_slice_get row c v 0 at')

pub entry_same : (rows : List (List ℕ)) (m c v w : ℕ) → Entry rows m c v → Entry rows m c w → v ≡ w
entry_same rows m c v w ev ew = sym (entry_get rows m c v ev) ∙ entry_get rows m c w ew

pub entry_few : (rows : List (List ℕ)) (m c v n : ℕ) → Entry rows m c v → v ≤ n → (w : ℕ) → Entry rows m c w → w ≤ n
entry_few rows m c v n ev le w ew = let e = entry_same rows m c v w ev ew in omega arith
