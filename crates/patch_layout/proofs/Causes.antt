-- A text is refused for one cause at most, being out of memory aside.
use Rattle.std.proofs.Common.{◌≡◌, ◌≢◌, ◌⊎◌, inl, inr, ℕ, zero, suc, Bool, true, ◌<◌, ◌≤◌, Some, Result, Ok, Err, MatchResult, IfOk, IfErr, List, [], ◌∷◌, refl, sym, ◌∙◌, subst, ap, arith}
use Rattle.std.proofs.lemmas.Bool.{cases_lt}
use Rattle.patch_base.specs.Texts.{lines}
use Rattle.patch_layout.specs.declared.line.Line.{Line}
use Rattle.patch_layout.specs.declared.layout.Edge.{Edge}
use Rattle.patch_layout.specs.declared.layout.Edge.TheVariants as edge
use Rattle.patch_layout.specs.declared.fault.LayoutFault.{LayoutFault}
use Rattle.patch_layout.specs.declared.fault.LayoutFault.TheVariants as fault
use Rattle.patch_layout.specs.Grid.{Grid, Demand, Open, IsAncilla}
use Rattle.patch_layout.specs.Openness.{Least, Lacks, HasPatches, CutFrom, IsWhole, FirstShut, SidesOpen, IsShut, HasAnyPort, PortShut, Opens}
use Rattle.patch_layout.specs.LayoutText.{BadBody, Formed, FirstBadText, Sized, Twice, IsShort, StandsFor, Refused}
use Rattle.patch_layout.specs.Laws.{OfForm}
use Rattle.patch_layout.proofs.Once.{takes_one, formed_one, formed_not_bad, stands_one, open_read}

-- the place of a refusal in the order in which they are tried
abbrev rank : LayoutFault → ℕ
rank fault.TooLong = 0
rank (fault.Form line) = 1
rank fault.Size = 2
rank (fault.Overlap c) = 3
rank (fault.PatchMissing q) = 4
rank (fault.Split c) = 5
rank (fault.Shut q e) = 6
rank fault.NoPort = 7
rank (fault.ShutPort f) = 8
rank fault.Memory = 9

memory_is : (f : LayoutFault) → 9 ≤ rank f → f ≡ fault.Memory
memory_is fault.TooLong le = absurd (omega arith)
memory_is (fault.Form line) le = absurd (omega arith)
memory_is fault.Size le = absurd (omega arith)
memory_is (fault.Overlap c) le = absurd (omega arith)
memory_is (fault.PatchMissing q) le = absurd (omega arith)
memory_is (fault.Split c) le = absurd (omega arith)
memory_is (fault.Shut q e) le = absurd (omega arith)
memory_is fault.NoPort le = absurd (omega arith)
memory_is (fault.ShutPort f) le = absurd (omega arith)
memory_is fault.Memory le = refl

-- what holds where an earlier rule isn't broken
short_of : (text : List ℕ) (w : Demand) (f : LayoutFault) → 0 < rank f → rank f < 9 → Refused text w f → IsShort text
short_of text w fault.TooLong gt lt r = absurd (omega arith)
short_of text w (fault.Form line) gt lt r = r.0
short_of text w fault.Size gt lt r = r.0
short_of text w (fault.Overlap c) gt lt r = r.0
short_of text w (fault.PatchMissing q) gt lt r = r.1.3
short_of text w (fault.Split c) gt lt r = r.1.3
short_of text w (fault.Shut q e) gt lt r = r.1.3
short_of text w fault.NoPort gt lt r = r.1.3
short_of text w (fault.ShutPort f) gt lt r = r.1.3
short_of text w fault.Memory gt lt r = absurd (omega arith)

abbrev HasForm : List ℕ → Type 0
HasForm text = (rows : ℕ) × (columns : ℕ) × (ls : List Line) × Formed (lines text) rows columns ls

form_of : (text : List ℕ) (g : Grid) → StandsFor text g → HasForm text
form_of text g s = (s.0, s.1, s.2, s.4)

formed_of : (text : List ℕ) (w : Demand) (f : LayoutFault) → 1 < rank f → rank f < 9 → Refused text w f → HasForm text
formed_of text w fault.TooLong gt lt r = absurd (omega arith)
formed_of text w (fault.Form line) gt lt r = absurd (omega arith)
formed_of text w fault.Size gt lt r = let (short, (rows, columns, ls, formed, not-sized)) = r in (rows, columns, ls, formed)
formed_of text w (fault.Overlap c) gt lt r = let (short, (rows, columns, ls, formed, sized, least)) = r in (rows, columns, ls, formed)
formed_of text w (fault.PatchMissing q) gt lt r = form_of text r.0 r.1
formed_of text w (fault.Split c) gt lt r = form_of text r.0 r.1
formed_of text w (fault.Shut q e) gt lt r = form_of text r.0 r.1
formed_of text w fault.NoPort gt lt r = form_of text r.0 r.1
formed_of text w (fault.ShutPort f) gt lt r = form_of text r.0 r.1
formed_of text w fault.Memory gt lt r = absurd (omega arith)

abbrev HasSize : List ℕ → Type 0
HasSize text = (rows : ℕ) × (columns : ℕ) × (ls : List Line) × Formed (lines text) rows columns ls × Sized rows columns ls

size_of : (text : List ℕ) (g : Grid) → StandsFor text g → HasSize text
size_of text g s = (s.0, s.1, s.2, s.4, s.5)

sized_of : (text : List ℕ) (w : Demand) (f : LayoutFault) → 2 < rank f → rank f < 9 → Refused text w f → HasSize text
sized_of text w fault.TooLong gt lt r = absurd (omega arith)
sized_of text w (fault.Form line) gt lt r = absurd (omega arith)
sized_of text w fault.Size gt lt r = absurd (omega arith)
sized_of text w (fault.Overlap c) gt lt r = let (short, (rows, columns, ls, formed, sized, least)) = r in (rows, columns, ls, formed, sized)
sized_of text w (fault.PatchMissing q) gt lt r = size_of text r.0 r.1
sized_of text w (fault.Split c) gt lt r = size_of text r.0 r.1
sized_of text w (fault.Shut q e) gt lt r = size_of text r.0 r.1
sized_of text w fault.NoPort gt lt r = size_of text r.0 r.1
sized_of text w (fault.ShutPort f) gt lt r = size_of text r.0 r.1
sized_of text w fault.Memory gt lt r = absurd (omega arith)

stands_of : (text : List ℕ) (w : Demand) (f : LayoutFault) → 3 < rank f → rank f < 9 → Refused text w f → (g : Grid) × StandsFor text g × Opens g w (Some f)
stands_of text w fault.TooLong gt lt r = absurd (omega arith)
stands_of text w (fault.Form line) gt lt r = absurd (omega arith)
stands_of text w fault.Size gt lt r = absurd (omega arith)
stands_of text w (fault.Overlap c) gt lt r = absurd (omega arith)
stands_of text w (fault.PatchMissing q) gt lt r = r
stands_of text w (fault.Split c) gt lt r = r
stands_of text w (fault.Shut q e) gt lt r = r
stands_of text w fault.NoPort gt lt r = r
stands_of text w (fault.ShutPort f) gt lt r = r
stands_of text w fault.Memory gt lt r = absurd (omega arith)

patches_of : (g : Grid) (w : Demand) (f : LayoutFault) → 4 < rank f → rank f < 9 → Opens g w (Some f) → HasPatches g w.used
patches_of g w fault.TooLong gt lt o = absurd o
patches_of g w (fault.Form line) gt lt o = absurd o
patches_of g w fault.Size gt lt o = absurd o
patches_of g w (fault.Overlap c) gt lt o = absurd o
patches_of g w (fault.PatchMissing q) gt lt o = absurd (omega arith)
patches_of g w (fault.Split c) gt lt o = o.0
patches_of g w (fault.Shut q e) gt lt o = o.0
patches_of g w fault.NoPort gt lt o = o.0
patches_of g w (fault.ShutPort f) gt lt o = o.0
patches_of g w fault.Memory gt lt o = absurd o

whole_of : (g : Grid) (w : Demand) (f : LayoutFault) → 5 < rank f → rank f < 9 → Opens g w (Some f) → IsWhole g
whole_of g w fault.TooLong gt lt o = absurd o
whole_of g w (fault.Form line) gt lt o = absurd o
whole_of g w fault.Size gt lt o = absurd o
whole_of g w (fault.Overlap c) gt lt o = absurd o
whole_of g w (fault.PatchMissing q) gt lt o = absurd (omega arith)
whole_of g w (fault.Split c) gt lt o = absurd (omega arith)
whole_of g w (fault.Shut q e) gt lt o = o.1
whole_of g w fault.NoPort gt lt o = o.1
whole_of g w (fault.ShutPort f) gt lt o = o.1
whole_of g w fault.Memory gt lt o = absurd o

open_sides_of : (g : Grid) (w : Demand) (f : LayoutFault) → 6 < rank f → rank f < 9 → Opens g w (Some f) → SidesOpen g w.used
open_sides_of g w fault.TooLong gt lt o = absurd o
open_sides_of g w (fault.Form line) gt lt o = absurd o
open_sides_of g w fault.Size gt lt o = absurd o
open_sides_of g w (fault.Overlap c) gt lt o = absurd o
open_sides_of g w (fault.PatchMissing q) gt lt o = absurd (omega arith)
open_sides_of g w (fault.Split c) gt lt o = absurd (omega arith)
open_sides_of g w (fault.Shut q e) gt lt o = absurd (omega arith)
open_sides_of g w fault.NoPort gt lt o = o.2
open_sides_of g w (fault.ShutPort f) gt lt o = o.2
open_sides_of g w fault.Memory gt lt o = absurd o

port_of : (g : Grid) (w : Demand) (f : LayoutFault) → 7 < rank f → rank f < 9 → Opens g w (Some f) → w.rotations ≡ true → HasAnyPort g
port_of g w fault.TooLong gt lt o = absurd o
port_of g w (fault.Form line) gt lt o = absurd o
port_of g w fault.Size gt lt o = absurd o
port_of g w (fault.Overlap c) gt lt o = absurd o
port_of g w (fault.PatchMissing q) gt lt o = absurd (omega arith)
port_of g w (fault.Split c) gt lt o = absurd (omega arith)
port_of g w (fault.Shut q e) gt lt o = absurd (omega arith)
port_of g w fault.NoPort gt lt o = absurd (omega arith)
port_of g w (fault.ShutPort f) gt lt o = o.3
port_of g w fault.Memory gt lt o = absurd o

not_shut : (g : Grid) (used : List Bool) (q : ℕ) (e : Edge) → SidesOpen g used → IsShut g used q e → ⊥
not_shut g used q edge.X sides (is, none, all) = none (sides q edge.X is)
not_shut g used q edge.Z sides (is, (x, none), all) = none (sides q edge.Z is)

-- an earlier cause excludes a later one
opens_first : (g : Grid) (w : Demand) (e f : LayoutFault) → rank e < rank f → rank f < 9 → Opens g w (Some e) → Opens g w (Some f) → ⊥
opens_first g w (fault.PatchMissing q) f gt lt ((used, none), least) o = let (c, is) = patches_of g w f gt lt o q used in none c is
opens_first g w (fault.Split c) f gt lt (has, (first, (anc, least), ((is, cut), lesser))) o = cut (whole_of g w f gt lt o first c anc is)
opens_first g w (fault.Shut q e) f gt lt (has, whole, shut) o = not_shut g w.used q e (open_sides_of g w f gt lt o) shut
opens_first g w fault.NoPort f gt lt (has, whole, sides, rotations, none) o = none (port_of g w f gt lt o rotations)
opens_first g w (fault.ShutPort p) f gt lt c o = omega arith
opens_first g w fault.TooLong f gt lt c o = c
opens_first g w (fault.Form line) f gt lt c o = c
opens_first g w fault.Size f gt lt c o = c
opens_first g w (fault.Overlap d) f gt lt c o = c
opens_first g w fault.Memory f gt lt c o = c

-- the causes of one grid
same_grid : (text : List ℕ) (w : Demand) (g h : Grid) (f : LayoutFault) → StandsFor text g → StandsFor text h → Opens h w (Some f) → Opens g w (Some f)
same_grid text w g h f s t o = let P : Grid → Type 0 = λ x. Opens x w (Some f) in subst P (sym (stands_one text g h s t)) o

late_first : (text : List ℕ) (w : Demand) (g : Grid) (e f : LayoutFault) → 3 < rank e → rank e < rank f → rank f < 9 → StandsFor text g → Opens g w (Some e) → Refused text w f → ⊥
late_first text w g e f le gt lt s o r = let (h, t, p) = stands_of text w f (omega arith) lt r in opens_first g w e f gt lt o (same_grid text w g h f s t p)

refused_first : (text : List ℕ) (w : Demand) (e f : LayoutFault) → rank e < rank f → rank f < 9 → Refused text w e → Refused text w f → ⊥
refused_first text w fault.TooLong f gt lt long r = let short = short_of text w f gt lt r in omega arith
refused_first text w (fault.Form line) f gt lt (short, (n, is, bad)) r = let (rows, columns, ls, formed) = formed_of text w f gt lt r in formed_not_bad (lines text) rows columns ls n formed bad
refused_first text w fault.Size f gt lt (short, (r, c, xs, formed, not-sized)) q =
    let (s, d, ys, formed', sized) = sized_of text w f gt lt q in
    let w' = formed_one (lines text) s d r c ys xs formed' formed in
    let P : ℕ → Type 0 = λ x. Sized x d ys in
    let Q : ℕ → Type 0 = λ x. Sized r x ys in
    let R : List Line → Type 0 = λ x. Sized r c x in
    not-sized (subst R w'.2 (subst Q w'.1 (subst P w'.0 sized)))
refused_first text w (fault.Overlap cell) f gt lt (short, (r, c, xs, formed, sized, (two, least))) q =
    let (g, (s, d, ys, short', formed', sized', once, laid), o) = stands_of text w f gt lt q in
    let w' = formed_one (lines text) r c s d xs ys formed formed' in
    let R : List Line → Type 0 = λ x. Twice x cell in
    once cell (subst R w'.2 two)
refused_first text w (fault.PatchMissing q) f gt lt (g, s, o) r = late_first text w g (fault.PatchMissing q) f (omega arith) gt lt s o r
refused_first text w (fault.Split c) f gt lt (g, s, o) r = late_first text w g (fault.Split c) f (omega arith) gt lt s o r
refused_first text w (fault.Shut q e) f gt lt (g, s, o) r = late_first text w g (fault.Shut q e) f (omega arith) gt lt s o r
refused_first text w fault.NoPort f gt lt (g, s, o) r = late_first text w g fault.NoPort f (omega arith) gt lt s o r
refused_first text w (fault.ShutPort p) f gt lt (g, s, o) r = omega arith
refused_first text w fault.Memory f gt lt m r = omega arith

-- one least number
least_one : (P : ℕ → Type 0) (m n : ℕ) → Least P m → Least P n → m ≡ n
least_one P m n (p, least) (q, lesser) = elim (cases_lt m n) [
  | inl lt ↦ absurd (lesser m lt p)
  | inr ge ↦ elim (cases_lt n m) [ inl gt ↦ absurd (least n gt q) | inr le ↦ omega arith ]
]

bad_one : (before : List Line) (texts : List (List ℕ)) (m n : ℕ) → BadBody before texts m → BadBody before texts n → m ≡ n
bad_one before [] m n b c = absurd b
bad_one before (text ∷ texts) zero zero b c = refl
bad_one before (text ∷ texts) zero (suc n) b (a, inl s, c) = absurd (b.0 s.0)
bad_one before (text ∷ texts) zero (suc n) b (a, inr (l, t, f, e), c) = absurd (b.1 l t f)
bad_one before (text ∷ texts) (suc m) zero (a, inl s, b) c = absurd (c.0 s.0)
bad_one before (text ∷ texts) (suc m) zero (a, inr (l, t, f, e), b) c = absurd (c.1 l t f)
bad_one before (text ∷ texts) (suc m) (suc n) (a, s, b) (d, t, c) =
    let P : List Line → Type 0 = λ zs. BadBody zs texts n in
    let e : m ≡ n = bad_one a texts m n b (subst P (sym (takes_one before text a d s t)) c) in
    ap suc e

first_bad_one : (texts : List (List ℕ)) (m n : ℕ) → FirstBadText texts m → FirstBadText texts n → m ≡ n
first_bad_one [] m n b c = b ∙ sym c
first_bad_one (text ∷ texts) zero zero b c = refl
first_bad_one (text ∷ texts) zero (suc n) b ((r, c, h), d) = absurd (b r c h)
first_bad_one (text ∷ texts) (suc m) zero ((r, c, h), d) b = absurd (b r c h)
first_bad_one (text ∷ texts) (suc m) (suc n) (h, b) (k, c) = let e : m ≡ n = bad_one [] texts m n b c in ap suc e

shut_less : (g : Grid) (used : List Bool) (p q : ℕ) (e f : Edge) → IsShut g used p e → IsShut g used q f → p < q → ⊥
shut_less g used p q edge.X f (is, none, all) (is', none', all') lt = none (all' p edge.X lt is)
shut_less g used p q edge.Z f (is, (x, none), all) (is', none', all') lt = none (all' p edge.Z lt is)

shut_edge : (g : Grid) (q : ℕ) (e f : Edge) → FirstShut g q e → FirstShut g q f → e ≡ f
shut_edge g q edge.X edge.X s t = refl
shut_edge g q edge.X edge.Z s t = absurd (s t.0)
shut_edge g q edge.Z edge.X s t = absurd (t s.0)
shut_edge g q edge.Z edge.Z s t = refl

shut_one : (g : Grid) (used : List Bool) (p q : ℕ) (e f : Edge) → IsShut g used p e → IsShut g used q f → (p ≡ q) × (e ≡ f)
shut_one g used p q e f s t = elim (cases_lt p q) [
  | inl lt ↦ absurd (shut_less g used p q e f s t lt)
  | inr ge ↦ elim (cases_lt q p) [
    | inl gt ↦ absurd (shut_less g used q p f e t s gt)
    | inr le ↦ let same : q ≡ p = omega arith in let P : ℕ → Type 0 = λ x. FirstShut g x f in (sym same, shut_edge g p e f s.1 (subst P same t.1))
  ]
]

split_one : (g : Grid) (a b c d : ℕ) → Least (IsAncilla g) a → Least (IsAncilla g) b → Least (CutFrom g a) c → Least (CutFrom g b) d → c ≡ d
split_one g a b c d x y s t = let P : ℕ → Type 0 = λ z. Least (CutFrom g z) d in least_one (CutFrom g a) c d s (subst P (sym (least_one (IsAncilla g) a b x y)) t)

-- two refusals of one kind are one
refused_same : (text : List ℕ) (w : Demand) (e f : LayoutFault) → rank e ≡ rank f → Refused text w e → Refused text w f → e ≡ f
refused_same text w fault.TooLong fault.TooLong same r s = refl
refused_same text w (fault.Form line) (fault.Form line') same (short, (m, e, b)) (short', (n, f, c)) = let h = first_bad_one (lines text) m n b c in let i : line ≡ line' = omega arith in ap (λ (x : ℕ). fault.Form x) i
refused_same text w fault.Size fault.Size same r s = refl
refused_same text w (fault.Overlap a) (fault.Overlap b) same (short, (r, c, xs, formed, sized, x)) (short', (s, d, ys, formed', sized', y)) =
    let w' = formed_one (lines text) r c s d xs ys formed formed' in
    let P : List Line → Type 0 = λ z. Least (Twice z) b in
    ap (λ (x : ℕ). fault.Overlap x) (least_one (Twice xs) a b x (subst P (sym w'.2) y))
refused_same text w (fault.PatchMissing p) (fault.PatchMissing q) same (g, s, o) (h, t, u) = ap (λ (x : ℕ). fault.PatchMissing x) (least_one (Lacks g w.used) p q o (same_grid text w g h (fault.PatchMissing q) s t u))
refused_same text w (fault.Split c) (fault.Split d) same (g, s, (has, (a, x, y))) (h, t, u) =
    let (has', (b, x', y')) = same_grid text w g h (fault.Split d) s t u in
    ap (λ (x : ℕ). fault.Split x) (split_one g a b c d x x' y y')
refused_same text w (fault.Shut p e) (fault.Shut q f) same (g, s, (has, whole, x)) (h, t, u) =
    let (has', whole', y) = same_grid text w g h (fault.Shut q f) s t u in
    let z = shut_one g w.used p q e f x y in
    ap (λ (n : ℕ). fault.Shut n e) z.0 ∙ ap (λ (k : Edge). fault.Shut q k) z.1
refused_same text w fault.NoPort fault.NoPort same r s = refl
refused_same text w (fault.ShutPort p) (fault.ShutPort q) same (g, s, (has, whole, sides, port, x)) (h, t, u) =
    let (has', whole', sides', port', y) = same_grid text w g h (fault.ShutPort q) s t u in
    ap (λ (x : ℕ). fault.ShutPort x) (least_one (PortShut g) p q x y)
refused_same text w fault.Memory fault.Memory same r s = refl
refused_same text w _ _ same r s = absurd (omega arith)

refused_one : (text : List ℕ) (w : Demand) (e f : LayoutFault) → rank e < 9 → rank f < 9 → Refused text w e → Refused text w f → e ≡ f
refused_one text w e f le lf r s = elim (cases_lt (rank e) (rank f)) [
  | inl lt ↦ absurd (refused_first text w e f lt lf r s)
  | inr ge ↦ elim (cases_lt (rank f) (rank e)) [
    | inl gt ↦ absurd (refused_first text w f e gt le s r)
    | inr le' ↦ refused_same text w e f (omega arith) r s
  ]
]

form_rank : (f : LayoutFault) → OfForm f → rank f < 9
form_rank fault.TooLong o = omega arith
form_rank (fault.Form line) o = omega arith
form_rank fault.Size o = omega arith
form_rank (fault.Overlap c) o = omega arith
form_rank (fault.PatchMissing q) o = absurd o
form_rank (fault.Split c) o = absurd o
form_rank (fault.Shut q e) o = absurd o
form_rank fault.NoPort o = absurd o
form_rank (fault.ShutPort p) o = absurd o
form_rank fault.Memory o = absurd o

-- what must be served has no part in it
any_wanted : (text : List ℕ) (v w : Demand) (f : LayoutFault) → OfForm f → Refused text v f → Refused text w f
any_wanted text v w fault.TooLong o r = r
any_wanted text v w (fault.Form line) o r = r
any_wanted text v w fault.Size o r = r
any_wanted text v w (fault.Overlap c) o r = r
any_wanted text v w (fault.PatchMissing q) o r = absurd o
any_wanted text v w (fault.Split c) o r = absurd o
any_wanted text v w (fault.Shut q e) o r = absurd o
any_wanted text v w fault.NoPort o r = absurd o
any_wanted text v w (fault.ShutPort p) o r = absurd o
any_wanted text v w fault.Memory o r = absurd o

pub one_fault : (text : List ℕ) (v w : Demand) (e f : LayoutFault) → OfForm e → OfForm f → Refused text v e → Refused text w f → e ≡ f
one_fault text v w e f oe fo r s = refused_one text w e f (form_rank e oe) (form_rank f fo) (any_wanted text v w e oe r) s

-- a text with a cause is refused for it, or where memory is out
pub read_told : (text : List ℕ) (w : Demand) (r : Result Grid LayoutFault) → IfOk r (StandsFor text) → IfOk r (λ g. Open g w) → IfErr r (Refused text w) → (f : LayoutFault) → f ≢ fault.Memory → Refused text w f
    → MatchResult r (λ _. ⊥) (λ e. (e ≡ f) ⊎ (e ≡ fault.Memory))
read_told text w (Ok g) stands opened refused f other cause = other (open_read text w g f stands opened cause)
read_told text w (Err e) stands opened refused f other cause = elim (cases_lt (rank e) 9) [
  | inl lt ↦ elim (cases_lt (rank f) 9) [
    | inl lf ↦ inl (refused_one text w e f lt lf refused cause)
    | inr ge ↦ absurd (other (memory_is f ge))
  ]
  | inr ge ↦ inr (memory_is e ge)
]
