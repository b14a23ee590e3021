-- What keeps a layout from being open.
use Rattle.std.proofs.Common.{◌≡◌, ℕ, zero, suc, Bool, true, false, ◌+◌, ◌<◌, ◌≤◌, ◌↔◌, inl, inr, length, slice_get, get_or, Option, Some, None, List, [], ◌∷◌, ◌++◌, refl, sym, subst, arith, Contains, IsTrue, MatchOption, lit<, not, is_some}
use Rattle.std.proofs.lemmas.Option.{slice_get_within, get_or_from_slice_get}
use Rattle.std.proofs.lemmas.Bool.{cases_lt}
use Rattle.patch_layout.specs.declared.layout.Edge.{Edge}
use Rattle.patch_layout.specs.declared.layout.Edge.TheVariants as edge
use Rattle.patch_layout.specs.declared.layout.Site.TheVariants as site
use Rattle.patch_layout.specs.declared.walk.Reached.{Reached}
use Rattle.patch_layout.specs.Grid.{Grid, IsAncilla, IsPatch, IsPort, OnPort, Adjacent, Joins, Leads}
use Rattle.patch_layout.specs.declared.layout.Side.{Side}
use Rattle.patch_layout.specs.Region.{OnSide}
use Rattle.patch_layout.specs.Row.{IsUsed}
use Rattle.patch_layout.proofs.OnSides.{none_on}
use Rattle.patch_layout.specs.Spread.{Marked, Spread}
use Rattle.patch_layout.specs.Openness.{Least, Lacks, HasPatches, CutFrom, IsSplit, IsWhole, HasSide, SidesOpen, HasAnyPort, PortShut}
use Rattle.patch_layout.proofs.Places.{item_is}
use Rattle.patch_layout.proofs.Fits.{joins_on, joins_back}
use Rattle.patch_layout.proofs.Trees.{only, leads_wider}
use Rattle.patch_layout.proofs.Walking.{reaches}

-- one more number
pub to_more : (P : ℕ → Type 0) (n : ℕ) → ((m : ℕ) → m < n → P m) → P n → (m : ℕ) → m < n + 1 → P m
to_more P n all here m lt = elim (cases_lt m n) [
  | inl lt' ↦ all m lt'
  | inr ge ↦ let same : n ≡ m = omega arith in subst P same here
]

-- the qubits below n have patches if they are used
abbrev pub ServedTo : Grid → List Bool → ℕ → Type 0
ServedTo g used n = (q : ℕ) → q < n → IsUsed used q → (c : ℕ) × IsPatch g q c

abbrev pub OpenTo : Grid → List Bool → ℕ → Type 0
OpenTo g used n = (q : ℕ) → q < n → IsUsed used q → (e : Edge) → HasSide g q e

pub served_more : (g : Grid) (used : List Bool) (n : ℕ) (d b : Bool) → ServedTo g used n → (IsTrue b → (c : ℕ) × IsPatch g n c) → b ≡ get_or used n d → ServedTo g used (n + 1)
served_more g used n d b all here e =
    to_more (λ q. IsUsed used q → (c : ℕ) × IsPatch g q c) n all (λ is. let f : get_or used n d ≡ true = get_or_from_slice_get used n true d is in here (cc))

pub open_more : (g : Grid) (used : List Bool) (n : ℕ) (d b : Bool) → OpenTo g used n → (IsTrue b → (e : Edge) → HasSide g n e) → b ≡ get_or used n d → OpenTo g used (n + 1)
open_more g used n d b all here e =
    to_more (λ q. IsUsed used q → (f : Edge) → HasSide g q f) n all (λ is. let h : get_or used n d ≡ true = get_or_from_slice_get used n true d is in here (cc))

pub is_used : (used : List Bool) (n : ℕ) (d b : Bool) → n < length used → IsTrue b → b ≡ get_or used n d → IsUsed used n
is_used used n d b in' t e = let f : get_or used n d ≡ true = cc in item_is used n d true in' f

pub least_lacking : (g : Grid) (used : List Bool) (n : ℕ) → ServedTo g used n → IsUsed used n → ((c : ℕ) → IsPatch g n c → ⊥) → Least (Lacks g used) n
least_lacking g used n all is none = ((is, none), λ m lt (other, missing). let (c, p) = all m lt other in missing c p)

pub served_whole : (g : Grid) (used : List Bool) (n : ℕ) → length used ≤ n → ServedTo g used n → HasPatches g used
served_whole g used n end all q is = all q (let w : q < length used = slice_get_within used q true is in omega arith) is

pub open_whole : (g : Grid) (used : List Bool) (n : ℕ) → length used ≤ n → OpenTo g used n → SidesOpen g used
open_whole g used n end all q e is = all q (let w : q < length used = slice_get_within used q true is in omega arith) is e

-- marks of the ancilla cells below n
pub record MarksTo (g : Grid) (marks : List Bool) (n : ℕ) : Type 0 where
  pub size : length marks ≡ n
  pub marks_are : (c : ℕ) → Marked marks c → IsAncilla g c
  pub are_marked : (c : ℕ) → c < n → IsAncilla g c → Marked marks c

-- one step more
leads_one : (g : Grid) (P : ℕ → Type 0) (cs : List ℕ) (a b c : ℕ) → Leads g P (λ x. x ≡ b) a cs → Adjacent g b c → P c → Leads g P (λ x. x ≡ c) a (cs ++ c ∷ [])
leads_one g P [] a b c e adj p = let Q : ℕ → Type 0 = λ x. Adjacent g x c in (subst Q (sym e) adj, p, refl)
leads_one g P (d ∷ cs) a b c (next, q, rest) adj p = (next, q, leads_one g P cs d b c rest adj p)

-- the entries of a walk's queue are joined to its start
queue_joined : (g : Grid) (Free : ℕ → Type 0) (first head : ℕ) (queue : List Reached) (seen : List Bool) → Free first → Spread g Free (first ∷ []) queue head seen
    → (n k : ℕ) (r : Reached) → k < n → slice_get queue k ≡ Some r → Joins g Free first r.cell
queue_joined g Free first head queue seen start s zero k r lt is = absurd (omega arith)
queue_joined g Free first head queue seen start s (suc n) k r lt is = elim (s.came k r is) [
  | inl at-start ↦ let P : ℕ → Type 0 = λ x. Joins g Free first x in subst P (only first r.cell at-start.2) ([], start, refl)
  | inr f ↦
      let up : Joins g Free first f.base.cell = queue_joined g Free first head queue seen start s n r.from f.base (let e = f.earlier in omega arith) f.is in
      let (cs, p, leads) = up in
      (cs ++ r.cell ∷ [], p, leads_one g Free cs first f.base.cell r.cell leads f.adjacent f.free)
]

pub cut_off_done : (g : Grid) (free seen : List Bool) (first : ℕ) (queue : List Reached) → IsAncilla g first → ((c : ℕ) → Marked free c ↔ IsAncilla g c)
    → Spread g (Marked free) (first ∷ []) queue (length queue) seen
    → (c : ℕ) → (Marked seen c → Joins g (IsAncilla g) first c) × (Joins g (IsAncilla g) first c → Marked seen c)
cut_off_done g free seen first queue start said w c =
    let s = w in
    let free-start = (said first).1 start in (
      λ m.
          let (k, r, is, cell) = s.marked c m in
          let (cs, p, leads) = queue_joined g (Marked free) first (length queue) queue seen free-start s (suc k) k r (omega arith) is in
          let P : ℕ → Type 0 = λ x. Joins g (IsAncilla g) first x in
          subst P cell (cs, start, leads_wider g (Marked free) (IsAncilla g) (λ x. x ≡ r.cell) cs first (λ x q. (said x).0 q) leads),
      λ (cs, p, leads).
          let (k, r, is, cell, zero-steps) = s.start first (0, lit< tt, refl) in
          let leads' : Leads g (Marked free) (λ x. x ≡ c) first cs = leads_wider g (IsAncilla g) (Marked free) (λ x. x ≡ c) cs first (λ x q. (said x).1 q) leads in
          let P : ℕ → Type 0 = λ x. Leads g (Marked free) (λ y. y ≡ c) x cs in
          let (j, b, at-b, same) = reaches g (Marked free) (first ∷ []) queue seen c s cs k r is (subst P (sym cell) leads') in
          let Q : ℕ → Type 0 = λ x. Marked seen x in
          subst Q same (s.mark j b at-b),
    )

-- what is left unseen is cut off
pub cut_off_is : (g : Grid) (free seen : List Bool) (first : ℕ) (queue : List Reached) (unseen : Option ℕ) → IsAncilla g first → ((c : ℕ) → Marked free c ↔ IsAncilla g c)
    → Spread g (Marked free) (first ∷ []) queue (length queue) seen
    → MatchOption unseen ((c : ℕ) → Marked free c → Marked seen c) (Least (λ c. Marked free c × (Marked seen c → ⊥)))
    → MatchOption unseen ((c : ℕ) → IsAncilla g c → Joins g (IsAncilla g) first c) (Least (CutFrom g first))
cut_off_is g free seen first queue None start said w all = λ c is. (cut_off_done g free seen first queue start said w c).0 (all c ((said c).1 is))
cut_off_is g free seen first queue (Some c) start said w least = (
  ((said c).0 least.0.0, λ j. least.0.1 ((cut_off_done g free seen first queue start said w c).1 j)),
  λ m lt (is, cut). least.1 m lt ((said m).1 is, λ marked. cut ((cut_off_done g free seen first queue start said w m).0 marked)),
)

-- all cells that are joined to one are joined to each other
pub split_is : (g : Grid) (first : ℕ) (cut : Option ℕ) → Least (IsAncilla g) first → MatchOption cut ((c : ℕ) → IsAncilla g c → Joins g (IsAncilla g) first c) (Least (CutFrom g first)) → MatchOption cut (IsWhole g) (IsSplit g)
split_is g first None least all = λ a b ia ib.
    joins_on g (IsAncilla g) a first b (joins_back g (IsAncilla g) (λ x p. slice_get_within g.sites x site.Ancilla p) first a (all a ia)) (all b ib)
split_is g first (Some c) least cut = (first, least, cut)

pub ports_none : (g : Grid) (n : ℕ) → length g.sites ≤ n → ((m : ℕ) → m < n → (f : ℕ) → IsPort g f m → ⊥) → HasAnyPort g → ⊥
ports_none g n end none (c, f, (level, store, is)) = none c (let w : c < length g.sites = slice_get_within g.sites c (site.Port f level store) is in omega arith) f (level, store, is)

abbrev pub PortsOpenTo : Grid → ℕ → Type 0
PortsOpenTo g n = (f : ℕ) → f < n → (c : ℕ) → IsPort g f c → (d : ℕ) × OnPort g f d

pub least_shut : (g : Grid) (n : ℕ) → PortsOpenTo g n → PortShut g n → Least (PortShut g) n
least_shut g n all here = (here, λ m lt ((c, is), none). let (d, on) = all m lt c is in none d on)

pub not_both : (r : Bool) → r ≡ true → not r ≡ true → ⊥
not_both true e f = cc
not_both false e f = cc

-- two that may be cells
pub first_open : (pair : List (Option ℕ)) (g : Grid) (s : Side) (r : Bool) → length pair ≡ 2 → ((d : ℕ) → Contains pair (Some d) ↔ OnSide g s d) → r ≡ is_some (get_or pair 0 None) → r ≡ true → IsTrue r ↔ ((d : ℕ) × OnSide g s d)
first_open [] g s r size said e t = absurd (omega arith)
first_open (x ∷ []) g s r size said e t = absurd (omega arith)
first_open (None ∷ y ∷ []) g s r size said e t = absurd (cc)
first_open (Some d ∷ y ∷ []) g s r size said e t = (λ _. (d, (said d).0 (0, lit< tt, refl)), λ _. t)
first_open (x ∷ y ∷ z ∷ rest) g s r size said e t = absurd (omega arith)

pub second_open : (pair : List (Option ℕ)) (g : Grid) (s : Side) (r t : Bool) → length pair ≡ 2 → ((d : ℕ) → Contains pair (Some d) ↔ OnSide g s d) → r ≡ is_some (get_or pair 0 None) → r ≡ false → t ≡ is_some (get_or pair 1 None)
    → IsTrue t ↔ ((d : ℕ) × OnSide g s d)
second_open [] g s r t size said e f h = absurd (omega arith)
second_open (x ∷ []) g s r t size said e f h = absurd (omega arith)
second_open (Some d ∷ y ∷ []) g s r t size said e f h = absurd (cc)
second_open (None ∷ None ∷ []) g s r t size said e f h = (λ on. absurd (cc), λ (d, on). absurd (none_on d ((said d).1 on)))
second_open (None ∷ Some d ∷ []) g s r t size said e f h = (λ _. (d, (said d).0 (1, lit< tt, refl)), λ _. h)
second_open (x ∷ y ∷ z ∷ rest) g s r t size said e f h = absurd (omega arith)

pub both_edges : (g : Grid) (q : ℕ) → HasSide g q edge.X → HasSide g q edge.Z → (e : Edge) → HasSide g q e
both_edges g q x z edge.X = x
both_edges g q x z edge.Z = z
