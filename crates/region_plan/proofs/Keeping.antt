-- Walks that are kept, and grids where they serve.
use Rattle.std.proofs.Common.{◌≡◌, ◌↔◌, ℕ, zero, suc, Bool, true, false, not, IsTrue, ◌+◌, ◌-◌, ◌%◌, ◌<◌, ◌==◌, inl, inr, nat_lt, if◌then◌else◌, length, slice_get, slice_set, get_or, Option, Some, None, is_some, List, [], ◌∷◌, ◌++◌, refl, sym, subst, arith, Contains, length-append}
use Rattle.std.proofs.lemmas.Option.{slice_get_within, slice_get-get_or}
use Rattle.std.proofs.lemmas.Bool.{cases_lt, false≢true}
use Rattle.std.proofs.Math.Bool.{beq}
use Rattle.patch_layout.specs.declared.walk.Reached.{Reached}
use Rattle.patch_layout.specs.declared.layout.Site.TheVariants as site
use Rattle.patch_layout.specs.Grid.{Grid, IsAncilla, Adjacent, neighbours}
use Rattle.patch_layout.proofs.Places.{get_from_Contains, get_cases, get_kept, get_added, get_set_cases, same_entry}
use Rattle.region_plan.specs.Free.{Free, IsUnheld}
use Rattle.region_plan.specs.inside.Walk.{Reaches, Sought}
use Rattle.region_plan.specs.inside.Kept.{Clear, AncillaTo, Like, KeptFrom, Suits, AllKept, HasWalk, used}
use Rattle.region_plan.specs.declared.kept.Walk.{Walk}
use Rattle.region_plan.proofs.Reaching.{reaches_of}

-- no walks
pub suits_none : (g : Grid) (held : List (Option ℕ)) → Suits g held []
suits_none g held k w is = absurd (cc)

pub all_kept_none : (columns : ℕ) (ancilla : List Bool) → AllKept columns ancilla []
all_kept_none columns ancilla g held like clear = suits_none g held

no_cell : (k c : ℕ) → slice_get {X = Option ℕ} (None ∷ None ∷ []) k ≡ Some (Some c) → ⊥
no_cell zero c e = cc
no_cell (suc zero) c e = cc
no_cell (suc (suc k)) c e = cc

-- from a pair without cells a walk leads nowhere
pub kept_nowhere : (g : Grid) (held : List (Option ℕ)) → KeptFrom g held (None ∷ None ∷ []) []
kept_nowhere g held = (
  [],
  (
    λ c (k, in', e). absurd (omega arith),
    λ c free on. let (k, is) = get_from_Contains (None ∷ None ∷ []) (Some c) on in absurd (no_cell k c is),
  ),
  record {
    came = λ k r is. absurd (cc);
    start = λ c (k, in', e). absurd (omega arith);
    within = λ k r is. absurd (cc);
    ordered = λ i j a b le ea. absurd (cc);
    once = λ i j a b ea. absurd (cc);
    done = λ k r lt is. absurd (cc);
  },
)

-- one more walk
pub suits_push : (g : Grid) (held : List (Option ℕ)) (walks : List Walk) (w : Walk) → Suits g held walks → KeptFrom g held w.pair w.queue.items → Suits g held (walks ++ w ∷ [])
suits_push g held walks w suits kept k x is = elim (get_cases walks w k x is) [
  | inl old ↦ suits k x old
  | inr new ↦ let P : Walk → Type 0 = λ y. KeptFrom g held y.pair y.queue.items in subst P new.1 kept
]

pub suits_set : (g : Grid) (held : List (Option ℕ)) (walks : List Walk) (n : ℕ) (w : Walk) → Suits g held walks → KeptFrom g held w.pair w.queue.items → Suits g held (slice_set walks n w)
suits_set g held walks n w suits kept k x is = elim (get_set_cases walks n w k x is) [
  | inl old ↦ suits k x old
  | inr new ↦ let P : Walk → Type 0 = λ y. KeptFrom g held y.pair y.queue.items in subst P new.1 kept
]

-- a walk that came to its end is kept
pub kept_sought : (g : Grid) (held pair : List (Option ℕ)) (queue : List Reached) (seen : List Bool) → Sought g held pair [] queue seen None → KeptFrom g held pair queue
kept_sought g held pair queue seen (starts, ones, (s, none)) = (starts, ones, reaches_of g (Free g held) starts queue (length queue) seen s)

-- the neighbours by the number of columns and that of the cells
abbrev beside : ℕ → ℕ → ℕ → List (Option ℕ)
beside w n c =
    (if nat_lt c w then None else Some (c - w)) ∷ (if c % w == 0 then None else Some (c - 1)) ∷ (if (c + 1) % w == 0 then None else Some (c + 1)) ∷ (if nat_lt (c + w) n then Some (c + w) else None) ∷ []

same_neighbours : (g h : Grid) (c : ℕ) → g.columns ≡ h.columns → length g.sites ≡ length h.sites → neighbours g c ≡ neighbours h c
same_neighbours g h c width size =
    let P : ℕ → Type 0 = λ w. beside g.columns (length g.sites) c ≡ beside w (length g.sites) c in
    let Q : ℕ → Type 0 = λ n. beside g.columns (length g.sites) c ≡ beside h.columns n c in
    let e : beside g.columns (length g.sites) c ≡ beside h.columns (length h.sites) c = subst Q size (subst P width refl) in e

-- two grids with as many columns and the same ancilla cells
record Alike (g h : Grid) (held other : List (Option ℕ)) : Type 0 where
  pub width : g.columns ≡ h.columns
  pub size : length g.sites ≡ length h.sites
  pub free : (c : ℕ) → Free g held c → Free h other c
  pub back : (c : ℕ) → Free h other c → Free g held c

free_alike : (g h : Grid) (held other : List (Option ℕ)) (columns : ℕ) (ancilla : List Bool) → Like g columns ancilla → Like h columns ancilla → Clear h other → (c : ℕ) → Free g held c → Free h other c
free_alike g h held other columns ancilla lg lh clear c (is, unheld) =
    let a : slice_get ancilla c ≡ Some true = (lg.cells.1 c (slice_get_within g.sites c site.Ancilla is)).0 is in
    let within : c < length ancilla = slice_get_within ancilla c true a in
    let size : length ancilla ≡ length h.sites = lh.cells.0 in
    ((lh.cells.1 c (omega arith)).1 a, clear.1 c (omega (arith, clear.0)))

alike : (g h : Grid) (held other : List (Option ℕ)) (columns : ℕ) (ancilla : List Bool) → Like g columns ancilla → Like h columns ancilla → Clear g held → Clear h other → Alike g h held other
alike g h held other columns ancilla lg lh cg ch =
    record {
      width = (let a : g.columns ≡ columns = lg.width in let b : h.columns ≡ columns = lh.width in cc);
      size = omega (arith, lg.cells.0, lh.cells.0);
      free = free_alike g h held other columns ancilla lg lh ch;
      back = free_alike h g other held columns ancilla lh lg cg;
    }

reaches_alike : (g h : Grid) (held other : List (Option ℕ)) (starts : List ℕ) (queue : List Reached) (head : ℕ) → Alike g h held other → Reaches g (Free g held) starts queue head → Reaches h (Free h other) starts queue head
reaches_alike g h held other starts queue head a s =
    let there = λ (x y : ℕ) (adj : Adjacent g x y).
    let P : List (Option ℕ) → Type 0 = λ xs. Contains xs (Some y) in
    let e : Adjacent h x y = subst P (same_neighbours g h x a.width a.size) adj in e in
    let back = λ (x y : ℕ) (adj : Adjacent h x y).
    let P : List (Option ℕ) → Type 0 = λ xs. Contains xs (Some y) in
    let e : Adjacent g x y = subst P (sym (same_neighbours g h x a.width a.size)) adj in e in
    record {
      came = λ k r is. elim (s.came k r is) [
        | inl start ↦ inl start
        | inr f ↦ inr (record { base = f.base; is = f.is; earlier = f.earlier; steps = f.steps; adjacent = there f.base.cell r.cell f.adjacent; free = a.free r.cell f.free })
      ];
      start = s.start;
      within = λ k r is. omega (arith, s.within k r is, a.size);
      ordered = s.ordered;
      once = s.once;
      done = λ k r lt is c adj free. s.done k r lt is c (back r.cell c adj) (a.back c free);
    }

kept_alike : (g h : Grid) (held other pair : List (Option ℕ)) (queue : List Reached) → Alike g h held other → KeptFrom g held pair queue → KeptFrom h other pair queue
kept_alike g h held other pair queue a (starts, ones, s) = (
  starts,
  (
    λ c has. let (free, on) = ones.0 c has in (a.free c free, on),
    λ c free on. ones.1 c (a.back c free) on,
  ),
  reaches_alike g h held other starts queue (length queue) a s,
)

-- what serves in one grid serves in each that is like it
pub all_kept : (g : Grid) (held : List (Option ℕ)) (columns : ℕ) (ancilla : List Bool) (walks : List Walk) → Like g columns ancilla → Clear g held → Suits g held walks → AllKept columns ancilla walks
all_kept g held columns ancilla walks like clear suits h other like' clear' k w is =
    kept_alike g h held other w.pair w.queue.items (alike g h held other columns ancilla like like' clear clear') (suits k w is)

-- one more cell that isn't held
pub unheld_more : (held : List (Option ℕ)) (n : ℕ) → ((c : ℕ) → c < n → IsUnheld held c) → IsUnheld held n → (c : ℕ) → c < n + 1 → IsUnheld held c
unheld_more held n all one c lt = elim (cases_lt c n) [
  | inl less ↦ all c less
  | inr ge ↦ let same : n ≡ c = omega arith in let P : ℕ → Type 0 = λ x. IsUnheld held x in subst P same one
]

abbrev pub SameTo : Grid → List Bool → ℕ → Type 0
SameTo g ancilla n = (c : ℕ) → c < n → IsAncilla g c ↔ (slice_get ancilla c ≡ Some true)

-- one more cell that is what the list says
pub same_more : (g : Grid) (ancilla : List Bool) (n : ℕ) (b d : Bool) → SameTo g ancilla n → n < length ancilla → IsTrue b ↔ IsAncilla g n → b ≡ get_or ancilla n d → SameTo g ancilla (n + 1)
same_more g ancilla n b d same in' is e c lt = elim (cases_lt c n) [
  | inl less ↦ same c less
  | inr ge ↦
      let here : n ≡ c = omega arith in
      let at' : slice_get ancilla n ≡ Some (get_or ancilla n d) = slice_get-get_or ancilla n d in' in
      let P : ℕ → Type 0 = λ x. IsAncilla g x ↔ (slice_get ancilla x ≡ Some true) in
      let B : Bool → Type 0 = λ x. slice_get ancilla n ≡ Some x in
      let at-b : slice_get ancilla n ≡ Some b = subst B (sym e) at' in
      subst P here (
        λ a. let t : b ≡ true = is.1 a in subst B t at-b,
        λ m. is.0 (same_entry ancilla n b true at-b m),
      )
]

-- one more cell in the list
pub ancilla_more : (g : Grid) (ancilla : List Bool) (n : ℕ) (b : Bool) → AncillaTo g n ancilla → IsTrue b ↔ IsAncilla g n → AncillaTo g (n + 1) (ancilla ++ b ∷ [])
ancilla_more g ancilla n b (len, same) is = (
  omega (arith, length-append ancilla (b ∷ [])),
  λ c lt. elim (cases_lt c n) [
    | inl less ↦ (
      λ a. get_kept ancilla (b ∷ []) c true ((same c less).0 a),
      λ m. elim (get_cases ancilla b c true m) [ inl old ↦ (same c less).1 old | inr new ↦ absurd (omega (arith, new.0)) ],
    )
    | inr ge ↦
        let here : n ≡ c = omega arith in
        let P : ℕ → Type 0 = λ x. IsAncilla g x ↔ (slice_get (ancilla ++ b ∷ []) x ≡ Some true) in
        let Q : ℕ → Type 0 = λ x. slice_get (ancilla ++ b ∷ []) x ≡ Some b in
        let at-b : slice_get (ancilla ++ b ∷ []) n ≡ Some b = subst Q len (get_added ancilla b) in
        let B : Bool → Type 0 = λ x. slice_get (ancilla ++ b ∷ []) n ≡ Some x in
        subst P here (
          λ a. let t : b ≡ true = is.1 a in subst B t at-b,
          λ m. is.0 (same_entry (ancilla ++ b ∷ []) n b true at-b m),
        )
  ],
)

-- the walk that is there
pub has_walk : (in-use : Bool) (items walks : List Walk) (n : ℕ) (w : Walk) (pair : List (Option ℕ)) (queue : List Reached) → used in-use items ≡ walks → in-use ≡ true → slice_get items n ≡ Some w → w.pair ≡ pair → queue ≡ w.queue.items
    → HasWalk walks pair queue
has_walk in-use items walks n w pair queue view on is pair-is queue-is =
    let P : Bool → Type 0 = λ b. used b items ≡ walks in
    let same : items ≡ walks = subst P on view in
    let Q : List Walk → Type 0 = λ ws. slice_get ws n ≡ Some w in
    (n, w, subst Q same is, pair-is, sym queue-is)

none_of : (o : Option ℕ) (b : Bool) → b ≡ is_some o → b ≡ false → o ≡ None
none_of None b e f = refl
none_of (Some x) b e f = let t : b ≡ true = e in let u : true ≡ false = cc in absurd (false≢true (sym u))

-- a cell that no product holds
pub unheld_at : (held : List (Option ℕ)) (n : ℕ) (b : Bool) → n < length held → b ≡ is_some (get_or held n None) → b ≡ false → IsUnheld held n
unheld_at held n b in' e f =
    let P : Option ℕ → Type 0 = λ o. slice_get held n ≡ Some o in
    subst P (none_of (get_or held n None) b e f) (slice_get-get_or held n None in')

-- two truth values that don't differ
pub same_truth : (a b : Bool) → not (beq a b) ≡ false → a ≡ b
same_truth true true e = refl
same_truth true false e = absurd (false≢true (sym e))
same_truth false true e = absurd (false≢true (sym e))
same_truth false false e = refl

-- room for one more walk
pub suits_widened : (g : Grid) (held : List (Option ℕ)) (walks after : List Walk) (w : Walk) → Suits g held walks → after ≡ walks ++ w ∷ [] → w.pair ≡ None ∷ None ∷ [] → w.queue.items ≡ [] → Suits g held after
suits_widened g held walks after w suits after-is pair-is queue-is =
    let P : List Walk → Type 0 = λ ws. Suits g held ws in
    let Q : List (Option ℕ) → Type 0 = λ p. KeptFrom g held p w.queue.items in
    let R : List Reached → Type 0 = λ q. KeptFrom g held (None ∷ None ∷ []) q in
    subst P (sym after-is) (suits_push g held walks w suits (subst Q (sym pair-is) (subst R (sym queue-is) (kept_nowhere g held))))

pub like_of : (g : Grid) (columns : ℕ) (ancilla : List Bool) → columns ≡ g.columns → AncillaTo g (length g.sites) ancilla → Like g columns ancilla
like_of g columns ancilla width cells = record { width = sym width; cells = cells }
