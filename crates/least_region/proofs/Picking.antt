-- The least entry on the sides.
use Rattle.std.proofs.Common.{◌≡◌, ℕ, ◌+◌, ◌<◌, ◌≤◌, inl, inr, length, slice_get, Option, Some, None, List, [], ◌∷◌, ◌++◌, refl, sym, ◌∙◌, subst, arith, Contains}
use Rattle.std.proofs.lemmas.Bool.{cases_lt, false≢true}
use Rattle.std.proofs.lemmas.Option.{slice_get_within}
use Rattle.patch_layout.specs.declared.look.Look.{Look}
use Rattle.patch_layout.specs.declared.layout.Side.{Side}
use Rattle.patch_layout.specs.declared.layout.Side.TheVariants as side
use Rattle.patch_layout.specs.Grid.{Grid}
use Rattle.patch_layout.specs.Region.{OnSide}
use Rattle.patch_layout.proofs.Places.{get_from_Contains, Contains_from_get, same_entry}
use Rattle.region_plan.specs.Free.{IsOffered}
use Rattle.region_plan.proofs.Porting.{port_last}
use Rattle.least_region.specs.inside.Pick.{BetterTo, Better, OnOffered, LeastOn, BetterPort, BestPort, Split, IsGoal, Picked}
use Rattle.least_region.specs.declared.picks.Pick.{Pick}

pub better_start : (row : List ℕ) (pair : List (Option ℕ)) (port : Option ℕ) (old : Pick) → BetterTo row pair 0 port old old
better_start row pair port old = record { under = omega arith; is = inl refl; least = λ i c v lt. absurd (omega arith) }

pub better_past : (row : List ℕ) (pair : List (Option ℕ)) (n : ℕ) (port : Option ℕ) (old new : Pick) → BetterTo row pair n port old new → slice_get pair n ≡ Some None → BetterTo row pair (n + 1) port old new
better_past row pair n port old new b e =
    record {
      under = b.under;
      is = b.is;
      least = λ i c v lt at' is'. elim (cases_lt i n) [
        | inl lt' ↦ b.least i c v lt' at' is'
        | inr ge ↦ let same : i ≡ n = omega arith in let f : slice_get pair n ≡ Some (Some c) = subst (λ (y : ℕ). slice_get pair y ≡ Some (Some c)) same at' in absurd (cc)
      ];
    }

same_value : (row : List ℕ) (pair : List (Option ℕ)) (i n c cell v size : ℕ) → i ≡ n → slice_get pair i ≡ Some (Some c) → slice_get pair n ≡ Some (Some cell) → slice_get row c ≡ Some v → slice_get row cell ≡ Some size → v ≡ size
same_value row pair i n c cell v size same at' item is' here =
    let f : Some c ≡ Some cell = same_entry pair n (Some c) (Some cell) (subst (λ (y : ℕ). slice_get pair y ≡ Some (Some c)) same at') item in
    let e : c ≡ cell = grind arith in
    same_entry row cell v size (subst (λ (y : ℕ). slice_get row y ≡ Some v) e is') here

pub better_kept : (row : List ℕ) (pair : List (Option ℕ)) (n : ℕ) (port : Option ℕ) (old new : Pick) (cell size : ℕ) → BetterTo row pair n port old new → slice_get pair n ≡ Some (Some cell) → slice_get row cell ≡ Some size → new.size ≤ size
    → BetterTo row pair (n + 1) port old new
better_kept row pair n port old new cell size b item here le =
    record {
      under = b.under;
      is = b.is;
      least = λ i c v lt at' is'. elim (cases_lt i n) [
        | inl lt' ↦ b.least i c v lt' at' is'
        | inr ge ↦ let e = same_value row pair i n c cell v size (omega arith) at' item is' here in omega arith
      ];
    }

pub better_set : (row : List ℕ) (pair : List (Option ℕ)) (n : ℕ) (port : Option ℕ) (old new : Pick) (cell size : ℕ) → BetterTo row pair n port old new → slice_get pair n ≡ Some (Some cell) → slice_get row cell ≡ Some size → size < new.size
    → BetterTo row pair (n + 1) port old (record { port = port; cell = cell; size = size })
better_set row pair n port old new cell size b item here lt =
    record {
      under = omega (arith, b.under);
      is = inr (refl, Contains_from_get pair n (Some cell) item, here);
      least = λ i c v lt' at' is'. elim (cases_lt i n) [
        | inl lt'' ↦ let w = b.least i c v lt'' at' is' in omega arith
        | inr ge ↦ let e = same_value row pair i n c cell v size (omega arith) at' item is' here in omega arith
      ];
    }

pub better_done : (g : Grid) (row : List ℕ) (s : Side) (pair : List (Option ℕ)) (n : ℕ) (port : Option ℕ) (old new : Pick) → ((c : ℕ) → Contains pair (Some c) → OnSide g s c) → ((c : ℕ) → OnSide g s c → Contains pair (Some c)) → length pair ≤ n
    → BetterTo row pair n port old new → Better g row s port old new
better_done g row s pair n port old new to from all b =
    record {
      under = b.under;
      is = elim b.is [ inl same ↦ inl same | inr (p, on, here) ↦ inr (p, to new.cell on, here) ];
      least = λ c v on is'. let (i, at') = get_from_Contains pair (Some c) (from c on) in b.least i c v (let w = slice_get_within pair i (Some c) at' in omega arith) at' is';
    }

pub port_better : (g : Grid) (look : Look) (row : List ℕ) (f : ℕ) (old new : Pick) → IsOffered g look f → Better g row (side.Port f) (Some f) old new → BetterPort g look row f old new
port_better g look row f old new offered b = (
  b.under,
  elim b.is [ inl same ↦ inl same | inr (p, on, here) ↦ inr (offered, p, on, here) ],
  λ c v o on is'. b.least c v on is',
)

pub port_not : (g : Grid) (look : Look) (row : List ℕ) (f : ℕ) (old : Pick) → (IsOffered g look f → ⊥) → BetterPort g look row f old old
port_not g look row f old none = (omega arith, inl refl, λ c v o. absurd (none o))

pub ports_start : (g : Grid) (look : Look) (row : List ℕ) (old : Pick) → BestPort g look row 0 old old
ports_start g look row old = (omega arith, inl refl, λ f lt. absurd (omega arith))

pub ports_more : (g : Grid) (look : Look) (row : List ℕ) (n : ℕ) (old best new : Pick) → BestPort g look row n old best → BetterPort g look row n best new → BestPort g look row (n + 1) old new
ports_more g look row n old best new (low, is, least) (low', is', least') = (
  omega arith,
  elim is' [
    | inl same ↦ elim is [
      | inl same' ↦ inl (same ∙ same')
      | inr (f, on) ↦ inr (f, subst (λ (p : Pick). OnOffered g look row f p) (sym same) on)
    ]
    | inr on ↦ inr (n, on)
  ],
  λ f lt. elim (cases_lt f n) [
    | inl lt' ↦ λ c v o on at'. let w = least f lt' c v o on at' in omega arith
    | inr ge ↦ let same : n ≡ f = omega arith in subst (λ (y : ℕ). LeastOn g look row y new) same least'
  ],
)

-- two ends of one list
same_last : (xs : List Side) (a b : Side) → xs ++ a ∷ [] ≡ xs ++ b ∷ [] → a ≡ b
same_last [] a b e = cc
same_last (x ∷ xs) a b e = same_last xs a b (cc)

side_least : (g : Grid) (look : Look) (sides : List Side) (s : Side) (row : List ℕ) (old new : Pick) → Split look sides (Some s) → Better g row s None old new
    → (port : Option ℕ) (x : Side) (c v : ℕ) → IsGoal g look sides port x → OnSide g x c → slice_get row c ≡ Some v → new.size ≤ v
side_least g look sides s row old new (measured, split) b None x c v (may, is) on at' =
    let e : s ≡ x = same_last sides s x (sym split ∙ is) in
    b.least c v (subst (λ (y : Side). OnSide g y c) (sym e) on) at'
side_least g look sides s row old new (measured, split) b (Some f) x c v ((rotation, offered), is) on at' = absurd (false≢true (sym measured ∙ rotation))

port_least : (g : Grid) (look : Look) (sides : List Side) (row : List ℕ) (old new : Pick) → Split look sides None → BestPort g look row (length look.ready) old new
    → (port : Option ℕ) (x : Side) (c v : ℕ) → IsGoal g look sides port x → OnSide g x c → slice_get row c ≡ Some v → new.size ≤ v
port_least g look sides row old new (rotation, split) b None x c v (measured, is) on at' = absurd (false≢true (sym measured ∙ rotation))
port_least g look sides row old new (rotation, split) (low, is', least) (Some f) x c v ((rot, offered), is) on at' =
    let e : side.Port f ≡ x = same_last sides (side.Port f) x (port_last look.axis sides f split ∙ is) in
    least f (slice_get_within look.ready f offered.0.0 offered.0.1) c v offered (subst (λ (y : Side). OnSide g y c) (sym e) on) at'

-- for a measurement
pub picked_side : (g : Grid) (look : Look) (sides : List Side) (s : Side) (row : List ℕ) (old new : Pick) → Split look sides (Some s) → Better g row s None old new → Picked g look sides row old new
picked_side g look sides s row old new (measured, split) b =
    record {
      is = elim b.is [
        | inl same ↦ inl same
        | inr (p, on, here) ↦ inr (s, subst (λ (o : Option ℕ). IsGoal g look sides o s) (sym p) (measured, split), on, here)
      ];
      least = side_least g look sides s row old new (measured, split) b;
    }

-- for a rotation
pub picked_port : (g : Grid) (look : Look) (sides : List Side) (row : List ℕ) (old new : Pick) → Split look sides None → BestPort g look row (length look.ready) old new → Picked g look sides row old new
picked_port g look sides row old new (rotation, split) (low, is, least) =
    record {
      is = elim is [
        | inl same ↦ inl same
        | inr (f, (offered, p, on, here)) ↦ inr (side.Port f, subst (λ (o : Option ℕ). IsGoal g look sides o (side.Port f)) (sym p) ((rotation, offered), sym (port_last look.axis sides f split)), on, here)
      ];
      least = port_least g look sides row old new (rotation, split) (low, is, least);
    }
