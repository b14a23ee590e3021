-- A program's share of what belongs to all products, and the outcomes for which a board is complete.
use Rattle.std.proofs.Common.{◌≡◌, ℕ, zero, suc, ◌+◌, ◌-◌, ◌<◌, ◌≤◌, Bool, true, false, if◌then◌else◌, List, [], ◌∷◌, Some, None, map, take, drop, length, slice_get, get_or, refl, ap, ap₂, sym, ◌∙◌, arith, subst}
use Rattle.std.specs.Prelude.{All, Option, unwrap_or, flat_map}
use Rattle.std.proofs.lemmas.List.{take_all, length-map, ext_get_or}
use Rattle.std.proofs.lemmas.List.Elements.{All-nil, All-cons, All-head, All-tail}
use Rattle.std.proofs.lemmas.List.Folds.{flat_map-map}
use Rattle.std.proofs.lemmas.List.FromFn.{get_or-map-range_with_len, length-map-range_with_len}
use Rattle.std.proofs.lemmas.List.Sums.{sum_by_more, sum_by-take-le}
use Rattle.std.proofs.lemmas.Option.{same_Some, slice_get_within, get_or_from_slice_get}
use Rattle.pauli_product.specs.Signed.{Signed, OfLength}
use Rattle.pauli_product.specs.Pulls.{TurnsOfLength}
use Rattle.pauli_product.proofs.Turns.{length_pull}
use Rattle.source_model.specs.declared.Circuit.{Circuit}
use Rattle.source_model.specs.declared.Given.{Given}
use Rattle.source_model.specs.declared.Given.TheVariants as given
use Rattle.source_model.specs.declared.Item.{Item}
use Rattle.source_model.specs.declared.Kind.{Kind}
use Rattle.source_model.specs.declared.Kind.TheVariants as kind
use Rattle.source_model.specs.declared.Static.{Static}
use Rattle.source_model.specs.SourceRun.{Progress, axis_in, is_product, axis_of, after, next_of, rest_of, axes_from}
use Rattle.source_model.specs.Circuits.{AxesOfLength, IsOutcomeOf, OutcomesOf, RightKinds, kinds}
use Rattle.source_model.specs.Statics.{AreOutcomesOf, kinds_of}
use Rattle.source_model.proofs.Laws.{statics_keep_kinds}
use Rattle.outcome_table.specs.declared.Outcomes.{Outcomes}
use Rattle.board_core.specs.History.{History, delivered}
use Rattle.board_core.specs.Legal.{BoardJob, Legal, Complete, CompleteAt, IsKind}
use Rattle.board_core.specs.Position.{Position}
use Rattle.board_core.proofs.Laws.{deliveries_stand}
use Rattle.finish_run.proofs.Pending.{outcome_at, as_many}
use Rattle.side_by_side.specs.declared.joining.Joined.{Joined}
use Rattle.side_by_side.specs.declared.joining.Span.{Span}
use Rattle.side_by_side.specs.Joined.{products_in, products_of, qubits_of, span_of, spans_of}
use Rattle.side_by_side.specs.Programs.{Program, IsCarriedOut, AreTablesOf, joined_outcomes, own_part, share_of}
use Rattle.side_by_side.specs.declared.axes.Start.{Start}
use Rattle.side_by_side.specs.inside.Told.{Tells, start_of}
use Rattle.side_by_side.proofs.Beside.{after_length}
use Rattle.side_by_side.proofs.JoinedCircuit.{joined_kinds_are_right}
use Rattle.side_by_side.proofs.Shares.{get_within}

-- ---- axes are as long as the items' own
long_step : (n : ℕ) (b : Bool) (axis : Signed) (xs ys : List Signed) → OfLength n axis → All (OfLength n) xs → All (OfLength n) ys → All (OfLength n) (if b then (axis ∷ xs) else ys)
long_step n true axis xs ys a h k = All-cons (OfLength n) axis xs a h
long_step n false axis xs ys a h k = k

pub axes_long : (n : ℕ) (f : Progress) (items : List Item) (gs : List Given) → AxesOfLength n items → TurnsOfLength n f.turns → All (OfLength n) (axes_from f items gs)
axes_long n f [] gs h k = All-nil (OfLength n)
axes_long n f (i ∷ is) gs h k =
    let e : OfLength n (axis_of i) = All-head (λ i. OfLength n (axis_of i)) i is h in
    let more : AxesOfLength n is = All-tail (λ i. OfLength n (axis_of i)) i is h in
    long_step n (is_product i) (axis_in f (axis_of i)) (axes_from (after f i (next_of gs)) is (rest_of gs)) (axes_from (after f i given.Settled) is gs)
    (length_pull n f.turns (axis_of i) k e)
    (axes_long n (after f i (next_of gs)) is (rest_of gs) more (after_length n f i (next_of gs) e k))
    (axes_long n (after f i given.Settled) is gs more (after_length n f i given.Settled e k))

-- ---- where a program begins and ends
pub span_at : (cs : List Circuit) (i : ℕ) (d : Span) → i < length cs → get_or (spans_of cs) i d ≡ span_of cs i
span_at cs i d l = get_or-map-range_with_len (span_of cs) 0 (length cs) i i d l (omega arith)

pub span_count : (cs : List Circuit) → length (spans_of cs) ≡ length cs
span_count cs = length-map-range_with_len (span_of cs) 0 (length cs)

pub record Ends (cs : List Circuit) (i : ℕ) (c : Circuit) : Type 0 where
  pub products : products_of (take (i + 1) cs) ≡ products_of (take i cs) + products_in c.items
  pub qubits : qubits_of (take (i + 1) cs) ≡ qubits_of (take i cs) + c.qubits
  pub last_product : products_of (take (i + 1) cs) ≤ products_of cs
  pub last_qubit : qubits_of (take (i + 1) cs) ≤ qubits_of cs

pub ends : (cs : List Circuit) (i : ℕ) (c : Circuit) → slice_get cs i ≡ Some c → Ends cs i c
ends cs i c e =
    let within = slice_get_within cs i c e in
    let here = get_or_from_slice_get cs i c c e in
    record {
      products = sum_by_more (λ (c : Circuit). products_in c.items) cs i c within ∙ ap (λ (d : Circuit). products_of (take i cs) + products_in d.items) here;
      qubits = sum_by_more (λ (c : Circuit). c.qubits) cs i c within ∙ ap (λ (d : Circuit). qubits_of (take i cs) + d.qubits) here;
      last_product = sum_by-take-le (λ (c : Circuit). products_in c.items) cs (i + 1);
      last_qubit = sum_by-take-le (λ (c : Circuit). c.qubits) cs (i + 1);
    }

-- the share of a program between two starts
pub record Bounds (cs : List Circuit) (first next : Start) : Type 0 where
  pub products : first.product ≤ next.product
  pub qubits : first.qubit ≤ next.qubit
  pub last_product : next.product ≤ products_of cs
  pub last_qubit : next.qubit ≤ qubits_of cs

pub bounds : (cs : List Circuit) (i : ℕ) (c : Circuit) (first next : Start) → slice_get cs i ≡ Some c → first ≡ start_of cs i → next ≡ start_of cs (i + 1) → Bounds cs first next
bounds cs i c first next e f g =
    let h = ends cs i c e in
    let a = ap (λ (s : Start). s.product) f in
    let b = ap (λ (s : Start). s.product) g in
    let q = ap (λ (s : Start). s.qubit) f in
    let r = ap (λ (s : Start). s.qubit) g in
    record {
      products = omega (arith, a, b, h.products);
      qubits = omega (arith, q, r, h.qubits);
      last_product = omega (arith, b, h.last_product);
      last_qubit = omega (arith, r, h.last_qubit);
    }

pub share_is : (cs : List Circuit) (i : ℕ) (c : Circuit) (first next : Start) (all : List Signed) → slice_get cs i ≡ Some c → first ≡ start_of cs i → next ≡ start_of cs (i + 1) →
    map (own_part first.qubit (next.qubit - first.qubit)) (take (next.product - first.product) (drop first.product all)) ≡ map (own_part (qubits_of (take i cs)) c.qubits) (share_of cs i c all)
share_is cs i c first next all e f g =
    let h = ends cs i c e in
    let a : first.product ≡ products_of (take i cs) = ap (λ (s : Start). s.product) f in
    let q : first.qubit ≡ qubits_of (take i cs) = ap (λ (s : Start). s.qubit) f in
    let b = ap (λ (s : Start). s.product) g in
    let r = ap (λ (s : Start). s.qubit) g in
    let m : next.product - first.product ≡ products_in c.items = omega (arith, a, b, h.products) in
    let n : next.qubit - first.qubit ≡ c.qubits = omega (arith, q, r, h.qubits) in
    ap₂ (λ x y. map (own_part x y) (take (next.product - first.product) (drop first.product all))) q n
    ∙ ap₂ (λ x y. map (own_part (qubits_of (take i cs)) c.qubits) (take x (drop y all))) m a

make_start : ℕ → ℕ → Start
make_start q n = record { qubit = q; product = n }

pub start_at : (cs : List Circuit) (i : ℕ) (s : Span) → s ≡ span_of cs i → (let made : Start = record { qubit = s.qubit; product = s.product } in made) ≡ start_of cs i
start_at cs i s e = let P : Span → Start = λ s. record { qubit = s.qubit; product = s.product } in ap P e

pub start_past : (cs : List Circuit) (i q n : ℕ) → length cs ≤ i → q ≡ qubits_of cs → n ≡ products_of cs → (let made : Start = record { qubit = q; product = n } in made) ≡ start_of cs i
unfolding make_start
start_past cs i q n l e f =
    let whole = take_all i cs l in
    ap₂ make_start (e ∙ ap qubits_of (sym whole)) (f ∙ ap products_of (sym whole))

-- ---- what is told of a board that is complete for a table
undelivered : (o : Option Given) → ((g : Given) → o ≡ Some g → ⊥) → unwrap_or o given.Settled ≡ given.Settled
undelivered None h = refl
undelivered (Some g) h = absurd (h g refl)

no_delivery : (first size value : ℕ) (g : Given) → IsKind (kind.Settle first size value) g → ⊥
no_delivery first size value (given.Rotation raw x) h = h
no_delivery first size value (given.Measure raw) h = h
no_delivery first size value given.Settled h = h

told_step : (h : History) (p : ℕ) (k : Kind) (g : Given) → IsOutcomeOf k g → CompleteAt h p g k → ((d : Given) → delivered h p ≡ Some d → IsKind k d) → unwrap_or (delivered h p) given.Settled ≡ g
told_step h p kind.Rotation g is done kinds = ap (λ o. unwrap_or o given.Settled) done.1
told_step h p (kind.Measure bit) g is done kinds = ap (λ o. unwrap_or o given.Settled) done.1
told_step h p (kind.Settle first size value) given.Settled is done kinds = undelivered (delivered h p) (λ d e. no_delivery first size value d (kinds d e))
told_step h p (kind.Settle first size value) (given.Rotation raw x) is done kinds = absurd is
told_step h p (kind.Settle first size value) (given.Measure raw) is done kinds = absurd is

delivered_kind : (j : BoardJob) (h : History) (p : ℕ) (s : Static) (d : Given) → Legal j h → slice_get j.products p ≡ Some s → delivered h p ≡ Some d → IsKind s.kind d
delivered_kind j h p s d legal e told =
    let (n, stands) = deliveries_stand h p d told in
    let found = (legal n _ stands).2 in
    subst (λ (t : Static). IsKind t.kind d) (same_Some found.0 s (sym found.1 ∙ e)) found.2

map_at : {A B : Type 0} (f : A → B) (xs : List A) (k : ℕ) (x : A) → get_or (map f xs) k (f x) ≡ f (get_or xs k x)
map_at f [] k x = refl
map_at f (y ∷ xs) zero x = refl
map_at f (y ∷ xs) (suc k) x = map_at f xs k x

pub told_table : (j : BoardJob) (h : History) (table : List Given) (told : List (Option Given)) → Legal j h → AreOutcomesOf table j.products → Complete j h table → Tells (length j.products) (λ p. delivered h p) told →
    map (λ (o : Option Given). unwrap_or o given.Settled) told ≡ table
told_table j h table told legal are complete tells =
    let f : Option Given → Given = λ o. unwrap_or o given.Settled in
    let many = as_many j.products table are in
    let long : length (map f told) ≡ length table = length-map told f ∙ (tells.count ∙ sym many) in
    ext_get_or given.Settled (map f told) table long (λ i l.
    let low : i < length j.products = omega (arith, l, long, many) in
    let (s, at) = get_within j.products i low in
    let (g, there) = get_within table i (omega (arith, low, many)) in
    map_at f told i None
    ∙ ap f (tells.each i low)
    ∙ told_step h i s.kind g (outcome_at j.products table i s g are at there) (complete i s g at there) (λ d e. delivered_kind j h i s d legal at e)
    ∙ sym (get_or_from_slice_get table i g given.Settled there))

-- ---- the joined table
pub joined_right : (j : Joined) (b : Position) (ps : List Program) → IsCarriedOut j b ps → RightKinds j.circuit.items (joined_outcomes ps)
joined_right j b ps c = subst (λ (x : Circuit). RightKinds x.items (joined_outcomes ps)) (sym c.joined.circuit) (joined_kinds_are_right ps c.each)

pub joined_are : (j : Joined) (b : Position) (ps : List Program) → IsCarriedOut j b ps → AreOutcomesOf (joined_outcomes ps) b.job.products
joined_are j b ps c =
    subst (λ (ss : List Static). OutcomesOf (kinds_of ss) (joined_outcomes ps)) (sym c.products)
    (subst (λ (ks : List Kind). OutcomesOf ks (joined_outcomes ps)) (sym (statics_keep_kinds j.circuit.items)) (joined_right j b ps c))

pub tables_right : (j : Joined) (tables : List Outcomes) → AreTablesOf j tables → RightKinds j.circuit.items (flat_map (λ (t : Outcomes). t.given) tables)
tables_right j tables h =
    let id : List Given → List Given = λ gs. gs in
    let same : flat_map (λ (t : Outcomes). t.given) tables ≡ joined_outcomes h.programs =
    sym (flat_map-map id (λ (t : Outcomes). t.given) tables) ∙ ap (flat_map id) h.given ∙ flat_map-map id (λ (p : Program). p.outcomes) h.programs in
    subst (RightKinds j.circuit.items) (sym same)
    (subst (λ (x : Circuit). RightKinds x.items (joined_outcomes h.programs)) (sym h.joined.circuit) (joined_kinds_are_right h.programs h.each))
