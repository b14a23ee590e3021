-- What definitions give: each from those before it.
use Rattle.std.proofs.Common.{◌≡◌, ℕ, zero, suc, ◌+◌, ◌<◌, min, List, [], ◌∷◌, ◌++◌, length, get_or, take, drop, map, Some, None, slice_get, slice_index, All, IsSomeAnd, refl, sym, ◌∙◌, ap, subst, inl, inr, arith, length-append}
use Rattle.std.specs.List.{flat_map}
use Rattle.std.proofs.lemmas.List.{get_or_append_left, get_or_at, get_or-take, take-append-drop, length-take}
use Rattle.std.proofs.lemmas.List.Elements.{All-get_or, All-head, All-tail}
use Rattle.std.proofs.lemmas.Option.{unwrap_or-slice_get, slice_get_within, slice_get_cases, slice_get-get_or, slice_get_read, get_or_from_slice_get}
use Rattle.qasm_parse.specs.declared.tree.Callee.{Callee}
use Rattle.qasm_parse.specs.declared.tree.Callee.TheVariants.{One, Two, Ccx, Swap, Defined}
use Rattle.qasm_parse.specs.declared.tree.BodyOp.{BodyOp}
use Rattle.qasm_parse.specs.declared.tree.BodyOp.TheVariants as ops
use Rattle.qasm_parse.specs.declared.tree.GateDef.{GateDef}
use Rattle.qasm_expand.specs.Flats.{each_from, Calls, nothing, called, body_flats, definition_flats, calls_of}
use Rattle.qasm_expand.specs.Sound.{IsCall, IsSoundOp, AreSound}

-- definitions behind others go on from what those give
pub each_from-append : {M : Type 0} (make : List M → GateDef → M) (before : List M) (ds es : List GateDef) → each_from make before (ds ++ es) ≡ each_from make (each_from make before ds) es
unfolding each_from
each_from-append make before [] es = refl
each_from-append make before (d ∷ ds) es = each_from-append make (before ++ make before d ∷ []) ds es

pub each_from-push : {M : Type 0} (make : List M → GateDef → M) (before : List M) (ds : List GateDef) (d : GateDef) → each_from make before (ds ++ d ∷ []) ≡ each_from make before ds ++ make (each_from make before ds) d ∷ []
unfolding each_from
each_from-push make before ds d = each_from-append make before ds (d ∷ [])

-- what stands before stays
pub each_from-keeps : {M : Type 0} (make : List M → GateDef → M) (before : List M) (ds : List GateDef) (k : ℕ) (m : M) → k < length before → get_or (each_from make before ds) k m ≡ get_or before k m
unfolding each_from
each_from-keeps make before [] k m h = refl
each_from-keeps make before (d ∷ ds) k m h =
    let longer : k < length (before ++ make before d ∷ []) = omega (arith, length-append before (make before d ∷ [])) in
    each_from-keeps make (before ++ make before d ∷ []) ds k m longer ∙ get_or_append_left before (make before d ∷ []) m k h

pub length-each_from : {M : Type 0} (make : List M → GateDef → M) (before : List M) (ds : List GateDef) → length (each_from make before ds) ≡ length before + length ds
unfolding each_from
length-each_from make before [] = omega arith
length-each_from make before (d ∷ ds) =
    let tail = length-each_from make (before ++ make before d ∷ []) ds in
    omega (arith, tail, length-append before (make before d ∷ []))

-- what a definition gives, with those before it
pub each_from-at : {M : Type 0} (make : List M → GateDef → M) (before : List M) (ds : List GateDef) (n : ℕ) (d : GateDef) (m : M) → slice_get ds n ≡ Some d → get_or (each_from make before ds) (length before + n) m ≡ make (each_from make before (take n ds)) d
unfolding each_from
each_from-at make before [] n d m e = absurd (let impossible : None ≡ Some d = e in cc)
each_from-at make before (x ∷ ds) zero d m e =
    let same : x ≡ d = cc in
    let at : length before + zero ≡ length before = omega arith in
    let inside : length before < length (before ++ make before x ∷ []) = omega (arith, length-append before (make before x ∷ [])) in
    ap (λ k. get_or (each_from make (before ++ make before x ∷ []) ds) k m) at
    ∙ each_from-keeps make (before ++ make before x ∷ []) ds (length before) m inside
    ∙ get_or_at before (make before x) [] m (length before) refl
    ∙ ap (make before) same
each_from-at make before (x ∷ ds) (suc n) d m e =
    let at : length before + suc n ≡ length (before ++ make before x ∷ []) + n = omega (arith, length-append before (make before x ∷ [])) in
    ap (λ k. get_or (each_from make (before ++ make before x ∷ []) ds) k m) at
    ∙ each_from-at make (before ++ make before x ∷ []) ds n d m e

-- what the first definitions give stay when others stand behind them
pub each_from-take : {M : Type 0} (make : List M → GateDef → M) (ds : List GateDef) (n k : ℕ) (m : M) → k < length (take n ds) → get_or (each_from make [] (take n ds)) k m ≡ get_or (each_from make [] ds) k m
each_from-take {M = M} make ds n k m h =
    let before : List M = each_from make [] (take n ds) in
    let inside : k < length before = omega (arith, length-each_from make [] (take n ds)) in
    sym (each_from-keeps make before (drop n ds) k m inside)
    ∙ ap (λ es. get_or es k m) (sym (each_from-append make [] (take n ds) (drop n ds)))
    ∙ ap (λ es. get_or (each_from make [] es) k m) (take-append-drop n ds)

-- built-in gates come first, and then the definitions
abbrev pub rank : Callee → ℕ
rank (One gate) = 0
rank (Two gate) = 0
rank Ccx = 0
rank Swap = 0
rank (Defined number) = 1 + number

-- a definition that is known stands in the list
pub defined_within : (gates : List GateDef) (number n : ℕ) → IsCall gates (Defined number) n → number < length gates
defined_within gates number n call =
    elim (slice_get_cases gates number).1 [
      | inl (d, h, at, same) ↦ h
      | inr (past, at) ↦ absurd (let none : IsSomeAnd {T = GateDef} None (λ d. n ≡ d.formals) = subst (λ o. IsSomeAnd o (λ d. n ≡ d.formals)) at call in none)
    ]

pub defined_at : (gates : List GateDef) (number n : ℕ) → IsCall gates (Defined number) n → (d : GateDef) × (slice_get gates number ≡ Some d)
defined_at gates number n call =
    elim (slice_get_cases gates number).1 [
      | inl (d, h, at, same) ↦ (d, at)
      | inr (past, at) ↦ absurd (let none : IsSomeAnd {T = GateDef} None (λ d. n ≡ d.formals) = subst (λ o. IsSomeAnd o (λ d. n ≡ d.formals)) at call in none)
    ]

-- it has as many formal qubits as it is called with
pub defined_formals : (gates : List GateDef) (number n : ℕ) (d : GateDef) → slice_get gates number ≡ Some d → IsCall gates (Defined number) n → n ≡ d.formals
defined_formals gates number n d at call = subst (λ o. IsSomeAnd o (λ e. n ≡ e.formals)) at call

pub IsCall-Defined : (gates : List GateDef) (number n : ℕ) (d : GateDef) → slice_get gates number ≡ Some d → n ≡ d.formals → IsCall gates (Defined number) n
IsCall-Defined gates number n d at same = subst (λ o. IsSomeAnd o (λ e. n ≡ e.formals)) (sym at) same

-- a definition among the first ones is the same with all of them
pub slice_get-take : {X : Type 0} (n : ℕ) (xs : List X) (k : ℕ) (x : X) → slice_get (take n xs) k ≡ Some x → (k < n) × (slice_get xs k ≡ Some x)
slice_get-take n xs k x e =
    let inside : k < length (take n xs) = slice_get_within (take n xs) k x e in
    let short : length (take n xs) ≡ min n (length xs) = length-take n xs in
    let below : k < n = omega arith in
    let within : k < length xs = omega arith in
    (below, slice_get-get_or xs k x within ∙ ap Some (sym (get_or-take n xs k x below) ∙ get_or_from_slice_get (take n xs) k x x e))

-- a call of a gate that is known among the first definitions
pub IsCall-take : (gates : List GateDef) (k : ℕ) (gate : Callee) (n : ℕ) → IsCall (take k gates) gate n → IsCall gates gate n
IsCall-take gates k (One gate) n call = call
IsCall-take gates k (Two gate) n call = call
IsCall-take gates k Ccx n call = call
IsCall-take gates k Swap n call = call
IsCall-take gates k (Defined number) n call =
    elim (slice_get_cases (take k gates) number).1 [
      | inl (d, h, at, same) ↦ IsCall-Defined gates number n d (slice_get-take k gates number d at).1 (defined_formals (take k gates) number n d at call)
      | inr (past, at) ↦ absurd (let none : IsSomeAnd {T = GateDef} None (λ d. n ≡ d.formals) = subst (λ o. IsSomeAnd o (λ d. n ≡ d.formals)) at call in none)
    ]

pub rank-take : (gates : List GateDef) (k : ℕ) (gate : Callee) (n : ℕ) → IsCall (take k gates) gate n → rank gate < 1 + k
rank-take gates k (One gate) n call = omega arith
rank-take gates k (Two gate) n call = omega arith
rank-take gates k Ccx n call = omega arith
rank-take gates k Swap n call = omega arith
rank-take gates k (Defined number) n call =
    let h : number < length (take k gates) = defined_within (take k gates) number n call in
    omega (arith, length-take k gates)

-- it means the same with all definitions
pub called-take : (gates : List GateDef) (k : ℕ) (gate : Callee) (n : ℕ) → IsCall (take k gates) gate n → (qs : List ℕ) → called (calls_of (take k gates)) gate qs ≡ called (calls_of gates) gate qs
called-take gates k (One gate) n call qs = refl
called-take gates k (Two gate) n call qs = refl
called-take gates k Ccx n call qs = refl
called-take gates k Swap n call qs = refl
called-take gates k (Defined number) n call qs =
    let h : number < length (take k gates) = defined_within (take k gates) number n call in
    ap (λ (f : Calls). f qs)
    (unwrap_or-slice_get (calls_of (take k gates)) number nothing
    ∙ each_from-take definition_flats gates k number nothing h
    ∙ sym (unwrap_or-slice_get (calls_of gates) number nothing))

-- so does a body whose calls are known among the first definitions
pub body_flats-take : (gates : List GateDef) (k formals : ℕ) (qs : List ℕ) (op : BodyOp) → IsSoundOp (take k gates) formals op → body_flats (calls_of (take k gates)) qs op ≡ body_flats (calls_of gates) qs op
body_flats-take gates k formals qs (ops.Call gate args) sound = called-take gates k gate (length args) sound.call (map (slice_index qs) args)
body_flats-take gates k formals qs ops.Barrier sound = refl

flat_map-same : {X A : Type 0} (P : X → Type 0) (f g : X → List A) → ((x : X) → P x → f x ≡ g x) → (xs : List X) → All P xs → flat_map f xs ≡ flat_map g xs
flat_map-same P f g same [] all = refl
flat_map-same P f g same (x ∷ xs) all =
    let here : f x ≡ g x = same x (All-head P x xs all) in
    let rest : flat_map f xs ≡ flat_map g xs = flat_map-same P f g same xs (All-tail P x xs all) in
    cc

-- a call of a definition is replaced by its body
pub called-Defined : (gates : List GateDef) (number : ℕ) (d : GateDef) (qs : List ℕ) → AreSound gates → slice_get gates number ≡ Some d → called (calls_of gates) (Defined number) qs ≡ flat_map (body_flats (calls_of gates) qs) d.body
called-Defined gates number d qs sound at =
    let zero-add : length {A = Calls} [] + number ≡ number = omega arith in
    ap (λ (f : Calls). f qs)
    (unwrap_or-slice_get (calls_of gates) number nothing
    ∙ ap (λ k. get_or (calls_of gates) k nothing) (sym zero-add)
    ∙ each_from-at definition_flats [] gates number d nothing at)
    ∙ flat_map-same (IsSoundOp (take number gates) d.formals) (body_flats (calls_of (take number gates)) qs) (body_flats (calls_of gates) qs) (body_flats-take gates number d.formals qs) d.body (sound.each number d at)

-- a call in the body of a definition that is called
pub record BodyCall (gates : List GateDef) (number n : ℕ) (gate : Callee) (args : List ℕ) : Type 0 where
  pub call : IsCall gates gate (length args)
  pub formal : All (λ f. f < n) args
  pub lower : rank gate < rank (Defined number)

pub body_call : (gates : List GateDef) (number n i : ℕ) (d : GateDef) (op : BodyOp) (gate : Callee) (args : List ℕ) → AreSound gates → IsCall gates (Defined number) n → d ≡ get_or gates number d → i < length d.body → op ≡ get_or d.body i op → op ≡ ops.Call gate args → BodyCall gates number n gate args
body_call gates number n i d op gate args sound known is inside item same =
    let at : slice_get gates number ≡ Some d = slice_get_read gates (length gates) number d refl (defined_within gates number n known) is in
    let all : All (IsSoundOp (take number gates) d.formals) d.body = sound.each number d at in
    let one : IsSoundOp (take number gates) d.formals (get_or d.body i op) = All-get_or (IsSoundOp (take number gates) d.formals) d.body i op inside all in
    let here : IsSoundOp (take number gates) d.formals (ops.Call gate args) = subst (IsSoundOp (take number gates) d.formals) (sym item ∙ same) one in
    record {
      call = IsCall-take gates number gate (length args) here.call;
      formal = subst (λ m. All (λ f. f < m) args) (sym (defined_formals gates number n d at known)) here.formal;
      lower = rank-take gates number gate (length args) here.call;
    }
