-- The static products of programs side by side.
use Rattle.std.proofs.Common.{◌≡◌, ℕ, ◌+◌, List, [], ◌∷◌, ◌++◌, map, refl, ap, ap₂, sym, ◌∙◌, append_assoc, append-nil, length}
use Rattle.std.specs.Prelude.{All}
use Rattle.std.proofs.lemmas.List.{map-append, length-map}
use Rattle.std.proofs.lemmas.List.Elements.{All-nil, All-cons, All-head, All-tail, All-push}
use Rattle.pauli_product.specs.Signed.{Signed, OfLength}
use Rattle.pauli_product.specs.Pulls.{Angle, Turn, turn, quarter, half, pull, TurnsOfLength}
use Rattle.source_model.specs.declared.Angle.TheVariants.{Eighth, Quarter, Half}
use Rattle.source_model.specs.declared.Item.{Item}
use Rattle.source_model.specs.declared.Item.TheVariants as item
use Rattle.source_model.specs.declared.Kind.{Kind}
use Rattle.source_model.specs.declared.Kind.TheVariants as kind
use Rattle.source_model.specs.declared.Static.{Static}
use Rattle.source_model.specs.SourceRun.{axis_of}
use Rattle.source_model.specs.Circuits.{AxesOfLength, bits_in}
use Rattle.source_model.specs.Statics.{statics_from, statics}
use Rattle.side_by_side.specs.declared.place.Place.{Place}
use Rattle.side_by_side.specs.Places.{pad, items_in, kind_in, static_in}
use Rattle.side_by_side.specs.inside.Beside.{pads, Leaves, Fits}
use Rattle.side_by_side.specs.Joined.{products_in, bits_of, place_at, joined_from, joined_items}
use Rattle.side_by_side.specs.Programs.{Program, circuits}
use Rattle.source_model.proofs.Laws.{statics_keep_kinds}
use Rattle.side_by_side.proofs.Together.{each_from, LeavesFrom, leaves_some, leaves_later, pads_leave}
use Rattle.side_by_side.proofs.Padding.{pull_beside}

-- the items' own Cliffords
abbrev pub cliffords : List Item → List Turn
cliffords [] = []
cliffords (item.Turn axis Eighth ∷ is) = cliffords is
cliffords (item.Turn axis Quarter ∷ is) = turn axis quarter ∷ cliffords is
cliffords (item.Turn axis Half ∷ is) = turn axis half ∷ cliffords is
cliffords (item.Measure axis bit ∷ is) = cliffords is
cliffords (item.If axis first size value ∷ is) = cliffords is

pub statics_append : (turns : List Turn) (is js : List Item) → statics_from turns (is ++ js) ≡ statics_from turns is ++ statics_from (turns ++ cliffords is) js
statics_append turns [] js = ap (λ ts. statics_from ts js) (sym (append-nil turns))
statics_append turns (item.Turn axis Eighth ∷ is) js = ap (λ ss. record { axis = pull turns axis; kind = kind.Rotation } ∷ ss) (statics_append turns is js)
statics_append turns (item.Turn axis Quarter ∷ is) js =
    statics_append (turns ++ turn axis quarter ∷ []) is js
    ∙ ap (λ ts. statics_from (turns ++ turn axis quarter ∷ []) is ++ statics_from ts js) (append_assoc turns (turn axis quarter ∷ []) (cliffords is))
statics_append turns (item.Turn axis Half ∷ is) js =
    statics_append (turns ++ turn axis half ∷ []) is js
    ∙ ap (λ ts. statics_from (turns ++ turn axis half ∷ []) is ++ statics_from ts js) (append_assoc turns (turn axis half ∷ []) (cliffords is))
statics_append turns (item.Measure axis bit ∷ is) js = ap (λ ss. record { axis = pull turns axis; kind = kind.Measure bit } ∷ ss) (statics_append turns is js)
statics_append turns (item.If axis first size value ∷ is) js = ap (λ ss. record { axis = pull turns axis; kind = kind.Settle first size value } ∷ ss) (statics_append turns is js)

one_more : (s : Place) (others own : List Turn) (a : Signed) (g : Angle) → (others ++ pads s own) ++ turn (pad s a) g ∷ [] ≡ others ++ pads s (own ++ turn a g ∷ [])
one_more s others own a g =
    append_assoc others (pads s own) (turn (pad s a) g ∷ [])
    ∙ ap (λ ts. others ++ ts) (sym (map-append (λ (t : Turn). turn (pad s t.axis) t.angle) own (turn a g ∷ [])))

-- after the Cliffords of others, a program's static products are those that it has alone
pub statics_beside : (n : ℕ) (s : Place) (others own : List Turn) (items : List Item) → Leaves s.before n others → TurnsOfLength n own → AxesOfLength n items →
    statics_from (others ++ pads s own) (items_in s items) ≡ map (static_in s) (statics_from own items)
statics_beside n s others own [] h k l = refl
statics_beside n s others own (i ∷ is) h k l = step i (All-head (λ i. OfLength n (axis_of i)) i is l) (All-tail (λ i. OfLength n (axis_of i)) i is l) (λ more k'. statics_beside n s others more is h k' (All-tail (λ i. OfLength n (axis_of i)) i is l))
  where
    product : Signed → Kind → Static
    product a k = record { axis = a; kind = k }

    step : (i : Item) → OfLength n (axis_of i) → AxesOfLength n is → ((more : List Turn) → TurnsOfLength n more → statics_from (others ++ pads s more) (items_in s is) ≡ map (static_in s) (statics_from more is)) →
        statics_from (others ++ pads s own) (items_in s (i ∷ is)) ≡ map (static_in s) (statics_from own (i ∷ is))
    step (item.Turn axis Eighth) e m rest = ap₂ (λ (a : Signed) ss. record { axis = a; kind = kind.Rotation } ∷ ss) (pull_beside n s others own axis h k e) (rest own k)
    step (item.Turn axis Quarter) e m rest =
        ap (λ ts. statics_from ts (items_in s is)) (one_more s others own axis quarter)
        ∙ rest (own ++ turn axis quarter ∷ []) (All-push (λ t. OfLength n t.axis) own (turn axis quarter) k e)
    step (item.Turn axis Half) e m rest =
        ap (λ ts. statics_from ts (items_in s is)) (one_more s others own axis half)
        ∙ rest (own ++ turn axis half ∷ []) (All-push (λ t. OfLength n t.axis) own (turn axis half) k e)
    step (item.Measure axis bit) e m rest = ap₂ (λ (a : Signed) ss. record { axis = a; kind = kind_in s (kind.Measure bit) } ∷ ss) (pull_beside n s others own axis h k e) (rest own k)
    step (item.If axis first size value) e m rest = ap₂ (λ (a : Signed) ss. record { axis = a; kind = kind_in s (kind.Settle first size value) } ∷ ss) (pull_beside n s others own axis h k e) (rest own k)

pub length_statics : (items : List Item) → length (statics items) ≡ products_in items
length_statics items = sym (length-map (statics items) (λ s. s.kind)) ∙ ap length (statics_keep_kinds items)

-- ---- all programs
cliffords_in : (s : Place) (items : List Item) → cliffords (items_in s items) ≡ pads s (cliffords items)
cliffords_in s [] = refl
cliffords_in s (item.Turn axis Eighth ∷ is) = cliffords_in s is
cliffords_in s (item.Turn axis Quarter ∷ is) = ap (λ ts. turn (pad s axis) quarter ∷ ts) (cliffords_in s is)
cliffords_in s (item.Turn axis Half ∷ is) = ap (λ ts. turn (pad s axis) half ∷ ts) (cliffords_in s is)
cliffords_in s (item.Measure axis bit ∷ is) = cliffords_in s is
cliffords_in s (item.If axis first size value ∷ is) = cliffords_in s is

cliffords_length : (n : ℕ) (items : List Item) → AxesOfLength n items → TurnsOfLength n (cliffords items)
cliffords_length n [] h = All-nil (λ t. OfLength n t.axis)
cliffords_length n (i ∷ is) h = step i (All-head (λ i. OfLength n (axis_of i)) i is h) (cliffords_length n is (All-tail (λ i. OfLength n (axis_of i)) i is h))
  where
    step : (i : Item) → OfLength n (axis_of i) → TurnsOfLength n (cliffords is) → TurnsOfLength n (cliffords (i ∷ is))
    step (item.Turn axis Eighth) e k = k
    step (item.Turn axis Quarter) e k = All-cons (λ t. OfLength n t.axis) (turn axis quarter) (cliffords is) e k
    step (item.Turn axis Half) e k = All-cons (λ t. OfLength n t.axis) (turn axis half) (cliffords is) e k
    step (item.Measure axis bit) e k = k
    step (item.If axis first size value) e k = k

-- the static products of each program alone, in its place
abbrev pub statics_alone_from : ℕ → ℕ → ℕ → List Program → List Static
statics_alone_from q b h ps = each_from (λ s p. map (static_in s) (statics p.circuit.items)) q b h ps

abbrev pub Fit : Program → Type 0
Fit p = Fits p.circuit

statics_joined : (q b h : ℕ) (ps : List Program) (turns : List Turn) → All Fit ps → LeavesFrom q turns → statics_from turns (joined_from q b h (circuits ps)) ≡ statics_alone_from q b h ps
statics_joined q b h [] turns fit leaves = refl
statics_joined q b h (p ∷ ps) turns fit leaves =
    let c = p.circuit in
    let s = place_at q b h c (circuits ps) in
    let mine = items_in s c.items in
    let others = joined_from (q + c.qubits) (b + bits_in c.registers) (h + c.hidden) (circuits ps) in
    let here = All-head Fit p ps fit in
    let long = cliffords_length c.qubits c.items here.axes_fit in
    let next : LeavesFrom (q + c.qubits) (turns ++ cliffords mine) = rw (cliffords_in s c.items) (leaves_later q c.qubits turns (pads s (cliffords c.items)) leaves (pads_leave c.qubits s (cliffords c.items) long)) in
    statics_append turns mine others
    ∙ ap₂ ◌++◌
    (ap (λ ts. statics_from ts mine) (sym (append-nil turns)) ∙ statics_beside c.qubits s turns [] c.items (leaves_some q c.qubits turns leaves) (All-nil (λ t. OfLength c.qubits t.axis)) here.axes_fit)
    (statics_joined (q + c.qubits) (b + bits_in c.registers) (h + c.hidden) ps (turns ++ cliffords mine) (All-tail Fit p ps fit) next)

pub statics_alone : (ps : List Program) → All Fit ps → statics (joined_items (circuits ps)) ≡ statics_alone_from 0 0 (bits_of (circuits ps)) ps
statics_alone ps fit = statics_joined 0 0 (bits_of (circuits ps)) ps [] fit tt
