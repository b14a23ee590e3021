-- Each entry of a legal history may stand in a schedule.
use Rattle.std.proofs.Common.{◌≡◌, ℕ, zero, suc, ◌<◌, ◌≤◌, ◌^◌, Bool, true, false, List, [], ◌∷◌, ◌++◌, length, get_or, take, refl, ap, sym, ◌∙◌, subst, arith, inl, inr, ◌==◌, eqb-true, length-append}
use Rattle.std.specs.Prelude.{Option, Some, None, IfSome, is_some, slice_get, if◌then◌else◌}
use Rattle.std.specs.Option.{option_map}
use Rattle.std.proofs.lemmas.Bool.{cases_Bool, cases_lt}
use Rattle.std.proofs.lemmas.List.{get_or_past, get_or_push, length-take}
use Rattle.std.proofs.lemmas.List.Elements.{All-nil, All-cons, All-head, All-tail, All-append, All-map}
use Rattle.std.proofs.lemmas.Option.{slice_get-get_or, slice_get-map, slice_get_within, get_or_from_slice_get, same_Some, none-some}
use Rattle.pauli_product.specs.declared.Letter.TheVariants as letter
use Rattle.pauli_product.specs.Signed.{Signed, OfLength}
use Rattle.pauli_product.specs.Pulls.{Angle, Turn, turn, quarter, half, TurnsOfLength}
use Rattle.pauli_product.specs.Corrections.{effective, turn_if, corrections}
use Rattle.pauli_product.proofs.Laws.{pull_length}
use Rattle.source_model.specs.declared.Angle.TheVariants.{Eighth, Quarter, Half}
use Rattle.source_model.specs.declared.Given.{Given}
use Rattle.source_model.specs.declared.Given.TheVariants as given
use Rattle.source_model.specs.declared.Item.{Item}
use Rattle.source_model.specs.declared.Item.TheVariants as item
use Rattle.source_model.specs.declared.Kind.{Kind}
use Rattle.source_model.specs.declared.Kind.TheVariants as kind
use Rattle.source_model.specs.declared.Static.{Static}
use Rattle.source_model.specs.Circuits.{AxesOfLength}
use Rattle.source_model.specs.Outcomes.{raw_of, x_of}
use Rattle.source_model.specs.SourceRun.{Progress, fresh, turned, after, flips, axis_in, axis_of, is_product, next_of, rest_of, axes_from}
use Rattle.source_model.specs.Statics.{item_of, static_items}
use Rattle.source_model.specs.Used.{acts, acts_at}
use Rattle.patch_layout.specs.declared.layout.Side.TheVariants as side
use Rattle.patch_layout.specs.Grid.{Grid, Sound}
use Rattle.patch_layout.specs.Region.{Fit, Touches, sides_from}
use Rattle.magic_pool.specs.Recount.{makers_of}
use Rattle.magic_pool.proofs.Readiness.{first_made, made_le}
use Rattle.board_core.specs.declared.Noted.{Noted}
use Rattle.board_core.specs.declared.Entry.{Entry}
use Rattle.board_core.specs.declared.Entry.TheVariants.{Claim, Deliver, Release, Step, Settle}
use Rattle.board_core.specs.History.{History, entries, delivered, known, steps, steps_in, taken_states}
use Rattle.board_core.specs.Laws.{ProductsOfLength}
use Rattle.board_core.specs.Legal.{BoardJob, Legal, Allowed, AxisOf, IsKind, TakesState}
use Rattle.board_core.specs.Limits.{WithinLimits, LegalIsShort}
use Rattle.board_core.specs.Suits.{HaveLetters}
use Rattle.schedule_text.specs.Text.{two, IsNumber, HasNumbers}
use Rattle.schedule_text.specs.Lines.{IsDelivered, IsShaped}
use Rattle.schedule_text.specs.Laws.{LegalEntriesStand}

-- ---- each axis has a letter for each qubit
turn_if_fits : (n : ℕ) (b : Bool) (axis : Signed) (a : Angle) → OfLength n axis → TurnsOfLength n (turn_if b axis a)
turn_if_fits n true axis a e = All-cons (λ (t : Turn). OfLength n t.axis) (turn axis a) [] e (All-nil (λ (t : Turn). OfLength n t.axis))
turn_if_fits n false axis a e = All-nil (λ (t : Turn). OfLength n t.axis)

further_fits : (n : ℕ) (f : Progress) (ts : List Turn) → TurnsOfLength n ts → TurnsOfLength n f.turns → TurnsOfLength n (turned ts f).turns
further_fits n f ts fit fits = All-append (λ (t : Turn). OfLength n t.axis) f.turns ts fits fit

settled_fits : (n : ℕ) (f : Progress) (axis : Signed) (b : Bool) → OfLength n axis → TurnsOfLength n f.turns → TurnsOfLength n (if b then turned (turn axis half ∷ []) f else f).turns
settled_fits n f axis true e h = further_fits n f (turn axis half ∷ []) (turn_if_fits n true axis half e) h
settled_fits n f axis false e h = h

after_fits : (n : ℕ) (f : Progress) (i : Item) (g : Given) → OfLength n (axis_of i) → TurnsOfLength n f.turns → TurnsOfLength n (after f i g).turns
after_fits n f (item.Turn axis Eighth) g e h =
    further_fits n f (corrections (axis_in f axis) axis (raw_of g) (x_of g))
    (All-append (λ (t : Turn). OfLength n t.axis) (turn_if (effective (axis_in f axis) (raw_of g)) axis quarter) (turn_if (x_of g) axis half)
    (turn_if_fits n (effective (axis_in f axis) (raw_of g)) axis quarter e) (turn_if_fits n (x_of g) axis half e)) h
after_fits n f (item.Turn axis Quarter) g e h = further_fits n f (turn axis quarter ∷ []) (turn_if_fits n true axis quarter e) h
after_fits n f (item.Turn axis Half) g e h = further_fits n f (turn axis half ∷ []) (turn_if_fits n true axis half e) h
after_fits n f (item.Measure axis bit) g e h = h
after_fits n f (item.If axis first size value) g e h = settled_fits n f axis (flips f first size value) e h

abbrev AxesFit : ℕ → List Item → Type 0
AxesFit n items = (f : Progress) (gs : List Given) (p : ℕ) (a : Signed) → TurnsOfLength n f.turns → slice_get (axes_from f items gs) p ≡ Some a → OfLength n a

fit_after : (n : ℕ) (i : Item) (is : List Item) → OfLength n (axis_of i) → AxesFit n is → AxesFit n (i ∷ is)
fit_after n i is own rest f gs p a turns e = go (is_product i) p e
  where
    first : (q : ℕ) → slice_get (axis_in f (axis_of i) ∷ axes_from (after f i (next_of gs)) is (rest_of gs)) q ≡ Some a → OfLength n a
    first zero e = subst (OfLength n) (same_Some (axis_in f (axis_of i)) a e) (pull_length n f.turns (axis_of i) turns own)
    first (suc q) e = rest (after f i (next_of gs)) (rest_of gs) q a (after_fits n f i (next_of gs) own turns) e

    go : (b : Bool) (q : ℕ) → slice_get (if b then (axis_in f (axis_of i) ∷ axes_from (after f i (next_of gs)) is (rest_of gs)) else axes_from (after f i given.Settled) is gs) q ≡ Some a → OfLength n a
    go true q e = first q e
    go false q e = rest (after f i given.Settled) gs q a (after_fits n f i given.Settled own turns) e

axes_fit : (n : ℕ) (items : List Item) → AxesOfLength n items → AxesFit n items
axes_fit n [] fits = λ f gs p a turns e. absurd (none-some a e)
axes_fit n (i ∷ is) fits =
    fit_after n i is (All-head (λ (x : Item). OfLength n (axis_of x)) i is fits) (axes_fit n is (All-tail (λ (x : Item). OfLength n (axis_of x)) i is fits))

item_fits : (n : ℕ) (s : Static) → OfLength n s.axis → OfLength n (axis_of (item_of s))
item_fits n s e = go s.kind
  where
    go : (k : Kind) → OfLength n (axis_of (elim k [ kind.Rotation ↦ item.Turn s.axis Eighth | kind.Measure bit ↦ item.Measure s.axis bit | kind.Settle first size value ↦ item.If s.axis first size value ]))
    go kind.Rotation = e
    go (kind.Measure bit) = e
    go (kind.Settle first size value) = e

items_fit : (n : ℕ) (products : List Static) → ProductsOfLength n products → AxesOfLength n (static_items products)
items_fit n products fit = All-map (λ (i : Item). OfLength n (axis_of i)) item_of products (λ k d low. item_fits n (get_or products k d) (fit k d low))

axis_fits : (j : BoardJob) (h : History) (n p : ℕ) (axis : Signed) → ProductsOfLength n j.products → AxisOf j h p axis → OfLength n axis
axis_fits j h n p axis fit e =
    axes_fit n (static_items j.products) (items_fit n j.products fit) fresh (known j.products h) p axis (All-nil (λ (t : Turn). OfLength n t.axis)) e

-- where a product has a letter other than I there is a qubit
some_qubit : (j : BoardJob) (n p : ℕ) (s : Static) → ProductsOfLength n j.products → HaveLetters j.products → slice_get j.products p ≡ Some s → 1 ≤ n
some_qubit j n p s fit letters at = elim (cases_lt (letters p s at).0 (length s.axis.letters)) [
  | inl inside ↦ omega (arith, inside, long)
  | inr past ↦
      (let none : acts_at s.axis (letters p s at).0 ≡ false = ap acts (get_or_past s.axis.letters (letters p s at).0 letter.I past) in
      absurd (cc (none, (letters p s at).1)))
]
  where
    long : OfLength n s.axis
    long = subst (λ (x : Static). OfLength n x.axis) (get_or_from_slice_get j.products p s s at) (fit p s (slice_get_within j.products p s at))

-- ---- the numbers of an entry
product_number : (j : BoardJob) (p : ℕ) (s : Static) → WithinLimits j → slice_get j.products p ≡ Some s → IsNumber p
product_number j p s limits at = omega (arith, slice_get_within j.products p s at, limits.few_products)

factory_number : (g : Grid) (axis : Signed) (f : ℕ) (cells : List ℕ) → Sound g → Fit g axis (Some f) cells → IsNumber f
factory_number g axis f cells sound fit =
    let sides = sides_from 0 axis.letters in
    let last : Touches g cells (get_or (sides ++ side.Port f ∷ []) (length sides) (side.Port f)) = fit.touched (length sides) (side.Port f) (omega (arith, length-append sides (side.Port f ∷ []))) in
    let (d, among, on) = subst (Touches g cells) (get_or_push sides (side.Port f) (side.Port f) (length sides) refl) last in
    let (c, (level, store, at), beside) = on in
    omega (arith, (sound.stores f store (c, level, at)).0)

steps_few : (h : History) → length (steps h) ≤ length h
steps_few [] = omega arith
steps_few (e ∷ h) = omega (arith, length-append (steps_in e) (steps h), one e, steps_few h)
  where
    one : (e : Entry) → length (steps_in e) ≤ 1
    one (Claim p axis through state cells) = omega arith
    one (Deliver p g) = omega arith
    one (Release p) = omega arith
    one (Step f) = omega arith
    one (Settle p flip) = omega arith

-- a claim's port and state
record PortAndState (through state : Option ℕ) : Type 0 where
  port : IfSome through IsNumber
  taken : IfSome state IsNumber
  both : is_some through ≡ is_some state

port_and_state : (j : BoardJob) (h : History) (k : Kind) (axis : Signed) (through state : Option ℕ) (cells : List ℕ) → Sound j.grid → length h < 2 ^ 20 → Fit j.grid axis through cells → TakesState j h k through state → PortAndState through state
port_and_state j h kind.Rotation axis through state cells sound short fit (f, s, port, is, first) =
    let made : s < length (makers_of j.fails (steps h)) = omega (arith, first_made 0 (makers_of j.fails (steps h)) (taken_states h) f s first) in
    let low : IsNumber s = omega (arith, made, made_le j.fails (steps h), steps_few h, short) in
    let P : Option ℕ → Type 0 = λ o. Fit j.grid axis o cells in
    subst (λ (o : Option ℕ). PortAndState o state) (sym port) (subst (λ (o : Option ℕ). PortAndState (Some f) o) (sym is) (record {
      port = factory_number j.grid axis f cells sound (subst P port fit);
      taken = low;
      both = refl;
    }))
port_and_state j h (kind.Measure bit) axis through state cells sound short fit (port, is) =
    subst (λ (o : Option ℕ). PortAndState o state) (sym port) (subst (λ (o : Option ℕ). PortAndState None o) (sym is) (record { port = tt; taken = tt; both = refl }))
port_and_state j h (kind.Settle first size value) axis through state cells sound short fit takes = absurd takes

delivered_kind : (k : Kind) (g : Given) → IsKind k g → IsDelivered g
delivered_kind k (given.Rotation raw x) is = tt
delivered_kind k (given.Measure raw) is = tt
delivered_kind kind.Rotation given.Settled is = absurd is
delivered_kind (kind.Measure bit) given.Settled is = absurd is
delivered_kind (kind.Settle first size value) given.Settled is = absurd is

later_one : (b : Bool) (g : Given) (later : Option Given) → b ≡ false → is_some (elim (if b then Some g else None) [ None ↦ later | Some x ↦ Some x ]) ≡ true → is_some later ≡ true
later_one true g later other e = absurd (cc other)
later_one false g later other e = e

-- what is delivered was delivered by an entry
delivery_at : (h : History) (p : ℕ) → is_some (delivered h p) ≡ true → (n : ℕ) × (g : Given) × (slice_get h n ≡ Some (Deliver p g))
delivery_at [] p e = absurd (cc e)
delivery_at (Claim q axis through state cells ∷ h) p e = let (n, g, at) = delivery_at h p e in (suc n, g, at)
delivery_at (Deliver q g ∷ h) p e = elim (cases_Bool (q == p)) [
  | inl same ↦ (0, g, ap (λ m. Some (Deliver m g)) (eqb-true q p same))
  | inr other ↦
      let (n, x, at) = delivery_at h p (later_one (q == p) g (delivered h p) other e) in
      (suc n, x, at)
]
delivery_at (Release q ∷ h) p e = let (n, g, at) = delivery_at h p e in (suc n, g, at)
delivery_at (Step f ∷ h) p e = let (n, g, at) = delivery_at h p e in (suc n, g, at)
delivery_at (Settle q flip ∷ h) p e = let (n, g, at) = delivery_at h p e in (suc n, g, at)

-- ---- each entry
abbrev Stands : Entry → Type 0
Stands e = HasNumbers e × IsShaped two e

-- the products that were delivered have numbers of 32 bits
abbrev Earlier : History → Type 0
Earlier h = (p : ℕ) (g : Given) (m : ℕ) → slice_get h m ≡ Some (Deliver p g) → IsNumber p

module _ (j : BoardJob) (limits : WithinLimits j) (sound : Sound j.grid) (letters : HaveLetters j.products) where
  allowed_stands : (h : History) (e : Entry) → Earlier h → length h < 2 ^ 20 → Allowed j h e → Stands e
  allowed_stands h (Claim p axis through state cells) earlier short allowed =
      let (s, at, takes) = allowed.product in
      let ports = port_and_state j h s.kind axis through state cells sound short allowed.fits takes in
      let long = axis_fits j h limits.qubits p axis limits.axes_fit allowed.axis_of in
      let some = some_qubit j limits.qubits p s limits.axes_fit letters at in (
        (product_number j p s limits at, ports.port, ports.taken, λ k d low. omega (arith, slice_get_within j.grid.sites (get_or cells k d) _ (allowed.fits.ancilla k d low), sound.few)),
        ((omega (arith, long, some), omega (arith, long, limits.few_qubits)), ports.both, (omega (arith, allowed.fits.some), allowed.ascending)),
      )
  allowed_stands h (Deliver p g) earlier short (claimed, undone, (s, at, is)) = (product_number j p s limits at, delivered_kind s.kind g is)
  allowed_stands h (Release p) earlier short (done, unreleased) =
      let (m, g, there) = delivery_at h p done in
      (earlier p g m there, tt)
  allowed_stands h (Step f) earlier short (store, has, room) = (omega (arith, (sound.stores f store has).0), tt)
  allowed_stands h (Settle p flip) earlier short (undone, ready, (s, first, size, value, at, is, flips)) = (product_number j p s limits at, tt)

-- what stands among the first entries stands there
among_first : {X : Type 0} (xs : List X) (n m : ℕ) (x : X) → slice_get (take n xs) m ≡ Some x → slice_get xs m ≡ Some x
among_first xs zero m x e = absurd (none-some x e)
among_first [] (suc n) m x e = absurd (none-some x e)
among_first (y ∷ xs) (suc n) zero x e = e
among_first (y ∷ xs) (suc n) (suc m) x e = among_first xs n m x e

earlier_in : (j : BoardJob) (h : History) (n : ℕ) → WithinLimits j → Legal j h → Earlier (take n h)
earlier_in j h n limits legal p g m at =
    let (claimed, undone, (s, there, is)) = legal m (Deliver p g) (among_first h n m (Deliver p g) at) in
    product_number j p s limits there

pub legal_entries_stand : LegalIsShort → LegalEntriesStand
legal_entries_stand short j h limits sound letters legal numbers k d low =
    let n = get_or h k d in
    let at : slice_get (entries h) k ≡ Some n.entry = slice_get-map (λ (x : Noted). x.entry) h k ∙ ap (option_map (λ (x : Noted). x.entry)) (slice_get-get_or h k d low) in
    let few : length (take k (entries h)) < 2 ^ 20 = omega (arith, short j (entries h) limits sound.stores legal, length-take k (entries h)) in
    let (has, shaped) = allowed_stands j limits sound letters (take k (entries h)) n.entry (earlier_in j (entries h) k limits legal) few (legal k n.entry at) in
    ((numbers k d low, has), shaped)
