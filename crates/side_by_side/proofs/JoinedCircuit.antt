-- The joined circuit is well-formed.
use Rattle.std.proofs.Common.{◌≡◌, ◌≢◌, ℕ, zero, suc, ◌+◌, ◌<◌, ◌≤◌, inl, inr, List, [], ◌∷◌, ◌++◌, map, length, sum_by, slice_index_or, refl, ap, sym, ◌∙◌, arith, length-append, subst, codes, decimal}
use Rattle.std.specs.Prelude.{All, Any}
use Rattle.std.proofs.lemmas.Fmt.{decimal_digit}
use Rattle.std.proofs.lemmas.List.{length-map, get_or_append_left, get_or-append-add}
use Rattle.std.proofs.lemmas.List.Elements.{All-nil, All-cons, All-head, All-tail, All-append, All-map, All-weaker}
use Rattle.std.proofs.lemmas.List.Sums.{sum_by-cons, sum_by-append}
use Rattle.source_model.specs.declared.Circuit.{Circuit}
use Rattle.source_model.specs.declared.Given.{Given}
use Rattle.source_model.specs.declared.Given.TheVariants as given
use Rattle.source_model.specs.declared.Item.{Item}
use Rattle.source_model.specs.declared.Item.TheVariants as item
use Rattle.source_model.specs.declared.Kind.{Kind}
use Rattle.source_model.specs.declared.Kind.TheVariants as kind
use Rattle.source_model.specs.declared.Register.{Register}
use Rattle.source_model.specs.Circuits.{FirstsRunOn, ReadsWhole, WellFormed, RightKinds, IsOneLine, BitsBelow, HiddenInOrder, IsOutcomeOf, OutcomesOf, kinds, bits_in}
use Rattle.side_by_side.specs.declared.place.Place.{Place}
use Rattle.side_by_side.specs.Places.{range_in, kind_in, item_in, items_in}
use Rattle.side_by_side.specs.inside.Beside.{Fits}
use Rattle.side_by_side.specs.Joined.{bits_of, hidden_of, sums_of, IsWithin, place_at, joined_from, joined_items, named, register_at, registers_from, joined_registers, joined_circuit}
use Rattle.side_by_side.specs.Programs.{Program, IsProgram, circuits, joined_outcomes}
use Rattle.side_by_side.proofs.Beside.{range_low, range_high}
use Rattle.side_by_side.proofs.Counting.{kinds-append, kinds_in}
use Rattle.side_by_side.proofs.Fitting.{register_within, fits_of}
use Rattle.side_by_side.proofs.JoinedItems.{HidesInOrder, joined_items_fit}

-- ---- names
one_line : (i : ℕ) (name : List ℕ) → i < 10 → IsOneLine name → IsOneLine (named i name)
one_line i name small h =
    let other : (n : ℕ) → 10 < n → n ≢ 10 = λ n l e. omega (arith, l, e) in
    All-append (λ b. b ≢ 10) (codes "p") (decimal i ++ (codes "_" ++ name)) (All-cons (λ b. b ≢ 10) 112 [] (other 112 (omega arith)) (All-nil (λ b. b ≢ 10)))
    (All-append (λ b. b ≢ 10) (decimal i) (codes "_" ++ name)
    (subst (λ (ds : List ℕ). All (λ b. b ≢ 10) ds) (sym (decimal_digit i small)) (All-cons (λ b. b ≢ 10) (48 + i) [] (other (48 + i) (omega arith)) (All-nil (λ b. b ≢ 10))))
    (All-append (λ b. b ≢ 10) (codes "_") name (All-cons (λ b. b ≢ 10) 95 [] (other 95 (omega arith)) (All-nil (λ b. b ≢ 10))) h))

names_joined : (i b : ℕ) (cs : List Circuit) → i + length cs ≤ 10 → All WellFormed cs → All (λ r. IsOneLine r.name) (registers_from i b cs)
names_joined i b [] few h = All-nil (λ r. IsOneLine r.name)
names_joined i b (c ∷ cs) few h =
    let rs = c.registers in
    let here = All-head WellFormed c cs h in
    All-append (λ r. IsOneLine r.name) (map (register_at b (named i)) rs) (registers_from (suc i) (b + bits_in rs) cs)
    (All-map (λ r. IsOneLine r.name) (register_at b (named i)) rs (All-weaker (λ r. IsOneLine r.name) (λ r. IsOneLine (named i r.name)) (λ r. one_line i r.name (omega (arith, few))) rs here.names_fit))
    (names_joined (suc i) (b + bits_in rs) cs (omega (arith, few)) (All-tail WellFormed c cs h))

-- ---- registers of one program
bits_map : (b : ℕ) (rename : List ℕ → List ℕ) (rs : List Register) → bits_in (map (register_at b rename) rs) ≡ bits_in rs
bits_map b rename [] = refl
bits_map b rename (r ∷ rs) =
    omega (arith, sum_by-cons (λ (r : Register). r.size) (register_at b rename r) (map (register_at b rename) rs), sum_by-cons (λ (r : Register). r.size) r rs, bits_map b rename rs)

firsts_map : (b before to : ℕ) (rename : List ℕ → List ℕ) (rs : List Register) → to ≡ b + before → FirstsRunOn before rs → FirstsRunOn to (map (register_at b rename) rs)
firsts_map b before to rename [] e h = tt
firsts_map b before to rename (r ∷ rs) e h =
    let first : b + r.first ≡ to = omega (arith, e, h.0) in
    (first, firsts_map b (before + r.size) (to + r.size) rename rs (omega (arith, e)) h.1)

firsts_append : (before mid : ℕ) (rs qs : List Register) → mid ≡ before + bits_in rs → FirstsRunOn before rs → FirstsRunOn mid qs → FirstsRunOn before (rs ++ qs)
firsts_append before mid [] qs e h k = let same : mid ≡ before = omega (arith, e) in subst (λ (n : ℕ). FirstsRunOn n qs) same k
firsts_append before mid (r ∷ rs) qs e h k = (h.0, firsts_append (before + r.size) mid rs qs (omega (arith, e, sum_by-cons (λ (r : Register). r.size) r rs)) h.1 k)

-- ---- registers of all programs
bits_joined : (i b : ℕ) (cs : List Circuit) → bits_in (registers_from i b cs) ≡ bits_of cs
bits_joined i b [] = refl
bits_joined i b (c ∷ cs) =
    let rs = c.registers in
    omega (
      arith,
      sum_by-append (λ (r : Register). r.size) (map (register_at b (named i)) rs) (registers_from (suc i) (b + bits_in rs) cs),
      bits_map b (named i) rs,
      bits_joined (suc i) (b + bits_in rs) cs,
      sum_by-cons (λ (c : Circuit). bits_in c.registers) c cs,
    )

count_joined : (i b : ℕ) (cs : List Circuit) → length (registers_from i b cs) ≡ sum_by (λ c. length c.registers) cs
count_joined i b [] = refl
count_joined i b (c ∷ cs) =
    let rs = c.registers in
    omega (
      arith,
      length-append (map (register_at b (named i)) rs) (registers_from (suc i) (b + bits_in rs) cs),
      length-map rs (register_at b (named i)),
      count_joined (suc i) (b + bits_in rs) cs,
      sum_by-cons (λ (c : Circuit). length c.registers) c cs,
    )

firsts_joined : (i b : ℕ) (cs : List Circuit) → All WellFormed cs → FirstsRunOn b (registers_from i b cs)
firsts_joined i b [] h = tt
firsts_joined i b (c ∷ cs) h =
    let rs = c.registers in
    let here = All-head WellFormed c cs h in
    firsts_append b (b + bits_in rs) (map (register_at b (named i)) rs) (registers_from (suc i) (b + bits_in rs) cs)
    (omega (arith, bits_map b (named i) rs)) (firsts_map b 0 b (named i) rs (omega arith) here.firsts_run_on)
    (firsts_joined (suc i) (b + bits_in rs) cs (All-tail WellFormed c cs h))

-- ---- an If reads one register whole
abbrev Ranges : ℕ → ℕ → List Register → Type 0
Ranges first size rs = Any (λ r. (r.first ≡ first) × (r.size ≡ size)) rs

get_map : (g : Register → Register) (rs : List Register) (k : ℕ) (r : Register) → slice_index_or (map g rs) k (g r) ≡ g (slice_index_or rs k r)
get_map g [] k r = refl
get_map g (x ∷ rs) zero r = refl
get_map g (x ∷ rs) (suc k) r = get_map g rs k r

ranges_map : (b first size : ℕ) (rename : List ℕ → List ℕ) (rs : List Register) → Ranges first size rs → Ranges (b + first) size (map (register_at b rename) rs)
ranges_map b first size rename rs a =
    let long : a.0 < length (map (register_at b rename) rs) = rw (length-map rs (register_at b rename)) a.2 in
    (a.0, register_at b rename a.1, long, get_map (register_at b rename) rs a.0 a.1 ∙ ap (register_at b rename) a.3, (ap (λ n. b + n) a.4.0, a.4.1))

ranges_left : (first size : ℕ) (rs qs : List Register) → Ranges first size rs → Ranges first size (rs ++ qs)
ranges_left first size rs qs a =
    let long : a.0 < length (rs ++ qs) = omega (arith, length-append rs qs, a.2) in
    (a.0, a.1, long, get_or_append_left rs qs a.1 a.0 a.2 ∙ a.3, a.4)

ranges_right : (first size : ℕ) (rs qs : List Register) → Ranges first size qs → Ranges first size (rs ++ qs)
ranges_right first size rs qs a =
    let long : length rs + a.0 < length (rs ++ qs) = omega (arith, length-append rs qs, a.2) in
    (length rs + a.0, a.1, long, get_or-append-add rs qs a.0 a.1 ∙ a.3, a.4)

reads_in : (s : Place) (rs all : List Register) (i : Item) → s.bits ≡ bits_in rs → bits_in all ≤ s.hidden → FirstsRunOn 0 rs → ((first size : ℕ) → Ranges first size rs → Ranges (s.bit + first) size all) → ReadsWhole rs i → ReadsWhole all (item_in s i)
reads_in s rs all (item.Turn axis angle) e l f covers h = tt
reads_in s rs all (item.Measure axis bit) e l f covers h = tt
reads_in s rs all (item.If axis first size value) e l f covers (inl a) =
    let within : first + size ≤ s.bits = omega (arith, e, register_within 0 rs first size a.0 a.1 f a.2 a.3 a.4.0 a.4.1) in
    inl (subst (λ (n : ℕ). Ranges n size all) (sym (range_low s first size within)) (covers first size a))
reads_in s rs all (item.If axis first size value) e l f covers (inr a) =
    let above : s.bits ≤ first = omega (arith, e, a.0) in
    let one : 0 < size = omega (arith, a.1) in
    let past : bits_in all ≤ range_in s first size = omega (arith, range_high s first size above one, l) in
    inr (past, a.1, a.2)

reads_joined : (all : List Register) (i q b h : ℕ) (cs : List Circuit) → All WellFormed cs → bits_in all ≤ h → ((first size : ℕ) → Ranges first size (registers_from i b cs) → Ranges first size all) → All (ReadsWhole all) (joined_from q b h cs)
reads_joined all i q b h [] fit l covers = All-nil (ReadsWhole all)
reads_joined all i q b h (c ∷ cs) fit l covers =
    let s = place_at q b h c cs in
    let here = All-head WellFormed c cs fit in
    let mine = map (register_at b (named i)) c.registers in
    let others = registers_from (suc i) (b + bits_in c.registers) cs in
    All-append (ReadsWhole all) (items_in s c.items) (joined_from (q + c.qubits) (b + bits_in c.registers) (h + c.hidden) cs)
    (All-map (ReadsWhole all) (item_in s) c.items (All-weaker (ReadsWhole c.registers) (λ i. ReadsWhole all (item_in s i)) (λ x. reads_in s c.registers all x refl l here.firsts_run_on (λ first size a. covers (b + first) size (ranges_left (b + first) size mine others (ranges_map b first size (named i) c.registers a)))) c.items here.reads_fit))
    (reads_joined all (suc i) (q + c.qubits) (b + bits_in c.registers) (h + c.hidden) cs (All-tail WellFormed c cs fit) (omega (arith, l)) (λ first size a. covers first size (ranges_right first size mine others a)))

-- ---- the joined circuit
pub all_fit : (cs : List Circuit) → All WellFormed cs → All Fits cs
all_fit cs h = All-weaker WellFormed Fits fits_of cs h

pub joined_is_well_formed : (cs : List Circuit) → length cs ≤ 8 → All WellFormed cs → IsWithin (sums_of cs) → WellFormed (joined_circuit cs)
joined_is_well_formed cs few h within =
    let all = joined_registers cs in
    let same : bits_in all ≡ bits_of cs = bits_joined 0 0 cs in
    let fits = joined_items_fit cs (all_fit cs h) (All-weaker WellFormed HidesInOrder (λ c f. f.hidden_in_order) cs h) in
    record {
      few_qubits = within.qubits;
      few_registers = omega (arith, within.registers, count_joined 0 0 cs);
      axes_fit = fits.axes_fit;
      names_fit = names_joined 0 0 cs (omega (arith, few)) h;
      firsts_run_on = firsts_joined 0 0 cs h;
      bits_fit = subst (λ (n : ℕ). All (BitsBelow (n + hidden_of cs)) (joined_items cs)) (sym same) fits.bits_fit;
      reads_fit = reads_joined all 0 0 0 (bits_of cs) cs h (omega (arith, same)) (λ first size a. a);
      hidden_in_order = subst (λ (n : ℕ). HiddenInOrder n n (n + hidden_of cs) (joined_items cs)) (sym same) fits.hidden_in_order;
    }

-- ---- kinds of outcomes
outcome_in : (s : Place) (k : Kind) (g : Given) → IsOutcomeOf k g → IsOutcomeOf (kind_in s k) g
outcome_in s kind.Rotation (given.Rotation raw x) h = tt
outcome_in s (kind.Measure bit) (given.Measure raw) h = tt
outcome_in s (kind.Settle first size value) given.Settled h = tt
outcome_in s _ _ h = absurd h

outcomes_in : (s : Place) (ks : List Kind) (gs : List Given) → OutcomesOf ks gs → OutcomesOf (map (kind_in s) ks) gs
outcomes_in s [] [] h = tt
outcomes_in s [] (g ∷ gs) h = h
outcomes_in s (k ∷ ks) [] h = h
outcomes_in s (k ∷ ks) (g ∷ gs) h = (outcome_in s k g h.0, outcomes_in s ks gs h.1)

outcomes_append : (ks ls : List Kind) (gs hs : List Given) → OutcomesOf ks gs → OutcomesOf ls hs → OutcomesOf (ks ++ ls) (gs ++ hs)
outcomes_append [] ls [] hs h k = k
outcomes_append [] ls (g ∷ gs) hs h k = absurd h
outcomes_append (x ∷ ks) ls [] hs h k = absurd h
outcomes_append (x ∷ ks) ls (g ∷ gs) hs h k = (h.0, outcomes_append ks ls gs hs h.1 k)

kinds_joined : (q b h : ℕ) (ps : List Program) → All IsProgram ps → RightKinds (joined_from q b h (circuits ps)) (joined_outcomes ps)
kinds_joined q b h [] fit = tt
kinds_joined q b h (p ∷ ps) fit =
    let c = p.circuit in
    let s = place_at q b h c (circuits ps) in
    let others = joined_from (q + c.qubits) (b + bits_in c.registers) (h + c.hidden) (circuits ps) in
    let same : kinds (items_in s c.items ++ others) ≡ map (kind_in s) (kinds c.items) ++ kinds others = kinds-append (items_in s c.items) others ∙ ap (λ ks. ks ++ kinds others) (kinds_in s c.items) in
    subst (λ (ks : List Kind). OutcomesOf ks (p.outcomes ++ joined_outcomes ps)) (sym same)
    (outcomes_append (map (kind_in s) (kinds c.items)) (kinds others) p.outcomes (joined_outcomes ps)
    (outcomes_in s (kinds c.items) p.outcomes (All-head IsProgram p ps fit).1)
    (kinds_joined (q + c.qubits) (b + bits_in c.registers) (h + c.hidden) ps (All-tail IsProgram p ps fit)))

pub joined_kinds_are_right : (ps : List Program) → All IsProgram ps → RightKinds (joined_items (circuits ps)) (joined_outcomes ps)
joined_kinds_are_right ps fit = kinds_joined 0 0 (bits_of (circuits ps)) ps fit
