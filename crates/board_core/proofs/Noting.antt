-- What a board's tables are after a call has written them.
use Rattle.std.proofs.Common.{◌≡◌, ℕ, ◌<◌, Bool, true, List, [], ◌∷◌, ◌++◌, length, option_map, Option, Some, None, IsSome, slice_get, inl, inr, ◌+◌, refl, ap, sym, ◌∙◌, arith, subst, append-nil}
use Rattle.std.specs.Option.{option_to_list}
use Rattle.std.proofs.Math.ListN.{set, length-set}
use Rattle.std.proofs.lemmas.Option.{same_Some, slice_get_within, get_or_from_slice_get}
use Rattle.pauli_product.specs.Signed.{Signed, OfLength}
use Rattle.pauli_product.specs.Pulls.{Turn, quarter, half, carry}
use Rattle.pauli_product.specs.Corrections.{corrections, effective, turn_if}
use Rattle.source_model.specs.declared.Given.TheVariants as given
use Rattle.source_model.specs.declared.Kind.{Kind}
use Rattle.source_model.specs.declared.Kind.TheVariants as kind
use Rattle.source_model.specs.declared.Static.{Static}
use Rattle.frame_table.specs.Images.{Images, After, qubits}
use Rattle.std.specs.Result.{OnOk}
use Rattle.std.proofs.Common.{Result, Ok, Err}
use Rattle.magic_pool.specs.declared.Stepped.{Stepped}
use Rattle.magic_pool.specs.declared.StepRefused.{StepRefused}
use Rattle.magic_pool.specs.Pooled.{Pooled, Recounts}
use Rattle.board_core.specs.declared.bits.Written.{Written}
use Rattle.board_core.specs.declared.board.Standing.{Standing}
use Rattle.board_core.specs.declared.Entry.TheVariants.{Claim, Deliver, Release, Settle}
use Rattle.board_core.specs.declared.Entry.TheVariants as entry
use Rattle.board_core.specs.History.{History, claim_place, done_place, steps, taken_states}
use Rattle.board_core.specs.Legal.{BoardJob, Allowed, ClaimCell, IsKind}
use Rattle.board_core.specs.View.{claimed_axis, turns_of}
use Rattle.board_core.specs.inside.Cells.{Taken, without}
use Rattle.board_core.specs.inside.Bits.{BitsAre, after_write}
use Rattle.board_core.specs.inside.Kept.{Tables, Kept}
use Rattle.std.proofs.lemmas.Bool.{cases_eq}
use Rattle.board_core.proofs.CellTables.{get_set_same, get_set_other}
use Rattle.board_core.proofs.Places.{some_of, claimed_place}
use Rattle.board_core.proofs.Tables.{entry_of}
use Rattle.board_core.proofs.Frame.{axis_stays}
use Rattle.board_core.proofs.Keeping.{bits_write}
use Rattle.board_core.proofs.Releasing.{release_within}
use Rattle.board_core.proofs.KeptOn.{release_keeps, claim_keeps, step_keeps, deliver_keeps, settle_keeps, bits_deliver}

-- a table is written at one place, and written back
pub written : {A : Type 0} (t was now after : List A) (p : ℕ) (f : A → A) → was ≡ t → after ≡ now → ((s : A) → slice_get was p ≡ Some s → now ≡ set was p (f s)) → (s : A) → slice_get t p ≡ Some s → after ≡ set t p (f s)
written {A} t was now after p f a b w s e =
    b ∙ w s (ap (λ (x : List A). slice_get x p) a ∙ e) ∙ ap (λ (x : List A). set x p (f s)) a

-- sizes that the tables keep
pub own_fits : (j : BoardJob) (h : History) (t : Tables) (p : ℕ) (s : Static) → Kept j h t → slice_get j.products p ≡ Some s → OfLength (qubits t.frame) s.axis
own_fits j h t p s k e =
    let all = k.limits.axes_fit p s (slice_get_within j.products p s e) in
    subst (λ (x : Static). OfLength (qubits t.frame) x.axis) (get_or_from_slice_get j.products p s s e) (all ∙ sym k.frame.x.size)

-- another axis in the room for one
pub scratch_kept : (j : BoardJob) (h : History) (t : Tables) (scratch : Signed) → Kept j h t → OfLength (qubits t.frame) scratch → Kept j h (record t { scratch = scratch })
scratch_kept j h t scratch k fits = record {
  limits = k.limits;
  sound = k.sound;
  open_for = k.open_for;
  letters = k.letters;
  legal = k.legal;
  order = k.order;
  frame = k.frame;
  done = k.done;
  standings = k.standings;
  holders = k.holders;
  bits = k.bits;
  reach = k.reach;
  fails = k.fails;
  pool = k.pool;
  makers = k.makers;
  scratch = fits ∙ k.frame.x.size;
}

-- the axis in a claim is the one that the product has now
now_claimed : (j : BoardJob) (h : History) (t : Tables) (p : ℕ) (s : Static) → Kept j h t → slice_get j.products p ≡ Some s → IsSome (claim_place h p) → done_place h p ≡ None → claimed_axis h p ≡ Some (carry (turns_of j.products h) s.axis)
now_claimed j h t p s k e claimed once =
    let c = some_of (claimed_axis h p) (sym (claimed_place h p) ∙ claimed) in
    c.1 ∙ ap Some (sym (axis_stays k.limits.qubits j h p c.0 s k.limits.axes_fit k.legal e c.1 once))

-- ---- a release
pub release_noted : (j : BoardJob) (h : History) (p place : ℕ) (t : Tables) (standings : List Standing) (holders : List (Option ℕ)) → Kept j h t → Allowed j h (Release p) → place ≡ length h → ((s : Standing) → slice_get t.standings p ≡ Some s → standings ≡ set t.standings p (record s { release = Some place })) → length holders ≡ length t.holders → ((c : ℕ) → slice_get holders c ≡ option_map (without p) (slice_get t.holders c)) → Kept j (h ++ Release p ∷ []) (record t { holders = holders; standings = standings })
release_noted j h p place t standings holders k a is ws size freed =
    let l = release_within j h p k.legal a in
    let st = entry_of t.standings p (subst (λ (n : ℕ). p < n) (sym k.standings.0) l) in
    subst (λ (x : List Standing). Kept j (h ++ Release p ∷ []) (record t { holders = holders; standings = x }))
    (ap (λ (n : ℕ). set t.standings p (record st.0 { release = Some n })) (sym is) ∙ sym (ws st.0 st.1))
    (release_keeps j h p t st.0 holders k a st.1 l size freed)

-- ---- a claim
pub claim_noted : (j : BoardJob) (h : History) (p place : ℕ) (axis : Signed) (through state : Option ℕ) (cells : List ℕ) (t : Tables) (standings : List Standing) (holders : List (Option ℕ)) (pool : Pooled) → Kept j h t → Allowed j h (Claim p axis through state cells) → place ≡ length h → ((s : Standing) → slice_get t.standings p ≡ Some s → standings ≡ set t.standings p (record s { claim = Some place })) → Taken (ClaimCell j.grid axis through cells) p t.holders holders → pool.fails ≡ t.pool.fails → pool.makers ≡ t.pool.makers → ((made taken : List ℕ) → Recounts t.pool made taken → Recounts pool made (taken ++ option_to_list state)) → Kept j (h ++ Claim p axis through state cells ∷ []) (record t { holders = holders; pool = pool; standings = standings })
claim_noted j h p place axis through state cells t standings holders pool k a is ws taken fails makers recounts =
    let l = slice_get_within j.products p a.product.0 a.product.1 in
    let st = entry_of t.standings p (subst (λ (n : ℕ). p < n) (sym k.standings.0) l) in
    subst (λ (x : List Standing). Kept j (h ++ Claim p axis through state cells ∷ []) (record t { holders = holders; pool = pool; standings = x }))
    (ap (λ (n : ℕ). set t.standings p (record st.0 { claim = Some n })) (sym is) ∙ sym (ws st.0 st.1))
    (claim_keeps j h p axis through state cells t st.0 holders pool k a st.1 l taken fails makers (recounts (steps h) (taken_states h) k.pool))

-- ---- a delivery or a settling
-- the tables of a history, with a product noted as done
done_noted : (j : BoardJob) (h : History) (p place long : ℕ) (t : Tables) (st : Standing) (frame : Images) (bits : List Written) (done : List Bool) (standings : List Standing) (scratch : Signed) → place ≡ long → done ≡ set t.done p true → standings ≡ set t.standings p (record st { deliver = Some place }) → Kept j h (record t { frame = frame; done = set t.done p true; standings = set t.standings p (record st { deliver = Some long }); bits = bits; scratch = scratch }) → Kept j h (record t { frame = frame; done = done; standings = standings; bits = bits; scratch = scratch })
done_noted j h p place long t st frame bits done standings scratch is marked ws k =
    subst (λ (d : List Bool). Kept j h (record t { frame = frame; done = d; standings = standings; bits = bits; scratch = scratch })) (sym marked)
    (subst (λ (x : List Standing). Kept j h (record t { frame = frame; done = set t.done p true; standings = x; bits = bits; scratch = scratch }))
    (ap (λ (n : ℕ). set t.standings p (record st { deliver = Some n })) (sym is) ∙ sym ws) k)

no_measure : (k : Kind) (raw x : Bool) (c : ℕ) → IsKind k (given.Rotation raw x) → k ≡ kind.Measure c → ⊥
no_measure k raw x c i e = subst (λ (y : Kind). IsKind y (given.Rotation raw x)) e i

pub rotate_noted : (j : BoardJob) (h : History) (p place : ℕ) (raw x effective-is : Bool) (s : Static) (own : Signed) (t : Tables) (frame : Images) (done : List Bool) (standings : List Standing) (scratch : Signed) → Kept j h t → slice_get j.products p ≡ Some s → s.axis ≡ own → Allowed j h (Deliver p (given.Rotation raw x)) → place ≡ length h → ((n : ℕ) (turns : List Turn) → After n turns t.frame → scratch ≡ carry turns own) → effective-is ≡ effective scratch raw → OfLength (qubits t.frame) scratch → ((n : ℕ) (turns : List Turn) → After n turns t.frame → After n (turns ++ (turn_if effective-is (carry turns own) quarter ++ turn_if x (carry turns own) half)) frame) → done ≡ set t.done p true → ((s : Standing) → slice_get t.standings p ≡ Some s → standings ≡ set t.standings p (record s { deliver = Some place })) → Kept j (h ++ Deliver p (given.Rotation raw x) ∷ []) (record t { frame = frame; done = done; standings = standings; scratch = scratch })
rotate_noted j h p place raw x effective-is s own t frame done standings scratch k e axis a is image sign fits corrected marked ws =
    let l = slice_get_within j.products p s e in
    let st = entry_of t.standings p (subst (λ (n : ℕ). p < n) (sym k.standings.0) l) in
    let turns = turns_of j.products h in
    let g = given.Rotation raw x in
    let now = image k.limits.qubits turns k.frame in
    let turned : After k.limits.qubits (turns ++ corrections (carry turns s.axis) (carry turns s.axis) raw x) frame =
    subst (λ (y : Signed). After k.limits.qubits (turns ++ corrections (carry turns y) (carry turns y) raw x) frame) (sym axis)
    (subst (λ (b : Bool). After k.limits.qubits (turns ++ (turn_if b (carry turns own) quarter ++ turn_if x (carry turns own) half)) frame) (sign ∙ ap (λ (y : Signed). effective y raw) now) (corrected k.limits.qubits turns k.frame)) in
    done_noted j (h ++ Deliver p g ∷ []) p place (length h) t st.0 frame t.bits done standings scratch is marked (ws st.0 st.1)
    (deliver_keeps j h p g (carry turns s.axis) t st.0 frame t.bits scratch k a st.1 (now_claimed j h t p s k e a.0 a.1) turned
    (bits_deliver j h p g s t.bits e (λ c m. no_measure s.kind raw x c (subst (λ (y : Static). IsKind y.kind g) (same_Some a.2.0 s (sym a.2.1 ∙ e)) a.2.2) m) k.bits) refl (fits ∙ k.frame.x.size))

pub measure_noted : (j : BoardJob) (h : History) (p place b : ℕ) (raw effective-is : Bool) (s : Static) (own : Signed) (t : Tables) (bits : List Written) (done : List Bool) (standings : List Standing) (scratch : Signed) → Kept j h t → slice_get j.products p ≡ Some s → s.axis ≡ own → s.kind ≡ kind.Measure b → Allowed j h (Deliver p (given.Measure raw)) → place ≡ length h → ((n : ℕ) (turns : List Turn) → After n turns t.frame → scratch ≡ carry turns own) → effective-is ≡ effective scratch raw → OfLength (qubits t.frame) scratch → b < length t.bits → ((w : Written) → slice_get t.bits b ≡ Some w → bits ≡ set t.bits b (after_write w p effective-is)) → done ≡ set t.done p true → ((s : Standing) → slice_get t.standings p ≡ Some s → standings ≡ set t.standings p (record s { deliver = Some place })) → Kept j (h ++ Deliver p (given.Measure raw) ∷ []) (record t { done = done; standings = standings; bits = bits; scratch = scratch })
measure_noted j h p place b raw effective-is s own t bits done standings scratch k e axis bit a is image sign fits within wb marked ws =
    let l = slice_get_within j.products p s e in
    let st = entry_of t.standings p (subst (λ (n : ℕ). p < n) (sym k.standings.0) l) in
    let w = entry_of t.bits b within in
    let turns = turns_of j.products h in
    let g = given.Measure raw in
    let now : scratch ≡ carry turns s.axis = image k.limits.qubits turns k.frame ∙ ap (carry turns) (sym axis) in
    let claimed = now_claimed j h t p s k e a.0 a.1 in
    let value : effective-is ≡ effective (carry turns s.axis) raw = sign ∙ ap (λ (y : Signed). effective y raw) now in
    let into : bits ≡ set t.bits b (after_write w.0 p (effective (carry turns s.axis) raw)) = wb w.0 w.1 ∙ ap (λ (v : Bool). set t.bits b (after_write w.0 p v)) value in
    done_noted j (h ++ Deliver p g ∷ []) p place (length h) t st.0 t.frame bits done standings scratch is marked (ws st.0 st.1)
    (deliver_keeps j h p g (carry turns s.axis) t st.0 t.frame bits scratch k a st.1 claimed
    (subst (λ (y : List Turn). After k.limits.qubits y t.frame) (sym (append-nil turns)) k.frame)
    (subst (λ (y : List Written). BitsAre j (h ++ Deliver p g ∷ []) y) (sym into) (bits_write j h b p (carry turns s.axis) g t.bits w.0 (s, e, bit) claimed a.1 w.1 k.bits))
    (ap length into ∙ length-set t.bits b (after_write w.0 p (effective (carry turns s.axis) raw))) (fits ∙ k.frame.x.size))

pub settle_noted : (j : BoardJob) (h : History) (p place : ℕ) (flip : Bool) (s : Static) (own : Signed) (t : Tables) (frame : Images) (done : List Bool) (standings : List Standing) → Kept j h t → slice_get j.products p ≡ Some s → s.axis ≡ own → Allowed j h (Settle p flip) → place ≡ length h → ((n : ℕ) (turns : List Turn) → After n turns t.frame → After n (turns ++ turn_if flip (carry turns own) half) frame) → done ≡ set t.done p true → ((s : Standing) → slice_get t.standings p ≡ Some s → standings ≡ set t.standings p (record s { deliver = Some place })) → Kept j (h ++ Settle p flip ∷ []) (record t { frame = frame; done = done; standings = standings })
settle_noted j h p place flip s own t frame done standings k e axis a is corrected marked ws =
    let l = slice_get_within j.products p s e in
    let st = entry_of t.standings p (subst (λ (n : ℕ). p < n) (sym k.standings.0) l) in
    let turns = turns_of j.products h in
    done_noted j (h ++ Settle p flip ∷ []) p place (length h) t st.0 frame t.bits done standings t.scratch is marked (ws st.0 st.1)
    (settle_keeps j h p flip s t st.0 frame t.scratch k a st.1 e
    (subst (λ (y : Signed). After k.limits.qubits (turns ++ turn_if flip (carry turns y) half) frame) (sym axis) (corrected k.limits.qubits turns k.frame)) k.scratch)

-- ---- a factory's step
pub step_noted : (f : ℕ) (t u : Tables) (pool : Pooled) (r : Result Stepped StepRefused) → t ≡ u → pool.fails ≡ t.pool.fails → pool.makers ≡ t.pool.makers → OnOk r ((made taken : List ℕ) → Recounts t.pool made taken → Recounts pool (made ++ f ∷ []) taken) → OnOk r ((j : BoardJob) (h : History) → Kept j h u → Allowed j h (entry.Step f) → Kept j (h ++ entry.Step f ∷ []) (record t { pool = pool }))
step_noted f t u pool (Ok o) same fails makers recounts = λ j h k a.
    let here = subst (Kept j h) (sym same) k in step_keeps j h f t pool here a fails makers (recounts (steps h) (taken_states h) here.pool)
step_noted f t u pool (Err e) same fails makers recounts = tt

-- ---- a look
-- one count more
pub counted : (counts : List ℕ) (i n : ℕ) (value : ℕ → ℕ) → i < length counts → n ≡ value i → ((f : ℕ) → f < i → slice_get counts f ≡ Some (value f)) → (f : ℕ) → f < i + 1 → slice_get (set counts i n) f ≡ Some (value f)
counted counts i n value within is before f l =
    elim (cases_eq i f) [
      | inl e ↦ subst (λ (k : ℕ). slice_get (set counts i n) k ≡ Some (value k)) e (get_set_same counts i n within ∙ ap Some is)
      | inr ne ↦ get_set_other counts i f n ne ∙ before f (omega arith)
    ]
