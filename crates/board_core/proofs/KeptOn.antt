-- The tables of a board after one entry more.
use Rattle.std.proofs.Common.{◌≡◌, ◌↔◌, inl, inr, ℕ, ◌<◌, Bool, true, false, ◌==◌, List, [], ◌∷◌, ◌++◌, length, option_map, Option, Some, None, is_some, slice_get, refl, ap, sym, ◌∙◌, arith, subst, append-nil, eq-eqb, ne_eqb}
use Rattle.std.proofs.Math.ListN.{set, length-set}
use Rattle.std.proofs.lemmas.Bool.{cases_eq}
use Rattle.std.proofs.lemmas.Option.{same_Some, slice_get_within}
use Rattle.pauli_product.specs.Signed.{Signed, OfLength}
use Rattle.pauli_product.specs.Pulls.{Turn, half, carry}
use Rattle.pauli_product.specs.Corrections.{turn_if}
use Rattle.source_model.specs.declared.Given.{Given}
use Rattle.source_model.specs.declared.Kind.TheVariants as kind
use Rattle.source_model.specs.declared.Static.{Static}
use Rattle.frame_table.specs.Images.{Images, After}
use Rattle.board_core.specs.declared.bits.Written.{Written}
use Rattle.board_core.specs.declared.board.Standing.{Standing}
use Rattle.board_core.specs.declared.Entry.{Entry}
use Rattle.board_core.specs.declared.Entry.TheVariants.{Claim, Deliver, Release, Settle}
use Rattle.board_core.specs.declared.Entry.TheVariants as entry
use Rattle.patch_layout.specs.Grid.{HasStore}
use Rattle.magic_pool.specs.declared.Maker.{Maker}
use Rattle.magic_pool.specs.Pooled.{Pooled, Recounts, store_of}
use Rattle.std.specs.Option.{option_to_list}
use Rattle.std.proofs.lemmas.Grind.{flat_map-append}
use Rattle.board_core.specs.History.{History, is_done_by, done_place, steps, steps_in, taken_states, states_in}
use Rattle.board_core.specs.Legal.{BoardJob, Allowed, ClaimCell}
use Rattle.board_core.specs.View.{claimed_axis, rotation_turns, turns_by, turns_of}
use Rattle.board_core.specs.inside.Cells.{Taken, without}
use Rattle.board_core.specs.inside.BitsNow.{WritesBit}
use Rattle.board_core.specs.inside.Bits.{BitsAre}
use Rattle.board_core.specs.Books.{standing_of}
use Rattle.board_core.specs.inside.Uses.{DoneAre}
use Rattle.board_core.specs.inside.Kept.{Tables, Kept}
use Rattle.board_core.proofs.Going.{legal_next}
use Rattle.board_core.proofs.Standings.{place_stays, place_comes}
use Rattle.board_core.proofs.CellTables.{get_set_same, get_set_other}
use Rattle.board_core.proofs.Holding.{holds_after}
use Rattle.board_core.proofs.Keeping.{standing_same, standing_claimed, standing_done, standing_released, standings_set, standings_same, holders_claim, holders_release, holders_same, bits_same, turns_quiet, turns_deliver, turns_settle}

-- ---- done products
done_same : (j : BoardJob) (h : History) (e : Entry) (done : List Bool) → ((q : ℕ) → is_done_by q e ≡ false) → DoneAre j h done → DoneAre j (h ++ e ∷ []) done
done_same j h e done others x = (x.0, λ q l. x.1 q l ∙ ap (λ o. Some (is_some o)) (sym (place_stays (is_done_by q) h e (others q))))

done_mark : (j : BoardJob) (h : History) (e : Entry) (p : ℕ) (done : List Bool) → ((q : ℕ) → is_done_by q e ≡ (p == q)) → done_place h p ≡ None → DoneAre j h done → DoneAre j (h ++ e ∷ []) (set done p true)
done_mark j h e p done here once x = (
  length-set done p true ∙ x.0,
  λ q l. elim (cases_eq p q) [
    | inl s ↦
        subst (λ (r : ℕ). slice_get (set done p true) r ≡ Some (is_some (done_place (h ++ e ∷ []) r))) s
        (get_set_same done p true (let k = x.0 in omega arith)
        ∙ ap (λ o. Some (is_some o)) (sym (place_comes (is_done_by p) h e (here p ∙ eq-eqb p p refl) once)))
    | inr ne ↦
        get_set_other done p q true ne ∙ x.1 q l
        ∙ ap (λ o. Some (is_some o)) (sym (place_stays (is_done_by q) h e (here q ∙ ne_eqb p q ne)))
  ],
)

frame_same : (n : ℕ) (products : List Static) (h : History) (e : Entry) (frame : Images) → turns_by products h (turns_of products h) e ≡ [] → After n (turns_of products h) frame → After n (turns_of products (h ++ e ∷ [])) frame
frame_same n products h e frame quiet x = subst (λ (t : List Turn). After n t frame) (sym (turns_quiet products h e quiet)) x

-- ---- the pool
pub pool_push : (h : History) (e : Entry) (pool : Pooled) → Recounts pool (steps h ++ steps_in e) (taken_states h ++ states_in e) → Recounts pool (steps (h ++ e ∷ [])) (taken_states (h ++ e ∷ []))
pool_push h e pool r =
    let a : steps (h ++ e ∷ []) ≡ steps h ++ steps_in e = flat_map-append steps_in h (e ∷ []) ∙ ap (λ x. steps h ++ x) (append-nil (steps_in e)) in
    let b : taken_states (h ++ e ∷ []) ≡ taken_states h ++ states_in e = flat_map-append states_in h (e ∷ []) ∙ ap (λ x. taken_states h ++ x) (append-nil (states_in e)) in
    subst (λ (x : List ℕ). Recounts pool x (taken_states (h ++ e ∷ []))) (sym a) (subst (λ (y : List ℕ). Recounts pool (steps h ++ steps_in e) y) (sym b) r)

pub pool_quiet : (h : History) (e : Entry) (pool : Pooled) → steps_in e ≡ [] → states_in e ≡ [] → Recounts pool (steps h) (taken_states h) → Recounts pool (steps (h ++ e ∷ [])) (taken_states (h ++ e ∷ []))
pool_quiet h e pool none none' r =
    pool_push h e pool
    (subst (λ (x : List ℕ). Recounts pool x (taken_states h ++ states_in e)) (sym (ap (λ (x : List ℕ). steps h ++ x) none ∙ append-nil (steps h)))
    (subst (λ (y : List ℕ). Recounts pool (steps h) y) (sym (ap (λ (x : List ℕ). taken_states h ++ x) none' ∙ append-nil (taken_states h))) r))

-- the states that a claim takes
pub claim_states : (p : ℕ) (axis : Signed) (through state : Option ℕ) (cells : List ℕ) → states_in (Claim p axis through state cells) ≡ option_to_list state
claim_states p axis through None cells = refl
claim_states p axis through (Some s) cells = refl

-- ---- a release
abbrev pub after_release : Tables → ℕ → ℕ → Standing → List (Option ℕ) → Tables
after_release t p place st holders = record t { holders = holders; standings = set t.standings p (record st { release = Some place }) }

pub release_keeps : (j : BoardJob) (h : History) (p : ℕ) (t : Tables) (st : Standing) (holders : List (Option ℕ)) → Kept j h t → Allowed j h (Release p) → slice_get t.standings p ≡ Some st → p < length j.products → length holders ≡ length t.holders → ((c : ℕ) → slice_get holders c ≡ option_map (without p) (slice_get t.holders c)) → Kept j (h ++ Release p ∷ []) (after_release t p (length h) st holders)
release_keeps j h p t st holders k a at l size freed =
    let is = same_Some st (standing_of h p) (sym at ∙ k.standings.1 p l) in
    let e = Release p in
    record {
      limits = k.limits;
      sound = k.sound;
      open_for = k.open_for;
      letters = k.letters;
      legal = legal_next j h (Release p) k.legal a;
      order = k.order;
      frame = frame_same k.limits.qubits j.products h (Release p) t.frame refl k.frame;
      done = done_same j h (Release p) t.done (λ q. refl) k.done;
      standings =
          standings_set j h (Release p) t.standings p (record st { release = Some (length h) })
          (standing_released h p a.1 ∙ ap (λ (s : Standing). record s { release = Some (length h) }) (sym is))
          (λ q ne. standing_same h (Release p) q refl refl (ne_eqb p q ne)) k.standings;
      holders = holders_release j h p t.holders holders k.legal a size freed k.holders;
      bits = bits_same j h (Release p) t.bits (λ b q w. refl) k.bits;
      reach = k.reach;
      fails = k.fails;
      pool = pool_quiet h (Release p) t.pool refl refl k.pool;
      makers = k.makers;
      scratch = k.scratch;
    }

-- ---- a claim
abbrev pub after_claim : Tables → ℕ → ℕ → Standing → List (Option ℕ) → Pooled → Tables
after_claim t p place st holders pool = record t { holders = holders; pool = pool; standings = set t.standings p (record st { claim = Some place }) }

pub claim_keeps : (j : BoardJob) (h : History) (p : ℕ) (axis : Signed) (through state : Option ℕ) (cells : List ℕ) (t : Tables) (st : Standing) (holders : List (Option ℕ)) (pool : Pooled) → Kept j h t → Allowed j h (Claim p axis through state cells) → slice_get t.standings p ≡ Some st → p < length j.products → Taken (ClaimCell j.grid axis through cells) p t.holders holders → pool.fails ≡ t.pool.fails → pool.makers ≡ t.pool.makers → Recounts pool (steps h) (taken_states h ++ option_to_list state) → Kept j (h ++ Claim p axis through state cells ∷ []) (after_claim t p (length h) st holders pool)
claim_keeps j h p axis through state cells t st holders pool k a at l taken same_fails same_makers recounts =
    let is = same_Some st (standing_of h p) (sym at ∙ k.standings.1 p l) in
    record {
      limits = k.limits;
      sound = k.sound;
      open_for = k.open_for;
      letters = k.letters;
      legal = legal_next j h (Claim p axis through state cells) k.legal a;
      order = k.order;
      frame = frame_same k.limits.qubits j.products h (Claim p axis through state cells) t.frame refl k.frame;
      done = done_same j h (Claim p axis through state cells) t.done (λ q. refl) k.done;
      standings =
          standings_set j h (Claim p axis through state cells) t.standings p (record st { claim = Some (length h) })
          (standing_claimed h p axis through state cells a.unclaimed ∙ ap (λ (s : Standing). record s { claim = Some (length h) }) (sym is))
          (λ q ne. standing_same h (Claim p axis through state cells) q (ne_eqb p q ne) refl refl) k.standings;
      holders = holders_claim j h p axis through state cells t.holders holders k.legal a taken k.holders;
      bits = bits_same j h (Claim p axis through state cells) t.bits (λ b q w. refl) k.bits;
      reach = k.reach;
      fails = same_fails ∙ k.fails;
      pool = pool_push h (Claim p axis through state cells) pool (subst (λ (x : List ℕ). Recounts pool (steps h ++ []) (taken_states h ++ x)) (sym (claim_states p axis through state cells)) (subst (λ (x : List ℕ). Recounts pool x (taken_states h ++ option_to_list state)) (sym (append-nil (steps h))) recounts));
      makers = λ f store. subst (λ (m : List Maker). HasStore j.grid f store ↔ ((store_of m f ≡ store) × (0 < store))) (sym same_makers) (k.makers f store);
      scratch = k.scratch;
    }

-- ---- a factory's step
pub step_keeps : (j : BoardJob) (h : History) (f : ℕ) (t : Tables) (pool : Pooled) → Kept j h t → Allowed j h (entry.Step f) → pool.fails ≡ t.pool.fails → pool.makers ≡ t.pool.makers → Recounts pool (steps h ++ f ∷ []) (taken_states h) → Kept j (h ++ entry.Step f ∷ []) (record t { pool = pool })
step_keeps j h f t pool k a same_fails same_makers recounts = record {
  limits = k.limits;
  sound = k.sound;
  open_for = k.open_for;
  letters = k.letters;
  legal = legal_next j h (entry.Step f) k.legal a;
  order = k.order;
  frame = frame_same k.limits.qubits j.products h (entry.Step f) t.frame refl k.frame;
  done = done_same j h (entry.Step f) t.done (λ q. refl) k.done;
  standings = standings_same j h (entry.Step f) t.standings (λ q. standing_same h (entry.Step f) q refl refl refl) k.standings;
  holders = holders_same j h (entry.Step f) t.holders (λ q c. holds_after j h (entry.Step f) q c k.legal a) k.holders;
  bits = bits_same j h (entry.Step f) t.bits (λ b q w. refl) k.bits;
  reach = k.reach;
  fails = same_fails ∙ k.fails;
  pool = pool_push h (entry.Step f) pool (subst (λ (x : List ℕ). Recounts pool (steps h ++ f ∷ []) x) (sym (append-nil (taken_states h))) recounts);
  makers = λ g store. subst (λ (m : List Maker). HasStore j.grid g store ↔ ((store_of m g ≡ store) × (0 < store))) (sym same_makers) (k.makers g store);
  scratch = k.scratch;
}

-- ---- a delivery or a settling
abbrev pub after_done : Tables → ℕ → ℕ → Standing → Images → List Written → Signed → Tables
after_done t p place st frame bits scratch =
    record t { frame = frame; done = set t.done p true; standings = set t.standings p (record st { deliver = Some place }); bits = bits; scratch = scratch }

other_kind : (j : BoardJob) (b p q : ℕ) (s : Static) → slice_get j.products p ≡ Some s → ((c : ℕ) → s.kind ≡ kind.Measure c → ⊥) → WritesBit j b q → (p == q) ≡ false
other_kind j b p q s e no_bit w = ne_eqb p q (λ same. no_bit b (ap (λ (x : Static). x.kind) (same_Some s w.0 (sym e ∙ ap (slice_get j.products) same ∙ w.1)) ∙ w.2))

-- a product that is no measurement leaves the bits
pub bits_deliver : (j : BoardJob) (h : History) (p : ℕ) (g : Given) (s : Static) (bits : List Written) → slice_get j.products p ≡ Some s → ((c : ℕ) → s.kind ≡ kind.Measure c → ⊥) → BitsAre j h bits → BitsAre j (h ++ Deliver p g ∷ []) bits
bits_deliver j h p g s bits e no_bit x = bits_same j h (Deliver p g) bits (λ b q w. other_kind j b p q s e no_bit w) x

pub deliver_keeps : (j : BoardJob) (h : History) (p : ℕ) (g : Given) (axis : Signed) (t : Tables) (st : Standing) (frame : Images) (bits : List Written) (scratch : Signed) → (k : Kept j h t) → Allowed j h (Deliver p g) → slice_get t.standings p ≡ Some st → claimed_axis h p ≡ Some axis → After k.limits.qubits (turns_of j.products h ++ rotation_turns axis g) frame → BitsAre j (h ++ Deliver p g ∷ []) bits → length bits ≡ length t.bits → OfLength k.limits.qubits scratch → Kept j (h ++ Deliver p g ∷ []) (after_done t p (length h) st frame bits scratch)
deliver_keeps j h p g axis t st frame bits scratch k a at claimed corrected written size fits =
    let l = slice_get_within j.products p a.2.0 a.2.1 in
    let is = same_Some st (standing_of h p) (sym at ∙ k.standings.1 p l) in
    record {
      limits = k.limits;
      sound = k.sound;
      open_for = k.open_for;
      letters = k.letters;
      legal = legal_next j h (Deliver p g) k.legal a;
      order = k.order;
      frame = subst (λ (t : List Turn). After k.limits.qubits t frame) (sym (turns_deliver j.products h p axis g claimed)) corrected;
      done = done_mark j h (Deliver p g) p t.done (λ q. refl) a.1 k.done;
      standings =
          standings_set j h (Deliver p g) t.standings p (record st { deliver = Some (length h) })
          (standing_done h p (Deliver p g) refl (eq-eqb p p refl) refl a.1 ∙ ap (λ (s : Standing). record s { deliver = Some (length h) }) (sym is))
          (λ q ne. standing_same h (Deliver p g) q refl (ne_eqb p q ne) refl) k.standings;
      holders = holders_same j h (Deliver p g) t.holders (λ q c. holds_after j h (Deliver p g) q c k.legal a) k.holders;
      bits = written;
      reach = rw size k.reach;
      fails = k.fails;
      pool = pool_quiet h (Deliver p g) t.pool refl refl k.pool;
      makers = k.makers;
      scratch = fits;
    }

pub settle_keeps : (j : BoardJob) (h : History) (p : ℕ) (flip : Bool) (s : Static) (t : Tables) (st : Standing) (frame : Images) (scratch : Signed) → (k : Kept j h t) → Allowed j h (Settle p flip) → slice_get t.standings p ≡ Some st → slice_get j.products p ≡ Some s → After k.limits.qubits (turns_of j.products h ++ turn_if flip (carry (turns_of j.products h) s.axis) half) frame → OfLength k.limits.qubits scratch → Kept j (h ++ Settle p flip ∷ []) (after_done t p (length h) st frame t.bits scratch)
settle_keeps j h p flip s t st frame scratch k a at e corrected fits =
    let l = slice_get_within j.products p s e in
    let is = same_Some st (standing_of h p) (sym at ∙ k.standings.1 p l) in
    let no_bit : (c : ℕ) → s.kind ≡ kind.Measure c → ⊥ = λ c m. settle_measure a.2.1 a.2.2 a.2.3 c (sym a.2.5 ∙ ap (λ (x : Static). x.kind) (same_Some a.2.0 s (sym a.2.4 ∙ e)) ∙ m) in
    record {
      limits = k.limits;
      sound = k.sound;
      open_for = k.open_for;
      letters = k.letters;
      legal = legal_next j h (Settle p flip) k.legal a;
      order = k.order;
      frame = subst (λ (t : List Turn). After k.limits.qubits t frame) (sym (turns_settle j.products h p flip s e)) corrected;
      done = done_mark j h (Settle p flip) p t.done (λ q. refl) a.0 k.done;
      standings =
          standings_set j h (Settle p flip) t.standings p (record st { deliver = Some (length h) })
          (standing_done h p (Settle p flip) refl (eq-eqb p p refl) refl a.0 ∙ ap (λ (s : Standing). record s { deliver = Some (length h) }) (sym is))
          (λ q ne. standing_same h (Settle p flip) q refl (ne_eqb p q ne) refl) k.standings;
      holders = holders_same j h (Settle p flip) t.holders (λ q c. holds_after j h (Settle p flip) q c k.legal a) k.holders;
      bits = bits_same j h (Settle p flip) t.bits (λ b q w. other_kind j b p q s e no_bit w) k.bits;
      reach = k.reach;
      fails = k.fails;
      pool = pool_quiet h (Settle p flip) t.pool refl refl k.pool;
      makers = k.makers;
      scratch = fits;
    }
  where
    settle_measure : (first size value c : ℕ) → kind.Settle first size value ≡ kind.Measure c → ⊥
    settle_measure first size value c m = cc
