-- A settled product that waits on none flips by the bits that are written so far.
use Rattle.std.proofs.Common.{◌≡◌, ℕ, zero, suc, ◌+◌, ◌-◌, ◌<◌, ◌≤◌, inl, inr, Bool, true, false, ◌==◌, ◌&&◌, not, nat_le, nat_lt, List, length, take, Option, Some, None, is_some, IsSome, slice_get, refl, ap, ap₂, sym, ◌∙◌, arith, eq-eqb}
use Rattle.std.specs.Option.{unwrap_or}
use Rattle.std.proofs.lemmas.Bool.{cases_Bool, cases_order, eqb-false, and_from, and_right, and_left, le-leb, lt-ltb, true≢false, eqb-true, false_from_ne_true}
use Rattle.std.proofs.lemmas.Option.{same_Some, slice_get_within}
use Rattle.pauli_product.specs.Signed.{Signed, commute}
use Rattle.pauli_product.specs.Bits.{number_of}
use Rattle.pauli_product.specs.Pulls.{pull}
use Rattle.pauli_product.specs.Corrections.{effective}
use Rattle.source_model.specs.declared.Given.{Given}
use Rattle.source_model.specs.declared.Kind.{Kind}
use Rattle.source_model.specs.declared.Kind.TheVariants as kind
use Rattle.source_model.specs.declared.Static.{Static}
use Rattle.source_model.specs.Outcomes.{raw_of, bit_of}
use Rattle.source_model.specs.SourceRun.{fresh, progress_after}
use Rattle.source_model.specs.Statics.{static_items, commuting}
use Rattle.trace_laws.specs.Steps.{Step, act_writes}
use Rattle.trace_laws.specs.Runs.{Trace, executed_axis, bit_after_step, bit_below, plain, plain_next}
use Rattle.trace_laws.proofs.Agree.{numbers_agree}
use Rattle.trace_laws.proofs.Plain.{source_axis_at}
use Rattle.board_core.specs.History.{History, delivered, done_place, known, zero_of}
use Rattle.board_core.specs.Legal.{BoardJob, FlipOf, Ready, Legal}
use Rattle.board_core.specs.Orders.{act_of, steps_of}
use Rattle.board_core.specs.Laws.{ProductsOfLength}
use Rattle.board_core.specs.inside.BitsNow.{WritesBit, HasOutcome, LastWritten}
use Rattle.board_core.proofs.SourceOrder.{step_at, tied_behind, axes_of_source}
use Rattle.board_core.proofs.Tables.{known_length, known_at, step_with, entry_of}
use Rattle.board_core.proofs.LegalOrder.{known_agrees, legal_claims}
use Rattle.board_core.proofs.Places.{delivered_done, done_stands}
use Rattle.board_core.proofs.Frame.{waited_done}

-- ---- a settled product doesn't commute with what writes its bits
not_both : (x y z : Bool) → z ≡ true → (x && not y && not z) ≡ false
not_both x y true e = and_right (x && not y) false refl
not_both x y false e = absurd (true≢false (sym e))

not_first : (x y z : Bool) → y ≡ true → (x && not y && not z) ≡ false
not_first x true z e = and_left (x && false) (not z) (and_right x false refl)
not_first x false z e = absurd (true≢false (sym e))

reads_bit : (first size b : ℕ) → first ≤ b → b < first + size → (nat_le first b && nat_lt b (first + size)) ≡ true
reads_bit first size b l m = and_from (nat_le first b) (nat_lt b (first + size)) (le-leb first b l) (lt-ltb b (first + size) m)

-- the writer stands before or behind the settled product
reader_waits : (w s : Static) (b first size value : ℕ) → w.kind ≡ kind.Measure b → s.kind ≡ kind.Settle first size value → first ≤ b → b < first + size → commuting w s ≡ false
reader_waits w s b first size value e f l m = rw (e, f) (not_both (commute w.axis s.axis) false (nat_le first b && nat_lt b (first + size)) (reads_bit first size b l m))

writer_waits : (s w : Static) (b first size value : ℕ) → w.kind ≡ kind.Measure b → s.kind ≡ kind.Settle first size value → first ≤ b → b < first + size → commuting s w ≡ false
writer_waits s w b first size value e f l m = rw (e, f) (not_first (commute s.axis w.axis) (nat_le first b && nat_lt b (first + size)) false (reads_bit first size b l m))

-- ---- the bits in source order
-- what doesn't write the bit is passed over
skipped : (steps : List Step) (done : List (ℕ × Signed)) (b m k : ℕ) → ((q : ℕ) (s : Step) → m ≤ q → q < m + k → slice_get steps q ≡ Some s → act_writes s.act b ≡ false) → bit_below steps done (m + k) b ≡ bit_below steps done m b
skipped steps done b m zero h = ap (λ n. bit_below steps done n b) (let e : m + zero ≡ m = omega arith in e)
skipped steps done b m (suc k) h =
    ap (λ n. bit_below steps done n b) (let e : m + suc k ≡ suc (m + k) = omega arith in e)
    ∙ one (slice_get steps (m + k)) refl
    ∙ skipped steps done b m k (λ q s l u e. h q s l (omega arith) e)
  where
    none : (s : Step) (x : Option Signed) (before : Bool) → act_writes s.act b ≡ false → bit_after_step (Some s) x b before ≡ before
    none s None before w = refl
    none s (Some a) before w = rw w refl

    one : (o : Option Step) → slice_get steps (m + k) ≡ o → bit_after_step o (executed_axis done (m + k)) b (bit_below steps done (m + k) b) ≡ bit_below steps done (m + k) b
    one None e = refl
    one (Some s) e = none s (executed_axis done (m + k)) (bit_below steps done (m + k) b) (h (m + k) s (omega arith) (omega arith) e)

-- the axis of a product below m
plain_other : (steps : List Step) (t : Trace) (m p : ℕ) (o : Option Step) → (m == p) ≡ false → executed_axis (plain_next steps t m o).axes p ≡ executed_axis t.axes p
plain_other steps t m p None e = refl
plain_other steps t m p (Some s) e = rw e refl

plain_below : (steps : List Step) (m p : ℕ) (s : Step) → p < m → slice_get steps p ≡ Some s → executed_axis (plain steps m).axes p ≡ Some (pull (plain steps p).turns s.axis)
plain_below steps zero p s l e = absurd (omega arith)
plain_below steps (suc m) p s l e =
    elim (cases_Bool (m == p)) [
      | inl f ↦ rw (eqb-true m p f, e, eq-eqb p p refl) refl
      | inr f ↦ plain_other steps (plain steps m) m p (slice_get steps m) f ∙ plain_below steps m p s (let ne = eqb-false m p f in omega arith) e
    ]

writes_measure : (k : Kind) (g : Given) (b : ℕ) → act_writes (act_of k g) b ≡ true → k ≡ kind.Measure b
writes_measure kind.Rotation g b e = absurd (true≢false (sym e))
writes_measure (kind.Measure bit) g b e = ap kind.Measure (eqb-true bit b e)
writes_measure (kind.Settle first size value) g b e = absurd (true≢false (sym e))

-- ---- one bit
module _ (n : ℕ) (j : BoardJob) (h : History) (p : ℕ) (s : Static) (first size value : ℕ) (long : ProductsOfLength n j.products) (legal : Legal j h) (there : slice_get j.products p ≡ Some s) (is : s.kind ≡ kind.Settle first size value) (once : done_place h p ≡ None) (ready : Ready j h p) where
  within : p < length j.products
  within = slice_get_within j.products p s there

  step_of : (q : ℕ) (w : Static) → slice_get j.products q ≡ Some w → slice_get (steps_of j.products (known j.products h)) q ≡ Some (step_at w.axis w.kind (unwrap_or (delivered h q) (zero_of w.kind)))
  step_of q w e = step_with j.products (known j.products h) q w (unwrap_or (delivered h q) (zero_of w.kind)) e (known_at j.products h q w e)

  -- an earlier writer of a bit that p reads is done
  writer_done : (b q : ℕ) → first ≤ b → b < first + size → q < p → WritesBit j b q → IsSome (done_place h q)
  writer_done b q l m k w = ready q w.0 s k w.1 there (reader_waits w.0 s b first size value w.2 is l m)

  -- and no later one is
  writer_before : (b q : ℕ) → first ≤ b → b < first + size → WritesBit j b q → IsSome (done_place h q) → q < p
  writer_before b q l m w d =
      elim (cases_order q p) [
        | inl e ↦ absurd (no_settle w.0.kind (ap (λ (x : Static). x.kind) (same_Some w.0 s (sym w.1 ∙ ap (slice_get j.products) e ∙ there)) ∙ is) w.2)
        | inr (inl k) ↦ k
        | inr (inr k) ↦ absurd (true≢false (sym (done_stands h p ∙ waited_done n j h p q s w.0 long legal k there w.1 (writer_waits s w.0 b first size value w.2 is l m) (inr d)) ∙ ap is_some once))
      ]
    where
      no_settle : (k : Kind) → k ≡ kind.Settle first size value → k ≡ kind.Measure b → ⊥
      no_settle k e f = differ (sym e ∙ f)
        where
          differ : kind.Settle first size value ≡ kind.Measure b → ⊥
          differ e = cc

  -- what doesn't write the bit, where each writer below p is at most q
  silent : (b q : ℕ) (k : ℕ) (st : Step) → ((r : ℕ) → r < p → WritesBit j b r → r ≤ q) → q < k → k < p → slice_get (steps_of j.products (known j.products h)) k ≡ Some st → act_writes st.act b ≡ false
  silent b q k st most l m e =
      let w = entry_of j.products k (let in_range = within in omega arith) in
      let g = unwrap_or (delivered h k) (zero_of w.0.kind) in
      let is_step = same_Some (step_at w.0.axis w.0.kind g) st (sym (step_of k w.0 w.1) ∙ e) in
      false_from_ne_true (act_writes st.act b) (λ t.
      let kd : w.0.kind ≡ kind.Measure b = writes_measure w.0.kind g b (ap (λ (x : Step). act_writes x.act b) is_step ∙ t) in
      let least : k ≤ q = most k m (w.0, w.1, kd) in
      absurd (omega arith))

  silent_all : (b : ℕ) (k : ℕ) (st : Step) → ((r : ℕ) → r < p → WritesBit j b r → ⊥) → k < p → slice_get (steps_of j.products (known j.products h)) k ≡ Some st → act_writes st.act b ≡ false
  silent_all b k st none m e =
      let w = entry_of j.products k (let in_range = within in omega arith) in
      let g = unwrap_or (delivered h k) (zero_of w.0.kind) in
      let is_step = same_Some (step_at w.0.axis w.0.kind g) st (sym (step_of k w.0 w.1) ∙ e) in
      false_from_ne_true (act_writes st.act b) (λ t. none k m (w.0, w.1, writes_measure w.0.kind g b (ap (λ (x : Step). act_writes x.act b) is_step ∙ t)))

  -- the bit at the last writer
  at_writer : (b q : ℕ) (v : Bool) → WritesBit j b q → HasOutcome h q v → q < p → bit_below (steps_of j.products (known j.products h)) (plain (steps_of j.products (known j.products h)) p).axes (suc q) b ≡ v
  at_writer b q v w o l =
      let gs = known j.products h in
      let st = step_at w.0.axis w.0.kind (unwrap_or (delivered h q) (zero_of w.0.kind)) in
      let here = step_of q w.0 w.1 in
      let own = plain_below (steps_of j.products gs) p q st l here in
      let same : Some (pull (plain (steps_of j.products gs) q).turns w.0.axis) ≡ Some o.0 =
      sym (source_axis_at (steps_of j.products gs) q st here) ∙ sym (axes_of_source j.products gs q w.0 (known_length j.products h) w.1)
      ∙ legal_claims n j gs long (known_length j.products h) h q o.0 legal (known_agrees j h legal) o.2 in
      ap₂ (λ (x : Option Step) (y : Option Signed). bit_after_step x y b (bit_below (steps_of j.products gs) (plain (steps_of j.products gs) p).axes q b)) here (own ∙ same)
      ∙ ap₂ (λ (k : Kind) (y : Option Given). bit_after_step (Some (step_at w.0.axis k (unwrap_or y (zero_of k)))) (Some o.0) b (bit_below (steps_of j.products gs) (plain (steps_of j.products gs) p).axes q b)) w.2 o.3
      ∙ written (eq-eqb b b refl) (bit_below (steps_of j.products gs) (plain (steps_of j.products gs) p).axes q b)
      ∙ sym o.4
    where
      written : (b == b) ≡ true → (before : Bool) → bit_after_step (Some (step_at w.0.axis (kind.Measure b) o.1)) (Some o.0) b before ≡ effective o.0 (raw_of o.1)
      written e before = rw e refl

  settled_bit : (b : ℕ) (by : Option ℕ) (v : Bool) → first ≤ b → b < first + size → LastWritten j h b by v → bit_below (steps_of j.products (known j.products h)) (plain (steps_of j.products (known j.products h)) p).axes p b ≡ v
  settled_bit b None v l m x =
      ap (λ z. bit_below (steps_of j.products (known j.products h)) (plain (steps_of j.products (known j.products h)) p).axes z b) (let e : p ≡ zero + p = omega arith in e)
      ∙ skipped (steps_of j.products (known j.products h)) (plain (steps_of j.products (known j.products h)) p).axes b zero p
      (λ k st u t e. silent_all b k st (λ r c w. true≢false (sym (writer_done b r l m c w) ∙ ap is_some (x.0 r w))) (omega arith) e)
      ∙ sym x.1
  settled_bit b (Some q) v l m x =
      let done_q : IsSome (done_place h q) = done_stands h q ∙ delivered_done h q (ap is_some x.1.3) in
      let k : q < p = writer_before b q l m x.0 done_q in
      let far : suc q + (p - suc q) ≡ p = omega arith in
      ap (λ z. bit_below (steps_of j.products (known j.products h)) (plain (steps_of j.products (known j.products h)) p).axes z b) (sym far)
      ∙ skipped (steps_of j.products (known j.products h)) (plain (steps_of j.products (known j.products h)) p).axes b (suc q) (p - suc q)
      (λ r st u t e. silent b q r st (λ i c w. x.2 i w (writer_done b i l m c w)) (omega arith) (omega arith) e)
      ∙ at_writer b q v x.0 x.1 k

  -- the flip by the bits written so far
  pub settled_flip : (bits : ℕ → Bool) → ((b : ℕ) → first ≤ b → b < first + size → (by : Option ℕ) × LastWritten j h b by (bits b)) → FlipOf j h p (number_of bits first size == value)
  settled_flip bits known_bits =
      let t = tied_behind j.products (known j.products h) p (known_length j.products h) (let in_range = within in omega arith) in (
        s,
        first,
        size,
        value,
        there,
        is,
        ap (λ m. m == value) (numbers_agree (bit_of (progress_after fresh (static_items (take p j.products)) (known j.products h)).writes) bits first size
            (λ b l m. t.bits b ∙ settled_bit b (known_bits b l m).0 (bits b) l m (known_bits b l m).1)),
      )
