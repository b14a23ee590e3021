use Rattle.std.proofs.Common.{◌≡◌, ℕ, ◌+◌, ◌<◌, ◌≤◌, List, [], ◌∷◌, ◌++◌, length, get_or, set, subst, sym, ap, ◌∙◌, arith, All}
use Rattle.std.proofs.lemmas.List.{length_push, with_items_is}
use Rattle.std.proofs.lemmas.List.Elements.{All-push}
use Rattle.layer_pass.specs.declared.draft.Low.{Low}
use Rattle.layer_pass.specs.inside.Drafts.{IsPlace, IsFilled, IsDraft}
use Rattle.layer_pass.specs.inside.Lows.{IsLow, marked}
use Rattle.layer_pass.proofs.Rows.{filled_more, rows_more, rows_grow}
use Rattle.layer_pass.proofs.Placing.{draft_more}
use Rattle.layer_pass.proofs.Sets.{lows_more, marked_within}
use Rattle.layer_pass.proofs.draft.place_all.Goals as goal

pub loop-p-preserved : goal.loop-p-preserved
loop-p-preserved c =
    let m = c.loop-p.invariant in
    let p = c.loop-p.p in
    let n = c.args.n in
    let layer = c.loop-p.layer.items in
    let before = c.loop-p.before.items in
    let rows = c.loop-p.rows.items in
    let lows = c.loop-p.lows.items in
    let below = c.place_of-place.result.below in
    let blocker = c.place_of-place.result.blocker in
    let new = c.put.new.rows.items in
    let sets = c.mark_lows.new.lows in
    let layers : c.push.new.self.items ≡ layer ++ (below + 1) ∷ [] = c.in_ok-push.ensures.items in
    let blockers : c.push-in-loop-p.new.self.items ≡ before ++ blocker ∷ [] = c.in_ok-push-2.ensures.items in
    let low : below ≤ length rows = subst (λ (r : List (List ℕ)). below ≤ length r) c.deref-in-loop-p.ensures.value c.place_of-place.ensures.low in
    let behind : below < length rows → new ≡ set rows below (get_or rows below [] ++ p ∷ []) = c.in_ok-put.ensures.old in
    let above : below ≡ length rows → new ≡ rows ++ (p ∷ []) ∷ [] = c.in_ok-put.ensures.new in
    let grow = rows_grow rows new below (get_or rows below [] ++ p ∷ []) (p ∷ []) low behind above in
    let as_many : length sets ≡ length lows = c.mark_lows.ensures.size ∙ ap length c.deref_mut.ensures.value in
    let each : (k : ℕ) (d : Low) → k < length lows → get_or sets k d ≡ marked below p (get_or lows k d) =
    subst (λ (ls : List Low). (k : ℕ) (d : Low) → k < length ls → get_or sets k d ≡ marked below p (get_or ls k d)) c.deref_mut.ensures.value c.mark_lows.ensures.each in
    let back = with_items_is c.loop-p.lows sets (as_many ∙ sym c.loop-p.lows.ok.0) in
    let inside : length layer < n = omega (arith, m.layers) in
    let kept : All (IsLow (layer ++ (below + 1) ∷ []) n) sets =
    lows_more layer n below inside lows sets as_many
    (subst (λ q. (k : ℕ) (d : Low) → k < length lows → get_or sets k d ≡ marked below q (get_or lows k d)) (sym m.layers) each) m.lows in
    let kept' : All (IsLow c.deref-in-loop-p-3.result.now n) sets = subst (λ (l : List ℕ). All (IsLow l n) sets) (sym (c.deref-in-loop-p-3.ensures.value ∙ layers)) kept in
    record {
      layers = ap length layers ∙ length_push layer (below + 1) ∙ ap (λ q. q + 1) m.layers;
      blockers = ap length blockers ∙ length_push before blocker ∙ ap (λ q. q + 1) m.blockers;
      rows = omega (arith, rows_more rows new below (get_or rows below [] ++ p ∷ []) (p ∷ []) low behind above, m.rows);
      before = subst (All (λ j. j < n)) (sym blockers) (All-push (λ j. j < n) before blocker m.before (let e = c.place_of-place.ensures.earlier in omega arith));
      filled =
          subst (λ (l : List ℕ). IsFilled l new) (sym layers)
          (filled_more layer rows m.filled below new low
          (subst (λ q. below < length rows → new ≡ set rows below (get_or rows below [] ++ q ∷ [])) (sym m.layers) behind)
          (subst (λ q. below ≡ length rows → new ≡ rows ++ (q ∷ []) ∷ []) (sym m.layers) above));
      within =
          c.in_ok-add_low.ensures.within (length new) grow.1
          (subst (All (λ (l : Low). l.row < length new)) (sym back)
          (marked_within below p (length rows) (length new) lows sets grow.0 as_many each m.within));
      lows =
          subst (λ (l : List ℕ). All (IsLow l n) c.add_low.new.lows.items) c.deref-in-loop-p-3.ensures.value
          (c.in_ok-add_low.ensures.lows (subst (All (IsLow c.deref-in-loop-p-3.result.now n)) (sym back) kept'));
      draft = λ ps us order.
          let told = subst (λ (r : List (List ℕ)). IsPlace ps us r p below blocker) c.deref-in-loop-p.ensures.value (c.place_of-place.ensures.place ps us order) in
          let place = subst (λ q. IsPlace ps us rows q below blocker) (sym m.layers) told in
          subst (λ (l : List ℕ). IsDraft ps us l c.push-in-loop-p.new.self.items) (sym layers)
          (subst (IsDraft ps us (layer ++ (below + 1) ∷ [])) (sym blockers)
          (draft_more ps us layer before rows below blocker (m.draft ps us order) m.filled low (m.blockers ∙ sym m.layers) place));
    }
