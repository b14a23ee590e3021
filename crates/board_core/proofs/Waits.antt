-- What the order of waiting says is what the history waits for.
use Rattle.std.proofs.Common.{◌≡◌, ℕ, ◌+◌, ◌<◌, Bool, true, false, ◌&&◌, not, nat_le, nat_lt, List, [], length, Option, Some, None, is_some, option_map, slice_get, slice_index_or, refl, ap, ap₂, sym, ◌∙◌, arith}
use Rattle.std.proofs.lemmas.Bool.{true≢false, and_right, le-ltb}
use Rattle.std.proofs.lemmas.Option.{same_Some, slice_get-map, get_or_from_slice_get}
use Rattle.pauli_product.specs.Signed.{plus, commute}
use Rattle.source_model.specs.declared.Kind.{Kind}
use Rattle.source_model.specs.declared.Kind.TheVariants as kind
use Rattle.source_model.specs.declared.Static.{Static}
use Rattle.source_model.specs.Statics as statics
use Rattle.commute_order.specs.declared.Uses.{Uses}
use Rattle.commute_order.specs.Commuting as order
use Rattle.commute_order.specs.Commuting.{commuting_at}
use Rattle.board_core.specs.History.{History, done_place}
use Rattle.board_core.specs.Legal.{BoardJob, Ready}
use Rattle.board_core.specs.View.{WaitsOn, LeastWait}
use Rattle.board_core.specs.Uses.{bits_used_by, all_axes, all_uses}
use Rattle.board_core.specs.inside.Uses.{DoneAre}
use Rattle.board_core.proofs.Tables.{entry_of}

none_below : (bit : ℕ) → (nat_le 0 bit && nat_lt bit (0 + 0)) ≡ false
none_below bit = and_right (nat_le 0 bit) (nat_lt bit (0 + 0)) (le-ltb bit (0 + 0) (omega arith))

same_reads : (k l : Kind) → order.reads_from (bits_used_by k) (bits_used_by l) ≡ statics.reads_from k l
same_reads k kind.Rotation = refl
same_reads k (kind.Settle first size value) = refl
same_reads kind.Rotation (kind.Measure bit) = none_below bit
same_reads (kind.Measure b) (kind.Measure bit) = none_below bit
same_reads (kind.Settle first size value) (kind.Measure bit) = refl

same_commuting : (s t : Static) → order.commuting s.axis (bits_used_by s.kind) t.axis (bits_used_by t.kind) ≡ statics.commuting s t
same_commuting s t = ap₂ (λ x y. commute s.axis t.axis && not x && not y) (same_reads s.kind t.kind) (same_reads t.kind s.kind)

-- of two products by number
pub commuting_numbers : (products : List Static) (p q : ℕ) (s t : Static) → slice_get products p ≡ Some s → slice_get products q ≡ Some t → order.commuting_at (all_axes products) (all_uses products) p q ≡ statics.commuting s t
unfolding commuting_at
commuting_numbers products p q s t e f =
    let none : Uses = record { read_first = 0; read_size = 0; write = None } in
    let a : slice_index_or (all_axes products) p (plus []) ≡ s.axis = get_or_from_slice_get (all_axes products) p s.axis (plus []) (slice_get-map (λ (x : Static). x.axis) products p ∙ ap (option_map (λ (x : Static). x.axis)) e) in
    let b : slice_index_or (all_axes products) q (plus []) ≡ t.axis = get_or_from_slice_get (all_axes products) q t.axis (plus []) (slice_get-map (λ (x : Static). x.axis) products q ∙ ap (option_map (λ (x : Static). x.axis)) f) in
    let u : slice_index_or (all_uses products) p none ≡ bits_used_by s.kind = get_or_from_slice_get (all_uses products) p (bits_used_by s.kind) none (slice_get-map (λ (x : Static). bits_used_by x.kind) products p ∙ ap (option_map (λ (x : Static). bits_used_by x.kind)) e) in
    let v : slice_index_or (all_uses products) q none ≡ bits_used_by t.kind = get_or_from_slice_get (all_uses products) q (bits_used_by t.kind) none (slice_get-map (λ (x : Static). bits_used_by x.kind) products q ∙ ap (option_map (λ (x : Static). bits_used_by x.kind)) f) in
    ap₂ (λ x y. order.commuting x (slice_index_or (all_uses products) p none) y (slice_index_or (all_uses products) q none)) a b
    ∙ ap₂ (λ x y. order.commuting s.axis x t.axis y) u v
    ∙ same_commuting s t

not_some : (o : Option ℕ) → is_some o ≡ false → o ≡ None
not_some None e = refl
not_some (Some k) e = absurd (true≢false e)

module _ (j : BoardJob) (h : History) (done : List Bool) (p : ℕ) (within : p < length j.products) (are : DoneAre j h done) where
  waits_to : (q : ℕ) → order.WaitsOn (all_axes j.products) (all_uses j.products) done p q → WaitsOn j.products h p q
  waits_to q w =
      let l = w.earlier in
      let s = entry_of j.products q (let in_range = within in omega arith) in
      let t = entry_of j.products p within in (
        w.earlier,
        s.0,
        t.0,
        s.1,
        t.1,
        sym (commuting_numbers j.products q p s.0 t.0 s.1 t.1) ∙ w.clash,
        not_some (done_place h q) (same_Some (is_some (done_place h q)) false (sym (are.1 q (let in_range = within in omega arith)) ∙ w.undone)),
      )

  waits_from : (q : ℕ) → WaitsOn j.products h p q → order.WaitsOn (all_axes j.products) (all_uses j.products) done p q
  waits_from q w = record {
    earlier = w.0;
    clash = commuting_numbers j.products q p w.1 w.2 w.3 w.4 ∙ w.5;
    undone = are.1 q (let in_range = within in let l = w.0 in omega arith) ∙ ap (λ o. Some (is_some o)) w.6;
  }

  pub least_wait : (o : Option ℕ) → order.LeastWait (all_axes j.products) (all_uses j.products) done p o → LeastWait j.products h p o
  least_wait None l = λ q w. l q (waits_from q w)
  least_wait (Some q) l = (waits_to q l.0, λ r m w. l.1 r m (waits_from r w))

-- what waits on none is ready
pub ready_of : (j : BoardJob) (h : History) (p : ℕ) → LeastWait j.products h p None → Ready j h p
ready_of j h p least q s t l e f c = go (done_place h q) refl
  where
    go : (o : Option ℕ) → done_place h q ≡ o → is_some (done_place h q) ≡ true
    go None n = absurd (least q (l, s, t, e, f, c, n))
    go (Some k) n = ap is_some n
