use Rattle.std.proofs.Common.{rules, ◌≡◌, ap, sym, ◌∙◌, subst}
use Rattle.number_share.specs.declared.view.View.{View}
use Rattle.number_share.specs.inside.Plays.{Sat}
use Rattle.number_share.specs.Hands.{Owner}
use Rattle.number_share.proofs.Keeps.{joins}
use Rattle.number_share.proofs.Ends.{all_front, all_last, StandsFor, stands_first, stands_more}
use Rattle.number_share.proofs.share.join.Goals as goal

pub loop-hand-init : goal.loop-hand-init
loop-hand-init c =
    let is = c.in-Some.ensures.items in
    let of = all_last (λ (h : Owner). h.share ≡ c.args.core.now.table_id) _ _ _ is c.requires.hands in
    let view = c.first.view_is in
    record {
      seat = (ap (λ (h : Owner). h.share) view ∙ of, c.first.invariant.no_slot);
      hands = all_front (λ (h : Owner). h.share ≡ c.args.core.now.table_id) _ _ _ is c.requires.hands;
      stands = stands_first _ _ _ _ _ _ _ c.first.invariant (ap (λ (h : Owner). h.past) view) (ap (λ (h : Owner). h.held) view) (ap (λ (h : Owner). h.left) view) _ _ is;
    }

pub join_seat-requires : goal.join_seat-requires
join_seat-requires c =
    let is = c.in-Some-pop.ensures.items in
    let of = all_last (λ (h : Owner). h.share ≡ c.args.core.now.table_id) _ _ _ is c.loop-hand.invariant.hands in (
      search rules,
      ap (λ (h : Owner). h.share) c.hand.view_is ∙ of,
      c.hand.invariant.no_slot,
      search rules,
      joins _ _ _ _ _ _ c.loop-hand.invariant.stands.live,
    )

pub loop-hand-preserved : goal.loop-hand-preserved
loop-hand-preserved c =
    let is = c.in-Some-pop.ensures.items in
    let view = c.hand.view_is in
    let me = c.join_seat.ensures.2 in
    record {
      seat = (c.join_seat.ensures.0 ∙ c.loop-hand.invariant.seat.0, ap (λ (m : Sat). m.1) me ∙ c.loop-hand.invariant.seat.1);
      hands = all_front (λ (h : Owner). h.share ≡ c.args.core.now.table_id) _ _ _ is c.loop-hand.invariant.hands;
      stands = subst (λ (v : View). StandsFor c.args.hands.items c.pop-in-loop-hand.new.self.items v) (sym (ap (λ (m : Sat). m.0) me))
          (stands_more _ _ _ _ _ _ _ c.hand.invariant (ap (λ (h : Owner). h.past) view) (ap (λ (h : Owner). h.held) view) (ap (λ (h : Owner). h.left) view) _ _ _ _ c.loop-hand.invariant.stands is);
    }
