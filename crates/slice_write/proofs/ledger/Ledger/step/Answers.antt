use Rattle.std.proofs.Common.{◌≡◌, ◌+◌, [], ◌∷◌, ◌++◌, length, get_or, true, false, sym, ap, ◌∙◌, arith, refl, List, ℕ}
use Rattle.std.specs.Prelude.{if◌then◌else◌}
use Rattle.std.proofs.lemmas.List.{get_or_read}
use Rattle.slice_write.specs.declared.factory.Factory.{Factory}
use Rattle.slice_write.specs.inside.Factories.{makes}
use Rattle.slice_write.proofs.ledger.Ledger.step.Goals as goal

pub returns-in_ok-push-3-clause-notes : goal.returns-in_ok-push-3-clause-notes
returns-in_ok-push-3-clause-notes c = λ d.
    let x = get_or c.args.self.now.factories.items c.args.factory d in
    let is : c.index_mut-this.result.now ≡ x = get_or_read c.args.self.now.factories.items c.args.factory c.index_mut-this.result.now c.requires.known c.index_mut-this.ensures.value d in
    let made : makes x ≡ true = ap makes (sym is) ∙ sym c.advance.ensures.made ∙ c.if-advance.true in
    let states : c.len.result ≡ length c.args.self.now.made.items = omega (arith, c.len.ensures, c.args.self.now.made.ok.0) in
    record {
      factory = (
        _,
        record {
          steps = c.advance.ensures.steps ∙ ap (λ (y : Factory). y.steps + 1) is;
          last = c.advance.ensures.last;
          own = c.in_ok-push.ensures.items ∙ ap (λ (l : List ℕ). l ++ c.len.result ∷ []) (c.advance.ensures.own ∙ ap (λ (y : Factory). y.own.items) is) ∙ ap (λ n. x.own.items ++ n ∷ []) states ∙ sym (ap (λ b. if b then (x.own.items ++ length c.args.self.now.made.items ∷ []) else x.own.items) made);
          failing = c.advance.ensures.failing ∙ ap (λ (y : Factory). y.failing.items) is;
        },
        refl,
      );
      made = c.in_ok-push-2.ensures.items ∙ sym (ap (λ b. if b then (c.args.self.now.made.items ++ (1 + c.max-slice.result) ∷ []) else c.args.self.now.made.items) made);
      taken = c.in_ok-push-3.ensures.items ∙ sym (ap (λ b. if b then (c.args.self.now.taken.items ++ 0 ∷ []) else c.args.self.now.taken.items) made);
      cells = refl;
      claims = refl;
      placed = refl;
    }

pub returns-else-advance-clause-notes : goal.returns-else-advance-clause-notes
returns-else-advance-clause-notes c = λ d.
    let x = get_or c.args.self.now.factories.items c.args.factory d in
    let is : c.index_mut-this.result.now ≡ x = get_or_read c.args.self.now.factories.items c.args.factory c.index_mut-this.result.now c.requires.known c.index_mut-this.ensures.value d in
    let made : makes x ≡ false = ap makes (sym is) ∙ sym c.advance.ensures.made ∙ c.if-advance.false in
    record {
      factory = (
        _,
        record {
          steps = c.advance.ensures.steps ∙ ap (λ (y : Factory). y.steps + 1) is;
          last = c.advance.ensures.last;
          own = c.advance.ensures.own ∙ ap (λ (y : Factory). y.own.items) is ∙ sym (ap (λ b. if b then (x.own.items ++ length c.args.self.now.made.items ∷ []) else x.own.items) made);
          failing = c.advance.ensures.failing ∙ ap (λ (y : Factory). y.failing.items) is;
        },
        refl,
      );
      made = sym (ap (λ b. if b then (c.args.self.now.made.items ++ (1 + c.max-slice.result) ∷ []) else c.args.self.now.made.items) made);
      taken = sym (ap (λ b. if b then (c.args.self.now.taken.items ++ 0 ∷ []) else c.args.self.now.taken.items) made);
      cells = refl;
      claims = refl;
      placed = refl;
    }
