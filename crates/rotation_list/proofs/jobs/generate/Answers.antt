use Rattle.std.proofs.Common.{◌+◌, ◌≤◌, All, length, refl, ◌∙◌, subst, sym}
use Rattle.source_model.specs.Circuits.{WellFormed, kinds}
use Rattle.source_model.specs.declared.Circuit.{Circuit}
use Rattle.product_list.specs.Listable.{AxisHasLetter}
use Rattle.rotation_list.proofs.Making.{big_few, big_formed, big_letters}
use Rattle.rotation_list.proofs.Drawing.{circuit_is, outcomes_are}
use Rattle.rotation_list.proofs.jobs.generate.Goals as goal

pub returns-clause-circuit : goal.returns-clause-circuit
returns-clause-circuit c = circuit_is c.args.n 8 0 _ _ refl refl (c.of.ensures ∙ c.in_ok-registers.ensures) (c.of-2.ensures ∙ c.in_ok-items.ensures.items)

pub returns-clause-formed : goal.returns-clause-formed
returns-clause-formed c = subst WellFormed (sym (circuit_is c.args.n 8 0 _ _ refl refl (c.of.ensures ∙ c.in_ok-registers.ensures) (c.of-2.ensures ∙ c.in_ok-items.ensures.items))) (big_formed c.args.n)

pub returns-clause-few : goal.returns-clause-few
returns-clause-few c = subst (λ (d : Circuit). length (kinds d.items) ≤ c.args.n + 8) (sym (circuit_is c.args.n 8 0 _ _ refl refl (c.of.ensures ∙ c.in_ok-registers.ensures) (c.of-2.ensures ∙ c.in_ok-items.ensures.items))) (big_few c.args.n)

pub returns-clause-letters : goal.returns-clause-letters
returns-clause-letters c = subst (λ (d : Circuit). All AxisHasLetter d.items) (sym (circuit_is c.args.n 8 0 _ _ refl refl (c.of.ensures ∙ c.in_ok-registers.ensures) (c.of-2.ensures ∙ c.in_ok-items.ensures.items))) (big_letters c.args.n)

pub returns-clause-layout : goal.returns-clause-layout
returns-clause-layout c = c.of-3.ensures ∙ c.in_ok-layout.ensures

pub returns-clause-outcomes : goal.returns-clause-outcomes
returns-clause-outcomes c = c.of-4.ensures ∙ outcomes_are c.args.n c.in_ok-items.last _ _ (c.deref.ensures.value ∙ c.in_ok-items.ensures.items) c.in_ok-items.ensures.last c.in_ok-outcomes.ensures
