use Rattle.std.proofs.Common.{◌≡◌, List, [], ◌∷◌, ◌++◌, length, Ok, sym, ◌∙◌, ap, arith}
use Rattle.std.specs.Option.{is_some}
use Rattle.std.proofs.lemmas.Bool.{eqb-true, eqb-false}
use Rattle.source_model.specs.declared.Circuit.{Circuit}
use Rattle.source_model.specs.declared.Register.{Register}
use Rattle.source_model.specs.Circuits.{bits_in}
use Rattle.product_list.specs.ListText.{at_line, named}
use Rattle.product_list.proofs.Ruling.{found_some, register_late, register_many, register_wide, register_void, register_again, register_put}
use Rattle.product_list.proofs.draft.Draft.put_register.Goals as goal

pub returns-then-not-is_empty : goal.returns-then-not-is_empty
returns-then-not-is_empty c =
    rw c.at.ensures (ap (at_line c.args.number) (register_late c.args.self.now c.args.name.now c.args.size
    (λ none. let e : length c.self.inside.items.items ≡ length c.args.self.now.items = ap (λ (d : Circuit). length d.items) c.self.view_is in eqb-false _ _ (sym c.if-not-is_empty.ensures) (omega (arith, c.self.inside.items.ok.0)))))

pub returns-then-len-ge-MOST_REGISTERS : goal.returns-then-len-ge-MOST_REGISTERS
returns-then-len-ge-MOST_REGISTERS c =
    rw c.at-then-len-ge-MOST_REGISTERS.ensures (ap (at_line c.args.number) (register_many c.args.self.now c.args.name.now c.args.size
    (let e : length c.self.inside.items.items ≡ length c.args.self.now.items = ap (λ (d : Circuit). length d.items) c.self.view_is in omega (arith, c.self.inside.items.ok.0, eqb-true _ _ (sym c.if-not-is_empty.ensures)))
    (let f : length c.self.inside.registers.items ≡ length c.args.self.now.registers = ap (λ (d : Circuit). length d.registers) c.self.view_is in omega (arith, c.self.inside.registers.ok.0, c.len.ensures, c.if-len-ge-MOST_REGISTERS.true))))

pub returns-then-size-self : goal.returns-then-size-self
returns-then-size-self c =
    rw c.at-then-size-self.ensures (ap (at_line c.args.number) (register_wide c.args.self.now c.args.name.now c.args.size
    (let e : length c.self.inside.items.items ≡ length c.args.self.now.items = ap (λ (d : Circuit). length d.items) c.self.view_is in omega (arith, c.self.inside.items.ok.0, eqb-true _ _ (sym c.if-not-is_empty.ensures)))
    (let f : length c.self.inside.registers.items ≡ length c.args.self.now.registers = ap (λ (d : Circuit). length d.registers) c.self.view_is in omega (arith, c.self.inside.registers.ok.0, c.len.ensures, c.if-len-ge-MOST_REGISTERS.false))
    (let g : bits_in c.self.inside.registers.items ≡ bits_in c.args.self.now.registers = ap (λ (d : Circuit). bits_in d.registers) c.self.view_is in let n = c.self.invariant.counted in let m = c.self.invariant.few_bits in omega (arith, c.if-size-self.true))))

pub returns-then-size-eq0 : goal.returns-then-size-eq0
returns-then-size-eq0 c = rw c.at-then-size-eq0.ensures (ap (at_line c.args.number) (register_void c.args.self.now c.args.name.now c.args.size (
    let e : length c.self.inside.items.items ≡ length c.args.self.now.items = ap (λ (d : Circuit). length d.items) c.self.view_is in
    let f : length c.self.inside.registers.items ≡ length c.args.self.now.registers = ap (λ (d : Circuit). length d.registers) c.self.view_is in
    let g : bits_in c.self.inside.registers.items ≡ bits_in c.args.self.now.registers = ap (λ (d : Circuit). bits_in d.registers) c.self.view_is in
    let n = c.self.invariant.counted in
    let m = c.self.invariant.few_bits in
    record {
      early = omega (arith, c.self.inside.items.ok.0, eqb-true _ _ (sym c.if-not-is_empty.ensures));
      few = omega (arith, c.self.inside.registers.ok.0, c.len.ensures, c.if-len-ge-MOST_REGISTERS.false);
      fits = omega (arith, c.if-size-self.false);
    }) c.if-size-eq0.true))

pub returns-then-is_some : goal.returns-then-is_some
returns-then-is_some c =
    rw c.at-then-is_some.ensures (ap (at_line c.args.number) (register_again c.args.self.now c.args.name.now c.args.size (
    let e : length c.self.inside.items.items ≡ length c.args.self.now.items = ap (λ (d : Circuit). length d.items) c.self.view_is in
    let f : length c.self.inside.registers.items ≡ length c.args.self.now.registers = ap (λ (d : Circuit). length d.registers) c.self.view_is in
    let g : bits_in c.self.inside.registers.items ≡ bits_in c.args.self.now.registers = ap (λ (d : Circuit). bits_in d.registers) c.self.view_is in
    let n = c.self.invariant.counted in
    let m = c.self.invariant.few_bits in
    record {
      early = omega (arith, c.self.inside.items.ok.0, eqb-true _ _ (sym c.if-not-is_empty.ensures));
      few = omega (arith, c.self.inside.registers.ok.0, c.len.ensures, c.if-len-ge-MOST_REGISTERS.false);
      fits = omega (arith, c.if-size-self.false);
    }) c.if-size-eq0.false
    (ap (λ (rs : List Register). is_some (named rs c.args.name.now)) (sym (c.deref.ensures.value ∙ ap (λ (d : Circuit). d.registers) c.self.view_is)) ∙ sym (found_some c.find_register.result (λ r. r.now) (named c.deref.result.now c.args.name.now) c.find_register.ensures.some c.find_register.ensures.none) ∙ sym c.if-is_some.ensures)))

pub returns : goal.returns
returns c =
    ap (at_line c.args.number) (register_put c.args.self.now c.args.name.now c.args.size c.in_ok-new.field-0 c.self.inside.bits c.push.new.self.items (
    let e : length c.self.inside.items.items ≡ length c.args.self.now.items = ap (λ (d : Circuit). length d.items) c.self.view_is in
    let f : length c.self.inside.registers.items ≡ length c.args.self.now.registers = ap (λ (d : Circuit). length d.registers) c.self.view_is in
    let g : bits_in c.self.inside.registers.items ≡ bits_in c.args.self.now.registers = ap (λ (d : Circuit). bits_in d.registers) c.self.view_is in
    let n = c.self.invariant.counted in
    let m = c.self.invariant.few_bits in
    record {
      early = omega (arith, c.self.inside.items.ok.0, eqb-true _ _ (sym c.if-not-is_empty.ensures));
      few = omega (arith, c.self.inside.registers.ok.0, c.len.ensures, c.if-len-ge-MOST_REGISTERS.false);
      fits = omega (arith, c.if-size-self.false);
    }) c.if-size-eq0.false
    (ap (λ (rs : List Register). is_some (named rs c.args.name.now)) (sym (c.deref.ensures.value ∙ ap (λ (d : Circuit). d.registers) c.self.view_is)) ∙ sym (found_some c.find_register.result (λ r. r.now) (named c.deref.result.now c.args.name.now) c.find_register.ensures.some c.find_register.ensures.none) ∙ sym c.if-is_some.ensures)
    c.in_ok-new.ensures (c.self.invariant.counted ∙ ap (λ (d : Circuit). bits_in d.registers) c.self.view_is)
    (c.in_ok-push.ensures.items ∙ ap (λ (d : Circuit). d.registers ++ record { name = c.in_ok-new.field-0; first = c.self.inside.bits; size = c.args.size } ∷ []) c.self.view_is))
    ∙ ap (λ (d : Circuit). Ok (record d { registers = c.push.new.self.items })) (sym c.self.view_is)
