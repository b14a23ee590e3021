-- What a line makes of the circuit so far, and the first rule that it breaks.
use Rattle.std.proofs.Common.{◌≡◌, ◌≢◌, ℕ, ◌+◌, ◌<◌, ◌≤◌, nat_le, Bool, true, false, List, [], ◌∷◌, ◌++◌, length, All, if◌then◌else◌, Option, Some, None, IfSome, IfNone, Result, Ok, Err, refl, sym, ◌∙◌, ap, subst}
use Rattle.std.specs.Option.{is_some}
use Rattle.std.specs.Str.{bytes_eq}
use Rattle.std.proofs.lemmas.List.Elements.{All-head, All-tail}
use Rattle.std.proofs.lemmas.Bool.{eq-eqb, ne_eqb, le-leb, lt-leb, lt-ltb, le-ltb}
use Rattle.pauli_product.specs.Signed.{Signed}
use Rattle.qasm_lex.specs.Tokens.{Fails}
use Rattle.qasm_lex.specs.declared.fault.CircuitFault.{CircuitFault}
use Rattle.qasm_lex.specs.declared.fault.CircuitFault.TheVariants as fault
use Rattle.qasm_lex.specs.declared.fault.FaultKind.{FaultKind}
use Rattle.qasm_lex.specs.declared.fault.FaultKind.TheVariants.{Syntax, Declared, Undeclared, Index, Sizes, TooMany}
use Rattle.source_model.specs.declared.Angle.TheVariants.{Eighth}
use Rattle.source_model.specs.declared.Circuit.{Circuit}
use Rattle.source_model.specs.declared.Item.{Item}
use Rattle.source_model.specs.declared.Item.TheVariants as item
use Rattle.source_model.specs.declared.Register.{Register}
use Rattle.source_model.specs.Circuits.{bits_in}
use Rattle.product_list.specs.declared.line.Ending.{Ending as EndingFound}
use Rattle.product_list.specs.declared.line.Ending.TheVariants as endings
use Rattle.product_list.specs.declared.line.Line.{Line as LineFound}
use Rattle.product_list.specs.declared.line.Line.TheVariants as lines
use Rattle.product_list.specs.inside.Lines.{said, ending_said}
use Rattle.product_list.specs.ListText.{axis_in_text, named, unless, item_for, hidden_after, at_line, with_item, with_product, with_register, with_line}

broken : {X : Type 0} (b : Bool) (kind : FaultKind) (next : Result X FaultKind) → b ≡ true → unless b kind next ≡ Err kind
broken b kind next e = rw e refl

kept : {X : Type 0} (b : Bool) (kind : FaultKind) (next : Result X FaultKind) → b ≡ false → unless b kind next ≡ next
kept b kind next e = rw e refl

-- ---- items
pub item_rotation : (c : Circuit) (axis : Signed) (e : EndingFound) → e ≡ endings.Rotation → item_for c axis (ending_said e) ≡ Ok (item.Turn axis Eighth)
unfolding item_for
item_rotation c axis e h = rw h refl

pub item_hidden : (c : Circuit) (axis : Signed) (e : EndingFound) (bits hidden : ℕ) → e ≡ endings.Hidden → bits ≡ bits_in c.registers → hidden ≡ c.hidden → item_for c axis (ending_said e) ≡ Ok (item.Measure axis (bits + hidden))
unfolding item_for
item_hidden c axis e bits hidden h f g = rw (h, f, g) refl

pub item_unnamed : (c : Circuit) (axis : Signed) (e : EndingFound) (rs : List Register) → rs ≡ c.registers → (name : _) (index : ℕ) → e ≡ endings.Measurement name index → named rs name.now ≡ None → item_for c axis (ending_said e) ≡ Err Undeclared
unfolding item_for
item_unnamed c axis e rs same name index h f = rw (h, ← same, f) refl

pub item_past : (c : Circuit) (axis : Signed) (e : EndingFound) (rs : List Register) → rs ≡ c.registers → (name : _) (index : ℕ) (r : Register) → e ≡ endings.Measurement name index → named rs name.now ≡ Some r → r.size ≤ index → item_for c axis (ending_said e) ≡ Err Index
unfolding item_for
item_past c axis e rs same name index r h f l = rw (h, ← same, f) (broken (nat_le r.size index) Index (Ok (item.Measure axis (r.first + index))) (le-leb r.size index l))

pub item_measured : (c : Circuit) (axis : Signed) (e : EndingFound) (rs : List Register) → rs ≡ c.registers → (name : _) (index : ℕ) (r : Register) → e ≡ endings.Measurement name index → named rs name.now ≡ Some r → index < r.size → item_for c axis (ending_said e) ≡ Ok (item.Measure axis (r.first + index))
unfolding item_for
item_measured c axis e rs same name index r h f l = rw (h, ← same, f) (kept (nat_le r.size index) Index (Ok (item.Measure axis (r.first + index))) (lt-leb r.size index l))

pub item_unsettled : (c : Circuit) (axis : Signed) (e : EndingFound) (rs : List Register) → rs ≡ c.registers → (name : _) (value : ℕ) → e ≡ endings.Settled name value → named rs name.now ≡ None → item_for c axis (ending_said e) ≡ Err Undeclared
unfolding item_for
item_unsettled c axis e rs same name value h f = rw (h, ← same, f) refl

pub item_settled : (c : Circuit) (axis : Signed) (e : EndingFound) (rs : List Register) → rs ≡ c.registers → (name : _) (value : ℕ) (r : Register) → e ≡ endings.Settled name value → named rs name.now ≡ Some r → item_for c axis (ending_said e) ≡ Ok (item.If axis r.first r.size value)
unfolding item_for
item_settled c axis e rs same name value r h f = rw (h, ← same, f) refl

pub item_unreset : (c : Circuit) (axis : Signed) (e : EndingFound) (number : ℕ) → e ≡ endings.Reset number → c.hidden ≤ number → item_for c axis (ending_said e) ≡ Err Index
unfolding item_for
item_unreset c axis e number h l = rw h (broken (nat_le c.hidden number) Index (Ok (item.If axis (bits_in c.registers + number) 1 1)) (le-leb c.hidden number l))

pub item_reset : (c : Circuit) (axis : Signed) (e : EndingFound) (number bits : ℕ) → e ≡ endings.Reset number → number < c.hidden → bits ≡ bits_in c.registers → item_for c axis (ending_said e) ≡ Ok (item.If axis (bits + number) 1 1)
unfolding item_for
item_reset c axis e number bits h l same = rw (h, same) (kept (nat_le c.hidden number) Index (Ok (item.If axis (bits_in c.registers + number) 1 1)) (lt-leb c.hidden number l))

-- ---- products
pub product_put : (c : Circuit) (axis : Signed) (e : EndingFound) (i : Item) (items : List Item) (hidden : ℕ) → item_for c axis (ending_said e) ≡ Ok i → items ≡ c.items ++ i ∷ [] → hidden ≡ hidden_after c.hidden (ending_said e) → with_product c axis (ending_said e) ≡ Ok (record c { items = items; hidden = hidden })
unfolding with_product
product_put c axis e i items hidden h f g = rw (h, f, g) refl

same_err : {X : Type 0} (r : Result X CircuitFault) (f g : CircuitFault) → r ≡ Err f → r ≡ Err g → f ≡ g
same_err r f g d e = let k = sym d ∙ e in cc

same_ok : {X : Type 0} (r : Result X CircuitFault) (x y : X) → r ≡ Ok x → r ≡ Ok y → x ≡ y
same_ok r x y d e = let k = sym d ∙ e in cc

go_err : (n : ℕ) (k : FaultKind) (line : ℕ) (kind : FaultKind) → at_line {X = Item} n (Err k) ≡ Err (fault.At line kind) → at_line {X = Circuit} n (Err k) ≡ Err (fault.At line kind)
go_err n k line kind h = ap (λ x. Err x) (same_err (at_line {X = Item} n (Err k)) (fault.At n k) (fault.At line kind) refl h)

pub at_ok : {X : Type 0} (n : ℕ) (r : Result X FaultKind) (x : X) → at_line n r ≡ Ok x → r ≡ Ok x
at_ok n (Ok y) x h = ap (λ z. Ok z) (same_ok (at_line n (Ok y)) y x refl h)
at_ok n (Err k) x h = absurd (cc)

within_step : (most : ℕ) (x : Register) (xs : List Register) (name : List ℕ) (r : Register) → All (λ y. y.first + y.size ≤ most) (x ∷ xs) → (named xs name ≡ Some r → r.first + r.size ≤ most) → (b : Bool) → (if b then Some x else named xs name) ≡ Some r → r.first + r.size ≤ most
within_step most x xs name r h rest true f = let same : x ≡ r = cc in let P : Register → Type 0 = λ y. y.first + y.size ≤ most in subst P same (All-head P x xs h)
within_step most x xs name r h rest false f = rest f

-- a register that is found by its name
pub named_within : (most : ℕ) (rs : List Register) (name : List ℕ) (r : Register) → All (λ x. x.first + x.size ≤ most) rs → named rs name ≡ Some r → r.first + r.size ≤ most
named_within most [] name r h e = absurd (cc)
named_within most (x ∷ xs) name r h e = within_step most x xs name r h (named_within most xs name r (All-tail (λ y. y.first + y.size ≤ most) x xs h)) (bytes_eq x.name name) e

pub found_some : {X : Type 0} (r : Option X) (f : X → Register) (o : Option Register) → IfSome r (λ x. o ≡ Some (f x)) → IfNone r (o ≡ None) → is_some r ≡ is_some o
found_some (Some x) f o h k = sym (ap is_some h)
found_some None f o h k = sym (ap is_some k)

pub product_fails : (n : ℕ) (c : Circuit) (axis : Signed) (e : EndingFound) (f : CircuitFault) → Fails f (at_line n (item_for c axis (ending_said e))) → Fails f (at_line n (with_product c axis (ending_said e)))
unfolding with_product
product_fails n c axis e fault.Memory h = tt
product_fails n c axis e (fault.At line kind) h = go (item_for c axis (ending_said e)) h
  where
    go : (r : Result Item FaultKind) → at_line n r ≡ Err (fault.At line kind) → at_line n (with_item c (ending_said e) r) ≡ Err (fault.At line kind)
    go (Ok i) h = absurd (let k : Ok i ≡ Err (fault.At line kind) = h in cc)
    go (Err k) h = go_err n k line kind h

-- ---- registers
pub register_late : (c : Circuit) (name : List ℕ) (size : ℕ) → (length c.items ≡ 0 → ⊥) → with_register c name size ≡ Err Syntax
unfolding with_register
register_late c name size h = rw (ne_eqb (length c.items) 0 h) refl

pub register_many : (c : Circuit) (name : List ℕ) (size : ℕ) → length c.items ≡ 0 → 64 ≤ length c.registers → with_register c name size ≡ Err TooMany
unfolding with_register
register_many c name size h l = rw (eq-eqb (length c.items) 0 h, le-leb 64 (length c.registers) l) refl

pub register_wide : (c : Circuit) (name : List ℕ) (size : ℕ) → length c.items ≡ 0 → length c.registers < 64 → 16384 < bits_in c.registers + size → with_register c name size ≡ Err TooMany
unfolding with_register
register_wide c name size h k l = rw (eq-eqb (length c.items) 0 h, lt-leb 64 (length c.registers) k, lt-ltb 16384 (bits_in c.registers + size) l) refl

pub record MayFollow (c : Circuit) (size : ℕ) : Type 0 where
  pub early : length c.items ≡ 0
  pub few : length c.registers < 64
  pub fits : bits_in c.registers + size ≤ 16384

pub register_void : (c : Circuit) (name : List ℕ) (size : ℕ) → MayFollow c size → size ≡ 0 → with_register c name size ≡ Err Sizes
unfolding with_register
register_void c name size m z = rw (eq-eqb (length c.items) 0 m.early, lt-leb 64 (length c.registers) m.few, le-ltb 16384 (bits_in c.registers + size) m.fits, eq-eqb size 0 z) refl

pub register_again : (c : Circuit) (name : List ℕ) (size : ℕ) → MayFollow c size → (size ≡ 0 → ⊥) → is_some (named c.registers name) ≡ true → with_register c name size ≡ Err Declared
unfolding with_register
register_again c name size m z e = rw (eq-eqb (length c.items) 0 m.early, lt-leb 64 (length c.registers) m.few, le-ltb 16384 (bits_in c.registers + size) m.fits, ne_eqb size 0 z, e) refl

register_more : (c : Circuit) (name : List ℕ) (size : ℕ) → MayFollow c size → (size ≡ 0 → ⊥) → is_some (named c.registers name) ≡ false → with_register c name size ≡ Ok (record c { registers = c.registers ++ record { name = name; first = bits_in c.registers; size = size } ∷ [] })
unfolding with_register
register_more c name size m z e = rw (eq-eqb (length c.items) 0 m.early, lt-leb 64 (length c.registers) m.few, le-ltb 16384 (bits_in c.registers + size) m.fits, ne_eqb size 0 z, e) refl

pub register_put : (c : Circuit) (name : List ℕ) (size : ℕ) (made : List ℕ) (bits : ℕ) (rs : List Register) → MayFollow c size → (size ≡ 0 → ⊥) → is_some (named c.registers name) ≡ false → made ≡ name → bits ≡ bits_in c.registers → rs ≡ c.registers ++ record { name = made; first = bits; size = size } ∷ [] → with_register c name size ≡ Ok (record c { registers = rs })
register_put c name size made bits rs m z e f g h =
    let one : List ℕ → ℕ → Register = λ n b. record { name = n; first = b; size = size } in
    register_more c name size m z e ∙ ap (λ xs. Ok (record c { registers = xs })) (sym (h ∙ ap (λ n. c.registers ++ one n bits ∷ []) f ∙ ap (λ b. c.registers ++ one name b ∷ []) g))

-- ---- lines
pub line_register : (c : Circuit) (l : LineFound) (name : _) (size : ℕ) → l ≡ lines.Register name size → with_line c (said l) ≡ with_register c name.now size
unfolding with_line
line_register c l name size h = rw h refl

pub line_many : (c : Circuit) (l : LineFound) (axis : _) (e : EndingFound) → l ≡ lines.Product axis e → 16384 ≤ length c.items → with_line c (said l) ≡ Err TooMany
unfolding with_line
line_many c l axis e h k = rw (h, le-leb 16384 (length c.items) k) refl

pub line_sizes : (c : Circuit) (l : LineFound) (axis : _) (e : EndingFound) → l ≡ lines.Product axis e → length c.items < 16384 → length (axis_in_text axis.now).letters ≢ c.qubits → with_line c (said l) ≡ Err Sizes
unfolding with_line
line_sizes c l axis e h k f = rw (h, lt-leb 16384 (length c.items) k, ne_eqb (length (axis_in_text axis.now).letters) c.qubits f) refl

pub line_product : (c : Circuit) (l : LineFound) (axis : _) (e : EndingFound) (p : Signed) → l ≡ lines.Product axis e → length c.items < 16384 → p ≡ axis_in_text axis.now → length p.letters ≡ c.qubits → with_line c (said l) ≡ with_product c p (ending_said e)
unfolding with_line
line_product c l axis e p h k same f = rw (h, ← same, lt-leb 16384 (length c.items) k, eq-eqb (length p.letters) c.qubits f) refl
