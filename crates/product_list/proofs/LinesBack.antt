-- A printed product list is read line by line as the circuit that it was printed from.
use Rattle.std.proofs.Common.{◌≡◌, ◌⊎◌, ℕ, ◌+◌, ◌-◌, ◌<◌, ◌≤◌, ◌^◌, ◌==◌, ◌&&◌, nat_le, nat_lt, Bool, true, false, IsTrue, List, [], ◌∷◌, ◌++◌, length, codes, decimal, Some, None, Ok, refl, sym, ◌∙◌, ap, arith, append_assoc, append-nil, inl, inr}
use Rattle.std.specs.Prelude.{Any}
use Rattle.std.specs.List.{flat_map}
use Rattle.std.specs.Str.{bytes_eq}
use Rattle.std.proofs.lemmas.Bool.{false≢true, eq-eqb, ne_eqb, lt-leb, le-ltb}
use Rattle.std.proofs.lemmas.List.{length-append}
use Rattle.patch_base.specs.Names.{is_name}
use Rattle.patch_base.specs.Texts.{lines, spaced}
use Rattle.pauli_product.specs.Signed.{Signed, OfLength}
use Rattle.pauli_product.specs.Spelling.{product_text}
use Rattle.source_model.specs.declared.Angle.TheVariants.{Eighth}
use Rattle.source_model.specs.declared.Circuit.{Circuit}
use Rattle.source_model.specs.declared.Item.{Item}
use Rattle.source_model.specs.declared.Item.TheVariants as item
use Rattle.source_model.specs.declared.Kind.{Kind}
use Rattle.source_model.specs.declared.Kind.TheVariants as kind
use Rattle.source_model.specs.declared.Register.{Register}
use Rattle.source_model.specs.declared.Static.{Static}
use Rattle.source_model.specs.Circuits.{bits_in}
use Rattle.source_model.specs.Statics.{item_of, static_items}
use Rattle.product_list.specs.declared.line.Form.{Form}
use Rattle.product_list.specs.declared.line.Form.TheVariants as forms
use Rattle.product_list.specs.ListText.{Ending, rotation, measurement, hidden, settled, reset, Line, register, product, named, form_of, ending_of, line_of, item_for, hidden_after, with_product, with_register, with_line, with_text, with_lines, at_line}
use Rattle.product_list.specs.Printed.{register_with, register_of, product_words, line_text, register_text, product_line}
use Rattle.product_list.proofs.Plain.{Above-decimal, Above-name, Above-product, EachAbove, lines_back, words_back}
use Rattle.product_list.specs.Listable.{AreDeclared, IsNext}
use Rattle.product_list.proofs.Declared.{HasBit, HasSpan, IsOne, found_name, bit_there, bit_nowhere, named_found, span_there, span_nowhere}
use Rattle.product_list.proofs.Lettered.{has_other, axis_there, axis_back}
use Rattle.product_list.proofs.Texts.{text_line, lines_more}
use Rattle.product_list.proofs.Wording.{AreTwo, alone_some, ending_hidden, ending_measurement, ending_reset, ending_rotation, ending_settled, ended, line_product, line_register, pair_some, product_some}

-- what lines have made so far: registers, items and hidden bits
abbrev pub made : ℕ → List Register → List Item → ℕ → Circuit
made n rs items high = record { qubits = n; registers = rs; items = items; hidden = high }

-- a line of these words, and what it makes of a circuit
pub record LineMakes (two : Bool) (c d : Circuit) (ws : List (List ℕ)) : Type 0 where
  pub above : EachAbove ws
  pub reads : (number : ℕ) → with_text two number c (spaced ws) ≡ Ok d

said_makes : (two : Bool) (c d : Circuit) (key : ℕ) (w : List ℕ) (ws : List (List ℕ)) (l : Line) → (key == 35) ≡ false → EachAbove ((key ∷ []) ∷ w ∷ ws) → line_of two ((key ∷ []) ∷ w ∷ ws) ≡ Some l → with_line c l ≡ Ok d → LineMakes two c d ((key ∷ []) ∷ w ∷ ws)
said_makes two c d key w ws l other above said next = record {
  above = above;
  reads = λ number. text_line two number c (spaced ((key ∷ []) ∷ w ∷ ws)) l (λ same. absurd (false≢true (sym other ∙ eq-eqb key 35 same))) (ap (line_of two) (words_back (key ∷ []) (w ∷ ws) above) ∙ said) ∙ ap (at_line number) next;
}

line_on : (two : Bool) (number : ℕ) (c d : Circuit) (ws : List (List ℕ)) (rest : List ℕ) → LineMakes two c d ws → with_lines two number c (lines (line_text ws ++ rest)) ≡ with_lines two (number + 1) d (lines rest)
unfolding line_text
line_on two number c d ws rest h = lines_more two number c d (with_lines two number c (lines (line_text ws ++ rest))) (lines (line_text ws ++ rest)) (spaced ws) (lines rest) refl (lines_back ws rest h.above) (h.reads number)

-- ---- registers

next_register : (n : ℕ) (before : List Register) (r : Register) → IsNext before r → with_register (made n before [] 0) r.name r.size ≡ Ok (made n (before ++ r ∷ []) [] 0)
unfolding with_register
next_register n before r h =
    let few : nat_le 64 (length before) ≡ false = lt-leb 64 (length before) h.few in
    let bits : nat_lt 16384 (bits_in before + r.size) ≡ false = le-ltb 16384 (bits_in before + r.size) h.bits in
    let some : (r.size == 0) ≡ false = ne_eqb r.size 0 (λ e. let more = h.some in absurd (omega arith)) in
    let apart : named before r.name ≡ None = h.apart in
    let first : bits_in before ≡ r.first = sym h.first in
    rw (few, bits, some, apart) (ap (λ m. Ok (made n (before ++ record { name = r.name; first = m; size = r.size } ∷ []) [] 0)) first)

register_makes : (two : Bool) (n : ℕ) (before : List Register) (r : Register) → IsNext before r → LineMakes two (made n before [] 0) (made n (before ++ r ∷ []) [] 0) (codes "c" ∷ r.name ∷ decimal r.size ∷ [])
unfolding with_line
register_makes two n before r h =
    let bits = h.bits in
    let ws = r.name ∷ decimal r.size ∷ [] in
    let pair = pair_some ws r.name (decimal r.size) [] r.size (record { rest = decimal r.size ∷ []; first = refl; second = refl }) refl h.name (omega arith) refl in
    said_makes two (made n before [] 0) (made n (before ++ r ∷ []) [] 0) 99 r.name (decimal r.size ∷ []) (register r.name r.size) refl
    ((omega arith, tt), (Above-name r.name h.name, (Above-decimal r.size (omega arith), tt)))
    (line_register two (codes "c" ∷ ws) (codes "c") ws r.name r.size refl refl pair)
    (next_register n before r h)

-- registers are read, and the rest of the text is read on
pub registers_back : (two : Bool) (n number : ℕ) (before rs : List Register) (rest : List ℕ) → AreDeclared before rs → (m : ℕ) × (with_lines two number (made n before [] 0) (lines (flat_map register_text rs ++ rest)) ≡ with_lines two m (made n (before ++ rs) [] 0) (lines rest))
unfolding register_text
registers_back two n number before [] rest h = (number, ap (λ rs. with_lines two number (made n rs [] 0) (lines rest)) (sym (append-nil before)))
registers_back two n number before (r ∷ rs) rest h =
    let later = registers_back two n (number + 1) (before ++ r ∷ []) rs rest h.1 in
    let ws = codes "c" ∷ r.name ∷ decimal r.size ∷ [] in (
      later.0,
      ap (λ text. with_lines two number (made n before [] 0) (lines text)) (append_assoc (line_text ws) (flat_map register_text rs) rest)
          ∙ line_on two number (made n before [] 0) (made n (before ++ r ∷ []) [] 0) ws (flat_map register_text rs ++ rest) (register_makes two n before r h.0)
          ∙ later.1
          ∙ ap (λ all. with_lines two later.0 (made n all [] 0) (lines rest)) (append_assoc before (r ∷ []) rs),
    )

-- ---- products

-- an axis with a letter for each qubit, one of them other than I
pub record AxisFits (n : ℕ) (axis : Signed) : Type 0 where
  pub long : OfLength n axis
  pub other : has_other axis.letters ≡ true

-- a kind of product that a list has a line for, with the number of hidden bits before it and after it
abbrev pub KindFits : List Register → Bool → ℕ → ℕ → Kind → Type 0
KindFits rs two high next kind.Rotation = next ≡ high
KindFits rs two high next (kind.Measure bit) = ((bit < bits_in rs) × (next ≡ high)) ⊎ ((bit ≡ bits_in rs + high) × (two ≡ true) × (next ≡ high + 1))
KindFits rs two high next (kind.Settle first size value) =
    (two ≡ true) × (next ≡ high) × (value < 2 ^ 32) × (Any (IsOne first size) rs ⊎ ((bits_in rs ≤ first) × (size ≡ 1) × (value ≡ 1) × (first < bits_in rs + high)))

-- what reading products needs
pub record IsRoom (rs : List Register) (n high : ℕ) (done : List Item) : Type 0 where
  pub declared : AreDeclared [] rs
  pub few : length done < 16384
  pub few_hidden : high ≤ length done

put_item : (n : ℕ) (rs : List Register) (done : List Item) (high next : ℕ) (axis : Signed) (ending : Ending) (i : Item) → length done < 16384 → OfLength n axis → item_for (made n rs done high) axis ending ≡ Ok i → hidden_after high ending ≡ next → with_line (made n rs done high) (product axis ending) ≡ Ok (made n rs (done ++ i ∷ []) next)
unfolding with_line with_product
put_item n rs done high next axis ending i few long found behind =
    let room : nat_le 16384 (length done) ≡ false = lt-leb 16384 (length done) few in
    let fits : (length axis.letters == n) ≡ true = eq-eqb (length axis.letters) n long in
    rw (room, fits, found) (ap (λ m. Ok (made n rs (done ++ i ∷ []) m)) behind)

axis_said : (two : Bool) (key : List ℕ) (form : Form) (axis : Signed) (ws : List (List ℕ)) (e : Ending) → bytes_eq key (codes "c") ≡ false → form_of two key ≡ Some form → has_other axis.letters ≡ true → ending_of form ws ≡ Some e → line_of two (key ∷ product_text axis ∷ ws) ≡ Some (product axis e)
axis_said two key form axis ws e other named_form letters behind =
    line_product two (key ∷ product_text axis ∷ ws) key (product_text axis ∷ ws) form refl other named_form
    ∙ product_some form (product_text axis ∷ ws) (product_text axis) ws e refl (axis_there axis letters) behind
    ∙ ap (λ p. Some (product p e)) (axis_back axis)

form_rotation : (two : Bool) → form_of two (codes "r") ≡ Some forms.Rotation
unfolding form_of
form_rotation two = refl

form_measurement : (two : Bool) → form_of two (codes "m") ≡ Some forms.Measurement
unfolding form_of
form_measurement two = refl

form_hidden : (two : Bool) → two ≡ true → form_of two (codes "h") ≡ Some forms.Hidden
unfolding form_of
form_hidden two e = rw e refl

form_settled : (two : Bool) → two ≡ true → form_of two (codes "i") ≡ Some forms.Settled
unfolding form_of
form_settled two e = rw e refl

form_reset : (two : Bool) → two ≡ true → form_of two (codes "j") ≡ Some forms.Reset
unfolding form_of
form_reset two e = rw e refl

two_words : (w v : List ℕ) → AreTwo (w ∷ v ∷ []) w v []
two_words w v = record { rest = v ∷ []; first = refl; second = refl }

rotation_makes : (two : Bool) (n : ℕ) (rs : List Register) (done : List Item) (high next : ℕ) (axis : Signed) → IsRoom rs n high done → AxisFits n axis → next ≡ high → LineMakes two (made n rs done high) (made n rs (done ++ item.Turn axis Eighth ∷ []) next) (codes "r" ∷ product_text axis ∷ [])
unfolding item_for
rotation_makes two n rs done high next axis room fits e =
    said_makes two (made n rs done high) (made n rs (done ++ item.Turn axis Eighth ∷ []) next) 114 (product_text axis) [] (product axis rotation) refl
    ((omega arith, tt), (Above-product axis, tt))
    (axis_said two (codes "r") forms.Rotation axis [] rotation refl (form_rotation two) fits.other (ending_rotation forms.Rotation [] refl ∙ ended [] rotation refl))
    (put_item n rs done high next axis rotation (item.Turn axis Eighth) room.few fits.long refl (sym e))

measured_makes : (two : Bool) (n : ℕ) (rs : List Register) (done : List Item) (high next : ℕ) (axis : Signed) (bit : ℕ) → IsRoom rs n high done → AxisFits n axis → next ≡ high → (h : HasBit rs bit) → LineMakes two (made n rs done high) (made n rs (done ++ item.Measure axis bit ∷ []) next) (codes "m" ∷ product_text axis ∷ h.register.name ∷ decimal (bit - h.register.first) ∷ [])
unfolding item_for
measured_makes two n rs done high next axis bit room fits e h =
    let r = h.register in
    let index = bit - r.first in
    let small = h.small in
    let within = h.within in
    let from = h.from in
    let name : IsTrue (is_name r.name) = found_name (λ (x : Register). nat_le x.first bit && nat_lt (bit - x.first) x.size) [] rs r room.declared h.found in
    let its : named rs r.name ≡ Some r = named_found (λ (x : Register). nat_le x.first bit && nat_lt (bit - x.first) x.size) [] rs r room.declared h.found in
    let below : nat_le r.size index ≡ false = lt-leb r.size index within in
    let same : r.first + index ≡ bit = omega arith in
    let ws = r.name ∷ decimal index ∷ [] in
    said_makes two (made n rs done high) (made n rs (done ++ item.Measure axis bit ∷ []) next) 109 (product_text axis) ws (product axis (measurement r.name index)) refl
    ((omega arith, tt), (Above-product axis, (Above-name r.name name, (Above-decimal index (omega arith), tt))))
    (axis_said two (codes "m") forms.Measurement axis ws (measurement r.name index) refl (form_measurement two) fits.other
    (ending_measurement forms.Measurement ws (Some (r.name, index)) refl (pair_some ws r.name (decimal index) [] index (two_words r.name (decimal index)) refl name (omega arith) refl)))
    (put_item n rs done high next axis (measurement r.name index) (item.Measure axis bit) room.few fits.long (rw (its, below) (ap (λ b. Ok (item.Measure axis b)) same)) (sym e))

hidden_makes : (two : Bool) (n : ℕ) (rs : List Register) (done : List Item) (high next : ℕ) (axis : Signed) (bit : ℕ) → IsRoom rs n high done → AxisFits n axis → bit ≡ bits_in rs + high → two ≡ true → next ≡ high + 1 → LineMakes two (made n rs done high) (made n rs (done ++ item.Measure axis bit ∷ []) next) (codes "h" ∷ product_text axis ∷ [])
unfolding item_for
hidden_makes two n rs done high next axis bit room fits at version e =
    said_makes two (made n rs done high) (made n rs (done ++ item.Measure axis bit ∷ []) next) 104 (product_text axis) [] (product axis hidden) refl
    ((omega arith, tt), (Above-product axis, tt))
    (axis_said two (codes "h") forms.Hidden axis [] hidden refl (form_hidden two version) fits.other (ending_hidden forms.Hidden [] refl ∙ ended [] hidden refl))
    (put_item n rs done high next axis hidden (item.Measure axis bit) room.few fits.long (ap (λ b. Ok (item.Measure axis b)) (sym at)) (sym e))

settled_makes : (two : Bool) (n : ℕ) (rs : List Register) (done : List Item) (high next : ℕ) (axis : Signed) (first size value : ℕ) → IsRoom rs n high done → AxisFits n axis → two ≡ true → next ≡ high → value < 2 ^ 32 → (h : HasSpan rs first size) → LineMakes two (made n rs done high) (made n rs (done ++ item.If axis first size value ∷ []) next) (codes "i" ∷ product_text axis ∷ h.register.name ∷ decimal value ∷ [])
unfolding item_for
settled_makes two n rs done high next axis first size value room fits version e small h =
    let r = h.register in
    let name : IsTrue (is_name r.name) = found_name (λ (x : Register). x.first == first && x.size == size) [] rs r room.declared h.found in
    let its : named rs r.name ≡ Some r = named_found (λ (x : Register). x.first == first && x.size == size) [] rs r room.declared h.found in
    let ws = r.name ∷ decimal value ∷ [] in
    said_makes two (made n rs done high) (made n rs (done ++ item.If axis first size value ∷ []) next) 105 (product_text axis) ws (product axis (settled r.name value)) refl
    ((omega arith, tt), (Above-product axis, (Above-name r.name name, (Above-decimal value (omega arith), tt))))
    (axis_said two (codes "i") forms.Settled axis ws (settled r.name value) refl (form_settled two version) fits.other
    (ending_settled forms.Settled ws (Some (r.name, value)) refl (pair_some ws r.name (decimal value) [] value (two_words r.name (decimal value)) refl name small refl)))
    (put_item n rs done high next axis (settled r.name value) (item.If axis first size value) room.few fits.long (rw its (ap (λ f. Ok (item.If axis f r.size value)) h.same_first ∙ ap (λ s. Ok (item.If axis first s value)) h.same_size)) (sym e))

reset_makes : (two : Bool) (n : ℕ) (rs : List Register) (done : List Item) (high next : ℕ) (axis : Signed) (first size value : ℕ) → IsRoom rs n high done → AxisFits n axis → two ≡ true → next ≡ high → bits_in rs ≤ first → size ≡ 1 → value ≡ 1 → first < bits_in rs + high → LineMakes two (made n rs done high) (made n rs (done ++ item.If axis first size value ∷ []) next) (codes "j" ∷ product_text axis ∷ decimal (first - bits_in rs) ∷ [])
unfolding item_for
reset_makes two n rs done high next axis first size value room fits version e low one weight within =
    let number = first - bits_in rs in
    let few = room.few in
    let fewer = room.few_hidden in
    let below : nat_le high number ≡ false = lt-leb high number (omega arith) in
    let same : bits_in rs + number ≡ first = omega arith in
    let ws = decimal number ∷ [] in
    said_makes two (made n rs done high) (made n rs (done ++ item.If axis first size value ∷ []) next) 106 (product_text axis) ws (product axis (reset number)) refl
    ((omega arith, tt), (Above-product axis, (Above-decimal number (omega arith), tt)))
    (axis_said two (codes "j") forms.Reset axis ws (reset number) refl (form_reset two version) fits.other
    (ending_reset forms.Reset ws (Some number) refl (alone_some ws (decimal number) [] number refl refl (omega arith) refl)))
    (put_item n rs done high next axis (reset number) (item.If axis first size value) room.few fits.long (rw below (ap (λ f. Ok (item.If axis f 1 1)) same ∙ ap (λ s. Ok (item.If axis first s 1)) (sym one) ∙ ap (λ v. Ok (item.If axis first size v)) (sym weight))) (sym e))

product_makes : (two : Bool) (n : ℕ) (rs : List Register) (done : List Item) (high next : ℕ) (axis : Signed) (k : Kind) → IsRoom rs n high done → AxisFits n axis → KindFits rs two high next k → LineMakes two (made n rs done high) (made n rs (done ++ item_of (record { axis = axis; kind = k }) ∷ []) next) (product_words rs axis k)
unfolding product_words
product_makes two n rs done high next axis kind.Rotation room fits e = rotation_makes two n rs done high next axis room fits e
product_makes two n rs done high next axis (kind.Measure bit) room fits (inl (below, e)) =
    let h = bit_there [] rs bit room.declared (omega arith) (omega arith) in
    let found : register_with rs bit ≡ Some h.register = h.found in
    rw found (measured_makes two n rs done high next axis bit room fits e h)
product_makes two n rs done high next axis (kind.Measure bit) room fits (inr (at, version, e)) =
    let none : register_with rs bit ≡ None = bit_nowhere [] rs bit room.declared (omega arith) in
    rw none (hidden_makes two n rs done high next axis bit room fits at version e)
product_makes two n rs done high next axis (kind.Settle first size value) room fits (version, e, small, inl there) =
    let h = span_there rs first size there in
    let found : register_of rs first size ≡ Some h.register = h.found in
    rw found (settled_makes two n rs done high next axis first size value room fits version e small h)
product_makes two n rs done high next axis (kind.Settle first size value) room fits (version, e, small, inr (low, one, weight, within)) =
    let none : register_of rs first size ≡ None = span_nowhere [] rs first size room.declared (omega arith) in
    rw none (reset_makes two n rs done high next axis first size value room fits version e low one weight within)

-- products that a list has lines for, with the number of hidden bits before them and after them
abbrev pub AreFit : List Register → ℕ → Bool → ℕ → ℕ → List Static → Type 0
AreFit rs n two high end [] = high ≡ end
AreFit rs n two high end (s ∷ ss) = (next : ℕ) × (next ≤ high + 1) × AxisFits n s.axis × KindFits rs two high next s.kind × AreFit rs n two next end ss

pub products_back : (two : Bool) (n number : ℕ) (rs : List Register) (done : List Item) (high end : ℕ) (ss : List Static) → AreDeclared [] rs → AreFit rs n two high end ss → high ≤ length done → length done + length ss ≤ 16384 → with_lines two number (made n rs done high) (lines (flat_map (product_line rs) ss)) ≡ Ok (made n rs (done ++ static_items ss) end)
unfolding with_lines product_line
products_back two n number rs done high end [] declared fit hid few = ap (λ m. Ok (made n rs done m)) fit ∙ ap (λ is. Ok (made n rs is end)) (sym (append-nil done))
products_back two n number rs done high end (s ∷ ss) declared fit hid few =
    let next = fit.0 in
    let one_more = fit.1 in
    let longer = length-append done (item_of s ∷ []) in
    let room : IsRoom rs n high done = record { declared = declared; few = omega arith; few_hidden = hid } in
    let later = products_back two n (number + 1) rs (done ++ item_of s ∷ []) next end ss declared fit.4 (omega arith) (omega arith) in
    line_on two number (made n rs done high) (made n rs (done ++ item_of s ∷ []) next) (product_words rs s.axis s.kind) (flat_map (product_line rs) ss) (product_makes two n rs done high next s.axis s.kind room fit.2 fit.3)
    ∙ later
    ∙ ap (λ is. Ok (made n rs is end)) (append_assoc done (item_of s ∷ []) (static_items ss))
