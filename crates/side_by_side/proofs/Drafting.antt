-- A joined circuit that is made program by program.
use Rattle.std.proofs.Common.{◌≡◌, ℕ, suc, ◌+◌, ◌-◌, ◌<◌, ◌≤◌, List, [], ◌∷◌, ◌++◌, map, take, drop, length, get_or, refl, ap, ap₂, sym, ◌∙◌, arith, append_assoc, append-nil, drop-cons, subst}
use Rattle.std.specs.Prelude.{All, sum_by}
use Rattle.std.specs.List.{range_with_len}
use Rattle.std.proofs.lemmas.List.{drop_all}
use Rattle.std.proofs.lemmas.List.Elements.{All-nil, All-cons}
use Rattle.std.proofs.lemmas.List.FromFn.{map-range_with_len_more}
use Rattle.std.proofs.lemmas.List.Sums.{sum_by-cons, sum_by_more_le, sum_by-take-drop, sum_by-drop_more}
use Rattle.source_model.specs.declared.Circuit.{Circuit}
use Rattle.source_model.specs.declared.Item.{Item}
use Rattle.source_model.specs.declared.Register.{Register}
use Rattle.source_model.specs.Circuits.{WellFormed, FirstsRunOn, bits_in}
use Rattle.side_by_side.specs.declared.joining.Draft.{Draft}
use Rattle.side_by_side.specs.declared.place.Place.{Place}
use Rattle.side_by_side.specs.declared.sums.Sums.{Sums}
use Rattle.side_by_side.specs.Places.{items_in}
use Rattle.side_by_side.specs.Joined.{qubits_of, bits_of, hidden_of, sums_of, IsWithin, span_of, spans_of, place_at, joined_from, joined_items, registers_from, joined_registers, register_at, named, joined_circuit}
use Rattle.side_by_side.specs.inside.Drafts.{HasRoom, HasDrafted, added, drafted, place_after, span_after}
use Rattle.side_by_side.proofs.Fitting.{fits_of}
use Rattle.side_by_side.proofs.JoinedItems.{room_for}
use Rattle.side_by_side.proofs.Summing.{sums_more, hidden_all}

pub none_drafted : (cs : List Circuit) (d : Draft) → d ≡ record { at = sums_of []; registers = []; items = []; spans = [] } → HasDrafted cs 0 d
none_drafted cs d e = subst (HasDrafted cs 0) (sym e) (record { at = refl; registers = refl; items = same; spans = refl })
  where
    same : joined_from 0 0 (bits_of cs + 0) cs ≡ joined_items cs
    same = let h : bits_of cs + 0 ≡ bits_of cs = omega arith in ap (λ n. joined_from 0 0 n cs) h

-- ---- one program more
same_after : (q b h : ℕ) (c : Circuit) (cs : List Circuit) (after : ℕ) → after ≡ qubits_of cs →
    (let made : Place = record { before = q; after = after; bits = bits_in c.registers; bit = b; hidden = h } in made) ≡ place_at q b h c cs
same_after q b h c cs after e = λ i. record { before = q; after = e i; bits = bits_in c.registers; bit = b; hidden = h }

record Moved (cs : List Circuit) (i : ℕ) (at : Sums) (c : Circuit) : Type 0 where
  place : place_after (sums_of cs) at c ≡ place_at at.qubits at.bits ((sums_of cs).bits + at.hidden) c (drop (suc i) cs)
  rest : drop i cs ≡ c ∷ drop (suc i) cs

moved : (cs : List Circuit) (i : ℕ) (at : Sums) (c : Circuit) → i < length cs → c ≡ get_or cs i c → at ≡ sums_of (take i cs) → Moved cs i at c
moved cs i at c l e f =
    let before : at.qubits ≡ qubits_of (take i cs) = ap (λ (s : Sums). s.qubits) f in
    let here : c.qubits ≡ (get_or cs i c).qubits = ap (λ (c : Circuit). c.qubits) e in
    let next : i + 1 ≡ suc i = omega arith in
    let later : qubits_of (drop i cs) ≡ c.qubits + qubits_of (drop (suc i) cs) =
    sum_by-drop_more (λ (c : Circuit). c.qubits) cs i c l ∙ ap₂ (λ m n. m + qubits_of (drop n cs)) (sym here) next in
    record {
      place = same_after at.qubits at.bits ((sums_of cs).bits + at.hidden) c (drop (suc i) cs) ((sums_of cs).qubits - (at.qubits + c.qubits))
          (omega (arith, before, later, sum_by-take-drop (λ (c : Circuit). c.qubits) cs i));
      rest = drop-cons cs i c l ∙ ap (λ x. x ∷ drop (suc i) cs) (sym e);
    }

pub one_more : (cs : List Circuit) (i : ℕ) (c : Circuit) (d : Draft) → i < length cs → c ≡ get_or cs i c → HasDrafted cs i d → HasDrafted cs (i + 1) (drafted (sums_of cs) i c d)
one_more cs i c d l e h =
    let m = moved cs i d.at c l e h.at in
    let b = d.at.bits in
    let q = d.at.qubits in
    let hid = (sums_of cs).bits + d.at.hidden in
    let later = drop (suc i) cs in
    let next : drop (i + 1) cs ≡ later = (let n : i + 1 ≡ suc i = omega arith in ap (λ n. drop n cs) n) in
    let mine = map (register_at b (named i)) c.registers in
    let more_hidden : (sums_of cs).bits + (d.at.hidden + c.hidden) ≡ hid + c.hidden = omega arith in
    let own = items_in (place_after (sums_of cs) d.at c) c.items in
    let item_place : own ≡ items_in (place_at q b hid c later) c.items = ap (λ s. items_in s c.items) m.place in
    record {
      at = ap (λ s. added s c) h.at ∙ sums_more cs i c l e;
      registers =
          append_assoc d.registers mine (registers_from (i + 1) (b + bits_in c.registers) (drop (i + 1) cs))
          ∙ ap (λ rs. d.registers ++ rs)
          ((let n : i + 1 ≡ suc i = omega arith in ap₂ (λ n ds. mine ++ registers_from n (b + bits_in c.registers) ds) n next)
          ∙ ap (registers_from i b) (sym m.rest))
          ∙ h.registers;
      items =
          append_assoc d.items own (joined_from (q + c.qubits) (b + bits_in c.registers) ((sums_of cs).bits + (d.at.hidden + c.hidden)) (drop (i + 1) cs))
          ∙ ap (λ is. d.items ++ is)
          (ap₂ ◌++◌ item_place (ap₂ (λ n ds. joined_from (q + c.qubits) (b + bits_in c.registers) n ds) more_hidden next)
          ∙ ap (joined_from q b hid) (sym m.rest))
          ∙ h.items;
      spans =
          ap₂ (λ ss s. ss ++ s ∷ []) h.spans (ap (span_after (sums_of cs)) h.at)
          ∙ sym (map-range_with_len_more (span_of cs) 0 i i (omega arith));
    }

-- ---- room for the program
record Small (cs : List Circuit) (i : ℕ) (c : Circuit) (at : Sums) : Type 0 where
  qubits : at.qubits + c.qubits ≤ (sums_of cs).qubits
  bits : at.bits + bits_in c.registers ≤ (sums_of cs).bits
  hidden : at.hidden + c.hidden ≤ (sums_of cs).hidden

pub sum_within : (f : Circuit → ℕ) (cs : List Circuit) (i : ℕ) (c : Circuit) → i < length cs → c ≡ get_or cs i c → sum_by f (take i cs) + f c ≤ sum_by f cs
sum_within f cs i c l e = let same : f c ≡ f (get_or cs i c) = ap f e in omega (arith, same, sum_by_more_le f cs i c l)

pub room : (cs : List Circuit) (i : ℕ) (c : Circuit) (at : Sums) → i < length cs → c ≡ get_or cs i c → at ≡ sums_of (take i cs) → WellFormed c → All WellFormed cs → IsWithin (sums_of cs) →
    All (HasRoom (place_after (sums_of cs) at c)) c.items
room cs i c at l e f formed each w =
    let all = sums_of cs in
    let q : at.qubits ≡ qubits_of (take i cs) = ap (λ (s : Sums). s.qubits) f in
    let b : at.bits ≡ bits_of (take i cs) = ap (λ (s : Sums). s.bits) f in
    let h : at.hidden ≡ hidden_of (take i cs) = ap (λ (s : Sums). s.hidden) f in
    let q' = sum_within (λ c. c.qubits) cs i c l e in
    let b' = sum_within (λ c. bits_in c.registers) cs i c l e in
    let h' = sum_within (λ c. c.hidden) cs i c l e in
    let hidden = hidden_all cs each w in
    room_for c (place_after all at c) all.bits (all.bits + all.hidden) (fits_of c formed) refl
    (omega (arith, q, q', w.qubits))
    (record { registers = omega (arith, b, b'); hidden_from = omega arith; hidden_to = omega (arith, h, h') })
    (omega (arith, w.bits, b', h', hidden))
    (omega (arith, w.bits, hidden))

pub firsts_small : (before : ℕ) (rs : List Register) → FirstsRunOn before rs → All (λ r. r.first ≤ before + bits_in rs) rs
firsts_small before [] h = All-nil (λ r. r.first ≤ before + bits_in [])
firsts_small before (r ∷ rs) h =
    let sum = sum_by-cons (λ (r : Register). r.size) r rs in
    All-cons (λ s. s.first ≤ before + bits_in (r ∷ rs)) r rs (omega (arith, h.0))
    (λ k d l. omega (arith, sum, firsts_small (before + r.size) rs h.1 k d l))

-- ---- all programs
pub all_drafted : (cs : List Circuit) (i : ℕ) (d : Draft) → length cs ≤ i → HasDrafted cs i d →
    (d.registers ≡ joined_registers cs) × (d.items ≡ joined_items cs) × (i ≡ length cs → d.spans ≡ spans_of cs)
all_drafted cs i d l h =
    let none : drop i cs ≡ [] = drop_all i cs l in (
      sym (append-nil d.registers) ∙ ap (λ ds. d.registers ++ registers_from i d.at.bits ds) (sym none) ∙ h.registers,
      sym (append-nil d.items) ∙ ap (λ ds. d.items ++ joined_from d.at.qubits d.at.bits ((sums_of cs).bits + d.at.hidden) ds) (sym none) ∙ h.items,
      λ e. h.spans ∙ ap (λ n. map (span_of cs) (range_with_len 0 n)) e,
    )

pub joined_is : (cs : List Circuit) (q h : ℕ) (rs : List Register) (is : List Item) → q ≡ qubits_of cs → rs ≡ joined_registers cs → is ≡ joined_items cs → h ≡ hidden_of cs →
    (let made : Circuit = record { qubits = q; registers = rs; items = is; hidden = h } in made) ≡ joined_circuit cs
joined_is cs q h rs is e f g k = λ i. record { qubits = e i; registers = f i; items = g i; hidden = k i }
