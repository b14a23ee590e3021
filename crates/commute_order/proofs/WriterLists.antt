-- Lists of the products that write bits.
use Rattle.std.proofs.Common.{◌≡◌, ℕ, ◌+◌, ◌-◌, ◌==◌, ◌<◌, ◌≤◌, true, inl, inr, nat_lt, Option, Some, None, All, Contains, List, [], ◌∷◌, ◌++◌, length, take, drop, get_or, ap, sym, ◌∙◌, arith, subst, length-take, length-drop}
use Rattle.std.proofs.lemmas.Bool.{cases_Bool, eqb-false, eqb-true, ltb-true, ltb-false}
use Rattle.std.proofs.lemmas.Bool.Decides.{nat_tests}
use Rattle.std.proofs.lemmas.List.{get_or_default, get_or-take, get_or-drop}
use Rattle.std.proofs.lemmas.List.Elements.{All-push, Contains-push, Contains-append_left}
use Rattle.std.proofs.lemmas.List.Sorted.{All-permutation, Contains-permutation}
use Rattle.std.specs.List.Sorted.{IsPermutation}
use Rattle.commute_order.specs.declared.Uses.{Uses}
use Rattle.commute_order.specs.declared.sharing.Writer.{Writer}
use Rattle.commute_order.specs.inside.Commuting.{reads_bit}
use Rattle.commute_order.specs.inside.Sharing.{ListsWriters}

-- ---- one more product
none_some : (w : Option ℕ) (bit : ℕ) → w ≡ None → w ≡ Some bit → ⊥
none_some w bit e f = grind arith

some_same : (w : Option ℕ) (a b : ℕ) → w ≡ Some a → w ≡ Some b → a ≡ b
some_same w a b e f = grind arith

pub no_writers : (us : List Uses) (ws : List Writer) → ws ≡ [] → ListsWriters us 0 ws
no_writers us ws e = record {
  writes = λ k d h. absurd (omega (arith, ap length e));
  each = λ p bit d h f. absurd (omega arith);
}

pub with_writer : (us : List Uses) (p bit : ℕ) (ws : List Writer) → ListsWriters us p ws → p < length us → ((d : Uses) → (get_or us p d).write ≡ Some bit) → ListsWriters us (p + 1) (ws ++ record { bit = bit; product = p } ∷ [])
with_writer us p bit ws l within own = record {
  writes = All-push (λ w. (w.product < length us) × ((d : Uses) → (get_or us w.product d).write ≡ Some w.bit)) ws last l.writes (within, own);
  each = λ q b d h f. elim (cases_Bool (q == p)) [
    | inl same ↦
        let at : q ≡ p = eqb-true _ _ same in
        let bits : bit ≡ b = some_same (get_or us p d).write bit b (own d) (ap (λ k. (get_or us k d).write) (sym at) ∙ f) in
        let it : last ≡ record { bit = b; product = q } = λ i. record { bit = bits i; product = sym at i } in
        subst (Contains (ws ++ last ∷ [])) it (Contains-push ws last)
    | inr other ↦
        let apart = eqb-false _ _ other in
        let before : q < p = omega arith in
        Contains-append_left ws (last ∷ []) (record { bit = b; product = q }) (l.each q b d before f)
  ];
}
  where
    last : Writer
    last = record { bit = bit; product = p }

pub without_writer : (us : List Uses) (p : ℕ) (ws : List Writer) → ListsWriters us p ws → ((d : Uses) → (get_or us p d).write ≡ None) → ListsWriters us (p + 1) ws
without_writer us p ws l none = record {
  writes = l.writes;
  each = λ q b d h f. elim (cases_Bool (q == p)) [
    | inl same ↦ absurd (none_some (get_or us p d).write b (none d) (ap (λ k. (get_or us k d).write) (sym (eqb-true _ _ same)) ∙ f))
    | inr other ↦
        let apart = eqb-false _ _ other in
        let before : q < p = omega arith in
        l.each q b d before f
  ];
}

-- in another order
pub reordered : (us : List Uses) (count : ℕ) (ws new : List Writer) → IsPermutation ws new → ListsWriters us count ws → ListsWriters us count new
reordered us count ws new moved l = record {
  writes = All-permutation (λ w. (w.product < length us) × ((d : Uses) → (get_or us w.product d).write ≡ Some w.bit)) ws new moved l.writes;
  each = λ p bit d h f. Contains-permutation ws new (record { bit = bit; product = p }) moved (l.each p bit d h f);
}

-- ---- the run whose bits are read
in_bits : (u : Uses) (bit : ℕ) → reads_bit u (Some bit) ≡ true → (u.read_first ≤ bit) × (bit < u.read_first + u.read_size)
in_bits u bit h = (grind (arith, nat_tests), grind (arith, nat_tests))

is_read : (u : Uses) (bit : ℕ) → u.read_first ≤ bit → bit < u.read_first + u.read_size → reads_bit u (Some bit) ≡ true
is_read u bit h k = grind (arith, nat_tests)

module _ (u : Uses) (ws rest : List Writer) (from count : ℕ) (tail : rest ≡ drop from ws) (short : from ≤ length ws)
    (low : (k : ℕ) (d : Writer) → k < from → (get_or ws k d).bit < u.read_first)
    (high : (k : ℕ) (d : Writer) → from ≤ k → k < length ws → u.read_first ≤ (get_or ws k d).bit)
    (part : count ≤ length rest)
    (below : (k : ℕ) (d : Writer) → k < count → (get_or rest k d).bit < u.read_first + u.read_size)
    (above : (k : ℕ) (d : Writer) → count ≤ k → k < length rest → u.read_first + u.read_size ≤ (get_or rest k d).bit) where
  at : (k : ℕ) (d : Writer) → get_or rest k d ≡ get_or ws (from + k) d
  at k d = ap (λ (l : List Writer). get_or l k d) tail ∙ get_or-drop from ws k d

  long : length rest ≡ length ws - from
  long = ap length tail ∙ length-drop from ws

  pub run_read : All (λ w. Contains ws w × (reads_bit u (Some w.bit) ≡ true)) (take count rest)
  run_read = λ k d h.
      let near : k < count = omega (arith, length-take count rest) in
      let within : from + k < length ws = omega (arith, long) in
      let plain : get_or (take count rest) k d ≡ get_or rest k d = get_or-take count rest k d near in
      let e : get_or (take count rest) k d ≡ get_or ws (from + k) d = plain ∙ at k d in
      let x = get_or (take count rest) k d in
      let from_first : u.read_first ≤ x.bit = subst (λ (w : Writer). u.read_first ≤ w.bit) (sym e) (high (from + k) d (omega arith) within) in
      let to_end : x.bit < u.read_first + u.read_size = subst (λ (w : Writer). w.bit < u.read_first + u.read_size) (sym plain) (below k d near) in
      ((from + k, within, get_or_default ws (from + k) x d within ∙ sym e), is_read u x.bit from_first to_end)

  pub run_each : (w : Writer) → Contains ws w → reads_bit u (Some w.bit) ≡ true → Contains (take count rest) w
  run_each w c t =
      let k = c.0 in
      let bits = in_bits u w.bit t in
      let from_there : from ≤ k = elim (cases_Bool (nat_lt k from)) [
        | inl less ↦ let small = low k w (ltb-true _ _ less) in absurd (omega (arith, ap (λ (x : Writer). x.bit) c.2, bits.0))
        | inr more ↦ ltb-false _ _ more
      ] in
      let i = k - from in
      let back : from + i ≡ k = omega arith in
      let e : get_or rest i w ≡ w = at i w ∙ ap (λ q. get_or ws q w) back ∙ c.2 in
      let inside : i < length rest = omega (arith, long, c.1) in
      let near : i < count = elim (cases_Bool (nat_lt i count)) [
        | inl less ↦ ltb-true _ _ less
        | inr more ↦ let big = above i w (ltb-false _ _ more) inside in absurd (omega (arith, ap (λ (x : Writer). x.bit) e, bits.1))
      ] in
      (i, omega (arith, length-take count rest), get_or-take count rest i w near ∙ e)
