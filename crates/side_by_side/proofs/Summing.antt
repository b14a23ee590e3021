-- How much circuits have in all, one circuit after another.
use Rattle.std.proofs.Common.{◌≡◌, ℕ, ◌+◌, ◌<◌, ◌≤◌, inl, inr, if◌then◌else◌, List, [], ◌∷◌, take, length, get_or, refl, ap, sym, ◌∙◌, arith, cond}
use Rattle.std.specs.Prelude.{All, count_by, sum_by}
use Rattle.std.proofs.lemmas.List.Elements.{All-head, All-tail, All-take}
use Rattle.std.proofs.lemmas.List.Sums.{sum_by-cons, sum_by_more, sum_by-take-le}
use Rattle.source_model.specs.declared.Circuit.{Circuit}
use Rattle.source_model.specs.declared.Item.{Item}
use Rattle.source_model.specs.declared.Item.TheVariants as item
use Rattle.source_model.specs.SourceRun.{is_product}
use Rattle.source_model.specs.Circuits.{WellFormed, HiddenInOrder, bits_in}
use Rattle.side_by_side.specs.declared.sums.Sums.{Sums}
use Rattle.side_by_side.specs.Joined.{products_in, products_of, hidden_of, sums_of, IsWithin}
use Rattle.side_by_side.specs.inside.Drafts.{added}
use Rattle.side_by_side.proofs.Counting.{products-cons}

-- ---- hidden bits are measured, each by a product of its own
hidden_few : (bits next end : ℕ) (items : List Item) → HiddenInOrder bits next end items → end ≤ next + products_in items
hidden_few bits next end [] h = omega arith
hidden_few bits next end (item.Turn axis angle ∷ is) h = omega (arith, hidden_few bits next end is h, products-cons (item.Turn axis angle) is)
hidden_few bits next end (item.Measure axis bit ∷ is) (inl h) = omega (arith, hidden_few bits next end is h.1, products-cons (item.Measure axis bit) is)
hidden_few bits next end (item.Measure axis bit ∷ is) (inr h) = omega (arith, hidden_few bits (next + 1) end is h.1, products-cons (item.Measure axis bit) is)
hidden_few bits next end (item.If axis first size value ∷ is) h = omega (arith, hidden_few bits next end is h.1, products-cons (item.If axis first size value) is)

pub hidden_below : (cs : List Circuit) → All WellFormed cs → hidden_of cs ≤ products_of cs
hidden_below [] h = omega arith
hidden_below (c ∷ cs) h =
    let here = (All-head WellFormed c cs h).hidden_in_order in
    omega (
      arith,
      hidden_few (bits_in c.registers) (bits_in c.registers) (bits_in c.registers + c.hidden) c.items here,
      hidden_below cs (All-tail WellFormed c cs h),
      sum_by-cons (λ (c : Circuit). c.hidden) c cs,
      sum_by-cons (λ (c : Circuit). products_in c.items) c cs,
    )

-- ---- one circuit more
make_sums : ℕ → ℕ → ℕ → ℕ → ℕ → Sums
make_sums qubits products registers bits hidden = record { qubits = qubits; products = products; registers = registers; bits = bits; hidden = hidden }

same_sums : (a a' b b' c c' d d' e e' : ℕ) → a ≡ a' → b ≡ b' → c ≡ c' → d ≡ d' → e ≡ e' → make_sums a b c d e ≡ make_sums a' b' c' d' e'
unfolding make_sums
same_sums a a' b b' c c' d d' e e' p q r s t = λ i. record { qubits = p i; products = q i; registers = r i; bits = s i; hidden = t i }

pub sums_more : (cs : List Circuit) (i : ℕ) (c : Circuit) → i < length cs → c ≡ get_or cs i c → added (sums_of (take i cs)) c ≡ sums_of (take (i + 1) cs)
unfolding make_sums
sums_more cs i c l e =
    let more : (f : Circuit → ℕ) → sum_by f (take i cs) + f c ≡ sum_by f (take (i + 1) cs) = λ f. ap (λ x. sum_by f (take i cs) + f x) e ∙ sym (sum_by_more f cs i c l) in
    same_sums _ _ _ _ _ _ _ _ _ _
    (more (λ c. c.qubits)) (more (λ c. products_in c.items)) (more (λ c. length c.registers)) (more (λ c. bits_in c.registers)) (more (λ c. c.hidden))

-- ---- within the limits
pub within_none : IsWithin (sums_of [])
within_none = record { qubits = omega arith; products = omega arith; registers = omega arith; bits = omega arith }

pub within_take : (cs : List Circuit) (i : ℕ) → IsWithin (sums_of cs) → IsWithin (sums_of (take i cs))
within_take cs i w = record {
  qubits = omega (arith, w.qubits, sum_by-take-le (λ (c : Circuit). c.qubits) cs i);
  products = omega (arith, w.products, sum_by-take-le (λ (c : Circuit). products_in c.items) cs i);
  registers = omega (arith, w.registers, sum_by-take-le (λ (c : Circuit). length c.registers) cs i);
  bits = omega (arith, w.bits, sum_by-take-le (λ (c : Circuit). bits_in c.registers) cs i);
}

pub hidden_take : (cs : List Circuit) (i : ℕ) → All WellFormed cs → IsWithin (sums_of (take i cs)) → hidden_of (take i cs) ≤ 16384
hidden_take cs i h w = omega (arith, w.products, hidden_below (take i cs) (All-take WellFormed i cs h))

pub hidden_all : (cs : List Circuit) → All WellFormed cs → IsWithin (sums_of cs) → hidden_of cs ≤ 16384
hidden_all cs h w = omega (arith, w.products, hidden_below cs h)

-- ---- a count of products
pub counted : (items : List Item) → count_by is_product items ≡ products_in items
counted [] = refl
counted (i ∷ is) = sum_by-cons (λ i. cond (is_product i) 1 0) i is ∙ (ap (λ n. (if is_product i then 1 else 0) + n) (counted is) ∙ sym (products-cons i is))
