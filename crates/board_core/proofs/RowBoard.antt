-- The row layout of two qubits serves all products on two qubits.
use Rattle.std.proofs.Common.{◌≡◌, ℕ, zero, suc, ◌<◌, ◌≤◌, true, IsTrue, ◌&&◌, List, [], ◌∷◌, length, slice_index_or, refl, sym, arith, subst, inl, inr}
use Rattle.std.proofs.lemmas.Bool.{or_cases, and_parts}
use Rattle.std.proofs.lemmas.Option.{same_Some, none-some}
use Rattle.std.proofs.lemmas.List.Elements.{All-nil, All-cons, All-head, All-tail}
use Rattle.pauli_product.specs.declared.Letter.{Letter}
use Rattle.pauli_product.specs.declared.Letter.TheVariants.{I}
use Rattle.pauli_product.specs.Signed.{OfLength}
use Rattle.source_model.specs.declared.Static.{Static}
use Rattle.source_model.specs.Used.{acts, acts_at, takes_region, is_used}
use Rattle.patch_layout.specs.Grid.{Grid, Open}
use Rattle.patch_layout.specs.Row.{demand, IsUsed}
use Rattle.board_core.specs.Laws.{ProductsOfLength}
use Rattle.magic_pool.specs.declared.Fail.{Fail}
use Rattle.magic_pool.specs.Pooled.{Pooled}
use Rattle.board_core.specs.Limits.{WithinLimits}
use Rattle.board_core.specs.Position.{job_with}
use Rattle.board_core.specs.Suits.{IsOpenFor, HaveLetters}

acts_within : (ls : List Letter) (q : ℕ) → acts (slice_index_or ls q I) ≡ true → q < length ls
acts_within [] q e = cc
acts_within (l ∷ ls) zero e = omega arith
acts_within (l ∷ ls) (suc q) e = let r = acts_within ls q e in omega arith

used_within : (n : ℕ) (ss : List Static) (q : ℕ) → ProductsOfLength n ss → is_used ss q ≡ true → q < n
used_within n [] q long e = cc
used_within n (s ∷ ss) q long e = elim (or_cases (takes_region s.kind && acts_at s.axis q) (is_used ss q) e) [
  | inl here ↦ subst (λ (m : ℕ). q < m) (All-head (λ (x : Static). OfLength n x.axis) s ss long) (acts_within s.axis.letters q (and_parts (takes_region s.kind) (acts_at s.axis q) here).1)
  | inr later ↦ used_within n ss q (All-tail (λ (x : Static). OfLength n x.axis) s ss long) later
]

two_used : (q : ℕ) → q < 2 → IsUsed (true ∷ true ∷ []) q
two_used zero l = refl
two_used (suc zero) l = refl
two_used (suc (suc q)) l = absurd (omega arith)

pub open_for_two : (g : Grid) (products : List Static) → Open g (demand (true ∷ true ∷ []) true) → ProductsOfLength 2 products → IsOpenFor g products
open_for_two g products is_open long = (
  demand (true ∷ true ∷ []) true,
  record { used = λ q u. two_used q (used_within 2 products q long u); rotations = λ p s e r. refl },
  is_open,
)

-- a product on two qubits that acts on the first one
abbrev pub Suits : Static → Type 0
Suits s = OfLength 2 s.axis × IsTrue (acts_at s.axis 0)

pub three_long : (a b c : Static) → Suits a → Suits b → Suits c → ProductsOfLength 2 (a ∷ b ∷ c ∷ [])
three_long a b c x y z =
    let P : Static → Type 0 = λ s. OfLength 2 s.axis in
    All-cons P a (b ∷ c ∷ []) x.0 (All-cons P b (c ∷ []) y.0 (All-cons P c [] z.0 (All-nil P)))

pub three_letters : (a b c : Static) → Suits a → Suits b → Suits c → HaveLetters (a ∷ b ∷ c ∷ [])
three_letters a b c x y z zero s e = (0, subst (λ (t : Static). IsTrue (acts_at t.axis 0)) (same_Some a s e) x.1)
three_letters a b c x y z (suc zero) s e = (0, subst (λ (t : Static). IsTrue (acts_at t.axis 0)) (same_Some b s e) y.1)
three_letters a b c x y z (suc (suc zero)) s e = (0, subst (λ (t : Static). IsTrue (acts_at t.axis 0)) (same_Some c s e) z.1)
three_letters a b c x y z (suc (suc (suc p))) s e = absurd (none-some s e)

pub limits_for : (products : List Static) (g : Grid) (pool : Pooled) (fails : List Fail) → ProductsOfLength 2 products → length products ≡ 3 → pool.fails ≡ fails → length fails ≤ 4096 → WithinLimits (job_with products g pool)
limits_for products g pool fails long three same few = record {
  qubits = 2;
  few_qubits = omega arith;
  axes_fit = long;
  few_products = omega arith;
  few_fails = subst (λ (x : List Fail). length x ≤ 4096) (sym same) few;
}
