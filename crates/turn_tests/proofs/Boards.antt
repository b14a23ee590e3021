-- A layout of two patches serves products on two qubits.
use Rattle.std.proofs.Common.{◌≡◌, ◌≢◌, ℕ, zero, suc, ◌<◌, ◌≤◌, Bool, true, IsTrue, ◌&&◌, List, [], ◌∷◌, length, slice_get, slice_index_or, Some, refl, sym, arith, subst, inl, inr}
use Rattle.std.specs.List.{All}
use Rattle.std.proofs.lemmas.Bool.{or_cases, and_parts}
use Rattle.std.proofs.lemmas.Option.{slice_get_within, get_or_from_slice_get}
use Rattle.std.proofs.lemmas.List.Elements.{All-head, All-tail}
use Rattle.pauli_product.specs.declared.Letter.{Letter}
use Rattle.pauli_product.specs.declared.Letter.TheVariants.{I, X, Y, Z}
use Rattle.pauli_product.specs.Signed.{Signed, OfLength, IsNotIdentity}
use Rattle.source_model.specs.declared.Static.{Static}
use Rattle.source_model.specs.Used.{acts, acts_at, takes_region, is_used}
use Rattle.patch_layout.specs.Grid.{Grid, Open}
use Rattle.patch_layout.specs.Row.{demand, IsUsed}
use Rattle.magic_pool.specs.declared.Fail.{Fail}
use Rattle.magic_pool.specs.Pooled.{Pooled}
use Rattle.board_core.specs.Laws.{ProductsOfLength}
use Rattle.board_core.specs.Limits.{WithinLimits}
use Rattle.board_core.specs.Position.{job_with}
use Rattle.board_core.specs.Suits.{IsOpenFor, HaveLetters}
use Rattle.turn_tests.specs.Rows.{IsServed}

-- a letter other than I acts
acting : (l : Letter) → l ≢ I → IsTrue (acts l)
acting I n = absurd (n refl)
acting X n = refl
acting Y n = refl
acting Z n = refl

acts_there : (p : Signed) → IsNotIdentity p → (q : ℕ) × IsTrue (acts_at p q)
acts_there p x = (x.0, subst (λ (l : Letter). IsTrue (acts l)) (sym (get_or_from_slice_get p.letters x.0 x.1.0 I x.1.1)) (acting x.1.0 x.1.2))

acts_within : (ls : List Letter) (q : ℕ) → acts (slice_index_or ls q I) ≡ true → q < length ls
acts_within [] q e = cc
acts_within (l ∷ ls) zero e = omega arith
acts_within (l ∷ ls) (suc q) e = let r = acts_within ls q e in omega arith

used_within : (n : ℕ) (ss : List Static) (q : ℕ) → ProductsOfLength n ss → is_used ss q ≡ true → q < n
used_within n [] q long e = cc
used_within n (s ∷ ss) q long e = elim (or_cases (takes_region s.kind && acts_at s.axis q) (is_used ss q) e) [
  | inl here ↦ subst (λ (m : ℕ). q < m) (All-head (λ (x : Static). OfLength n x.axis) s ss long) (acts_within s.axis.letters q (and_parts (takes_region s.kind) (acts_at s.axis q) here).1)
  | inr later ↦ used_within n ss q (All-tail (λ (x : Static). OfLength n x.axis) s ss long) later
]

two_used : (q : ℕ) → q < 2 → IsUsed (true ∷ true ∷ []) q
two_used zero l = refl
two_used (suc zero) l = refl
two_used (suc (suc q)) l = absurd (omega arith)

module _ (rotations : Bool) (products : List Static) (each : All (IsServed rotations) products) where
  pub long : ProductsOfLength 2 products
  long = λ k d l. (each k d l).on_two

  -- what holds of each one holds of the one with this number
  served : (p : ℕ) (s : Static) → slice_get products p ≡ Some s → IsServed rotations s
  served p s e = subst (IsServed rotations) (get_or_from_slice_get products p s s e) (each p s (slice_get_within products p s e))

  pub open_for : (g : Grid) → Open g (demand (true ∷ true ∷ []) rotations) → IsOpenFor g products
  open_for g is_open = (
    demand (true ∷ true ∷ []) rotations,
    record { used = λ q u. two_used q (used_within 2 products q long u); rotations = λ p s e r. (served p s e).port r },
    is_open,
  )

  pub letters : HaveLetters products
  letters p s e = acts_there s.axis (served p s e).letter

  pub limits : (g : Grid) (pool : Pooled) (fails : List Fail) → length products ≤ 16 → pool.fails ≡ fails → length fails ≤ 4096 → WithinLimits (job_with products g pool)
  limits g pool fails few same few_fails = record {
    qubits = 2;
    few_qubits = omega arith;
    axes_fit = long;
    few_products = omega arith;
    few_fails = subst (λ (x : List Fail). length x ≤ 4096) (sym same) few_fails;
  }
