use Rattle.std.proofs.Common.{◌≡◌, ℕ, ◌<◌, ◌≤◌, true, if◌then◌else◌, [], length, get_or, set}
use Rattle.pauli_product.specs.declared.Letter.TheVariants.{I}
use Rattle.pauli_product.specs.Letters.{letters_clash}
use Rattle.commute_order.proofs.columns.add_product.Given as goal

abbrev pub invariant-loop-q : goal.invariant-loop-q
invariant-loop-q l = record {
  size : length l.columns.items ≡ length l.fn.columns.items;
  done : (k : ℕ) → k < l.q → get_or l.columns.items k [] ≡ (if letters_clash l.against (get_or l.product.letters k I) then set (get_or l.fn.columns.items k []) l.p true else get_or l.fn.columns.items k []);
  rest : (k : ℕ) → l.q ≤ k → get_or l.columns.items k [] ≡ get_or l.fn.columns.items k [];
}
