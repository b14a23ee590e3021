-- One more turn of a pull.
use Rattle.std.proofs.Common.{◌≡◌, ℕ, suc, ◌<◌, List, length, drop, get_or, ap, sym, ◌∙◌}
use Rattle.std.proofs.lemmas.List.Elements.{All-get_or}
use Rattle.pauli_product.specs.Signed.{Signed, OfLength}
use Rattle.pauli_product.specs.Pulls.{Turn, TurnsOfLength, conj, pull}
use Rattle.std.proofs.Math.Seq.{drop-cons}

pub pull_drop : (ts : List Turn) (j i : ℕ) (t : Turn) (p : Signed) → suc j ≡ i → j < length ts → t ≡ get_or ts j t → conj t.axis t.angle (pull (drop i ts) p) ≡ pull (drop j ts) p
pull_drop ts j i t p e l s =
    ap (λ k. conj t.axis t.angle (pull (drop k ts) p)) (sym e)
    ∙ ap (λ u. conj u.axis u.angle (pull (drop (suc j) ts) p)) s
    ∙ ap (λ us. pull us p) (sym (drop-cons ts j t l))

pub length_of_turn : (n : ℕ) (ts : List Turn) (j : ℕ) (t : Turn) → TurnsOfLength n ts → j < length ts → t ≡ get_or ts j t → OfLength n t.axis
length_of_turn n ts j t h l s = rw s (All-get_or (λ t. OfLength n t.axis) ts j t l h)
