-- Words give one command.
use Rattle.std.proofs.Common.{◌≡◌, ℕ, ◌<◌, ◌≤◌, ◌^◌, List, [], ◌∷◌, decimal, arith}
use Rattle.std.proofs.lemmas.Fmt.{decimal_injective}
use Rattle.live_readout.specs.Commands.{Command, live_words, IsCommand}
use Rattle.live_readout.specs.inside.Commands.{command}

pub same_number : (m n : ℕ) → m < 2 ^ 32 → n < 2 ^ 32 → decimal m ≡ decimal n → m ≡ n
same_number m n h k e = decimal_injective m n (omega arith) (omega arith) e

pub only_live : (name c l o k : List ℕ) (j : ℕ) → j ≤ 16 → k ≡ decimal j → (t : Command) → name ∷ c ∷ l ∷ o ∷ k ∷ [] ≡ live_words t → IsCommand t → command c l o j ≡ t
only_live name c l o k j fits k_is t e h =
    let t_fits = h.1 in
    let k_same : j ≡ t.k = same_number j t.k (omega arith) (omega arith) (cc) in
    let c_same : c ≡ t.circuit = cc in
    let l_same : l ≡ t.layout = cc in
    let o_same : o ≡ t.outcomes = cc in
    λ i. command (c_same i) (l_same i) (o_same i) (k_same i)
