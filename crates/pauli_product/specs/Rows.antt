-- Worked examples.
use Rattle.std.specs.Prelude.{◌≡◌, List, [], ◌∷◌, refl}
use Rattle.pauli_product.specs.declared.Letter.TheVariants.{I, X, Y, Z}
use Rattle.pauli_product.specs.Signed.{plus, minus, commute}
use Rattle.pauli_product.specs.Pulls.{Turn, turn, conj, carry, pull, quarter, half}

-- i Z X = -Y
pub z_quarter_of_x : conj (plus (Z ∷ [])) quarter (plus (X ∷ [])) ≡ minus (Y ∷ [])
unfolding conj commute
z_quarter_of_x = refl

abbrev two : List Turn
two = turn (plus (Z ∷ I ∷ [])) quarter ∷ turn (minus (X ∷ X ∷ [])) half ∷ []

-- +XI is -YI after +ZI as a quarter, and +YI after -XX as a half
pub two_corrections : carry two (plus (X ∷ I ∷ [])) ≡ plus (Y ∷ I ∷ [])
unfolding conj commute
two_corrections = refl

-- the other way round the half comes first
pub two_pulled : pull two (plus (X ∷ I ∷ [])) ≡ minus (Y ∷ I ∷ [])
unfolding conj commute
two_pulled = refl
