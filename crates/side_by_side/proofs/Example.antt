-- Two small programs side by side.
use Rattle.std.proofs.Common.{◌≡◌, true, false, [], ◌∷◌, refl}
use Rattle.pauli_product.specs.declared.Letter.TheVariants.{I, X, Y, Z}
use Rattle.pauli_product.specs.Signed.{plus, minus, commute}
use Rattle.pauli_product.specs.Pulls.{conj}
use Rattle.source_model.specs.declared.Angle.TheVariants.{Eighth, Quarter}
use Rattle.source_model.specs.declared.Item.TheVariants as item
use Rattle.source_model.specs.declared.Given.TheVariants as given
use Rattle.side_by_side.specs.Programs.{Program, axes_joined, bit_joined}

-- s, h, t and a measurement
one : Program
one = record {
  circuit = record {
    qubits = 1;
    registers = record { name = 99 ∷ []; first = 0; size = 1 } ∷ [];
    hidden = 0;
    items = item.Turn (plus (Z ∷ [])) Quarter
        ∷ item.Turn (plus (Z ∷ [])) Quarter
        ∷ item.Turn (plus (X ∷ [])) Quarter
        ∷ item.Turn (plus (Z ∷ [])) Quarter
        ∷ item.Turn (plus (Z ∷ [])) Eighth
        ∷ item.Measure (plus (Z ∷ [])) 0
        ∷ [];
  };
  outcomes = given.Rotation false false ∷ given.Measure false ∷ [];
}

-- a measurement
two : Program
two = record {
  circuit = record {
    qubits = 1;
    registers = record { name = 99 ∷ []; first = 0; size = 1 } ∷ [];
    hidden = 0;
    items = item.Measure (plus (Z ∷ [])) 0 ∷ [];
  };
  outcomes = given.Measure true ∷ [];
}

both_axes : axes_joined (one ∷ two ∷ []) ≡ minus (Y ∷ I ∷ []) ∷ minus (Y ∷ I ∷ []) ∷ plus (I ∷ Z ∷ []) ∷ []
unfolding one two conj commute
both_axes = refl

second_bit : bit_joined (one ∷ two ∷ []) 1 ≡ true
unfolding one two conj commute
second_bit = refl
