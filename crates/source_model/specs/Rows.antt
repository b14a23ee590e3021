-- Worked examples.
use Rattle.std.specs.Prelude.{◌≡◌, true, false, [], ◌∷◌, List, refl}
use Rattle.pauli_product.specs.declared.Letter.TheVariants.{I, X, Y, Z}
use Rattle.pauli_product.specs.Signed.{plus, minus, commute}
use Rattle.pauli_product.specs.Pulls.{conj}
use Rattle.source_model.specs.declared.Angle.TheVariants.{Eighth, Quarter}
use Rattle.source_model.specs.declared.Item.TheVariants.{Turn, Measure}
use Rattle.source_model.specs.declared.Circuit.{Circuit}
use Rattle.source_model.specs.declared.Given.{Given}
use Rattle.source_model.specs.declared.Given.TheVariants as given
use Rattle.source_model.specs.declared.Item.TheVariants as item
use Rattle.source_model.specs.declared.Kind.TheVariants as kind
use Rattle.source_model.specs.SourceRun.{axes, bit_after}
use Rattle.source_model.specs.Statics.{statics}

-- rotations about +Z and +X and a measurement of +X into a register of one bit
abbrev pub three_products : Circuit
three_products = record {
  qubits = 1;
  registers = record { name = 99 ∷ []; first = 0; size = 1 } ∷ [];
  items = Turn (plus (Z ∷ [])) Eighth ∷ Turn (plus (X ∷ [])) Eighth ∷ Measure (plus (X ∷ [])) 0 ∷ [];
  hidden = 0;
}

-- with outcomes (1, 0), (0, 0), 0
abbrev three_outcomes : List Given
three_outcomes = given.Rotation true false ∷ given.Rotation false false ∷ given.Measure false ∷ []

pub three : axes three_products.items three_outcomes ≡ plus (Z ∷ []) ∷ minus (Y ∷ []) ∷ minus (Y ∷ []) ∷ []
unfolding conj commute
three = refl

pub three_bit : bit_after three_products.items three_outcomes 0 ≡ true
unfolding conj commute
three_bit = refl

-- s, h, t, measure
pub lowered : statics (Turn (plus (Z ∷ [])) Quarter ∷ Turn (plus (Z ∷ [])) Quarter ∷ Turn (plus (X ∷ [])) Quarter ∷ Turn (plus (Z ∷ [])) Quarter ∷ Turn (plus (Z ∷ [])) Eighth ∷ Measure (plus (Z ∷ [])) 0 ∷ []) ≡ record { axis = minus (Y ∷ []); kind = kind.Rotation } ∷ record { axis = minus (Y ∷ []); kind = kind.Measure 0 } ∷ []
unfolding conj commute
lowered = refl

-- two qubits and a bit: m ZI, if (c == 1) x q1, m ZI again, with outcomes 1 and 0
pub settled : axes (Measure (plus (Z ∷ I ∷ [])) 0 ∷ item.If (plus (I ∷ X ∷ [])) 0 1 1 ∷ Measure (plus (I ∷ Z ∷ [])) 0 ∷ []) (given.Measure true ∷ given.Settled ∷ given.Measure false ∷ []) ≡ plus (Z ∷ I ∷ []) ∷ plus (I ∷ X ∷ []) ∷ minus (I ∷ Z ∷ []) ∷ []
unfolding conj commute
settled = refl

-- rotations about +Z and +X, a reset and a measurement of +Z: a qubit with a register of one bit, and a hidden bit
abbrev pub every_item : Circuit
every_item = record {
  qubits = 1;
  registers = record { name = 99 ∷ []; first = 0; size = 1 } ∷ [];
  items = Turn (plus (Z ∷ [])) Eighth ∷ Turn (plus (X ∷ [])) Eighth ∷ Measure (plus (X ∷ [])) 1 ∷ item.If (plus (X ∷ [])) 1 1 1 ∷ Measure (plus (Z ∷ [])) 0 ∷ [];
  hidden = 1;
}

-- -Y has the raw outcome 0, so the effective one is 1, and the reset flips
pub reset : axes every_item.items (given.Rotation true false ∷ given.Rotation false false ∷ given.Measure false ∷ given.Settled ∷ given.Measure false ∷ []) ≡ plus (Z ∷ []) ∷ minus (Y ∷ []) ∷ minus (Y ∷ []) ∷ minus (Y ∷ []) ∷ minus (X ∷ []) ∷ []
unfolding conj commute
reset = refl
