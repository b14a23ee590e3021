-- Products of the boards that the tests share.
use Rattle.std.specs.Prelude.{◌≡◌, Bool, true}
use Rattle.pauli_product.specs.Signed.{OfLength, IsNotIdentity}
use Rattle.source_model.specs.declared.Static.{Static}
use Rattle.source_model.specs.declared.Kind.TheVariants as kind

-- on two qubits, with a letter other than I, and a rotation only where there may be some
pub record IsServed (rotations : Bool) (s : Static) : Type 0 where
  pub on_two : OfLength 2 s.axis
  pub letter : IsNotIdentity s.axis
  pub port : s.kind ≡ kind.Rotation → rotations ≡ true
