-- Products of small jobs.
use Rattle.std.specs.Prelude.{◌≡◌, ℕ, Bool, true}
use Rattle.pauli_product.specs.Signed.{OfLength, IsNotIdentity}
use Rattle.source_model.specs.declared.Static.{Static}
use Rattle.source_model.specs.declared.Kind.TheVariants as kind

-- a product on so many qubits, with a letter other than I, and a rotation only where there are rotations
pub record Suits (qubits : ℕ) (rotations : Bool) (s : Static) : Type 0 where
  pub long : OfLength qubits s.axis
  pub letter : IsNotIdentity s.axis
  pub kind : s.kind ≡ kind.Rotation → rotations ≡ true
