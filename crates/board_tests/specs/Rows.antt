-- Products of small boards.
use Rattle.pauli_product.specs.Signed.{OfLength, IsNotIdentity}
use Rattle.source_model.specs.declared.Static.{Static}

-- a product on two qubits, with a letter other than I
abbrev pub IsOnTwo : Static → Type 0
IsOnTwo s = OfLength 2 s.axis × IsNotIdentity s.axis
