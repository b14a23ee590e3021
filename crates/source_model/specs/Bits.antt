-- The bits that effective outcomes leave.
use Rattle.std.specs.Prelude.{ℕ, Bool, false, if◌then◌else◌, List, [], ◌∷◌, map}
use Rattle.std.specs.List.{range_with_len}
use Rattle.pauli_product.specs.Signed.{Signed}
use Rattle.pauli_product.specs.Corrections.{effective}
use Rattle.pauli_product.specs.Commuting.{is_written}
use Rattle.source_model.specs.declared.Given.{Given}
use Rattle.source_model.specs.declared.Item.{Item}
use Rattle.source_model.specs.declared.Kind.{Kind}
use Rattle.source_model.specs.declared.Register.{Register}
use Rattle.source_model.specs.Circuits.{bits_in}
use Rattle.source_model.specs.Outcomes.{raw_of}
use Rattle.source_model.specs.SourceRun.{bit_after}
use Rattle.source_model.specs.Statics.{uses_of}

-- the bits of the registers after the run, in order
abbrev pub bits_after : List Register → List Item → List Given → List Bool
bits_after registers items gs = map (bit_after items gs) (range_with_len 0 (bits_in registers))

-- the effective outcome of each product about its axis
abbrev pub effective_outcomes : List Signed → List Given → List Bool
effective_outcomes [] gs = []
effective_outcomes (a ∷ as') [] = []
effective_outcomes (a ∷ as') (g ∷ gs) = effective a (raw_of g) ∷ effective_outcomes as' gs

-- whether a product measures into the bit
abbrev pub writes : Kind → ℕ → Bool
writes k bit = is_written (uses_of k).write bit

-- a bit after products of these kinds and outcomes, with the value that it had before them
abbrev pub bit_after_products : Bool → ℕ → List Kind → List Bool → Bool
bit_after_products before bit [] os = before
bit_after_products before bit (k ∷ ks) [] = before
bit_after_products before bit (k ∷ ks) (o ∷ os) = bit_after_products (if writes k bit then o else before) bit ks os

-- the outcome of the last product that measures into a bit, and 0 where there is none
abbrev pub last_outcome_into : ℕ → List Kind → List Bool → Bool
last_outcome_into bit ks os = bit_after_products false bit ks os
