-- What the plain program keeps stands for the run's progress.
use Rattle.std.proofs.Common.{◌≡◌, ℕ, zero, suc, ◌+◌, ◌*◌, ◌==◌, Bool, true, false, if◌then◌else◌, List, [], ◌∷◌, ◌++◌, slice_index_or, replicate, refl, ap, ap₂, ◌∙◌, append-nil}
use Rattle.pauli_product.specs.Bits.{number_of}
use Rattle.pauli_product.specs.Corrections.{turn_if}
use Rattle.pauli_product.specs.Pulls.{Turn, turn, half}
use Rattle.pauli_product.specs.Signed.{Signed}
use Rattle.source_model.specs.inside.Kept.{Keeps}
use Rattle.source_model.specs.Outcomes.{bit_of}
use Rattle.source_model.specs.SourceRun.{Progress, fresh, flips, turned}

same_number : (g h : ℕ → Bool) (first size : ℕ) → ((b : ℕ) → g b ≡ h b) → number_of g first size ≡ number_of h first size
same_number g h first zero e = refl
same_number g h first (suc size) e = ap₂ (λ b n. (if b then 1 else 0) + 2 * n) (e first) (same_number g h (first + 1) size e)

-- a settled product's turn
pub keeps_settled : (f : Progress) (turns : List Turn) (bits : List Bool) (axis : Signed) (first size value : ℕ) (now : List Turn) → Keeps f turns bits →
    now ≡ turns ++ turn_if (number_of (λ b. slice_index_or bits b false) first size == value) axis half →
    Keeps (if flips f first size value then turned (turn axis half ∷ []) f else f) now bits
keeps_settled f turns bits axis first size value now k e =
    let same : number_of (λ b. slice_index_or bits b false) first size ≡ number_of (bit_of f.writes) first size = same_number (λ b. slice_index_or bits b false) (bit_of f.writes) first size k.same_bits in
    cases (flips f first size value)
    (e ∙ ap₂ (λ ts n. ts ++ turn_if (n == value) axis half) k.same_turns same)
  where
    cases : (b : Bool) → now ≡ f.turns ++ turn_if b axis half → Keeps (if b then turned (turn axis half ∷ []) f else f) now bits
    cases true e = record { same_turns = e; same_bits = k.same_bits }
    cases false e = record { same_turns = e ∙ append-nil f.turns; same_bits = k.same_bits }

-- nothing is written to a new table
unwritten : (n b : ℕ) → slice_index_or (replicate n false) b false ≡ false
unwritten zero b = refl
unwritten (suc n) zero = refl
unwritten (suc n) (suc b) = unwritten n b

pub keeps_fresh : (n : ℕ) (turns : List Turn) (bits : List Bool) → turns ≡ [] → bits ≡ replicate n false → Keeps fresh turns bits
keeps_fresh n turns bits e f = record { same_turns = e; same_bits = λ b. ap (λ bs. slice_index_or bs b false) f ∙ unwritten n b }
