-- What a frame that stands for turns answers.
use Rattle.std.specs.Prelude.{◌≡◌, ℕ, List, [], ◌∷◌}
use Rattle.pauli_product.specs.Signed.{Signed, OfLength}
use Rattle.pauli_product.specs.Pulls.{Turn, turn, quarter, half, pull, carry, TurnsOfLength}
use Rattle.frame_table.specs.Images.{Images, After}
use Rattle.source_model.specs.declared.Angle.TheVariants.{Eighth, Quarter, Half}
use Rattle.source_model.specs.declared.Item.{Item}
use Rattle.source_model.specs.declared.Item.TheVariants as item

-- the turn of a Clifford rotation
abbrev pub turn_of : Item → List Turn
turn_of (item.Turn axis Eighth) = []
turn_of (item.Turn axis Quarter) = turn axis quarter ∷ []
turn_of (item.Turn axis Half) = turn axis half ∷ []
turn_of (item.Measure axis bit) = []
turn_of (item.If axis first size value) = []

-- the frame answers what becomes of each product that is pulled through these turns, the latest first
pub record Answers (n : ℕ) (turns : List Turn) (f : Images) : Type 0 where
  pub corrections : List Turn
  pub after : After n corrections f
  pub long : TurnsOfLength n turns
  pub pulls : (p : Signed) → OfLength n p → carry corrections p ≡ pull turns p
