-- Tests one after another.
use Rattle.std.proofs.Common.{◌≡◌, Bool, true, false, ◌||◌, refl}

-- a test before has passed
pub passed : (a b : Bool) → true ≡ a → true ≡ (a || b)
passed true b e = refl
passed false b e = cc

-- this test has passed
pub passes_here : (a b : Bool) → true ≡ b → true ≡ (a || b)
passes_here true b e = refl
passes_here false b e = e

-- none has passed
pub none_passed : (a b : Bool) → false ≡ a → false ≡ b → false ≡ (a || b)
none_passed true b e f = e
none_passed false b e f = f
