-- Texts of bytes that no line feed is among.
use Rattle.std.proofs.Common.{◌≡◌, ◌≢◌, ℕ, false, Bool, IsTrue, List, [], ◌∷◌, ap}
use Rattle.std.specs.List.{list_all, AllByRecursion as ByRecursion}
use Rattle.std.proofs.lemmas.Bool.{and_parts}
use Rattle.std.proofs.lemmas.List.Elements.{All-from_recursion}
use Rattle.source_model.specs.Circuits.{IsOneLine}

other_byte : (f : ℕ → Bool) (b n : ℕ) → IsTrue (f b) → f n ≡ false → b ≢ n
other_byte f b n h fails e = let g = ap f e in cc

one_line_bytes : (f : ℕ → Bool) → f 10 ≡ false → (bs : List ℕ) → IsTrue (list_all f bs) → ByRecursion (λ b. b ≢ 10) bs
one_line_bytes f feed [] h = tt
one_line_bytes f feed (b ∷ bs) h = let p = and_parts (f b) (list_all f bs) h in (other_byte f b 10 p.0 feed, one_line_bytes f feed bs p.1)

pub IsOneLine-bytes : (f : ℕ → Bool) → f 10 ≡ false → (w : List ℕ) → IsTrue (list_all f w) → IsOneLine w
IsOneLine-bytes f feed w h = All-from_recursion (λ c. c ≢ 10) w (one_line_bytes f feed w h)
