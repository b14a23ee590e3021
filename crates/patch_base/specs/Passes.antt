-- Bytes on their way through a pen, which holds some of them back, to a sink.
use Rattle.std.specs.Prelude.{◌≡◌, ℕ, List, ◌++◌, Option}
use Rattle.patch_base.specs.Outside.{Grew}

-- of the bytes that were held and of these, the first went to the sink, and the others are held
pub record Passes (was now : Option (List ℕ)) (held holds bytes : List ℕ) : Type 0 where
  pub sent : List ℕ
  pub grew : Grew was now sent
  pub whole : held ++ bytes ≡ sent ++ holds
