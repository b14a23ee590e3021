-- What a history tells of its products, and where a program's share begins.
use Rattle.std.specs.Prelude.{◌≡◌, ℕ, ◌<◌, List, length, take, slice_index_or, Option, None}
use Rattle.std.specs.Option.{option_or}
use Rattle.source_model.specs.declared.Circuit.{Circuit}
use Rattle.source_model.specs.declared.Given.{Given}
use Rattle.side_by_side.specs.declared.axes.Start.{Start}
use Rattle.side_by_side.specs.Joined.{products_of, qubits_of}

-- a table goes on with what is told of each product; what was told first stays
pub record Hears (f : ℕ → Option Given) (was now : List (Option Given)) : Type 0 where
  pub count : length now ≡ length was
  pub each : (p : ℕ) → p < length was → slice_index_or now p None ≡ option_or (slice_index_or was p None) (f p)

-- a table has this of each of n products
pub record Tells (n : ℕ) (f : ℕ → Option Given) (told : List (Option Given)) : Type 0 where
  pub count : length told ≡ n
  pub each : (p : ℕ) → p < n → slice_index_or told p None ≡ f p

-- the first qubit and the first product of program i; for the number after the last one's, how many there are in all
abbrev pub start_of : List Circuit → ℕ → Start
start_of cs i = record { qubit = qubits_of (take i cs); product = products_of (take i cs) }
