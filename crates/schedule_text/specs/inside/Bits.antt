-- Tables of signs and raw outcomes, filled entry by entry.
use Rattle.std.specs.Prelude.{◌≡◌, ℕ, Bool, false, ◌<◌, slice_index_or, List, [], ◌∷◌, length, Option, None, unwrap_or}
use Rattle.std.specs.Option.{option_map, option_or}
use Rattle.pauli_product.specs.Signed.{Signed}
use Rattle.pauli_product.specs.Corrections.{xor}
use Rattle.source_model.specs.declared.Given.{Given}
use Rattle.source_model.specs.Outcomes.{raw_of}

-- the sign of the axis about which a product is claimed, and its raw outcome
abbrev pub claimed_sign : Option Signed → Option Bool
claimed_sign axis = option_map (λ a. a.sign) axis

abbrev pub raw_outcome : Option Given → Option Bool
raw_outcome given = option_map raw_of given

-- a table goes on with what is said of each product; what was said first stays
pub record Hears (f : ℕ → Option Bool) (was now : List (Option Bool)) : Type 0 where
  pub count : length now ≡ length was
  pub each : (p : ℕ) → p < length was → slice_index_or now p None ≡ option_or (slice_index_or was p None) (f p)

-- a table has this of each of n products
pub record Tells (n : ℕ) (f : ℕ → Option Bool) (said : List (Option Bool)) : Type 0 where
  pub count : length said ≡ n
  pub each : (p : ℕ) → p < n → slice_index_or said p None ≡ f p

-- the effective outcomes by these signs and raw outcomes
abbrev pub turned_round : List (Option Bool) → List (Option Bool) → List Bool
turned_round [] raws = []
turned_round (s ∷ ss) [] = []
turned_round (s ∷ ss) (r ∷ rs) = xor (unwrap_or r false) (unwrap_or s false) ∷ turned_round ss rs
