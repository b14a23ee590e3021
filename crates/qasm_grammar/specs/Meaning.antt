-- Which lists of tokens a form allows, said without following any.
use Rattle.std.specs.Prelude.{◌≡◌, ◌≤◌, true, ◌⊎◌, ℕ, ◌+◌, List, [], ◌∷◌, ◌++◌, length, take, Some, slice_get}
use Rattle.qasm_grammar.specs.declared.terminal.Terminal.{Terminal}
use Rattle.qasm_grammar.specs.declared.follow.Halt.{Halt}
use Rattle.qasm_grammar.specs.Forms.{fits, Form, refused, done, one, must, never, both, either, many}

-- each part of a list of lists
abbrev pub Each : (List Terminal → Type 0) → List (List Terminal) → Type 0
Each P [] = Unit {0}
Each P (part ∷ parts) = P part × Each P parts

abbrev pub joined : List (List Terminal) → List Terminal
joined [] = []
joined (part ∷ parts) = part ++ joined parts

abbrev pub Allows : Form → List Terminal → Type 0
Allows (refused kind) ts = ⊥
Allows done ts = ts ≡ []
Allows (one s) ts = (t : Terminal) × (ts ≡ t ∷ []) × (fits t s ≡ true)
Allows (must kind s) ts = (t : Terminal) × (ts ≡ t ∷ []) × (fits t s ≡ true)
Allows (never kind s) ts = ⊥
Allows (both f g) ts = (front : List Terminal) × (back : List Terminal) × (ts ≡ front ++ back) × Allows f front × Allows g back
Allows (either f g) ts = Allows f ts ⊎ Allows g ts
Allows (many f) ts = (parts : List (List Terminal)) × (ts ≡ joined parts) × Each (Allows f) parts

-- each part of the form allows a list, but for tokens that are refused on purpose
abbrev pub Live : Form → Type 0
Live (refused kind) = ⊥
Live done = Unit {0}
Live (one s) = Unit {0}
Live (must kind s) = Unit {0}
Live (never kind s) = ⊥
Live (both f g) = Live f × Live g
Live (either (never kind s) g) = Live g
Live (either f (never kind s)) = Live f
Live (either f g) = Live f × Live g
Live (many f) = Live f

-- the tokens up to a place begin a list that the form allows, and no such list goes on with the token there, or ends where they end
pub record StopsAt (f : Form) (ts : List Terminal) (n : ℕ) (stop : Halt) : Type 0 where
  pub taken : ℕ
  pub place : stop.at ≡ n + taken
  pub begins : Live f → (rest : List Terminal) × Allows f (take taken ts ++ rest)
  pub ends : (t : Terminal) (rest : List Terminal) → slice_get ts taken ≡ Some t → Allows f (take taken ts ++ t ∷ rest) → ⊥
  pub short : taken ≡ length ts → Allows f ts → ⊥

-- the first tokens are a list that the form allows
pub record ReadsTo (f : Form) (ts : List Terminal) (n end : ℕ) : Type 0 where
  pub taken : ℕ
  pub place : end ≡ n + taken
  pub within : taken ≤ length ts
  pub allowed : Allows f (take taken ts)
