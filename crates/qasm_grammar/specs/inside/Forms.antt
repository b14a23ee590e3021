-- Parts of forms, whatever comes after them.
use Rattle.std.specs.Prelude.{◌≡◌, ℕ, Bool, false, List, [], ◌∷◌, drop, None, Result}
use Rattle.qasm_grammar.specs.declared.follow.Refusal.TheVariants.{Syntax}
use Rattle.qasm_grammar.specs.declared.terminal.Terminal.{Terminal}
use Rattle.qasm_grammar.specs.declared.follow.Unread.{Unread}
use Rattle.qasm_grammar.specs.Forms.{fits, Form, refused, one, both, ◌⨾◌, next, is_done, refusal, reads, GoesOn}

-- these tokens, and then the rest
abbrev pub tokens_then : List Terminal → Form → Form
tokens_then [] k = k
tokens_then (s ∷ ss) k = both (one s) (tokens_then ss k)

abbrev pub is_next : Terminal → List Terminal → Bool
is_next s [] = false
is_next s (t ∷ ts) = fits t s

-- none of these tokens goes on with the form
abbrev pub NoneGoesOn : Form → List Terminal → Type 0
NoneGoesOn k [] = Unit {0}
NoneGoesOn k (t ∷ ts) = (next k t ≡ refused Syntax) × NoneGoesOn k ts

-- a form that has a next token, and none of these
pub record Follows (k : Form) (others : List Terminal) : Type 0 where
  pub lives : refusal k ≡ None
  pub waits : is_done k ≡ false
  pub apart : NoneGoesOn k others

-- a part of a statement was read as its form says, whatever follows it that doesn't begin with one of these tokens
abbrev pub Reads : {X : Type 0} → (X → ℕ) → Form → List Terminal → List Terminal → ℕ → Result X Unread → Type 0
Reads end_of f others found at result = (k : Form) → Follows k others → GoesOn end_of result k found (reads (f ⨾ k) (drop at found) at)
