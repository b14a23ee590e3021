-- Forms of statements, as the grammar writes them, and how far tokens follow one.
use Rattle.std.specs.Prelude.{◌≡◌, ℕ, Bool, true, false, ◌+◌, ◌&&◌, ◌||◌, if◌then◌else◌, List, [], ◌∷◌, drop, Option, Some, None, Result, Ok, Err}
use denote.Enum.Bare.{sameb}
use Rattle.qasm_grammar.specs.declared.follow.Refusal.{Refusal}
use Rattle.qasm_grammar.specs.declared.follow.Refusal.TheVariants.{Syntax}
use Rattle.qasm_grammar.specs.declared.terminal.Terminal.{Terminal}
use Rattle.qasm_grammar.specs.declared.terminal.Terminal.TheVariants.{Openqasm, Include, Qreg, Creg, Gate, Measure, Barrier, Reset, If, Cx, Opaque, Name, Taken, Pauli, OtherWord, Callee, Word}
use Rattle.qasm_grammar.specs.declared.follow.Halt.{Halt}
use Rattle.qasm_grammar.specs.declared.follow.Unread.{Unread}
use Rattle.qasm_grammar.specs.declared.follow.Unread.TheVariants.{Memory, Halted}
use Rattle.qasm_grammar.specs.contracts.terminal.Terminal.{the_type}

-- whether two tokens are alike for the grammar
abbrev pub same : Terminal → Terminal → Bool
same s t = sameb the_type s t

-- a word, and none of the gates that may stand under a condition
abbrev pub is_other_word : Terminal → Bool
is_other_word t =
    same t Openqasm || (same t Include || (same t Qreg || (same t Creg || (same t Gate || (same t Measure || (same t Barrier || (same t Reset || (same t If || (same t Cx || (same t Opaque || (same t Name || (same t Taken || same t OtherWord))))))))))))

-- whether a token of a text is one that the grammar means: Name is any name, Callee one that isn't taken, Word any word but x, y, z and id
abbrev pub fits : Terminal → Terminal → Bool
fits t s =
    (same s Name && (same t Taken || same t Pauli))
    || ((same s Callee && (same t Name || same t Pauli)) || ((same s Word && is_other_word t) || same t s))

-- `must` wants a token where another one is refused with a kind of its own, and `never` refuses a token with a kind of its own
pub data Form : Type 0 where
  refused : Refusal → Form
  done : Form
  one : Terminal → Form
  must : Refusal → Terminal → Form
  never : Refusal → Terminal → Form
  both : Form → Form → Form
  either : Form → Form → Form
  many : Form → Form

-- one form, and then another
infixr 30 ◌⨾◌
unfoldable pub ◌⨾◌ : Form → Form → Form
(refused kind) ⨾ g = refused kind
done ⨾ g = g
(both f h) ⨾ g = both f (h ⨾ g)
(one s) ⨾ g = both (one s) g
(must kind s) ⨾ g = both (must kind s) g
(never kind s) ⨾ g = both (never kind s) g
(either f h) ⨾ g = both (either f h) g
(many f) ⨾ g = both (many f) g

-- one form, or another; where both refuse a token, a kind of its own goes before Syntax
infixr 20 ◌or◌
unfoldable pub ◌or◌ : Form → Form → Form
(refused Syntax) or g = g
(refused kind) or (refused other) = refused kind
(refused kind) or g = g
f or (refused kind) = f
f or g = either f g

abbrev pub optional : Form → Form
optional f = either f done

unfoldable pub may_end : Form → Bool
may_end (refused kind) = false
may_end done = true
may_end (one s) = false
may_end (must kind s) = false
may_end (never kind s) = false
may_end (both f g) = may_end f && may_end g
may_end (either f g) = may_end f || may_end g
may_end (many f) = true

-- what is left of a form after a token; a refusal has a kind
unfoldable pub next : Form → Terminal → Form
next (refused kind) t = refused Syntax
next done t = refused Syntax
next (one s) t = if fits t s then done else refused Syntax
next (must kind s) t = if fits t s then done else refused kind
next (never kind s) t = if fits t s then refused kind else refused Syntax
next (both f g) t = if may_end f then (next f t ⨾ g) or (next g t) else (next f t ⨾ g)
next (either f g) t = next f t or next g t
next (many f) t = next f t ⨾ many f

abbrev pub is_done : Form → Bool
is_done done = true
is_done f = false

-- the kind of a refusal
abbrev pub refusal : Form → Option Refusal
refusal (refused kind) = Some kind
refusal f = None

-- the kind of the refusal where the text ends
unfoldable pub at_end : Form → Refusal
at_end (must kind s) = kind
at_end (both f g) = if may_end f then at_end g else at_end f
at_end f = Syntax

-- the rest is read, or the token at this place is refused
abbrev pub onward : ℕ → Option Refusal → Result ℕ Halt → Result ℕ Halt
onward n None rest = rest
onward n (Some kind) rest = Err (record { at = n; kind = kind })

-- tokens follow a form up to its end, or to the token, or the end, by which it doesn't go on; the place of the first is given
unfoldable pub reads : Form → List Terminal → ℕ → Result ℕ Halt
reads f [] n = if may_end f then Ok n else Err (record { at = n; kind = at_end f })
reads f (t ∷ ts) n = if is_done f then Ok n else onward n (refusal (next f t)) (reads (next f t) ts (n + 1))

-- what was answered for the first part of a form is what its reading gives, with the rest read from there on
abbrev pub Stopped : Unread → Result ℕ Halt → Type 0
Stopped Memory given = Unit {0}
Stopped (Halted stop) given = given ≡ Err stop

abbrev pub GoesOn : {X : Type 0} → (X → ℕ) → Result X Unread → Form → List Terminal → Result ℕ Halt → Type 0
GoesOn end_of (Ok x) k found given = given ≡ reads k (drop (end_of x) found) (end_of x)
GoesOn end_of (Err fault) k found given = Stopped fault given

-- the same for a part that ends with a token of its own, whatever follows it
abbrev pub Closes : {X : Type 0} → (X → ℕ) → Form → List Terminal → ℕ → Result X Unread → Type 0
Closes end_of f found at result = (k : Form) → refusal k ≡ None → GoesOn end_of result k found (reads (f ⨾ k) (drop at found) at)
