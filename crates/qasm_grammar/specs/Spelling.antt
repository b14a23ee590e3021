-- What tokens a statement is spelled with, and which of them it names.
use Rattle.std.specs.Prelude.{◌≡◌, true, ℕ, Bool, ◌+◌, if◌then◌else◌, List, [], ◌∷◌, ◌++◌, flat_map, slice_get, Some}
use Rattle.qasm_grammar.specs.declared.terminal.Terminal.{Terminal}
use Rattle.qasm_grammar.specs.declared.terminal.Terminal.TheVariants.{Pauli, Callee, Include, Qreg, Creg, Measure, Barrier, Reset, Cx, Name, Whole, Qelib, Semicolon, Comma, Open, Close, OpenBracket, CloseBracket, OpenBrace, CloseBrace, Arrow, Gate, If, Equals}
use Rattle.qasm_grammar.specs.Forms.{fits}
use Rattle.qasm_grammar.specs.declared.spoken.Argument.{Argument}
use Rattle.qasm_grammar.specs.declared.spoken.Argument.TheVariants as arguments
use Rattle.qasm_grammar.specs.declared.spoken.GateCall.{GateCall}
use Rattle.qasm_grammar.specs.declared.spoken.BodyStatement.{BodyStatement}
use Rattle.qasm_grammar.specs.declared.spoken.BodyStatement.TheVariants as bodies
use Rattle.qasm_grammar.specs.declared.spoken.Sentence.{Sentence}
use Rattle.qasm_grammar.specs.declared.spoken.Sentence.TheVariants as sentences

-- a fixed token, or one at a place that the statement names
pub data Piece : Type 0 where
  fixed : Terminal → Piece
  given : Terminal → ℕ → Piece

-- a token that the grammar means stands there
abbrev pub Stands : Terminal → List Terminal → ℕ → Type 0
Stands s found at = (t : Terminal) × (slice_get found at ≡ Some t) × (fits t s ≡ true)

abbrev pub StandsAt : Piece → List Terminal → ℕ → Type 0
StandsAt (fixed t) found at = Stands t found at
StandsAt (given t place) found at = Stands t found at × (place ≡ at)

-- the pieces stand one after another, from a place up to another
abbrev pub Spells : List Piece → List Terminal → ℕ → ℕ → Type 0
Spells [] found at end = at ≡ end
Spells (p ∷ ps) found at end = StandsAt p found at × Spells ps found (at + 1) end

abbrev pub arg_text : Argument → List Piece
arg_text (arguments.Whole name) = given Name name ∷ []
arg_text (arguments.Single name index) = given Name name ∷ fixed OpenBracket ∷ given Whole index ∷ fixed CloseBracket ∷ []

-- the first, and each further one after a comma
abbrev pub listed : {X : Type 0} → (X → List Piece) → List X → List Piece
listed text [] = []
listed text (x ∷ xs) = text x ++ flat_map (λ y. fixed Comma ∷ text y) xs

abbrev pub args_text : List Argument → List Piece
args_text xs = listed arg_text xs

abbrev pub names_text : List ℕ → List Piece
names_text ns = listed (λ n. given Name n ∷ []) ns

abbrev pub brackets_text : Bool → List Piece
brackets_text b = if b then fixed Open ∷ fixed Close ∷ [] else []

abbrev pub register_text : Terminal → ℕ → ℕ → List Piece
register_text kind name size = fixed kind ∷ given Name name ∷ fixed OpenBracket ∷ given Whole size ∷ fixed CloseBracket ∷ fixed Semicolon ∷ []

abbrev pub call_text : Terminal → GateCall → List Piece
call_text callee c = given callee c.name ∷ (brackets_text c.brackets ++ (args_text c.args ++ fixed Semicolon ∷ []))

abbrev pub names_after_text : Terminal → List ℕ → List Piece
names_after_text word ns = fixed word ∷ (names_text ns ++ fixed Semicolon ∷ [])

abbrev pub body_text : BodyStatement → List Piece
body_text (bodies.Call name brackets formals) = given Callee name ∷ (brackets_text brackets ++ (names_text formals ++ fixed Semicolon ∷ []))
body_text (bodies.Cx at formals) = given Cx at ∷ (names_text formals ++ fixed Semicolon ∷ [])
body_text (bodies.Barrier formals) = names_after_text Barrier formals

abbrev pub bodies_text : List BodyStatement → List Piece
bodies_text bs = flat_map body_text bs

abbrev pub sentence_text : Sentence → List Piece
sentence_text sentences.Include = fixed Include ∷ fixed Qelib ∷ fixed Semicolon ∷ []
sentence_text (sentences.Qreg name size) = register_text Qreg name size
sentence_text (sentences.Creg name size) = register_text Creg name size
sentence_text (sentences.Gate name brackets formals body) = fixed Gate ∷ given Name name ∷ (brackets_text brackets ++ (names_text formals ++ (fixed OpenBrace ∷ (bodies_text body ++ fixed CloseBrace ∷ []))))
sentence_text (sentences.Call call) = call_text Callee call
sentence_text (sentences.If register value call) = fixed If ∷ fixed Open ∷ given Name register ∷ fixed Equals ∷ given Whole value ∷ fixed Close ∷ call_text Pauli call
sentence_text (sentences.Cx args) = fixed Cx ∷ args_text args ++ fixed Semicolon ∷ []
sentence_text (sentences.Measure from to) = fixed Measure ∷ arg_text from ++ (fixed Arrow ∷ (arg_text to ++ fixed Semicolon ∷ []))
sentence_text (sentences.Barrier args) = fixed Barrier ∷ args_text args ++ fixed Semicolon ∷ []
sentence_text (sentences.Reset a) = fixed Reset ∷ arg_text a ++ fixed Semicolon ∷ []
