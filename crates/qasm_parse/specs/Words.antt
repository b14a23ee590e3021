-- What the grammar sees of a token.
use Rattle.std.specs.Prelude.{ℕ, Bool, ◌+◌, ◌==◌, ◌&&◌, ◌||◌, if◌then◌else◌, List, codes, slice_get, slice_index, slice_range, count_by, Some, None}
use Rattle.std.specs.Str.{bytes_eq}
use Rattle.qasm_lex.specs.Tokens.{is_within}
use Rattle.qasm_lex.specs.declared.Token.{Token}
use Rattle.qasm_lex.specs.declared.TokenKind.{TokenKind}
use Rattle.qasm_lex.specs.declared.TokenKind.TheVariants as kinds
use Rattle.qasm_grammar.specs.declared.terminal.Terminal.{Terminal}
use Rattle.qasm_grammar.specs.declared.terminal.Terminal.TheVariants as terminals

-- words that are no names, and stand nowhere in the grammar
unfoldable pub is_reserved : List ℕ → Bool
is_reserved word =
    bytes_eq word (codes "pi") || bytes_eq word (codes "sin") || bytes_eq word (codes "cos") || bytes_eq word (codes "tan") || bytes_eq word (codes "exp") || bytes_eq word (codes "ln") || bytes_eq word (codes "sqrt")

-- a name begins with a lower-case letter or an underscore
unfoldable pub starts_name : ℕ → Bool
starts_name b = is_within 97 122 b || b == 95

-- the gates that may stand under a condition
unfoldable pub is_pauli : List ℕ → Bool
is_pauli word = bytes_eq word (codes "x") || bytes_eq word (codes "y") || bytes_eq word (codes "z") || bytes_eq word (codes "id")

-- names that are taken after the include
unfoldable pub is_taken : List ℕ → Bool
is_taken word = bytes_eq word (codes "u1") || bytes_eq word (codes "u2") || bytes_eq word (codes "u3") || bytes_eq word (codes "rx") || bytes_eq word (codes "ry") || bytes_eq word (codes "rz") || bytes_eq word (codes "cu1") || bytes_eq word (codes "cu3") || bytes_eq word (codes "crz") || bytes_eq word (codes "ch")

unfoldable pub statement_word : Bool → List ℕ → Terminal
statement_word included word =
    if bytes_eq word (codes "include") then terminals.Include
    else if bytes_eq word (codes "qreg") then terminals.Qreg
    else if bytes_eq word (codes "creg") then terminals.Creg
    else if bytes_eq word (codes "gate") then terminals.Gate
    else if bytes_eq word (codes "measure") then terminals.Measure
    else if bytes_eq word (codes "barrier") then terminals.Barrier
    else if bytes_eq word (codes "reset") then terminals.Reset
    else if bytes_eq word (codes "if") then terminals.If
    else if is_pauli word then terminals.Pauli
    else if included && is_taken word then terminals.Taken
    else terminals.Name

unfoldable pub word_terminal : Bool → List ℕ → Terminal
word_terminal included word =
    if bytes_eq word (codes "CX") then terminals.Cx
    else if bytes_eq word (codes "OPENQASM") then terminals.Openqasm
    else if bytes_eq word (codes "opaque") || bytes_eq word (codes "U") then terminals.Opaque
    else if is_reserved word then terminals.OtherWord
    else if starts_name (slice_index word 0) then statement_word included word
    else terminals.OtherWord

unfoldable pub symbol_terminal : List ℕ → Terminal
symbol_terminal symbol =
    if bytes_eq symbol (codes ";") then terminals.Semicolon
    else if bytes_eq symbol (codes ",") then terminals.Comma
    else if bytes_eq symbol (codes "(") then terminals.Open
    else if bytes_eq symbol (codes ")") then terminals.Close
    else if bytes_eq symbol (codes "[") then terminals.OpenBracket
    else if bytes_eq symbol (codes "]") then terminals.CloseBracket
    else if bytes_eq symbol (codes "{") then terminals.OpenBrace
    else if bytes_eq symbol (codes "}") then terminals.CloseBrace
    else if bytes_eq symbol (codes "->") then terminals.Arrow
    else if bytes_eq symbol (codes "==") then terminals.Equals
    else terminals.Other

-- the version's number is the real of exactly these three bytes
abbrev pub real_terminal : List ℕ → Terminal
real_terminal real = if bytes_eq real (codes "2.0") then terminals.Two else terminals.Other

-- the one include that is read
abbrev pub quoted_terminal : List ℕ → Terminal
quoted_terminal quoted = if bytes_eq quoted (codes "\"qelib1.inc\"") then terminals.Qelib else terminals.Quoted

unfoldable pub kind_terminal : Bool → TokenKind → List ℕ → Terminal
kind_terminal included kinds.Word bytes = word_terminal included bytes
kind_terminal included kinds.Whole bytes = terminals.Whole
kind_terminal included kinds.Real bytes = real_terminal bytes
kind_terminal included kinds.Quoted bytes = quoted_terminal bytes
kind_terminal included kinds.Symbol bytes = symbol_terminal bytes

unfoldable pub terminal_of : Bool → List ℕ → Token → Terminal
terminal_of included text token = kind_terminal included token.kind (slice_range text token.start token.end)

-- the line of a token, or that of the end: one more than there are line feeds
unfoldable pub line_at : List ℕ → List Token → ℕ → ℕ
line_at text tokens at =
    elim (slice_get tokens at) [
      | Some t ↦ t.line
      | None ↦ 1 + count_by (λ b. b == 10) text
    ]
