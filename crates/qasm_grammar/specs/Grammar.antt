-- The grammar of OpenQASM 2.0's subset, production by production.
use Rattle.qasm_grammar.specs.declared.follow.Refusal.TheVariants.{Version, Parameters, Unsupported}
use Rattle.qasm_grammar.specs.declared.terminal.Terminal.{Terminal}
use Rattle.qasm_grammar.specs.declared.terminal.Terminal.TheVariants.{Openqasm, Two, Qelib, Taken, Pauli, Callee, Word, Include, Qreg, Creg, Gate, Measure, Barrier, Reset, If, Cx, Name, Whole, Quoted, Semicolon, Comma, Open, Close, OpenBrace, CloseBrace, OpenBracket, CloseBracket, Arrow, Equals, Opaque}
use Rattle.qasm_grammar.specs.Forms.{Form, done, one, must, never, many, optional, ◌⨾◌, ◌or◌}

-- every text begins with it
unfoldable pub version : Form
version = must Version Openqasm ⨾ must Version Two ⨾ must Version Semicolon

unfoldable pub arg : Form
arg = one Name ⨾ optional (one OpenBracket ⨾ one Whole ⨾ one CloseBracket)

unfoldable pub args : Form
args = arg ⨾ many (one Comma ⨾ arg)

unfoldable pub names : Form
names = one Name ⨾ many (one Comma ⨾ one Name)

-- an open bracket after a name wants a closing one
unfoldable pub brackets : Form
brackets = optional (one Open ⨾ must Parameters Close)

-- another text than `qelib1.inc` isn't read
unfoldable pub include : Form
include = one Include ⨾ (one Qelib or never Unsupported Quoted) ⨾ one Semicolon

unfoldable pub register : Terminal → Form
register kind = one kind ⨾ one Name ⨾ one OpenBracket ⨾ one Whole ⨾ one CloseBracket ⨾ one Semicolon

unfoldable pub call_of : Terminal → Form
call_of callee = one callee ⨾ brackets ⨾ args ⨾ one Semicolon

unfoldable pub named_call : Form
named_call = call_of Callee

unfoldable pub cx_call : Form
cx_call = one Cx ⨾ args ⨾ one Semicolon

unfoldable pub measure : Form
measure = one Measure ⨾ arg ⨾ one Arrow ⨾ arg ⨾ one Semicolon

unfoldable pub barrier : Form
barrier = one Barrier ⨾ args ⨾ one Semicolon

unfoldable pub reset : Form
reset = one Reset ⨾ arg ⨾ one Semicolon

unfoldable pub names_after : Terminal → Form
names_after word = one word ⨾ names ⨾ one Semicolon

unfoldable pub body_call : Form
body_call = one Callee ⨾ brackets ⨾ names ⨾ one Semicolon

unfoldable pub body : Form
body = never Unsupported Opaque or never Unsupported Taken or body_call or names_after Cx or names_after Barrier

unfoldable pub bodies : Form
bodies = many body ⨾ one CloseBrace

unfoldable pub gate : Form
gate = one Gate ⨾ one Name ⨾ brackets ⨾ names ⨾ one OpenBrace ⨾ bodies

-- under a condition stand x, y, z and id alone
unfoldable pub if_equal : Form
if_equal = one If ⨾ one Open ⨾ one Name ⨾ one Equals ⨾ one Whole ⨾ one Close ⨾ (call_of Pauli or never Unsupported Word)

unfoldable pub statement : Form
statement =
    never Unsupported Opaque or never Unsupported Taken or include or register Qreg or register Creg or gate or named_call or cx_call
    or measure or barrier or reset or if_equal

-- a statement by itself
abbrev pub one_statement : Form
one_statement = statement ⨾ done

-- the version by itself
abbrev pub one_version : Form
one_version = version ⨾ done
