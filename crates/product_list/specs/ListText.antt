-- What the text of a product list stands for, or the first rule that it breaks.
use Rattle.std.specs.Prelude.{ℕ, Bool, true, false, not, ◌+◌, ◌==◌, ◌&&◌, ◌||◌, nat_le, nat_lt, if◌then◌else◌, List, [], ◌∷◌, ◌++◌, length, map, find, is_some, drop, codes, Option, Some, None, Result, Ok, Err}
use Rattle.std.specs.List.{list_all, list_any}
use Rattle.std.specs.Option.{option_map}
use Rattle.std.specs.Str.{bytes_eq}
use Rattle.std.specs.Str.Parse.{digits_value}
use Rattle.patch_base.specs.Texts.{lines, words}
use Rattle.patch_base.specs.Names.{is_name}
use Rattle.pauli_product.specs.declared.Letter.{Letter}
use Rattle.pauli_product.specs.declared.Letter.TheVariants.{I, X, Y, Z}
use Rattle.pauli_product.specs.Signed.{Signed, plus}
use Rattle.source_model.specs.declared.Angle.TheVariants.{Eighth}
use Rattle.source_model.specs.declared.Circuit.{Circuit}
use Rattle.source_model.specs.declared.Item.{Item}
use Rattle.source_model.specs.declared.Item.TheVariants as item
use Rattle.source_model.specs.declared.Register.{Register}
use Rattle.source_model.specs.Circuits.{bits_in}
use Rattle.qasm_lex.specs.declared.fault.FaultKind.{FaultKind}
use Rattle.qasm_lex.specs.declared.fault.FaultKind.TheVariants.{TooLong, Syntax, Version, Declared, Undeclared, Index, Sizes, TooMany}
use Rattle.qasm_lex.specs.declared.fault.CircuitFault.{CircuitFault}
use Rattle.qasm_lex.specs.declared.fault.CircuitFault.TheVariants as fault
use Rattle.qasm_lex.specs.Tokens.{is_whole}
use Rattle.product_list.specs.declared.line.Form.{Form}
use Rattle.product_list.specs.declared.line.Form.TheVariants as forms

-- ---- words

-- the value of digits
abbrev pub value_of : List ℕ → ℕ
value_of word = digits_value 10 word

abbrev pub is_letter : ℕ → Bool
is_letter b = b == 73 || b == 88 || b == 89 || b == 90

abbrev pub letter_of : ℕ → Letter
letter_of b = if b == 88 then X else if b == 89 then Y else if b == 90 then Z else I

-- a sign, and letters that aren't all I
unfoldable pub is_axis : List ℕ → Bool
is_axis [] = false
is_axis (b ∷ bs) = (b == 43 || b == 45) && list_all is_letter bs && list_any (λ c. not (c == 73)) bs

unfoldable pub axis_in_text : List ℕ → Signed
axis_in_text [] = plus []
axis_in_text (b ∷ bs) = record { sign = b == 45; letters = map letter_of bs }

-- ---- lines

-- what stands after the axis of a product
pub data Ending : Type 0 where
  rotation : Ending
  measurement : List ℕ → ℕ → Ending
  hidden : Ending
  settled : List ℕ → ℕ → Ending
  reset : ℕ → Ending

-- a line declares a register of a name and a size, or gives a product
pub data Line : Type 0 where
  register : List ℕ → ℕ → Line
  product : Signed → Ending → Line

-- the form of a product's line by its first word; three forms belong to version 2 alone
unfoldable pub form_of : Bool → List ℕ → Option Form
form_of two key =
    if bytes_eq key (codes "r") then Some forms.Rotation
    else if bytes_eq key (codes "m") then Some forms.Measurement
    else if two && bytes_eq key (codes "h") then Some forms.Hidden
    else if two && bytes_eq key (codes "i") then Some forms.Settled
    else if two && bytes_eq key (codes "j") then Some forms.Reset
    else None

-- no word
unfoldable pub at_end : List (List ℕ) → Ending → Option Ending
at_end [] e = Some e
at_end (w ∷ ws) e = None

-- a number, and no further word
unfoldable pub number_alone : List (List ℕ) → Option ℕ
number_alone (w ∷ []) = if is_whole w then Some (value_of w) else None
number_alone _ = None

-- a name and a number, and no further word
unfoldable pub name_and_number : List (List ℕ) → Option (List ℕ × ℕ)
name_and_number (w ∷ v ∷ []) = if is_name w && is_whole v then Some (w, value_of v) else None
name_and_number _ = None

-- the words after an axis
unfoldable pub ending_of : Form → List (List ℕ) → Option Ending
ending_of forms.Rotation ws = at_end ws rotation
ending_of forms.Measurement ws = option_map (λ p. measurement p.0 p.1) (name_and_number ws)
ending_of forms.Hidden ws = at_end ws hidden
ending_of forms.Settled ws = option_map (λ p. settled p.0 p.1) (name_and_number ws)
ending_of forms.Reset ws = option_map reset (number_alone ws)

-- the words after the first one of a product's line
unfoldable pub product_of : Form → List (List ℕ) → Option Line
product_of form [] = None
product_of form (w ∷ ws) = if is_axis w then option_map (product (axis_in_text w)) (ending_of form ws) else None

unfoldable pub formed : Option Form → List (List ℕ) → Option Line
formed None ws = None
formed (Some form) ws = product_of form ws

-- what the words of a line say; None where they have none of the forms
unfoldable pub line_of : Bool → List (List ℕ) → Option Line
line_of two [] = None
line_of two (key ∷ ws) =
    if bytes_eq key (codes "c") then option_map (λ p. register p.0 p.1) (name_and_number ws)
    else formed (form_of two key) ws

-- ---- rules

-- what comes next, unless a rule is broken
abbrev pub unless : {X : Type 0} → Bool → FaultKind → Result X FaultKind → Result X FaultKind
unless broken kind next = if broken then Err kind else next

-- the register of a name
abbrev pub named : List Register → List ℕ → Option Register
named registers name = find (λ r. bytes_eq r.name name) registers

-- a product that names a register
abbrev pub in_register : Option Register → (Register → Result Item FaultKind) → Result Item FaultKind
in_register None f = Err Undeclared
in_register (Some r) f = f r

-- the item of a product; hidden bits are numbered after all bits of registers
unfoldable pub item_for : Circuit → Signed → Ending → Result Item FaultKind
item_for c axis rotation = Ok (item.Turn axis Eighth)
item_for c axis (measurement name index) = in_register (named c.registers name) (λ r. unless (nat_le r.size index) Index (Ok (item.Measure axis (r.first + index))))
item_for c axis hidden = Ok (item.Measure axis (bits_in c.registers + c.hidden))
item_for c axis (settled name value) = in_register (named c.registers name) (λ r. Ok (item.If axis r.first r.size value))
item_for c axis (reset number) = unless (nat_le c.hidden number) Index (Ok (item.If axis (bits_in c.registers + number) 1 1))

-- the number of hidden bits after a product
abbrev pub hidden_after : ℕ → Ending → ℕ
hidden_after n rotation = n
hidden_after n (measurement name index) = n
hidden_after n hidden = n + 1
hidden_after n (settled name value) = n
hidden_after n (reset number) = n

abbrev pub with_item : Circuit → Ending → Result Item FaultKind → Result Circuit FaultKind
with_item c ending (Ok i) = Ok (record c { items = c.items ++ i ∷ []; hidden = hidden_after c.hidden ending })
with_item c ending (Err kind) = Err kind

-- the circuit with one more product
unfoldable pub with_product : Circuit → Signed → Ending → Result Circuit FaultKind
with_product c axis ending = with_item c ending (item_for c axis ending)

-- the circuit with one more register
unfoldable pub with_register : Circuit → List ℕ → ℕ → Result Circuit FaultKind
with_register c name size =
    unless (not (length c.items == 0)) Syntax (unless (nat_le 64 (length c.registers) || nat_lt 16384 (bits_in c.registers + size)) TooMany (unless (size == 0) Sizes (unless (is_some (named c.registers name)) Declared
    (Ok (record c { registers = c.registers ++ record { name = name; first = bits_in c.registers; size = size } ∷ [] })))))

-- the circuit with one more line, or the first rule that the line breaks
unfoldable pub with_line : Circuit → Line → Result Circuit FaultKind
with_line c (register name size) = with_register c name size
with_line c (product axis ending) =
    unless (nat_le 16384 (length c.items)) TooMany (unless (not (length axis.letters == c.qubits)) Sizes (with_product c axis ending))

-- ---- texts

-- a fault of the line of this number
abbrev pub at_line : {X : Type 0} → ℕ → Result X FaultKind → Result X CircuitFault
at_line n (Ok x) = Ok x
at_line n (Err kind) = Err (fault.At n kind)

-- an empty line, and one that begins with #, is passed over
abbrev pub is_passed : List ℕ → Bool
is_passed [] = true
is_passed (b ∷ bs) = b == 35

abbrev pub with_form : Circuit → Option Line → Result Circuit FaultKind
with_form c None = Err Syntax
with_form c (Some line) = with_line c line

-- the circuit with the line of this number
unfoldable pub with_text : Bool → ℕ → Circuit → List ℕ → Result Circuit CircuitFault
with_text two n c text = if is_passed text then Ok c else at_line n (with_form c (line_of two (words text)))

abbrev pub and_then : {X Y : Type 0} → Result X CircuitFault → (X → Result Y CircuitFault) → Result Y CircuitFault
and_then (Ok x) f = f x
and_then (Err e) f = Err e

-- the circuit with the lines from this number on
unfoldable pub with_lines : Bool → ℕ → Circuit → List (List ℕ) → Result Circuit CircuitFault
with_lines two n c [] = Ok c
with_lines two n c (text ∷ texts) = and_then (with_text two n c text) (λ d. with_lines two (n + 1) d texts)

-- version 1, or version 2
unfoldable pub version_of : List ℕ → Result Bool FaultKind
version_of [] = Err Syntax
version_of (b ∷ bs) = if bytes_eq (b ∷ bs) (codes "1") then Ok false else if bytes_eq (b ∷ bs) (codes "2") then Ok true else Err Version

-- at most 1,024 qubits
abbrev pub few_qubits : Option ℕ → Result ℕ FaultKind
few_qubits None = Err Syntax
few_qubits (Some n) = if nat_lt 1024 n then Err TooMany else Ok n

pub record Header : Type 0 where
  pub two : Bool
  pub qubits : ℕ

abbrev pub with_version : Result Bool FaultKind → Result ℕ FaultKind → Result Header FaultKind
with_version (Err kind) qubits = Err kind
with_version (Ok two) (Err kind) = Err kind
with_version (Ok two) (Ok qubits) = Ok (record { two = two; qubits = qubits })

-- what the words after `products ` say
unfoldable pub header_of : List (List ℕ) → Result Header FaultKind
header_of [] = Err Syntax
header_of (w ∷ ws) = with_version (version_of w) (few_qubits (number_alone ws))

-- no registers and no products
abbrev pub bare : ℕ → Circuit
bare qubits = record { qubits = qubits; registers = []; items = []; hidden = 0 }

-- the circuit of these lines; the first one begins with the nine bytes `products `
unfoldable pub list_of : List (List ℕ) → Result Circuit CircuitFault
list_of [] = Err (fault.At 1 Syntax)
list_of (first ∷ texts) = and_then (at_line 1 (header_of (words (drop 9 first)))) (λ h. with_lines h.two 2 (bare h.qubits) texts)

-- the circuit that the text of a product list stands for, or the first fault; a text has at most 4 MiB
unfoldable pub list_circuit : List ℕ → Result Circuit CircuitFault
list_circuit text = if nat_lt 4194304 (length text) then Err (fault.At 0 TooLong) else list_of (lines text)
