-- Worked examples.
use Rattle.std.specs.Prelude.{◌≡◌, codes, refl, Err}
use Rattle.std.specs.Fmt.{digits}
use Rattle.qasm_lex.specs.declared.TokenKind.TheVariants.{Whole, Real, Quoted, Symbol}
use Rattle.qasm_lex.specs.declared.Head.TheVariants.{Token, Blank, Bad}
use Rattle.qasm_lex.specs.declared.fault.FaultKind.TheVariants as faults
use Rattle.qasm_lex.specs.declared.fault.CircuitFault.TheVariants.{At}
use Rattle.qasm_lex.specs.Tokens.{head_of, is_blank, starts_word, is_word_byte, is_digit, is_symbol, number_head, fraction_len, exponent_len, sign_len, is_whole, quoted_head, symbol_head, tokens_from, tokens_of}

pub a_real : head_of (codes "007.50e-3x") ≡ Token Real 9
unfolding head_of is_blank starts_word is_digit number_head fraction_len exponent_len sign_len
a_real = refl

pub no_exponent : head_of (codes "1.5e+x") ≡ Token Real 3
unfolding head_of is_blank starts_word is_digit number_head fraction_len exponent_len sign_len
no_exponent = refl

pub no_real : head_of (codes "1e5") ≡ Token Whole 1
unfolding head_of is_blank starts_word is_digit number_head fraction_len is_whole digits
no_real = refl

pub leading_zero : head_of (codes "007") ≡ Bad
unfolding head_of is_blank starts_word is_digit number_head fraction_len is_whole digits
leading_zero = refl

pub greatest_whole : head_of (codes "4294967295;") ≡ Token Whole 10
unfolding head_of is_blank starts_word is_digit number_head fraction_len is_whole digits
greatest_whole = refl

pub past_greatest : head_of (codes "4294967296;") ≡ Bad
unfolding head_of is_blank starts_word is_digit number_head fraction_len is_whole digits
past_greatest = refl

pub a_quote : head_of (codes "\"qelib1.inc\";") ≡ Token Quoted 12
unfolding head_of is_blank starts_word is_digit quoted_head
a_quote = refl

pub an_arrow : head_of (codes "->c") ≡ Token Symbol 2
unfolding head_of is_blank starts_word is_digit symbol_head
an_arrow = refl

pub a_comment : head_of (codes "//=\n=") ≡ Blank 3
unfolding head_of is_blank
a_comment = refl

pub a_lone_equals : tokens_of (codes "c //=\n=1") ≡ Err (At 2 faults.Token)
unfolding tokens_of tokens_from head_of is_blank starts_word is_word_byte is_digit is_symbol symbol_head
a_lone_equals = refl
