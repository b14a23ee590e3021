-- Words without spaces and line feeds, and the lines that they are spaced in.
use Rattle.std.proofs.Common.{◌≡◌, ℕ, ◌<◌, ◌==◌, ◌&&◌, ◌^◌, Bool, true, false, List, [], ◌∷◌, ◌++◌, codes, decimal, refl, ap, arith, not, IsTrue, append_assoc, ◌∙◌}
use Rattle.std.specs.List.{flat_map, list_all, onto_first}
use Rattle.std.specs.Str.Parse.{AllDigits}
use Rattle.std.proofs.lemmas.Bool.{and_parts, ne_eqb}
use Rattle.std.proofs.lemmas.Bool.Decides.{nat_tests}
use Rattle.std.proofs.lemmas.Fmt.{digits_decimal}
use Rattle.patch_base.specs.Names.{is_name, is_word_byte, is_keyword, begins_as_name}
use Rattle.patch_base.specs.Texts.{lines, words, spaced, has_no_space}
use Rattle.patch_base.proofs.Decimals.{own}
use Rattle.patch_base.proofs.TextLemmas.{each_has_no_space, words-spaced}
use Rattle.pauli_product.specs.declared.Letter.{Letter}
use Rattle.pauli_product.specs.declared.Letter.TheVariants.{I, X, Y, Z}
use Rattle.pauli_product.specs.Signed.{Signed}
use Rattle.pauli_product.specs.Spelling.{sign_text, letter_text, product_text}

-- each byte is past the space, which is 32
abbrev pub Above : List ℕ → Type 0
Above [] = Unit {0}
Above (b ∷ bs) = (32 < b) × Above bs

abbrev pub EachAbove : List (List ℕ) → Type 0
EachAbove [] = Unit {0}
EachAbove (w ∷ ws) = Above w × EachAbove ws

pub Above-append : (xs ys : List ℕ) → Above xs → Above ys → Above (xs ++ ys)
Above-append [] ys h k = k
Above-append (x ∷ xs) ys h k = (h.0, Above-append xs ys h.1 k)

Above-digits : (w : List ℕ) → AllDigits 10 w → Above w
Above-digits [] h = tt
Above-digits (b ∷ bs) h = (grind (arith, nat_tests), Above-digits bs h.1)

pub Above-decimal : (n : ℕ) → n < 2 ^ 64 → Above (decimal n)
Above-decimal n small = Above-digits (decimal n) (digits_decimal own n small)

word_byte : (b : ℕ) → is_word_byte b ≡ true → 32 < b
word_byte b h = grind (arith, nat_tests)

Above-word : (w : List ℕ) → list_all is_word_byte w ≡ true → Above w
Above-word [] h = tt
Above-word (b ∷ bs) h = let p = and_parts (is_word_byte b) (list_all is_word_byte bs) h in (word_byte b p.0, Above-word bs p.1)

pub Above-name : (w : List ℕ) → IsTrue (is_name w) → Above w
unfolding is_name
Above-name w h = Above-word w (and_parts (begins_as_name w) (list_all is_word_byte w) (and_parts (begins_as_name w && list_all is_word_byte w) (not (is_keyword w)) h).0).1

Above-letter : (l : Letter) → Above (letter_text l)
Above-letter I = (omega arith, tt)
Above-letter X = (omega arith, tt)
Above-letter Y = (omega arith, tt)
Above-letter Z = (omega arith, tt)

Above-letters : (ls : List Letter) → Above (flat_map letter_text ls)
Above-letters [] = tt
Above-letters (l ∷ ls) = Above-append (letter_text l) (flat_map letter_text ls) (Above-letter l) (Above-letters ls)

Above-sign : (minus : Bool) → Above (sign_text minus)
Above-sign true = (omega arith, tt)
Above-sign false = (omega arith, tt)

pub Above-product : (p : Signed) → Above (product_text p)
Above-product p = Above-append (sign_text p.sign) (flat_map letter_text p.letters) (Above-sign p.sign) (Above-letters p.letters)

-- ---- words of a line

no_space : (w : List ℕ) → Above w → has_no_space w ≡ true
no_space [] h = refl
no_space (b ∷ bs) h = let first : 32 < b = h.0 in let rest = no_space bs h.1 in grind (arith, nat_tests)

no_spaces : (ws : List (List ℕ)) → EachAbove ws → each_has_no_space ws ≡ true
no_spaces [] h = refl
no_spaces (w ∷ ws) h = let first = no_space w h.0 in let rest = no_spaces ws h.1 in grind (arith, nat_tests)

pub words_back : (w : List ℕ) (ws : List (List ℕ)) → EachAbove (w ∷ ws) → words (spaced (w ∷ ws)) ≡ w ∷ ws
words_back w ws h = words-spaced w ws (no_space w h.0) (no_spaces ws h.1)

-- ---- lines of a text

-- no line feed, which is 10
abbrev NoFeed : List ℕ → Type 0
NoFeed [] = Unit {0}
NoFeed (b ∷ bs) = ((b == 10) ≡ false) × NoFeed bs

feedless : (w rest : List ℕ) → Above w → NoFeed rest → NoFeed (w ++ rest)
feedless [] rest h k = k
feedless (b ∷ bs) rest h k = (ne_eqb b 10 (λ e. let above : 32 < b = h.0 in absurd (omega arith)), feedless bs rest h.1 k)

spaced_feedless : (ws : List (List ℕ)) → EachAbove ws → NoFeed (spaced ws)
spaced_feedless [] h = tt
spaced_feedless (w ∷ []) h = rest_of w h.0
  where
    rest_of : (w : List ℕ) → Above w → NoFeed w
    rest_of [] h = tt
    rest_of (b ∷ bs) h = (ne_eqb b 10 (λ e. let above : 32 < b = h.0 in absurd (omega arith)), rest_of bs h.1)
spaced_feedless (w ∷ v ∷ vs) h = feedless w (32 ∷ spaced (v ∷ vs)) h.0 (refl, spaced_feedless (v ∷ vs) h.1)

line_before : (l rest : List ℕ) → NoFeed l → lines (l ++ 10 ∷ rest) ≡ l ∷ lines rest
line_before [] rest h = refl
line_before (b ∷ bs) rest h = let none : (b == 10) ≡ false = h.0 in rw none (ap (onto_first b) (line_before bs rest h.1))

-- a line of words before the others
pub lines_back : (ws : List (List ℕ)) (rest : List ℕ) → EachAbove ws → lines ((spaced ws ++ codes "\n") ++ rest) ≡ spaced ws ∷ lines rest
lines_back ws rest h = ap lines (append_assoc (spaced ws) (codes "\n") rest) ∙ line_before (spaced ws) rest (spaced_feedless ws h)
