-- Words that are spaced, and the words of a line.
use Rattle.std.proofs.Common.{◌≡◌, ℕ, ◌<◌, ◌^◌, Bool, true, false, ◌&&◌, nat_eq, List, [], ◌∷◌, decimal, refl, arith, ap, ◌∙◌}
use Rattle.std.specs.List.{All}
use Rattle.std.specs.Str.Parse.{AllDigits}
use Rattle.std.proofs.lemmas.Bool.Decides.{nat_tests}
use Rattle.std.proofs.lemmas.List.Splits.{slice_split_none, slice_split_at, join_with_byte-slice_split}
use Rattle.std.proofs.lemmas.List.Elements.{All-nil, All-cons}
use Rattle.std.proofs.lemmas.Fmt.{digits_decimal}
use Rattle.patch_base.specs.Texts.{words, spaced, has_no_space, digit}
use Rattle.patch_base.proofs.Decimals.{own}

-- the words of a line, spaced again
pub spaced-words : (line : List ℕ) → spaced (words line) ≡ line
spaced-words line = join_with_byte-slice_split 32 line

no_spaces : (word : List ℕ) → has_no_space word ≡ true → All (λ b. nat_eq b 32 ≡ false) word
no_spaces [] none = All-nil (λ b. nat_eq b 32 ≡ false)
no_spaces (b ∷ bs) none =
    let parts : (nat_eq b 32 ≡ false) × (has_no_space bs ≡ true) = grind (arith, nat_tests) in
    All-cons (λ b. nat_eq b 32 ≡ false) b bs parts.0 (no_spaces bs parts.1)

-- words without spaces, each of them
abbrev pub each_has_no_space : List (List ℕ) → Bool
each_has_no_space [] = true
each_has_no_space (w ∷ ws) = has_no_space w && each_has_no_space ws

-- spaced words are the words of their line
pub words-spaced : (w : List ℕ) (ws : List (List ℕ)) → has_no_space w ≡ true → each_has_no_space ws ≡ true → words (spaced (w ∷ ws)) ≡ w ∷ ws
words-spaced w [] first rest = slice_split_none (λ b. nat_eq b 32) w (no_spaces w first)
words-spaced w (v ∷ vs) first rest =
    let parts : (has_no_space v ≡ true) × (each_has_no_space vs ≡ true) = grind (arith, nat_tests) in
    slice_split_at (λ b. nat_eq b 32) w 32 (spaced (v ∷ vs)) (no_spaces w first) refl ∙ ap (λ rest. w ∷ rest) (words-spaced v vs parts.0 parts.1)

digits_have_no_space : (word : List ℕ) → AllDigits 10 word → has_no_space word ≡ true
digits_have_no_space [] digits = refl
digits_have_no_space (b ∷ bs) digits = grind (arith, nat_tests, digits_have_no_space bs digits.1)

pub has_no_space-decimal : (n : ℕ) → n < 2 ^ 64 → has_no_space (decimal n) ≡ true
has_no_space-decimal n small = digits_have_no_space (decimal n) (digits_decimal own n small)

pub has_no_space-digit : (b : Bool) → has_no_space (digit b) ≡ true
has_no_space-digit true = refl
has_no_space-digit false = refl
