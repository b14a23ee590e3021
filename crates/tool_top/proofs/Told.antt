-- What is read of a text, up to one byte past a limit, is what the text is, where it is no longer than the limit.
use Rattle.std.proofs.Common.{◌≡◌, ℕ, ◌+◌, ◌<◌, ◌≤◌, List, length, take, Option, Some, None, IfSome, ◌∙◌, subst, arith}
use Rattle.std.proofs.lemmas.List.{length-take, take_all}

whole : (n : ℕ) (text bytes : List ℕ) → bytes ≡ take (n + 1) text → length text ≤ n → bytes ≡ text
whole n text bytes e short = e ∙ take_all (n + 1) text (omega arith)

short_text : (n : ℕ) (text bytes : List ℕ) → bytes ≡ take (n + 1) text → length bytes ≤ n → length text ≤ n
short_text n text bytes e short = let l : length (take (n + 1) text) ≤ n = subst (λ (b : List ℕ). length b ≤ n) e short in omega (arith, length-take (n + 1) text)

long_text : (n : ℕ) (text bytes : List ℕ) → bytes ≡ take (n + 1) text → n < length bytes → n < length text
long_text n text bytes e long = let l : n < length (take (n + 1) text) = subst (λ (b : List ℕ). n < length b) e long in omega (arith, length-take (n + 1) text)

-- what holds of the bytes holds of a told text
pub told_stands : (told : Option (List ℕ)) (P : List ℕ → Type 0) (n : ℕ) (bytes : List ℕ) → IfSome told (λ text. bytes ≡ take (n + 1) text) → length bytes ≤ n → P bytes → IfSome told P
told_stands None P n bytes e short p = tt
told_stands (Some text) P n bytes e short p = subst P (whole n text bytes e (short_text n text bytes e short)) p

-- a told text is past the limit
pub told_long : (told : Option (List ℕ)) (n : ℕ) (bytes : List ℕ) → IfSome told (λ text. bytes ≡ take (n + 1) text) → n < length bytes → IfSome told (λ text. n < length text)
told_long None n bytes e long = tt
told_long (Some text) n bytes e long = long_text n text bytes e long
