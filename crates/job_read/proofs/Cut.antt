-- A text that is read up to one byte past its limit says what the whole text says.
use Rattle.std.proofs.Common.{◌≡◌, ◌⊎◌, ℕ, ◌<◌, ◌≤◌, List, length, take, Option, Some, None, IfSome, IsSome, sym, ◌∙◌, subst, inl, inr, arith}
use Rattle.std.proofs.lemmas.List.{length-take, take_all}
use Rattle.std.proofs.lemmas.Bool.{cases_lt, false≢true}

-- of any two texts past the limit the same is true
pub record LongAlike (Q : List ℕ → Type 0) : Type 0 where
  pub alike : (s t : List ℕ) → 4194304 < length s → 4194304 < length t → Q s → Q t

-- it is not true of a text past the limit
pub short_alike : (Q : List ℕ → Type 0) → ((t : List ℕ) → Q t → length t ≤ 4194304) → LongAlike Q
short_alike Q short = record { alike = λ s t long past q. let s_short = short s q in absurd (omega arith) }

whole : (text bytes : List ℕ) → bytes ≡ take 4194305 text → length text ≤ 4194304 → bytes ≡ text
whole text bytes e short = e ∙ take_all 4194305 text (omega arith)

long_bytes : (text bytes : List ℕ) → bytes ≡ take 4194305 text → 4194304 < length text → 4194304 < length bytes
long_bytes text bytes e long = subst (λ (b : List ℕ). 4194304 < length b) (sym e) (omega (arith, length-take 4194305 text))

short_or_long : (n : ℕ) → (n ≤ 4194304) ⊎ (4194304 < n)
short_or_long n = elim (cases_lt 4194304 n) [ inl long ↦ inr long | inr short ↦ inl short ]

pub cut_told : (told : Option (List ℕ)) (Q : List ℕ → Type 0) (bytes : List ℕ) → LongAlike Q → IfSome told (λ text. bytes ≡ take 4194305 text) → Q bytes → IfSome told Q
cut_told None Q bytes l e q = tt
cut_told (Some text) Q bytes l e q = elim (short_or_long (length text)) [
  | inl short ↦ subst Q (whole text bytes e short) q
  | inr long ↦ l.alike bytes text (long_bytes text bytes e long) long q
]

pub told_cut : (told : Option (List ℕ)) (Q : List ℕ → Type 0) (bytes : List ℕ) → LongAlike Q → IsSome told → IfSome told (λ text. bytes ≡ take 4194305 text) → IfSome told Q → Q bytes
told_cut None Q bytes l some e q = absurd (false≢true some)
told_cut (Some text) Q bytes l some e q = elim (short_or_long (length text)) [
  | inl short ↦ subst Q (sym (whole text bytes e short)) q
  | inr long ↦ l.alike text bytes long (long_bytes text bytes e long) q
]
