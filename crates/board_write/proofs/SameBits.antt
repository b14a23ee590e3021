-- The text of a history rests on the registers' bits alone.
use Rattle.std.proofs.Common.{◌≡◌, ℕ, zero, suc, ◌+◌, ◌<◌, ◌≤◌, Bool, List, [], ◌∷◌, ◌++◌, map, flat_map, refl, ap, ap₂, arith, codes}
use Rattle.std.proofs.lemmas.List.Sums.{sum_by-cons}
use Rattle.patch_base.specs.Texts.{digit}
use Rattle.source_model.specs.declared.Register.{Register}
use Rattle.source_model.specs.Circuits.{bits_in, FirstsRunOn}
use Rattle.board_core.specs.declared.Noted.{Noted}
use Rattle.schedule_text.specs.Text.{Version, digits, bits_line, ended, text_of, bits_text, header_line, entry_line}

-- two assignments of bits agree below n
abbrev pub AgreeBelow : ℕ → (ℕ → Bool) → (ℕ → Bool) → Type 0
AgreeBelow n f g = (b : ℕ) → b < n → f b ≡ g b

same_digits : (n : ℕ) (f g : ℕ → Bool) (first size : ℕ) → AgreeBelow n f g → first + size ≤ n → digits f first size ≡ digits g first size
same_digits n f g first zero agree fits = refl
same_digits n f g first (suc size) agree fits =
    ap₂ ◌++◌ (same_digits n f g (first + 1) size agree (omega arith)) (ap digit (agree first (omega arith)))

same_lines : (n before : ℕ) (f g : ℕ → Bool) (rs : List Register) → AgreeBelow n f g → FirstsRunOn before rs → before + bits_in rs ≤ n → map (bits_line f) rs ≡ map (bits_line g) rs
same_lines n before f g [] agree runs fits = refl
same_lines n before f g (r ∷ rs) agree runs fits =
    ap₂ ◌∷◌ (ap (λ ds. codes "bits " ++ r.name ++ codes " " ++ ds) (same_digits n f g r.first r.size agree (let e = sum_by-cons (λ x. x.size) r rs in omega (arith, runs.0)))) (same_lines n (before + r.size) f g rs agree runs.1 (let e = sum_by-cons (λ x. x.size) r rs in omega arith))

pub same_text : (v : Version) (h : List Noted) (f g : ℕ → Bool) (rs : List Register) → AgreeBelow (bits_in rs) f g → FirstsRunOn 0 rs → text_of v h rs f ≡ text_of v h rs g
same_text v h f g rs agree runs =
    ap (λ ls. flat_map ended (header_line v ∷ map (entry_line v) h ++ ls)) (same_lines (bits_in rs) 0 f g rs agree runs (omega arith))

pub same_bits : (f g : ℕ → Bool) (rs : List Register) → AgreeBelow (bits_in rs) f g → FirstsRunOn 0 rs → bits_text rs f ≡ bits_text rs g
same_bits f g rs agree runs = ap (λ ls. flat_map ended ls) (same_lines (bits_in rs) 0 f g rs agree runs (omega arith))
