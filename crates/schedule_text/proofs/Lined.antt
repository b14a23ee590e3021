-- Lines and their words.
use Rattle.std.proofs.Common.{◌≡◌, ℕ, ◌<◌, List, [], ◌∷◌, length, refl, sym, ◌∙◌, ap, subst, arith, drop, true, lit<}
use Rattle.std.specs.Prelude.{decimal, Some}
use Rattle.std.proofs.lemmas.Bool.Decides.{nat_tests}
use Rattle.patch_base.specs.Texts.{spaced, words, has_no_space}
use Rattle.patch_base.proofs.TextLemmas.{spaced-words, words-spaced, each_has_no_space}
use Rattle.board_core.specs.declared.Noted.{Noted}
use Rattle.board_core.specs.declared.Entry.{Entry}
use Rattle.schedule_text.specs.Text.{Version, one, two, entry_words, entry_line, Nameable, Prints}
use Rattle.schedule_text.specs.Lines.{IsEntryLine}
use Rattle.schedule_text.specs.inside.Lines.{IsWorded, Starts}
use Rattle.schedule_text.proofs.OneText.{Free, AllFree, noted, line_words, line_is, some_line, free_line, line_one}

no_space_in : (w : List ℕ) → Free 32 w → has_no_space w ≡ true
no_space_in [] f = refl
no_space_in (b ∷ bs) (ne, f) = grind (arith, nat_tests, ne, no_space_in bs f)

no_space_in_each : (ws : List (List ℕ)) → AllFree 32 ws → each_has_no_space ws ≡ true
no_space_in_each [] f = refl
no_space_in_each (w ∷ ws) (f, fs) = grind (arith, nat_tests, no_space_in w f, no_space_in_each ws fs)

-- the words of spaced words
words_of_spaced : (ws : List (List ℕ)) → 0 < length ws → AllFree 32 ws → words (spaced ws) ≡ ws
words_of_spaced [] some f = absurd (omega arith)
words_of_spaced (w ∷ ws) some (f, fs) = words-spaced w ws (no_space_in w f) (no_space_in_each ws fs)

words_of_line : (v : Version) (n : Noted) → Prints v n → words (entry_line v n) ≡ line_words v n
words_of_line v n prints = ap words (line_is v n) ∙ words_of_spaced (line_words v n) (some_line v n) (free_line 32 (lit< tt) v n prints)

starts_of : (v : Version) (n : Noted) → Nameable v n → Starts v (line_words v n) n.by (entry_words n.entry)
starts_of one n named = (named, refl)
starts_of two n named = (named, refl)

-- an entry line's words begin with its worker, and go on with its entry
pub line_starts : (v : Version) (line : List ℕ) (all : List (List ℕ)) (n : Noted) → all ≡ words line → IsEntryLine v line n → Starts v all n.by (entry_words n.entry)
line_starts v line all n split is =
    let P : List (List ℕ) → Type 0 = λ ws. Starts v ws n.by (entry_words n.entry) in
    subst P (sym (split ∙ (ap words is.text ∙ words_of_line v n is.prints))) (starts_of v n is.prints.0)

starts_one : (v : Version) (all : List (List ℕ)) (a b : ℕ) (r s : List (List ℕ)) → Starts v all a r → Starts v all b s → r ≡ s
starts_one one all a b r s (low, f) (small, g) = sym f ∙ g
starts_one two all a b r s (low, f) (small, g) = ap (drop 1) (sym f ∙ g)

-- what stands after an entry line's worker are the words of its entry
pub line_goes_on : (v : Version) (line : List ℕ) (all : List (List ℕ)) (n : Noted) (by : ℕ) (rest : List (List ℕ)) → all ≡ words line → Starts v all by rest → IsEntryLine v line n → IsWorded v rest n.entry
line_goes_on v line all n by rest split starts is = record {
  numbers = is.prints.1;
  shaped = is.shaped;
  are = starts_one v all by n.by rest (entry_words n.entry) starts (line_starts v line all n split is);
}

nameable_of : (v : Version) (all rest : List (List ℕ)) (by : ℕ) (e : Entry) → Starts v all by rest → Nameable v (noted by e)
nameable_of one all rest by e (low, f) = low
nameable_of two all rest by e (low, f) = low

words_are : (v : Version) (all rest : List (List ℕ)) (by : ℕ) (e : Entry) → Starts v all by rest → rest ≡ entry_words e → all ≡ line_words v (noted by e)
words_are one all rest by e (low, f) g = f ∙ g
words_are two all rest by e (low, f) g = f ∙ ap (λ t. decimal by ∷ t) g

-- a line whose words are those of a worker and an entry is their line
pub line_of_words : (v : Version) (line : List ℕ) (all : List (List ℕ)) (by : ℕ) (rest : List (List ℕ)) (e : Entry) → all ≡ words line → Starts v all by rest → IsWorded v rest e → IsEntryLine v line (noted by e)
line_of_words v line all by rest e split starts is = record {
  prints = (nameable_of v all rest by e starts, is.numbers);
  shaped = is.shaped;
  text = sym (spaced-words line) ∙ (ap spaced (sym split ∙ words_are v all rest by e starts is.are) ∙ sym (line_is v (noted by e)));
}

-- a line is that of one entry
pub one_entry : (v : Version) (line : List ℕ) (m n : Noted) → IsEntryLine v line m → IsEntryLine v line n → Some m ≡ Some n
one_entry v line m n f g = ap Some (line_one v m n f.prints g.prints (sym f.text ∙ g.text))
