-- The first piece of a text, up to a byte at which it is cut.
use Rattle.std.proofs.Common.{◌≡◌, ℕ, ◌+◌, ◌-◌, ◌<◌, ◌≤◌, Bool, nat_eq, List, [], ◌∷◌, length, take, drop, get_or, slice_range, length-drop, refl, arith, ap, sym, ◌∙◌}
use Rattle.std.specs.List.{position_or_len, slice_split}
use Rattle.std.proofs.lemmas.Grind.{common_steps}
use Rattle.std.proofs.lemmas.List.{drop-drop}
use Rattle.std.proofs.lemmas.List.Sums.{position_or_len_is}
use Rattle.std.proofs.lemmas.Bool.{ne_eqb, eq-eqb}
use Rattle.std.proofs.lemmas.List.Splits.{slice_split_first}
use Rattle.patch_base.specs.Texts.{lines, words}

-- where no element passes, a list has one part, itself
pub slice_split_whole : {X : Type 0} (p : X → Bool) (xs : List X) → length xs ≤ position_or_len p xs → slice_split p xs ≡ xs ∷ []
slice_split_whole p [] all = refl
slice_split_whole p (x ∷ xs) all = grind (arith, common_steps, slice_split_whole p xs)

abbrev pub is_feed : ℕ → Bool
is_feed b = nat_eq b 10

-- the first line, and those after its line feed
pub lines_first : (bs : List ℕ) → 0 < length bs → lines bs ≡ take (position_or_len is_feed bs) bs ∷ lines (drop (position_or_len is_feed bs + 1) bs)
lines_first [] some = absurd (omega arith)
lines_first (b ∷ []) some = grind (arith, common_steps)
lines_first (b ∷ c ∷ cs) some = grind (arith, common_steps, lines_first (c ∷ cs))

-- the first place of a byte
pub place_is : (xs : List ℕ) (b i : ℕ) → i ≤ length xs → ((k : ℕ) → k < i → get_or xs k 0 ≡ b → ⊥) → (i < length xs → get_or xs i 0 ≡ b) → i ≡ position_or_len (λ c. nat_eq c b) xs
place_is xs b i within before here =
    sym (position_or_len_is (λ c. nat_eq c b) xs i 0 within (λ k below. ne_eqb (get_or xs k 0) b (before k below)) (λ inside. eq-eqb (get_or xs i 0) b (here inside)))

-- the rest of a list, as code cuts it
pub rest_is : {X : Type 0} (xs : List X) (at : ℕ) → take (length xs - at) (drop at xs) ≡ drop at xs
rest_is xs at = grind (arith, common_steps)

-- the line that begins at a place, where its line feed is n bytes on
pub lines_at : (text : List ℕ) (at n : ℕ) → at < length text → n ≡ position_or_len is_feed (take (length text - at) (drop at text)) → lines (drop at text) ≡ slice_range text at (at + n) ∷ lines (drop (at + n + 1) text)
lines_at text at n inside place =
    let e : n ≡ position_or_len is_feed (drop at text) = rw (rest_is text at) at place in
    let first : lines (drop at text) ≡ take (position_or_len is_feed (drop at text)) (drop at text) ∷ lines (drop (position_or_len is_feed (drop at text) + 1) (drop at text)) = lines_first (drop at text) (simp length-drop (omega arith)) in
    let k_is : at + n - at ≡ n = omega arith in
    let cut : slice_range text at (at + n) ≡ take n (drop at text) = ap (λ k. take k (drop at text)) k_is in
    let behind : drop (n + 1) (drop at text) ≡ drop (at + n + 1) text = drop-drop (n + 1) at text ∙ ap (λ k. drop k text) (omega arith) in
    rw (cut, ← behind) (rw (← e) at first)

-- past the end no line is left
pub no_lines_past : (text : List ℕ) (at : ℕ) → length text ≤ at → drop at text ≡ []
no_lines_past text at past = grind (arith, common_steps)

abbrev pub is_space : ℕ → Bool
is_space b = nat_eq b 32

-- the first word of a line, and the words after its space
pub words_first : (line : List ℕ) (n : ℕ) → n ≡ position_or_len is_space line → n < length line → words line ≡ take n line ∷ words (take (length line - (n + 1)) (drop (n + 1) line))
words_first line n place inside =
    rw (rest_is line (n + 1)) (rw place (slice_split_first is_space line 0 (omega (arith, place))))

-- the only word of a line
pub words_last : (line : List ℕ) (n : ℕ) → n ≡ position_or_len is_space line → n ≡ length line → words line ≡ line ∷ []
words_last line n place all = slice_split_whole is_space line (omega arith)
