-- Each token's bytes stand in the text.
use Rattle.std.proofs.Common.{◌≡◌, ◌⊎◌, ℕ, zero, suc, ◌+◌, ◌-◌, ◌<◌, ◌≤◌, Bool, true, false, ◌&&◌, ◌||◌, ◌==◌, not, cond, nat_lt, inl, inr, Some, List, [], ◌∷◌, length, get_or, take, drop, Result, Ok, Err, refl, sym, subst, ◌∙◌, length-drop, arith}
use Rattle.std.specs.List.{prefix_len, slice_get}
use Rattle.std.proofs.lemmas.List.Sums.{prefix_len-le-length}
use Rattle.std.proofs.lemmas.Bool.Decides.{nat_tests}
use Rattle.qasm_lex.specs.declared.TokenKind.TheVariants as kinds
use Rattle.qasm_lex.specs.declared.Token.{Token}
use Rattle.qasm_lex.specs.declared.fault.FaultKind.TheVariants as faults
use Rattle.qasm_lex.specs.declared.fault.CircuitFault.{CircuitFault}
use Rattle.qasm_lex.specs.declared.fault.CircuitFault.TheVariants as circuits
use Rattle.qasm_lex.specs.declared.Head.{Head}
use Rattle.qasm_lex.specs.declared.Head.TheVariants as heads
use Rattle.qasm_lex.specs.Tokens.{IsPlaced, with_front, tokens_from, tokens_of, head_of, number_head, quoted_head, symbol_head, exponent_len, fraction_len, sign_len, digits, is_whole, is_digit, is_blank, is_symbol, starts_word, is_word_byte}
use Rattle.qasm_lex.specs.inside.Tokens.{IsWithin}
use Rattle.qasm_lex.proofs.Heads.{digit_begins, word_begins, some_begin}

pick : (b : Bool) (x y : Head) (len : ℕ) → (b ≡ true → IsWithin x len) → (b ≡ false → IsWithin y len) → IsWithin (cond b x y) len
pick true x y len p q = p refl
pick false x y len p q = q refl

fraction_le : (bs : List ℕ) → fraction_len bs ≤ length bs
unfolding fraction_len
fraction_le bs = grind (arith, nat_tests, prefix_len-le-length is_digit (drop 1 bs), length-drop 1 bs)

exponent_le : (bs : List ℕ) → exponent_len bs ≤ length bs
unfolding exponent_len sign_len
exponent_le bs = grind (arith, nat_tests, prefix_len-le-length is_digit (drop 1 bs), prefix_len-le-length is_digit (drop 2 bs), length-drop 1 bs, length-drop 2 bs)

first : List ℕ → ℕ
first bs = get_or bs 0 0

both_true : (a b : Bool) → (a && b) ≡ true → a ≡ true
both_true true b e = refl
both_true false b e = cc

number_within : (bs : List ℕ) → 0 < length bs → is_digit (get_or bs 0 0) ≡ true → IsWithin (number_head bs) (length bs)
unfolding number_head
number_within bs some e =
    let front = digits bs in
    let fraction = fraction_len (drop front bs) in
    let begins : 0 < front = digit_begins bs some e in
    let f : front ≤ length bs = prefix_len-le-length is_digit bs in
    let g : fraction ≤ length bs - front = omega (arith, fraction_le (drop front bs), length-drop front bs) in
    let h : exponent_len (drop (front + fraction) bs) ≤ length bs - (front + fraction) = omega (arith, exponent_le (drop (front + fraction) bs), length-drop (front + fraction) bs) in
    pick (fraction == 0) (cond (is_whole (take front bs)) (heads.Token kinds.Whole front) heads.Bad) (heads.Token kinds.Real (front + fraction + exponent_len (drop (front + fraction) bs))) (length bs)
    (λ _. pick (is_whole (take front bs)) (heads.Token kinds.Whole front) heads.Bad (length bs) (λ _. (begins, f)) (λ _. tt))
    (λ _. (omega arith, omega arith))

pub past_end : (xs : List ℕ) (i : ℕ) (b : ℕ) → (get_or xs i 0 == suc b) ≡ true → i < length xs
past_end [] i b e = grind (arith, nat_tests)
past_end (x ∷ xs) zero b e = omega arith
past_end (x ∷ xs) (suc i) b e = omega (arith, past_end xs i b e)

quoted_within : (bs : List ℕ) → 0 < length bs → IsWithin (quoted_head bs) (length bs)
unfolding quoted_head
quoted_within bs some =
    let inner = prefix_len (λ b. not (b == 34 || b == 10)) (drop 1 bs) in
    pick (get_or (drop 1 bs) inner 0 == 34) (heads.Token kinds.Quoted (inner + 2)) heads.Bad (length bs)
    (λ e. (omega arith, omega (arith, length-drop 1 bs, past_end (drop 1 bs) inner 33 e)))
    (λ _. tt)

arrow_len : (bs : List ℕ) (a b : ℕ) → (a == 45 && get_or bs 1 0 == 62) || (b == 61 && get_or bs 1 0 == 61) ≡ true → 2 ≤ length bs
arrow_len bs a b e = elim (second a b (get_or bs 1 0) e) [
  | inl h ↦ omega (arith, past_end bs 1 61 h)
  | inr h ↦ omega (arith, past_end bs 1 60 h)
]
  where
    second : (a b c : ℕ) → (a == 45 && c == 62) || (b == 61 && c == 61) ≡ true → ((c == 62) ≡ true) ⊎ ((c == 61) ≡ true)
    second a b c e = grind (arith, nat_tests)

symbol_within : (bs : List ℕ) → 0 < length bs → IsWithin (symbol_head bs) (length bs)
unfolding symbol_head
symbol_within bs some =
    let rest = cond (is_symbol (get_or bs 0 0)) (heads.Token kinds.Symbol 1) heads.Bad in
    pick ((get_or bs 0 0 == 45 && get_or bs 1 0 == 62) || (get_or bs 0 0 == 61 && get_or bs 1 0 == 61)) (heads.Token kinds.Symbol 2) rest (length bs)
    (λ e. (omega arith, arrow_len bs (get_or bs 0 0) (get_or bs 0 0) e))
    (λ _. pick (is_symbol (get_or bs 0 0)) (heads.Token kinds.Symbol 1) heads.Bad (length bs) (λ _. (omega arith, omega arith)) (λ _. tt))

comment_begins : (b : ℕ) (c : Bool) → (b == 47 && c) ≡ true → not (b == 10) ≡ true
comment_begins b c e = grind (arith, nat_tests)

pub head_within : (bs : List ℕ) → 0 < length bs → IsWithin (head_of bs) (length bs)
unfolding head_of
head_within bs some =
    let b = get_or bs 0 0 in
    let len = length bs in
    let no_feed : ℕ → Bool = λ c. not (c == 10) in
    let quoted = cond (b == 34) (quoted_head bs) (symbol_head bs) in
    let number = cond (is_digit b) (number_head bs) quoted in
    let word = cond (starts_word b) (heads.Token kinds.Word (prefix_len is_word_byte bs)) number in
    let comment = cond (b == 47 && get_or bs 1 0 == 47) (heads.Blank (prefix_len no_feed bs)) word in
    let blank = cond (is_blank b) (heads.Blank 1) comment in
    pick (b == 10) heads.Feed blank len (λ _. some) (λ _.
    pick (is_blank b) (heads.Blank 1) comment len (λ _. (omega arith, omega arith)) (λ _.
    pick (b == 47 && get_or bs 1 0 == 47) (heads.Blank (prefix_len no_feed bs)) word len (λ e. (some_begin no_feed bs some (comment_begins b (get_or bs 1 0 == 47) e), prefix_len-le-length no_feed bs)) (λ _.
    pick (starts_word b) (heads.Token kinds.Word (prefix_len is_word_byte bs)) number len (λ e. (word_begins bs some e, prefix_len-le-length is_word_byte bs)) (λ _.
    pick (is_digit b) (number_head bs) quoted len (λ e. number_within bs some e) (λ _.
    pick (b == 34) (quoted_head bs) (symbol_head bs) len (λ _. quoted_within bs some) (λ _. symbol_within bs some))))))

abbrev Placed : ℕ → Token → Type 0
Placed total t = (t.start < t.end) × (t.end ≤ total)

abbrev AllPlaced : ℕ → List Token → Type 0
AllPlaced total ts = (k : ℕ) (t : Token) → slice_get ts k ≡ Some t → Placed total t

push_placed : (total : ℕ) (u : Token) (us : List Token) → Placed total u → AllPlaced total us → AllPlaced total (u ∷ us)
push_placed total u us p ps zero t e = let same : u ≡ t = cc in subst (Placed total) same p
push_placed total u us p ps (suc k) t e = ps k t e

abbrev pub nothing : Result (List Token) CircuitFault
nothing = Ok []

no_tokens : (total : ℕ) (ts : List Token) → nothing ≡ Ok ts → AllPlaced total ts
no_tokens total [] e k t h = cc
no_tokens total (u ∷ us) e k t h = cc

with_placed : (total : ℕ) (u : Token) (r : Result (List Token) CircuitFault) (ts : List Token) → Placed total u → ((us : List Token) → r ≡ Ok us → AllPlaced total us) → with_front (u ∷ []) r ≡ Ok ts → AllPlaced total ts
with_placed total u (Ok us) ts p on e = let same : u ∷ us ≡ ts = cc in subst (AllPlaced total) same (push_placed total u us p (on us refl))
with_placed total u (Err f) ts p on e = cc

unfoldable pub after : ℕ → ℕ → ℕ → List ℕ → Head → Result (List Token) CircuitFault
after turns at line bs heads.Feed = tokens_from turns (at + 1) (line + 1) (drop 1 bs)
after turns at line bs (heads.Blank n) = tokens_from turns (at + n) line (drop n bs)
after turns at line bs (heads.Token kind n) = with_front (record { kind = kind; start = at; end = at + n; line = line } ∷ []) (tokens_from turns (at + n) line (drop n bs))
after turns at line bs heads.Bad = Err (circuits.At line faults.Token)

after_placed : (total turns at line : ℕ) (bs : List ℕ) (h : Head) (ts : List Token) → at + length bs ≡ total → IsWithin h (length bs)
    → ((at' line' : ℕ) (bs' : List ℕ) (us : List Token) → at' + length bs' ≡ total → tokens_from turns at' line' bs' ≡ Ok us → AllPlaced total us)
    → after turns at line bs h ≡ Ok ts → AllPlaced total ts
unfolding after
after_placed total turns at line bs heads.Feed ts l w on e = on (at + 1) (line + 1) (drop 1 bs) ts (omega (arith, length-drop 1 bs)) e
after_placed total turns at line bs (heads.Blank n) ts l w on e = on (at + n) line (drop n bs) ts (omega (arith, length-drop n bs)) e
after_placed total turns at line bs (heads.Token kind n) ts l w on e =
    with_placed total (record { kind = kind; start = at; end = at + n; line = line }) (tokens_from turns (at + n) line (drop n bs)) ts (omega arith, omega arith) (λ us f. on (at + n) line (drop n bs) us (omega (arith, length-drop n bs)) f) e
after_placed total turns at line bs heads.Bad ts l w on e = cc

pub turn_is : (turns at line : ℕ) (b : ℕ) (bs : List ℕ) → tokens_from (suc turns) at line (b ∷ bs) ≡ after turns at line (b ∷ bs) (head_of (b ∷ bs))
unfolding tokens_from after
turn_is turns at line b bs = by_head (head_of (b ∷ bs)) refl
  where
    by_head : (h : Head) → head_of (b ∷ bs) ≡ h → tokens_from (suc turns) at line (b ∷ bs) ≡ after turns at line (b ∷ bs) h
    by_head heads.Feed e = rw (e, tokens_from) refl
    by_head (heads.Blank n) e = rw (e, tokens_from) refl
    by_head (heads.Token kind n) e = rw (e, tokens_from) refl
    by_head heads.Bad e = rw (e, tokens_from) refl

pub none_at_zero : (at line : ℕ) (bs : List ℕ) → tokens_from zero at line bs ≡ Ok []
unfolding tokens_from
none_at_zero at line bs = refl

pub none_at_end : (turns at line : ℕ) → tokens_from (suc turns) at line [] ≡ Ok []
unfolding tokens_from
none_at_end turns at line = refl

placed_from : (total turns at line : ℕ) (bs : List ℕ) (ts : List Token) → at + length bs ≡ total → tokens_from turns at line bs ≡ Ok ts → AllPlaced total ts
placed_from total zero at line bs ts l e = no_tokens total ts (sym (none_at_zero at line bs) ∙ e)
placed_from total (suc turns) at line [] ts l e = no_tokens total ts (sym (none_at_end turns at line) ∙ e)
placed_from total (suc turns) at line (b ∷ bs) ts l e =
    after_placed total turns at line (b ∷ bs) (head_of (b ∷ bs)) ts l (head_within (b ∷ bs) (omega arith)) (λ at' line' bs' us m f. placed_from total turns at' line' bs' us m f) (sym (turn_is turns at line b bs) ∙ e)

pub placed : (text : List ℕ) (ts : List Token) → tokens_of text ≡ Ok ts → (k : ℕ) (t : Token) → slice_get ts k ≡ Some t → IsPlaced text t
unfolding tokens_of
placed text ts e k t h = by_length (nat_lt 4194304 (length text)) e
  where
    by_length : (b : Bool) → cond b (Err (circuits.At 0 faults.TooLong)) (tokens_from (length text + 1) 0 1 text) ≡ Ok ts → IsPlaced text t
    by_length true e' = cc
    by_length false e' = let p = placed_from (length text) (length text + 1) 0 1 text ts (omega arith) e' k t h in record { some = p.0; within = p.1 }

pub short : (text : List ℕ) (ts : List Token) → tokens_of text ≡ Ok ts → length text ≤ 4194304
unfolding tokens_of
short text ts e = by_length (nat_lt 4194304 (length text)) refl e
  where
    by_length : (b : Bool) → nat_lt 4194304 (length text) ≡ b → cond b (Err (circuits.At 0 faults.TooLong)) (tokens_from (length text + 1) 0 1 text) ≡ Ok ts → length text ≤ 4194304
    by_length true t e' = cc
    by_length false t e' = grind (arith, nat_tests)
