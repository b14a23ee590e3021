-- No prefix of a text that is a token is longer than the head of the text.
use Rattle.std.proofs.Common.{◌≡◌, ◌⊎◌, ℕ, ◌+◌, ◌<◌, ◌≤◌, ◌^◌, Bool, true, false, ◌&&◌, ◌||◌, ◌==◌, cond, inl, inr, List, [], ◌∷◌, ◌++◌, length, get_or, take, drop, decimal, refl, sym, subst, ◌∙◌, ap, append_assoc, arith}
use Rattle.std.specs.List.{list_all, prefix_len}
use Rattle.std.specs.Char.{digit_value}
use Rattle.std.specs.Str.Parse.{AllDigits, digits_value}
use Rattle.std.proofs.lemmas.Bool.{and_from, and_parts, ne_eqb, or_left}
use Rattle.std.proofs.lemmas.Bool.Decides.{nat_tests}
use Rattle.std.proofs.lemmas.List.{length-append}
use Rattle.std.proofs.lemmas.Fmt.{decimal_nonempty, digits_decimal}
use Rattle.std.proofs.lemmas.Str.Parse.{IsNumeralModel, numerals_by_value, tells_digits}
use Rattle.std.proofs.Math.Seq.{drop-append_seam}
use Rattle.qasm_lex.specs.declared.TokenKind.{TokenKind}
use Rattle.qasm_lex.specs.declared.TokenKind.TheVariants as kinds
use Rattle.qasm_lex.specs.declared.Head.TheVariants as heads
use Rattle.qasm_lex.specs.Forms.{IsDigits, IsExponent, IsQuoted, IsReal, IsSign, IsSymbol, IsToken, IsWord, is_inner}
use Rattle.qasm_lex.specs.Tokens.{digits, exponent_len, fraction_len, head_of, is_blank, is_digit, is_whole, is_word_byte, number_head, quoted_head, sign_len, starts_word, symbol_head}
use Rattle.qasm_lex.specs.inside.Tokens.{IsWithin}
use Rattle.qasm_lex.proofs.Placed.{head_within}

-- ---- prefixes

covers : (p : ℕ → Bool) (xs ys : List ℕ) → list_all p xs ≡ true → length xs ≤ prefix_len p (xs ++ ys)
covers p [] ys h = omega arith
covers p (x ∷ xs) ys h =
    let both = and_parts (p x) (list_all p xs) h in
    let rest = covers p xs ys both.1 in
    rw both.0 (omega arith)

exact : (p : ℕ → Bool) (xs : List ℕ) (y : ℕ) (ys : List ℕ) → list_all p xs ≡ true → p y ≡ false → prefix_len p (xs ++ y ∷ ys) ≡ length xs
exact p [] y ys h e = rw e refl
exact p (x ∷ xs) y ys h e =
    let both = and_parts (p x) (list_all p xs) h in
    let rest = exact p xs y ys both.1 e in
    rw both.0 (omega arith)

seam : (xs : List ℕ) (y : ℕ) (ys : List ℕ) → get_or (xs ++ y ∷ ys) (length xs) 0 ≡ y
seam [] y ys = refl
seam (x ∷ xs) y ys = seam xs y ys

apart : (b n : ℕ) → n < b → (b == n) ≡ false
apart b n l = ne_eqb b n (λ e. absurd (omega arith))

unblank : (b : ℕ) → 32 < b → is_blank b ≡ false
unfolding is_blank
unblank b l = rw (apart b 32 l, apart b 9 (omega arith), apart b 13 (omega arith)) refl

-- ---- what stands at the head

word_high : (b : ℕ) → starts_word b ≡ true → 64 < b
unfolding starts_word
word_high b h = grind (arith, nat_tests)

word_head : (b : ℕ) (bs : List ℕ) → starts_word b ≡ true → head_of (b ∷ bs) ≡ heads.Token kinds.Word (prefix_len is_word_byte (b ∷ bs))
unfolding head_of
word_head b bs w =
    let high = word_high b w in
    rw (apart b 10 (omega arith), unblank b (omega arith), apart b 47 (omega arith), w) refl

pub digit_high : (b : ℕ) → is_digit b ≡ true → 47 < b
unfolding is_digit
digit_high b h = grind (arith, nat_tests)

digit_no_word : (b : ℕ) → is_digit b ≡ true → starts_word b ≡ false
unfolding is_digit starts_word
digit_no_word b h = grind (arith, nat_tests)

digit_head : (b : ℕ) (bs : List ℕ) → is_digit b ≡ true → head_of (b ∷ bs) ≡ number_head (b ∷ bs)
unfolding head_of
digit_head b bs d =
    let high = digit_high b d in
    rw (apart b 10 (omega arith), unblank b (omega arith), apart b 47 high, digit_no_word b d, d) refl

quote_head : (bs : List ℕ) → head_of (34 ∷ bs) ≡ quoted_head (34 ∷ bs)
unfolding head_of is_blank starts_word is_digit
quote_head bs = refl

same_len : (j k : TokenKind) (m n : ℕ) → heads.Token j m ≡ heads.Token k n → m ≡ n
same_len j k m n e = cc

-- ---- words and whole numbers

pub begins_word : (b : ℕ) → starts_word b ≡ true → is_word_byte b ≡ true
unfolding is_word_byte
begins_word b h = or_left (starts_word b) (is_digit b) h

word_longest : (k : TokenKind) (n : ℕ) (more rest : List ℕ) → IsWord more → head_of (more ++ rest) ≡ heads.Token k n → length more ≤ n
word_longest k n [] rest h e = absurd h
word_longest k n (b ∷ bs) rest h e =
    let same = same_len kinds.Word k (prefix_len is_word_byte (b ∷ (bs ++ rest))) n (sym (word_head b (bs ++ rest) h.0) ∙ e) in
    let most = covers is_word_byte (b ∷ bs) rest (and_from (is_word_byte b) (list_all is_word_byte bs) (begins_word b h.0) h.1) in
    omega arith

number_least : (bs : List ℕ) (k : TokenKind) (n : ℕ) → number_head bs ≡ heads.Token k n → digits bs ≤ n
unfolding number_head
number_least bs k n e = by_tests (fraction_len (drop (digits bs) bs) == 0) (is_whole (take (digits bs) bs)) (exponent_len (drop (digits bs + fraction_len (drop (digits bs) bs)) bs)) e
  where
    by_tests : (a b : Bool) (m : ℕ) → cond a (cond b (heads.Token kinds.Whole (digits bs)) heads.Bad) (heads.Token kinds.Real (digits bs + fraction_len (drop (digits bs) bs) + m)) ≡ heads.Token k n → digits bs ≤ n
    by_tests true true m f = let same = same_len _ _ _ _ f in omega arith
    by_tests true false m f = absurd (cc)
    by_tests false b m f = let same = same_len _ _ _ _ f in omega arith

digits_longest : (k : TokenKind) (n : ℕ) (more rest : List ℕ) → IsDigits more → head_of (more ++ rest) ≡ heads.Token k n → length more ≤ n
digits_longest k n [] rest h e = omega arith
digits_longest k n (b ∷ bs) rest h e =
    let first = (and_parts (is_digit b) (list_all is_digit bs) h.1).0 in
    let least = number_least (b ∷ (bs ++ rest)) k n (sym (digit_head b (bs ++ rest) first) ∙ e) in
    let most = covers is_digit (b ∷ bs) rest h.1 in
    omega arith

one_digit : (b : ℕ) → digit_value b < 10 → is_digit b ≡ true
unfolding is_digit
one_digit b l = grind (arith, nat_tests)

digits_all : (w : List ℕ) → AllDigits 10 w → list_all is_digit w ≡ true
digits_all [] h = refl
digits_all (b ∷ bs) h = and_from (is_digit b) (list_all is_digit bs) (one_digit b h.0) (digits_all bs h.1)

own : IsNumeralModel (AllDigits 10) (digits_value 10)
own = numerals_by_value (AllDigits 10) tells_digits

pub decimal_digits : (v : ℕ) → v < 2 ^ 32 → IsDigits (decimal v)
decimal_digits v small = (decimal_nonempty v (omega arith), digits_all (decimal v) (digits_decimal own v (omega arith)))

-- ---- reals

point_stops : is_digit 46 ≡ false
unfolding is_digit
point_stops = refl

letter_stops : (b : ℕ) → (b ≡ 101) ⊎ (b ≡ 69) → is_digit b ≡ false
unfolding is_digit
letter_stops b (inl e) = rw e refl
letter_stops b (inr e) = rw e refl

-- a point with digits after it
fraction_is : (places rest : List ℕ) → IsDigits places → fraction_len (46 ∷ (places ++ rest)) ≡ 1 + digits (places ++ rest)
unfolding fraction_len
fraction_is places rest h =
    let most = covers is_digit places rest h.1 in
    let some : (digits (places ++ rest) == 0) ≡ false = ne_eqb (digits (places ++ rest)) 0 (λ e. absurd (let l = h.0 in omega arith)) in
    rw some refl

unsigned : (bs rest : List ℕ) → IsDigits bs → sign_len (bs ++ rest) ≡ 0
unfolding sign_len
unsigned [] rest h = absurd (omega arith)
unsigned (b ∷ bs) rest h =
    let high = digit_high b (and_parts (is_digit b) (list_all is_digit bs) h.1).0 in
    rw (apart b 43 (omega arith), apart b 45 (omega arith)) refl

powered : (b : ℕ) (before : ℕ) (bs power rest : List ℕ) → (b ≡ 101) ⊎ (b ≡ 69) → 1 + sign_len bs ≡ before → drop before (b ∷ bs) ≡ power ++ rest → IsDigits power → exponent_len (b ∷ bs) ≡ before + digits (power ++ rest)
unfolding exponent_len
powered b before bs power rest letter s d h =
    let most = covers is_digit power rest h.1 in
    let some : (digits (power ++ rest) == 0) ≡ false = ne_eqb (digits (power ++ rest)) 0 (λ e. absurd (let l = h.0 in omega arith)) in
    rw (s, d, some) (by_letter letter)
  where
    by_letter : (b ≡ 101) ⊎ (b ≡ 69) → cond ((b == 101 || b == 69) && true) (before + digits (power ++ rest)) 0 ≡ before + digits (power ++ rest)
    by_letter (inl e) = rw e refl
    by_letter (inr e) = rw e refl

sign_one : (c : ℕ) (xs : List ℕ) → (c ≡ 43) ⊎ (c ≡ 45) → 1 + sign_len (c ∷ xs) ≡ 2
unfolding sign_len
sign_one c xs (inl e) = rw e refl
sign_one c xs (inr e) = rw e refl

exponent_longest : (b : ℕ) (bs rest : List ℕ) → IsExponent (b ∷ bs) → length (b ∷ bs) ≤ exponent_len (b ∷ (bs ++ rest))
exponent_longest b bs rest (letter, (sign, power, signs, h, e)) = by_sign signs
  where
    long : (n : ℕ) → length sign ≡ n → exponent_len (b ∷ (bs ++ rest)) ≡ (1 + n) + digits (power ++ rest) → length (b ∷ bs) ≤ exponent_len (b ∷ (bs ++ rest))
    long n size whole =
        let most = covers is_digit power rest h.1 in
        let sum = ap length e ∙ length-append sign power in
        omega arith

    joined : bs ++ rest ≡ sign ++ (power ++ rest)
    joined = ap (λ xs. xs ++ rest) e ∙ append_assoc sign power rest

    signed : (c : ℕ) → sign ≡ c ∷ [] → (c ≡ 43) ⊎ (c ≡ 45) → length (b ∷ bs) ≤ exponent_len (b ∷ (bs ++ rest))
    signed c s one =
        let text : bs ++ rest ≡ c ∷ (power ++ rest) = joined ∙ ap (λ xs. xs ++ (power ++ rest)) s in
        long 1 (ap length s) (ap (λ xs. exponent_len (b ∷ xs)) text ∙ powered b 2 (c ∷ (power ++ rest)) power rest letter (sign_one c (power ++ rest) one) refl h)

    by_sign : IsSign sign → length (b ∷ bs) ≤ exponent_len (b ∷ (bs ++ rest))
    by_sign (inl s) =
        let text : bs ++ rest ≡ power ++ rest = joined ∙ ap (λ xs. xs ++ (power ++ rest)) s in
        long 0 (ap length s) (ap (λ xs. exponent_len (b ∷ xs)) text ∙ powered b 1 (power ++ rest) power rest letter (ap (λ n. 1 + n) (unsigned power rest h)) refl h)
    by_sign (inr (inl s)) = signed 43 s (inl refl)
    by_sign (inr (inr s)) = signed 45 s (inr refl)

-- the length of a real, by those of its parts
real_is : (front tail : List ℕ) (fraction : ℕ) → IsDigits front → fraction_len (46 ∷ tail) ≡ fraction → 0 < fraction → number_head (front ++ 46 ∷ tail) ≡ heads.Token kinds.Real (length front + fraction + exponent_len (drop (length front + fraction) (front ++ 46 ∷ tail)))
unfolding number_head
real_is front tail fraction h f some =
    let size : digits (front ++ 46 ∷ tail) ≡ length front = exact is_digit front 46 tail h.1 point_stops in
    let rest : drop (length front) (front ++ 46 ∷ tail) ≡ 46 ∷ tail = drop-append_seam front (46 ∷ tail) in
    let other : (fraction == 0) ≡ false = ne_eqb fraction 0 (λ e. absurd (omega arith)) in
    rw (size, rest, f, other) refl

real_head : (front tail : List ℕ) → IsDigits front → head_of (front ++ 46 ∷ tail) ≡ number_head (front ++ 46 ∷ tail)
real_head [] tail h = absurd (omega arith)
real_head (b ∷ bs) tail h = digit_head b (bs ++ 46 ∷ tail) (and_parts (is_digit b) (list_all is_digit bs) h.1).0

real_longest : (k : TokenKind) (n : ℕ) (more rest : List ℕ) → IsReal more → head_of (more ++ rest) ≡ heads.Token k n → length more ≤ n
real_longest k n more rest h e = by_exponent h.exponent h.power refl
  where
    text : (exponent : List ℕ) → exponent ≡ h.exponent → more ++ rest ≡ h.front ++ 46 ∷ (h.places ++ (exponent ++ rest))
    text exponent same =
        ap (λ xs. xs ++ rest) h.is
        ∙ ap (λ xs. (h.front ++ 46 ∷ (h.places ++ xs)) ++ rest) (sym same)
        ∙ append_assoc h.front (46 ∷ (h.places ++ exponent)) rest
        ∙ ap (λ xs. h.front ++ 46 ∷ xs) (append_assoc h.places exponent rest)

    size : (exponent : List ℕ) → exponent ≡ h.exponent → length more ≡ length h.front + (1 + (length h.places + length exponent))
    size exponent same =
        ap length h.is ∙ length-append h.front (46 ∷ (h.places ++ h.exponent))
        ∙ ap (λ xs. length h.front + length (46 ∷ (h.places ++ xs))) (sym same)
        ∙ (let sum = length-append h.places exponent in omega arith)

    whole : (exponent : List ℕ) → exponent ≡ h.exponent → n ≡ length h.front + (1 + digits (h.places ++ (exponent ++ rest))) + exponent_len (drop (length h.front + (1 + digits (h.places ++ (exponent ++ rest)))) (h.front ++ 46 ∷ (h.places ++ (exponent ++ rest))))
    whole exponent same =
        let tail = h.places ++ (exponent ++ rest) in
        let fraction = fraction_is h.places (exponent ++ rest) h.fraction in
        let head : head_of (more ++ rest) ≡ head_of (h.front ++ 46 ∷ tail) = ap head_of (text exponent same) in
        let real = real_is h.front tail (1 + digits tail) h.whole fraction (omega arith) in
        sym (same_len kinds.Real k _ n (sym (real_head h.front tail h.whole ∙ real) ∙ (sym head ∙ e)))

    by_exponent : (exponent : List ℕ) → IsExponent exponent → exponent ≡ h.exponent → length more ≤ n
    by_exponent [] power same =
        let most = covers is_digit h.places rest h.fraction.1 in
        let all = size [] same in
        let is = whole [] same in
        omega arith
    by_exponent (b ∷ bs) power same =
        let places : digits (h.places ++ ((b ∷ bs) ++ rest)) ≡ length h.places = exact is_digit h.places b (bs ++ rest) h.fraction.1 (letter_stops b power.0) in
        let past : drop (length h.front + (1 + length h.places)) (h.front ++ 46 ∷ (h.places ++ ((b ∷ bs) ++ rest))) ≡ b ∷ (bs ++ rest) = skipped h.front h.places (b ∷ (bs ++ rest)) in
        let is : n ≡ length h.front + (1 + length h.places) + exponent_len (b ∷ (bs ++ rest)) =
        whole (b ∷ bs) same ∙ rw (places, past) refl in
        let most = exponent_longest b bs rest power in
        let all = size (b ∷ bs) same in
        omega arith
      where
        skipped : (xs ys zs : List ℕ) → drop (length xs + (1 + length ys)) (xs ++ 46 ∷ (ys ++ zs)) ≡ zs
        skipped xs ys zs =
            let same : length (xs ++ 46 ∷ ys) ≡ length xs + (1 + length ys) = length-append xs (46 ∷ ys) ∙ (omega arith) in
            ap (λ m. drop m (xs ++ 46 ∷ (ys ++ zs))) (sym same) ∙ ap (drop (length (xs ++ 46 ∷ ys))) (sym (append_assoc xs (46 ∷ ys) zs)) ∙ drop-append_seam (xs ++ 46 ∷ ys) zs

-- ---- quoted texts and symbols

closed : (inner rest : List ℕ) → list_all is_inner inner ≡ true → quoted_head (34 ∷ (inner ++ 34 ∷ rest)) ≡ heads.Token kinds.Quoted (length inner + 2)
unfolding quoted_head
closed inner rest h = rw (exact is_inner inner 34 rest h refl, seam inner 34 rest) refl

quoted_longest : (k : TokenKind) (n : ℕ) (more rest : List ℕ) → IsQuoted more → head_of (more ++ rest) ≡ heads.Token k n → length more ≤ n
quoted_longest k n more rest (inner, h, is) e =
    let text : more ++ rest ≡ 34 ∷ (inner ++ 34 ∷ rest) = ap (λ xs. xs ++ rest) is ∙ ap (λ xs. 34 ∷ xs) (append_assoc inner (34 ∷ []) rest) in
    let same = same_len kinds.Quoted k (length inner + 2) n (sym (quote_head (inner ++ 34 ∷ rest) ∙ closed inner rest h) ∙ (sym (ap head_of text) ∙ e)) in
    let sum = ap length is ∙ length-append (34 ∷ inner) (34 ∷ []) in
    omega arith

arrow_head : (rest : List ℕ) → head_of (45 ∷ 62 ∷ rest) ≡ heads.Token kinds.Symbol 2
unfolding head_of is_blank starts_word is_digit symbol_head
arrow_head rest = refl

equals_head : (rest : List ℕ) → head_of (61 ∷ 61 ∷ rest) ≡ heads.Token kinds.Symbol 2
unfolding head_of is_blank starts_word is_digit symbol_head
equals_head rest = refl

symbol_longest : (k : TokenKind) (n : ℕ) (more rest : List ℕ) → IsSymbol more → head_of (more ++ rest) ≡ heads.Token k n → length more ≤ n
symbol_longest k n more rest (inl is) e =
    let size = ap length is in
    let same = same_len kinds.Symbol k 2 n (sym (arrow_head rest) ∙ (sym (ap (λ xs. head_of (xs ++ rest)) is) ∙ e)) in
    omega arith
symbol_longest k n more rest (inr (inl is)) e =
    let size = ap length is in
    let same = same_len kinds.Symbol k 2 n (sym (equals_head rest) ∙ (sym (ap (λ xs. head_of (xs ++ rest)) is) ∙ e)) in
    omega arith
symbol_longest k n more rest (inr (inr (b, h, is))) e =
    let size = ap length is in
    let some : 0 < length (more ++ rest) = omega (arith, length-append more rest) in
    let within = subst (λ x. IsWithin x (length (more ++ rest))) e (head_within (more ++ rest) some) in
    omega arith

-- ---- any token

pub token_longest : (k : TokenKind) (n : ℕ) (kind : TokenKind) (more rest : List ℕ) → IsToken kind more → head_of (more ++ rest) ≡ heads.Token k n → length more ≤ n
token_longest k n kinds.Word more rest h e = word_longest k n more rest h e
token_longest k n kinds.Whole more rest (v, small, is) e = digits_longest k n more rest (subst IsDigits (sym is) (decimal_digits v small)) e
token_longest k n kinds.Real more rest h e = real_longest k n more rest h e
token_longest k n kinds.Quoted more rest h e = quoted_longest k n more rest h e
token_longest k n kinds.Symbol more rest h e = symbol_longest k n more rest h e
