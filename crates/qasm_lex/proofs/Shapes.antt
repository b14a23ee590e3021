-- What a head says of the bytes at the front of a text.
use Rattle.std.proofs.Common.{◌≡◌, ◌⊎◌, ℕ, zero, suc, ◌+◌, ◌<◌, Bool, true, false, ◌&&◌, ◌||◌, ◌==◌, not, cond, IsTrue, inl, inr, List, [], ◌∷◌, ◌++◌, length, get_or, take, drop, codes, refl, sym, subst, ◌∙◌, ap, append_assoc, arith}
use Rattle.std.specs.List.{list_all, prefix_len}
use Rattle.std.proofs.lemmas.Bool.{and_parts, eqb-true}
use Rattle.std.proofs.lemmas.Bool.Decides.{nat_tests}
use Rattle.std.proofs.lemmas.List.{take-append-drop, take_more}
use Rattle.std.proofs.lemmas.List.Folds.{length-prefix_len}
use Rattle.qasm_lex.specs.declared.TokenKind.TheVariants as kinds
use Rattle.qasm_lex.specs.declared.Head.{Head}
use Rattle.qasm_lex.specs.declared.Head.TheVariants as heads
use Rattle.qasm_lex.specs.Forms.{EndsLine, IsDigits, IsExponent, IsReal, IsSign, IsSymbol, IsToken, IsWord, is_inner}
use Rattle.qasm_lex.specs.Tokens.{digits, exponent_len, fraction_len, head_of, is_blank, is_digit, is_symbol, is_whole, is_word_byte, number_head, quoted_head, sign_len, starts_word, symbol_head}
use Rattle.qasm_lex.proofs.Heads.{digit_begins}
use Rattle.qasm_lex.proofs.Longest.{begins_word}
use Rattle.qasm_lex.proofs.Placed.{past_end}
use Rattle.qasm_lex.proofs.Wholes.{whole_decides}

-- a comment to the end of its line, of this length
pub record IsComment (bs : List ℕ) (n : ℕ) : Type 0 where
  pub bytes : List ℕ
  pub rest : List ℕ
  pub feedless : IsTrue (list_all (λ b. not (b == 10)) bytes)
  pub stops : EndsLine rest
  pub is : bs ≡ codes "//" ++ bytes ++ rest
  pub size : n ≡ 2 + length bytes
  pub past : drop n bs ≡ rest

abbrev pub Says : ℕ → List ℕ → Head → Type 0
Says b bs heads.Feed = b ≡ 10
Says b bs (heads.Blank n) = ((n ≡ 1) × IsTrue (is_blank b)) ⊎ IsComment (b ∷ bs) n
Says b bs (heads.Token kind n) = IsToken kind (take n (b ∷ bs))
Says b bs heads.Bad = Unit {0}

choose : (b : ℕ) (bs : List ℕ) (t : Bool) (x y : Head) → (t ≡ true → Says b bs x) → (t ≡ false → Says b bs y) → Says b bs (cond t x y)
choose b bs true x y p q = p refl
choose b bs false x y p q = q refl

-- ---- fronts of lists

one_and : (n : ℕ) → 1 + n ≡ suc n
one_and n = omega arith

pub front_all : (p : ℕ → Bool) (xs : List ℕ) → list_all p (take (prefix_len p xs) xs) ≡ true
front_all p [] = refl
front_all p (x ∷ xs) = onward (p x) refl (front_all p xs)
  where
    onward : (b : Bool) → p x ≡ b → list_all p (take (prefix_len p xs) xs) ≡ true → list_all p (take (cond b (1 + prefix_len p xs) 0) (x ∷ xs)) ≡ true
    onward true e h = rw (one_and (prefix_len p xs), e) h
    onward false e h = refl

take_none : (k : ℕ) → take {A = ℕ} k [] ≡ []
take_none zero = refl
take_none (suc k) = refl

take_sum : (m n : ℕ) (xs : List ℕ) → take (m + n) xs ≡ take m xs ++ take n (drop m xs)
take_sum zero n xs = ap (λ k. take k xs) (let e : 0 + n ≡ n = omega arith in e)
take_sum (suc m) n [] = take_none (suc m + n) ∙ sym (take_none n)
take_sum (suc m) n (x ∷ xs) = ap (λ k. take k (x ∷ xs)) (let e : suc m + n ≡ suc (m + n) = omega arith in e) ∙ ap (λ ys. x ∷ ys) (take_sum m n xs)

front_digits : (xs : List ℕ) → 0 < digits xs → IsDigits (take (digits xs) xs)
front_digits xs some = (let e = length-prefix_len is_digit xs in omega arith, front_all is_digit xs)

-- ---- comments

line_ends : (xs : List ℕ) → EndsLine (drop (prefix_len (λ c. not (c == 10)) xs) xs)
line_ends [] = tt
line_ends (x ∷ xs) = onward (x == 10) refl (line_ends xs)
  where
    onward : (b : Bool) → (x == 10) ≡ b → EndsLine (drop (prefix_len (λ c. not (c == 10)) xs) xs) → EndsLine (drop (cond (not b) (1 + prefix_len (λ c. not (c == 10)) xs) 0) (x ∷ xs))
    onward true e h = eqb-true x 10 e
    onward false e h = rw (one_and (prefix_len (λ c. not (c == 10)) xs)) h

comment_says : (b : ℕ) (bs : List ℕ) → (b == 47 && get_or (b ∷ bs) 1 0 == 47) ≡ true → IsComment (b ∷ bs) (prefix_len (λ c. not (c == 10)) (b ∷ bs))
comment_says b [] h = absurd (let both = and_parts (b == 47) (0 == 47) h in let e : false ≡ true = both.1 in cc)
comment_says b (c ∷ cs) h =
    let both = and_parts (b == 47) (c == 47) h in
    let first : b ≡ 47 = eqb-true b 47 both.0 in
    let second : c ≡ 47 = eqb-true c 47 both.1 in
    let P : List ℕ → Type 0 = λ xs. IsComment xs (prefix_len (λ c. not (c == 10)) xs) in
    subst P (λ i. sym first i ∷ sym second i ∷ cs) (slashes cs)
  where
    slashes : (cs : List ℕ) → IsComment (47 ∷ 47 ∷ cs) (prefix_len (λ c. not (c == 10)) (47 ∷ 47 ∷ cs))
    slashes cs =
        let n = prefix_len (λ c. not (c == 10)) cs in
        let long : 1 + (1 + n) ≡ suc (suc n) = omega arith in
        record {
          bytes = take n cs;
          rest = drop n cs;
          feedless = front_all (λ c. not (c == 10)) cs;
          stops = line_ends cs;
          is = ap (λ xs. 47 ∷ 47 ∷ xs) (sym (take-append-drop n cs));
          size = (let e = length-prefix_len (λ c. not (c == 10)) cs in omega arith);
          past = ap (λ k. drop k (47 ∷ 47 ∷ cs)) long;
        }

-- ---- words

word_says : (b : ℕ) (bs : List ℕ) → starts_word b ≡ true → IsWord (take (prefix_len is_word_byte (b ∷ bs)) (b ∷ bs))
word_says b bs h =
    let first = begins_word b h in
    let size : prefix_len is_word_byte (b ∷ bs) ≡ suc (prefix_len is_word_byte bs) = rw first (one_and (prefix_len is_word_byte bs)) in
    subst (λ k. IsWord (take k (b ∷ bs))) (sym size) (h, front_all is_word_byte bs)

-- ---- numbers

record IsFraction (bs : List ℕ) : Type 0 where
  places : List ℕ
  is : bs ≡ 46 ∷ places
  some : 0 < digits places
  size : fraction_len bs ≡ 1 + digits places

positive : (n : ℕ) → (n == 0) ≡ false → 0 < n
positive n e = grind (arith, nat_tests)

fraction_says : (bs : List ℕ) → (fraction_len bs == 0) ≡ false → IsFraction bs
unfolding fraction_len
fraction_says [] e = absurd (cc)
fraction_says (b ∷ bs) e = by_tests (b == 46) (digits bs == 0) refl refl e
  where
    by_tests : (p q : Bool) → (b == 46) ≡ p → (digits bs == 0) ≡ q → (cond (p && not q) (1 + digits bs) 0 == 0) ≡ false → IsFraction (b ∷ bs)
    by_tests true false d f g = record { places = bs; is = ap (λ x. x ∷ bs) (eqb-true b 46 d); some = positive (digits bs) f; size = rw (d, f) refl }
    by_tests true true d f g = absurd (cc)
    by_tests false q d f g = absurd (cc)

sign_says : (bs : List ℕ) → IsSign (take (sign_len bs) bs)
unfolding sign_len
sign_says [] = inl refl
sign_says (b ∷ bs) = by_tests (b == 43) (b == 45) refl refl
  where
    by_tests : (p q : Bool) → (b == 43) ≡ p → (b == 45) ≡ q → IsSign (take (cond (p || q) 1 0) (b ∷ bs))
    by_tests true q d f = inr (inl (ap (λ x. x ∷ []) (eqb-true b 43 d)))
    by_tests false true d f = inr (inr (ap (λ x. x ∷ []) (eqb-true b 45 f)))
    by_tests false false d f = inl refl

exponent_says : (bs : List ℕ) → IsExponent (take (exponent_len bs) bs)
unfolding exponent_len
exponent_says [] = none (exponent_len [])
  where
    none : (k : ℕ) → IsExponent (take k [])
    none zero = tt
    none (suc k) = tt
exponent_says (b ∷ bs) = by_tests (b == 101) (b == 69) (digits (drop (1 + sign_len bs) (b ∷ bs)) == 0) refl refl refl
  where
    s : ℕ
    s = sign_len bs

    letter : (p q : Bool) → (b == 101) ≡ p → (b == 69) ≡ q → (p || q) ≡ true → (b ≡ 101) ⊎ (b ≡ 69)
    letter true q d f g = inl (eqb-true b 101 d)
    letter false true d f g = inr (eqb-true b 69 f)
    letter false false d f g = absurd (cc)

    powered : (b ≡ 101) ⊎ (b ≡ 69) → (digits (drop (1 + sign_len bs) (b ∷ bs)) == 0) ≡ false → IsExponent (take ((1 + sign_len bs) + digits (drop (1 + sign_len bs) (b ∷ bs))) (b ∷ bs))
    powered l some =
        let rest : drop (1 + sign_len bs) (b ∷ bs) ≡ drop (sign_len bs) bs = ap (λ k. drop k (b ∷ bs)) (one_and (sign_len bs)) in
        let n = digits (drop (sign_len bs) bs) in
        let whole : (1 + sign_len bs) + digits (drop (1 + sign_len bs) (b ∷ bs)) ≡ suc (sign_len bs + n) = rw rest (omega arith) in
        let there : 0 < n = subst (λ xs. 0 < digits xs) rest (positive (digits (drop (1 + sign_len bs) (b ∷ bs))) some) in
        subst (λ k. IsExponent (take k (b ∷ bs))) (sym whole)
        (l, (take (sign_len bs) bs, take n (drop (sign_len bs) bs), sign_says bs, front_digits (drop (sign_len bs) bs) there, take_sum (sign_len bs) n bs))

    by_tests : (p q z : Bool) → (b == 101) ≡ p → (b == 69) ≡ q → (digits (drop (1 + sign_len bs) (b ∷ bs)) == 0) ≡ z → IsExponent (take (cond ((p || q) && not z) ((1 + sign_len bs) + digits (drop (1 + sign_len bs) (b ∷ bs))) 0) (b ∷ bs))
    by_tests true q false d f g = powered (letter true q d f refl) g
    by_tests false true false d f g = powered (letter false true d f refl) g
    by_tests true q true d f g = tt
    by_tests false true true d f g = tt
    by_tests false false z d f g = tt

number_says : (b : ℕ) (bs : List ℕ) → is_digit b ≡ true → Says b bs (number_head (b ∷ bs))
unfolding number_head
number_says b bs d =
    let all = b ∷ bs in
    let front = digits all in
    let rest = drop front all in
    let fraction = fraction_len rest in
    let more = exponent_len (drop (front + fraction) all) in
    let some : 0 < front = digit_begins all (omega arith) d in
    choose b bs (fraction == 0) (cond (is_whole (take front all)) (heads.Token kinds.Whole front) heads.Bad) (heads.Token kinds.Real (front + fraction + more))
    (λ _. choose b bs (is_whole (take front all)) (heads.Token kinds.Whole front) heads.Bad (λ e. (whole_decides (take front all)).0 e) (λ _. tt))
    (λ e. real all front fraction more some refl (fraction_says rest e) refl refl)
  where
    real : (all : List ℕ) (front fraction more : ℕ) → 0 < digits all → digits all ≡ front → IsFraction (drop front all) → fraction_len (drop front all) ≡ fraction → exponent_len (drop (front + fraction) all) ≡ more → IsReal (take (front + fraction + more) all)
    real all front fraction more some f h g m = record {
      front = take front all;
      places = take (digits h.places) h.places;
      exponent = take more (drop (front + fraction) all);
      whole = subst (λ k. IsDigits (take k all)) f (front_digits all some);
      fraction = front_digits h.places h.some;
      power = subst (λ k. IsExponent (take k (drop (front + fraction) all))) m (exponent_says (drop (front + fraction) all));
      is =
          take_sum (front + fraction) more all
          ∙ ap (λ xs. xs ++ take more (drop (front + fraction) all)) (take_sum front fraction all ∙ ap (λ xs. take front all ++ xs) point)
          ∙ append_assoc (take front all) (46 ∷ take (digits h.places) h.places) (take more (drop (front + fraction) all));
    }
      where
        point : take fraction (drop front all) ≡ 46 ∷ take (digits h.places) h.places
        point = ap (λ k. take k (drop front all)) (sym g ∙ h.size ∙ one_and (digits h.places)) ∙ ap (take (suc (digits h.places))) h.is

-- ---- quoted texts and symbols

quoted_says : (b : ℕ) (bs : List ℕ) → b ≡ 34 → Says b bs (quoted_head (b ∷ bs))
unfolding quoted_head
quoted_says b bs q =
    let inner = prefix_len is_inner bs in
    choose b bs (get_or bs inner 0 == 34) (heads.Token kinds.Quoted (inner + 2)) heads.Bad
    (λ e.
    let within : inner < length bs = past_end bs inner 33 e in
    let more : inner + 2 ≡ suc (inner + 1) = omega arith in (
      take inner bs,
      front_all is_inner bs,
      ap (λ k. take k (b ∷ bs)) more
          ∙ ap (λ xs. b ∷ xs) (take_more bs inner 0 within ∙ ap (λ x. take inner bs ++ x ∷ []) (eqb-true (get_or bs inner 0) 34 e))
          ∙ ap (λ x. x ∷ (take inner bs ++ 34 ∷ [])) q,
    ))
    (λ _. tt)

symbol_says : (b : ℕ) (bs : List ℕ) → Says b bs (symbol_head (b ∷ bs))
unfolding symbol_head
symbol_says b bs =
    choose b bs ((b == 45 && get_or (b ∷ bs) 1 0 == 62) || (b == 61 && get_or (b ∷ bs) 1 0 == 61)) (heads.Token kinds.Symbol 2) (cond (is_symbol b) (heads.Token kinds.Symbol 1) heads.Bad)
    (λ e. two bs e)
    (λ _. choose b bs (is_symbol b) (heads.Token kinds.Symbol 1) heads.Bad (λ e. inr (inr (b, e, refl))) (λ _. tt))
  where
    of_two : (c : ℕ) (cs : List ℕ) (p q r s : Bool) → (b == 45) ≡ p → (c == 62) ≡ q → (b == 61) ≡ r → (c == 61) ≡ s → ((p && q) || (r && s)) ≡ true → IsSymbol (b ∷ c ∷ [])
    of_two c cs true true r s d e f g h = inl (λ i. eqb-true b 45 d i ∷ eqb-true c 62 e i ∷ [])
    of_two c cs true false true true d e f g h = inr (inl (λ i. eqb-true b 61 f i ∷ eqb-true c 61 g i ∷ []))
    of_two c cs false q true true d e f g h = inr (inl (λ i. eqb-true b 61 f i ∷ eqb-true c 61 g i ∷ []))
    of_two c cs true false true false d e f g h = absurd (cc)
    of_two c cs true false false s d e f g h = absurd (cc)
    of_two c cs false q true false d e f g h = absurd (cc)
    of_two c cs false q false s d e f g h = absurd (cc)

    two : (bs : List ℕ) → ((b == 45 && get_or (b ∷ bs) 1 0 == 62) || (b == 61 && get_or (b ∷ bs) 1 0 == 61)) ≡ true → IsSymbol (take 2 (b ∷ bs))
    two [] e = absurd (lone (b == 45) (b == 61) e)
      where
        lone : (p q : Bool) → ((p && false) || (q && false)) ≡ true → ⊥
        lone true true e = cc
        lone true false e = cc
        lone false true e = cc
        lone false false e = cc
    two (c ∷ cs) e = of_two c cs (b == 45) (c == 62) (b == 61) (c == 61) refl refl refl refl e

-- ---- any head

pub head_says : (b : ℕ) (bs : List ℕ) → Says b bs (head_of (b ∷ bs))
unfolding head_of
head_says b bs =
    let no_feed : ℕ → Bool = λ c. not (c == 10) in
    let quoted = cond (b == 34) (quoted_head (b ∷ bs)) (symbol_head (b ∷ bs)) in
    let number = cond (is_digit b) (number_head (b ∷ bs)) quoted in
    let word = cond (starts_word b) (heads.Token kinds.Word (prefix_len is_word_byte (b ∷ bs))) number in
    let comment = cond (b == 47 && get_or (b ∷ bs) 1 0 == 47) (heads.Blank (prefix_len no_feed (b ∷ bs))) word in
    let blank = cond (is_blank b) (heads.Blank 1) comment in
    choose b bs (b == 10) heads.Feed blank (λ e. eqb-true b 10 e) (λ _.
    choose b bs (is_blank b) (heads.Blank 1) comment (λ e. inl (refl, e)) (λ _.
    choose b bs (b == 47 && get_or (b ∷ bs) 1 0 == 47) (heads.Blank (prefix_len no_feed (b ∷ bs))) word (λ e. inr (comment_says b bs e)) (λ _.
    choose b bs (starts_word b) (heads.Token kinds.Word (prefix_len is_word_byte (b ∷ bs))) number (λ e. word_says b bs e) (λ _.
    choose b bs (is_digit b) (number_head (b ∷ bs)) quoted (λ e. number_says b bs e) (λ _.
    choose b bs (b == 34) (quoted_head (b ∷ bs)) (symbol_head (b ∷ bs)) (λ e. quoted_says b bs (eqb-true b 34 e)) (λ _. symbol_says b bs))))))
