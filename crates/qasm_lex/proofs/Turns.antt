-- One turn of the loop over a text.
use Rattle.std.proofs.Common.{◌≡◌, ℕ, zero, suc, ◌+◌, ◌-◌, ◌<◌, ◌≤◌, List, [], ◌∷◌, ◌++◌, length, take, drop, Result, Ok, Err, refl, sym, ap, ◌∙◌, append_assoc, append-nil, length-drop, arith}
use Rattle.std.proofs.lemmas.List.{drop-drop, drop_all, take_all}
use Rattle.std.proofs.lemmas.Bool.Decides.{nat_tests}
use Rattle.qasm_lex.specs.declared.TokenKind.{TokenKind}
use Rattle.qasm_lex.specs.declared.Token.{Token}
use Rattle.qasm_lex.specs.declared.Head.{Head}
use Rattle.qasm_lex.specs.declared.Head.TheVariants as heads
use Rattle.qasm_lex.specs.declared.fault.FaultKind.TheVariants as faults
use Rattle.qasm_lex.specs.declared.fault.CircuitFault.{CircuitFault}
use Rattle.qasm_lex.specs.declared.fault.CircuitFault.TheVariants as circuits
use Rattle.qasm_lex.specs.Tokens.{head_of, tokens_from, tokens_of, with_front}

-- what is left of the text, after the tokens so far, gives the tokens of the whole text
pub record Reads (found : List Token) (turns at line : ℕ) (text : List ℕ) : Type 0 where
  pub turn : length text < at + turns
  pub given : with_front found (tokens_from turns at line (drop at text)) ≡ tokens_from (length text + 1) 0 1 text

at_feed : (turns at line : ℕ) (bs : List ℕ) → 0 < length bs → head_of bs ≡ heads.Feed → tokens_from (suc turns) at line bs ≡ tokens_from turns (at + 1) (line + 1) (drop 1 bs)
unfolding tokens_from
at_feed turns at line [] lt e = absurd (omega arith)
at_feed turns at line (b ∷ bs) lt e = rw (e, tokens_from) refl

at_blank : (turns at line n : ℕ) (bs : List ℕ) → 0 < length bs → head_of bs ≡ heads.Blank n → tokens_from (suc turns) at line bs ≡ tokens_from turns (at + n) line (drop n bs)
unfolding tokens_from
at_blank turns at line n [] lt e = absurd (omega arith)
at_blank turns at line n (b ∷ bs) lt e = rw (e, tokens_from) refl

abbrev token_at : TokenKind → ℕ → ℕ → ℕ → Token
token_at kind at n line = record { kind = kind; start = at; end = at + n; line = line }

at_token : (turns at line n : ℕ) (kind : TokenKind) (bs : List ℕ) → 0 < length bs → head_of bs ≡ heads.Token kind n → tokens_from (suc turns) at line bs ≡ with_front (token_at kind at n line ∷ []) (tokens_from turns (at + n) line (drop n bs))
unfolding tokens_from
at_token turns at line n kind [] lt e = absurd (omega arith)
at_token turns at line n kind (b ∷ bs) lt e = rw (e, tokens_from) refl

at_bad : (turns at line : ℕ) (bs : List ℕ) → 0 < length bs → head_of bs ≡ heads.Bad → tokens_from (suc turns) at line bs ≡ Err (circuits.At line faults.Token)
unfolding tokens_from
at_bad turns at line [] lt e = absurd (omega arith)
at_bad turns at line (b ∷ bs) lt e = rw (e, tokens_from) refl

at_end : (turns at line : ℕ) → tokens_from turns at line [] ≡ Ok []
unfolding tokens_from
at_end zero at line = refl
at_end (suc turns) at line = refl

regroup : (found : List Token) (t : Token) (given : Result (List Token) CircuitFault) → with_front found (with_front (t ∷ []) given) ≡ with_front (found ++ t ∷ []) given
regroup found t (Ok us) = ap (λ (ts : List Token). Ok ts) (sym (append_assoc found (t ∷ []) us))
regroup found t (Err e) = refl

-- what `&text[at..]` is
abbrev tail_of : ℕ → List ℕ → List ℕ
tail_of at text = take (length text - at) (drop at text)

head_at : (at : ℕ) (text : List ℕ) (h : Head) → head_of (tail_of at text) ≡ h → head_of (drop at text) ≡ h
head_at at text h e = ap head_of (sym (take_all (length text - at) (drop at text) (omega (arith, length-drop at text)))) ∙ e

pub goes_feed : (found : List Token) (turns at line : ℕ) (text : List ℕ) → at < length text → head_of (tail_of at text) ≡ heads.Feed → Reads found turns at line text → (t : ℕ) × Reads found t (at + 1) (line + 1) text
goes_feed found zero at line text lt e r = absurd (omega (arith, r.turn))
goes_feed found (suc turns) at line text lt e r =
    let some : 0 < length (drop at text) = omega (arith, length-drop at text) in
    let s = at_feed turns at line (drop at text) some (head_at at text _ e) ∙ ap (tokens_from turns (at + 1) (line + 1)) (drop-drop 1 at text) in
    (turns, record { turn = omega (arith, r.turn); given = ap (with_front found) (sym s) ∙ r.given })

pub goes_blank : (found : List Token) (turns at line n : ℕ) (text : List ℕ) → at < length text → 0 < n → head_of (tail_of at text) ≡ heads.Blank n → Reads found turns at line text → (t : ℕ) × Reads found t (at + n) line text
goes_blank found zero at line n text lt pos e r = absurd (omega (arith, r.turn))
goes_blank found (suc turns) at line n text lt pos e r =
    let some : 0 < length (drop at text) = omega (arith, length-drop at text) in
    let s = at_blank turns at line n (drop at text) some (head_at at text _ e) ∙ ap (tokens_from turns (at + n) line) (drop-drop n at text) in
    (turns, record { turn = omega (arith, r.turn); given = ap (with_front found) (sym s) ∙ r.given })

pub goes_token : (found : List Token) (turns at line n : ℕ) (kind : TokenKind) (text : List ℕ) → at < length text → 0 < n → head_of (tail_of at text) ≡ heads.Token kind n → Reads found turns at line text → (t : ℕ) × Reads (found ++ token_at kind at n line ∷ []) t (at + n) line text
goes_token found zero at line n kind text lt pos e r = absurd (omega (arith, r.turn))
goes_token found (suc turns) at line n kind text lt pos e r =
    let some : 0 < length (drop at text) = omega (arith, length-drop at text) in
    let rest = tokens_from turns (at + n) line (drop (at + n) text) in
    let s = at_token turns at line n kind (drop at text) some (head_at at text _ e) ∙ ap (λ (bs : List ℕ). with_front (token_at kind at n line ∷ []) (tokens_from turns (at + n) line bs)) (drop-drop n at text) in
    (turns, record { turn = omega (arith, r.turn); given = sym (regroup found (token_at kind at n line) rest) ∙ ap (with_front found) (sym s) ∙ r.given })

pub too_long : (text : List ℕ) → 4194304 < length text → tokens_of text ≡ Err (circuits.At 0 faults.TooLong)
unfolding tokens_of
too_long text lt = grind (arith, nat_tests)

whole : (text : List ℕ) → length text ≤ 4194304 → tokens_of text ≡ tokens_from (length text + 1) 0 1 text
unfolding tokens_of
whole text le = grind (arith, nat_tests)

pub ends_bad : (found : List Token) (turns at line : ℕ) (text : List ℕ) → length text ≤ 4194304 → at < length text → head_of (tail_of at text) ≡ heads.Bad → Reads found turns at line text → tokens_of text ≡ Err (circuits.At line faults.Token)
ends_bad found zero at line text le lt e r = absurd (omega (arith, r.turn))
ends_bad found (suc turns) at line text le lt e r =
    let some : 0 < length (drop at text) = omega (arith, length-drop at text) in
    whole text le ∙ sym r.given ∙ ap (with_front found) (at_bad turns at line (drop at text) some (head_at at text _ e))

pub ends : (found : List Token) (turns at line : ℕ) (text : List ℕ) → length text ≤ 4194304 → length text ≤ at → Reads found turns at line text → tokens_of text ≡ Ok found
ends found turns at line text le all r =
    let none : drop at text ≡ [] = drop_all at text all in
    whole text le ∙ sym r.given ∙ ap (λ (bs : List ℕ). with_front found (tokens_from turns at line bs)) none ∙ ap (with_front found) (at_end turns at line) ∙ ap (λ (ts : List Token). Ok ts) (append-nil found)

pub begins : (text : List ℕ) → (t : ℕ) × Reads [] t 0 1 text
begins text = (length text + 1, record { turn = omega arith; given = front (tokens_from (length text + 1) 0 1 text) })
  where
    front : (given : Result (List Token) CircuitFault) → with_front [] given ≡ given
    front (Ok ts) = refl
    front (Err e) = refl
