-- A text that has tokens is gaps and these tokens in turn.
use Rattle.std.proofs.Common.{◌≡◌, ◌⊎◌, ℕ, zero, suc, ◌+◌, ◌-◌, ◌<◌, ◌≤◌, Bool, true, false, cond, nat_lt, inl, inr, Some, List, [], ◌∷◌, ◌++◌, length, take, drop, codes, Result, Ok, Err, refl, sym, subst, ◌∙◌, ap, length-drop, arith}
use Rattle.std.specs.List.{slice_get, slice_range}
use Rattle.std.proofs.lemmas.Grind.{common_steps}
use Rattle.std.proofs.lemmas.List.{drop-drop, take-append-drop}
use Rattle.std.proofs.Math.Seq.{drop-append_seam, take-append_seam}
use Rattle.qasm_lex.specs.declared.Token.{Token}
use Rattle.qasm_lex.specs.declared.TokenKind.{TokenKind}
use Rattle.qasm_lex.specs.declared.fault.FaultKind.{FaultKind}
use Rattle.qasm_lex.specs.declared.fault.FaultKind.TheVariants as faults
use Rattle.qasm_lex.specs.declared.fault.CircuitFault.{CircuitFault}
use Rattle.qasm_lex.specs.declared.fault.CircuitFault.TheVariants as circuits
use Rattle.qasm_lex.specs.declared.Head.{Head}
use Rattle.qasm_lex.specs.declared.Head.TheVariants as heads
use Rattle.qasm_lex.specs.Forms.{AreTokens, IsLongest, IsToken}
use Rattle.qasm_lex.specs.Forms.AreTokens.{blank, comment, ended, feed, token}
use Rattle.qasm_lex.specs.Laws.{FormsOfKinds, GapsAndTokens, TokensOrFault}
use Rattle.qasm_lex.specs.Tokens.{head_of, tokens_from, tokens_of, with_front}
use Rattle.qasm_lex.specs.inside.Tokens.{IsWithin}
use Rattle.qasm_lex.proofs.Longest.{token_longest}
use Rattle.qasm_lex.proofs.Placed.{after, head_within, none_at_end, none_at_zero, turn_is}
use Rattle.qasm_lex.proofs.Shapes.{IsComment, Says, head_says}

abbrev given : List Token → Result (List Token) CircuitFault
given ts = Ok ts

same_ok : (ts us : List Token) → given ts ≡ given us → ts ≡ us
same_ok ts us e = cc

abbrev Splits : ℕ → Type 0
Splits turns = (at line : ℕ) (bs : List ℕ) (ts : List Token) → length bs < turns → tokens_from turns at line bs ≡ Ok ts → AreTokens at line bs ts

-- a token at the front
one_token : (turns at line b : ℕ) (bs : List ℕ) (kind : TokenKind) (n : ℕ) (ts us : List Token) → Splits turns → length bs < turns → head_of (b ∷ bs) ≡ heads.Token kind n → 0 < n → n ≤ length (b ∷ bs) → IsToken kind (take n (b ∷ bs)) → tokens_from turns (at + n) line (drop n (b ∷ bs)) ≡ Ok us → record { kind = kind; start = at; end = at + n; line = line } ∷ us ≡ ts → AreTokens at line (b ∷ bs) ts
one_token turns at line b bs kind n ts us on short head some most form r e =
    let all = b ∷ bs in
    let size : length (take n all) ≡ n = grind (arith, common_steps) in
    let rest = on (at + n) line (drop n all) us (omega (arith, length-drop n all)) r in
    let whole : take n all ++ drop n all ≡ all = take-append-drop n all in
    let longest : IsLongest (take n all) (take n all ++ drop n all) = (λ k more others h d. subst (λ m. length more ≤ m) (sym size) (token_longest kind n k more others h (ap head_of (sym d ∙ whole) ∙ head))) in
    let found = token at line kind (take n all) (drop n all) us form longest (subst (λ m. AreTokens (at + m) line (drop n all) us) (sym size) rest) in
    subst (AreTokens at line all) e
    (subst (λ m. AreTokens at line all (record { kind = kind; start = at; end = at + m; line = line } ∷ us)) size
    (subst (λ xs. AreTokens at line xs (record { kind = kind; start = at; end = at + length (take n all); line = line } ∷ us)) whole found))

-- a comment at the front
one_comment : (turns at line b : ℕ) (bs : List ℕ) (n : ℕ) (ts : List Token) → Splits turns → length bs < turns → 0 < n → IsComment (b ∷ bs) n → tokens_from turns (at + n) line (drop n (b ∷ bs)) ≡ Ok ts → AreTokens at line (b ∷ bs) ts
one_comment turns at line b bs n ts on short some h r =
    let rest = on (at + n) line (drop n (b ∷ bs)) ts (omega (arith, length-drop n (b ∷ bs))) r in
    let moved = subst (λ m. AreTokens (at + m) line h.rest ts) h.size (subst (λ xs. AreTokens (at + n) line xs ts) h.past rest) in
    subst (λ xs. AreTokens at line xs ts) (sym h.is) (comment at line h.bytes h.rest ts h.feedless h.stops moved)

one_turn : (turns at line b : ℕ) (bs : List ℕ) (h : Head) (ts : List Token) → Splits turns → length bs < turns → head_of (b ∷ bs) ≡ h → IsWithin h (length (b ∷ bs)) → Says b bs h → after turns at line (b ∷ bs) h ≡ Ok ts → AreTokens at line (b ∷ bs) ts
unfolding after
one_turn turns at line b bs heads.Feed ts on short head within says e =
    subst (λ x. AreTokens at line (x ∷ bs) ts) (sym says) (feed at line bs ts (on (at + 1) (line + 1) bs ts short e))
one_turn turns at line b bs (heads.Blank n) ts on short head within (inl (one, h)) e =
    blank at line b bs ts h (on (at + 1) line bs ts short (sym (ap (λ k. tokens_from turns (at + k) line (drop k (b ∷ bs))) one) ∙ e))
one_turn turns at line b bs (heads.Blank n) ts on short head within (inr h) e = one_comment turns at line b bs n ts on short within.0 h e
one_turn turns at line b bs (heads.Token kind n) ts on short head within says e =
    by_rest (tokens_from turns (at + n) line (drop n (b ∷ bs))) refl e
  where
    by_rest : (r : Result (List Token) CircuitFault) → tokens_from turns (at + n) line (drop n (b ∷ bs)) ≡ r → with_front (record { kind = kind; start = at; end = at + n; line = line } ∷ []) r ≡ Ok ts → AreTokens at line (b ∷ bs) ts
    by_rest (Ok us) d f = one_token turns at line b bs kind n ts us on short head within.0 within.1 says d (same_ok _ ts f)
    by_rest (Err g) d f = absurd (cc)
one_turn turns at line b bs heads.Bad ts on short head within says e = absurd (cc)

split_from : (turns : ℕ) → Splits turns
split_from zero at line bs ts short e = absurd (omega arith)
split_from (suc turns) at line [] ts short e = subst (AreTokens at line []) (same_ok [] ts (sym (none_at_end turns at line) ∙ e)) (ended at line)
split_from (suc turns) at line (b ∷ bs) ts short e =
    one_turn turns at line b bs (head_of (b ∷ bs)) ts (split_from turns) (omega arith) refl (head_within (b ∷ bs) (omega arith)) (head_says b bs) (sym (turn_is turns at line b bs) ∙ e)

pub gaps_and_tokens : GapsAndTokens
unfolding tokens_of
gaps_and_tokens text ts e = by_length (nat_lt 4194304 (length text)) e
  where
    by_length : (b : Bool) → cond b (Err (circuits.At 0 faults.TooLong)) (tokens_from (length text + 1) 0 1 text) ≡ Ok ts → AreTokens 0 1 text ts
    by_length true f = absurd (cc)
    by_length false f = split_from (length text + 1) 0 1 text ts (omega arith) f

-- ---- the form of each token

abbrev HasForm : List ℕ → Token → Type 0
HasForm text t = IsToken t.kind (slice_range text t.start t.end)

abbrev HaveForms : List ℕ → List Token → Type 0
HaveForms text ts = (k : ℕ) (t : Token) → slice_get ts k ≡ Some t → HasForm text t

form_more : (text : List ℕ) (u : Token) (us : List Token) → HasForm text u → HaveForms text us → HaveForms text (u ∷ us)
form_more text u us h on zero t e = let same : u ≡ t = cc in subst (HasForm text) same h
form_more text u us h on (suc k) t e = on k t e

no_forms : (text : List ℕ) → HaveForms text []
no_forms text zero t e = absurd (cc)
no_forms text (suc k) t e = absurd (cc)

forms_from : (text : List ℕ) (at line : ℕ) (bs : List ℕ) (ts : List Token) → AreTokens at line bs ts → bs ≡ drop at text → HaveForms text ts
forms_from text _ _ _ _ (ended at line) d = no_forms text
forms_from text _ _ _ _ (feed at line rest ts h) d = forms_from text (at + 1) (line + 1) rest ts h (ap (drop 1) d ∙ drop-drop 1 at text)
forms_from text _ _ _ _ (blank at line b rest ts is h) d = forms_from text (at + 1) line rest ts h (ap (drop 1) d ∙ drop-drop 1 at text)
forms_from text _ _ _ _ (comment at line bytes rest ts feedless stops h) d =
    forms_from text (at + (2 + length bytes)) line rest ts h (skipped bytes rest ∙ ap (drop (2 + length bytes)) d ∙ drop-drop (2 + length bytes) at text)
  where
    skipped : (bytes rest : List ℕ) → rest ≡ drop (2 + length bytes) (codes "//" ++ bytes ++ rest)
    skipped bytes rest = sym (drop-append_seam (47 ∷ 47 ∷ bytes) rest) ∙ ap (λ k. drop k (47 ∷ 47 ∷ (bytes ++ rest))) (let e : suc (suc (length bytes)) ≡ 2 + length bytes = omega arith in e)
forms_from text _ _ _ _ (token at line kind bytes rest ts form longest h) d =
    let long : (at + length bytes) - at ≡ length bytes = omega arith in
    let own : slice_range text at (at + length bytes) ≡ bytes = rw (long, ← d) (take-append_seam bytes rest) in
    form_more text _ ts (subst (IsToken kind) (sym own) form)
    (forms_from text (at + length bytes) line rest ts h (sym (drop-append_seam bytes rest) ∙ ap (drop (length bytes)) d ∙ drop-drop (length bytes) at text))

pub forms_of_kinds : FormsOfKinds
forms_of_kinds text ts e = forms_from text 0 1 text ts (gaps_and_tokens text ts e) refl

-- ---- tokens or a fault

abbrev Answered : Result (List Token) CircuitFault → Type 0
Answered r = ((ts : List Token) × (r ≡ Ok ts)) ⊎ ((line : ℕ) × (kind : FaultKind) × (r ≡ Err (circuits.At line kind)))

front_answered : (t : Token) (r : Result (List Token) CircuitFault) → Answered r → Answered (with_front (t ∷ []) r)
front_answered t r (inl (ts, e)) = inl (t ∷ ts, ap (with_front (t ∷ [])) e)
front_answered t r (inr (line, kind, e)) = inr (line, kind, ap (with_front (t ∷ [])) e)

after_answered : (turns at line b : ℕ) (bs : List ℕ) (h : Head) → ((at' line' : ℕ) (bs' : List ℕ) → Answered (tokens_from turns at' line' bs')) → Answered (after turns at line (b ∷ bs) h)
unfolding after
after_answered turns at line b bs heads.Feed on = on (at + 1) (line + 1) bs
after_answered turns at line b bs (heads.Blank n) on = on (at + n) line (drop n (b ∷ bs))
after_answered turns at line b bs (heads.Token kind n) on = front_answered (record { kind = kind; start = at; end = at + n; line = line }) (tokens_from turns (at + n) line (drop n (b ∷ bs))) (on (at + n) line (drop n (b ∷ bs)))
after_answered turns at line b bs heads.Bad on = inr (line, faults.Token, refl)

answered_from : (turns at line : ℕ) (bs : List ℕ) → Answered (tokens_from turns at line bs)
answered_from zero at line bs = inl ([], none_at_zero at line bs)
answered_from (suc turns) at line [] = inl ([], none_at_end turns at line)
answered_from (suc turns) at line (b ∷ bs) = subst Answered (sym (turn_is turns at line b bs)) (after_answered turns at line b bs (head_of (b ∷ bs)) (λ at' line' bs'. answered_from turns at' line' bs'))

pub tokens_or_fault : TokensOrFault
unfolding tokens_of
tokens_or_fault text = by_length (nat_lt 4194304 (length text))
  where
    by_length : (b : Bool) → Answered (cond b (Err (circuits.At 0 faults.TooLong)) (tokens_from (length text + 1) 0 1 text))
    by_length true = inr (0, faults.TooLong, refl)
    by_length false = answered_from (length text + 1) 0 1 text
