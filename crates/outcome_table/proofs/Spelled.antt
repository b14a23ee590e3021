-- A line's text says one thing, and one that is passed over says nothing.
use Rattle.std.proofs.Common.{◌≡◌, ◌≢◌, ◌⊎◌, ℕ, ◌<◌, ◌^◌, Bool, true, false, List, [], ◌∷◌, decimal, Contains, inl, inr, refl, sym, ◌∙◌, ap, ap₂, subst, arith}
use Rattle.std.specs.List.{onto_first}
use Rattle.std.proofs.lemmas.Fmt.{decimal_injective}
use Rattle.std.proofs.lemmas.List.Elements.{Contains-push_cases, Contains-append_cases}
use Rattle.patch_base.specs.Texts.{words, digit, IsSkipped}
use Rattle.source_model.specs.declared.Given.TheVariants as given
use Rattle.magic_pool.specs.declared.Fail.{Fail}
use Rattle.outcome_table.specs.OutcomeText.{AreRead, IsLine, Line, Spells, SpellsWords, failing, outcome, spelling}

pub cons_parts : {A : Type 0} (a b : A) (xs ys : List A) → a ∷ xs ≡ b ∷ ys → (a ≡ b) × (xs ≡ ys)
cons_parts a b xs ys e = (cc, cc)

-- an element of a list is its head or one behind it
pub cons_cases : {A : Type 0} (x : A) (xs : List A) (y : A) → Contains (x ∷ xs) y → (x ≡ y) ⊎ Contains xs y
cons_cases x xs y h = elim (Contains-append_cases (x ∷ []) xs y h) [
  | inl c ↦ elim (Contains-push_cases [] x y c) [ inl none ↦ absurd (omega (arith, none.1)) | inr e ↦ inl e ]
  | inr c ↦ inr c
]

-- two lists of words whose first words are these single bytes
heads : (a b : ℕ) (xs ys : List (List ℕ)) → (a ∷ []) ∷ xs ≡ (b ∷ []) ∷ ys → a ≡ b
heads a b xs ys e = cc

pub other_heads : (a b : ℕ) (xs ys : List (List ℕ)) → a ≢ b → (a ∷ []) ∷ xs ≡ (b ∷ []) ∷ ys → ⊥
other_heads a b xs ys apart e = apart (heads a b xs ys e)

bytes : (a b : ℕ) → a ≢ b → a ∷ [] ≡ b ∷ [] → ⊥
bytes a b apart e = apart (cc)

pub digit_injective : (b c : Bool) → digit b ≡ digit c → b ≡ c
digit_injective true true e = refl
digit_injective true false e = absurd (bytes 49 48 (omega arith) e)
digit_injective false true e = absurd (bytes 48 49 (omega arith) e)
digit_injective false false e = refl

pub same_number : (p q : ℕ) → p < 2 ^ 32 → q < 2 ^ 32 → decimal p ≡ decimal q → p ≡ q
same_number p q h k e = decimal_injective p q (omega arith) (omega arith) e

same_line : (x y : Line) → IsLine x → IsLine y → spelling x ≡ spelling y → x ≡ y
same_line (outcome p (given.Rotation a b)) (outcome q (given.Rotation c d)) h k e =
    let p_is : p ≡ q = same_number p q h.0 k.0 (cc) in
    let a_is : a ≡ c = digit_injective a c (cc) in
    let b_is : b ≡ d = digit_injective b d (cc) in
    cc
same_line (outcome p (given.Rotation a b)) (outcome q (given.Measure c)) h k e = absurd (other_heads 114 109 _ _ (omega arith) e)
same_line (outcome p (given.Rotation a b)) (outcome q given.Settled) h k e = absurd (k.1 refl)
same_line (outcome p (given.Rotation a b)) (failing x) h k e = absurd (other_heads 114 102 _ _ (omega arith) e)
same_line (outcome p (given.Measure a)) (outcome q (given.Rotation c d)) h k e = absurd (other_heads 109 114 _ _ (omega arith) e)
same_line (outcome p (given.Measure a)) (outcome q (given.Measure c)) h k e =
    let p_is : p ≡ q = same_number p q h.0 k.0 (cc) in
    let a_is : a ≡ c = digit_injective a c (cc) in
    cc
same_line (outcome p (given.Measure a)) (outcome q given.Settled) h k e = absurd (k.1 refl)
same_line (outcome p (given.Measure a)) (failing x) h k e = absurd (other_heads 109 102 _ _ (omega arith) e)
same_line (outcome p given.Settled) y h k e = absurd (h.1 refl)
same_line (failing x) (outcome q (given.Rotation c d)) h k e = absurd (other_heads 102 114 _ _ (omega arith) e)
same_line (failing x) (outcome q (given.Measure c)) h k e = absurd (other_heads 102 109 _ _ (omega arith) e)
same_line (failing x) (outcome q given.Settled) h k e = absurd (k.1 refl)
same_line (failing x) (failing y) h k e =
    let f_is : x.factory ≡ y.factory = same_number x.factory y.factory h.0 k.0 (cc) in
    let r_is : x.run ≡ y.run = same_number x.run y.run h.1 k.1 (cc) in
    let made : ℕ → ℕ → Fail = λ f r. record { factory = f; run = r } in
    ap failing (ap₂ made f_is r_is)

pub says_once : (ws : List (List ℕ)) (x y : Line) → SpellsWords ws x → SpellsWords ws y → x ≡ y
says_once ws x y h k = same_line x y h.1 k.1 (sym h.0 ∙ k.0)

-- the first word of a line is a single byte, and no `#`
record HasHead (ws : List (List ℕ)) : Type 0 where
  pub byte : ℕ
  pub rest : List (List ℕ)
  pub is : ws ≡ (byte ∷ []) ∷ rest
  pub other : byte ≢ 35

has_head : (line : Line) → IsLine line → HasHead (spelling line)
has_head (outcome p (given.Rotation a b)) h = record { byte = 114; rest = _; is = refl; other = omega arith }
has_head (outcome p (given.Measure a)) h = record { byte = 109; rest = _; is = refl; other = omega arith }
has_head (outcome p given.Settled) h = absurd (h.1 refl)
has_head (failing x) h = record { byte = 102; rest = _; is = refl; other = omega arith }

hash_first : (ws : List (List ℕ)) → (w : List ℕ) × (rest : List (List ℕ)) × (onto_first 35 ws ≡ (35 ∷ w) ∷ rest)
hash_first [] = ([], [], refl)
hash_first (w ∷ ws) = (w, ws, refl)

pub skipped_says : (text : List ℕ) (line : Line) → IsSkipped text → Spells text line → ⊥
skipped_says [] line skipped h =
    let head = has_head line h.1 in
    let e : [] ∷ [] ≡ (head.byte ∷ []) ∷ head.rest = h.0 ∙ head.is in
    cc
skipped_says (b ∷ bs) line skipped h =
    let head = has_head line h.1 in
    let P : ℕ → Type 0 = λ c. words (c ∷ bs) ≡ spelling line in
    let first = hash_first (words bs) in
    let e : (35 ∷ first.0) ∷ first.1 ≡ (head.byte ∷ []) ∷ head.rest = sym first.2 ∙ subst P skipped h.0 ∙ head.is in
    let byte_is : head.byte ≡ 35 = cc in
    head.other byte_is

pub read_once : (texts : List (List ℕ)) (ls ms : List Line) → AreRead texts ls → AreRead texts ms → ls ≡ ms
read_once [] ls ms h k = h ∙ sym k
read_once (text ∷ texts) ls ms (inl h) (inl k) = read_once texts ls ms h.1 k.1
read_once (text ∷ texts) ls ms (inl h) (inr (line, rest, e, says, read)) = absurd (skipped_says text line h.0 says)
read_once (text ∷ texts) ls ms (inr (line, rest, e, says, read)) (inl k) = absurd (skipped_says text line k.0 says)
read_once (text ∷ texts) ls ms (inr (line, rest, e, says, read)) (inr (line', rest', e', says', read')) =
    let same : line ≡ line' = says_once (words text) line line' says says' in
    let more : rest ≡ rest' = read_once texts rest rest' read read' in
    cc
