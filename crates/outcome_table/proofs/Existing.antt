-- Each text stands for a table and failing runs, or is refused.
use Rattle.std.proofs.Common.{◌≡◌, ◌≢◌, ◌⊎◌, ℕ, zero, suc, ◌+◌, ◌<◌, ◌≤◌, ◌^◌, ◌==◌, nat_lt, Bool, true, false, List, [], ◌∷◌, ◌++◌, length, codes, decimal, Contains, Option, Some, None, inl, inr, refl, sym, ◌∙◌, ap, subst, arith}
use Rattle.std.specs.Bool.{Decides}
use Rattle.std.specs.List.{slice_get}
use Rattle.std.specs.Str.{bytes_eq}
use Rattle.std.specs.Str.Parse.{AllDigits, digits_value}
use Rattle.std.proofs.lemmas.Bool.{cases_lt, eq-eqb, eqb-true, false≢true, ltb-false, ltb-true}
use Rattle.std.proofs.lemmas.Bool.Decides.{Decides-and, Decides-like, Decides-ltb}
use Rattle.std.proofs.lemmas.Fmt.{digits_value-decimal}
use Rattle.std.proofs.lemmas.List.{append_assoc, append-nil}
use Rattle.std.proofs.lemmas.List.Elements.{Contains-append_right}
use Rattle.std.proofs.lemmas.Option.{slice_get_within}
use Rattle.std.proofs.lemmas.Slice.Eq.{bytes_eq-Decides}
use Rattle.std.proofs.lemmas.Str.Parse.{numerals_by_value, tells_digits}
use Rattle.patch_base.specs.Texts.{digit, lines, words, IsSkipped}
use Rattle.magic_pool.specs.declared.Fail.{Fail}
use Rattle.magic_pool.specs.Recount.{is_listed}
use Rattle.source_model.specs.Circuits.{IsOutcomeOf, OutcomesOf}
use Rattle.source_model.specs.declared.Given.{Given}
use Rattle.source_model.specs.declared.Given.TheVariants as given
use Rattle.source_model.specs.declared.Kind.{Kind}
use Rattle.source_model.specs.declared.Kind.TheVariants as kind
use Rattle.outcome_table.specs.declared.fault.OutcomeFault.{OutcomeFault}
use Rattle.outcome_table.specs.declared.fault.OutcomeFault.TheVariants as fault
use Rattle.outcome_table.specs.Laws.{TableOrFault}
use Rattle.outcome_table.specs.OutcomeText.{AllKept, AreRead, Asked, Breaks, BreaksText, HasLine, IsFor, IsHeaded, IsShort, Kept, Lacks, Line, Refuses, Spells, SpellsWords, StandsFor, failing, fails_of, outcome}
use Rattle.outcome_table.proofs.Breaking.{Stops}
use Rattle.outcome_table.proofs.Listed.{line_listed, listed_line}
use Rattle.outcome_table.proofs.Spelled.{cons_cases, cons_parts}

-- a fact or its refutation
abbrev Decided : Type 0 → Type 0
Decided P = P ⊎ (P → ⊥)

decided : (b : Bool) (P : Type 0) → Decides b P → Decided P
decided true P d = inl (d.0 refl)
decided false P d = inr (λ p. false≢true (d.1 p))

-- ---- words

abbrev IsNumber : List ℕ → Type 0
IsNumber w = (n : ℕ) × (n < 2 ^ 32) × (w ≡ decimal n)

value_of_decimal : (v : ℕ) → v < 2 ^ 32 → digits_value 10 (decimal v) ≡ v
value_of_decimal v small = digits_value-decimal (numerals_by_value (AllDigits 10) tells_digits) v (omega arith)

number_decided : (w : List ℕ) → Decided (IsNumber w)
number_decided w = decided _ (IsNumber w) (Decides-like _ forth back (Decides-and _ _ (Decides-ltb (digits_value 10 w) (2 ^ 32)) (bytes_eq-Decides w (decimal (digits_value 10 w)))))
  where
    forth : (digits_value 10 w < 2 ^ 32) × (w ≡ decimal (digits_value 10 w)) → IsNumber w
    forth p = (digits_value 10 w, p.0, p.1)

    back : IsNumber w → (digits_value 10 w < 2 ^ 32) × (w ≡ decimal (digits_value 10 w))
    back p =
        let same : digits_value 10 w ≡ p.0 = ap (digits_value 10) p.2 ∙ value_of_decimal p.0 p.1 in
        (rw same p.1, rw same p.2)

same_decided : (w v : List ℕ) → Decided (w ≡ v)
same_decided w v = decided (bytes_eq w v) (w ≡ v) (bytes_eq-Decides w v)

abbrev IsBit : List ℕ → Type 0
IsBit w = (b : Bool) × (w ≡ digit b)

bit_decided : (w : List ℕ) → Decided (IsBit w)
bit_decided w = elim (same_decided w (codes "1")) [
  | inl e ↦ inl (true, e)
  | inr isnt ↦ elim (same_decided w (codes "0")) [
    | inl e ↦ inl (false, e)
    | inr none ↦ inr (λ h. neither isnt none h.0 h.1)
  ]
]
  where
    neither : (w ≡ codes "1" → ⊥) → (w ≡ codes "0" → ⊥) → (b : Bool) → w ≡ digit b → ⊥
    neither p q true e = p e
    neither p q false e = q e

-- the first of some words, and the others
abbrev Key : List ℕ → List (List ℕ) → Type 0
Key key ws = (rest : List (List ℕ)) × (ws ≡ key ∷ rest)

key_first : (key : List ℕ) (ws : List (List ℕ)) → Decided (Key key ws)
key_first key [] = inr (λ h. let e = h.1 in cc)
key_first key (w ∷ ws) = elim (same_decided w key) [
  | inl e ↦ inl (ws, ap (λ x. x ∷ ws) e)
  | inr isnt ↦ inr (λ h. isnt (cons_parts w key ws h.0 h.1).0)
]

abbrev Number : List (List ℕ) → Type 0
Number ws = (n : ℕ) × (rest : List (List ℕ)) × (n < 2 ^ 32) × (ws ≡ decimal n ∷ rest)

number_first : (ws : List (List ℕ)) → Decided (Number ws)
number_first [] = inr (λ h. let e = h.3 in cc)
number_first (w ∷ ws) = elim (number_decided w) [
  | inl h ↦ inl (h.0, ws, h.1, ap (λ x. x ∷ ws) h.2)
  | inr isnt ↦ inr (λ h. isnt (h.0, h.2, (cons_parts w (decimal h.0) ws h.1 h.3).0))
]

abbrev Bit : List (List ℕ) → Type 0
Bit ws = (b : Bool) × (rest : List (List ℕ)) × (ws ≡ digit b ∷ rest)

bit_first : (ws : List (List ℕ)) → Decided (Bit ws)
bit_first [] = inr (λ h. let e = h.2 in cc)
bit_first (w ∷ ws) = elim (bit_decided w) [
  | inl h ↦ inl (h.0, ws, ap (λ x. x ∷ ws) h.1)
  | inr isnt ↦ inr (λ h. isnt (h.0, (cons_parts w (digit h.0) ws h.1 h.2).0))
]

ends : (ws : List (List ℕ)) → Decided (ws ≡ [])
ends [] = inl refl
ends (w ∷ ws) = inr (λ e. cc)

tails : (ws : List (List ℕ)) (v w : List ℕ) (vs us : List (List ℕ)) → ws ≡ v ∷ vs → ws ≡ w ∷ us → vs ≡ us
tails ws v w vs us e f = (cons_parts v w vs us (sym e ∙ f)).1

-- ---- lines

abbrev IsRotation : List (List ℕ) → Type 0
IsRotation ws = (p : ℕ) × (raw : Bool) × (x : Bool) × (p < 2 ^ 32) × (ws ≡ codes "r" ∷ decimal p ∷ digit raw ∷ digit x ∷ [])

rotation_decided : (ws : List (List ℕ)) → Decided (IsRotation ws)
rotation_decided ws = elim (key_first (codes "r") ws) [
  | inr isnt ↦ inr (λ h. isnt (decimal h.0 ∷ digit h.1 ∷ digit h.2 ∷ [], h.4))
  | inl k ↦ elim (number_first k.0) [
    | inr isnt ↦ inr (λ h. isnt (h.0, digit h.1 ∷ digit h.2 ∷ [], h.3, tails ws _ _ _ _ k.1 h.4))
    | inl n ↦ elim (bit_first n.1) [
      | inr isnt ↦ inr (λ h. isnt (h.1, digit h.2 ∷ [], tails k.0 _ _ _ _ n.3 (tails ws _ _ _ _ k.1 h.4)))
      | inl b ↦ elim (bit_first b.1) [
        | inr isnt ↦ inr (λ h. isnt (h.2, [], tails n.1 _ _ _ _ b.2 (tails k.0 _ _ _ _ n.3 (tails ws _ _ _ _ k.1 h.4))))
        | inl x ↦ elim (ends x.1) [
          | inr isnt ↦ inr (λ h. isnt (tails b.1 _ _ _ _ x.2 (tails n.1 _ _ _ _ b.2 (tails k.0 _ _ _ _ n.3 (tails ws _ _ _ _ k.1 h.4)))))
          | inl e ↦ inl (n.0, b.0, x.0, n.2, k.1 ∙ ap (λ vs. codes "r" ∷ vs) (n.3 ∙ ap (λ vs. decimal n.0 ∷ vs) (b.2 ∙ ap (λ vs. digit b.0 ∷ vs) (x.2 ∙ ap (λ vs. digit x.0 ∷ vs) e))))
        ]
      ]
    ]
  ]
]

abbrev IsMeasurement : List (List ℕ) → Type 0
IsMeasurement ws = (p : ℕ) × (raw : Bool) × (p < 2 ^ 32) × (ws ≡ codes "m" ∷ decimal p ∷ digit raw ∷ [])

measurement_decided : (ws : List (List ℕ)) → Decided (IsMeasurement ws)
measurement_decided ws = elim (key_first (codes "m") ws) [
  | inr isnt ↦ inr (λ h. isnt (decimal h.0 ∷ digit h.1 ∷ [], h.3))
  | inl k ↦ elim (number_first k.0) [
    | inr isnt ↦ inr (λ h. isnt (h.0, digit h.1 ∷ [], h.2, tails ws _ _ _ _ k.1 h.3))
    | inl n ↦ elim (bit_first n.1) [
      | inr isnt ↦ inr (λ h. isnt (h.1, [], tails k.0 _ _ _ _ n.3 (tails ws _ _ _ _ k.1 h.3)))
      | inl b ↦ elim (ends b.1) [
        | inr isnt ↦ inr (λ h. isnt (tails n.1 _ _ _ _ b.2 (tails k.0 _ _ _ _ n.3 (tails ws _ _ _ _ k.1 h.3))))
        | inl e ↦ inl (n.0, b.0, n.2, k.1 ∙ ap (λ vs. codes "m" ∷ vs) (n.3 ∙ ap (λ vs. decimal n.0 ∷ vs) (b.2 ∙ ap (λ vs. digit b.0 ∷ vs) e)))
      ]
    ]
  ]
]

abbrev IsFailing : List (List ℕ) → Type 0
IsFailing ws = (f : ℕ) × (run : ℕ) × (f < 2 ^ 32) × (run < 2 ^ 32) × (ws ≡ codes "f" ∷ decimal f ∷ decimal run ∷ [])

failing_decided : (ws : List (List ℕ)) → Decided (IsFailing ws)
failing_decided ws = elim (key_first (codes "f") ws) [
  | inr isnt ↦ inr (λ h. isnt (decimal h.0 ∷ decimal h.1 ∷ [], h.4))
  | inl k ↦ elim (number_first k.0) [
    | inr isnt ↦ inr (λ h. isnt (h.0, decimal h.1 ∷ [], h.2, tails ws _ _ _ _ k.1 h.4))
    | inl n ↦ elim (number_first n.1) [
      | inr isnt ↦ inr (λ h. isnt (h.1, [], h.3, tails k.0 _ _ _ _ n.3 (tails ws _ _ _ _ k.1 h.4)))
      | inl m ↦ elim (ends m.1) [
        | inr isnt ↦ inr (λ h. isnt (tails n.1 _ _ _ _ m.3 (tails k.0 _ _ _ _ n.3 (tails ws _ _ _ _ k.1 h.4))))
        | inl e ↦ inl (n.0, m.0, n.2, m.2, k.1 ∙ ap (λ vs. codes "f" ∷ vs) (n.3 ∙ ap (λ vs. decimal n.0 ∷ vs) (m.3 ∙ ap (λ vs. decimal m.0 ∷ vs) e)))
      ]
    ]
  ]
]

abbrev Said : List (List ℕ) → Type 0
Said ws = (line : Line) × SpellsWords ws line

no_form : (ws : List (List ℕ)) → (IsRotation ws → ⊥) → (IsMeasurement ws → ⊥) → (IsFailing ws → ⊥) → (line : Line) → SpellsWords ws line → ⊥
no_form ws r m f (outcome p (given.Rotation raw x)) h = r (p, raw, x, h.1.0, h.0)
no_form ws r m f (outcome p (given.Measure raw)) h = m (p, raw, h.1.0, h.0)
no_form ws r m f (outcome p given.Settled) h = h.1.1 refl
no_form ws r m f (failing x) h = f (x.factory, x.run, h.1.0, h.1.1, h.0)

rotation_unsettled : (raw x : Bool) → given.Rotation raw x ≢ given.Settled
rotation_unsettled raw x e = cc

measure_unsettled : (raw : Bool) → given.Measure raw ≢ given.Settled
measure_unsettled raw e = cc

line_decided : (ws : List (List ℕ)) → Said ws ⊎ ((line : Line) → SpellsWords ws line → ⊥)
line_decided ws = elim (rotation_decided ws) [
  | inl h ↦ inl (outcome h.0 (given.Rotation h.1 h.2), (h.4, (h.3, rotation_unsettled h.1 h.2)))
  | inr r ↦ elim (measurement_decided ws) [
    | inl h ↦ inl (outcome h.0 (given.Measure h.1), (h.3, (h.2, measure_unsettled h.1)))
    | inr m ↦ elim (failing_decided ws) [
      | inl h ↦ inl (failing (record { factory = h.0; run = h.1 }), (h.4, (h.2, h.3)))
      | inr f ↦ inr (no_form ws r m f)
    ]
  ]
]

skipped_decided : (text : List ℕ) → Decided (IsSkipped text)
skipped_decided [] = inl tt
skipped_decided (b ∷ bs) = by_test (b == 35) refl
  where
    by_test : (t : Bool) → (b == 35) ≡ t → Decided (b ≡ 35)
    by_test true e = inl (eqb-true b 35 e)
    by_test false e = inr (λ s. false≢true (sym e ∙ eq-eqb b 35 s))

-- ---- rules

kind_decided : (k : Kind) (g : Given) → Decided (IsOutcomeOf k g)
kind_decided kind.Rotation (given.Rotation raw x) = inl tt
kind_decided kind.Rotation (given.Measure raw) = inr (λ h. h)
kind_decided kind.Rotation given.Settled = inr (λ h. h)
kind_decided (kind.Measure bit) (given.Rotation raw x) = inr (λ h. h)
kind_decided (kind.Measure bit) (given.Measure raw) = inl tt
kind_decided (kind.Measure bit) given.Settled = inr (λ h. h)
kind_decided (kind.Settle first size value) (given.Rotation raw x) = inr (λ h. h)
kind_decided (kind.Settle first size value) (given.Measure raw) = inr (λ h. h)
kind_decided (kind.Settle first size value) given.Settled = inl tt

-- a line for the product is the first one, or one of the others
has_more : (line : Line) (ls : List Line) (p : ℕ) → ((g : Given) → line ≡ outcome p g → ⊥) → Decided (HasLine ls p) → Decided (HasLine (line ∷ ls) p)
has_more line ls p other (inl h) = inl (h.0, Contains-append_right (line ∷ []) ls (outcome p h.0) h.1)
has_more line ls p other (inr isnt) = inr (λ h. elim (cons_cases line ls (outcome p h.0) h.1) [ inl e ↦ other h.0 e | inr c ↦ isnt (h.0, c) ])

same_product : (q p : ℕ) (x y : Given) → outcome q x ≡ outcome p y → q ≡ p
same_product q p x y e = cc

no_outcome : (x : Fail) (p : ℕ) (g : Given) → failing x ≡ outcome p g → ⊥
no_outcome x p g e = cc

has_decided : (ls : List Line) (p : ℕ) → Decided (HasLine ls p)
has_decided [] p = inr (λ h. let none = h.1.1 in absurd (omega arith))
has_decided (outcome q x ∷ ls) p = by_test (q == p) refl (has_decided ls p)
  where
    by_test : (t : Bool) → (q == p) ≡ t → Decided (HasLine ls p) → Decided (HasLine (outcome q x ∷ ls) p)
    by_test true e rest = inl (x, (0, omega arith, ap (λ n. outcome n x) (eqb-true q p e)))
    by_test false e rest = has_more (outcome q x) ls p (λ g s. false≢true (sym e ∙ eq-eqb q p (same_product q p x g s))) rest
has_decided (failing x ∷ ls) p = has_more (failing x) ls p (no_outcome x p) (has_decided ls p)

there_decided : (xs : List ℕ) (x : ℕ) → Decided (Contains xs x)
there_decided [] x = inr (λ h. let none = h.1 in absurd (omega arith))
there_decided (y ∷ ys) x = by_test (y == x) refl (there_decided ys x)
  where
    by_test : (t : Bool) → (y == x) ≡ t → Decided (Contains ys x) → Decided (Contains (y ∷ ys) x)
    by_test true e rest = inl (0, omega arith, eqb-true y x e)
    by_test false e (inl h) = inl (Contains-append_right (y ∷ []) ys x h)
    by_test false e (inr isnt) = inr (λ h. elim (cons_cases y ys x h) [ inl s ↦ false≢true (sym e ∙ eq-eqb y x s) | inr c ↦ isnt c ])

none_past : (ks : List Kind) (p : ℕ) → slice_get ks p ≡ None → length ks ≤ p
none_past [] p e = omega arith
none_past (k ∷ ks) zero e = absurd (cc)
none_past (k ∷ ks) (suc p) e = let rest = none_past ks p e in omega arith

one_kind : (ks : List Kind) (p : ℕ) (k j : Kind) → slice_get ks p ≡ Some k → slice_get ks p ≡ Some j → j ≡ k
one_kind ks p k j e f = let both = sym f ∙ e in cc

abbrev Judged : Asked → List Line → ℕ → Line → Type 0
Judged a before n line = Kept a before line ⊎ ((f : OutcomeFault) × Breaks a before n line f)

outcome_judged : (a : Asked) (before : List Line) (n p : ℕ) (g : Given) → Judged a before n (outcome p g)
outcome_judged a before n p g = by_slot (slice_get a.kinds p) refl
  where
    by_slot : (o : Option Kind) → slice_get a.kinds p ≡ o → Judged a before n (outcome p g)
    by_slot None e = inr (fault.Number n, inl (refl, none_past a.kinds p e))
    by_slot (Some k) e = elim (kind_decided k g) [
      | inr isnt ↦ inr (fault.Kind n, inr (inl (refl, slice_get_within a.kinds p k e, (λ h. isnt (subst (λ j. IsOutcomeOf j g) (one_kind a.kinds p k h.0 e h.1) h.2)))))
      | inl fits ↦ elim (has_decided before p) [
        | inl has ↦ inr (fault.Repeated n, inr (inr (refl, (k, e, fits), has)))
        | inr none ↦ inl ((k, e, fits), none)
      ]
    ]

failing_judged : (a : Asked) (before : List Line) (n : ℕ) (x : Fail) → Judged a before n (failing x)
failing_judged a before n x = elim (there_decided a.factories x.factory) [
  | inr isnt ↦ inr (fault.Factory n, inl (refl, isnt))
  | inl there ↦ by_listed there (is_listed (fails_of before) x.factory x.run) refl (nat_lt (length (fails_of before)) 4096) refl
]
  where
    by_listed : Contains a.factories x.factory → (t : Bool) → is_listed (fails_of before) x.factory x.run ≡ t → (few : Bool) → nat_lt (length (fails_of before)) 4096 ≡ few → Judged a before n (failing x)
    by_listed there true e few d = inr (fault.Repeated n, inr (inl (refl, there, listed_line before x e)))
    by_listed there false e true d = inl (there, (λ c. false≢true (sym e ∙ line_listed before x c)), ltb-true (length (fails_of before)) 4096 d)
    by_listed there false e false d = inr (fault.TooManyFails, inr (inr (refl, there, (λ c. false≢true (sym e ∙ line_listed before x c)), ltb-false (length (fails_of before)) 4096 d)))

judged : (a : Asked) (before : List Line) (n : ℕ) (line : Line) → Judged a before n line
judged a before n (outcome p g) = outcome_judged a before n p g
judged a before n (failing x) = failing_judged a before n x

-- ---- texts

abbrev Body : Asked → List Line → ℕ → List (List ℕ) → Type 0
Body a past n texts = ((ls : List Line) × AreRead texts ls × AllKept a past ls) ⊎ ((f : OutcomeFault) × Stops a past n texts f)

stops_here : (a : Asked) (past : List Line) (n : ℕ) (text : List ℕ) (texts : List (List ℕ)) (f : OutcomeFault) → BreaksText a past n text f → Stops a past n (text ∷ texts) f
stops_here a past n text texts f h = record {
  before = [];
  broken = text;
  behind = texts;
  ls = [];
  is = refl;
  read = refl;
  kept = tt;
  number = n;
  counted = omega arith;
  breaks = (let P : List Line → Type 0 = λ ls. BreaksText a ls n text f in subst P (sym (append-nil past)) h);
}

passed_on : (a : Asked) (past : List Line) (n : ℕ) (text : List ℕ) (texts : List (List ℕ)) → IsSkipped text → Body a past (n + 1) texts → Body a past n (text ∷ texts)
passed_on a past n text texts skipped (inl (ls, read, kept)) = inl (ls, inl (skipped, read), kept)
passed_on a past n text texts skipped (inr (f, s)) = inr (
  f,
  record {
    before = text ∷ s.before;
    broken = s.broken;
    behind = s.behind;
    ls = s.ls;
    is = ap (λ ts. text ∷ ts) s.is;
    read = inl (skipped, s.read);
    kept = s.kept;
    number = s.number;
    counted = (let c = s.counted in omega arith);
    breaks = s.breaks;
  },
)

said_on : (a : Asked) (past : List Line) (n : ℕ) (text : List ℕ) (texts : List (List ℕ)) (line : Line) → Spells text line → Kept a past line → Body a (past ++ line ∷ []) (n + 1) texts → Body a past n (text ∷ texts)
said_on a past n text texts line says keeps (inl (ls, read, kept)) = inl (line ∷ ls, inr (line, ls, refl, says, read), (keeps, kept))
said_on a past n text texts line says keeps (inr (f, s)) = inr (
  f,
  record {
    before = text ∷ s.before;
    broken = s.broken;
    behind = s.behind;
    ls = line ∷ s.ls;
    is = ap (λ ts. text ∷ ts) s.is;
    read = inr (line, s.ls, refl, says, s.read);
    kept = (keeps, s.kept);
    number = s.number;
    counted = (let c = s.counted in omega arith);
    breaks = (let P : List Line → Type 0 = λ ls. BreaksText a ls s.number s.broken f in subst P (append_assoc past (line ∷ []) s.ls) s.breaks);
  },
)

body_decided : (a : Asked) (past : List Line) (n : ℕ) (texts : List (List ℕ)) → Body a past n texts
body_decided a past n [] = inl ([], refl, tt)
body_decided a past n (text ∷ texts) = elim (skipped_decided text) [
  | inl skipped ↦ passed_on a past n text texts skipped (body_decided a past (n + 1) texts)
  | inr loud ↦ elim (line_decided (words text)) [
    | inr none ↦ inr (fault.Form n, stops_here a past n text texts (fault.Form n) (inl (refl, loud, none)))
    | inl said ↦ elim (judged a past n said.0) [
      | inr broken ↦ inr (broken.0, stops_here a past n text texts broken.0 (inr (said.0, said.1, broken.1)))
      | inl keeps ↦ said_on a past n text texts said.0 said.1 keeps (body_decided a (past ++ said.0 ∷ []) (n + 1) texts)
    ]
  ]
]

-- ---- the table

line_for : (a : Asked) (past ls : List Line) (p : ℕ) (g : Given) → AllKept a past ls → Contains ls (outcome p g) → IsFor a p g
line_for a past [] p g all c = absurd (let none = c.1 in omega arith)
line_for a past (line ∷ ls) p g all c = elim (cons_cases line ls (outcome p g) c) [
  | inl e ↦ (let P : Line → Type 0 = Kept a past in (subst P e all.0).0)
  | inr d ↦ line_for a (past ++ line ∷ []) ls p g all.1 d
]

abbrev HasGiven : List Line → Kind → ℕ → Type 0
HasGiven ls k p = (g : Given) × IsOutcomeOf k g × ((g ≡ given.Settled) ⊎ Contains ls (outcome p g))

slot_decided : (a : Asked) (ls : List Line) (p : ℕ) (k : Kind) → AllKept a [] ls → slice_get a.kinds p ≡ Some k → HasGiven ls k p ⊎ Lacks a ls p
slot_decided a ls p k all e = elim (kind_decided k given.Settled) [
  | inl settled ↦ inl (given.Settled, settled, inl refl)
  | inr isnt ↦ elim (has_decided ls p) [
    | inl h ↦
        let own = line_for a [] ls p h.0 all h.1 in
        inl (h.0, subst (λ j. IsOutcomeOf j h.0) (one_kind a.kinds p k own.0 e own.1) own.2, inr h.1)
    | inr none ↦ inr (k, e, isnt, none)
  ]
]

lacks_no_given : (a : Asked) (ls : List Line) (p : ℕ) (k : Kind) → slice_get a.kinds p ≡ Some k → HasGiven ls k p → Lacks a ls p → ⊥
lacks_no_given a ls p k e (g, fits, inl s) (j, f, isnt, none) =
    isnt (subst (λ i. IsOutcomeOf i given.Settled) (sym (one_kind a.kinds p k j e f)) (subst (IsOutcomeOf k) s fits))
lacks_no_given a ls p k e (g, fits, inr c) (j, f, isnt, none) = none (g, c)

-- the outcomes of the products from number p on
abbrev Table : Asked → List Line → ℕ → List Kind → Type 0
Table a ls p ks =
    ((t : List Given) × OutcomesOf ks t × ((q m : ℕ) (g : Given) → m ≡ p + q → slice_get t q ≡ Some g → (g ≡ given.Settled) ⊎ Contains ls (outcome m g)))
    ⊎ ((m : ℕ) × Lacks a ls m × ((j : ℕ) → p ≤ j → j < m → Lacks a ls j → ⊥))

table_more : (a : Asked) (ls : List Line) (p : ℕ) (k : Kind) (ks : List Kind) → slice_get a.kinds p ≡ Some k → HasGiven ls k p → Table a ls (p + 1) ks → Table a ls p (k ∷ ks)
table_more a ls p k ks e h (inl (t, kinds, each)) = inl (h.0 ∷ t, (h.1, kinds), every)
  where
    every : (q m : ℕ) (g : Given) → m ≡ p + q → slice_get (h.0 ∷ t) q ≡ Some g → (g ≡ given.Settled) ⊎ Contains ls (outcome m g)
    every zero m g d f =
        let same : h.0 ≡ g = cc in
        let here : p ≡ m = omega arith in
        subst (λ n. (g ≡ given.Settled) ⊎ Contains ls (outcome n g)) here (subst (λ x. (x ≡ given.Settled) ⊎ Contains ls (outcome p x)) same h.2)
    every (suc q) m g d f = each q m g (omega arith) f
table_more a ls p k ks e h (inr (m, lacks, least)) = inr (
  m,
  lacks,
  (λ j low below none. elim (cases_lt p j) [
    | inl past ↦ least j (omega arith) below none
    | inr here ↦ (let same : j ≡ p = omega arith in lacks_no_given a ls p k e h (subst (Lacks a ls) same none))
  ]),
)

table_decided : (a : Asked) (ls : List Line) (p : ℕ) (ks : List Kind) → AllKept a [] ls → ((q m : ℕ) (k : Kind) → m ≡ p + q → slice_get ks q ≡ Some k → slice_get a.kinds m ≡ Some k) → Table a ls p ks
table_decided a ls p [] all at = inl ([], tt, (λ q m g d f. absurd (no_item q g f)))
  where
    no_item : (q : ℕ) (g : Given) → slice_get {X = Given} [] q ≡ Some g → ⊥
    no_item zero g f = cc
    no_item (suc q) g f = cc
table_decided a ls p (k ∷ ks) all at =
    let own = at 0 p k (omega arith) refl in
    elim (slot_decided a ls p k all own) [
      | inr lacks ↦ inr (p, lacks, (λ j low below none. absurd (omega arith)))
      | inl h ↦ table_more a ls p k ks own h (table_decided a ls (p + 1) ks all (λ q m j d f. at (suc q) m j (omega arith) f))
    ]

-- ---- the whole text

abbrev Answer : Asked → List ℕ → Type 0
Answer a text = ((table : List Given) × (fails : List Fail) × StandsFor a text table fails) ⊎ ((f : OutcomeFault) × Refuses a text f)

read_answered : (a : Asked) (text : List ℕ) (texts : List (List ℕ)) (ls : List Line) → IsShort text → IsHeaded text texts → AreRead texts ls → AllKept a [] ls → Answer a text
read_answered a text texts ls short headed read kept = by_table (table_decided a ls 0 a.kinds kept (λ q m k d f. ap (slice_get a.kinds) (let same : m ≡ q = omega arith in same) ∙ f))
  where
    by_table : Table a ls 0 a.kinds → Answer a text
    by_table (inl (t, kinds, each)) = inl (
      t,
      fails_of ls,
      record {
        short = short;
        ls = ls;
        read = record { texts = texts; headed = headed; read = read; kept = kept };
        kinds = kinds;
        given = (λ p g e. each p p g (omega arith) e);
        listed = refl;
      },
    )
    by_table (inr (m, lacks, least)) = inr (
      fault.Missing m,
      inr (inr (inr (
        m,
        refl,
        record {
          short = short;
          ls = ls;
          read = record { texts = texts; headed = headed; read = read; kept = kept };
          lacks = lacks;
          least = (λ p below none. least p (omega arith) below none);
        },
      ))),
    )

headed_answered : (a : Asked) (text : List ℕ) (texts : List (List ℕ)) → IsShort text → IsHeaded text texts → Answer a text
headed_answered a text texts short headed = by_body (body_decided a [] 2 texts)
  where
    by_body : Body a [] 2 texts → Answer a text
    by_body (inl (ls, read, kept)) = read_answered a text texts ls short headed read kept
    by_body (inr (f, s)) = inr (
      f,
      inr (inr (inl (
        short,
        record {
          before = s.before;
          broken = s.broken;
          behind = s.behind;
          ls = s.ls;
          headed = headed ∙ ap (λ ts. codes "outcomes 1" ∷ ts) s.is;
          read = s.read;
          kept = s.kept;
          breaks = (let P : ℕ → Type 0 = λ n. BreaksText a s.ls n s.broken f in subst P s.counted s.breaks);
        },
      ))),
    )

short_answered : (a : Asked) (text : List ℕ) → IsShort text → Answer a text
short_answered a text short = by_lines (lines text) refl
  where
    by_lines : (ls : List (List ℕ)) → lines text ≡ ls → Answer a text
    by_lines [] e = inr (fault.Form 1, inr (inl (refl, short, (λ texts h. let f = sym e ∙ h in cc))))
    by_lines (l ∷ texts) e = elim (same_decided l (codes "outcomes 1")) [
      | inl same ↦ headed_answered a text texts short (e ∙ ap (λ x. x ∷ texts) same)
      | inr isnt ↦ inr (fault.Form 1, inr (inl (refl, short, (λ others h. isnt (cons_parts l (codes "outcomes 1") texts others (sym e ∙ h)).0))))
    ]

pub table_or_fault : TableOrFault
table_or_fault a text = by_length (nat_lt 4194304 (length text)) refl
  where
    by_length : (t : Bool) → nat_lt 4194304 (length text) ≡ t → Answer a text
    by_length true e = let past = ltb-true 4194304 (length text) e in inr (fault.TooLong, inl (refl, (λ short. absurd (omega arith))))
    by_length false e = short_answered a text (ltb-false 4194304 (length text) e)
