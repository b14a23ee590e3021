-- The failing runs that are listed, from one line to the next.
use Rattle.std.proofs.Common.{◌≡◌, ℕ, Bool, true, false, ◌==◌, ◌&&◌, ◌||◌, cond, List, [], ◌∷◌, ◌++◌, length, get_or, ◌<◌, Contains, inl, inr, refl, sym, ◌∙◌, ap, ap₂, subst, arith, eqb-true}
use Rattle.std.specs.declared.cmp.Ordering.{Ordering}
use Rattle.std.specs.Ordering.{nat_cmp, ordering_then, is_eq}
use Rattle.std.specs.BTreeSet.{BTreeSet, Updates, contains}
use Rattle.std.proofs.lemmas.Bool.{or_cases, and_parts}
use Rattle.std.proofs.lemmas.Bool.Decides.{nat_tests}
use Rattle.std.proofs.lemmas.List.Elements.{Contains-append_right}
use Rattle.source_model.specs.declared.Given.{Given}
use Rattle.magic_pool.specs.declared.Fail.{Fail}
use Rattle.magic_pool.specs.Recount.{is_listed}
use Rattle.outcome_table.specs.OutcomeText.{Line, failing, fails_of, outcome}
use Rattle.outcome_table.proofs.Spelled.{cons_cases}

-- keys that are tied are the same
pub tied : (a b f r : ℕ) → is_eq (ordering_then (nat_cmp a f) (nat_cmp b r)) ≡ (a == f && b == r)
tied a b f r = grind (arith, nat_tests)

pub listed_push : (xs : List Fail) (x : Fail) (f r : ℕ) → is_listed (xs ++ x ∷ []) f r ≡ ((x.factory == f && x.run == r) || is_listed xs f r)
listed_push [] x f r = refl
listed_push (y ∷ xs) x f r = swap (y.factory == f && y.run == r) (x.factory == f && x.run == r) (is_listed xs f r) (is_listed (xs ++ x ∷ []) f r) (listed_push xs x f r)
  where
    swap : (a b c d : Bool) → d ≡ (b || c) → (a || d) ≡ (b || (a || c))
    swap true true c d e = refl
    swap true false c d e = refl
    swap false true c d e = e
    swap false false c d e = e

pub fails_push_outcome : (ls : List Line) (p : ℕ) (g : Given) → fails_of (ls ++ outcome p g ∷ []) ≡ fails_of ls
fails_push_outcome [] p g = refl
fails_push_outcome (outcome q h ∷ ls) p g = fails_push_outcome ls p g
fails_push_outcome (failing x ∷ ls) p g = ap (λ xs. x ∷ xs) (fails_push_outcome ls p g)

pub fails_push : (ls : List Line) (x : Fail) → fails_of (ls ++ failing x ∷ []) ≡ fails_of ls ++ x ∷ []
fails_push [] x = refl
fails_push (outcome q h ∷ ls) x = fails_push ls x
fails_push (failing y ∷ ls) x = ap (λ xs. y ∷ xs) (fails_push ls x)

same_fail : (x y : Fail) → x.factory ≡ y.factory → x.run ≡ y.run → x ≡ y
same_fail x y e f = let made : ℕ → ℕ → Fail = λ n r. record { factory = n; run = r } in ap₂ made e f

tests_same : (x y : Fail) → (x.factory == y.factory && x.run == y.run) ≡ true → x ≡ y
tests_same x y e =
    let p = and_parts (x.factory == y.factory) (x.run == y.run) e in
    same_fail x y (grind (arith, nat_tests, p.0)) (grind (arith, nat_tests, p.1))

itself : (x : Fail) → (x.factory == x.factory && x.run == x.run) ≡ true
itself x = grind (arith, nat_tests)

first_of : (line other : Line) (ls : List Line) → line ≡ other → Contains (line ∷ ls) other
first_of line other ls e = let P : Line → Type 0 = Contains (line ∷ ls) in subst P e (0, omega arith, refl)

pub listed_line : (ls : List Line) (x : Fail) → is_listed (fails_of ls) x.factory x.run ≡ true → Contains ls (failing x)
listed_line [] x e = absurd (cc)
listed_line (outcome p g ∷ ls) x e = Contains-append_right (outcome p g ∷ []) ls (failing x) (listed_line ls x e)
listed_line (failing y ∷ ls) x e = elim (or_cases (y.factory == x.factory && y.run == x.run) (is_listed (fails_of ls) x.factory x.run) e) [
  | inl same ↦ first_of (failing y) (failing x) ls (ap failing (tests_same y x same))
  | inr more ↦ Contains-append_right (failing y ∷ []) ls (failing x) (listed_line ls x more)
]

or_left : (a b : Bool) → a ≡ true → (a || b) ≡ true
or_left true b e = refl
or_left false b e = absurd (cc)

or_right : (a b : Bool) → b ≡ true → (a || b) ≡ true
or_right true b e = refl
or_right false b e = e

pub line_listed : (ls : List Line) (x : Fail) → Contains ls (failing x) → is_listed (fails_of ls) x.factory x.run ≡ true
line_listed [] x c = absurd (omega (arith, c.1))
line_listed (outcome p g ∷ ls) x c = elim (cons_cases (outcome p g) ls (failing x) c) [ inl e ↦ absurd (cc) | inr d ↦ line_listed ls x d ]
line_listed (failing y ∷ ls) x c = elim (cons_cases (failing y) ls (failing x) c) [
  | inl e ↦ (let same : y ≡ x = cc in
      let P : Fail → Type 0 = λ z. (z.factory == x.factory && z.run == x.run) ≡ true in
      or_left (y.factory == x.factory && y.run == x.run) (is_listed (fails_of ls) x.factory x.run) (subst P (sym same) (itself x)))
  | inr d ↦ or_right (y.factory == x.factory && y.run == x.run) (is_listed (fails_of ls) x.factory x.run) (line_listed ls x d)
]

-- what a search found is there
pub found_is_there : (xs : List ℕ) (x : ℕ) → (k : ℕ) × (k < length xs) × ((d : ℕ) → (get_or xs k d == x) ≡ true) → Contains xs x
found_is_there xs x (k, inside, same) = (k, inside, eqb-true (get_or xs k x) x (same x))

or_is : (a b : Bool) → cond a true b ≡ (a || b)
or_is true b = refl
or_is false b = refl

abbrev pub pair_cmp : ℕ × ℕ → ℕ × ℕ → Ordering
pair_cmp x y = ordering_then (nat_cmp x.0 y.0) (nat_cmp x.1 y.1)

-- the set behind an insertion has the runs that are listed then
pub listed_insert : (s n : BTreeSet (ℕ × ℕ)) (xs ys : List Fail) (x : Fail) → Updates pair_cmp s n (x.factory, x.run) true
    → ((f r : ℕ) → contains pair_cmp s (f, r) ≡ is_listed xs f r) → ys ≡ xs ++ x ∷ [] → (f r : ℕ) → contains pair_cmp n (f, r) ≡ is_listed ys f r
listed_insert s n xs ys x u h e f r =
    let found = contains pair_cmp s (f, r) in
    u.0 (f, r)
    ∙ ap (λ b. cond b true found) (tied x.factory x.run f r)
    ∙ or_is (x.factory == f && x.run == r) found
    ∙ ap (λ b. (x.factory == f && x.run == r) || b) (h f r)
    ∙ sym (listed_push xs x f r)
    ∙ ap (λ (zs : List Fail). is_listed zs f r) (sym e)
