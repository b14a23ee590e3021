-- Cells that rise, read one at a time.
use Rattle.std.proofs.Common.{◌≡◌, ℕ, ◌+◌, ◌≤◌, ◌<◌, List, [], ◌∷◌, ◌++◌, length, refl, sym, ◌∙◌, ap, subst, arith, append_assoc, zero, suc, get_or, drop, ◌^◌, length-append}
use Rattle.std.specs.Prelude.{slice_get, All, map, decimal}
use Rattle.patch_layout.specs.Case.{Ascending}
use Rattle.std.proofs.lemmas.List.{append-nil, map-append}
use Rattle.schedule_text.specs.Text.{IsNumber}
use Rattle.schedule_text.proofs.OneText.{number_one}
use Rattle.schedule_text.specs.inside.Lines.{IsCells}

-- each is at least n, and more than the one before
abbrev pub Rising : ℕ → List ℕ → Type 0
Rising n [] = Unit {0}
Rising n (c ∷ cs) = (n ≤ c) × Rising (c + 1) cs

-- a place behind the first
next_place : (c : ℕ) (cs : List ℕ) (j : ℕ) → slice_get (c ∷ cs) (suc j + 1) ≡ slice_get cs (j + 1)
next_place c cs j = let e : suc j + 1 ≡ suc (j + 1) = omega arith in ap (slice_get (c ∷ cs)) e

pub rising_tail : (n : ℕ) (cs : List ℕ) (c : ℕ) → Ascending (c ∷ cs) → n ≤ c → Rising n (c ∷ cs)
rising_tail n [] c asc low = (low, tt)
rising_tail n (d ∷ cs) c asc low =
    let next : c < d = asc 0 c d refl refl in
    let later : Ascending (d ∷ cs) = λ j a b e f. asc (suc j) a b e (next_place c (d ∷ cs) j ∙ f) in
    (low, rising_tail (c + 1) cs d later (omega (arith, next)))

pub rising_of : (cs : List ℕ) → Ascending cs → Rising 0 cs
rising_of [] asc = tt
rising_of (c ∷ cs) asc = rising_tail 0 cs c asc (omega arith)

pub ascending_of : (n : ℕ) (cs : List ℕ) → Rising n cs → Ascending cs
ascending_of n [] r j a b e f = absurd (cc)
ascending_of n (c ∷ []) r zero a b e f = absurd (cc)
ascending_of n (c ∷ []) r (suc j) a b e f = absurd (cc)
ascending_of n (c ∷ d ∷ cs) r zero a b e f =
    let at : c ≡ a = cc in let next : d ≡ b = cc in omega (arith, at, next, r.1.0)
ascending_of n (c ∷ d ∷ cs) r (suc j) a b e f = ascending_of (c + 1) (d ∷ cs) r.1 j a b e (sym (next_place c (d ∷ cs) j) ∙ f)

-- of all cells, those behind the ones that were read: their words are left
pub record IsLeft (all cells : List ℕ) (words : List (List ℕ)) (least : ℕ) (rest : List ℕ) : Type 0 where
  pub whole : all ≡ cells ++ rest
  pub are : words ≡ map decimal rest
  pub rises : Rising least rest
  pub numbers : All IsNumber rest

pub left_first : (words : List (List ℕ)) (all : List ℕ) → IsCells words all → IsLeft all [] words 0 all
left_first words all are = record { whole = refl; are = are.are; rises = rising_of all are.listed.1; numbers = are.numbers }

-- the first of the cells that are left is that of the next word
pub left_next : (all cells : List ℕ) (words : List (List ℕ)) (least c : ℕ) (word : List ℕ) (rest : List ℕ) → IsNumber c → word ≡ decimal c → IsLeft all cells (word ∷ words) least rest → (least ≤ c) × ((later : List ℕ) × IsLeft all (cells ++ c ∷ []) words (c + 1) later)
left_next all cells words least c word [] small e left = absurd (cc left.are)
left_next all cells words least c word (d ∷ ds) small e left =
    let same : c ≡ d = number_one c d small (left.numbers 0 0 (omega arith)) (sym e ∙ ap (λ ws. get_or ws 0 []) left.are) in
    let R : ℕ → Type 0 = λ n. Rising (n + 1) ds in
    let whole : all ≡ (cells ++ c ∷ []) ++ ds = cc (left.whole, append_assoc cells (c ∷ []) ds, same) in (
      omega (arith, same, left.rises.0),
      (
        ds,
        record {
          whole = whole;
          are = ap (drop 1) left.are;
          rises = subst R (sym same) left.rises.1;
          numbers = λ k d' h. left.numbers (suc k) d' (omega (arith, h));
        },
      ),
    )

-- no cells are left behind a word that is no decimal
pub left_other : (all cells : List ℕ) (words : List (List ℕ)) (least : ℕ) (word rest : List ℕ) → ((v : ℕ) → v < 2 ^ 32 → word ≡ decimal v → ⊥) → IsLeft all cells (word ∷ words) least rest → ⊥
left_other all cells words least word [] none left = absurd (cc left.are)
left_other all cells words least word (d ∷ ds) none left = none d (left.numbers 0 0 (omega arith)) (ap (λ ws. get_or ws 0 []) left.are)

-- where no words are left, those are all cells
pub left_none : (all cells : List ℕ) (least : ℕ) (rest : List ℕ) → IsLeft all cells [] least rest → all ≡ cells
left_none all cells least [] left = cc (left.whole, append-nil cells)
left_none all cells least (d ∷ ds) left = absurd (cc left.are)

-- a number behind others
pub numbers_more : (cells : List ℕ) (c : ℕ) → All IsNumber cells → IsNumber c → All IsNumber (cells ++ c ∷ [])
numbers_more [] c f g zero d h = g
numbers_more [] c f g (suc k) d h = absurd (omega (arith, h))
numbers_more (x ∷ xs) c f g zero d h = f 0 d (omega arith)
numbers_more (x ∷ xs) c f g (suc k) d h = numbers_more xs c (λ j e i. f (suc j) e (omega (arith, i))) g k d (omega (arith, h))

pub rise_behind : (cells later : List ℕ) (c least : ℕ) → ((rest : List ℕ) → Rising least rest → Rising 0 (cells ++ rest)) → least ≤ c → Rising (c + 1) later → Rising 0 ((cells ++ c ∷ []) ++ later)
rise_behind cells later c least rises low r =
    let P : List ℕ → Type 0 = λ cs. Rising 0 cs in subst P (sym (append_assoc cells (c ∷ []) later)) (rises (c ∷ later) (low, r))

pub left_on : (all cells : List ℕ) (words rest : List (List ℕ)) (least c : ℕ) (word : List ℕ) → words ≡ word ∷ rest → IsNumber c → word ≡ decimal c → (left : List ℕ) × IsLeft all cells words least left → (later : List ℕ) × IsLeft all (cells ++ c ∷ []) rest (c + 1) later
left_on all cells words rest least c word e small is (left, left_is) =
    let P : List (List ℕ) → Type 0 = λ ws. IsLeft all cells ws least left in
    (left_next all cells rest least c word left small is (subst P e left_is)).1

-- what the reader of cells knows: the cells that it read, the words that are left, and the least that the next cell may be
pub record IsSoFar (start words : List (List ℕ)) (cells : List ℕ) (least : ℕ) : Type 0 where
  pub whole : start ≡ map decimal cells ++ words
  pub numbers : All IsNumber cells
  pub rises : (rest : List ℕ) → Rising least rest → Rising 0 (cells ++ rest)
  pub none : least ≡ 0 → cells ≡ []
  pub some : 0 < least → 1 ≤ length cells
  pub fits : least ≤ 2 ^ 32
  pub only : (all : List ℕ) → IsCells start all → (rest : List ℕ) × IsLeft all cells words least rest

pub so_far_first : (start : List (List ℕ)) (cells : List ℕ) → cells ≡ [] → IsSoFar start start cells 0
so_far_first start cells e =
    let P : List ℕ → Type 0 = λ cs. IsSoFar start start cs 0 in
    let empty : IsSoFar start start [] 0 = record {
      whole = refl;
      numbers = λ k d h. absurd (omega (arith, h));
      rises = λ rest r. r;
      none = λ h. refl;
      some = λ h. absurd (omega (arith, h));
      fits = omega arith;
      only = λ all are. (all, left_first start all are);
    } in
    subst P (sym e) empty

pub so_far_next : (start words rest : List (List ℕ)) (cells now : List ℕ) (least c : ℕ) (word : List ℕ) → IsSoFar start words cells least → words ≡ word ∷ rest → IsNumber c → word ≡ decimal c → least ≤ c → now ≡ cells ++ c ∷ [] → IsSoFar start rest now (c + 1)
so_far_next start words rest cells now least c word far e small is low grown =
    let P : List ℕ → Type 0 = λ cs. IsSoFar start rest cs (c + 1) in
    let more : IsSoFar start rest (cells ++ c ∷ []) (c + 1) = record {
      whole = cc (far.whole, e, is, map-append decimal cells (c ∷ []), append_assoc (map decimal cells) (decimal c ∷ []) rest);
      numbers = numbers_more cells c far.numbers small;
      rises = λ later r. rise_behind cells later c least far.rises low r;
      none = λ h. absurd (omega (arith, h));
      some = λ h. omega (arith, length-append cells (c ∷ []));
      fits = omega (arith, small);
      only = λ all are. left_on all cells words rest least c word e small is (far.only all are);
    } in
    subst P (sym grown) more

pub so_far_other : (start words rest : List (List ℕ)) (cells : List ℕ) (least : ℕ) (word : List ℕ) → IsSoFar start words cells least → words ≡ word ∷ rest → ((v : ℕ) → v < 2 ^ 32 → word ≡ decimal v → ⊥) → (all : List ℕ) → IsCells start all → ⊥
so_far_other start words rest cells least word far e other all are =
    let (left, is) = far.only all are in
    let P : List (List ℕ) → Type 0 = λ ws. IsLeft all cells ws least left in
    left_other all cells rest least word left other (subst P e is)

pub so_far_low : (start words rest : List (List ℕ)) (cells : List ℕ) (least c : ℕ) (word : List ℕ) → IsSoFar start words cells least → words ≡ word ∷ rest → IsNumber c → word ≡ decimal c → c < least → (all : List ℕ) → IsCells start all → ⊥
so_far_low start words rest cells least c word far e small is low all are =
    let (left, left_is) = far.only all are in
    let P : List (List ℕ) → Type 0 = λ ws. IsLeft all cells ws least left in
    let (high, more) = left_next all cells rest least c word left small is (subst P e left_is) in
    absurd (omega (arith, high, low))

pub so_far_done : (start words : List (List ℕ)) (cells : List ℕ) (least : ℕ) → IsSoFar start words cells least → words ≡ [] → 0 < least → IsCells start cells
so_far_done start words cells least far e some = record {
  numbers = far.numbers;
  listed = (far.some some, ascending_of 0 cells (let P : List ℕ → Type 0 = λ cs. Rising 0 cs in subst P (append-nil cells) (far.rises [] tt)));
  are = cc (far.whole, e, append-nil (map decimal cells));
}

pub so_far_empty : (start words : List (List ℕ)) (cells : List ℕ) → IsSoFar start words cells 0 → words ≡ [] → (all : List ℕ) → IsCells start all → ⊥
so_far_empty start words cells far e all are =
    let (left, is) = far.only all are in
    let P : List (List ℕ) → Type 0 = λ ws. IsLeft all cells ws 0 left in
    let same = left_none all cells 0 left (subst P e is) in
    let none = far.none refl in
    absurd (omega (arith, are.listed.0, ap length same, ap length none))
