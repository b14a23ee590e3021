-- Lines of a layout text taken up one after another.
use Rattle.std.proofs.Common.{◌≡◌, ◌⊎◌, inl, inr, ℕ, zero, suc, Bool, true, false, ◌+◌, ◌-◌, ◌<◌, ◌≤◌, Some, List, [], ◌∷◌, ◌++◌, length, slice_get, replicate, refl, sym, subst, arith, decimal, codes, Contains}
use Rattle.std.proofs.lemmas.Fmt.{decimal_injective}
use Rattle.std.proofs.lemmas.List.{length-replicate}
use Rattle.std.proofs.lemmas.Option.{slice_get_within}
use Rattle.std.proofs.lemmas.List.Elements.{Contains-append_left, Contains-append_cases, Contains-push}
use Rattle.patch_base.specs.Texts.{IsSkipped}
use Rattle.patch_layout.specs.declared.line.Line.{Line}
use Rattle.patch_layout.specs.declared.line.Line.TheVariants as line
use Rattle.patch_layout.specs.Spread.{Marked}
use Rattle.patch_layout.specs.LayoutText.{side_word, words_of, InRange, Spells, Doubles, Fresh, Takes, Breaks, Body, BadBody, Formed}
use Rattle.patch_layout.specs.inside.Reading.{HasKey, Keyed, Proper}
use Rattle.patch_layout.proofs.Spelled.{differ, patch_port, patch_wall, port_wall}
use Rattle.patch_layout.proofs.Places.{get_cases, Contains_from_get, get_from_Contains}

-- no mark among marks that are all false
no_mark : (n k : ℕ) → Marked (replicate n false) k → ⊥
no_mark zero k e = cc
no_mark (suc n) zero e = cc
no_mark (suc n) (suc k) e = no_mark n k e

no_key : (m n : ℕ) (l : Line) → HasKey (replicate m false) (replicate n false) l → ⊥
no_key m n (line.Patch q c level) k = no_mark m q k
no_key m n (line.Port f c level s) k = no_mark n f k
no_key m n (line.Wall c) k = k

none_in : (l : Line) → Contains [] l → ⊥
none_in l has = let (k, is) = get_from_Contains [] l has in cc

lone : (l other : Line) (i : ℕ) → slice_get (l ∷ []) i ≡ Some other → other ≡ l
lone l other zero e = grind arith
lone l other (suc i) e = absurd (cc)

-- no line, and no mark
pub keyed_none : (qubits factories : List Bool) → qubits ≡ replicate 1024 false → factories ≡ replicate 16 false → Keyed [] qubits factories
keyed_none qubits factories e f =
    let P : List Bool → Type 0 = λ xs. Keyed [] xs factories in
    let Q : List Bool → Type 0 = λ xs. Keyed [] (replicate 1024 false) xs in
    subst P (sym e) (subst Q (sym f) (record {
      qubits_size = length-replicate 1024 false;
      factories_size = length-replicate 16 false;
      had = λ l k. absurd (no_key 1024 16 l k);
      has = λ l other in' d. absurd (none_in other in');
    }))

-- and one with a mark isn't
pub keyed_stale : (before : List Line) (qubits factories : List Bool) (l : Line) → Keyed before qubits factories → HasKey qubits factories l → Fresh before l → ⊥
keyed_stale before qubits factories l k has fresh = let (other, in', d) = k.had l has in fresh other in' d

pub keyed_more : (before : List Line) (q f r g : List Bool) (l : Line) → Keyed before q f → length r ≡ 1024 → length g ≡ 16
    → ((m : Line) → HasKey r g m → HasKey q f m ⊎ Doubles l m) → ((m : Line) → HasKey q f m ⊎ Doubles l m → HasKey r g m) → Keyed (before ++ l ∷ []) r g
keyed_more before q f r g l k rs gs had has =
    record {
      qubits_size = rs;
      factories_size = gs;
      had = λ m key. elim (had m key) [
        | inl old ↦ let (other, in', d) = k.had m old in (other, Contains-append_left before (l ∷ []) other in', d)
        | inr new ↦ (l, Contains-push before l, new)
      ];
      has = λ m other in' d. elim (Contains-append_cases before (l ∷ []) other in') [
        | inl old ↦ has m (inl (k.has m other old d))
        | inr new ↦ let P : Line → Type 0 = λ x. Doubles x m in let (i, is) = get_from_Contains (l ∷ []) other new in has m (inr (subst P (lone l other i is) d))
      ];
    }

-- one line spells no two lines
h_v : side_word true ≡ side_word false → ⊥
h_v = differ (side_word true) (side_word false) 0 (λ e. omega arith)

side_same : (a b : Bool) → side_word a ≡ side_word b → a ≡ b
side_same true true e = refl
side_same true false e = absurd (h_v e)
side_same false true e = absurd (h_v (sym e))
side_same false false e = refl

pub words_of_same : (k l : Line) → InRange k → InRange l → words_of k ≡ words_of l → k ≡ l
words_of_same (line.Patch q c a) (line.Patch r d b) (ql, cl) (rl, dl) e =
    let qd : decimal q ≡ decimal r = cc in
    let cd : decimal c ≡ decimal d = cc in
    let qe : q ≡ r = decimal_injective q r (omega arith) (omega arith) qd in
    let ce : c ≡ d = decimal_injective c d (omega arith) (omega arith) cd in
    let se : side_word a ≡ side_word b = cc in
    let ae = side_same a b se in
    cc
words_of_same (line.Patch q c a) (line.Port g d b t) k l e = let w : codes "patch" ≡ codes "port" = cc in absurd (patch_port w)
words_of_same (line.Patch q c a) (line.Wall d) k l e = let w : codes "patch" ≡ codes "wall" = cc in absurd (patch_wall w)
words_of_same (line.Port f c a s) (line.Patch r d b) k l e = let w : codes "port" ≡ codes "patch" = cc in absurd (patch_port (sym w))
words_of_same (line.Port f c a s) (line.Port g d b t) (fl, cl, s1, s2) (gl, dl, t1, t2) e =
    let fd : decimal f ≡ decimal g = cc in
    let cd : decimal c ≡ decimal d = cc in
    let sd : decimal s ≡ decimal t = cc in
    let fe : f ≡ g = decimal_injective f g (omega arith) (omega arith) fd in
    let ce : c ≡ d = decimal_injective c d (omega arith) (omega arith) cd in
    let te : s ≡ t = decimal_injective s t (omega arith) (omega arith) sd in
    let se : side_word a ≡ side_word b = cc in
    let ae = side_same a b se in
    cc
words_of_same (line.Port f c a s) (line.Wall d) k l e = let w : codes "port" ≡ codes "wall" = cc in absurd (port_wall w)
words_of_same (line.Wall c) (line.Patch r d b) k l e = let w : codes "wall" ≡ codes "patch" = cc in absurd (patch_wall (sym w))
words_of_same (line.Wall c) (line.Port g d b t) k l e = let w : codes "wall" ≡ codes "port" = cc in absurd (port_wall (sym w))
words_of_same (line.Wall c) (line.Wall d) cl dl e =
    let cd : decimal c ≡ decimal d = cc in
    let ce : c ≡ d = decimal_injective c d (omega arith) (omega arith) cd in
    cc

-- a line whose key is taken breaks the form
pub stale_breaks : (before : List Line) (qubits factories : List Bool) (text : List ℕ) (l : Line) → Keyed before qubits factories → (IsSkipped text → ⊥) → Spells text l → HasKey qubits factories l → Breaks before text
stale_breaks before qubits factories text l k not-skipped s has = (
  not-skipped,
  λ m t fresh. let w : words_of l ≡ words_of m = cc in
      let P : Line → Type 0 = λ x. Fresh before x in
      keyed_stale before qubits factories l k has (subst P (sym (words_of_same l m s.1 t.1 w)) fresh),
)

-- the lines that a text takes are proper
proper_none : Proper []
proper_none = record {
  ranged = λ l in'. absurd (none_in l in');
  distinct = λ i j k l lt e f d. cc;
}

proper_more : (before : List Line) (l : Line) → Proper before → InRange l → Fresh before l → Proper (before ++ l ∷ [])
proper_more before l p range fresh =
    record {
      ranged = λ m in'. elim (Contains-append_cases before (l ∷ []) m in') [
        | inl old ↦ p.ranged m old
        | inr new ↦ let P : Line → Type 0 = λ x. InRange x in let (i, is) = get_from_Contains (l ∷ []) m new in subst P (sym (lone l m i is)) range
      ];
      distinct = λ i j k m lt e f. elim (get_cases before l j m f) [
        | inl old ↦ elim (get_cases before l i k e) [
          | inl older ↦ p.distinct i j k m lt older old
          | inr late ↦ let w : j < length before = slice_get_within before j m old in absurd (omega (arith, late.0))
        ]
        | inr new ↦ elim (get_cases before l i k e) [
          | inl older ↦ let P : Line → Type 0 = λ x. Doubles k x → ⊥ in subst P new.1 (fresh k (Contains_from_get before i k older))
          | inr late ↦ absurd (omega (arith, late.0, new.0))
        ]
      ];
    }

proper_takes : (before after : List Line) (text : List ℕ) → Proper before → Takes before text after → Proper after
proper_takes before after text p (inl skip) = let P : List Line → Type 0 = λ xs. Proper xs in subst P (sym skip.1) p
proper_takes before after text p (inr (l, s, fresh, e)) = let P : List Line → Type 0 = λ xs. Proper xs in subst P (sym e) (proper_more before l p s.1 fresh)

proper_body : (before : List Line) (texts : List (List ℕ)) (all : List Line) → Proper before → Body before texts all → Proper all
proper_body before [] all p e = let P : List Line → Type 0 = λ xs. Proper xs in subst P (sym e) p
proper_body before (text ∷ texts) all p (after, takes, rest) = proper_body after texts all (proper_takes before after text p takes) rest

pub proper_formed : (texts : List (List ℕ)) (rows columns : ℕ) (ls : List Line) → Formed texts rows columns ls → Proper ls
proper_formed [] rows columns ls f = absurd f
proper_formed (head ∷ rest) rows columns ls f = proper_body [] rest ls proper_none f.1

-- the lines found so far lead on to a whole body, and a break after them is one of the whole
pub record Reads (texts : List (List ℕ)) (found : List Line) (rest : List (List ℕ)) (number : ℕ) : Type 0 where
  pub all : (ls : List Line) → Body found rest ls → Body [] texts ls
  pub bad : (n : ℕ) → BadBody found rest n → BadBody [] texts (n + (number - 2))
  pub from_two : 2 ≤ number

pub reads_first : (texts : List (List ℕ)) → Reads texts [] texts 2
reads_first texts = record {
  all = λ ls b. b;
  bad = λ n b. let e : n ≡ n + (2 - 2) = omega arith in let P : ℕ → Type 0 = λ k. BadBody [] texts k in subst P e b;
  from_two = omega arith;
}

pub reads_more : (texts : List (List ℕ)) (found after : List Line) (text : List ℕ) (here rest : List (List ℕ)) (number : ℕ) → Reads texts found here number → here ≡ text ∷ rest → Takes found text after
    → Reads texts after rest (number + 1)
reads_more texts found after text here rest number r e takes =
    let P : List (List ℕ) → Type 0 = λ xs. Reads texts found xs number in
    let s = subst P e r in record {
      all = λ ls b. s.all ls (after, takes, b);
      bad = λ n b. let h : suc n + (number - 2) ≡ n + (number + 1 - 2) = omega (arith, s.from_two) in let Q : ℕ → Type 0 = λ k. BadBody [] texts k in subst Q h (s.bad (suc n) (after, takes, b));
      from_two = omega (arith, s.from_two);
    }

pub reads_bad : (texts : List (List ℕ)) (found : List Line) (text : List ℕ) (here rest : List (List ℕ)) (number : ℕ) → Reads texts found here number → here ≡ text ∷ rest → Breaks found text
    → (n : ℕ) × (number ≡ n + 2) × BadBody [] texts n
reads_bad texts found text here rest number r e breaks =
    let P : List (List ℕ) → Type 0 = λ xs. Reads texts found xs number in
    let s = subst P e r in
    (zero + (number - 2), omega (arith, s.from_two), s.bad zero breaks)
