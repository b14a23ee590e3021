-- Lines that a line feed ends.
use Rattle.std.proofs.Common.{◌≡◌, ℕ, zero, suc, ◌+◌, ◌-◌, ◌≤◌, ◌<◌, Bool, true, false, cond, not, ◌==◌, inl, inr, List, [], ◌∷◌, ◌++◌, length, take, drop, min, refl, sym, ◌∙◌, ap, subst, arith, slice_range, length-append, length-drop}
use Rattle.std.specs.List.{position_or_len}
use Rattle.std.proofs.lemmas.Bool.{eqb-true, eqb-false}
use Rattle.std.proofs.lemmas.Bool.{cases_lt}
use Rattle.schedule_text.proofs.OneText.{cut_at, free_name}
use Rattle.std.proofs.Math.Seq.{take-append_seam, drop-append_seam}
use Rattle.source_model.specs.Circuits.{IsOneLine}
use Rattle.patch_base.specs.Texts.{line_end}
use Rattle.history_replay.specs.inside.Lines.{IsEnded}

abbrev is_feed : ℕ → Bool
is_feed b = b == 10

record FirstFeed (xs : List ℕ) : Type 0 where
  line : List ℕ
  more : List ℕ
  is : xs ≡ line ++ 10 ∷ more
  one_line : IsOneLine line
  place : length line ≡ position_or_len is_feed xs

longer : (x : ℕ) (line : List ℕ) → (x ≡ 10 → ⊥) → IsOneLine line → IsOneLine (x ∷ line)
longer x line ne h zero d l = ne
longer x line ne h (suc k) d l = h k d (omega (arith, l))

found : (x : ℕ) (xs : List ℕ) (b : Bool) → is_feed x ≡ b → (position_or_len is_feed xs < length xs → FirstFeed xs) → cond (not b) (1 + position_or_len is_feed xs) 0 < suc (length xs) → FirstFeed (x ∷ xs)
found x xs true e later l = record {
  line = [];
  more = xs;
  is = ap (λ y. y ∷ xs) (eqb-true x 10 e);
  one_line = λ k d h. absurd (omega (arith, h));
  place = ap (λ b. cond (not b) (1 + position_or_len is_feed xs) 0) (sym e);
}
found x xs false e later l =
    let f = later (omega (arith, l)) in
    let count : suc (length f.line) ≡ 1 + position_or_len is_feed xs = omega (arith, f.place) in
    record {
      line = x ∷ f.line;
      more = f.more;
      is = ap (λ ys. x ∷ ys) f.is;
      one_line = longer x f.line (eqb-false x 10 e) f.one_line;
      place = count ∙ ap (λ b. cond (not b) (1 + position_or_len is_feed xs) 0) (sym e);
    }

first_feed : (xs : List ℕ) → position_or_len is_feed xs < length xs → FirstFeed xs
first_feed [] low = absurd (omega arith)
first_feed (x ∷ xs) low = found x xs (is_feed x) refl (λ l. first_feed xs l) low

unfound : (x : ℕ) (xs more : List ℕ) (b : Bool) → is_feed x ≡ b → (length xs ≤ position_or_len is_feed xs → (ys : List ℕ) → xs ≡ ys ++ 10 ∷ more → ⊥) → suc (length xs) ≤ cond (not b) (1 + position_or_len is_feed xs) 0 → (line : List ℕ) → x ∷ xs ≡ line ++ 10 ∷ more → ⊥
unfound x xs more true f later l line e = omega (arith, l)
unfound x xs more false f later l [] e = let same : x ≡ 10 = cc in eqb-false x 10 f same
unfound x xs more false f later l (y ∷ ys) e = let rest : xs ≡ ys ++ 10 ∷ more = cc in later (omega (arith, l)) ys rest

pub no_feed : (xs : List ℕ) → length xs ≤ position_or_len is_feed xs → (line more : List ℕ) → xs ≡ line ++ 10 ∷ more → ⊥
no_feed [] low [] more e = cc
no_feed [] low (l ∷ ls) more e = cc
no_feed (x ∷ xs) low line more e = unfound x xs more (is_feed x) refl (λ l ys f. no_feed xs l ys more f) low line e

drop_more : {X : Type 0} (m n : ℕ) (xs : List X) → drop m (drop n xs) ≡ drop (n + m) xs
drop_more m zero xs = ap (λ k. drop k xs) (let e : m ≡ 0 + m = omega arith in e)
drop_more zero (suc n) [] = ap (λ k. drop k []) (let e : suc n ≡ suc n + 0 = omega arith in e)
drop_more {X = X} (suc m) (suc n) [] = let e : suc n + suc m ≡ suc (n + suc m) = omega arith in sym (ap (λ k. drop {A = X} k []) e)
drop_more m (suc n) (x ∷ xs) = drop_more m n xs ∙ ap (λ k. drop k (x ∷ xs)) (let e : suc (n + m) ≡ suc n + m = omega arith in e)

pub ended_is : (text : List ℕ) (at start end next : ℕ) → start ≡ at → end ≡ line_end text at → next ≡ min (line_end text at + 1) (length text) → line_end text at < length text → IsEnded text at (slice_range text start end) next
ended_is text at start end next s e n low =
    let size : length (drop at text) ≡ length text - at = length-drop at text in
    let f = first_feed (drop at text) (omega (arith, low, size)) in
    let ends : end ≡ at + length f.line = omega (arith, e, f.place) in
    let goes : next ≡ at + (length f.line + 1) = omega (arith, n, low, f.place) in
    let line : slice_range text start end ≡ f.line =
    ap (λ k. slice_range text k end) s ∙ (ap (λ k. take k (drop at text)) (let x : end - at ≡ length f.line = omega (arith, ends) in x) ∙ (ap (take (length f.line)) f.is ∙ take-append_seam f.line (10 ∷ f.more))) in
    let rest : drop next text ≡ f.more =
    ap (λ k. drop k text) goes ∙ (sym (drop_more (length f.line + 1) at text) ∙ (ap (drop (length f.line + 1)) f.is ∙ (sym (drop_more 1 (length f.line) (f.line ++ 10 ∷ f.more)) ∙ ap (drop 1) (drop-append_seam f.line (10 ∷ f.more))))) in
    let P : List ℕ → Type 0 = λ l. IsOneLine l in
    record {
      text_is = f.is ∙ cc (line, rest);
      one_line = subst P (sym line) f.one_line;
      forward = omega (arith, goes);
      within = omega (arith, n);
    }

-- the line up to a line feed is one alone
pub line_cut : (text line more other rest : List ℕ) → IsOneLine line → IsOneLine other → text ≡ line ++ 10 ∷ more → text ≡ other ++ 10 ∷ rest → (line ≡ other) × (more ≡ rest)
line_cut text line more other rest f g e h = cut_at 10 line other more rest (free_name line f) (free_name other g) (sym e ∙ h)

pub no_line_past : (text line rest : List ℕ) (at : ℕ) → length text ≤ at → drop at text ≡ line ++ 10 ∷ rest → ⊥
no_line_past text line rest at low e = omega (arith, ap length e, length-drop at text, length-append line (10 ∷ rest))

pub no_line_from : (text line rest : List ℕ) (at : ℕ) → (line_end text at < length text → ⊥) → drop at text ≡ line ++ 10 ∷ rest → ⊥
no_line_from text line rest at none e =
    elim (cases_lt (line_end text at) (length text)) [ inl low ↦ none low | inr high ↦ no_feed (drop at text) (omega (arith, high, length-drop at text)) line rest e ]
