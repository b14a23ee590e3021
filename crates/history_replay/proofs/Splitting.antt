-- A text has one list of lines, and one first bad line.
use Rattle.std.proofs.Common.{◌≡◌, ℕ, zero, suc, ◌+◌, ◌<◌, List, [], ◌∷◌, ◌++◌, length, refl, sym, ◌∙◌, subst, arith, append_assoc, inl, inr}
use Rattle.std.specs.Prelude.{◌⊎◌, All, Some, slice_get, flat_map, take}
use Rattle.std.proofs.lemmas.Bool.{cases_lt}
use Rattle.source_model.specs.Circuits.{IsOneLine}
use Rattle.schedule_text.specs.Text.{ended}
use Rattle.schedule_text.proofs.OneText.{Free, AllFree, cut_at, free_name}
use Rattle.history_replay.specs.Replay.{Question, MayFollow, Splits, GoodUpTo, IsLegalText, OneFirstBad}

free_lines : (lines : List (List ℕ)) → All IsOneLine lines → AllFree 10 lines
free_lines [] f = tt
free_lines (l ∷ ls) f = (free_name l (f 0 l (omega arith)), free_lines ls (λ k d h. f (suc k) d (omega (arith, h))))

not_free : (c : ℕ) (xs ys : List ℕ) → Free c (xs ++ c ∷ ys) → ⊥
not_free c [] ys (ne, f) = ne refl
not_free c (x ∷ xs) ys (ne, f) = not_free c xs ys f

first_ended : (l : List ℕ) (ls : List (List ℕ)) (r : List ℕ) → flat_map ended (l ∷ ls) ++ r ≡ l ++ 10 ∷ (flat_map ended ls ++ r)
first_ended l ls r = append_assoc (l ++ 10 ∷ []) (flat_map ended ls) r ∙ append_assoc l (10 ∷ []) (flat_map ended ls ++ r)

lines_one : (ls ms : List (List ℕ)) (r s : List ℕ) → AllFree 10 ls → AllFree 10 ms → Free 10 r → Free 10 s → flat_map ended ls ++ r ≡ flat_map ended ms ++ s → ls ≡ ms
lines_one [] [] r s f g i j e = refl
lines_one [] (m ∷ ms) r s f g i j e =
    let P : List ℕ → Type 0 = λ t. Free 10 t in absurd (not_free 10 m (flat_map ended ms ++ s) (subst P (e ∙ first_ended m ms s) i))
lines_one (l ∷ ls) [] r s f g i j e =
    let P : List ℕ → Type 0 = λ t. Free 10 t in absurd (not_free 10 l (flat_map ended ls ++ r) (subst P (sym e ∙ first_ended l ls r) j))
lines_one (l ∷ ls) (m ∷ ms) r s (f, fs) (g, gs) i j e =
    let (same, rest) = cut_at 10 l m (flat_map ended ls ++ r) (flat_map ended ms ++ s) f g (sym (first_ended l ls r) ∙ (e ∙ first_ended m ms s)) in
    let others = lines_one ls ms r s fs gs i j rest in
    cc (same, others)

pub splits_one : (text : List ℕ) (ls ms : List (List ℕ)) (r s : List ℕ) → Splits text ls r → Splits text ms s → ls ≡ ms
splits_one text ls ms r s f g =
    lines_one ls ms r s (free_lines ls f.1) (free_lines ms g.1) (free_name r f.2) (free_name s g.2) (sym f.0 ∙ g.0)

-- which line of these is the first bad one
abbrev BadIn : Question → List ℕ → List (List ℕ) → ℕ → Type 0
BadIn q text lines n =
    ((k : ℕ) × (line : List ℕ) × (n ≡ k + 1) × (slice_get lines k ≡ Some line) × GoodUpTo q lines k × (MayFollow q (take k lines) line → ⊥))
    ⊎ ((n ≡ length lines + 1) × GoodUpTo q lines (length lines) × (IsLegalText q text → ⊥))

within : {X : Type 0} (xs : List X) (p : ℕ) (x : X) → slice_get xs p ≡ Some x → p < length xs
within [] p x e = absurd (cc)
within (y ∷ ys) zero x e = omega arith
within (y ∷ ys) (suc p) x e = omega (arith, within ys p x e)

bad_one : (q : Question) (text : List ℕ) (lines : List (List ℕ)) (m n : ℕ) → BadIn q text lines m → BadIn q text lines n → m ≡ n
bad_one q text lines m n (inl (j, l, e, at, good, bad)) (inl (k, l', e', at', good', bad')) =
    elim (cases_lt j k) [
      | inl before ↦ absurd (bad (good' j l before at))
      | inr later ↦ elim (cases_lt k j) [ inl before ↦ absurd (bad' (good k l' before at')) | inr same ↦ omega (arith, later, same, e, e') ]
    ]
bad_one q text lines m n (inl (j, l, e, at, good, bad)) (inr (e', good', whole)) = absurd (bad (good' j l (within lines j l at) at))
bad_one q text lines m n (inr (e, good, whole)) (inl (k, l', e', at', good', bad')) = absurd (bad' (good k l' (within lines k l' at') at'))
bad_one q text lines m n (inr (e, good, whole)) (inr (e', good', whole')) = omega (arith, e, e')

pub one_first_bad : OneFirstBad
one_first_bad q text m n (ls, r, split, bad) (ms, s, split', bad') =
    let P : List (List ℕ) → Type 0 = λ lines. BadIn q text lines n in
    bad_one q text ls m n bad (subst P (sym (splits_one text ls ms r s split split')) bad')
