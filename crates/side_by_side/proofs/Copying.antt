-- Letters that are copied from the first one on.
use Rattle.std.proofs.Common.{◌≡◌, ℕ, zero, suc, ◌+◌, ◌<◌, ◌≤◌, List, [], ◌∷◌, ◌++◌, Some, take, drop, length, replicate, slice_get, slice_index_or, refl, ap, ap₂, sym, ◌∙◌, arith, set}
use Rattle.std.proofs.lemmas.List.{set-append_left}
use Rattle.std.proofs.lemmas.Option.{same_Some}
use Rattle.pauli_product.specs.declared.Letter.{Letter}
use Rattle.pauli_product.specs.declared.Letter.TheVariants.{I}
use Rattle.side_by_side.specs.Places.{fill}
use Rattle.side_by_side.specs.inside.Cut.{cut}

pub length-cut : (n : ℕ) (ls : List Letter) → length (cut n ls) ≡ length ls
length-cut n [] = refl
length-cut zero (l ∷ ls) = omega (arith, length-cut zero ls)
length-cut (suc n) (l ∷ ls) = omega (arith, length-cut n ls)

-- one letter more, where those between are I
pub cut_next : (ls : List Letter) (from q : ℕ) (l : Letter) → from ≤ q → q < length ls → ((k : ℕ) → from ≤ k → k < q → slice_index_or ls k I ≡ I) → slice_get ls q ≡ Some l →
    set (cut from ls) q l ≡ cut (suc q) ls
cut_next [] from q l low small idle e = absurd (omega arith)
cut_next (x ∷ ls) zero zero l low small idle e = ap (λ y. y ∷ cut zero ls) (sym (same_Some x l e))
cut_next (x ∷ ls) zero (suc q) l low small idle e =
    ap₂ ◌∷◌ (sym (idle 0 (omega arith) (omega arith))) (cut_next ls zero q l (omega arith) (omega arith) (λ k y z. idle (suc k) (omega arith) (omega arith)) e)
cut_next (x ∷ ls) (suc from) zero l low small idle e = absurd (omega arith)
cut_next (x ∷ ls) (suc from) (suc q) l low small idle e =
    ap (λ ys. x ∷ ys) (cut_next ls from q l (omega arith) (omega arith) (λ k y z. idle (suc k) (omega arith) (omega arith)) e)

pub cut_all : (ls : List Letter) (from : ℕ) → ((k : ℕ) → from ≤ k → slice_index_or ls k I ≡ I) → cut from ls ≡ ls
cut_all [] from idle = refl
cut_all (x ∷ ls) zero idle = ap₂ ◌∷◌ (sym (idle 0 (omega arith))) (cut_all ls zero (λ k y. idle (suc k) (omega arith)))
cut_all (x ∷ ls) (suc from) idle = ap (λ ys. x ∷ ys) (cut_all ls from (λ k y. idle (suc k) (omega arith)))

-- ---- with I before and after
pub fill_next : (before after : ℕ) (xs : List Letter) (at q : ℕ) (l : Letter) → at ≡ before + q → q < length xs → set (fill before after xs) at l ≡ fill before after (set xs q l)
fill_next zero after xs at q l e small = let n : at ≡ q = omega (arith, e) in ap (λ n. set (xs ++ replicate after I) n l) n ∙ set-append_left xs (replicate after I) q l small
fill_next (suc before) after xs at q l e small =
    let n : at ≡ suc (before + q) = omega (arith, e) in
    ap (λ n. set (fill (suc before) after xs) n l) n ∙ ap (λ ys. I ∷ ys) (fill_next before after xs (before + q) q l refl small)

idle_more : (m n all : ℕ) → all ≡ m + n → replicate all I ≡ replicate m I ++ replicate n I
idle_more zero n all e = let same : all ≡ n = omega (arith, e) in ap (λ n. replicate n I) same
idle_more (suc m) n all e = let same : all ≡ suc (m + n) = omega (arith, e) in ap (λ n. replicate n I) same ∙ ap (λ ys. I ∷ ys) (idle_more m n (m + n) refl)

pub cut_none : (ls : List Letter) → replicate (length ls) I ≡ cut zero ls
cut_none [] = refl
cut_none (l ∷ ls) = ap (λ ys. I ∷ ys) (cut_none ls)

-- nothing is copied yet
pub fill_none : (before after all : ℕ) (ls : List Letter) → all ≡ before + (length ls + after) → replicate all I ≡ fill before after (cut zero ls)
fill_none before after all ls e =
    idle_more before (length ls + after) all e
    ∙ ap (λ ys. replicate before I ++ ys) (idle_more (length ls) after (length ls + after) refl ∙ ap (λ ys. ys ++ replicate after I) (cut_none ls))

pub cut_whole : (ls : List Letter) (n : ℕ) → length ls ≤ n → cut n ls ≡ ls
cut_whole [] n l = refl
cut_whole (x ∷ ls) zero l = absurd (omega arith)
cut_whole (x ∷ ls) (suc n) l = ap (λ ys. x ∷ ys) (cut_whole ls n (omega arith))

-- ---- the letters of so many qubits after so many others
pub own_length : (before n : ℕ) (ls : List Letter) → before + n ≤ length ls → length (take n (drop before ls)) ≡ n
own_length zero zero ls h = refl
own_length zero (suc n) [] h = absurd (omega arith)
own_length zero (suc n) (l ∷ ls) h = omega (arith, own_length zero n ls (omega arith))
own_length (suc before) n [] h = absurd (omega arith)
own_length (suc before) n (l ∷ ls) h = own_length before n ls (omega arith)

own_first : (n q : ℕ) (ls : List Letter) (l : Letter) → q < n → slice_get ls q ≡ Some l → slice_get (take n ls) q ≡ Some l
own_first zero q ls l small e = absurd (omega arith)
own_first (suc n) q [] l small e = e
own_first (suc n) zero (x ∷ ls) l small e = e
own_first (suc n) (suc q) (x ∷ ls) l small e = own_first n q ls l (omega arith) e

pub own_get : (before n q at : ℕ) (ls : List Letter) (l : Letter) → at ≡ before + q → q < n → slice_get ls at ≡ Some l → slice_get (take n (drop before ls)) q ≡ Some l
own_get zero n q at ls l same small e = let n' : at ≡ q = omega (arith, same) in own_first n q ls l small (ap (slice_get ls) (sym n') ∙ e)
own_get (suc before) n q at [] l same small e = cc
own_get (suc before) n q zero (x ∷ ls) l same small e = absurd (omega (arith, same))
own_get (suc before) n q (suc at) (x ∷ ls) l same small e = own_get before n q at ls l (omega (arith, same)) small e
