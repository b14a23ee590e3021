-- A least walk repeats no cell and enters no cell of the set that it leaves, so a growth stays distinct and within the cells.
use Rattle.std.proofs.Common.{◌≡◌, ◌≢◌, ℕ, zero, suc, ◌+◌, ◌-◌, ◌<◌, ◌≤◌, ◌⊎◌, inl, inr, length, get_or, take, drop, List, [], ◌∷◌, ◌++◌, refl, sym, subst, arith, Contains, All, AllPairs, length-append, length-drop, length-take}
use Rattle.std.proofs.lemmas.Bool.{cases_lt, cases_eq}
use Rattle.std.proofs.lemmas.List.Elements.{All-cons, All-from_get_or, Contains-get_or}
use Rattle.std.proofs.lemmas.List.Quantifiers.{all_pairs_remove}
use Rattle.std.proofs.lemmas.List.{get_or_append_left, get_or-append_right}
use Rattle.std.proofs.lemmas.List.Edits.{get_or-remove_below, get_or-remove_above, length-remove}
use Rattle.std.specs.List.{remove}
use Rattle.patch_layout.specs.Grid.{Grid, Leads}
use Rattle.patch_layout.specs.Joined.{Adds}

-- the rest of a walk
pub leads_at : (g : Grid) (P T : ℕ → Type 0) (a : ℕ) (cs : List ℕ) (i d : ℕ) → i < length cs → Leads g P T a cs → Leads g P T (get_or cs i d) (drop (suc i) cs)
leads_at g P T a [] i d b l = absurd (omega arith)
leads_at g P T a (c ∷ cs) zero d b (adj, p, rest) = rest
leads_at g P T a (c ∷ cs) (suc i) d b (adj, p, rest) = leads_at g P T c cs i d (omega arith) rest

-- another end for a walk
pub leads_cut : (g : Grid) (P T : ℕ → Type 0) (a : ℕ) (cs : List ℕ) (i d : ℕ) (es : List ℕ) → i < length cs → Leads g P T a cs → Leads g P T (get_or cs i d) es
    → Leads g P T a (take (suc i) cs ++ es)
leads_cut g P T a [] i d es b l e = absurd (omega arith)
leads_cut g P T a (c ∷ cs) zero d es b (adj, p, rest) e = (adj, p, e)
leads_cut g P T a (c ∷ cs) (suc i) d es b (adj, p, rest) e = (adj, p, leads_cut g P T c cs i d es (omega arith) rest e)

-- the last cell of a walk may be asked for more
pub leads_to : (g : Grid) (P T U : ℕ → Type 0) (cs : List ℕ) (a : ℕ) → ((c : ℕ) → T c → U c) → Leads g P T a cs → Leads g P U a cs
leads_to g P T U [] a f t = f a t
leads_to g P T U (c ∷ cs) a f (adj, p, rest) = (adj, p, leads_to g P T U cs c f rest)

-- all its cells meet P
pub leads_all : (g : Grid) (P T : ℕ → Type 0) (a : ℕ) (cs : List ℕ) → Leads g P T a cs → All P cs
leads_all g P T a [] l = λ k d b. absurd (omega arith)
leads_all g P T a (c ∷ cs) (adj, p, rest) = All-cons P c cs p (leads_all g P T c cs rest)

pub least_new : (g : Grid) (P T : ℕ → Type 0) (have added : List ℕ) → Adds g P T have added → (i d : ℕ) → i < length added → Contains have (get_or added i d) → ⊥
least_new g P T have added ((from, has, leads), least) i d b inside =
    let l : length added ≤ length (drop (suc i) added) = least (drop (suc i) added) (get_or added i d, inside, leads_at g P T from added i d b leads) in
    omega (arith, length-drop (suc i) added)

pub least_once : (g : Grid) (P T : ℕ → Type 0) (have added : List ℕ) → Adds g P T have added → (i j d : ℕ) → i < j → j < length added → get_or added i d ≢ get_or added j d
least_once g P T have added ((from, has, leads), least) i j d lt b = λ same.
    let rest = leads_at g P T from added j d b leads in
    let Q : ℕ → Type 0 = λ x. Leads g P T x (drop (suc j) added) in
    let l : length added ≤ length (take (suc i) added ++ drop (suc j) added) =
    least (take (suc i) added ++ drop (suc j) added) (from, has, leads_cut g P T from added i d (drop (suc j) added) (omega arith) leads (subst Q (sym same) rest)) in
    omega (arith, length-append (take (suc i) added) (drop (suc j) added), length-drop (suc j) added, length-take (suc i) added)

abbrev pub Distinct : List ℕ → Type 0
Distinct xs = AllPairs (λ a b. a ≢ b) xs

pub adds_distinct : (g : Grid) (P T : ℕ → Type 0) (have added : List ℕ) → Adds g P T have added → Distinct have → Distinct (have ++ added)
adds_distinct g P T have added adds distinct i j d lt b =
    elim (cases_lt j (length have)) [
      | inl low ↦ rw (get_or_append_left have added d i (omega arith), get_or_append_left have added d j low) (distinct i j d lt low)
      | inr high ↦
          let m : j - length have < length added = omega (arith, length-append have added) in
          rw (get_or-append_right have added (length have) j d refl high)
          (elim (cases_lt i (length have)) [
            | inl low ↦ rw (get_or_append_left have added d i low)
                (λ same. let P' : ℕ → Type 0 = λ x. Contains have x in
                least_new g P T have added adds (j - length have) d m (subst P' same (Contains-get_or have i d low)))
            | inr high' ↦ rw (get_or-append_right have added (length have) i d refl high')
                (least_once g P T have added adds (i - length have) (j - length have) d (omega arith) m)
          ])
    ]

-- a value is at some place of a list, or at none
pub find : (xs : List ℕ) (v : ℕ) → ((i : ℕ) × (i < length xs) × (get_or xs i 0 ≡ v)) ⊎ ((i : ℕ) → i < length xs → get_or xs i 0 ≢ v)
find [] v = inr (λ i b. absurd (omega arith))
find (x ∷ xs) v = elim (cases_eq x v) [
  | inl e ↦ inl (0, omega arith, e)
  | inr n ↦ elim (find xs v) [
    | inl at' ↦ inl (suc at'.0, omega (arith, at'.1), at'.2)
    | inr none ↦ inr (λ i b. elim i as (λ k. k < length (x ∷ xs) → get_or (x ∷ xs) k 0 ≢ v) [ zero ↦ λ _. n | suc k ↦ λ b'. none k (omega arith) ] b)
  ]
]

-- distinct numbers below n are at most n
pub below_few : (n : ℕ) (xs : List ℕ) → Distinct xs → All (λ x. x < n) xs → length xs ≤ n
below_few zero [] distinct all = omega arith
below_few zero (x ∷ xs) distinct all = let w : x < 0 = all 0 0 (omega arith) in absurd (omega arith)
below_few (suc n) xs distinct all = elim (find xs n) [
  | inl at' ↦
      let i = at'.0 in
      let b : i < length xs = at'.1 in
      let is : get_or xs i 0 ≡ n = at'.2 in
      let l : length (remove xs i) + 1 ≡ length xs = length-remove xs i b in
      let others : All (λ x. x < n) (remove xs i) = All-from_get_or (λ x. x < n) (remove xs i) 0 (λ k m. elim (cases_lt k i) [
        | inl lt ↦ rw (get_or-remove_below xs i 0 k lt b)
            (let w : get_or xs k 0 < suc n = all k 0 (omega arith) in let d : get_or xs k 0 ≢ get_or xs i 0 = distinct k i 0 lt b in omega arith)
        | inr ge ↦ rw (get_or-remove_above xs i 0 k ge b)
            (let w : get_or xs (k + 1) 0 < suc n = all (k + 1) 0 (omega arith) in let d : get_or xs i 0 ≢ get_or xs (k + 1) 0 = distinct i (k + 1) 0 (omega arith) (omega arith) in omega arith)
      ]) in
      let r : length (remove xs i) ≤ n = below_few n (remove xs i) (all_pairs_remove (λ a c. a ≢ c) xs i b distinct) others in
      omega arith
  | inr none ↦
      let others : All (λ x. x < n) xs = All-from_get_or (λ x. x < n) xs 0 (λ k m.
      let w : get_or xs k 0 < suc n = all k 0 m in let d : get_or xs k 0 ≢ n = none k m in omega arith) in
      let r : length xs ≤ n = below_few n xs distinct others in
      omega arith
]
