-- From the sizes at single cells to the size of a whole set: the cells are taken into their parents, the last one first.
use Rattle.std.proofs.Common.{◌≡◌, ◌≢◌, ℕ, zero, suc, true, false, ◌+◌, ◌^◌, ◌<◌, ◌≤◌, ◌==◌, ◌&&◌, ◌||◌, inl, inr, refl, sym, ◌∙◌, subst, arith, if◌then◌else◌}
use Rattle.std.proofs.lemmas.Bool.{cases_lt}
use Rattle.patch_layout.specs.Grid.{Grid, Adjacent}
use Rattle.least_region.specs.inside.Subset.{Parts}
use Rattle.least_region.proofs.Masks.{mask, mask_same, mask_parts, mask_below}

-- the sum of the first t + 1 sizes
abbrev pub total : ℕ → (ℕ → ℕ) → ℕ
total zero n = n 0
total (suc t) n = total t n + n (suc t)

eq_self : (x : ℕ) → (x == x) ≡ true
eq_self x = grind arith

eq_not : (x y : ℕ) → x ≢ y → (x == y) ≡ false
eq_not x y ne = grind arith

-- more at one place
put : (ℕ → ℕ) → ℕ → ℕ → ℕ → ℕ
put n p x j = if j == p then x else n j

put_here : (n : ℕ → ℕ) (p x : ℕ) → put n p x p ≡ x
unfolding put
put_here n p x = rw (eq_self p)

put_other : (n : ℕ → ℕ) (p x j : ℕ) → j ≢ p → put n p x j ≡ n j
unfolding put
put_other n p x j ne = rw (eq_not j p ne)

total_kept : (t : ℕ) (n : ℕ → ℕ) (p x : ℕ) → t < p → total t (put n p x) ≡ total t n
total_kept zero n p x lt = put_other n p x 0 (omega arith)
total_kept (suc t) n p x lt = let e = total_kept t n p x (omega arith) in let f = put_other n p x (suc t) (omega arith) in omega arith

total_put : (t : ℕ) (n : ℕ → ℕ) (p x : ℕ) → p ≤ t → total t (put n p (n p + x)) ≡ total t n + x
total_put zero n p x le = let e : 0 ≡ p = omega arith in let P : ℕ → Type 0 = λ q. put n q (n q + x) 0 ≡ n 0 + x in subst P e (put_here n 0 (n 0 + x))
total_put (suc t) n p x le =
    elim (cases_lt t p) [
      | inl top ↦
          let e : suc t ≡ p = omega arith in
          let P : ℕ → Type 0 = λ q. total t (put n q (n q + x)) + put n q (n q + x) (suc t) ≡ total t n + n (suc t) + x in
          subst P e (let a = total_kept t n (suc t) (n (suc t) + x) (omega arith) in let b = put_here n (suc t) (n (suc t) + x) in omega arith)
      | inr low ↦
          let a = total_put t n p x low in
          let b = put_other n p (n p + x) (suc t) (omega arith) in
          omega arith
    ]

total_least : (t : ℕ) (n : ℕ → ℕ) (p : ℕ) → p ≤ t → n p ≤ total t n
total_least zero n p le = let e : 0 ≡ p = omega arith in let P : ℕ → Type 0 = λ q. n q ≤ n 0 in subst P e (omega arith)
total_least (suc t) n p le =
    elim (cases_lt t p) [
      | inl top ↦ let e : suc t ≡ p = omega arith in let P : ℕ → Type 0 = λ q. n q ≤ total t n + n (suc t) in subst P e (omega arith)
      | inr low ↦ let a = total_least t n p low in omega arith
    ]

-- the label of a cell that was taken into its parent is the parent's
relabel : ℕ → ℕ → ℕ → ℕ
relabel h p l = if l == h then p else l

relabel_below : (h p l t : ℕ) → p ≤ t → h ≡ suc t → l ≤ h → relabel h p l ≤ t
unfolding relabel
relabel_below h p l t le is low =
    elim (cases_lt l h) [
      | inl lt ↦ rw (eq_not l h (omega arith)) (omega arith)
      | inr ge ↦ let e : l ≡ h = omega arith in rw (e, eq_self h) le
    ]

-- the parent's sides are then its own and those of the cell
relabel_parent : (h p l : ℕ) → p ≢ h → (relabel h p l == p) ≡ ((l == p) || (l == h))
unfolding relabel
relabel_parent h p l ne =
    elim (l == h) as (λ b. (l == h) ≡ b → ((if b then p else l) == p) ≡ ((l == p) || b)) [
      | true ↦ λ e. let o : ((l == p) || true) ≡ true = elim (l == p) as (λ b. (b || true) ≡ true) [ true ↦ refl | false ↦ refl ] in eq_self p ∙ sym o
      | false ↦ λ e. elim (l == p) as (λ b. b ≡ (b || false)) [ true ↦ refl | false ↦ refl ]
    ] refl

relabel_other : (h p l j : ℕ) → j ≢ p → j ≢ h → (relabel h p l == j) ≡ (l == j)
unfolding relabel
relabel_other h p l j np nh =
    elim (l == h) as (λ b. (l == h) ≡ b → ((if b then p else l) == j) ≡ (l == j)) [
      | true ↦ λ e. let s : l ≡ h = grind arith in eq_not p j (λ f. np (sym f)) ∙ sym (eq_not l j (λ f. nh (sym f ∙ s)))
      | false ↦ λ e. refl
    ] refl

apart : (l p h : ℕ) → p ≢ h → ((l == p) && (l == h)) ≡ false
apart l p h ne =
    elim (l == p) as (λ b. (l == p) ≡ b → (b && (l == h)) ≡ false) [
      | true ↦ λ e. let s : l ≡ p = grind arith in eq_not l h (λ f. ne (sym s ∙ f))
      | false ↦ λ e. refl
    ] refl

module _ (g : Grid) (Free : ℕ → Type 0) (limit k : ℕ) (At : ℕ → ℕ → ℕ → Type 0)
    (grows : (m c d n : ℕ) → m < 2 ^ k → At m c n → n < limit → Adjacent g c d → Free d → At m d (n + 1))
    (unites : (a b m c x y n : ℕ) → Parts a b m → m < 2 ^ k → At a c x → At b c y → x + y ≡ n + 1 → n ≤ limit → At m c n) where
  pub collapse : (t : ℕ) (X lab n : ℕ → ℕ) → ((j : ℕ) → j < t → (p : ℕ) × (p ≤ j) × Adjacent g (X (suc j)) (X p)) → ((j : ℕ) → j ≤ t → Free (X j)) → ((j : ℕ) → j ≤ t → 0 < n j)
      → ((j : ℕ) → j ≤ t → At (mask k (λ i. lab i == j)) (X j) (n j)) → ((i : ℕ) → i < k → lab i ≤ t) → total t n ≤ limit → At (mask k (λ i. true)) (X 0) (total t n)
  collapse zero X lab n parent free some at' low few =
      let e : mask k (λ i. lab i == 0) ≡ mask k (λ i. true) = mask_same k (λ i. lab i == 0) (λ i. true) (λ i lt. let z : lab i ≡ 0 = (let w = low i lt in omega arith) in rw z (eq_self 0)) in
      let P : ℕ → Type 0 = λ m. At m (X 0) (n 0) in
      subst P e (at' 0 (omega arith))
  collapse (suc t) X lab n parent free some at' low few =
      let h : ℕ = suc t in
      let (p, le, adj) = parent t (omega arith) in
      let lab' : ℕ → ℕ = λ i. relabel (suc t) p (lab i) in
      let n' : ℕ → ℕ = put n p (n p + n (suc t)) in
      let ne : p ≢ suc t = omega arith in
      let some-p = some p (omega arith) in
      let part : n p ≤ total t n = total_least t n p le in
      let grown : At (mask k (λ i. lab i == suc t)) (X p) (n (suc t) + 1) =
      grows (mask k (λ i. lab i == suc t)) (X (suc t)) (X p) (n (suc t)) (mask_below k (λ i. lab i == suc t)) (at' (suc t) (omega arith)) (omega arith) adj (free p (omega arith)) in
      let parts = mask_parts k (λ i. lab i == p) (λ i. lab i == suc t) (λ i. lab' i == p) (λ i lt. apart (lab i) p (suc t) ne) (λ i lt. relabel_parent (suc t) p (lab i) ne) in
      let united : At (mask k (λ i. lab' i == p)) (X p) (n p + n (suc t)) =
      unites (mask k (λ i. lab i == p)) (mask k (λ i. lab i == suc t)) (mask k (λ i. lab' i == p)) (X p) (n p) (n (suc t) + 1) (n p + n (suc t)) parts (mask_below k (λ i. lab' i == p))
      (at' p (omega arith)) grown (omega arith) (omega arith) in
      let sum : total t n' ≡ total t n + n (suc t) = total_put t n p (n (suc t)) le in
      let P : ℕ → Type 0 = λ x. At (mask k (λ i. true)) (X 0) x in
      subst P sum (collapse t X lab' n'
      (λ j lt. parent j (omega arith))
      (λ j le'. free j (omega arith))
      (λ j le'. elim (cases_lt j p) [
        | inl lt ↦ let e = put_other n p (n p + n (suc t)) j (omega arith) in let s = some j (omega arith) in omega arith
        | inr ge ↦ elim (cases_lt p j) [
          | inl gt ↦ let e = put_other n p (n p + n (suc t)) j (omega arith) in let s = some j (omega arith) in omega arith
          | inr le'' ↦ let same : p ≡ j = omega arith in let Q : ℕ → Type 0 = λ x. 0 < put n p (n p + n (suc t)) x in subst Q same (let e = put_here n p (n p + n (suc t)) in omega arith)
        ]
      ])
      (λ j le'.
      let other = λ (off : j ≢ p).
      let e : mask k (λ i. lab i == j) ≡ mask k (λ i. lab' i == j) = mask_same k (λ i. lab i == j) (λ i. lab' i == j) (λ i lt. sym (relabel_other (suc t) p (lab i) j off (omega arith))) in
      let f : n j ≡ n' j = sym (put_other n p (n p + n (suc t)) j off) in
      let Q : ℕ → Type 0 = λ m. At m (X j) (n j) in
      let R : ℕ → Type 0 = λ x. At (mask k (λ i. lab' i == j)) (X j) x in
      subst R f (subst Q e (at' j (omega arith))) in
      elim (cases_lt j p) [
        | inl lt ↦ other (omega arith)
        | inr ge ↦ elim (cases_lt p j) [
          | inl gt ↦ other (omega arith)
          | inr le'' ↦
              let same : p ≡ j = omega arith in
              let Q : ℕ → Type 0 = λ x. At (mask k (λ i. lab' i == x)) (X x) (n' x) in
              let R : ℕ → Type 0 = λ x. At (mask k (λ i. lab' i == p)) (X p) x in
              subst Q same (subst R (sym (put_here n p (n p + n (suc t)))) united)
        ]
      ])
      (λ i lt. relabel_below (suc t) p (lab i) t le refl (low i lt))
      (omega arith))
