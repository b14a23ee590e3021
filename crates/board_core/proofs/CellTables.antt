-- A claim's cells one by one, and the tables of holders.
use Rattle.std.proofs.Common.{◌≡◌, ◌≢◌, ◌↔◌, ◌⊎◌, inl, inr, ℕ, zero, suc, ◌+◌, ◌<◌, Bool, true, false, nat_lt, if◌then◌else◌, List, [], ◌∷◌, length, All, Option, Some, None, slice_get, get_or, refl, ap, sym, ◌∙◌, arith, subst}
use Rattle.std.specs.Option.{unwrap_or}
use Rattle.std.proofs.Math.ListN.{set, length-set}
use Rattle.std.proofs.lemmas.Bool.{cases_eq, cases_lt, ltb-true, ltb-false}
use Rattle.std.proofs.lemmas.Option.{same_Some, none-some, slice_get_within, get_or_from_slice_get, slice_get-get_or}
use Rattle.pauli_product.specs.declared.Letter.{Letter}
use Rattle.pauli_product.specs.declared.Letter.TheVariants.{I}
use Rattle.pauli_product.specs.Signed.{Signed}
use Rattle.patch_layout.specs.Grid.{Grid, IsPatch, IsPort}
use Rattle.board_core.specs.Legal.{ClaimCell}
use Rattle.board_core.specs.inside.Cells.{IsCellAt, IsCellBelow, Taken, LeastTaken, given_to, better_of, lesser}

-- ---- the cells by number
module _ (g : Grid) (axis : Signed) (through : Option ℕ) (cells : List ℕ) where
  pub cell_is_region : (n d : ℕ) → slice_get cells n ≡ Some d → (c : ℕ) → (Some d ≡ Some c) ↔ IsCellAt g axis through cells n c
  cell_is_region n d here c = (λ e. inl (here ∙ e), from)
    where
      from : IsCellAt g axis through cells n c → Some d ≡ Some c
      from (inl e) = sym here ∙ e
      from (inr (inl x)) = let l = slice_get_within cells n d here in absurd (omega (arith, x.2))
      from (inr (inr x)) = let l = slice_get_within cells n d here in absurd (omega (arith, x.1))

  pub cell_is_patch : (qubit : ℕ) (result : Option ℕ) → qubit < length axis.letters → ((c : ℕ) → (result ≡ Some c) ↔ ((l : Letter) × (slice_get axis.letters qubit ≡ Some l) × (l ≢ I) × IsPatch g qubit c)) → (c : ℕ) → (result ≡ Some c) ↔ IsCellAt g axis through cells (length cells + qubit) c
  cell_is_patch qubit result few here c = (λ e. let x = (here c).0 e in inr (inl (qubit, x.0, refl, x.1, x.2, x.3)), from)
    where
      from : IsCellAt g axis through cells (length cells + qubit) c → result ≡ Some c
      from (inl e) = let l = slice_get_within cells (length cells + qubit) c e in absurd (omega arith)
      from (inr (inl x)) =
          let s : x.0 ≡ qubit = omega (arith, x.2) in
          (here c).1 (x.1, subst (λ q. slice_get axis.letters q ≡ Some x.1) s x.3, x.4, subst (λ q. IsPatch g q c) s x.5)
      from (inr (inr x)) = absurd (omega (arith, x.1))

  pub cell_is_port : (result : Option ℕ) → ((c : ℕ) → (result ≡ Some c) ↔ ((f : ℕ) × (through ≡ Some f) × IsPort g f c)) → (c : ℕ) → (result ≡ Some c) ↔ IsCellAt g axis through cells (length cells + length axis.letters) c
  cell_is_port result here c = (λ e. let x = (here c).0 e in inr (inr (x.0, refl, x.1, x.2)), from)
    where
      from : IsCellAt g axis through cells (length cells + length axis.letters) c → result ≡ Some c
      from (inl e) = let l = slice_get_within cells (length cells + length axis.letters) c e in absurd (omega arith)
      from (inr (inl x)) = let l = slice_get_within axis.letters x.0 x.1 x.3 in absurd (omega (arith, x.2))
      from (inr (inr x)) = (here c).1 (x.0, x.2, x.3)

-- what a list has lies where all of it does
pub within_all : (n : ℕ) (cells : List ℕ) (k d : ℕ) → All (λ c. c < n) cells → slice_get cells k ≡ Some d → d < n
within_all n cells k d all e = subst (λ x. x < n) (get_or_from_slice_get cells k d d e) (all k d (slice_get_within cells k d e))

-- a patch lies on the grid, and so does a port
pub patch_within : (g : Grid) (axis : Signed) (qubit : ℕ) (result : Option ℕ) → ((c : ℕ) → (result ≡ Some c) ↔ ((l : Letter) × (slice_get axis.letters qubit ≡ Some l) × (l ≢ I) × IsPatch g qubit c)) → (c : ℕ) → result ≡ Some c → c < length g.sites
patch_within g axis qubit result here c e = slice_get_within g.sites c _ ((here c).0 e).3.1

pub port_within : (g : Grid) (through result : Option ℕ) → ((c : ℕ) → (result ≡ Some c) ↔ ((f : ℕ) × (through ≡ Some f) × IsPort g f c)) → (c : ℕ) → result ≡ Some c → c < length g.sites
port_within g through result here c e = slice_get_within g.sites c _ ((here c).0 e).2.2

-- all of them are the claim's cells
pub all_cells : (g : Grid) (axis : Signed) (through : Option ℕ) (cells : List ℕ) (c : ℕ) → IsCellBelow g axis through cells (length cells + length axis.letters + 1) c ↔ ClaimCell g axis through cells c
all_cells g axis through cells c = (to, from)
  where
    to : IsCellBelow g axis through cells (length cells + length axis.letters + 1) c → ClaimCell g axis through cells c
    to (k, l, inl e) = inl (k, slice_get_within cells k c e, get_or_from_slice_get cells k c c e)
    to (k, l, inr (inl x)) = inr (inl (x.0, x.1, x.5.0, x.5.1, x.3, x.4))
    to (k, l, inr (inr x)) = inr (inr (x.0, x.3.0, x.3.1, x.3.2, x.2))

    from : ClaimCell g axis through cells c → IsCellBelow g axis through cells (length cells + length axis.letters + 1) c
    from (inl x) = let l = x.1 in (x.0, omega arith, inl (slice_get-get_or cells x.0 c x.1 ∙ ap Some x.2))
    from (inr (inl x)) = let l = slice_get_within axis.letters x.0 x.1 x.4 in (length cells + x.0, omega arith, inr (inl (x.0, x.1, refl, x.4, x.5, (x.2, x.3))))
    from (inr (inr x)) = (length cells + length axis.letters, omega arith, inr (inr (x.0, refl, x.4, (x.1, x.2, x.3))))

-- one number more
below_more : (g : Grid) (axis : Signed) (through : Option ℕ) (cells : List ℕ) (n c : ℕ) → IsCellBelow g axis through cells (n + 1) c ↔ (IsCellBelow g axis through cells n c ⊎ IsCellAt g axis through cells n c)
below_more g axis through cells n c = (to, from)
  where
    to : IsCellBelow g axis through cells (n + 1) c → IsCellBelow g axis through cells n c ⊎ IsCellAt g axis through cells n c
    to (k, l, x) = elim (cases_lt k n) [
      | inl m ↦ inl (k, m, x)
      | inr m ↦ inr (let e : k ≡ n = omega arith in subst (λ i. IsCellAt g axis through cells i c) e x)
    ]

    from : IsCellBelow g axis through cells n c ⊎ IsCellAt g axis through cells n c → IsCellBelow g axis through cells (n + 1) c
    from (inl (k, l, x)) = (k, omega arith, x)
    from (inr x) = (n, omega arith, x)

-- ---- tables
pub get_set_same : {A : Type 0} (xs : List A) (i : ℕ) (v : A) → i < length xs → slice_get (set xs i v) i ≡ Some v
get_set_same [] i v l = absurd (omega arith)
get_set_same (x ∷ xs) zero v l = refl
get_set_same (x ∷ xs) (suc i) v l = get_set_same xs i v (omega arith)

pub get_set_other : {A : Type 0} (xs : List A) (i k : ℕ) (v : A) → i ≢ k → slice_get (set xs i v) k ≡ slice_get xs k
get_set_other [] i k v ne = refl
get_set_other (x ∷ xs) zero zero v ne = absurd (ne refl)
get_set_other (x ∷ xs) zero (suc k) v ne = refl
get_set_other (x ∷ xs) (suc i) zero v ne = refl
get_set_other (x ∷ xs) (suc i) (suc k) v ne = get_set_other xs i k v (λ e. ne (ap suc e))

taken_same : (P Q : ℕ → Type 0) (by : ℕ) (old new : List (Option ℕ)) → ((c : ℕ) → P c ↔ Q c) → Taken P by old new → Taken Q by old new
taken_same P Q by old new same t =
    (t.0, λ c l. elim (t.1 c l) [ inl x ↦ inl ((same c).0 x.0, x.1) | inr x ↦ inr ((λ q. x.0 ((same c).1 q)), x.1) ])

pub length_given : (cell : Option ℕ) (by : ℕ) (holders : List (Option ℕ)) → length (given_to cell by holders) ≡ length holders
length_given None by holders = refl
length_given (Some c) by holders = length-set holders c (Some by)

-- one cell more
taken_more : (P : ℕ → Type 0) (by : ℕ) (old new : List (Option ℕ)) (cell : Option ℕ) → ((c : ℕ) → cell ≡ Some c → c < length old) → Taken P by old new → Taken (λ c. P c ⊎ (cell ≡ Some c)) by old (given_to cell by new)
taken_more P by old new None within t =
    (t.0, λ c l. elim (t.1 c l) [ inl x ↦ inl (inl x.0, x.1) | inr x ↦ inr ((λ q. elim q [ inl p ↦ x.0 p | inr e ↦ none-some c e ]), x.1) ])
taken_more P by old new (Some d) within t = (
  length-set new d (Some by) ∙ t.0,
  λ c l. elim (cases_eq d c) [
    | inl e ↦ inl (inr (ap Some e), subst (λ (x : ℕ). slice_get (set new d (Some by)) x ≡ Some (Some by)) e (get_set_same new d (Some by) (let w = within d refl in let s = t.0 in omega arith)))
    | inr ne ↦ elim (t.1 c l) [
      | inl x ↦ inl (inl x.0, get_set_other new d c (Some by) ne ∙ x.1)
      | inr x ↦ inr ((λ q. elim q [ inl p ↦ x.0 p | inr e ↦ ne (same_Some d c e) ]), get_set_other new d c (Some by) ne ∙ x.1)
    ]
  ],
)

-- ---- the least one
least_same : (P Q : ℕ → Type 0) (holders : List (Option ℕ)) (best : Option (ℕ × ℕ)) → ((c : ℕ) → P c ↔ Q c) → LeastTaken P holders best → LeastTaken Q holders best
least_same P Q holders None same t = λ c q x e. t c q ((same c).1 x) e
least_same P Q holders (Some (cell, by)) same t = ((same cell).0 t.0, t.1, λ c q l x e. t.2 c q l ((same c).1 x) e)

lesser_takes : (P : ℕ → Type 0) (holders : List (Option ℕ)) (best : Option (ℕ × ℕ)) (d : ℕ) (o : Option ℕ) → slice_get holders d ≡ Some o → LeastTaken P holders best → LeastTaken (λ c. P c ⊎ (Some d ≡ Some c)) holders (lesser best d o)
lesser_takes P holders None d None here t =
    λ c q x e. elim x [ inl p ↦ t c q p e | inr s ↦ none-some q (same_Some None (Some q) (sym here ∙ ap (slice_get holders) (same_Some d c s) ∙ e)) ]
lesser_takes P holders (Some (cell, by)) d None here t =
    (inl t.0, t.1, λ c q l x e. elim x [ inl p ↦ t.2 c q l p e | inr s ↦ none-some q (same_Some None (Some q) (sym here ∙ ap (slice_get holders) (same_Some d c s) ∙ e)) ])
lesser_takes P holders None d (Some h) here t =
    (inr refl, here, λ c q l x e. elim x [ inl p ↦ t c q p e | inr s ↦ (let k = same_Some d c s in absurd (omega arith)) ])
lesser_takes P holders (Some (cell, by)) d (Some h) here t = go (nat_lt d cell) refl
  where
    go : (b : Bool) → nat_lt d cell ≡ b → LeastTaken (λ c. P c ⊎ (Some d ≡ Some c)) holders (if b then Some (d, h) else Some (cell, by))
    go true s = (inr refl, here, λ c q l x e. elim x [ inl p ↦ t.2 c q (let m = ltb-true d cell s in omega arith) p e | inr k ↦ (let m = same_Some d c k in absurd (omega arith)) ])
    go false s = (inl t.0, t.1, λ c q l x e. elim x [ inl p ↦ t.2 c q l p e | inr k ↦ (let m = same_Some d c k in let n = ltb-false d cell s in absurd (omega arith)) ])

least_more : (P : ℕ → Type 0) (holders : List (Option ℕ)) (best : Option (ℕ × ℕ)) (cell : Option ℕ) → ((c : ℕ) → cell ≡ Some c → c < length holders) → LeastTaken P holders best → LeastTaken (λ c. P c ⊎ (cell ≡ Some c)) holders (better_of best cell holders)
least_more P holders best None within t = least_same P (λ c. P c ⊎ (None ≡ Some c)) holders best (λ c. (inl, λ x. elim x [ inl p ↦ p | inr e ↦ absurd (none-some c e) ])) t
least_more P holders best (Some d) within t = lesser_takes P holders best d (unwrap_or (slice_get holders d) None) (there (slice_get holders d) refl) t
  where
    there : (o : Option (Option ℕ)) → slice_get holders d ≡ o → slice_get holders d ≡ Some (unwrap_or (slice_get holders d) None)
    there None e = absurd (none-some (get_or holders d None) (sym e ∙ slice_get-get_or holders d None (within d refl)))
    there (Some x) e = e ∙ ap (λ y. Some (unwrap_or y None)) (sym e)

-- ---- the loops
module _ (g : Grid) (axis : Signed) (through : Option ℕ) (cells : List ℕ) where
  joins : (n : ℕ) (cell : Option ℕ) → ((c : ℕ) → (cell ≡ Some c) ↔ IsCellAt g axis through cells n c) → (c : ℕ) → (IsCellBelow g axis through cells n c ⊎ (cell ≡ Some c)) ↔ IsCellBelow g axis through cells (n + 1) c
  joins n cell here c = (
    λ x. (below_more g axis through cells n c).1 (elim x [ inl b ↦ inl b | inr e ↦ inr ((here c).0 e) ]),
    λ x. elim ((below_more g axis through cells n c).0 x) [ inl b ↦ inl b | inr a ↦ inr ((here c).1 a) ],
  )

  take_next : (by n : ℕ) (old new : List (Option ℕ)) (cell : Option ℕ) → ((c : ℕ) → cell ≡ Some c → c < length old) → ((c : ℕ) → (cell ≡ Some c) ↔ IsCellAt g axis through cells n c) → Taken (IsCellBelow g axis through cells n) by old new → Taken (IsCellBelow g axis through cells (n + 1)) by old (given_to cell by new)
  take_next by n old new cell within here t =
      taken_same (λ c. IsCellBelow g axis through cells n c ⊎ (cell ≡ Some c)) (IsCellBelow g axis through cells (n + 1)) by old (given_to cell by new) (joins n cell here)
      (taken_more (IsCellBelow g axis through cells n) by old new cell within t)

  pub take_end : (by : ℕ) (old new : List (Option ℕ)) → Taken (IsCellBelow g axis through cells (length cells + length axis.letters + 1)) by old new → Taken (ClaimCell g axis through cells) by old new
  take_end by old new t = taken_same (IsCellBelow g axis through cells (length cells + length axis.letters + 1)) (ClaimCell g axis through cells) by old new (all_cells g axis through cells) t

  least_next : (n : ℕ) (holders : List (Option ℕ)) (best : Option (ℕ × ℕ)) (cell : Option ℕ) → ((c : ℕ) → cell ≡ Some c → c < length holders) → ((c : ℕ) → (cell ≡ Some c) ↔ IsCellAt g axis through cells n c) → LeastTaken (IsCellBelow g axis through cells n) holders best → LeastTaken (IsCellBelow g axis through cells (n + 1)) holders (better_of best cell holders)
  least_next n holders best cell within here t =
      least_same (λ c. IsCellBelow g axis through cells n c ⊎ (cell ≡ Some c)) (IsCellBelow g axis through cells (n + 1)) holders (better_of best cell holders) (joins n cell here)
      (least_more (IsCellBelow g axis through cells n) holders best cell within t)

  pub least_end : (holders : List (Option ℕ)) (best : Option (ℕ × ℕ)) → LeastTaken (IsCellBelow g axis through cells (length cells + length axis.letters + 1)) holders best → LeastTaken (ClaimCell g axis through cells) holders best
  least_end holders best t = least_same (IsCellBelow g axis through cells (length cells + length axis.letters + 1)) (ClaimCell g axis through cells) holders best (all_cells g axis through cells) t

  -- a region's cell, a patch, and the port
  pub take_region_next : (by n d : ℕ) (old new after : List (Option ℕ)) → after ≡ set new d (Some by) → slice_get cells n ≡ Some d → All (λ c. c < length old) cells → Taken (IsCellBelow g axis through cells n) by old new → Taken (IsCellBelow g axis through cells (n + 1)) by old after
  take_region_next by n d old new after e here all t =
      subst (λ (h : List (Option ℕ)). Taken (IsCellBelow g axis through cells (n + 1)) by old h) (sym e)
      (take_next by n old new (Some d) (λ c s. subst (λ (x : ℕ). x < length old) (same_Some d c s) (within_all (length old) cells n d all here)) (cell_is_region g axis through cells n d here) t)

  pub take_patch_next : (by qubit : ℕ) (old new after : List (Option ℕ)) (cell : Option ℕ) → after ≡ given_to cell by new → length old ≡ length g.sites → qubit < length axis.letters → ((c : ℕ) → (cell ≡ Some c) ↔ ((l : Letter) × (slice_get axis.letters qubit ≡ Some l) × (l ≢ I) × IsPatch g qubit c)) → Taken (IsCellBelow g axis through cells (length cells + qubit)) by old new → Taken (IsCellBelow g axis through cells (length cells + (qubit + 1))) by old after
  take_patch_next by qubit old new after cell e size few here t =
      subst (λ (h : List (Option ℕ)). Taken (IsCellBelow g axis through cells (length cells + (qubit + 1))) by old h) (sym e)
      (subst (λ (n : ℕ). Taken (IsCellBelow g axis through cells n) by old (given_to cell by new)) (let n : (length cells + qubit) + 1 ≡ length cells + (qubit + 1) = omega arith in n)
      (take_next by (length cells + qubit) old new cell (λ c s. let w = patch_within g axis qubit cell here c s in omega arith) (cell_is_patch g axis through cells qubit cell few here) t))

  pub take_port : (by : ℕ) (old new after : List (Option ℕ)) (cell : Option ℕ) → after ≡ given_to cell by new → length old ≡ length g.sites → ((c : ℕ) → (cell ≡ Some c) ↔ ((f : ℕ) × (through ≡ Some f) × IsPort g f c)) → Taken (IsCellBelow g axis through cells (length cells + length axis.letters)) by old new → Taken (ClaimCell g axis through cells) by old after
  take_port by old new after cell e size here t =
      subst (λ (h : List (Option ℕ)). Taken (ClaimCell g axis through cells) by old h) (sym e)
      (take_end by old (given_to cell by new)
      (take_next by (length cells + length axis.letters) old new cell (λ c s. let w = port_within g through cell here c s in omega arith) (cell_is_port g axis through cells cell here) t))

  pub least_region_next : (n d : ℕ) (holders : List (Option ℕ)) (best after : Option (ℕ × ℕ)) → after ≡ better_of best (Some d) holders → slice_get cells n ≡ Some d → All (λ c. c < length holders) cells → LeastTaken (IsCellBelow g axis through cells n) holders best → LeastTaken (IsCellBelow g axis through cells (n + 1)) holders after
  least_region_next n d holders best after e here all t =
      subst (λ (o : Option (ℕ × ℕ)). LeastTaken (IsCellBelow g axis through cells (n + 1)) holders o) (sym e)
      (least_next n holders best (Some d) (λ c s. subst (λ (x : ℕ). x < length holders) (same_Some d c s) (within_all (length holders) cells n d all here)) (cell_is_region g axis through cells n d here) t)

  pub least_patch_next : (qubit : ℕ) (holders : List (Option ℕ)) (best after : Option (ℕ × ℕ)) (cell : Option ℕ) → after ≡ better_of best cell holders → length holders ≡ length g.sites → qubit < length axis.letters → ((c : ℕ) → (cell ≡ Some c) ↔ ((l : Letter) × (slice_get axis.letters qubit ≡ Some l) × (l ≢ I) × IsPatch g qubit c)) → LeastTaken (IsCellBelow g axis through cells (length cells + qubit)) holders best → LeastTaken (IsCellBelow g axis through cells (length cells + (qubit + 1))) holders after
  least_patch_next qubit holders best after cell e size few here t =
      subst (λ (o : Option (ℕ × ℕ)). LeastTaken (IsCellBelow g axis through cells (length cells + (qubit + 1))) holders o) (sym e)
      (subst (λ (n : ℕ). LeastTaken (IsCellBelow g axis through cells n) holders (better_of best cell holders)) (let n : (length cells + qubit) + 1 ≡ length cells + (qubit + 1) = omega arith in n)
      (least_next (length cells + qubit) holders best cell (λ c s. let w = patch_within g axis qubit cell here c s in omega arith) (cell_is_patch g axis through cells qubit cell few here) t))

  pub least_port : (holders : List (Option ℕ)) (best after : Option (ℕ × ℕ)) (cell : Option ℕ) → after ≡ better_of best cell holders → length holders ≡ length g.sites → ((c : ℕ) → (cell ≡ Some c) ↔ ((f : ℕ) × (through ≡ Some f) × IsPort g f c)) → LeastTaken (IsCellBelow g axis through cells (length cells + length axis.letters)) holders best → LeastTaken (ClaimCell g axis through cells) holders after
  least_port holders best after cell e size here t =
      subst (λ (o : Option (ℕ × ℕ)). LeastTaken (ClaimCell g axis through cells) holders o) (sym e)
      (least_end holders (better_of best cell holders)
      (least_next (length cells + length axis.letters) holders best cell (λ c s. let w = port_within g through cell here c s in omega arith) (cell_is_port g axis through cells cell here) t))
