-- The makers of a layout's factories, gathered by number.
use Rattle.std.proofs.Common.{◌≡◌, ℕ, zero, suc, ◌+◌, ◌<◌, ◌≤◌, Bool, true, false, ◌==◌, if◌then◌else◌, List, [], ◌∷◌, ◌++◌, ◌↔◌, ◌⊎◌, inl, inr, All, length, Option, None, Some, slice_get, refl, ap, sym, ◌∙◌, arith, subst, ne_eqb, eq-eqb}
use Rattle.std.proofs.lemmas.Bool.{cases_lt}
use Rattle.std.proofs.lemmas.Option.{same_Some, none-some, slice_get_within, slice_get-get_or}
use Rattle.patch_layout.specs.Grid.{Grid, HasStore}
use Rattle.magic_pool.specs.declared.Maker.{Maker}
use Rattle.magic_pool.specs.Makers.{AreDistinct, IsMaker}
use Rattle.magic_pool.specs.Pooled.{store_of}
use Rattle.board_core.specs.Books.{HasMakersOf}
use Rattle.board_core.specs.Limits.{AreFactories}

-- each maker is of a factory below n
abbrev pub Below : ℕ → List Maker → Type 0
Below n makers = (i : ℕ) (m : Maker) → slice_get makers i ≡ Some m → (m.factory < n) × IsMaker m

-- they are the makers of the factories below n
pub record Gathered (g : Grid) (n : ℕ) (makers : List Maker) : Type 0 where
  pub below : Below n makers
  pub distinct : AreDistinct makers
  pub fits : (f store : ℕ) → f < n → HasStore g f store ↔ ((store_of makers f ≡ store) × (0 < store))

-- what the layout answers for the factory n
abbrev pub Answered : Grid → ℕ → Option ℕ → Type 0
Answered g n found = (s : ℕ) → (found ≡ Some s) ↔ HasStore g n s

-- ---- one maker more
snoc_at : {A : Type 0} (xs : List A) (m x : A) (i : ℕ) → slice_get (xs ++ m ∷ []) i ≡ Some x → (slice_get xs i ≡ Some x) ⊎ ((i ≡ length xs) × (m ≡ x))
snoc_at [] m x zero e = inr (refl, same_Some m x e)
snoc_at [] m x (suc i) e = absurd (none-some x e)
snoc_at (y ∷ ys) m x zero e = inl e
snoc_at (y ∷ ys) m x (suc i) e = elim (snoc_at ys m x i e) [
  | inl k ↦ inl k
  | inr k ↦ inr (ap suc k.0, k.1)
]

store_none : (xs : List Maker) (n f : ℕ) → Below n xs → n ≤ f → store_of xs f ≡ 0
store_none [] n f below l = refl
store_none (x ∷ xs) n f below l =
    let lower : x.factory < n = (below 0 x refl).0 in
    rw (ne_eqb x.factory f (omega arith)) (store_none xs n f (λ i m e. below (suc i) m e) l)

store_keep : (xs : List Maker) (m : Maker) (f : ℕ) → (m.factory ≡ f → ⊥) → store_of (xs ++ m ∷ []) f ≡ store_of xs f
store_keep [] m f other = rw (ne_eqb m.factory f other) refl
store_keep (x ∷ xs) m f other = go (x.factory == f) (store_keep xs m f other)
  where
    go : (b : Bool) → store_of (xs ++ m ∷ []) f ≡ store_of xs f → (if b then x.store else store_of (xs ++ m ∷ []) f) ≡ (if b then x.store else store_of xs f)
    go true same = refl
    go false same = same

store_new : (xs : List Maker) (m : Maker) (n : ℕ) → Below n xs → m.factory ≡ n → store_of (xs ++ m ∷ []) n ≡ m.store
store_new [] m n below same = rw (eq-eqb m.factory n same) refl
store_new (x ∷ xs) m n below same =
    let lower : x.factory < n = (below 0 x refl).0 in
    rw (ne_eqb x.factory n (omega arith)) (store_new xs m n (λ i y e. below (suc i) y e) same)

-- ---- the steps of the loop
pub gathered_none : (g : Grid) (makers : List Maker) → makers ≡ [] → Gathered g 0 makers
gathered_none g makers none = subst (Gathered g 0) (sym none) (record {
  below = λ i m e. absurd (none-some m e);
  distinct = λ i j m n l a b same. none-some m a;
  fits = λ f store l. absurd (omega arith);
})

pub gathered_same : (g : Grid) (n : ℕ) (makers : List Maker) → Answered g n None → Gathered g n makers → Gathered g (n + 1) makers
gathered_same g n makers none k = record {
  below = λ i m e. (let b = (k.below i m e).0 in omega arith, (k.below i m e).1);
  distinct = k.distinct;
  fits = fits;
}
  where
    none_at : (f store : ℕ) → f ≡ n → HasStore g f store ↔ ((store_of makers f ≡ store) × (0 < store))
    none_at f store e = (
      λ h. absurd (none-some store ((none store).1 (subst (λ (x : ℕ). HasStore g x store) e h))),
      λ x. absurd (let z = store_none makers n f k.below (omega arith) in let a = x.0 in let b = x.1 in omega arith),
    )

    fits : (f store : ℕ) → f < n + 1 → HasStore g f store ↔ ((store_of makers f ≡ store) × (0 < store))
    fits f store l = elim (cases_lt f n) [
      | inl before ↦ k.fits f store before
      | inr past ↦ none_at f store (omega arith)
    ]

pub gathered_more : (g : Grid) (n s : ℕ) (makers : List Maker) → n < 16 → AreFactories g → Answered g n (Some s) → Gathered g n makers → Gathered g (n + 1) (makers ++ record { factory = n; store = s } ∷ [])
gathered_more g n s makers few factories some k = record { below = below; distinct = distinct; fits = fits }
  where
    m : Maker
    m = record { factory = n; store = s }

    here : HasStore g n s
    here = (some s).0 refl

    is_maker : IsMaker m
    is_maker = let r = factories n s here in let a = r.1 in let b = r.2 in (few, omega arith, b)

    below : Below (n + 1) (makers ++ m ∷ [])
    below i x e = elim (snoc_at makers m x i e) [
      | inl old ↦ (let b = (k.below i x old).0 in omega arith, (k.below i x old).1)
      | inr new ↦ subst (λ (y : Maker). (y.factory < n + 1) × IsMaker y) new.1 (omega arith, is_maker)
    ]

    distinct : AreDistinct (makers ++ m ∷ [])
    distinct i j x y l a b same = elim (snoc_at makers m y j b) [
      | inl old ↦ elim (snoc_at makers m x i a) [
        | inl older ↦ k.distinct i j x y l older old same
        | inr new ↦ let within = slice_get_within makers j y old in let at = new.0 in absurd (omega arith)
      ]
      | inr new ↦ elim (snoc_at makers m x i a) [
        | inl older ↦
            let low = (k.below i x older).0 in
            let is : n ≡ y.factory = ap (λ (z : Maker). z.factory) new.1 in
            absurd (omega arith)
        | inr newer ↦ let p = new.0 in let q = newer.0 in absurd (omega arith)
      ]
    ]

    new_at : (f store : ℕ) → f ≡ n → HasStore g f store ↔ ((store_of (makers ++ m ∷ []) f ≡ store) × (0 < store))
    new_at f store e =
        let stored : store_of (makers ++ m ∷ []) f ≡ s = ap (store_of (makers ++ m ∷ [])) e ∙ store_new makers m n k.below refl in (
          λ h.
              let own : s ≡ store = same_Some s store ((some store).1 (subst (λ (x : ℕ). HasStore g x store) e h)) in
              let some_store = (factories f store h).1 in
              (stored ∙ own, some_store),
          λ x. subst (λ (y : ℕ). HasStore g f y) (sym stored ∙ x.0) (subst (λ (y : ℕ). HasStore g y s) (sym e) here),
        )

    fits : (f store : ℕ) → f < n + 1 → HasStore g f store ↔ ((store_of (makers ++ m ∷ []) f ≡ store) × (0 < store))
    fits f store l = elim (cases_lt f n) [
      | inl before ↦ subst (λ (y : ℕ). HasStore g f store ↔ ((y ≡ store) × (0 < store))) (sym (store_keep makers m f (λ e. let z : n ≡ f = e in omega arith))) (k.fits f store before)
      | inr past ↦ new_at f store (omega arith)
    ]

-- ---- all of them
pub gathered_all : (g : Grid) (n : ℕ) (makers : List Maker) → 16 ≤ n → AreFactories g → Gathered g n makers → HasMakersOf g makers
gathered_all g n makers all factories k f store = elim (cases_lt f n) [
  | inl before ↦ k.fits f store before
  | inr past ↦ (
    λ h. absurd (let r = (factories f store h).0 in omega arith),
    λ x. absurd (let z = store_none makers n f k.below past in let a = x.0 in let b = x.1 in omega arith),
  )
]

pub each_maker : (g : Grid) (n : ℕ) (makers : List Maker) → Gathered g n makers → All IsMaker makers
each_maker g n makers k i d l = (k.below i _ (slice_get-get_or makers i d l)).1
