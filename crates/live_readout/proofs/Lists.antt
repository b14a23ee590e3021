-- Lists of arrivals and of factories.
use Rattle.std.proofs.Common.{inl, inr, ◌≡◌, ℕ, zero, suc, ◌+◌, ◌<◌, ◌≤◌, Bool, true, false, cond, List, [], ◌∷◌, ◌++◌, take, length, get_or, slice_get, Some, sym, refl, ap, ◌∙◌, arith, append_assoc, append-nil, eq-eqb, eqb-true}
use Rattle.std.proofs.lemmas.Bool.{true≢false, false_from_ne_true, or_cases, or_left, or_right}
use Rattle.std.proofs.lemmas.List.{take_more, length-take-le, map-id}
use Rattle.std.proofs.lemmas.Option.{none-some, same_Some}
use Rattle.std.proofs.lemmas.List.Elements.{filter-append}
use Rattle.std.proofs.lemmas.List.FromFn.{map-range_with_len_more}
use Rattle.std.specs.List.{filter, list_any, range_with_len}
use Rattle.source_model.specs.declared.Given.{Given}
use Rattle.source_model.specs.declared.Given.TheVariants as given
use Rattle.patch_layout.specs.declared.layout.Site.{Site}
use Rattle.patch_layout.specs.declared.layout.Site.TheVariants as site
use Rattle.patch_layout.specs.Grid.{Grid, HasStore}
use Rattle.live_readout.specs.Listed.{arrivals_at, listed, listed_from}
use Rattle.live_readout.specs.Routes.{has_factory, is_port_of}

-- ---- one outcome more
listed-append : (p : ℕ) (xs ys : List Given) → listed_from p (xs ++ ys) ≡ listed_from p xs ++ listed_from (p + length xs) ys
listed-append p [] ys = ap (λ n. listed_from n ys) (let e : p ≡ p + 0 = omega arith in e)
listed-append p (x ∷ xs) ys =
    let e : (p + 1) + length xs ≡ p + suc (length xs) = omega arith in
    ap (λ l. arrivals_at p x ++ l) (listed-append (p + 1) xs ys ∙ ap (λ n. listed_from (p + 1) xs ++ listed_from n ys) e)
    ∙ sym (append_assoc (arrivals_at p x) (listed_from (p + 1) xs) (listed_from (p + suc (length xs)) ys))

module _ (given : List Given) (i : ℕ) (d : Given) (within : i < length given) where
  pub listed_more : listed (take (i + 1) given) ≡ listed (take i given) ++ arrivals_at i (get_or given i d)
  listed_more =
      let n : 0 + length (take i given) ≡ i = let long = length-take-le i given (omega arith) in omega arith in
      ap listed (take_more given i d within) ∙ listed-append 0 (take i given) (get_or given i d ∷ [])
      ∙ ap (λ k. listed (take i given) ++ (arrivals_at k (get_or given i d) ++ [])) n
      ∙ ap (λ l. listed (take i given) ++ l) (append-nil (arrivals_at i (get_or given i d)))

-- ---- factories
port_there : (f : ℕ) (s : Site) → is_port_of f s ≡ true → (level : Bool) × (store : ℕ) × (s ≡ site.Port f level store)
port_there f site.Ancilla t = absurd (true≢false (sym t))
port_there f site.Wall t = absurd (true≢false (sym t))
port_there f (site.Patch q level) t = absurd (true≢false (sym t))
port_there f (site.Port g level store) t = (level, store, ap (λ n. site.Port n level store) (eqb-true g f t))

any_there : (p : Site → Bool) (xs : List Site) → list_any p xs ≡ true → (c : ℕ) × (x : Site) × (slice_get xs c ≡ Some x) × (p x ≡ true)
any_there p [] t = absurd (true≢false (sym t))
any_there p (x ∷ xs) t = elim (or_cases (p x) (list_any p xs) t) [
  | inl h ↦ (0, x, refl, h)
  | inr h ↦ let r = any_there p xs h in (suc r.0, r.1, r.2, r.3)
]

any_at : (p : Site → Bool) (xs : List Site) (c : ℕ) (x : Site) → slice_get xs c ≡ Some x → p x ≡ true → list_any p xs ≡ true
any_at p [] c x at h = absurd (none-some x at)
any_at p (y ∷ xs) zero x at h = or_left (p y) (list_any p xs) (ap p (same_Some y x at) ∙ h)
any_at p (y ∷ xs) (suc c) x at h = or_right (p y) (list_any p xs) (any_at p xs c x at h)

-- a factory of the layout has a store
pub has_store : (g : Grid) (f : ℕ) → has_factory g f ≡ true → (store : ℕ) × HasStore g f store
has_store g f t =
    let r = any_there (is_port_of f) g.sites t in
    let port = port_there f r.1 r.3 in
    (port.1, (r.0, port.0, r.2 ∙ ap Some port.2))

pub stored : (g : Grid) (f store : ℕ) → HasStore g f store → has_factory g f ≡ true
stored g f store h = any_at (is_port_of f) g.sites h.0 (site.Port f h.1 store) h.2 (eq-eqb f f refl)

-- one factory more
counting_more : (n : ℕ) → range_with_len 0 (n + 1) ≡ range_with_len 0 n ++ n ∷ []
counting_more n =
    let e : 0 + n ≡ n = omega arith in
    sym (map-id (range_with_len 0 (n + 1))) ∙ map-range_with_len_more (λ (k : ℕ). k) 0 n n e ∙ ap (λ (l : List ℕ). l ++ n ∷ []) (map-id (range_with_len 0 n))

pub factories_more : (g : Grid) (f : ℕ) → filter (has_factory g) (range_with_len 0 (f + 1)) ≡ filter (has_factory g) (range_with_len 0 f) ++ filter (has_factory g) (f ∷ [])
factories_more g f = ap (filter (has_factory g)) (counting_more f) ∙ filter-append (has_factory g) (range_with_len 0 f) (f ∷ [])

pub factory_kept : (g : Grid) (f store : ℕ) (xs : List ℕ) → HasStore g f store → xs ++ f ∷ [] ≡ xs ++ filter (has_factory g) (f ∷ [])
factory_kept g f store xs h = ap (λ (b : Bool). xs ++ cond b (f ∷ []) []) (sym (stored g f store h))

pub factory_skipped : (g : Grid) (f : ℕ) (xs : List ℕ) → ((store : ℕ) → HasStore g f store → ⊥) → xs ≡ xs ++ filter (has_factory g) (f ∷ [])
factory_skipped g f xs none =
    let lacks : has_factory g f ≡ false = false_from_ne_true (has_factory g f) (λ t. let h = has_store g f t in none h.0 h.1) in
    sym (append-nil xs) ∙ ap (λ (b : Bool). xs ++ cond b (f ∷ []) []) (sym lacks)

-- there are at most as many arrivals as outcomes
pub listed_short : (p : ℕ) (gs : List Given) → length (listed_from p gs) ≤ length gs
listed_short p [] = omega arith
listed_short p (given.Rotation raw x ∷ gs) = let h = listed_short (p + 1) gs in omega arith
listed_short p (given.Measure raw ∷ gs) = let h = listed_short (p + 1) gs in omega arith
listed_short p (given.Settled ∷ gs) = let h = listed_short (p + 1) gs in omega arith
