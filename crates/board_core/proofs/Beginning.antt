-- The tables of an empty history.
use Rattle.std.proofs.Common.{◌≡◌, ℕ, zero, suc, ◌<◌, ◌≤◌, ◌+◌, Bool, false, List, [], ◌∷◌, All, take, option_map, length, Option, Some, None, slice_get, refl, ap, sym, ◌∙◌, arith, rules, nat_cmp, subst, get_or, inl, inr}
use Rattle.std.proofs.Math.ListN.{replicate}
use Rattle.std.proofs.lemmas.List.{length-replicate, length-map}
use Rattle.std.proofs.lemmas.Option.{same_Some, none-some, slice_get_within, slice_get-map, get_or_from_slice_get}
use Rattle.std.specs.Ordering.{ord_max}
use Rattle.std.proofs.lemmas.Bool.{cases_lt}
use Rattle.pauli_product.specs.Signed.{Signed, OfLength}
use Rattle.source_model.specs.declared.Kind.{Kind}
use Rattle.source_model.specs.declared.Kind.TheVariants as kind
use Rattle.source_model.specs.declared.Static.{Static}
use Rattle.frame_table.specs.Images.{Images, After}
use Rattle.patch_layout.specs.Grid.{Grid, Sound}
use Rattle.magic_pool.specs.Pooled.{Pooled, Recounts}
use Rattle.board_core.specs.declared.bits.Written.{Written}
use Rattle.board_core.specs.declared.board.Standing.{Standing}
use Rattle.board_core.specs.Limits.{WithinLimits}
use Rattle.board_core.specs.Suits.{IsOpenFor, HaveLetters}
use Rattle.board_core.specs.Laws.{ProductsOfLength}
use Rattle.board_core.specs.inside.Bits.{BitIs}
use Rattle.board_core.specs.Books.{HasMakersOf}
use Rattle.board_core.specs.inside.Books.{NamesBelow, BitsReach}
use Rattle.board_core.specs.Uses.{IsOrderOf, all_axes}
use Rattle.board_core.specs.Position.{job_with}
use Rattle.board_core.specs.inside.Kept.{Kept}
use Rattle.board_core.proofs.Going.{legal_empty}
use Rattle.board_core.proofs.Tables.{entry_of}

-- a bit below m is below any greater number
pub names_more : (k : Kind) (m n : ℕ) → NamesBelow m k → m ≤ n → NamesBelow n k
names_more kind.Rotation m n b l = tt
names_more (kind.Measure bit) m n b l = omega arith
names_more (kind.Settle first size value) m n b l = omega arith

greater : (a b m : ℕ) → m ≡ ord_max nat_cmp a b → (a ≤ m) × (b ≤ m)
greater a b m e = (search (rules, e), search (rules, e))

pub names_next : (products : List Static) (i count here more : ℕ) (item : Static) → i < length products → item ≡ get_or products i item → ((p : ℕ) (s : Static) → p < i → slice_get products p ≡ Some s → NamesBelow count s.kind) → NamesBelow here item.kind → more ≡ ord_max nat_cmp count here → (p : ℕ) (s : Static) → p < i + 1 → slice_get products p ≡ Some s → NamesBelow more s.kind
names_next products i count here more item within is before at most p s l e =
    let m = greater count here more most in
    elim (cases_lt p i) [
      | inl k ↦ names_more s.kind count more (before p s k e) m.0
      | inr k ↦
          let same : p ≡ i = omega arith in
          let read : item ≡ s = is ∙ get_or_from_slice_get products i s item (sym (ap (slice_get products) same) ∙ e) in
          names_more s.kind here more (subst (λ (x : Static). NamesBelow here x.kind) read at) m.1
    ]

replicated : {A : Type 0} (n : ℕ) (x y : A) (k : ℕ) → slice_get (replicate n x) k ≡ Some y → x ≡ y
replicated zero x y k e = absurd (none-some y e)
replicated (suc n) x y zero e = same_Some x y e
replicated (suc n) x y (suc k) e = replicated n x y k e

get_replicated : {A : Type 0} (n : ℕ) (x : A) (k : ℕ) → k < n → slice_get (replicate n x) k ≡ Some x
get_replicated zero x k l = absurd (omega arith)
get_replicated (suc n) x zero l = refl
get_replicated (suc n) x (suc k) l = get_replicated n x k (omega arith)

abbrev no_places : Standing
no_places = record { claim = None; deliver = None; release = None }

abbrev unwritten : Written
unwritten = record { by = None; value = false }

pub kept_new : (products : List Static) (grid : Grid) (order : List (List Bool)) (frame : Images) (done : List Bool) (standings : List Standing) (holders : List (Option ℕ)) (bits : List Written) (pool : Pooled) (scratch : Signed) (qubits n : ℕ) → WithinLimits (job_with products grid pool) → Sound grid → IsOpenFor grid products → HaveLetters products → qubits ≤ 1024 → ProductsOfLength qubits products → IsOrderOf products order → After qubits [] frame → done ≡ replicate (length products) false → standings ≡ replicate (length products) no_places → holders ≡ replicate (length grid.sites) None → bits ≡ replicate n unwritten → BitsReach products n → Recounts pool [] [] → HasMakersOf grid pool.makers → OfLength qubits scratch → Kept (job_with products grid pool) [] (record { order = order; frame = frame; done = done; standings = standings; holders = holders; bits = bits; pool = pool; scratch = scratch })
kept_new products grid order frame done standings holders bits pool scratch qubits n limits sound is_open letters few long is_order after none_done no_standings free none_written reach recounts makers fits = record {
  limits = record { qubits = qubits; few_qubits = few; axes_fit = long; few_products = limits.few_products; few_fails = limits.few_fails };
  sound = sound;
  open_for = is_open;
  letters = letters;
  legal = legal_empty (job_with products grid pool);
  order = is_order;
  frame = after;
  done = (ap length none_done ∙ length-replicate (length products) false, λ p l. ap (λ (x : List Bool). slice_get x p) none_done ∙ get_replicated (length products) false p l);
  standings = (ap length no_standings ∙ length-replicate (length products) no_places, λ p l. ap (λ (x : List Standing). slice_get x p) no_standings ∙ get_replicated (length products) no_places p l);
  holders = (
    ap length free ∙ length-replicate (length grid.sites) None,
    λ c q l. (
      λ e. absurd (none-some q (replicated (length grid.sites) None (Some q) c (sym (ap (λ (x : List (Option ℕ)). slice_get x c) free) ∙ e))),
      λ x. absurd (none-some _ x.5),
    ),
  );
  bits = λ b w e. subst (λ (x : Written). BitIs (job_with products grid pool) [] b x) (replicated n unwritten w b (sym (ap (λ (x : List Written). slice_get x b) none_written) ∙ e)) ((λ q x. refl), refl);
  reach = subst (λ (m : ℕ). BitsReach products m) (sym (ap length none_written ∙ length-replicate n unwritten)) reach;
  fails = refl;
  pool = recounts;
  makers = makers;
  scratch = fits;
}

-- ---- the order of waiting
whole : {A : Type 0} (xs : List A) (i : ℕ) → length xs ≤ i → take i xs ≡ xs
whole [] zero l = refl
whole [] (suc i) l = refl
whole (x ∷ xs) zero l = absurd (omega arith)
whole (x ∷ xs) (suc i) l = ap (λ ys. x ∷ ys) (whole xs i (omega arith))

-- the products' axes have their length
pub all_long : (n : ℕ) (products : List Static) (axes : List Signed) (i : ℕ) → axes ≡ all_axes (take i products) → length products ≤ i → ProductsOfLength n products → All (OfLength n) axes
all_long n products axes i are last long =
    subst (All (OfLength n)) (sym (are ∙ ap all_axes (whole products i last)))
    (λ k d l.
    let s = entry_of products k (subst (λ (m : ℕ). k < m) (length-map products (λ (x : Static). x.axis)) l) in
    let here : slice_get (all_axes products) k ≡ Some s.0.axis = slice_get-map (λ (x : Static). x.axis) products k ∙ ap (option_map (λ (x : Static). x.axis)) s.1 in
    subst (OfLength n) (sym (get_or_from_slice_get (all_axes products) k s.0.axis d here))
    (subst (λ (x : Static). OfLength n x.axis) (get_or_from_slice_get products k s.0 s.0 s.1) (long k s.0 (slice_get_within products k s.0 s.1))))
