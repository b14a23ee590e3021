-- The last outcome that is measured into a bit.
use Rattle.std.proofs.Common.{◌≡◌, ℕ, zero, suc, ◌+◌, ◌<◌, List, [], ◌∷◌, length, drop, get_or, refl, sym, ◌∙◌, ap, ap₂, arith, Bool, true, false, inl, inr, ◌≤◌, ◌++◌, take, get_or-set_other}
use Rattle.std.proofs.Math.ListN.{set}
use Rattle.std.proofs.lemmas.Grind.{get_or-set_at}
use Rattle.std.proofs.lemmas.Bool.{cases_eq}
use Rattle.std.proofs.lemmas.Bool.Decides.{nat_tests}
use Rattle.std.specs.Prelude.{Some, map, slice_get, if◌then◌else◌, ◌==◌}
use Rattle.std.specs.List.{range_with_len}
use Rattle.std.proofs.lemmas.Option.{slice_get-map, slice_get-get_or}
use Rattle.std.specs.Option.{option_map}
use Rattle.source_model.specs.declared.Static.{Static}
use Rattle.source_model.specs.Statics.{kinds_of}
use Rattle.pauli_product.specs.Signed.{Signed}
use Rattle.pauli_product.specs.Corrections.{effective}
use Rattle.source_model.specs.declared.Angle.TheVariants.{Eighth, Quarter, Half}
use Rattle.source_model.specs.declared.Item.{Item}
use Rattle.source_model.specs.declared.Item.TheVariants as item
use Rattle.source_model.specs.declared.Given.{Given}
use Rattle.source_model.specs.declared.Given.TheVariants.{Settled}
use Rattle.source_model.specs.declared.Kind.{Kind}
use Rattle.source_model.specs.declared.Kind.TheVariants as kind
use Rattle.source_model.specs.Bits.{bit_after_products, effective_outcomes, writes}
use Rattle.source_model.specs.Circuits.{kinds, OutcomesOf}
use Rattle.source_model.specs.Outcomes.{raw_of}
use Rattle.source_model.specs.SourceRun.{Progress, axes_from, after, next_of, rest_of}

-- the entries from place p on
from_place : {X : Type 0} (xs : List X) (p : ℕ) (x : X) → slice_get xs p ≡ Some x → drop p xs ≡ x ∷ drop (p + 1) xs
from_place [] p x e = absurd (cc)
from_place (y ∷ ys) zero x e = let same : y ≡ x = cc in ap (λ z. z ∷ ys) same
from_place (y ∷ ys) (suc p) x e = from_place ys p x e ∙ ap (λ n. x ∷ drop n (y ∷ ys)) (let next : suc (p + 1) ≡ suc p + 1 = omega arith in next)

-- one product more
pub behind_next : (ks : List Kind) (os : List Bool) (p : ℕ) (k : Kind) (o v w : Bool) (b : ℕ) → slice_get ks p ≡ Some k → slice_get os p ≡ Some o → w ≡ (if writes k b then o else v) → bit_after_products w b (drop (p + 1) ks) (drop (p + 1) os) ≡ bit_after_products v b (drop p ks) (drop p os)
behind_next ks os p k o v w b e f g =
    ap (λ x. bit_after_products x b (drop (p + 1) ks) (drop (p + 1) os)) g
    ∙ sym (ap₂ (λ x y. bit_after_products v b x y) (from_place ks p k e) (from_place os p o f))

-- two lists of outcomes have each product's, and the same of those that are measured into the bit
abbrev pub AgreeOn : ℕ → List Kind → List Bool → List Bool → Type 0
AgreeOn b ks os ns = (p : ℕ) (k : Kind) → slice_get ks p ≡ Some k → (o : Bool) × (n : Bool) × (slice_get os p ≡ Some o) × (slice_get ns p ≡ Some n) × (writes k b ≡ true → o ≡ n)

same_choice : (w : Bool) (o n v : Bool) → (w ≡ true → o ≡ n) → (if w then o else v) ≡ (if w then n else v)
same_choice true o n v h = h refl
same_choice false o n v h = refl

pub behind_agrees : (b : ℕ) (v : Bool) (ks : List Kind) (os ns : List Bool) → AgreeOn b ks os ns → bit_after_products v b ks os ≡ bit_after_products v b ks ns
behind_agrees b v [] os ns h = refl
behind_agrees b v (k ∷ ks) [] ns h = let (o, n, e, f, g) = h 0 k refl in absurd (cc)
behind_agrees b v (k ∷ ks) (o ∷ os) [] h = let (o', n, e, f, g) = h 0 k refl in absurd (cc)
behind_agrees b v (k ∷ ks) (o ∷ os) (n ∷ ns) h =
    let (o', n', e, f, g) = h 0 k refl in
    let same : writes k b ≡ true → o ≡ n = λ w. let eq = g w in cc in
    ap (λ x. bit_after_products x b ks os) (same_choice (writes k b) o n v same)
    ∙ behind_agrees b (if writes k b then n else v) ks os ns (λ p k' e'. h (suc p) k' e')

-- each product has an axis
pub axis_stands : (f : Progress) (items : List Item) (gs : List Given) (p : ℕ) (k : Kind) → slice_get (kinds items) p ≡ Some k → (a : Signed) × (slice_get (axes_from f items gs) p ≡ Some a)
axis_stands f [] gs p k e = absurd (cc)
axis_stands f (item.Turn axis Eighth ∷ is) gs zero k e = (_, refl)
axis_stands f (item.Turn axis Eighth ∷ is) gs (suc p) k e = axis_stands (after f (item.Turn axis Eighth) (next_of gs)) is (rest_of gs) p k e
axis_stands f (item.Turn axis Quarter ∷ is) gs p k e = axis_stands (after f (item.Turn axis Quarter) Settled) is gs p k e
axis_stands f (item.Turn axis Half ∷ is) gs p k e = axis_stands (after f (item.Turn axis Half) Settled) is gs p k e
axis_stands f (item.Measure axis bit ∷ is) gs zero k e = (_, refl)
axis_stands f (item.Measure axis bit ∷ is) gs (suc p) k e = axis_stands (after f (item.Measure axis bit) (next_of gs)) is (rest_of gs) p k e
axis_stands f (item.If axis first size value ∷ is) gs zero k e = (_, refl)
axis_stands f (item.If axis first size value ∷ is) gs (suc p) k e = axis_stands (after f (item.If axis first size value) (next_of gs)) is (rest_of gs) p k e

-- and an outcome
pub outcome_stands : (ks : List Kind) (gs : List Given) (p : ℕ) (k : Kind) → OutcomesOf ks gs → slice_get ks p ≡ Some k → (g : Given) × (slice_get gs p ≡ Some g)
outcome_stands [] gs p k of e = absurd (cc)
outcome_stands (k ∷ ks) [] p k' of e = absurd of
outcome_stands (k ∷ ks) (g ∷ gs) zero k' of e = (g, refl)
outcome_stands (k ∷ ks) (g ∷ gs) (suc p) k' of e = outcome_stands ks gs p k' of.1 e

-- the effective outcome of a product about its axis
pub effective_at : (axes : List Signed) (gs : List Given) (p : ℕ) (a : Signed) (g : Given) → slice_get axes p ≡ Some a → slice_get gs p ≡ Some g → slice_get (effective_outcomes axes gs) p ≡ Some (effective a (raw_of g))
effective_at [] gs p a g e f = absurd (cc)
effective_at (a ∷ axes) [] p a' g e f = absurd (cc)
effective_at (a ∷ axes) (g ∷ gs) zero a' g' e f =
    let one : a ≡ a' = cc in let two : g ≡ g' = cc in ap Some (ap₂ (λ x y. effective x (raw_of y)) one two)
effective_at (a ∷ axes) (g ∷ gs) (suc p) a' g' e f = effective_at axes gs p a' g' e f

-- a table of the values of a function
pub are_values : (f : ℕ → Bool) (a : ℕ) (bits : List Bool) → ((b : ℕ) → b < length bits → get_or bits b false ≡ f (a + b)) → bits ≡ map f (range_with_len a (length bits))
are_values f a [] h = refl
are_values f a (x ∷ xs) h =
    let start : a + 0 ≡ a = omega arith in
    ap₂ ◌∷◌ (h 0 (omega arith) ∙ ap f start) (are_values f (a + 1) xs (λ b low. let next : a + suc b ≡ a + 1 + b = omega arith in h (suc b) (omega (arith, low)) ∙ ap f next))

-- a bit of a table in which one was written
pub written_at : (bits : List Bool) (q b : ℕ) (o : Bool) → q < length bits → get_or (set bits q o) b false ≡ (if q == b then o else get_or bits b false)
written_at bits q b o within = elim (cases_eq b q) [
  | inl same ↦ (let yes : (q == b) ≡ true = grind (arith, nat_tests) in get_or-set_at bits q b o false same within ∙ sym (ap (λ x. if x then o else get_or bits b false) yes))
  | inr other ↦ (let no : (q == b) ≡ false = grind (arith, nat_tests) in get_or-set_other bits q b o false other ∙ sym (ap (λ x. if x then o else get_or bits b false) no))
]

-- a bit past the table isn't among these
pub past_table : (q b : ℕ) (o v : Bool) (n : ℕ) → b < n → n ≤ q → v ≡ (if q == b then o else v)
past_table q b o v n low past = let no : (q == b) ≡ false = grind (arith, nat_tests) in sym (ap (λ x. if x then o else v) no)

-- what is no measurement writes nothing
pub writes_nothing : (k : Kind) (b : ℕ) (o v : Bool) → ((q : ℕ) → k ≡ kind.Measure q → ⊥) → v ≡ (if writes k b then o else v)
writes_nothing kind.Rotation b o v none = refl
writes_nothing (kind.Measure q) b o v none = absurd (none q refl)
writes_nothing (kind.Settle first size value) b o v none = refl

pub kind_at : (products : List Static) (p : ℕ) (s : Static) → p < length products → s ≡ get_or products p s → slice_get (kinds_of products) p ≡ Some s.kind
kind_at products p s low e = slice_get-map (λ (t : Static). t.kind) products p ∙ ap (λ o. option_map (λ (t : Static). t.kind) o) (slice_get-get_or products p s low ∙ ap Some (sym e))

pub take_first : (xs ys : List Bool) → take (length xs) (xs ++ ys) ≡ xs
take_first [] ys = refl
take_first (x ∷ xs) ys = ap (λ zs. x ∷ zs) (take_first xs ys)
