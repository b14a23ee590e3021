-- Products on n qubits.
use Rattle.std.proofs.Common.{◌≡◌, ℕ, zero, suc, List, [], ◌∷◌, slice_get, Some, refl, sym, subst}
use Rattle.std.proofs.lemmas.Option.{same_Some, none-some}
use Rattle.std.proofs.lemmas.List.Elements.{All-nil, All-cons, All-head, All-tail}
use Rattle.pauli_product.specs.Signed.{Signed, OfLength}
use Rattle.source_model.specs.declared.Kind.{Kind}
use Rattle.source_model.specs.declared.Kind.TheVariants as kind
use Rattle.source_model.specs.declared.Static.{Static}
use Rattle.source_model.specs.declared.Item.{Item}
use Rattle.source_model.specs.SourceRun.{axis_of}
use Rattle.source_model.specs.Circuits.{AxesOfLength}
use Rattle.source_model.specs.Statics.{item_of, static_items}
use Rattle.board_core.specs.Laws.{ProductsOfLength}

first_long : (n : ℕ) (s : Static) (ss : List Static) → ProductsOfLength n (s ∷ ss) → OfLength n s.axis
first_long n s ss h = All-head (λ (s : Static). OfLength n s.axis) s ss h

rest_long : (n : ℕ) (s : Static) (ss : List Static) → ProductsOfLength n (s ∷ ss) → ProductsOfLength n ss
rest_long n s ss h = All-tail (λ (s : Static). OfLength n s.axis) s ss h

pub product_long : (n : ℕ) (ss : List Static) (k : ℕ) (s : Static) → ProductsOfLength n ss → slice_get ss k ≡ Some s → OfLength n s.axis
product_long n [] k s h e = absurd (none-some s e)
product_long n (x ∷ ss) zero s h e = subst (λ (y : Static). OfLength n y.axis) (same_Some x s e) (first_long n x ss h)
product_long n (x ∷ ss) (suc k) s h e = product_long n ss k s (rest_long n x ss h) e

item_axis : (s : Static) → axis_of (item_of s) ≡ s.axis
item_axis s = go s.axis s.kind
  where
    go : (axis : Signed) (k : Kind) → axis_of (item_of (record { axis = axis; kind = k })) ≡ axis
    go axis kind.Rotation = refl
    go axis (kind.Measure bit) = refl
    go axis (kind.Settle first size value) = refl

pub items_long : (n : ℕ) (ss : List Static) → ProductsOfLength n ss → AxesOfLength n (static_items ss)
items_long n [] h = All-nil (λ (i : Item). OfLength n (axis_of i))
items_long n (s ∷ ss) h =
    All-cons (λ (i : Item). OfLength n (axis_of i)) (item_of s) (static_items ss)
    (subst (λ (a : Signed). OfLength n a) (sym (item_axis s)) (first_long n s ss h)) (items_long n ss (rest_long n s ss h))
