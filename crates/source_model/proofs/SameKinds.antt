-- A circuit's static products have the kinds of its products, and stay in their own circuit.
use Rattle.std.proofs.Common.{◌≡◌, List, [], ◌∷◌, ◌++◌, refl, ap}
use Rattle.pauli_product.specs.Signed.{Signed}
use Rattle.pauli_product.specs.Pulls.{Turn, turn, quarter, half}
use Rattle.source_model.specs.declared.Angle.TheVariants.{Eighth, Quarter, Half}
use Rattle.source_model.specs.declared.Item.{Item}
use Rattle.source_model.specs.declared.Item.TheVariants as item
use Rattle.source_model.specs.declared.Kind.{Kind}
use Rattle.source_model.specs.declared.Kind.TheVariants as kind
use Rattle.source_model.specs.declared.Static.{Static}
use Rattle.source_model.specs.Circuits.{kinds}
use Rattle.source_model.specs.Statics.{statics_from, statics, static_items, item_of, kinds_of}

kinds_behind : (turns : List Turn) (items : List Item) → kinds_of (statics_from turns items) ≡ kinds items
kinds_behind turns [] = refl
kinds_behind turns (item.Turn axis Eighth ∷ is) = ap (λ ks. kind.Rotation ∷ ks) (kinds_behind turns is)
kinds_behind turns (item.Turn axis Quarter ∷ is) = kinds_behind (turns ++ turn axis quarter ∷ []) is
kinds_behind turns (item.Turn axis Half ∷ is) = kinds_behind (turns ++ turn axis half ∷ []) is
kinds_behind turns (item.Measure axis bit ∷ is) = ap (λ ks. kind.Measure bit ∷ ks) (kinds_behind turns is)
kinds_behind turns (item.If axis first size value ∷ is) = ap (λ ks. kind.Settle first size value ∷ ks) (kinds_behind turns is)

pub statics_keep_kinds : (items : List Item) → kinds_of (statics items) ≡ kinds items
statics_keep_kinds items = kinds_behind [] items

kinds_of_first : (a : Signed) (k : Kind) (is : List Item) (ks : List Kind) → kinds is ≡ ks → kinds (item_of (record { axis = a; kind = k }) ∷ is) ≡ k ∷ ks
kinds_of_first a kind.Rotation is ks e = ap (λ ks. kind.Rotation ∷ ks) e
kinds_of_first a (kind.Measure bit) is ks e = ap (λ ks. kind.Measure bit ∷ ks) e
kinds_of_first a (kind.Settle first size value) is ks e = ap (λ ks. kind.Settle first size value ∷ ks) e

static_first : (a : Signed) (k : Kind) (is : List Item) (ss : List Static) → statics is ≡ ss → statics (item_of (record { axis = a; kind = k }) ∷ is) ≡ record { axis = a; kind = k } ∷ ss
static_first a kind.Rotation is ss e = ap (λ ss. record { axis = a; kind = kind.Rotation } ∷ ss) e
static_first a (kind.Measure bit) is ss e = ap (λ ss. record { axis = a; kind = kind.Measure bit } ∷ ss) e
static_first a (kind.Settle first size value) is ss e = ap (λ ss. record { axis = a; kind = kind.Settle first size value } ∷ ss) e

pub statics_stay : (products : List Static) → statics (static_items products) ≡ products
statics_stay [] = refl
statics_stay (s ∷ ss) = static_first s.axis s.kind (static_items ss) ss (statics_stay ss)

pub static_items_keep_kinds : (products : List Static) → kinds (static_items products) ≡ kinds_of products
static_items_keep_kinds [] = refl
static_items_keep_kinds (s ∷ ss) = kinds_of_first s.axis s.kind (static_items ss) (kinds_of ss) (static_items_keep_kinds ss)
