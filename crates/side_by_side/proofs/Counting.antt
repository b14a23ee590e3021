-- How many products items have.
use Rattle.std.proofs.Common.{◌≡◌, ◌+◌, if◌then◌else◌, List, [], ◌∷◌, ◌++◌, length, map, refl, ap, ◌∙◌, arith, length-append}
use Rattle.std.proofs.lemmas.List.{length-map}
use Rattle.source_model.specs.declared.Angle.TheVariants.{Eighth, Quarter, Half}
use Rattle.source_model.specs.declared.Item.{Item}
use Rattle.source_model.specs.declared.Item.TheVariants as item
use Rattle.source_model.specs.declared.Kind.TheVariants as kind
use Rattle.source_model.specs.SourceRun.{is_product}
use Rattle.source_model.specs.Circuits.{kinds}
use Rattle.side_by_side.specs.declared.place.Place.{Place}
use Rattle.side_by_side.specs.Places.{bit_in, range_in, items_in, kind_in}
use Rattle.side_by_side.specs.Joined.{products_in}

pub products-cons : (i : Item) (is : List Item) → products_in (i ∷ is) ≡ (if is_product i then 1 else 0) + products_in is
products-cons (item.Turn axis Eighth) is = omega arith
products-cons (item.Turn axis Quarter) is = omega arith
products-cons (item.Turn axis Half) is = omega arith
products-cons (item.Measure axis bit) is = omega arith
products-cons (item.If axis first size value) is = omega arith

pub kinds-append : (is js : List Item) → kinds (is ++ js) ≡ kinds is ++ kinds js
kinds-append [] js = refl
kinds-append (item.Turn axis Eighth ∷ is) js = ap (λ ks. kind.Rotation ∷ ks) (kinds-append is js)
kinds-append (item.Turn axis Quarter ∷ is) js = kinds-append is js
kinds-append (item.Turn axis Half ∷ is) js = kinds-append is js
kinds-append (item.Measure axis bit ∷ is) js = ap (λ ks. kind.Measure bit ∷ ks) (kinds-append is js)
kinds-append (item.If axis first size value ∷ is) js = ap (λ ks. kind.Settle first size value ∷ ks) (kinds-append is js)

pub products-append : (is js : List Item) → products_in (is ++ js) ≡ products_in is + products_in js
products-append is js = ap length (kinds-append is js) ∙ length-append (kinds is) (kinds js)

pub kinds_in : (s : Place) (is : List Item) → kinds (items_in s is) ≡ map (kind_in s) (kinds is)
kinds_in s [] = refl
kinds_in s (item.Turn axis Eighth ∷ is) = ap (λ ks. kind.Rotation ∷ ks) (kinds_in s is)
kinds_in s (item.Turn axis Quarter ∷ is) = kinds_in s is
kinds_in s (item.Turn axis Half ∷ is) = kinds_in s is
kinds_in s (item.Measure axis bit ∷ is) = ap (λ ks. kind.Measure (bit_in s bit) ∷ ks) (kinds_in s is)
kinds_in s (item.If axis first size value ∷ is) = ap (λ ks. kind.Settle (range_in s first size) size value ∷ ks) (kinds_in s is)

pub products_in_items : (s : Place) (items : List Item) → products_in (items_in s items) ≡ products_in items
products_in_items s items = ap length (kinds_in s items) ∙ length-map (kinds items) (kind_in s)
