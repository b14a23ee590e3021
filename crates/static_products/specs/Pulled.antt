-- Which kind of product an item is.
use Rattle.std.specs.Prelude.{Option, Some, None}
use Rattle.source_model.specs.declared.Angle.TheVariants.{Eighth, Quarter, Half}
use Rattle.source_model.specs.declared.Item.{Item}
use Rattle.source_model.specs.declared.Item.TheVariants as item
use Rattle.source_model.specs.declared.Kind.{Kind}
use Rattle.source_model.specs.declared.Kind.TheVariants as kind

-- the kind of an item's product; a Clifford rotation is none
abbrev pub kind_of : Item → Option Kind
kind_of (item.Turn axis Eighth) = Some kind.Rotation
kind_of (item.Turn axis Quarter) = None
kind_of (item.Turn axis Half) = None
kind_of (item.Measure axis bit) = Some (kind.Measure bit)
kind_of (item.If axis first size value) = Some (kind.Settle first size value)
