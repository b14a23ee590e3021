-- What the lines and endings that the reader found say.
use Rattle.product_list.specs.declared.line.Ending.{Ending as EndingFound}
use Rattle.product_list.specs.declared.line.Ending.TheVariants as endings
use Rattle.product_list.specs.declared.line.Line.{Line as LineFound}
use Rattle.product_list.specs.declared.line.Line.TheVariants as lines
use Rattle.std.specs.Prelude.{◌≡◌, true}
use Rattle.product_list.specs.ListText.{Ending, rotation, measurement, hidden, settled, reset, Line, register, product, axis_in_text, is_axis}

abbrev pub ending_said : EndingFound → Ending
ending_said endings.Rotation = rotation
ending_said (endings.Measurement name index) = measurement name.now index
ending_said endings.Hidden = hidden
ending_said (endings.Settled name value) = settled name.now value
ending_said (endings.Reset number) = reset number

abbrev pub said : LineFound → Line
said (lines.Register name size) = register name.now size
said (lines.Product axis ending) = product (axis_in_text axis.now) (ending_said ending)

-- the axis of a product is one
abbrev pub HasAxis : LineFound → Type 0
HasAxis (lines.Register name size) = Unit {0}
HasAxis (lines.Product axis ending) = is_axis axis.now ≡ true
