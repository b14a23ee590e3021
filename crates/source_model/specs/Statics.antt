-- The static products of a circuit: its eighths, measurements and settled products, each pulled through the Cliffords before it.
use Rattle.std.specs.Prelude.{ℕ, Bool, false, Some, None, List, [], ◌∷◌, ◌++◌, map}
use Rattle.source_model.specs.declared.Angle.TheVariants.{Eighth, Quarter, Half}
use Rattle.source_model.specs.declared.Item.{Item}
use Rattle.source_model.specs.declared.Item.TheVariants as item
use Rattle.source_model.specs.declared.Kind.{Kind}
use Rattle.source_model.specs.declared.Kind.TheVariants as kind
use Rattle.source_model.specs.declared.Static.{Static}
use Rattle.source_model.specs.declared.Given.{Given}
use Rattle.source_model.specs.Circuits.{OutcomesOf}
use Rattle.pauli_product.specs.Commuting.{BitUses, is_among}
use Rattle.pauli_product.specs.Commuting as uses
use Rattle.pauli_product.specs.Pulls.{Turn, turn, quarter, half, pull}

-- the static products of items after these Cliffords
abbrev pub statics_from : List Turn → List Item → List Static
statics_from turns [] = []
statics_from turns (item.Turn axis Eighth ∷ is) = record { axis = pull turns axis; kind = kind.Rotation } ∷ statics_from turns is
statics_from turns (item.Turn axis Quarter ∷ is) = statics_from (turns ++ turn axis quarter ∷ []) is
statics_from turns (item.Turn axis Half ∷ is) = statics_from (turns ++ turn axis half ∷ []) is
statics_from turns (item.Measure axis bit ∷ is) = record { axis = pull turns axis; kind = kind.Measure bit } ∷ statics_from turns is
statics_from turns (item.If axis first size value ∷ is) = record { axis = pull turns axis; kind = kind.Settle first size value } ∷ statics_from turns is

-- the static products of a circuit's items
abbrev pub statics : List Item → List Static
statics items = statics_from [] items

-- the item of a static product: the static circuit has these alone
abbrev pub item_of : Static → Item
item_of s = elim s.kind [ kind.Rotation ↦ item.Turn s.axis Eighth | kind.Measure bit ↦ item.Measure s.axis bit | kind.Settle first size value ↦ item.If s.axis first size value ]

-- the items of the static circuit
abbrev pub static_items : List Static → List Item
static_items products = map item_of products

-- their kinds
abbrev pub kinds_of : List Static → List Kind
kinds_of products = map (λ s. s.kind) products

-- one outcome for each product, of its kind
abbrev pub AreOutcomesOf : List Given → List Static → Type 0
AreOutcomesOf given products = OutcomesOf (kinds_of products) given

-- the bits that a product of a kind reads and writes
abbrev pub uses_of : Kind → BitUses
uses_of kind.Rotation = record { reads = λ bit. false; write = None }
uses_of (kind.Measure b) = record { reads = λ bit. false; write = Some b }
uses_of (kind.Settle first size value) = record { reads = is_among first size; write = None }

-- whether a product of kind k reads the bit
abbrev pub reads : Kind → ℕ → Bool
reads k bit = (uses_of k).reads bit

-- whether one product reads a bit that the other writes
abbrev pub reads_from : Kind → Kind → Bool
reads_from k l = uses.reads_from (uses_of k) (uses_of l)

-- products commute where their axes do and neither reads a bit that the other writes
abbrev pub commuting : Static → Static → Bool
commuting s t = uses.commuting s.axis (uses_of s.kind) t.axis (uses_of t.kind)
