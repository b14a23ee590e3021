-- The lines that name an entry.
use Rattle.std.specs.Prelude.{◌≡◌, ℕ, ◌≤◌, ◌==◌, if◌then◌else◌, List, length, is_some}
use Rattle.pauli_product.specs.Signed.{Signed}
use Rattle.source_model.specs.declared.Given.{Given}
use Rattle.source_model.specs.declared.Given.TheVariants as given
use Rattle.patch_layout.specs.Case.{Ascending}
use Rattle.board_core.specs.declared.Noted.{Noted}
use Rattle.board_core.specs.declared.Entry.{Entry}
use Rattle.board_core.specs.declared.Entry.TheVariants.{Claim, Deliver, Release, Step, Settle}
use Rattle.schedule_text.specs.Text.{Version, one, two, entry_line, Prints}

-- the version of this number; a text has version 1 or 2
abbrev pub version_of : ℕ → Version
version_of n = if n == 1 then one else two

-- an outcome that a line delivers
abbrev pub IsDelivered : Given → Type 0
IsDelivered (given.Rotation raw x) = Unit {0}
IsDelivered (given.Measure raw) = Unit {0}
IsDelivered given.Settled = ⊥

-- a product that a line spells: it has 1 to 1,024 letters
abbrev pub IsAxis : Signed → Type 0
IsAxis p = (1 ≤ length p.letters) × (length p.letters ≤ 1024)

-- cells that a line lists: one or more, which ascend
abbrev pub IsListed : List ℕ → Type 0
IsListed cells = (1 ≤ length cells) × Ascending cells

-- the parts of an entry are such as its line may have: a claim names both a port and a state or neither, and a settling stands in version 2 alone
abbrev pub IsShaped : Version → Entry → Type 0
IsShaped v (Claim p axis port state cells) = IsAxis axis × (is_some port ≡ is_some state) × IsListed cells
IsShaped v (Deliver p g) = IsDelivered g
IsShaped v (Release p) = Unit {0}
IsShaped v (Step f) = Unit {0}
IsShaped one (Settle p flip) = ⊥
IsShaped two (Settle p flip) = Unit {0}

-- an entry that a text of the version may have
abbrev pub StandsIn : Version → Noted → Type 0
StandsIn v n = Prints v n × IsShaped v n.entry

-- the line is an entry line of the version, and this is its entry
pub record IsEntryLine (v : Version) (line : List ℕ) (n : Noted) : Type 0 where
  pub prints : Prints v n
  pub shaped : IsShaped v n.entry
  pub text : line ≡ entry_line v n
