-- Ports that are open.
use Rattle.std.specs.Prelude.{ℕ}
use Rattle.patch_layout.specs.Grid.{Grid, IsPort, OnPort}

abbrev pub PortsOpen : Grid → Type 0
PortsOpen g = (c f : ℕ) → IsPort g f c → (d : ℕ) × OnPort g f d
