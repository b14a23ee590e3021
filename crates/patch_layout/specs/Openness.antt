-- What keeps a grid from being open, and the first such cause.
use Rattle.std.specs.Prelude.{◌≡◌, ℕ, Bool, true, ◌<◌, Option, Some, None, List}
use Rattle.patch_layout.specs.declared.layout.Edge.{Edge}
use Rattle.patch_layout.specs.declared.layout.Edge.TheVariants as edge
use Rattle.patch_layout.specs.declared.fault.LayoutFault.{LayoutFault}
use Rattle.patch_layout.specs.declared.fault.LayoutFault.TheVariants as fault
use Rattle.patch_layout.specs.Grid.{Grid, Demand, Open, IsAncilla, IsPatch, IsPort, OnPatch, OnPort, Joins}
use Rattle.patch_layout.specs.Row.{IsUsed}

-- the least number that P holds of
abbrev pub Least : (ℕ → Type 0) → ℕ → Type 0
Least P n = P n × ((m : ℕ) → m < n → P m → ⊥)

-- a used qubit without a patch
abbrev pub Lacks : Grid → List Bool → ℕ → Type 0
Lacks g used q = IsUsed used q × ((c : ℕ) → IsPatch g q c → ⊥)

abbrev pub HasPatches : Grid → List Bool → Type 0
HasPatches g used = (q : ℕ) → IsUsed used q → (c : ℕ) × IsPatch g q c

-- an ancilla cell that no walk through ancilla cells joins to this one
abbrev pub CutFrom : Grid → ℕ → ℕ → Type 0
CutFrom g first c = IsAncilla g c × (Joins g (IsAncilla g) first c → ⊥)

-- of those that are cut off from the least ancilla cell it is the least
abbrev pub IsSplit : Grid → ℕ → Type 0
IsSplit g c = (first : ℕ) × Least (IsAncilla g) first × Least (CutFrom g first) c

abbrev pub IsWhole : Grid → Type 0
IsWhole g = (a b : ℕ) → IsAncilla g a → IsAncilla g b → Joins g (IsAncilla g) a b

abbrev pub HasSide : Grid → ℕ → Edge → Type 0
HasSide g q e = (d : ℕ) × OnPatch g q e d

-- the first edge of a patch, X before Z, that has no ancilla cell
abbrev pub FirstShut : Grid → ℕ → Edge → Type 0
FirstShut g q edge.X = HasSide g q edge.X → ⊥
FirstShut g q edge.Z = HasSide g q edge.X × (HasSide g q edge.Z → ⊥)

abbrev pub SidesOpen : Grid → List Bool → Type 0
SidesOpen g used = (q : ℕ) (e : Edge) → IsUsed used q → HasSide g q e

-- the least used qubit with such an edge
abbrev pub IsShut : Grid → List Bool → ℕ → Edge → Type 0
IsShut g used q e = IsUsed used q × FirstShut g q e × ((p : ℕ) (f : Edge) → p < q → IsUsed used p → HasSide g p f)

abbrev pub HasAnyPort : Grid → Type 0
HasAnyPort g = (c : ℕ) × (f : ℕ) × IsPort g f c

-- the factory has a port without an ancilla cell on a Z side
abbrev pub PortShut : Grid → ℕ → Type 0
PortShut g f = ((c : ℕ) × IsPort g f c) × ((d : ℕ) → OnPort g f d → ⊥)

-- the first cause in the order missing patch, split, shut patch, no port, shut port; None where the grid is open
abbrev pub Opens : Grid → Demand → Option LayoutFault → Type 0
Opens g w None = Open g w
Opens g w (Some (fault.PatchMissing q)) = Least (Lacks g w.used) q
Opens g w (Some (fault.Split c)) = HasPatches g w.used × IsSplit g c
Opens g w (Some (fault.Shut q e)) = HasPatches g w.used × IsWhole g × IsShut g w.used q e
Opens g w (Some fault.NoPort) = HasPatches g w.used × IsWhole g × SidesOpen g w.used × (w.rotations ≡ true) × (HasAnyPort g → ⊥)
Opens g w (Some (fault.ShutPort f)) = HasPatches g w.used × IsWhole g × SidesOpen g w.used × (w.rotations ≡ true → HasAnyPort g) × Least (PortShut g) f
Opens g w (Some _) = ⊥
