use Rattle.std.proofs.Common.{◌≡◌, ◌≤◌, ℕ, Bool, List, arith, min, subst, sym}
use Rattle.patch_layout.specs.Grid.{Sound}
use Rattle.patch_layout.specs.Row.{IsUsed}
use Rattle.patch_layout.proofs.Rows.{sound_sites, row_made, made_open}
use Rattle.patch_layout.proofs.layout.Layout.row.Goals as goal

pub of-requires : goal.of-requires
of-requires c = sound_sites c.min-patches.result c.in_ok-sites-in-None.sites.items (omega arith) c.in_ok-sites-in-None.ensures

pub returns-in_ok-layout-in-None-clause-sound : goal.returns-in_ok-layout-in-None-clause-sound
returns-in_ok-layout-in-None-clause-sound c =
    subst Sound (sym c.in_ok-layout-in-None.ensures) (sound_sites c.min-patches.result c.in_ok-sites-in-None.sites.items (omega arith) c.in_ok-sites-in-None.ensures)

pub returns-in_ok-layout-in-None-clause-open : goal.returns-in_ok-layout-in-None-clause-open
returns-in_ok-layout-in-None-clause-open c =
    let need = c.args.need.now in
    let n = c.min-patches.result in
    let g = c.in_ok-layout-in-None.layout in
    let none = let P : List Bool → Type 0 = λ used. (q : ℕ) → 64 ≤ q → IsUsed used q → ⊥ in subst P c.as_slice.ensures c.in-None.ensures in
    made_open need.qubits n need.used need.rotations g
    (row_made n c.in_ok-sites-in-None.sites.items g c.in_ok-sites-in-None.ensures c.in_ok-layout-in-None.ensures) (let e : n ≡ min need.qubits 64 = omega arith in e) c.requires none
