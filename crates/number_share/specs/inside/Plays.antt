-- What the step tells: of the step, the seat before, the number read and the seat after.
use Rattle.std.specs.Prelude.{◌≡◌, ℕ, ◌<◌, ◌≤◌}
use Rattle.atomic_table.specs.Table.{Me, Step}
use Rattle.number_share.specs.declared.view.View.{View}
use Rattle.number_share.specs.inside.Views.{drawing, passing, IsSound}

abbrev pub Sat : Type 0
Sat = Me (Unit {0}) View

abbrev pub drew : Step (Unit {0}) → Sat → ℕ → Sat → Type 0
drew st m r n = (n.1 ≡ m.1) × (r < m.0.numbers → (n.0 ≡ drawing m.0 r) × IsSound n.0) × (m.0.numbers ≤ r → n.0 ≡ passing m.0 r)
