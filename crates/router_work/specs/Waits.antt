-- Calls that are made again while the turn is held.
use Rattle.std.specs.Prelude.{◌≡◌, ◌≤◌}
use Rattle.grid_lock.specs.declared.view.View.{View}

-- the turn was found held, any number of times, and the pass knows nothing else than before
pub record Waited (v w : View) : Type 0 where
  pub is : w ≡ record v { met = w.met }
  pub met : v.met ≤ w.met

-- this was told to a pass that had waited, any number of times
abbrev pub AfterWaiting : View → (View → Type 0) → Type 0
AfterWaiting u Told = (v : View) × Waited u v × Told v

-- the history's length was read, any number of times, and the pass knows nothing else than before
abbrev pub OnlyRead : View → View → Type 0
OnlyRead v w = w ≡ record v { loads = w.loads; read = w.read }
