-- What the gate that counts down does.
use Rattle.std.specs.Prelude.{◌≡◌, ◌+◌, ◌-◌, ◌<◌, ◌^◌}
use Rattle.router_work.specs.declared.gate.StopAt.{StopAt}
use Rattle.router_work.specs.declared.gate.Onward.{Onward}
use Rattle.router_work.specs.declared.gate.Onward.TheVariants.{Go, Stop}

-- it lets the router go on while something is left, and where its count can't rise; else it stops it and counts that
pub data HoldsBack (g : StopAt) (answer : Onward) (after : StopAt) : Type 0 where
  passes : 0 < g.left → answer ≡ Go → after ≡ record g { left = g.left - 1 } → HoldsBack g answer after
  stops : g.left ≡ 0 → g.stops < 2 ^ 64 - 1 → answer ≡ Stop → after ≡ record g { stops = g.stops + 1 } → HoldsBack g answer after
  full : g.left ≡ 0 → g.stops ≡ 2 ^ 64 - 1 → answer ≡ Go → after ≡ g → HoldsBack g answer after
