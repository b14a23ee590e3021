use Rattle.std.proofs.Common.{◌≡◌, ◌++◌, take}
use Rattle.side_by_side.specs.Places.{items_in}
use Rattle.side_by_side.proofs.place.Place.push_items.Given as goal

abbrev pub invariant-loop-item : goal.invariant-loop-item
invariant-loop-item l = l.into ≡ l.initial.into ++ items_in l.self (take l.item-index l.items)
