-- The laws that crates above cite.
use Rattle.std.proofs.Common.{length, ap}
use Rattle.trace_laws.specs.Laws.{NeighboursKeepAxes, OrderComesBySwaps, WaitingKeepsAxes, SourceAxes, WaitingKeepsFlips, BitsGiveAxes, NextWaits, NextHasSourceAxis, KnownAxis, KnownFlip, WaitingIsClosed, WaitingIsWithin, WaitingGrows, WaitingIsExchanged, SourceAxisIsPulled, BitsAgree, NumbersAgree}
use Rattle.trace_laws.specs.Steps.{commuting, pass}
use Rattle.trace_laws.specs.Runs.{executed_axis}
use Rattle.trace_laws.proofs.Agree as agree
use Rattle.trace_laws.proofs.Flips as along
use Rattle.trace_laws.proofs.HeldBack as held
use Rattle.trace_laws.proofs.Plain as plain
use Rattle.trace_laws.proofs.Ready as ready
use Rattle.trace_laws.proofs.Sorting as sorting
use Rattle.trace_laws.proofs.Swapping as swapping

pub neighbours_keep_axes : NeighboursKeepAxes
neighbours_keep_axes = swapping.swap_neighbours

pub order_by_swaps : OrderComesBySwaps
order_by_swaps = λ steps w. sorting.swaps_of_all (pass commuting steps) (length steps) w

pub waiting_axes : WaitingKeepsAxes
waiting_axes = held.held_back

pub source_axes : SourceAxes
source_axes = along.source_axes

pub flips_along : WaitingKeepsFlips
flips_along = along.flips_along

pub bits_give_axes : BitsGiveAxes
bits_give_axes = λ n steps w p h waits. ap (λ t. executed_axis t.axes p) (along.runs_alike n steps w h waits)

pub next_waits : NextWaits
next_waits = ready.waiting_next

pub next_axis : NextHasSourceAxis
next_axis = ready.ready_axis

pub known_axis : KnownAxis
known_axis = λ n steps steps' u p s s' h h' k. ready.known_axis n steps steps' u p s s' h h' k.0 k.1

pub known_flip : KnownFlip
known_flip = λ n steps steps' u p s h h' k. ready.known_flip n steps steps' u p s h h' k.0 k.1

pub waiting_closed : WaitingIsClosed
waiting_closed = ready.waiting_closed

pub waiting_within : WaitingIsWithin
waiting_within = sorting.waiting_within

pub waiting_grows : WaitingGrows
waiting_grows = sorting.waiting-push

pub waiting_exchanged : WaitingIsExchanged
waiting_exchanged = sorting.sorted_out

pub source_axis_pulled : SourceAxisIsPulled
source_axis_pulled = plain.source_axis_at

pub bits_agree : BitsAgree
bits_agree = agree.bits_agree

pub numbers_agree : NumbersAgree
numbers_agree = agree.numbers_agree
