-- What all routers of a live run share.
use Rattle.std.specs.Prelude.{◌≡◌, ◌≤◌, length}
use Rattle.live_readout.specs.declared.router.Shared.{Shared}

-- the layout is that of the grid's board, and each shared number has a kind
abbrev pub IsShared : Shared → Type 0
IsShared s = (s.layout.now ≡ s.grid.now.opened.job.grid) × (s.share.now.numbers ≤ length s.kinds.now)
