-- How the steps of a call change what a pass knows.
use Rattle.std.specs.Prelude.{◌+◌, true, false, List, [], ◌∷◌, ◌++◌, drop, length}
use Rattle.board_core.specs.declared.Noted.{Noted}
use Rattle.board_core.specs.Position.{Position}
use Rattle.grid_lock.specs.declared.view.View.{View}
use Rattle.grid_lock.specs.declared.view.Gone.{Gone}
use Rattle.grid_lock.specs.Views.{met}

-- it took the turn, and with it saw the board's history
abbrev pub taking : View → List Noted → View
taking v log = record v { seen = log; holding = true }

-- it loaded the length while it holds the turn
abbrev pub counting : View → View
counting v = record v { loads = v.loads + 1; turns = v.turns + 1 }

-- the history became log, by an entry of its own
abbrev pub adding : View → List Noted → View
adding v log = record v { seen = log; mine = v.mine ++ drop (length v.seen) log }

abbrev pub freeing : View → View
freeing v = record v { holding = false }

-- what pass 0 keeps of a pass that ended
abbrev pub gone : View → Gone
gone w = record { number = w.number; seen = w.seen; mine = w.mine; read = w.read }

abbrev pub gathering : View → View → View
gathering v w = record v { kept = v.kept ++ gone w ∷ [] }

-- a board of nothing
abbrev pub no_board : Position
no_board = record {
  job = record { products = []; grid = record { rows = 0; columns = 0; sites = [] }; fails = [] };
  history = [];
}

-- the view of a seat that ended
abbrev pub spent : View
spent = record {
  number = 0;
  opened = no_board;
  seen = [];
  mine = [];
  met = 0;
  loads = 0;
  turns = 0;
  read = 0;
  holding = false;
  made = 0;
  ended = true;
  kept = [];
}
