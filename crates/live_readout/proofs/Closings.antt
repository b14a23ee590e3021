-- What the board is once all passes are handed in.
use Rattle.std.proofs.Common.{◌≡◌, ℕ, List, Option, Result, Ok, Err, length, sym, subst}
use Rattle.std.specs.Prelude.{MatchResult}
use Rattle.source_model.specs.declared.Kind.{Kind}
use Rattle.std.specs.List.{All}
use Rattle.board_core.specs.declared.Noted.{Noted}
use Rattle.board_core.specs.Position.{Position, IsLegal}
use Rattle.grid_lock.specs.Views.{opener}
use Rattle.grid_lock.specs.Passes.{Known, NamedGrid, Closes, known}
use Rattle.router_work.specs.inside.Workers.{HasSplit}
use Rattle.router_work.proofs.Closings.{GrewBy, grew_alone, grew_none, grew_split}
use Rattle.arrival_line.specs.declared.arrival.Arrival.{Arrival}
use Rattle.arrival_line.specs.Strays.{Serves}
use Rattle.live_readout.specs.Routes.{IsByLiveWorker, RoutesLive, factories_of}
use Rattle.live_readout.specs.Wanted.{wanted_of}
use Rattle.live_readout.specs.inside.Workers.{IsBack}
use Rattle.live_readout.specs.declared.route.Live.{Live}
use Rattle.live_readout.specs.declared.route.LiveMemory.{LiveMemory}

module _ (arrivals : List Arrival) (k : ℕ) (b : Position) where
  abbrev pub ByWorker : Noted → Type 0
  ByWorker = IsByLiveWorker (Serves (wanted_of b) arrivals) k (length (factories_of b.job.grid))

  routes_by : (p : Position) → GrewBy ByWorker b p → RoutesLive arrivals k b p
  routes_by p x = record { added = x.0; is = x.1; by_workers = x.2; legal = x.3 }

  -- the board at the end is the one that was opened, with entries of workers
  module _ (g : NamedGrid) (first : Known) (others : List Known) (p : Position) (c : Closes g first others p) where
    -- after pass 0 split others off, and where it split off none
    pub routes_split : (n : ℕ) (start : Known) → g.opened ≡ b → start ≡ known g.id (opener b) → HasSplit start n first → All (λ (e : Noted). e.by ≡ 0) b.history → All (IsBack g ByWorker) others → RoutesLive arrivals k b p
    routes_split n start opened is split zeros back =
        routes_by p (grew_split ByWorker g first others b p c n start opened is split zeros (λ i d l. (back i d l).mine))

    pub routes_alone : (start : Known) → g.opened ≡ b → start ≡ known g.id (opener b) → first ≡ start → All (λ (e : Noted). e.by ≡ 0) b.history → All (IsBack g ByWorker) others → RoutesLive arrivals k b p
    routes_alone start opened is same zeros back =
        routes_by p (grew_alone ByWorker g first others b p c start opened is same zeros (λ i d l. (back i d l).mine))

  -- nothing was done
  pub unmoved : IsLegal b → RoutesLive arrivals k b b
  unmoved legal = routes_by b (grew_none ByWorker b legal)

-- all passes are back, for the board that the grid was opened with
pub back_of : (g : NamedGrid) (w : List (Option Kind)) (all : List Arrival) (k n : ℕ) (b : Position) (ps : List Known) → g.opened ≡ b → w ≡ wanted_of b → n ≡ k
    → All (IsBack g (IsByLiveWorker (Serves w all) n (length (factories_of g.opened.job.grid)))) ps → All (IsBack g (ByWorker all k b)) ps
back_of g w all k n b ps opened wanted count back =
    subst (λ (x : Position). All (IsBack g (IsByLiveWorker (Serves (wanted_of b) all) k (length (factories_of x.job.grid)))) ps) opened
    (subst (λ (v : List (Option Kind)). All (IsBack g (IsByLiveWorker (Serves v all) k (length (factories_of g.opened.job.grid)))) ps) wanted
    (subst (λ (m : ℕ). All (IsBack g (IsByLiveWorker (Serves w all) m (length (factories_of g.opened.job.grid)))) ps) count back))

-- the answer holds the board
pub answered : (all : List Arrival) (k : ℕ) (b c : Position) (r : Result Live LiveMemory) → MatchResult r (λ live. live.board ≡ c) (λ m. m.board ≡ c) → RoutesLive all k b c
    → MatchResult r (λ live. RoutesLive all k b live.board) (λ m. RoutesLive all k b m.board)
answered all k b c (Ok live) is routes = subst (RoutesLive all k b) (sym is) routes
answered all k b c (Err m) is routes = subst (RoutesLive all k b) (sym is) routes
