use Rattle.std.proofs.Common.{◌≡◌, ◌∷◌, [], ◌++◌, ◌+◌, drop, ap, append_assoc, List, ℕ, Some}
use Rattle.patch_layout.specs.declared.layout.Tile.TheVariants as tile
use Rattle.patch_layout.specs.Grid.{tile_of}
use Rattle.std.specs.List.{slice_get}
use Rattle.job_read.specs.Stages.{factories_in}
use Rattle.job_read.proofs.Ports.{with_port, without_port}
use Rattle.job_read.proofs.outcomes.push_factory.Goals as goal

pub returns-in_ok-push : goal.returns-in_ok-push
returns-in_ok-push c =
    let is : Some (tile.Port c.in-Port.factory) ≡ tile_of (slice_get c.args.layout.now.sites c.args.cell) = c.in-Port.ensures in
    let e = with_port c.args.layout.now.sites c.args.cell c.in-Port.factory c.requires is in
    let p : c.push.new.self.items ≡ c.args.found.now.items ++ c.in-Port.factory ∷ [] = c.in_ok-push.ensures.items in
    let a = append_assoc c.args.found.now.items (c.in-Port.factory ∷ []) (factories_in (drop (c.args.cell + 1) c.args.layout.now.sites)) in
    cc

pub returns-in_default : goal.returns-in_default
returns-in_default c =
    ap (λ (xs : List ℕ). c.args.found.now.items ++ xs)
    (without_port c.args.layout.now.sites c.args.cell c.tile.result c.requires c.tile.ensures (λ f e. c.in_default.not-Port f e))
