-- The factories of a grid, a cell at a time.
use Rattle.std.proofs.Common.{◌≡◌, ◌≢◌, ℕ, zero, suc, ◌+◌, ◌<◌, List, [], ◌∷◌, length, drop, slice_get, Some, refl, ap, subst, arith}
use Rattle.patch_layout.specs.declared.layout.Site.{Site}
use Rattle.patch_layout.specs.declared.layout.Site.TheVariants as site
use Rattle.patch_layout.specs.declared.layout.Tile.{Tile}
use Rattle.patch_layout.specs.declared.layout.Tile.TheVariants as tile
use Rattle.patch_layout.specs.Grid.{tile_of}
use Rattle.job_read.specs.Stages.{factories_in}

-- the factory of a site and those behind it
pub with_port : (ss : List Site) (cell f : ℕ) → cell < length ss → Some (tile.Port f) ≡ tile_of (slice_get ss cell) → f ∷ factories_in (drop (cell + 1) ss) ≡ factories_in (drop cell ss)
with_port [] cell f below e = absurd (omega arith)
with_port (site.Ancilla ∷ ss) zero f below e = absurd (cc)
with_port (site.Wall ∷ ss) zero f below e = absurd (cc)
with_port (site.Patch q level ∷ ss) zero f below e = absurd (cc)
with_port (site.Port g level store ∷ ss) zero f below e = let same : f ≡ g = cc in ap (λ (x : ℕ). x ∷ factories_in ss) same
with_port (s ∷ ss) (suc cell) f below e =
    let same : suc (cell + 1) ≡ suc cell + 1 = omega arith in
    subst (λ (n : ℕ). f ∷ factories_in (drop n (s ∷ ss)) ≡ factories_in (drop (suc cell) (s ∷ ss))) same (with_port ss cell f (omega arith) e)

-- a site without a port has none
pub without_port : (ss : List Site) (cell : ℕ) (t : Tile) → cell < length ss → Some t ≡ tile_of (slice_get ss cell) → ((f : ℕ) → t ≢ tile.Port f) → factories_in (drop (cell + 1) ss) ≡ factories_in (drop cell ss)
without_port [] cell t below e n = absurd (omega arith)
without_port (site.Ancilla ∷ ss) zero t below e n = refl
without_port (site.Wall ∷ ss) zero t below e n = refl
without_port (site.Patch q level ∷ ss) zero t below e n = refl
without_port (site.Port g level store ∷ ss) zero t below e n = absurd (n g cc)
without_port (s ∷ ss) (suc cell) t below e n =
    let same : suc (cell + 1) ≡ suc cell + 1 = omega arith in
    subst (λ (m : ℕ). factories_in (drop m (s ∷ ss)) ≡ factories_in (drop (suc cell) (s ∷ ss))) same (without_port ss cell t (omega arith) e n)
