-- The store of a site.
use Rattle.std.specs.Prelude.{ℕ, Option, Some, None}
use Rattle.patch_layout.specs.declared.layout.Site.{Site}
use Rattle.patch_layout.specs.declared.layout.Site.TheVariants as site

abbrev pub store_at : Option Site → Option ℕ
store_at None = None
store_at (Some site.Ancilla) = None
store_at (Some site.Wall) = None
store_at (Some (site.Patch q level)) = None
store_at (Some (site.Port f level store)) = Some store
