-- A layout of ancilla cells alone has no factories.
use Rattle.std.proofs.Common.{◌≡◌, ℕ, suc, ◌<◌, List, [], ◌∷◌, length, slice_get, Some, refl, subst, arith, codes, Contains}
use Rattle.std.proofs.lemmas.Option.{same_Some}
use Rattle.patch_layout.specs.declared.layout.Site.{Site}
use Rattle.patch_layout.specs.declared.layout.Site.TheVariants as site
use Rattle.patch_layout.specs.declared.line.Line.{Line}
use Rattle.patch_layout.specs.Grid.{Grid}
use Rattle.patch_layout.specs.LayoutText.{StandsFor}
use Rattle.job_read.specs.Stages.{factories_in}

ancilla_alone : (ss : List Site) → ((c : ℕ) → c < length ss → slice_get ss c ≡ Some site.Ancilla) → factories_in ss ≡ []
ancilla_alone [] h = refl
ancilla_alone (site.Ancilla ∷ ss) h = ancilla_alone ss (λ c below. h (suc c) (omega arith))
ancilla_alone (site.Wall ∷ ss) h = absurd (let e = same_Some _ _ (h 0 (omega arith)) in cc)
ancilla_alone (site.Patch q level ∷ ss) h = absurd (let e = same_Some _ _ (h 0 (omega arith)) in cc)
ancilla_alone (site.Port f level store ∷ ss) h = absurd (let e = same_Some _ _ (h 0 (omega arith)) in cc)

none_named : (ls : List Line) (l : Line) → ls ≡ [] → Contains ls l → ⊥
none_named ls l e has = let h = subst (λ (xs : List Line). Contains xs l) e has in absurd (grind arith)

pub no_factories : (g : Grid) → StandsFor (codes "layout 1 1 1\n") g → factories_in g.sites ≡ []
no_factories g (rows, columns, ls, short, formed, sized, once, laid) =
    ancilla_alone g.sites (λ c below. laid.others c (let e = laid.cells in omega (arith, e)) (λ l has is. none_named ls l formed.1 has))
