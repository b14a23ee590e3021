-- Why a layout text is refused.
use Rattle.std.proofs.Common.{◌≡◌, ℕ, suc, List, ◌∷◌, sym, subst, arith}
use Rattle.patch_layout.specs.declared.fault.LayoutFault.{LayoutFault}
use Rattle.patch_layout.specs.declared.fault.LayoutFault.TheVariants as fault
use Rattle.patch_layout.specs.LayoutText.{Header, FirstBadText}
use Rattle.patch_layout.specs.inside.Reading.{BodyRefused, FormRefused}

pub body_refused : (texts rest : List (List ℕ)) (head : List ℕ) (rows columns : ℕ) (f : LayoutFault) → texts ≡ head ∷ rest → Header rows columns head → BodyRefused rest f → FormRefused texts f
body_refused texts rest head rows columns (fault.Form line) e h (n, is, bad) =
    let P : List (List ℕ) → Type 0 = λ xs. FirstBadText xs (suc n) in (suc n, omega arith, subst P (sym e) ((rows, columns, h), bad))
body_refused texts rest head rows columns fault.Memory e h b = tt
body_refused texts rest head rows columns fault.TooLong e h b = absurd b
body_refused texts rest head rows columns fault.Size e h b = absurd b
body_refused texts rest head rows columns (fault.Overlap c) e h b = absurd b
body_refused texts rest head rows columns (fault.PatchMissing q) e h b = absurd b
body_refused texts rest head rows columns (fault.Split c) e h b = absurd b
body_refused texts rest head rows columns (fault.Shut q s) e h b = absurd b
body_refused texts rest head rows columns fault.NoPort e h b = absurd b
body_refused texts rest head rows columns (fault.ShutPort p) e h b = absurd b
