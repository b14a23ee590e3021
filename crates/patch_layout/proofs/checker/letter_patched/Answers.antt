use Rattle.std.proofs.Common.{refl}
use Rattle.patch_layout.proofs.Checking.{there_patched, none_patched}
use Rattle.patch_layout.proofs.checker.letter_patched.Goals as goal

pub returns-in-Some : goal.returns-in-Some
returns-in-Some c = there_patched c.args.layout.now c.args.qubit c.in-Some.field-0 c.args.letter ((c.in-Some.ensures c.in-Some.field-0).0 refl)

pub returns-in-None : goal.returns-in-None
returns-in-None c =
    none_patched c.args.layout.now c.args.qubit c.args.letter c.in_default.not-I (λ b p. let e = (c.in-None.ensures b).1 p in absurd (cc))
