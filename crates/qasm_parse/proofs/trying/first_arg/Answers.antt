use Rattle.std.proofs.Common.{◌≡◌, List, [], ◌∷◌, Option, unwrap_or, refl, ap, ◌∙◌}
use Rattle.std.specs.Prelude.{slice_get}
use Rattle.qasm_parse.specs.declared.tree.Arg.{Arg}
use Rattle.qasm_parse.specs.declared.tree.Arg.TheVariants.{Single}
use Rattle.qasm_parse.specs.Behind.{first_of}
use Rattle.qasm_parse.proofs.trying.first_arg.Goals as goal

first_is : (args : List Arg) → unwrap_or (slice_get args 0) (Single 0) ≡ first_of args
first_is [] = refl
first_is (a ∷ others) = refl

pub returns : goal.returns
returns c = c.unwrap_or.ensures ∙ ap (λ (o : Option Arg). unwrap_or o (Single 0)) (c.copied.ensures ∙ c.first.ensures.value) ∙ first_is c.args.args.now
