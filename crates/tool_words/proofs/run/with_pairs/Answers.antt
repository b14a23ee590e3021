use Rattle.std.proofs.Common.{◌∷◌, ap, arith, codes, length, map, string_bytes}
use Rattle.std.proofs.lemmas.Bool.Decides.{nat_tests}
use Rattle.std.proofs.Common.{◌<◌}
use Rattle.tool_words.proofs.Only.{are_pairs, only_side}
use Rattle.tool_words.proofs.run.with_pairs.Goals as goal

pub returns-clause-listed : goal.returns-clause-listed
returns-clause-listed c =
    let k = c.in_ok-k.ensures.some in
    let empty = c.if-is_empty.ensures in
    let some : 0 < length c.args.pairs.now = grind (arith, nat_tests, empty) in (
      ap (λ w. codes "side" ∷ c.args.layout.now ∷ w ∷ map string_bytes c.args.pairs.now) k.2,
      ((k.0, k.1), are_pairs string_bytes c.args.pairs.now some c.if-pairs-ne0.false c.if-pairs-gt-MOST_PROGRAMS.false),
    )

pub returns-clause-exact : goal.returns-clause-exact
returns-clause-exact c =
    let k = c.in_ok-k.ensures.some in
    only_side c.args.layout.now c.args.k.now _ c.in_ok-k.k k.1 k.2
