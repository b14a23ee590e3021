use Rattle.std.proofs.Common.{ℕ, List, [], ◌∷◌, ◌++◌, is_ok, ap, ◌∙◌}
use Rattle.std.proofs.ResultArms.{chosen}
use Rattle.qasm_parse.specs.Faults.{at_index}
use Rattle.qasm_expand.specs.declared.flat.Flat.{Flat}
use Rattle.qasm_expand.specs.declared.flat.Flat.TheVariants.{Measure}
use Rattle.qasm_expand.specs.Flats.{measured}
use Rattle.qasm_expand.proofs.Steps.{index_more}
use Rattle.qasm_expand.proofs.push.push_measurements.Goals as goal

pub loop-i-preserved : goal.loop-i-preserved
loop-i-preserved c =
    let i : ℕ = c.loop-i.i in
    let old : List Flat = c.loop-i.flats.items in
    let f : ℕ → Flat = measured c.args.from c.args.to in
    let pushed = chosen _ _ _ _ c.push.ensures.items (ap is_ok c.in_ok-push.was) in
    let element = ap (λ q. old ++ Measure q c.at_index-in-loop-i.result ∷ []) c.at_index.ensures ∙ ap (λ b. old ++ Measure (at_index i c.args.from) b ∷ []) c.at_index-in-loop-i.ensures in
    pushed ∙ element ∙ ap (λ xs. xs ++ f i ∷ []) c.loop-i.invariant ∙ index_more f c.args.flats.now.items i
