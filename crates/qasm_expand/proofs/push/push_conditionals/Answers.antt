use Rattle.std.proofs.Common.{ℕ, List, [], ◌∷◌, ◌++◌, is_ok, ap, ◌∙◌}
use Rattle.std.proofs.ResultArms.{chosen}
use Rattle.qasm_expand.specs.declared.flat.Flat.{Flat}
use Rattle.qasm_expand.specs.declared.flat.Flat.TheVariants.{If}
use Rattle.qasm_expand.specs.Flats.{conditional}
use Rattle.qasm_expand.proofs.Steps.{index_more}
use Rattle.qasm_expand.proofs.push.push_conditionals.Goals as goal

pub loop-i-preserved : goal.loop-i-preserved
loop-i-preserved c =
    let i : ℕ = c.loop-i.i in
    let old : List Flat = c.loop-i.flats.items in
    let f : ℕ → Flat = conditional c.args.first c.args.size c.args.value c.args.gate c.args.arg in
    let pushed = chosen _ _ _ _ c.push.ensures.items (ap is_ok c.in_ok-push.was) in
    let element = ap (λ q. old ++ If c.args.gate q c.args.first c.args.size c.args.value ∷ []) c.at_index.ensures in
    pushed ∙ element ∙ ap (λ xs. xs ++ f i ∷ []) c.loop-i.invariant ∙ index_more f c.args.flats.now.items i
