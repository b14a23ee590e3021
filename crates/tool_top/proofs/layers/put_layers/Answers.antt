use Rattle.std.proofs.Common.{◌<◌, length, arith}
use Rattle.std.proofs.lemmas.Grind.{common_steps}
use Rattle.tool_top.proofs.Layering.{lines_taken}
use Rattle.tool_top.proofs.layers.put_layers.Goals as goal

pub loop-below-preserved : goal.loop-below-preserved
loop-below-preserved c =
    let l : c.loop-below.below < length c.args.rows.now = omega arith in
    let e = lines_taken c.args.rows.now c.loop-below.below l in
    grind (arith, common_steps, e)
