use Rattle.std.proofs.Common.{arith}
use Rattle.side_tests.proofs.rows.has_axes.Goals as goal

pub axes_of-requires : goal.axes_of-requires
axes_of-requires g c =
    let two = c.requires.done in
    let count = two.2 in
    let low = c.requires.program in
    (two.0, two.1, omega (arith, count, low))
