use Rattle.patch_layout.specs.Row.{demand}
use Rattle.patch_layout.proofs.Once.{read_exact}
use Rattle.patch_layout.proofs.Causes.{read_told}
use Rattle.patch_layout.proofs.layout.Layout.read.Goals as goal

pub returns-clause-exact : goal.returns-clause-exact
returns-clause-exact c = read_exact c.args.text.now (demand c.args.need.now.used c.args.need.now.rotations) c.read_open.result c.read_open.ensures.stands c.read_open.ensures.refused

pub returns-clause-told : goal.returns-clause-told
returns-clause-told c =
    read_told c.args.text.now (demand c.args.need.now.used c.args.need.now.rotations) c.read_open.result c.read_open.ensures.stands c.read_open.ensures.open c.read_open.ensures.refused
