use Rattle.product_list.proofs.Formed.{given_few, given_formed, given_lettered}
use Rattle.product_list.proofs.list.read_list.Goals as goal

pub returns-clause-formed : goal.returns-clause-formed
returns-clause-formed c = given_formed c.args.text.now c.read.result c.read.ensures

pub returns-clause-few : goal.returns-clause-few
returns-clause-few c = given_few c.args.text.now c.read.result c.read.ensures

pub returns-clause-letters : goal.returns-clause-letters
returns-clause-letters c = given_lettered c.args.text.now c.read.result c.read.ensures
