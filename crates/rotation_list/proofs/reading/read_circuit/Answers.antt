use Rattle.rotation_list.proofs.Unique.{either_way, exact_for, faults_for}
use Rattle.rotation_list.proofs.reading.read_circuit.Goals as goal

pub returns-clause-exact : goal.returns-clause-exact
returns-clause-exact c =
    let text = c.args.text.now in
    exact_for text c.read_either.result (c.law_one_circuit.ensures.one text) (c.law_one_circuit.ensures.apart text) (either_way text c.read_either.result c.read_either.ensures.read c.read_either.ensures.refused)

pub returns-clause-faults : goal.returns-clause-faults
returns-clause-faults c =
    let text = c.args.text.now in
    faults_for text c.read_either.result (c.law_one_circuit.ensures.apart text) (c.law_one_circuit.ensures.one_fault text) (either_way text c.read_either.result c.read_either.ensures.read c.read_either.ensures.refused)
