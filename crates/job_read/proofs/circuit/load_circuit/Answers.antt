use Rattle.std.proofs.Common.{List, ℕ}
use Rattle.std.proofs.lemmas.Result.{err_from_is_err_and}
use Rattle.rotation_list.specs.Texts.{StandsFor, IsRefused}
use Rattle.job_read.proofs.Cut.{cut_told, told_cut}
use Rattle.job_read.proofs.Circuits.{circuits_alike, refusals_alike, outside, told_fault, stops}
use Rattle.job_read.proofs.Once.{only_fault, only_memory, stands_once, stands_refused}
use Rattle.job_read.specs.Reading.{seen}
use Rattle.job_read.proofs.circuit.load_circuit.Goals as goal

pub returns-in_err-circuit-clause-stops : goal.returns-in_err-circuit-clause-stops
returns-in_err-circuit-clause-stops g c =
    let p = err_from_is_err_and c.from_residual-in_err-circuit.result c.from_residual-in_err-circuit.ensures.1 in
    rw (p.1, p.2)
    (stops (seen (g.S.Shelf.tells c.args.shelf.now) (g.S.Shelf.faults c.args.shelf.now) (g.S.Shelf.faults c.read_limited.new.shelf) c.args.name.now)
    c.in_ok-text.text.items c.in_err-circuit.field-0.0 c.in_ok-text.ensures.text (rw c.deref.ensures.value at c.in_err-circuit.ensures.refused))

pub returns-in_err-circuit-clause-exact : goal.returns-in_err-circuit-clause-exact
returns-in_err-circuit-clause-exact g c = λ d told stands.
    let p = err_from_is_err_and c.from_residual-in_err-circuit.result c.from_residual-in_err-circuit.ensures.1 in
    let whole = told_cut (g.S.Shelf.tells c.args.shelf.now c.args.name.now) (λ (t : List ℕ). StandsFor t d) c.in_ok-text.text.items (circuits_alike d) told c.in_ok-text.ensures.text stands in
    rw (p.1, p.2) (outside c.in_err-circuit.field-0.0 (only_memory (record { one_tree = c.law_one_tree.ensures; tree_or_fault = c.law_tree_or_fault.ensures; one_fault = c.law_one_fault.ensures }) c.in_ok-text.text.items d c.in_err-circuit.field-0.0 (rw c.deref.ensures.value at c.in_err-circuit.ensures.refused) whole))

pub returns-in_err-circuit-clause-faults : goal.returns-in_err-circuit-clause-faults
returns-in_err-circuit-clause-faults g c = λ f told refused.
    let p = err_from_is_err_and c.from_residual-in_err-circuit.result c.from_residual-in_err-circuit.ensures.1 in
    let whole = told_cut (g.S.Shelf.tells c.args.shelf.now c.args.name.now) (λ (t : List ℕ). IsRefused t f) c.in_ok-text.text.items (refusals_alike f) told c.in_ok-text.ensures.text refused.1 in
    rw (p.1, p.2) (told_fault c.in_err-circuit.field-0.0 f refused.0 (only_fault (record { one_tree = c.law_one_tree.ensures; tree_or_fault = c.law_tree_or_fault.ensures; one_fault = c.law_one_fault.ensures }) c.in_ok-text.text.items c.in_err-circuit.field-0.0 f (rw c.deref.ensures.value at c.in_err-circuit.ensures.refused) whole))

pub returns-clause-accepted : goal.returns-clause-accepted
returns-clause-accepted g c =
    cut_told (g.S.Shelf.tells c.args.shelf.now c.args.name.now) (λ (t : List ℕ). StandsFor t c.in_ok-circuit.circuit) c.in_ok-text.text.items (circuits_alike c.in_ok-circuit.circuit) c.in_ok-text.ensures.text (rw c.deref.ensures.value at c.in_ok-circuit.ensures.read)

pub returns-clause-exact : goal.returns-clause-exact
returns-clause-exact g c = λ d told stands.
    let whole = told_cut (g.S.Shelf.tells c.args.shelf.now c.args.name.now) (λ (t : List ℕ). StandsFor t d) c.in_ok-text.text.items (circuits_alike d) told c.in_ok-text.ensures.text stands in
    stands_once (record { one_tree = c.law_one_tree.ensures; tree_or_fault = c.law_tree_or_fault.ensures; one_fault = c.law_one_fault.ensures }) c.in_ok-text.text.items c.in_ok-circuit.circuit d (rw c.deref.ensures.value at c.in_ok-circuit.ensures.read) whole

pub returns-clause-faults : goal.returns-clause-faults
returns-clause-faults g c = λ f told refused.
    let whole = told_cut (g.S.Shelf.tells c.args.shelf.now c.args.name.now) (λ (t : List ℕ). IsRefused t f) c.in_ok-text.text.items (refusals_alike f) told c.in_ok-text.ensures.text refused.1 in
    stands_refused (record { one_tree = c.law_one_tree.ensures; tree_or_fault = c.law_tree_or_fault.ensures; one_fault = c.law_one_fault.ensures }) c.in_ok-text.text.items c.in_ok-circuit.circuit f (rw c.deref.ensures.value at c.in_ok-circuit.ensures.read) whole
