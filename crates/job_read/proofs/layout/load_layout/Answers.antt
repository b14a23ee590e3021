use Rattle.std.proofs.Common.{◌≡◌, ◌≢◌, ℕ, List, min, codes, inl, inr, ap, sym, ◌∙◌, subst, rules}
use Rattle.std.proofs.lemmas.Result.{err_from_is_err_and}
use Rattle.patch_layout.specs.Grid.{Grid, Demand, Open}
use Rattle.patch_layout.specs.Row.{row_grid, demand, RowRefused}
use Rattle.patch_layout.specs.LayoutText.{StandsFor, Refused}
use Rattle.job_read.specs.Reading.{seen}
use Rattle.job_read.specs.Stages.{demand_of, wanted_by}
use Rattle.job_read.proofs.Cut.{cut_told, told_cut}
use Rattle.job_read.proofs.Layouts.{wanted_is, open_row, one_row_fault, refusals_alike, grids_alike, outside, told_fault, stops, row_open, text_stands, row_refused, text_refused}
use Rattle.job_read.proofs.layout.load_layout.Goals as goal

pub returns-in_err-row-clause-stops : goal.returns-in_err-row-clause-stops
returns-in_err-row-clause-stops g c =
    let p = err_from_is_err_and c.from_residual-in_err-row.result c.from_residual-in_err-row.ensures.1 in
    let asked : demand c.in_ok-need.need.used c.in_ok-need.need.rotations ≡ wanted_by c.args.circuit.now =
    wanted_is c.in_ok-need.need c.args.circuit.now.qubits c.args.products.now c.in_ok-need.ensures ∙ ap (demand_of c.args.circuit.now.qubits) c.requires.products in
    let row : c.args.word.now ≡ codes "-" = search rules in
    let refused = subst (λ (w : Demand). RowRefused w.used c.in_err-row.field-0.0) asked c.in_err-row.ensures.refused in
    rw (p.1, p.2)
    (stops c.args.word.now (seen (g.S.Shelf.tells c.args.shelf.now) (g.S.Shelf.faults c.args.shelf.now) (g.S.Shelf.faults c.args.shelf.now) c.args.word.now) c.args.circuit.now c.in_err-row.field-0.0
    (λ n. (n, inl (row, refused))))

pub returns-in_err-row-clause-exact : goal.returns-in_err-row-clause-exact
returns-in_err-row-clause-exact g c = λ d told stands.
    let p = err_from_is_err_and c.from_residual-in_err-row.result c.from_residual-in_err-row.ensures.1 in
    let asked : demand c.in_ok-need.need.used c.in_ok-need.need.rotations ≡ wanted_by c.args.circuit.now =
    wanted_is c.in_ok-need.need c.args.circuit.now.qubits c.args.products.now c.in_ok-need.ensures ∙ ap (demand_of c.args.circuit.now.qubits) c.requires.products in
    let row : c.args.word.now ≡ codes "-" = search rules in
    let refused = subst (λ (w : Demand). RowRefused w.used c.in_err-row.field-0.0) asked c.in_err-row.ensures.refused in
    let s = seen (g.S.Shelf.tells c.args.shelf.now) (g.S.Shelf.faults c.args.shelf.now) (g.S.Shelf.faults c.args.shelf.now) c.args.word.now in
    rw (p.1, p.2) (outside c.in_err-row.field-0.0 (open_row c.args.circuit.now.qubits (wanted_by c.args.circuit.now) c.in_err-row.field-0.0 (row_open c.args.word.now s c.args.circuit.now d row stands) refused))

pub returns-in_err-row-clause-faults : goal.returns-in_err-row-clause-faults
returns-in_err-row-clause-faults g c = λ f told refusal.
    let p = err_from_is_err_and c.from_residual-in_err-row.result c.from_residual-in_err-row.ensures.1 in
    let asked : demand c.in_ok-need.need.used c.in_ok-need.need.rotations ≡ wanted_by c.args.circuit.now =
    wanted_is c.in_ok-need.need c.args.circuit.now.qubits c.args.products.now c.in_ok-need.ensures ∙ ap (demand_of c.args.circuit.now.qubits) c.requires.products in
    let row : c.args.word.now ≡ codes "-" = search rules in
    let refused = subst (λ (w : Demand). RowRefused w.used c.in_err-row.field-0.0) asked c.in_err-row.ensures.refused in
    let s = seen (g.S.Shelf.tells c.args.shelf.now) (g.S.Shelf.faults c.args.shelf.now) (g.S.Shelf.faults c.args.shelf.now) c.args.word.now in
    rw (p.1, p.2) (told_fault c.in_err-row.field-0.0 f refusal.0
    (one_row_fault (wanted_by c.args.circuit.now).used c.in_err-row.field-0.0 f refusal.0 refused (row_refused c.args.word.now s c.args.circuit.now f row refusal)))

pub returns-then-eq-clause-accepted : goal.returns-then-eq-clause-accepted
returns-then-eq-clause-accepted g c =
    let asked : demand c.in_ok-need.need.used c.in_ok-need.need.rotations ≡ wanted_by c.args.circuit.now =
    wanted_is c.in_ok-need.need c.args.circuit.now.qubits c.args.products.now c.in_ok-need.ensures ∙ ap (demand_of c.args.circuit.now.qubits) c.requires.products in
    let row : c.args.word.now ≡ codes "-" = search rules in
    let as_many : c.in_ok-need.need.qubits ≡ c.args.circuit.now.qubits = c.in_ok-need.ensures.qubits_are in
    (inl (row, c.in_ok-row.ensures.row ∙ ap (λ (n : ℕ). row_grid (min n 64)) as_many), subst (λ (w : Demand). Open c.in_ok-row.row w) asked c.in_ok-row.ensures.open)

pub returns-then-eq-clause-faults : goal.returns-then-eq-clause-faults
returns-then-eq-clause-faults g c = λ f told refusal.
    let asked : demand c.in_ok-need.need.used c.in_ok-need.need.rotations ≡ wanted_by c.args.circuit.now =
    wanted_is c.in_ok-need.need c.args.circuit.now.qubits c.args.products.now c.in_ok-need.ensures ∙ ap (demand_of c.args.circuit.now.qubits) c.requires.products in
    let row : c.args.word.now ≡ codes "-" = search rules in
    let as_many : c.in_ok-need.need.qubits ≡ c.args.circuit.now.qubits = c.in_ok-need.ensures.qubits_are in
    let is_row : c.in_ok-row.row ≡ row_grid (min c.args.circuit.now.qubits 64) = c.in_ok-row.ensures.row ∙ ap (λ (n : ℕ). row_grid (min n 64)) as_many in
    let opened = subst (λ (w : Demand). Open c.in_ok-row.row w) asked c.in_ok-row.ensures.open in
    let s = seen (g.S.Shelf.tells c.args.shelf.now) (g.S.Shelf.faults c.args.shelf.now) (g.S.Shelf.faults c.args.shelf.now) c.args.word.now in
    refusal.0 (open_row c.args.circuit.now.qubits (wanted_by c.args.circuit.now) f (subst (λ (h : Grid). Open h (wanted_by c.args.circuit.now)) is_row opened) (row_refused c.args.word.now s c.args.circuit.now f row refusal))

pub returns-in_err-layout-clause-stops : goal.returns-in_err-layout-clause-stops
returns-in_err-layout-clause-stops g c =
    let p = err_from_is_err_and c.from_residual-in_err-layout.result c.from_residual-in_err-layout.ensures.1 in
    let asked : demand c.in_ok-need.need.used c.in_ok-need.need.rotations ≡ wanted_by c.args.circuit.now =
    wanted_is c.in_ok-need.need c.args.circuit.now.qubits c.args.products.now c.in_ok-need.ensures ∙ ap (demand_of c.args.circuit.now.qubits) c.requires.products in
    let named : c.args.word.now ≢ codes "-" = search rules in
    let refused = subst (λ (w : Demand). Refused c.deref.result.now w c.in_err-layout.field-0.0) asked c.in_err-layout.ensures.refused in
    let whole = cut_told (g.S.Shelf.tells c.args.shelf.now c.args.word.now) (λ (t : List ℕ). Refused t (wanted_by c.args.circuit.now) c.in_err-layout.field-0.0) c.in_ok-text.text.items
    (refusals_alike (wanted_by c.args.circuit.now) c.in_err-layout.field-0.0) c.in_ok-text.ensures.text (rw c.deref.ensures.value at refused) in
    rw (p.1, p.2)
    (stops c.args.word.now (seen (g.S.Shelf.tells c.args.shelf.now) (g.S.Shelf.faults c.args.shelf.now) (g.S.Shelf.faults c.read_limited.new.shelf) c.args.word.now) c.args.circuit.now c.in_err-layout.field-0.0
    (λ n. (n, inr (named, whole))))

pub returns-in_err-layout-clause-exact : goal.returns-in_err-layout-clause-exact
returns-in_err-layout-clause-exact g c = λ d told stands.
    let p = err_from_is_err_and c.from_residual-in_err-layout.result c.from_residual-in_err-layout.ensures.1 in
    let asked : demand c.in_ok-need.need.used c.in_ok-need.need.rotations ≡ wanted_by c.args.circuit.now =
    wanted_is c.in_ok-need.need c.args.circuit.now.qubits c.args.products.now c.in_ok-need.ensures ∙ ap (demand_of c.args.circuit.now.qubits) c.requires.products in
    let named : c.args.word.now ≢ codes "-" = search rules in
    let s = seen (g.S.Shelf.tells c.args.shelf.now) (g.S.Shelf.faults c.args.shelf.now) (g.S.Shelf.faults c.read_limited.new.shelf) c.args.word.now in
    let whole = told_cut (g.S.Shelf.tells c.args.shelf.now c.args.word.now) (λ (t : List ℕ). StandsFor t d) c.in_ok-text.text.items (grids_alike d) (told named) c.in_ok-text.ensures.text
    (text_stands c.args.word.now s c.args.circuit.now d named stands) in
    let opened = subst (λ (w : Demand). Open d w) (sym asked) stands.1 in
    rw (p.1, p.2) (outside c.in_err-layout.field-0.0 (c.in_err-layout.ensures.exact d (rw c.deref.ensures.value whole) opened))

pub returns-in_err-layout-clause-faults : goal.returns-in_err-layout-clause-faults
returns-in_err-layout-clause-faults g c = λ f told refusal.
    let p = err_from_is_err_and c.from_residual-in_err-layout.result c.from_residual-in_err-layout.ensures.1 in
    let asked : demand c.in_ok-need.need.used c.in_ok-need.need.rotations ≡ wanted_by c.args.circuit.now =
    wanted_is c.in_ok-need.need c.args.circuit.now.qubits c.args.products.now c.in_ok-need.ensures ∙ ap (demand_of c.args.circuit.now.qubits) c.requires.products in
    let named : c.args.word.now ≢ codes "-" = search rules in
    let s = seen (g.S.Shelf.tells c.args.shelf.now) (g.S.Shelf.faults c.args.shelf.now) (g.S.Shelf.faults c.read_limited.new.shelf) c.args.word.now in
    let whole = told_cut (g.S.Shelf.tells c.args.shelf.now c.args.word.now) (λ (t : List ℕ). Refused t (wanted_by c.args.circuit.now) f) c.in_ok-text.text.items (refusals_alike (wanted_by c.args.circuit.now) f) (told named) c.in_ok-text.ensures.text
    (text_refused c.args.word.now s c.args.circuit.now f named refusal) in
    rw (p.1, p.2) (told_fault c.in_err-layout.field-0.0 f refusal.0
    (c.in_err-layout.ensures.told f refusal.0 (rw c.deref.ensures.value (subst (λ (w : Demand). Refused c.in_ok-text.text.items w f) (sym asked) whole))))

pub returns-clause-accepted : goal.returns-clause-accepted
returns-clause-accepted g c =
    let asked : demand c.in_ok-need.need.used c.in_ok-need.need.rotations ≡ wanted_by c.args.circuit.now =
    wanted_is c.in_ok-need.need c.args.circuit.now.qubits c.args.products.now c.in_ok-need.ensures ∙ ap (demand_of c.args.circuit.now.qubits) c.requires.products in
    let named : c.args.word.now ≢ codes "-" = search rules in
    let whole = cut_told (g.S.Shelf.tells c.args.shelf.now c.args.word.now) (λ (t : List ℕ). StandsFor t c.in_ok-layout.layout) c.in_ok-text.text.items (grids_alike c.in_ok-layout.layout) c.in_ok-text.ensures.text
    (rw c.deref.ensures.value at c.in_ok-layout.ensures.stands) in
    (inr (named, whole), subst (λ (w : Demand). Open c.in_ok-layout.layout w) asked c.in_ok-layout.ensures.open)

pub returns-clause-exact : goal.returns-clause-exact
returns-clause-exact g c = λ d told stands.
    let asked : demand c.in_ok-need.need.used c.in_ok-need.need.rotations ≡ wanted_by c.args.circuit.now =
    wanted_is c.in_ok-need.need c.args.circuit.now.qubits c.args.products.now c.in_ok-need.ensures ∙ ap (demand_of c.args.circuit.now.qubits) c.requires.products in
    let named : c.args.word.now ≢ codes "-" = search rules in
    let s = seen (g.S.Shelf.tells c.args.shelf.now) (g.S.Shelf.faults c.args.shelf.now) (g.S.Shelf.faults c.read_limited.new.shelf) c.args.word.now in
    let whole = told_cut (g.S.Shelf.tells c.args.shelf.now c.args.word.now) (λ (t : List ℕ). StandsFor t d) c.in_ok-text.text.items (grids_alike d) (told named) c.in_ok-text.ensures.text
    (text_stands c.args.word.now s c.args.circuit.now d named stands) in
    let opened = subst (λ (w : Demand). Open d w) (sym asked) stands.1 in
    c.in_ok-layout.ensures.exact d (rw c.deref.ensures.value whole) opened

pub returns-clause-faults : goal.returns-clause-faults
returns-clause-faults g c = λ f told refusal.
    let asked : demand c.in_ok-need.need.used c.in_ok-need.need.rotations ≡ wanted_by c.args.circuit.now =
    wanted_is c.in_ok-need.need c.args.circuit.now.qubits c.args.products.now c.in_ok-need.ensures ∙ ap (demand_of c.args.circuit.now.qubits) c.requires.products in
    let named : c.args.word.now ≢ codes "-" = search rules in
    let s = seen (g.S.Shelf.tells c.args.shelf.now) (g.S.Shelf.faults c.args.shelf.now) (g.S.Shelf.faults c.read_limited.new.shelf) c.args.word.now in
    let whole = told_cut (g.S.Shelf.tells c.args.shelf.now c.args.word.now) (λ (t : List ℕ). Refused t (wanted_by c.args.circuit.now) f) c.in_ok-text.text.items (refusals_alike (wanted_by c.args.circuit.now) f) (told named) c.in_ok-text.ensures.text
    (text_refused c.args.word.now s c.args.circuit.now f named refusal) in
    c.in_ok-layout.ensures.told f refusal.0 (rw c.deref.ensures.value (subst (λ (w : Demand). Refused c.in_ok-text.text.items w f) (sym asked) whole))
