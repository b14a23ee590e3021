use Rattle.std.proofs.Common.{◌≡◌, ◌≤◌, List, ℕ, length, subst, sym, ◌∙◌, arith}
use Rattle.pauli_product.specs.Signed.{Signed}
use Rattle.commute_order.specs.declared.Uses.{Uses}
use Rattle.commute_order.specs.Commuting.{IsOrder}
use Rattle.layer_pass.specs.Layering.{IsLayering, IsChain, IsTraced}
use Rattle.layer_pass.specs.inside.Drafts.{IsWalk}
use Rattle.layer_pass.proofs.Tracing.{is_layering, lowest, fewest, is_traced, is_chain}
use Rattle.layer_pass.proofs.least_layers.Goals as goal
use Rattle.layer_pass.proofs.least_layers.Goals.{After-drop-draft-3}

-- the answer's chain is the one that was traced
walk : (c : After-drop-draft-3) → IsWalk c.in_ok-draft.draft.rows.items c.in_ok-draft.draft.before.items c.in_ok-chain.chain.items
walk c =
    let chain = c.in_ok-chain.chain.items in
    subst (λ (before : List ℕ). IsWalk c.in_ok-draft.draft.rows.items before chain) c.deref-2.ensures.value
    (subst (λ (rows : List (List ℕ)). IsWalk rows c.deref-2.result.now chain) c.deref.ensures.value c.in_ok-chain.ensures)

-- the answer's count is that of the rows
count : (c : After-drop-draft-3) → length c.in_ok-draft.draft.rows.items ≡ c.len.result
count c = omega (arith, c.in_ok-draft.draft.rows.ok.0, c.len.ensures)

-- there is a layer number for each product
size : (c : After-drop-draft-3) (ps : List Signed) (us : List Uses) → IsOrder ps us c.args.order.now → length c.in_ok-draft.draft.layer.items ≡ length ps
size c ps us order = c.in_ok-draft.ensures.sizes.0 ∙ c.requires ∙ order.size

pub returns-clause-layering : goal.returns-clause-layering
returns-clause-layering c = λ ps us order.
    let d = c.in_ok-draft.draft in
    let e = c.in_ok-draft.ensures in
    subst (IsLayering ps us c.of.result) (count c)
    (subst (λ (layer : List ℕ). IsLayering ps us layer (length d.rows.items)) (sym c.of.ensures)
    (is_layering ps us d.layer.items d.before.items d.rows.items (size c ps us order) (e.draft ps us order) e.filled))

pub returns-clause-lowest : goal.returns-clause-lowest
returns-clause-lowest c = λ ps us order other n is p h.
    let d = c.in_ok-draft.draft in
    let e = c.in_ok-draft.ensures in
    rw c.of.ensures (lowest ps us d.layer.items d.before.items d.rows.items (size c ps us order) (e.draft ps us order) e.filled other n is p (omega (arith, size c ps us order)))

pub returns-clause-fewest : goal.returns-clause-fewest
returns-clause-fewest c = λ ps us order other n is.
    let d = c.in_ok-draft.draft in
    let e = c.in_ok-draft.ensures in
    subst (λ k. k ≤ n) (count c)
    (fewest ps us d.layer.items d.before.items d.rows.items (size c ps us order) (e.draft ps us order) e.filled c.in_ok-chain.chain.items (walk c) other n is)

pub returns-clause-chain : goal.returns-clause-chain
returns-clause-chain c = λ ps us order.
    let d = c.in_ok-draft.draft in
    let e = c.in_ok-draft.ensures in
    subst (IsChain ps us) (sym c.of-2.ensures)
    (is_chain ps us d.layer.items d.before.items d.rows.items (size c ps us order) (e.draft ps us order) e.filled c.in_ok-chain.chain.items (walk c))

pub returns-clause-traced : goal.returns-clause-traced
returns-clause-traced c = λ ps us order.
    let d = c.in_ok-draft.draft in
    let e = c.in_ok-draft.ensures in
    subst (λ (layer : List ℕ). IsTraced ps us layer c.of-2.result) (sym c.of.ensures)
    (subst (IsTraced ps us d.layer.items) (sym c.of-2.ensures)
    (is_traced ps us d.layer.items d.before.items d.rows.items (size c ps us order) (e.draft ps us order) e.filled c.in_ok-chain.chain.items (walk c)))
