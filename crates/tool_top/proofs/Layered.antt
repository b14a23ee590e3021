-- What the layers of a circuit's static products rest on.
use Rattle.std.proofs.Common.{◌≡◌, ℕ, ◌≤◌, Bool, List, length, All, sym, ◌∙◌, subst, arith}
use Rattle.std.proofs.lemmas.List.{length-map}
use Rattle.source_model.specs.declared.Circuit.{Circuit}
use Rattle.source_model.specs.declared.Static.{Static}
use Rattle.source_model.specs.Statics.{statics}
use Rattle.source_model.proofs.Laws.{statics_keep_kinds}
use Rattle.pauli_product.specs.Signed.{Signed}
use Rattle.commute_order.specs.declared.Uses.{Uses}
use Rattle.commute_order.specs.Commuting.{IsOrder}
use Rattle.board_core.specs.Laws.{ProductsOfLength}
use Rattle.board_core.specs.Uses.{IsOrderOf, all_axes, all_uses}
use Rattle.layer_pass.specs.declared.Layers.{Layers}
use Rattle.layer_pass.specs.Layering.{IsLayering}
use Rattle.job_read.specs.Kept.{IsCircuit}
use Rattle.job_read.proofs.Keeping.{as_many, axes_long}

-- the static products of a circuit are few, and on equally many qubits
pub few_statics : (c : Circuit) → IsCircuit c → length (statics c.items) ≤ 16384
few_statics c kept =
    let many = as_many (statics c.items) c.items (statics_keep_kinds c.items) in
    let few = kept.few_products in
    omega arith

pub statics_long : (c : Circuit) → IsCircuit c → (n : ℕ) × ProductsOfLength n (statics c.items)
statics_long c kept = (c.qubits, axes_long c.qubits c.items kept.well_formed.axes_fit)

-- ---- what their text asks of layers

abbrev pub Layered : List (List Bool) → Layers → Type 0
Layered rows l = (ps : List Signed) (us : List Uses) → IsOrder ps us rows → IsLayering ps us l.layer l.count

pub few_numbers : (products : List Static) (rows : List (List Bool)) (l : Layers) (layer : List ℕ) → length products ≤ 16384 → IsOrderOf products rows → Layered rows l → layer ≡ l.layer → length layer ≤ 16384
few_numbers products rows l layer few order layered same =
    let n = (layered (all_axes products) (all_uses products) order).size in
    let m = length-map products (λ (s : Static). s.axis) in
    subst (λ (xs : List ℕ). length xs ≤ 16384) (sym same) (omega (arith, n ∙ m))

pub within_numbers : (products : List Static) (rows : List (List Bool)) (l : Layers) (layer : List ℕ) → IsOrderOf products rows → Layered rows l → layer ≡ l.layer → All (λ k. (1 ≤ k) × (k ≤ l.count)) layer
within_numbers products rows l layer order layered same =
    subst (All (λ k. (1 ≤ k) × (k ≤ l.count))) (sym same) (layered (all_axes products) (all_uses products) order).numbers
