-- Chains bound the layers of every layering.
use Rattle.std.proofs.Common.{◌≡◌, ℕ, zero, suc, ◌+◌, ◌<◌, ◌≤◌, List, length, get_or, arith}
use Rattle.pauli_product.specs.Signed.{Signed}
use Rattle.commute_order.specs.declared.Uses.{Uses}
use Rattle.layer_pass.specs.Layering.{IsLayering, IsChain, ChainsBoundLayerings}

-- the product at place i of a chain has at least the layer i + 1
pub chain_climbs : (ps : List Signed) (us : List Uses) (chain layer : List ℕ) (count : ℕ) → IsChain ps us chain → IsLayering ps us layer count → (i : ℕ) → i < length chain → i + 1 ≤ get_or layer (get_or chain i 0) 0
chain_climbs ps us chain layer count c l zero h =
    let number = l.numbers (get_or chain 0 0) 0 (omega (arith, c.products 0 0 h, l.size)) in
    omega (arith, number.0)
chain_climbs ps us chain layer count c l (suc i) h =
    let p = get_or chain i 0 in
    let q = get_or chain (i + 1) 0 in
    let lower : i + 1 ≤ get_or layer p 0 = chain_climbs ps us chain layer count c l i (omega arith) in
    let next : i + 1 ≡ suc i = omega arith in
    let inside : q < length ps = c.products (i + 1) 0 (omega arith) in
    let rises : get_or layer p 0 < get_or layer q 0 = l.apart p q (c.rising i (omega arith)) inside (c.clashes i (omega arith)) in
    let goal : i + 1 + 1 ≤ get_or layer q 0 = omega arith in
    rw next at goal

pub chains_bound_layerings : ChainsBoundLayerings
chains_bound_layerings ps us chain layer count c l = bound (length chain) (omega arith)
  where
    bound : (n : ℕ) → length chain ≡ n → n ≤ count
    bound zero e = omega arith
    bound (suc i) e =
        let climbs = chain_climbs ps us chain layer count c l i (omega arith) in
        let number = l.numbers (get_or chain i 0) 0 (omega (arith, c.products i 0 (omega arith), l.size)) in
        omega (arith, number.1)
