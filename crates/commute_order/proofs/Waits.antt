-- What a row and a list of done products say of waiting.
use Rattle.std.proofs.Common.{◌≡◌, ℕ, ◌<◌, Bool, true, false, not, ◌&&◌, List, [], length, get_or, Option, Some, None, MatchOption, ap, sym, ◌∙◌, arith}
use Rattle.std.proofs.lemmas.Option.{get_or_from_slice_get, slice_get-get_or}
use Rattle.pauli_product.specs.Signed.{Signed, plus, commute}
use Rattle.pauli_product.proofs.Laws.{commuting_mutual}
use Rattle.commute_order.specs.declared.Uses.{Uses}
use Rattle.commute_order.specs.inside.Words.{IsOpen}
use Rattle.commute_order.specs.Commuting.{reads_from, commuting, commuting_at, IsOrder, WaitsOn, LeastWait}

swapped : (a b c d : Bool) → a ≡ d → a && b && c ≡ d && c && b
swapped a b c d e = grind arith

commuting_swap : (p : Signed) (u : Uses) (q : Signed) (v : Uses) → commuting p u q v ≡ commuting q v p u
commuting_swap p u q v = swapped (commute p q) (not (reads_from u v)) (not (reads_from v u)) (commute q p) (commuting_mutual p q)

-- commuting goes both ways
pub commuting_at_swap : (ps : List Signed) (us : List Uses) (i j : ℕ) → commuting_at ps us i j ≡ commuting_at ps us j i
unfolding commuting_at
commuting_at_swap ps us i j =
    let none : Uses = record { read_first = 0; read_size = 0; write = None } in
    commuting_swap (get_or ps i (plus [])) (get_or us i none) (get_or ps j (plus [])) (get_or us j none)

not_true : (c : Bool) → true ≡ not c → c ≡ false
not_true c e = grind arith

module _ (ps : List Signed) (us : List Uses) (rows : List (List Bool)) (done : List Bool) (p : ℕ) (order : IsOrder ps us rows) (within : p < length rows) (long : length done ≡ length rows) where
  open_from : (j : ℕ) → WaitsOn ps us done p j → IsOpen (get_or rows p []) done j
  open_from j w = record {
    set = order.row p j (omega (arith, order.size)) (omega (arith, w.earlier)) ∙ ap not w.clash;
    undone = get_or_from_slice_get done j false false w.undone;
  }

  waits_from : (j : ℕ) → j < p → IsOpen (get_or rows p []) done j → WaitsOn ps us done p j
  waits_from j h o = record {
    earlier = h;
    clash = not_true (commuting_at ps us j p) (sym o.set ∙ order.row p j (omega (arith, order.size)) (omega arith));
    undone = slice_get-get_or done j false (omega arith) ∙ ap (λ (b : Bool). Some b) o.undone;
  }

  pub least_wait : (r : Option ℕ) → MatchOption r ((j : ℕ) → j < p → IsOpen (get_or rows p []) done j → ⊥) (λ j. (j < p) × IsOpen (get_or rows p []) done j × ((k : ℕ) → k < j → IsOpen (get_or rows p []) done k → ⊥)) → LeastWait ps us done p r
  least_wait None h = λ j w. h j w.earlier (open_from j w)
  least_wait (Some j) h = (waits_from j h.0 h.1, λ k l w. h.2 k l (open_from k w))
