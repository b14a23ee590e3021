use Rattle.std.proofs.Common.{◌<◌, ◌-◌, ◌≡◌, ℕ, List, length, sym, subst, ◌∙◌, arith, Some, slice_get}
use Rattle.std.proofs.lemmas.List.{length-map}
use Rattle.std.proofs.lemmas.Option.{slice_get_read}
use Rattle.node_log.specs.Spots.{values}
use Rattle.node_log.proofs.Follows.{place_of-last, none_left}
use Rattle.node_log.proofs.log.Log.last.Goals as goal

pub returns-then-self-eq0 : goal.returns-then-self-eq0
returns-then-self-eq0 g c =
    let s = c.self.inside in
    let none : length s.chain.nodes ≡ 0 = omega (arith, c.self.invariant.0, c.if-self-eq0.true) in
    sym c.self.view_is ∙ none_left (values s.chain.nodes) (length-map s.chain.nodes (λ n. n.value) ∙ none)

pub value-requires : goal.value-requires
value-requires g c =
    let s = c.self.inside in
    let some : 0 < s.len = omega (arith, c.if-self-eq0.false) in
    (omega (arith, c.self.invariant.0), c.self.invariant.3 some ∙ sym (place_of-last s.chain.head s.chain.nodes (s.len - 1) (omega (arith, c.self.invariant.0))))

pub returns : goal.returns
returns g c =
    let s = c.self.inside in
    let X = λ (xs : List _). slice_get xs (length xs - 1) ≡ Some c.value.result.now in
    let size : length (values s.chain.nodes) ≡ s.len = length-map s.chain.nodes (λ n. n.value) ∙ sym c.self.invariant.0 in
    let some : s.len - 1 < s.len = omega (arith, c.if-self-eq0.false) in
    subst X c.self.view_is
    (subst (λ (n : ℕ). slice_get (values s.chain.nodes) (n - 1) ≡ Some c.value.result.now) (sym size)
    (slice_get_read (values s.chain.nodes) s.len (s.len - 1) c.value.result.now (sym size) some c.value.ensures))
