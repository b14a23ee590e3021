use Rattle.std.proofs.Common.{◌≡◌, ℕ, ◌+◌, ◌∙◌, ◌++◌, ◌∷◌, [], List, Option, map, ap, sym, arith}
use Rattle.std.specs.List.{range_with_len}
use Rattle.std.proofs.lemmas.List.FromFn.{map-range_with_len_more}
use Rattle.source_model.specs.declared.Kind.{Kind}
use Rattle.live_readout.specs.Wanted.{wanted_at}
use Rattle.live_readout.proofs.wanted.wanted_of.Goals as goal

-- one product more
pub loop-p-preserved : goal.loop-p-preserved
loop-p-preserved c =
    let at : ℕ → Option Kind = wanted_at c.args.board.now in
    let p = c.loop-p.p in
    let e : 0 + p ≡ p = omega arith in
    c.in_ok-push.ensures.items ∙ ap (λ (l : List (Option Kind)). l ++ c.wanted_at.result ∷ []) c.loop-p.invariant
    ∙ ap (λ (x : Option Kind). map at (range_with_len 0 p) ++ x ∷ []) c.wanted_at.ensures ∙ sym (map-range_with_len_more at 0 p p e)
