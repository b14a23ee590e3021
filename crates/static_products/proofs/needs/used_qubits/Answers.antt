use Rattle.std.proofs.Common.{◌≡◌, ◌+◌, [], ◌∷◌, length, ap, ◌∙◌}
use Rattle.std.proofs.lemmas.List.{length-append}
use Rattle.source_model.specs.Used.{is_used}
use Rattle.static_products.proofs.Pulling.{used_by_any, get_more}
use Rattle.static_products.proofs.needs.used_qubits.Goals as goal

pub loop-q-preserved : goal.loop-q-preserved
loop-q-preserved c =
    let more = c.in_ok-push.ensures.items in
    let l : length c.loop-q.used.items ≡ c.loop-q.q = c.loop-q.invariant.0 in
    let is = c.is_used.ensures ∙ used_by_any c.loop-q.q c.args.products.now in
    let longer = length-append c.loop-q.used.items (c.is_used.result ∷ []) in
    let long : length c.push.new.self.items ≡ c.loop-q.q + 1 = ap length more ∙ longer ∙ ap (λ n. n + 1) l in
    (long, get_more _ _ _ (λ k. is_used c.args.products.now k) _ more l c.loop-q.invariant.1 is)
