-- The hand holds what it held, and the number that it took.
use Rattle.std.proofs.Common.{◌≡◌, ℕ, ◌+◌, ◌<◌, ◌++◌, ◌∷◌, [], List, sym, subst, arith}
use Rattle.std.proofs.lemmas.List.Elements.{Contains-append_left, Contains-push}
use Rattle.std.specs.List.{Contains}
use mathlib.Core.Logic.{dite}
use native.Mathlib.Decide.{ℕ_discrete}
use Rattle.number_share.specs.Hands.{NamedShare, Owner}
use Rattle.router_tests.specs.inside.Sites.{HoldsBelow}
use Rattle.router_tests.proofs.site.take_first.Goals as goal

holds_more : (s : NamedShare) (h after : Owner) (k n : ℕ) → HoldsBelow s h k → n ≡ k → n < s.numbers → after.held ≡ h.held ++ n ∷ [] → HoldsBelow s after (k + 1)
holds_more s h after k n before is inside held m below =
    dite (ℕ_discrete m k)
    (λ same. let e : n ≡ m = omega arith in
    (subst (λ (l : List ℕ). Contains l m) (sym held) (subst (λ (x : ℕ). Contains (h.held ++ n ∷ []) x) e (Contains-push h.held n)), omega arith))
    (λ other. let old = before m (omega arith) in
    (subst (λ (l : List ℕ). Contains l m) (sym held) (Contains-append_left h.held (n ∷ []) m old.0), old.1))

pub loop-number-preserved : goal.loop-number-preserved
loop-number-preserved c = record {
  share = c.take.ensures.share;
  taken = holds_more c.args.share.now c.loop-number.hand c.take.new.self c.loop-number.number c.in-Some.taken c.loop-number.invariant.taken c.if-taken-number.false c.in-Some.ensures.taken.0 c.in-Some.ensures.taken.1;
}

pub returns-clause-taken : goal.returns-clause-taken
returns-clause-taken c = λ n below.
    let done = c.loop-number-test.false in
    c.loop-number.invariant.taken n (omega arith)
