use Rattle.std.proofs.Common.{rules, ◌≡◌, ◌∷◌, ◌-◌, ℕ, List, [], IfSome, sym, subst, arith, codes, drop, length, map, string_bytes, take}
use Rattle.tool_words.specs.Commands.{IsRun, run_of, run_words}
use Rattle.tool_words.proofs.Only.{front, three}
use Rattle.tool_words.proofs.run.run_command.Goals as goal

pub returns-clause-listed : goal.returns-clause-listed
returns-clause-listed c =
    let words = c.args.words.now in
    let P : List (List ℕ) → Type 0 = λ ws. IfSome c.with_pairs.result (λ r. (ws ≡ run_words (run_of r)) × IsRun (run_of r)) in
    let named : c.as_str.result.now ≡ codes "side" = search rules in
    let all = front string_bytes words c.name-item.result c.layout-item.result c.k-item.result c.in-len3-up.len_at_least c.name-item.is c.layout-item.is c.k-item.is in
    let a = c.as_str.ensures.value in
    let b = c.as_str-2.ensures.value in
    let d = c.as_str-3.ensures.value in
    let e : map string_bytes words ≡ codes "side" ∷ c.as_str-2.result.now ∷ c.as_str-3.result.now ∷ map string_bytes (take (length words - 3) (drop 3 words)) = cc in
    subst P (sym e) c.with_pairs.ensures.listed

pub returns-in-len3-clause-listed : goal.returns-in-len3-clause-listed
returns-in-len3-clause-listed c =
    let words = c.args.words.now in
    let P : List (List ℕ) → Type 0 = λ ws. IfSome c.with_size.result (λ r. (ws ≡ run_words (run_of r)) × IsRun (run_of r)) in
    let named : c.as_str-then-words-lt4.result.now ≡ codes "big" = search rules in
    let low = c.in-len3.len_at_least in
    let high = c.in-len3.len_below in
    let all = three string_bytes words c.word-item.result c.size-item.result c.routers-item.result (omega arith) c.word-item.is c.size-item.is c.routers-item.is in
    let a = c.as_str-then-words-lt4.ensures.value in
    let b = c.as_str-in-len3.ensures.value in
    let d = c.as_str-in-len3-2.ensures.value in
    let e : map string_bytes words ≡ codes "big" ∷ c.as_str-in-len3.result.now ∷ c.as_str-in-len3-2.result.now ∷ [] = cc in
    subst P (sym e) c.with_size.ensures.listed
