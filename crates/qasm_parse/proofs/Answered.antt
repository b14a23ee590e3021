-- Each text with its tokens has a tree or a fault.
use Rattle.std.proofs.Common.{◌≡◌, ◌⊎◌, inl, inr, ℕ, suc, zero, ◌+◌, ◌<◌, ◌≤◌, Bool, true, false, List, length, drop, Result, Ok, Err, refl, sym, ap, subst, arith}
use Rattle.std.specs.Prelude.{nat_lt}
use Rattle.std.proofs.lemmas.Bool.Decides.{nat_tests}
use Rattle.std.proofs.lemmas.List.{length-map}
use Rattle.qasm_lex.specs.declared.Token.{Token}
use Rattle.qasm_lex.specs.declared.fault.FaultKind.{FaultKind}
use Rattle.qasm_grammar.specs.declared.follow.Halt.{Halt}
use Rattle.qasm_grammar.specs.declared.spoken.Sentence.{Sentence}
use Rattle.qasm_grammar.specs.Forms.{reads}
use Rattle.qasm_grammar.specs.Grammar.{one_version, one_statement}
use Rattle.qasm_grammar.specs.Spelling.{Spells, sentence_text}
use Rattle.qasm_grammar.proofs.Laws.{law_read, law_some_sentence}
use Rattle.qasm_parse.specs.declared.stop.Stop.{Stop}
use Rattle.qasm_parse.specs.declared.known.Known.{Known}
use Rattle.qasm_parse.specs.declared.tree.Tree.{Tree}
use Rattle.qasm_parse.specs.Words.{terminal_of, line_at}
use Rattle.qasm_parse.specs.Lexed.{Lexed}
use Rattle.qasm_parse.specs.Refused.{stop_of, told}
use Rattle.qasm_parse.specs.Known.{nothing_known}
use Rattle.qasm_parse.specs.Pass.Continues.{ends, stops, breaks, goes_on}
use Rattle.qasm_parse.specs.Pass.{terminals, tried, Continues, Reading, HasTree, HasFault}
use Rattle.qasm_parse.specs.Laws.{TreeOrFault}

nat_lt→< : (n m : ℕ) → nat_lt n m ≡ true → n < m
nat_lt→< n m e = grind (arith, nat_tests)

at_end : (n m : ℕ) → n ≤ m → nat_lt n m ≡ false → n ≡ m
at_end n m le e = grind (arith, nat_tests)

-- reading on from a place gives something
abbrev Goes : Lexed → Known → ℕ → Type 0
Goes x k at = (r : Result Known Stop) × Continues x k at r

count : (x : Lexed) (b : Bool) → length (terminals x b) ≡ length x.tokens
count x b = length-map x.tokens (terminal_of b x.text)

goes_spelled : (x : Lexed) (k : Known) (at end : ℕ) (s : Sentence) → reads one_statement (drop at (terminals x k.included)) at ≡ Ok end → Spells (sentence_text s) (terminals x k.included) at end
    → ((next : Known) → Goes x next end) → (t : Result Known Stop) → tried x k at s ≡ t → Goes x k at
goes_spelled x k at end s e spelled on (Err stop) t = (Err stop, breaks k at end s stop e spelled t)
goes_spelled x k at end s e spelled on (Ok next) t = (let r = on next in (r.0, goes_on k next at end s r.0 e spelled t r.1))

goes_read : (x : Lexed) (k : Known) (at : ℕ) → at < length x.tokens → ((next : Known) (end : ℕ) → at < end → end ≤ length x.tokens → Goes x next end)
    → (v : Result ℕ Halt) → reads one_statement (drop at (terminals x k.included)) at ≡ v → Goes x k at
goes_read x k at lt on (Err halt) e = (Err (stop_of halt), stops k at (stop_of halt) (lt, ap told e))
goes_read x k at lt on (Ok end) e =
    let s = law_some_sentence (terminals x k.included) at end e in
    goes_spelled x k at end s.0 e s.1 (λ next. on next end s.2 (omega (arith, s.3, count x k.included))) (tried x k at s.0) refl

goes_left : (x : Lexed) (k : Known) (at : ℕ) → at ≤ length x.tokens → ((next : Known) (end : ℕ) → at < end → end ≤ length x.tokens → Goes x next end)
    → (b : Bool) → nat_lt at (length x.tokens) ≡ b → Goes x k at
goes_left x k at le on true e = goes_read x k at (nat_lt→< at (length x.tokens) e) on (reads one_statement (drop at (terminals x k.included)) at) refl
goes_left x k at le on false e = (Ok k, subst (λ (n : ℕ). Continues x k n (Ok k)) (sym (at_end at (length x.tokens) le e)) (ends k))

-- with so many tokens left at most
goes : (left : ℕ) (x : Lexed) (k : Known) (at : ℕ) → at ≤ length x.tokens → length x.tokens ≤ at + left → Goes x k at
goes zero x k at le most =
    let here : at ≡ length x.tokens = omega (arith, le, most) in
    (Ok k, subst (λ (n : ℕ). Continues x k n (Ok k)) (sym here) (ends k))
goes (suc left) x k at le most =
    goes_left x k at le (λ next end further within. goes left x next end within (omega (arith, most, further))) (nat_lt at (length x.tokens)) refl

reading : (x : Lexed) → (r : Result Known Stop) × Reading x r
reading x = from (reads one_version (terminals x false) 0) refl
  where
    from : (v : Result ℕ Halt) → reads one_version (terminals x false) 0 ≡ v → (r : Result Known Stop) × Reading x r
    from (Err halt) e = (Err (stop_of halt), rw e refl)
    from (Ok at) e =
        let r = law_read one_version (terminals x false) 0 at e in
        let g = goes (length x.tokens) x nothing_known at (omega (arith, r.place, r.within, count x false)) (omega arith) in
        (g.0, rw e g.1)

answer : (text : List ℕ) (tokens : List Token) (r : Result Known Stop) → Reading (record { text = text; tokens = tokens }) r
    → ((tree : Tree) × HasTree text tokens tree) ⊎ ((line : ℕ) × (kind : FaultKind) × HasFault text tokens line kind)
answer text tokens (Ok known) h = inl (known.tree, record { known = known; reading = h; same = refl })
answer text tokens (Err stop) h = inr (line_at text tokens stop.at, stop.kind, record { stop = stop; reading = h; same_line = refl; same_kind = refl })

pub tree_or_fault : TreeOrFault
tree_or_fault text tokens = (let r = reading (record { text = text; tokens = tokens }) in answer text tokens r.0 r.1)
