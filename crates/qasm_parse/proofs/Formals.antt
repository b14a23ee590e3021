-- The formal names of a definition.
use Rattle.std.proofs.Common.{◌≡◌, ℕ, ◌+◌, ◌<◌, ◌≤◌, List, [], ◌∷◌, ◌++◌, map, length, take, drop, get_or, Option, Some, None, is_none, is_some, unwrap_or, sym, ap, ◌∙◌, take_all}
use Rattle.std.proofs.lemmas.List.{drop_all}
use Rattle.qasm_lex.specs.declared.fault.FaultKind.TheVariants.{Undeclared, Declared}
use Rattle.qasm_parse.specs.Lexed.{Lexed, word_at}
use Rattle.qasm_parse.specs.Known.{place_of}
use Rattle.qasm_parse.specs.Faults.{broken, first_fault, repeated, informal, formal_of}
use Rattle.qasm_parse.proofs.Lists.{map_more, next_of}
use Rattle.qasm_parse.proofs.First.{first_at, first_more, first_none}
use Rattle.qasm_parse.proofs.Broken.{stop_at, rule_is, rule_not}

-- the first formal names are new
pub record Fresh (x : Lexed) (formals : List ℕ) (i : ℕ) (names : List (List ℕ)) : Type 0 where
  pub rest : first_fault (repeated x [] formals) ≡ first_fault (repeated x names (drop i formals))
  pub named : names ≡ map (word_at x) (take i formals)

pub fresh_stop : (x : Lexed) (formals : List ℕ) (i d place : ℕ) (names : List (List ℕ)) → i < length formals → Fresh x formals i names → place_of names (word_at x (get_or formals i d)) ≡ Some place → first_fault (repeated x [] formals) ≡ Some (stop_at Declared (get_or formals i d))
fresh_stop x formals i d place names lt f e =
    f.rest
    ∙ ap (λ (fs : List ℕ). first_fault (repeated x names fs)) (next_of formals i d lt)
    ∙ rule_is Declared (is_some (place_of names (word_at x (get_or formals i d)))) (get_or formals i d) _ (ap is_some e)

pub fresh_step : (x : Lexed) (formals : List ℕ) (i d : ℕ) (names new : List (List ℕ)) → i < length formals → Fresh x formals i names → place_of names (word_at x (get_or formals i d)) ≡ None → new ≡ names ++ word_at x (get_or formals i d) ∷ [] → Fresh x formals (i + 1) new
fresh_step x formals i d names new lt f e n = record {
  rest =
      f.rest
      ∙ ap (λ (fs : List ℕ). first_fault (repeated x names fs)) (next_of formals i d lt)
      ∙ rule_not Declared (is_some (place_of names (word_at x (get_or formals i d)))) (get_or formals i d) _ (ap is_some e)
      ∙ ap (λ (ns : List (List ℕ)). first_fault (repeated x ns (drop (i + 1) formals))) (sym n);
  named = n ∙ ap (λ (ns : List (List ℕ)). ns ++ word_at x (get_or formals i d) ∷ []) f.named ∙ sym (map_more (word_at x) formals i d lt);
}

pub fresh_all : (x : Lexed) (formals : List ℕ) (i : ℕ) (names : List (List ℕ)) → length formals ≤ i → Fresh x formals i names → (first_fault (repeated x [] formals) ≡ None) × (names ≡ map (word_at x) formals)
fresh_all x formals i names le f =
    let none : drop i formals ≡ [] = drop_all i formals le in
    (f.rest ∙ ap (λ (fs : List ℕ). first_fault (repeated x names fs)) none ∙ first_none, f.named ∙ ap (map (word_at x)) (take_all i formals le))

-- the first arguments are formal names, with these numbers
pub record Numbered (x : Lexed) (names : List (List ℕ)) (args : List ℕ) (numbers : List ℕ) : Type 0 where
  pub known : first_fault (map (informal x names) args) ≡ None
  pub same : numbers ≡ map (formal_of x names) args

pub numbered_stop : (x : Lexed) (names : List (List ℕ)) (args numbers : List ℕ) (i d : ℕ) → i < length args → Numbered x names (take i args) numbers → place_of names (word_at x (get_or args i d)) ≡ None → first_fault (map (informal x names) args) ≡ Some (stop_at Undeclared (get_or args i d))
numbered_stop x names args numbers i d lt n e =
    first_at (informal x names) args i d (stop_at Undeclared (get_or args i d)) lt n.known (ap (λ (o : Option ℕ). broken Undeclared (is_none o) (get_or args i d)) e)

pub numbered_step : (x : Lexed) (names : List (List ℕ)) (args numbers new : List ℕ) (i d place : ℕ) → i < length args → Numbered x names (take i args) numbers → place_of names (word_at x (get_or args i d)) ≡ Some place → new ≡ numbers ++ place ∷ [] → Numbered x names (take (i + 1) args) new
numbered_step x names args numbers new i d place lt n e m = record {
  known = first_more (informal x names) args i d lt n.known (ap (λ (o : Option ℕ). broken Undeclared (is_none o) (get_or args i d)) e);
  same =
      m
      ∙ ap (λ (ns : List ℕ). ns ++ place ∷ []) n.same
      ∙ ap (λ (o : Option ℕ). map (formal_of x names) (take i args) ++ unwrap_or o 0 ∷ []) (sym e)
      ∙ sym (map_more (formal_of x names) args i d lt);
}
