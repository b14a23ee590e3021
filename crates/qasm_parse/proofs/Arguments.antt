-- The arguments of a call.
use Rattle.std.proofs.Common.{◌≡◌, ℕ, ◌+◌, ◌<◌, List, [], ◌∷◌, ◌++◌, map, length, take, get_or, Option, Some, None, is_none, refl, sym, ap, ◌∙◌}
use Rattle.qasm_lex.specs.declared.fault.FaultKind.TheVariants.{Undeclared}
use Rattle.qasm_parse.specs.declared.stop.Stop.{Stop}
use Rattle.qasm_grammar.specs.declared.spoken.Argument.{Argument}
use Rattle.qasm_parse.specs.declared.known.Span.{Span}
use Rattle.qasm_parse.specs.declared.tree.Arg.{Arg}
use Rattle.qasm_parse.proofs.Lists.{map_more}
use Rattle.qasm_parse.proofs.First.{first_front, first_behind, first_at, first_more, first_joined}
use Rattle.qasm_parse.specs.Lexed.{Lexed}
use Rattle.qasm_parse.specs.Faults.{Registers, first_fault, argument_faults, all_meant, broken, name_place, register_of, undeclared, past_end, meant}

pub no_register : (x : Lexed) (find : Registers) (a : Argument) → register_of x find a ≡ None → undeclared x find (name_place a) ≡ Some (record { at = name_place a; kind = Undeclared })
no_register x find a e = ap (λ (r : Option Span). broken Undeclared (is_none r) (name_place a)) e

pub a_register : (x : Lexed) (find : Registers) (a : Argument) (r : Span) → register_of x find a ≡ Some r → undeclared x find (name_place a) ≡ None
a_register x find a r e = ap (λ (o : Option Span). broken Undeclared (is_none o) (name_place a)) e

-- the rules of the names of arguments, and of their indices
abbrev unnamed : Lexed → Registers → Argument → Option Stop
unnamed x find a = undeclared x find (name_place a)

abbrev passing : Lexed → Registers → Argument → Option Stop
passing x find a = past_end x (register_of x find a) a

abbrev meaning_of : Lexed → Registers → Argument → Arg
meaning_of x find a = meant x (register_of x find a) a

-- the first arguments name registers; the first index among them that is past its end is known, and else what they mean
pub record Resolved (x : Lexed) (find : Registers) (args : List Argument) (past : Option Stop) (means : List Arg) : Type 0 where
  pub named : first_fault (map (unnamed x find) args) ≡ None
  pub passed : past ≡ first_fault (map (passing x find) args)
  pub meaning : past ≡ None → means ≡ map (meaning_of x find) args

pub resolved_stop : (x : Lexed) (find : Registers) (args : List Argument) (i : ℕ) (d : Argument) (past : Option Stop) (means : List Arg) → i < length args → Resolved x find (take i args) past means → register_of x find (get_or args i d) ≡ None → first_fault (argument_faults x find args) ≡ Some (record { at = name_place (get_or args i d); kind = Undeclared })
resolved_stop x find args i d past means lt r e =
    let a = get_or args i d in
    first_front (map (unnamed x find) args) (map (passing x find) args) (record { at = name_place a; kind = Undeclared })
    (first_at (unnamed x find) args i d (record { at = name_place a; kind = Undeclared }) lt r.named (no_register x find a e))

head_none : (o : Option Stop) (ys : List (Option Stop)) → first_fault (o ∷ ys) ≡ None → o ≡ None
unfolding first_fault
head_none None ys e = refl
head_none (Some s) ys e = cc

pub resolved_step : (x : Lexed) (find : Registers) (args : List Argument) (i : ℕ) (d : Argument) (past now : Option Stop) (means new : List Arg) (r : Span) → i < length args → Resolved x find (take i args) past means → register_of x find (get_or args i d) ≡ Some r
    → now ≡ first_fault (past ∷ past_end x (Some r) (get_or args i d) ∷ []) → (now ≡ None → new ≡ means ++ meant x (Some r) (get_or args i d) ∷ []) → Resolved x find (take (i + 1) args) now new
resolved_step x find args i d past now means new r lt h e first added =
    let a = get_or args i d in
    record {
      named = first_more (unnamed x find) args i d lt h.named (a_register x find a r e);
      passed =
          first
          ∙ ap (λ (o : Option Stop). first_fault (o ∷ past_end x (Some r) a ∷ [])) h.passed
          ∙ ap (λ (o : Option Span). first_fault (first_fault (map (passing x find) (take i args)) ∷ past_end x o a ∷ [])) (sym e)
          ∙ sym (first_joined (map (passing x find) (take i args)) (passing x find a))
          ∙ ap first_fault (sym (map_more (passing x find) args i d lt));
      meaning = λ none.
          added none
          ∙ ap (λ (ys : List Arg). ys ++ meant x (Some r) a ∷ []) (h.meaning (head_none past (past_end x (Some r) a ∷ []) (sym first ∙ none)))
          ∙ ap (λ (o : Option Span). map (meaning_of x find) (take i args) ++ meant x o a ∷ []) (sym e)
          ∙ sym (map_more (meaning_of x find) args i d lt);
    }

pub resolved_past : (x : Lexed) (find : Registers) (args : List Argument) (means : List Arg) (stop : Stop) → Resolved x find args (Some stop) means → first_fault (argument_faults x find args) ≡ Some stop
resolved_past x find args means stop r = first_behind (map (unnamed x find) args) (map (passing x find) args) r.named ∙ sym r.passed

pub resolved_all : (x : Lexed) (find : Registers) (args : List Argument) (means : List Arg) → Resolved x find args None means → (first_fault (argument_faults x find args) ≡ None) × (means ≡ all_meant x find args)
resolved_all x find args means r = (first_behind (map (unnamed x find) args) (map (passing x find) args) r.named ∙ sym r.passed, r.meaning refl)
