-- Reading statement by statement.
use Rattle.std.proofs.lemmas.List.{length-map}
use Rattle.std.proofs.Common.{◌≡◌, ℕ, Bool, false, ◌-◌, ◌<◌, ◌≤◌, List, [], ◌∷◌, length, drop, Option, Result, Ok, Err, refl, sym, ap, subst, ◌∙◌, arith}
use Rattle.qasm_parse.specs.declared.stop.Stop.{Stop}
use Rattle.qasm_parse.specs.declared.stop.Fault.{Fault}
use Rattle.qasm_parse.specs.declared.stop.Fault.TheVariants.{Memory, Stopping}
use Rattle.qasm_grammar.specs.declared.spoken.Sentence.{Sentence}
use Rattle.qasm_grammar.specs.declared.terminal.Terminal.{Terminal}
use Rattle.qasm_parse.specs.declared.known.Known.{Known}
use Rattle.qasm_grammar.specs.Forms.{done, reads, may_end, Stopped}
use Rattle.qasm_grammar.specs.Grammar.{one_version, one_statement}
use Rattle.qasm_grammar.specs.Spelling.{Spells, sentence_text}
use Rattle.qasm_grammar.specs.declared.follow.Halt.{Halt}
use Rattle.qasm_grammar.specs.declared.follow.Unread.{Unread}
use Rattle.qasm_grammar.specs.declared.follow.Unread.TheVariants as unreads
use Rattle.qasm_parse.specs.Lexed.{Lexed}
use Rattle.qasm_parse.specs.Refused.{stop_of, told}
use Rattle.qasm_parse.specs.inside.Refused.{fault_of}
use Rattle.qasm_parse.specs.Known.{nothing_known}
use Rattle.qasm_parse.specs.Faults.{faults}
use Rattle.qasm_parse.specs.inside.Meets.{Meets}
use Rattle.qasm_parse.specs.Behind.{behind}
use Rattle.qasm_parse.specs.Pass.{terminals, unless, Continues, ends, stops, breaks, goes_on, Behind, Reading}
use Rattle.qasm_parse.specs.inside.Pass.{ReadsAll}

pub reads_done : (ts : List Terminal) (n : ℕ) → reads done ts n ≡ Ok n
unfolding reads may_end
reads_done [] n = refl
reads_done (t ∷ ts) n = refl

-- all that reading on gives is what reading the text gives
abbrev pub LeadsOn : Lexed → Known → ℕ → Type 0
LeadsOn x k at = (r : Result Known Stop) → Continues x k at r → Reading x r

pub version_stops : (x : Lexed) (u : Unread) → Stopped u (reads one_version (terminals x false) 0) → ReadsAll x (Err (fault_of u))
version_stops x unreads.Memory s = tt
version_stops x (unreads.Halted halt) s =
    let P : Result ℕ Halt → Type 0 = λ v. Behind x (told v) (Err (stop_of halt)) in
    subst P (sym s) refl

pub version_read : (x : Lexed) (at : ℕ) → reads one_version (terminals x false) 0 ≡ Ok at → LeadsOn x nothing_known at
version_read x at e = λ r h.
    let P : Result ℕ Halt → Type 0 = λ v. Behind x (told v) r in
    subst P (sym e) h

pub statement_stops : (x : Lexed) (k : Known) (at : ℕ) (u : Unread) → LeadsOn x k at → at < length x.tokens → Stopped u (reads one_statement (drop at (terminals x k.included)) at) → ReadsAll x (Err (fault_of u))
statement_stops x k at unreads.Memory on lt s = tt
statement_stops x k at (unreads.Halted halt) on lt s = on (Err (stop_of halt)) (stops k at (stop_of halt) (lt, ap told s))

pub statement_breaks : (x : Lexed) (k : Known) (at end : ℕ) (s : Sentence) (fault : Fault) → LeadsOn x k at → reads one_statement (drop at (terminals x k.included)) at ≡ Ok end → Spells (sentence_text s) (terminals x k.included) at end → Meets (Err fault) (faults x k at s) (behind x k at s) → ReadsAll x (Err fault)
statement_breaks x k at end s Memory on e spelled m = tt
statement_breaks x k at end s (Stopping stop) on e spelled m = on (Err stop) (breaks k at end s stop e spelled (ap (λ (o : Option Stop). unless o (behind x k at s)) m))

pub statement_read : (x : Lexed) (k next : Known) (at end : ℕ) (s : Sentence) → LeadsOn x k at → reads one_statement (drop at (terminals x k.included)) at ≡ Ok end → Spells (sentence_text s) (terminals x k.included) at end → Meets (Ok next) (faults x k at s) (behind x k at s) → LeadsOn x next end
statement_read x k next at end s on e spelled m = λ r h.
    on r (goes_on k next at end s r e spelled (ap (λ (o : Option Stop). unless o (behind x k at s)) m.0 ∙ ap (λ (d : Known). Ok d) (sym m.1)) h)

pub text_read : (x : Lexed) (k : Known) (at : ℕ) → LeadsOn x k at → at ≡ length x.tokens → ReadsAll x (Ok k)
text_read x k at on e =
    let P : ℕ → Type 0 = λ n. Continues x k n (Ok k) in
    on (Ok k) (subst P (sym e) (ends k))

-- a place that reading has come to, with what the grammar sees there
pub record Standing (x : Lexed) (found : List Terminal) (k : Known) (at : ℕ) : Type 0 where
  pub within : at ≤ length x.tokens
  pub seen : found ≡ terminals x k.included
  pub on : LeadsOn x k at

count : (x : Lexed) (b : Bool) (found : List Terminal) → found ≡ terminals x b → length found ≡ length x.tokens
count x b found e = rw (e, length-map) refl

pub standing_first : (x : Lexed) (found : List Terminal) (at : ℕ) → found ≡ terminals x false → at ≤ length found → reads one_version (drop 0 found) 0 ≡ reads done (drop at found) at → Standing x found nothing_known at
standing_first x found at e le form = record {
  within = omega (arith, count x false found e, le);
  seen = e;
  on = version_read x at (ap (λ (ts : List Terminal). reads one_version ts 0) (sym e) ∙ form ∙ reads_done (drop at found) at);
}

pub standing_statement : (x : Lexed) (found : List Terminal) (k : Known) (at end : ℕ) → Standing x found k at → reads one_statement (drop at found) at ≡ reads done (drop end found) end → reads one_statement (drop at (terminals x k.included)) at ≡ Ok end
standing_statement x found k at end s form = ap (λ (ts : List Terminal). reads one_statement (drop at ts) at) (sym s.seen) ∙ form ∙ reads_done (drop end found) end

pub standing_next : (x : Lexed) (found new : List Terminal) (k next : Known) (at end : ℕ) (s : Sentence) → Standing x found k at → end ≤ length found → reads one_statement (drop at found) at ≡ reads done (drop end found) end → Spells (sentence_text s) found at end → Meets (Ok next) (faults x k at s) (behind x k at s) → new ≡ terminals x next.included → Standing x new next end
standing_next x found new k next at end s h le form spelled m e =
    let P : List Terminal → Type 0 = λ ts. Spells (sentence_text s) ts at end in
    record {
      within = omega (arith, count x k.included found h.seen, le);
      seen = e;
      on = statement_read x k next at end s h.on (standing_statement x found k at end h form) (subst P h.seen spelled) m;
    }

pub standing_stops : (x : Lexed) (found : List Terminal) (k : Known) (at : ℕ) (u : Unread) → Standing x found k at → at < length found → Stopped u (reads one_statement (drop at found) at) → ReadsAll x (Err (fault_of u))
standing_stops x found k at u h lt s =
    let P : List Terminal → Type 0 = λ ts. Stopped u (reads one_statement (drop at ts) at) in
    statement_stops x k at u h.on (omega (arith, count x k.included found h.seen, lt)) (subst P h.seen s)

pub standing_breaks : (x : Lexed) (found : List Terminal) (k : Known) (at end : ℕ) (s : Sentence) (fault : Fault) → Standing x found k at → reads one_statement (drop at found) at ≡ reads done (drop end found) end → Spells (sentence_text s) found at end → Meets (Err fault) (faults x k at s) (behind x k at s) → ReadsAll x (Err fault)
standing_breaks x found k at end s fault h form spelled m =
    let P : List Terminal → Type 0 = λ ts. Spells (sentence_text s) ts at end in
    statement_breaks x k at end s fault h.on (standing_statement x found k at end h form) (subst P h.seen spelled) m

pub standing_last : (x : Lexed) (found : List Terminal) (k : Known) (at : ℕ) → Standing x found k at → length found ≤ at → ReadsAll x (Ok k)
standing_last x found k at h le = text_read x k at h.on (omega (arith, count x k.included found h.seen, le, h.within))

pub standing_left : (x : Lexed) (found : List Terminal) (k : Known) (at end : ℕ) → Standing x found k at → at < end → end ≤ length found → length x.tokens - end < length x.tokens - at
standing_left x found k at end h lt le = omega (arith, count x k.included found h.seen, lt, le)
