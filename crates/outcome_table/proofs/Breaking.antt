-- The first line that breaks a rule is the only one that is answered.
use Rattle.std.proofs.Common.{◌≡◌, ℕ, ◌+◌, List, [], ◌∷◌, ◌++◌, length, inl, inr, sym, ◌∙◌, ap, subst, arith}
use Rattle.std.proofs.lemmas.List.{append_assoc, append-nil}
use Rattle.patch_base.specs.Texts.{words, IsSkipped}
use Rattle.outcome_table.specs.declared.fault.OutcomeFault.{OutcomeFault}
use Rattle.outcome_table.specs.OutcomeText.{AllKept, AreRead, Asked, BreaksText, Kept, Line, Spells}
use Rattle.outcome_table.proofs.Spelled.{cons_parts, says_once, skipped_says}
use Rattle.outcome_table.proofs.Rules.{skipped_breaks, said_breaks, text_breaks_once}

-- behind these lines, the texts up to one keep every rule, and that one, of this number, doesn't
pub record Stops (a : Asked) (past : List Line) (n : ℕ) (texts : List (List ℕ)) (f : OutcomeFault) : Type 0 where
  pub before : List (List ℕ)
  pub broken : List ℕ
  pub behind : List (List ℕ)
  pub ls : List Line
  pub is : texts ≡ before ++ broken ∷ behind
  pub read : AreRead before ls
  pub kept : AllKept a past ls
  pub number : ℕ
  pub counted : number ≡ length before + n
  pub breaks : BreaksText a (past ++ ls) number broken f

-- such texts stop at the first, or are passed over, or keep the rules a line further
data Turn (a : Asked) (past : List Line) (n : ℕ) (text : List ℕ) (texts : List (List ℕ)) (f : OutcomeFault) : Type 0 where
  here : BreaksText a past n text f → Turn a past n text texts f
  passed : IsSkipped text → Stops a past (n + 1) texts f → Turn a past n text texts f
  kept : (line : Line) → Spells text line → Kept a past line → Stops a (past ++ line ∷ []) (n + 1) texts f → Turn a past n text texts f

turn_parts : (a : Asked) (past : List Line) (n : ℕ) (text : List ℕ) (texts : List (List ℕ)) (f : OutcomeFault) (before : List (List ℕ)) (broken : List ℕ) (behind : List (List ℕ)) (ls : List Line) (number : ℕ)
    → text ∷ texts ≡ before ++ broken ∷ behind → AreRead before ls → AllKept a past ls → number ≡ length before + n → BreaksText a (past ++ ls) number broken f → Turn a past n text texts f
turn_parts a past n text texts f [] broken behind ls number is read all counted breaks =
    let p = cons_parts text broken texts behind is in
    let P : List Line → Type 0 = λ xs. BreaksText a xs number broken f in
    let Q : ℕ → Type 0 = λ m. BreaksText a past m broken f in
    let R : List ℕ → Type 0 = λ t. BreaksText a past n t f in
    let none : past ++ ls ≡ past = ap (λ xs. past ++ xs) read ∙ append-nil past in
    let n_is : number ≡ n = omega arith in
    here (subst R (sym p.0) (subst Q n_is (subst P none breaks)))
turn_parts a past n text texts f (t ∷ before) broken behind ls number is (inl (skipped, read)) all counted breaks =
    let p = cons_parts text t texts (before ++ broken ∷ behind) is in
    passed (subst IsSkipped (sym p.0) skipped)
    (record { before = before; broken = broken; behind = behind; ls = ls; is = p.1; read = read; kept = all; number = number; counted = omega arith; breaks = breaks })
turn_parts a past n text texts f (t ∷ before) broken behind ls number is (inr (line, rest, e, says, read)) all counted breaks =
    let p = cons_parts text t texts (before ++ broken ∷ behind) is in
    let P : List ℕ → Type 0 = λ x. Spells x line in
    let Q : List Line → Type 0 = AllKept a past in
    let R : List Line → Type 0 = λ xs. BreaksText a xs number broken f in
    let both = subst Q e all in
    let regroup : past ++ ls ≡ (past ++ line ∷ []) ++ rest = ap (λ xs. past ++ xs) e ∙ sym (append_assoc past (line ∷ []) rest) in
    kept line (subst P (sym p.0) says) both.0
    (record { before = before; broken = broken; behind = behind; ls = rest; is = p.1; read = read; kept = both.1; number = number; counted = omega arith; breaks = subst R regroup breaks })

turn_of : (a : Asked) (past : List Line) (n : ℕ) (text : List ℕ) (texts : List (List ℕ)) (f : OutcomeFault) → Stops a past n (text ∷ texts) f → Turn a past n text texts f
turn_of a past n text texts f s = turn_parts a past n text texts f s.before s.broken s.behind s.ls s.number s.is s.read s.kept s.counted s.breaks

no_texts : (before behind : List (List ℕ)) (broken : List ℕ) → [] ≡ before ++ broken ∷ behind → ⊥
no_texts [] behind broken e = cc
no_texts (t ∷ before) behind broken e = cc

turn_once : (a : Asked) (past : List Line) (n : ℕ) (text : List ℕ) (texts : List (List ℕ)) (f f' : OutcomeFault)
    → ((more : List Line) → Stops a more (n + 1) texts f → Stops a more (n + 1) texts f' → f ≡ f') → Turn a past n text texts f → Turn a past n text texts f' → f ≡ f'
turn_once a past n text texts f f' once (here h) (here k) = text_breaks_once a past n text f f' h k
turn_once a past n text texts f f' once (here h) (passed skipped k) = absurd (skipped_breaks a past n text f skipped h)
turn_once a past n text texts f f' once (here h) (kept line says keeps k) = absurd (said_breaks a past n text line f says keeps h)
turn_once a past n text texts f f' once (passed skipped h) (here k) = absurd (skipped_breaks a past n text f' skipped k)
turn_once a past n text texts f f' once (passed skipped h) (passed skipped' k) = once past h k
turn_once a past n text texts f f' once (passed skipped h) (kept line says keeps k) = absurd (skipped_says text line skipped says)
turn_once a past n text texts f f' once (kept line says keeps h) (here k) = absurd (said_breaks a past n text line f' says keeps k)
turn_once a past n text texts f f' once (kept line says keeps h) (passed skipped k) = absurd (skipped_says text line skipped says)
turn_once a past n text texts f f' once (kept line says keeps h) (kept line' says' keeps' k) =
    let P : Line → Type 0 = λ l. Stops a (past ++ l ∷ []) (n + 1) texts f' in
    once (past ++ line ∷ []) h (subst P (says_once (words text) line' line says' says) k)

pub stops_once : (a : Asked) (past : List Line) (n : ℕ) (texts : List (List ℕ)) (f f' : OutcomeFault) → Stops a past n texts f → Stops a past n texts f' → f ≡ f'
stops_once a past n [] f f' s s' = absurd (no_texts s.before s.behind s.broken s.is)
stops_once a past n (text ∷ texts) f f' s s' =
    turn_once a past n text texts f f' (λ more. stops_once a more (n + 1) texts f f') (turn_of a past n text texts f s) (turn_of a past n text texts f' s')

skipped_turn : (a : Asked) (past : List Line) (n : ℕ) (text : List ℕ) (texts : List (List ℕ)) (f : OutcomeFault) → IsSkipped text → Turn a past n text texts f → Stops a past (n + 1) texts f
skipped_turn a past n text texts f skipped (here h) = absurd (skipped_breaks a past n text f skipped h)
skipped_turn a past n text texts f skipped (passed again h) = h
skipped_turn a past n text texts f skipped (kept line says keeps h) = absurd (skipped_says text line skipped says)

said_turn : (a : Asked) (past : List Line) (n : ℕ) (text : List ℕ) (texts : List (List ℕ)) (line : Line) (f : OutcomeFault) → Spells text line → Kept a past line → Turn a past n text texts f → Stops a (past ++ line ∷ []) (n + 1) texts f
said_turn a past n text texts line f says keeps (here h) = absurd (said_breaks a past n text line f says keeps h)
said_turn a past n text texts line f says keeps (passed skipped h) = absurd (skipped_says text line skipped says)
said_turn a past n text texts line f says keeps (kept line' says' keeps' h) =
    let P : Line → Type 0 = λ l. Stops a (past ++ l ∷ []) (n + 1) texts f in
    subst P (says_once (words text) line' line says' says) h

pub read_stops : (a : Asked) (past : List Line) (n : ℕ) (texts : List (List ℕ)) (ms : List Line) (f : OutcomeFault) → AreRead texts ms → AllKept a past ms → Stops a past n texts f → ⊥
read_stops a past n [] ms f read all s = no_texts s.before s.behind s.broken s.is
read_stops a past n (text ∷ texts) ms f (inl (skipped, read)) all s =
    read_stops a past (n + 1) texts ms f read all (skipped_turn a past n text texts f skipped (turn_of a past n text texts f s))
read_stops a past n (text ∷ texts) ms f (inr (line, rest, e, says, read)) all s =
    let P : List Line → Type 0 = AllKept a past in
    let both = subst P e all in
    read_stops a (past ++ line ∷ []) (n + 1) texts rest f read both.1 (said_turn a past n text texts line f says both.0 (turn_of a past n text texts f s))
