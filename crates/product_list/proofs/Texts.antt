-- The lines of a text, one after another.
use Rattle.std.proofs.Common.{◌≡◌, ℕ, ◌+◌, ◌<◌, ◌≤◌, Bool, true, false, List, [], ◌∷◌, length, drop, Some, None, Result, Ok, Err, refl, sym, ◌∙◌, ap, arith, subst}
use Rattle.std.proofs.lemmas.Bool.{eq-eqb, ne_eqb, lt-ltb, le-ltb}
use Rattle.patch_base.specs.Texts.{lines, words, IsSkipped}
use Rattle.qasm_lex.specs.Tokens.{Fails}
use Rattle.qasm_lex.specs.declared.fault.FaultKind.{FaultKind}
use Rattle.qasm_lex.specs.declared.fault.FaultKind.TheVariants.{Syntax, TooLong}
use Rattle.qasm_lex.specs.declared.fault.CircuitFault.{CircuitFault}
use Rattle.qasm_lex.specs.declared.fault.CircuitFault.TheVariants as fault
use Rattle.source_model.specs.declared.Circuit.{Circuit}
use Rattle.product_list.specs.ListText.{Line, line_of, with_line, at_line, is_passed, with_text, with_lines, version_of, few_qubits, number_alone, header_of, bare, list_of, list_circuit}

passed : (text : List ℕ) → IsSkipped text → is_passed text ≡ true
passed [] h = refl
passed (b ∷ bs) h = eq-eqb b 35 h

not_passed : (text : List ℕ) → (IsSkipped text → ⊥) → is_passed text ≡ false
not_passed [] h = absurd (h tt)
not_passed (b ∷ bs) h = ne_eqb b 35 h

pub text_passed : (two : Bool) (n : ℕ) (c : Circuit) (text : List ℕ) → IsSkipped text → with_text two n c text ≡ Ok c
unfolding with_text
text_passed two n c text h = rw (passed text h) refl

pub text_formless : (two : Bool) (n : ℕ) (c : Circuit) (text : List ℕ) → (IsSkipped text → ⊥) → line_of two (words text) ≡ None → with_text two n c text ≡ Err (fault.At n Syntax)
unfolding with_text
text_formless two n c text h f = rw (not_passed text h, f) refl

pub text_line : (two : Bool) (n : ℕ) (c : Circuit) (text : List ℕ) (l : Line) → (IsSkipped text → ⊥) → line_of two (words text) ≡ Some l → with_text two n c text ≡ at_line n (with_line c l)
unfolding with_text
text_line two n c text l h f = rw (not_passed text h, f) refl

pub lines_more : (two : Bool) (n : ℕ) (c d : Circuit) (all : Result Circuit CircuitFault) (rest : List (List ℕ)) (text : List ℕ) (texts : List (List ℕ)) → all ≡ with_lines two n c rest → rest ≡ text ∷ texts → with_text two n c text ≡ Ok d → all ≡ with_lines two (n + 1) d texts
unfolding with_lines
lines_more two n c d all rest text texts h e f = h ∙ ap (with_lines two n c) e ∙ rw f refl

pub lines_end : (two : Bool) (n : ℕ) (c : Circuit) (all : Result Circuit CircuitFault) (rest : List (List ℕ)) → all ≡ with_lines two n c rest → rest ≡ [] → all ≡ Ok c
unfolding with_lines
lines_end two n c all rest h e = h ∙ ap (with_lines two n c) e

lines_fault : (two : Bool) (n : ℕ) (c : Circuit) (all : Result Circuit CircuitFault) (rest : List (List ℕ)) (text : List ℕ) (texts : List (List ℕ)) (f : CircuitFault) → all ≡ with_lines two n c rest → rest ≡ text ∷ texts → with_text two n c text ≡ Err f → all ≡ Err f
unfolding with_lines
lines_fault two n c all rest text texts f h e g = h ∙ ap (with_lines two n c) e ∙ rw g refl

pub lines_fail : (two : Bool) (n : ℕ) (c : Circuit) (all : Result Circuit CircuitFault) (rest : List (List ℕ)) (text : List ℕ) (texts : List (List ℕ)) (f : CircuitFault) → all ≡ with_lines two n c rest → rest ≡ text ∷ texts → Fails f (with_text two n c text) → Fails f all
lines_fail two n c all rest text texts fault.Memory h e g = tt
lines_fail two n c all rest text texts (fault.At line kind) h e g = lines_fault two n c all rest text texts (fault.At line kind) h e g

-- ---- the first line
pub header_none : (ws : List (List ℕ)) → ws ≡ [] → header_of ws ≡ Err Syntax
unfolding header_of
header_none ws e = rw e refl

pub header_unversioned : (ws : List (List ℕ)) (w : List ℕ) (rest : List (List ℕ)) (kind : FaultKind) → ws ≡ w ∷ rest → version_of w ≡ Err kind → header_of ws ≡ Err kind
unfolding header_of
header_unversioned ws w rest kind e f = rw (e, f) refl

pub header_unsized : (ws : List (List ℕ)) (w : List ℕ) (rest : List (List ℕ)) (two : Bool) (kind : FaultKind) → ws ≡ w ∷ rest → version_of w ≡ Ok two → few_qubits (number_alone rest) ≡ Err kind → header_of ws ≡ Err kind
unfolding header_of
header_unsized ws w rest two kind e f g = rw (e, f, g) refl

pub header_some : (ws : List (List ℕ)) (w : List ℕ) (rest : List (List ℕ)) (two : Bool) (n : ℕ) → ws ≡ w ∷ rest → version_of w ≡ Ok two → few_qubits (number_alone rest) ≡ Ok n → header_of ws ≡ Ok (record { two = two; qubits = n })
unfolding header_of
header_some ws w rest two n e f g = rw (e, f, g) refl

-- ---- whole texts
pub list_long : (text : List ℕ) → 4194304 < length text → list_circuit text ≡ Err (fault.At 0 TooLong)
unfolding list_circuit
list_long text h = rw (lt-ltb 4194304 (length text) h) refl

list_short : (text : List ℕ) → length text ≤ 4194304 → list_circuit text ≡ list_of (lines text)
unfolding list_circuit
list_short text h = rw (le-ltb 4194304 (length text) h) refl

pub list_empty : (text : List ℕ) → length text ≤ 0 → list_circuit text ≡ Err (fault.At 1 Syntax)
unfolding list_of
list_empty [] h = list_short [] (omega arith)
list_empty (b ∷ bs) h = absurd (omega arith)

pub list_headless : (text first : List ℕ) (rest : List (List ℕ)) (kind : FaultKind) → length text ≤ 4194304 → lines text ≡ first ∷ rest → header_of (words (drop 9 first)) ≡ Err kind → list_circuit text ≡ Err (fault.At 1 kind)
unfolding list_of
list_headless text first rest kind h e f = list_short text h ∙ rw (e, f) refl

pub list_headed : (text first : List ℕ) (rest : List (List ℕ)) (two : Bool) (n : ℕ) → length text ≤ 4194304 → lines text ≡ first ∷ rest → header_of (words (drop 9 first)) ≡ Ok (record { two = two; qubits = n }) → list_circuit text ≡ with_lines two 2 (bare n) rest
unfolding list_of
list_headed text first rest two n h e f = list_short text h ∙ rw (e, f) refl

pub fails_at : (f : CircuitFault) (x y : Result Circuit CircuitFault) → x ≡ y → Fails f y → Fails f x
fails_at f x y e h = let P : Result Circuit CircuitFault → Type 0 = Fails f in subst P (sym e) h
