-- Each text is that of a circuit, or has a fault at a line.
use Rattle.std.proofs.Common.{◌≡◌, ◌⊎◌, ℕ, ◌+◌, Bool, true, false, if◌then◌else◌, nat_lt, List, [], ◌∷◌, length, drop, Result, Ok, Err, refl, sym, subst, ap, inl, inr}
use Rattle.patch_base.specs.Texts.{lines, words}
use Rattle.qasm_lex.specs.declared.fault.FaultKind.{FaultKind}
use Rattle.qasm_lex.specs.declared.fault.FaultKind.TheVariants.{TooLong, Syntax}
use Rattle.qasm_lex.specs.declared.fault.CircuitFault.{CircuitFault}
use Rattle.qasm_lex.specs.declared.fault.CircuitFault.TheVariants as fault
use Rattle.source_model.specs.declared.Circuit.{Circuit}
use Rattle.product_list.specs.Laws.{ListOrFault}
use Rattle.product_list.specs.ListText.{and_then, at_line, bare, header_of, is_passed, line_of, list_circuit, list_of, with_form, with_lines, with_text}

abbrev Answered : {X : Type 0} → Result X CircuitFault → Type 0
Answered {X} r = ((x : X) × (r ≡ Ok x)) ⊎ ((line : ℕ) × (kind : FaultKind) × (r ≡ Err (fault.At line kind)))

line_answered : {X : Type 0} (n : ℕ) (r : Result X FaultKind) → Answered (at_line n r)
line_answered n (Ok x) = inl (x, refl)
line_answered n (Err kind) = inr (n, kind, refl)

then_answered : {X Y : Type 0} (r : Result X CircuitFault) (f : X → Result Y CircuitFault) → Answered r → ((x : X) → Answered (f x)) → Answered (and_then r f)
then_answered r f (inl (x, e)) h = subst Answered (ap (λ q. and_then q f) (sym e)) (h x)
then_answered r f (inr (line, kind, e)) h = inr (line, kind, ap (λ q. and_then q f) e)

text_answered : (two : Bool) (n : ℕ) (c : Circuit) (text : List ℕ) → Answered (with_text two n c text)
unfolding with_text
text_answered two n c text = by_test (is_passed text)
  where
    by_test : (b : Bool) → Answered (if b then Ok c else at_line n (with_form c (line_of two (words text))))
    by_test true = inl (c, refl)
    by_test false = line_answered n (with_form c (line_of two (words text)))

lines_answered : (two : Bool) (n : ℕ) (c : Circuit) (texts : List (List ℕ)) → Answered (with_lines two n c texts)
unfolding with_lines
lines_answered two n c [] = inl (c, refl)
lines_answered two n c (text ∷ texts) = then_answered (with_text two n c text) (λ d. with_lines two (n + 1) d texts) (text_answered two n c text) (λ d. lines_answered two (n + 1) d texts)

list_answered : (texts : List (List ℕ)) → Answered (list_of texts)
unfolding list_of
list_answered [] = inr (1, Syntax, refl)
list_answered (first ∷ texts) =
    then_answered (at_line 1 (header_of (words (drop 9 first)))) (λ h. with_lines h.two 2 (bare h.qubits) texts)
    (line_answered 1 (header_of (words (drop 9 first))))
    (λ h. lines_answered h.two 2 (bare h.qubits) texts)

pub list_or_fault : ListOrFault
unfolding list_circuit
list_or_fault text = by_length (nat_lt 4194304 (length text))
  where
    by_length : (b : Bool) → Answered (if b then Err (fault.At 0 TooLong) else list_of (lines text))
    by_length true = inr (0, TooLong, refl)
    by_length false = list_answered (lines text)
