-- What holds of a tree holds of one with more definitions, registers and statements.
use Rattle.std.proofs.Common.{◌≡◌, ℕ, ◌+◌, ◌<◌, ◌≤◌, List, [], ◌∷◌, ◌++◌, length, take, slice_get, All, ◌⊎◌, inl, inr, Some, sym, ◌∙◌, ap, subst, arith, length-append}
use Rattle.std.proofs.lemmas.List.{get_or_append_left, get_or_at, take-append-le, take_at}
use Rattle.std.proofs.lemmas.List.Sums.{sum_by-append}
use Rattle.std.proofs.lemmas.List.Elements.{All-weaker, All-append, All-get_or}
use Rattle.std.proofs.lemmas.Bool.{cases_lt}
use Rattle.std.proofs.lemmas.Option.{slice_get_within, slice_get-get_or, get_or_from_slice_get}
use Rattle.qasm_parse.specs.declared.tree.Arg.{Arg}
use Rattle.qasm_parse.specs.declared.tree.Callee.{Callee}
use Rattle.qasm_parse.specs.declared.tree.Callee.TheVariants.{One, Two, Ccx, Swap, Defined}
use Rattle.qasm_parse.specs.declared.tree.GateDef.{GateDef}
use Rattle.qasm_parse.specs.declared.tree.Declared.{Declared}
use Rattle.qasm_parse.specs.declared.tree.Statement.{Statement}
use Rattle.qasm_parse.specs.declared.tree.Statement.TheVariants as statements
use Rattle.qasm_parse.specs.declared.tree.Tree.{Tree}
use Rattle.qasm_parse.specs.declared.known.Known.{Known}
use Rattle.qasm_parse.specs.declared.known.Meaning.{Meaning}
use Rattle.qasm_parse.specs.declared.known.Meaning.TheVariants.{Quantum, Classical, Gate}
use Rattle.qasm_expand.specs.Sound.{IsCall, IsSoundOp, AreSound, IsWithin, members, AreNumbered, IsRegister, IsSoundStatement, IsSound}
use Rattle.qasm_expand.proofs.Calls.{IsCall-Defined, defined_formals, defined_at}
use Rattle.qasm_expand.proofs.Within.{IsWithin-more}

-- an item is where it was when others stand behind
pub slice_get-more : {X : Type 0} (xs ys : List X) (k : ℕ) (x : X) → slice_get xs k ≡ Some x → slice_get (xs ++ ys) k ≡ Some x
slice_get-more xs ys k x e =
    let inside : k < length xs = slice_get_within xs k x e in
    let longer : k < length (xs ++ ys) = omega (arith, length-append xs ys) in
    slice_get-get_or (xs ++ ys) k x longer ∙ ap Some (get_or_append_left xs ys x k inside ∙ get_or_from_slice_get xs k x x e)

pub All-slice_get : {X : Type 0} (P : X → Type 0) (xs : List X) (k : ℕ) (x : X) → slice_get xs k ≡ Some x → All P xs → P x
All-slice_get P xs k x e all = subst P (get_or_from_slice_get xs k x x e) (All-get_or P xs k x (slice_get_within xs k x e) all)

pub IsCall-more : (gates more : List GateDef) (gate : Callee) (n : ℕ) → IsCall gates gate n → IsCall (gates ++ more) gate n
IsCall-more gates more (One gate) n call = call
IsCall-more gates more (Two gate) n call = call
IsCall-more gates more Ccx n call = call
IsCall-more gates more Swap n call = call
IsCall-more gates more (Defined number) n call =
    let d = defined_at gates number n call in
    IsCall-Defined (gates ++ more) number n d.0 (slice_get-more gates more number d.0 d.1) (defined_formals gates number n d.0 d.1 call)

pub IsRegister-more : (rs more : List Declared) (first size : ℕ) → IsRegister rs first size → IsRegister (rs ++ more) first size
IsRegister-more rs more first size (k, r, inside, at, same) =
    let longer : k < length (rs ++ more) = omega (arith, length-append rs more) in
    (k, r, longer, get_or_append_left rs more r k inside ∙ at, same)

-- a tree with more
pub record Extends (old new : Tree) : Type 0 where
  pub more_quantum : List Declared
  pub quantum : new.quantum ≡ old.quantum ++ more_quantum
  pub more_classical : List Declared
  pub classical : new.classical ≡ old.classical ++ more_classical
  pub more_gates : List GateDef
  pub gates : new.gates ≡ old.gates ++ more_gates

members-le : (new rs more : List Declared) → new ≡ rs ++ more → members rs ≤ members new
members-le new rs more e =
    let joined : members (rs ++ more) ≡ members rs + members more = sum_by-append (λ (r : Declared). r.size) rs more in
    let same : members new ≡ members (rs ++ more) = ap members e in
    omega arith

pub more_qubits : (old new : Tree) → Extends old new → members old.quantum ≤ members new.quantum
more_qubits old new ext = members-le new.quantum old.quantum ext.more_quantum ext.quantum

pub more_bits : (old new : Tree) → Extends old new → members old.classical ≤ members new.classical
more_bits old new ext = members-le new.classical old.classical ext.more_classical ext.classical

call_more : (old new : Tree) → Extends old new → (gate : Callee) (n : ℕ) → IsCall old.gates gate n → IsCall new.gates gate n
call_more old new ext gate n call = subst (λ gates. IsCall gates gate n) (sym ext.gates) (IsCall-more old.gates ext.more_gates gate n call)

register_more : (old new : Tree) → Extends old new → (first size : ℕ) → IsRegister old.classical first size → IsRegister new.classical first size
register_more old new ext first size h = subst (λ rs. IsRegister rs first size) (sym ext.classical) (IsRegister-more old.classical ext.more_classical first size h)

qubit_more : (old new : Tree) → Extends old new → (arg : Arg) → IsWithin (members old.quantum) arg → IsWithin (members new.quantum) arg
qubit_more old new ext arg h = IsWithin-more (members old.quantum) (members new.quantum) arg (more_qubits old new ext) h

pub statement_more : (old new : Tree) → Extends old new → (s : Statement) → IsSoundStatement old s → IsSoundStatement new s
statement_more old new ext (statements.Call line gate args) h = record {
  call = call_more old new ext gate (length args) h.call;
  within = All-weaker (IsWithin (members old.quantum)) (IsWithin (members new.quantum)) (qubit_more old new ext) args h.within;
  equal = h.equal;
  apart = h.apart;
}
statement_more old new ext (statements.Measure line from to) h = record {
  qubits = qubit_more old new ext from h.qubits;
  bits = IsWithin-more (members old.classical) (members new.classical) to (more_bits old new ext) h.bits;
  together = h.together;
}
statement_more old new ext (statements.Barrier line) h = h
statement_more old new ext (statements.Reset line arg) h = qubit_more old new ext arg h
statement_more old new ext (statements.If line first size value gate arg) h = record {
  within = qubit_more old new ext arg h.within;
  register = register_more old new ext first size h.register;
  gate_allowed = h.gate_allowed;
}

-- what names mean by a tree
abbrev pub IsMeaning : Tree → Meaning → Type 0
IsMeaning tree (Quantum span) = span.first + span.size ≤ members tree.quantum
IsMeaning tree (Classical span) = (span.first + span.size ≤ members tree.classical) × IsRegister tree.classical span.first span.size
IsMeaning tree (Gate called) = IsCall tree.gates called.gate called.arity

pub meaning_more : (old new : Tree) → Extends old new → (m : Meaning) → IsMeaning old m → IsMeaning new m
meaning_more old new ext (Quantum span) h = let more : members old.quantum ≤ members new.quantum = more_qubits old new ext in omega arith
meaning_more old new ext (Classical span) h =
    let more : members old.classical ≤ members new.classical = more_bits old new ext in
    let within : span.first + span.size ≤ members old.classical = h.0 in
    let longer : span.first + span.size ≤ members new.classical = omega arith in
    (longer, register_more old new ext span.first span.size h.1)
meaning_more old new ext (Gate called) h = call_more old new ext called.gate called.arity h

at_place : (gates : List GateDef) (d : GateDef) → AreSound gates → All (IsSoundOp gates d.formals) d.body → (k : ℕ) (e : GateDef) → slice_get (gates ++ d ∷ []) k ≡ Some e → (k < length gates) ⊎ (length gates ≤ k) → All (IsSoundOp (take k (gates ++ d ∷ [])) e.formals) e.body
at_place gates d sound body k e at (inl before) =
    let here : slice_get gates k ≡ Some e = slice_get-get_or gates k e before ∙ ap Some (sym (get_or_append_left gates (d ∷ []) e k before) ∙ get_or_from_slice_get (gates ++ d ∷ []) k e e at) in
    let short : k ≤ length gates = omega arith in
    subst (λ (gs : List GateDef). All (IsSoundOp gs e.formals) e.body) (sym (take-append-le k gates (d ∷ []) short)) (sound.each k e here)
at_place gates d sound body k e at (inr behind) =
    let inside : k < length (gates ++ d ∷ []) = slice_get_within (gates ++ d ∷ []) k e at in
    let last : length gates ≡ k = omega (arith, length-append gates (d ∷ [])) in
    let same : d ≡ e = sym (get_or_at gates d [] e k last) ∙ get_or_from_slice_get (gates ++ d ∷ []) k e e at in
    subst (λ (gs : List GateDef). All (IsSoundOp gs e.formals) e.body) (sym (take_at gates (d ∷ []) k last)) (subst (λ (f : GateDef). All (IsSoundOp gates f.formals) f.body) same body)

-- a definition that calls those before it stands behind them
pub AreSound-push : (gates : List GateDef) (d : GateDef) → AreSound gates → All (IsSoundOp gates d.formals) d.body → AreSound (gates ++ d ∷ [])
AreSound-push gates d sound body = record { each = λ k e at. at_place gates d sound body k e at (cases_lt k (length gates)) }

numbered_at : (rs : List Declared) (new : Declared) → AreNumbered rs → new.first ≡ members rs → 0 < new.size → (k : ℕ) (r : Declared) → slice_get (rs ++ new ∷ []) k ≡ Some r → (k < length rs) ⊎ (length rs ≤ k) → (r.first ≡ members (take k (rs ++ new ∷ []))) × (0 < r.size)
numbered_at rs new numbered first some k r at (inl before) =
    let here : slice_get rs k ≡ Some r = slice_get-get_or rs k r before ∙ ap Some (sym (get_or_append_left rs (new ∷ []) r k before) ∙ get_or_from_slice_get (rs ++ new ∷ []) k r r at) in
    let short : k ≤ length rs = omega arith in
    (((numbered.each k r here).0 ∙ ap members (sym (take-append-le k rs (new ∷ []) short))), (numbered.each k r here).1)
numbered_at rs new numbered first some k r at (inr behind) =
    let inside : k < length (rs ++ new ∷ []) = slice_get_within (rs ++ new ∷ []) k r at in
    let last : length rs ≡ k = omega (arith, length-append rs (new ∷ [])) in
    let same : new ≡ r = sym (get_or_at rs new [] r k last) ∙ get_or_from_slice_get (rs ++ new ∷ []) k r r at in
    ((sym (ap (λ (d : Declared). d.first) same) ∙ first ∙ ap members (sym (take_at rs (new ∷ []) k last))), subst (λ (d : Declared). 0 < d.size) same some)

-- a register stands behind others
pub AreNumbered-push : (rs : List Declared) (new : Declared) → AreNumbered rs → new.first ≡ members rs → 0 < new.size → AreNumbered (rs ++ new ∷ [])
AreNumbered-push rs new numbered first some = record { each = λ k r at. numbered_at rs new numbered first some k r at (cases_lt k (length rs)) }

-- what is known behind some statements: its tree is sound, and names mean what stands in it
pub record IsKnown (k : Known) : Type 0 where
  pub qubits : k.qubits ≡ members k.tree.quantum
  pub bits : k.bits ≡ members k.tree.classical
  pub meanings : All (IsMeaning k.tree) k.meanings
  pub sound : IsSound k.tree

-- a statement more
pub record Step (k next : Known) : Type 0 where
  pub extends : Extends k.tree next.tree
  pub qubits : next.qubits ≡ members next.tree.quantum
  pub bits : next.bits ≡ members next.tree.classical
  pub few_qubits : next.qubits ≤ 1024
  pub few_bits : next.bits ≤ 16384
  pub gates : AreSound next.tree.gates
  pub numbered_qubits : AreNumbered next.tree.quantum
  pub numbered_bits : AreNumbered next.tree.classical
  pub more_meanings : List Meaning
  pub meanings : next.meanings ≡ k.meanings ++ more_meanings
  pub meant : All (IsMeaning next.tree) more_meanings
  pub more_statements : List Statement
  pub statements : next.tree.statements ≡ k.tree.statements ++ more_statements
  pub sound : All (IsSoundStatement next.tree) more_statements

pub known_step : (k next : Known) → IsKnown k → Step k next → IsKnown next
known_step k next known step =
    let old_meanings : All (IsMeaning next.tree) k.meanings = All-weaker (IsMeaning k.tree) (IsMeaning next.tree) (meaning_more k.tree next.tree step.extends) k.meanings known.meanings in
    let old_statements : All (IsSoundStatement next.tree) k.tree.statements = All-weaker (IsSoundStatement k.tree) (IsSoundStatement next.tree) (statement_more k.tree next.tree step.extends) k.tree.statements known.sound.statements in
    record {
      qubits = step.qubits;
      bits = step.bits;
      meanings = subst (All (IsMeaning next.tree)) (sym step.meanings) (All-append (IsMeaning next.tree) k.meanings step.more_meanings old_meanings step.meant);
      sound = record {
        gates = step.gates;
        statements = subst (All (IsSoundStatement next.tree)) (sym step.statements) (All-append (IsSoundStatement next.tree) k.tree.statements step.more_statements old_statements step.sound);
        quantum = step.numbered_qubits;
        classical = step.numbered_bits;
        qubits = subst (λ n. n ≤ 1024) step.qubits step.few_qubits;
        bits = subst (λ n. n ≤ 16384) step.bits step.few_bits;
      };
    }
