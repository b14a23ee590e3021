-- The token that a statement begins with says which it is.
use Rattle.std.proofs.Common.{◌≡◌, ℕ, Bool, true, false, cond, List, [], ◌∷◌, Err, refl, sym, ap, subst, ◌∙◌}
use Rattle.qasm_grammar.specs.declared.follow.Refusal.{Refusal}
use Rattle.qasm_grammar.specs.declared.follow.Refusal.TheVariants.{Version, Parameters, Syntax, Unsupported}
use Rattle.qasm_grammar.specs.declared.terminal.Terminal.{Terminal}
use Rattle.qasm_grammar.specs.declared.terminal.Terminal.TheVariants.{Include, Qreg, Creg, Gate, Measure, Barrier, Reset, If, Cx, Name, Taken, Pauli, Semicolon, CloseBrace, Opaque, Callee, Word}
use Rattle.qasm_grammar.specs.Forms.{Form, refused, done, one, must, never, both, either, many, ◌⨾◌, ◌or◌, next, may_end, at_end, reads, is_done, fits}
use Rattle.qasm_grammar.specs.inside.Forms.{is_next}
use Rattle.qasm_grammar.specs.Grammar.{arg, args, names, brackets, include, register, call_of, named_call, cx_call, measure, barrier, reset, names_after, body_call, body, gate, if_equal, statement}
use Rattle.qasm_grammar.proofs.Steps.{own, alone, by_callee, then_assoc, one_other, same_next, halt, stop_at}

never_false : true ≡ false → ⊥
never_false e = cc

-- a statement goes on at this token as this production does
abbrev Begins : Terminal → Form → Type 0
Begins t f = (k : Form) → next (statement ⨾ k) t ≡ next (f ⨾ k) t

-- the same in the body of a definition
abbrev BeginsInside : Terminal → Form → Type 0
BeginsInside t f = (k : Form) → next (body ⨾ k) t ≡ next (f ⨾ k) t

at_include : Begins Include include
unfolding next may_end ◌⨾◌ ◌or◌ arg args names brackets include register call_of named_call cx_call measure barrier reset gate if_equal statement
at_include k = refl

at_qreg : Begins Qreg (register Qreg)
unfolding next may_end ◌⨾◌ ◌or◌ arg args names brackets include register call_of named_call cx_call measure barrier reset gate if_equal statement
at_qreg k = refl

at_creg : Begins Creg (register Creg)
unfolding next may_end ◌⨾◌ ◌or◌ arg args names brackets include register call_of named_call cx_call measure barrier reset gate if_equal statement
at_creg k = refl

at_gate : Begins Gate gate
unfolding next may_end ◌⨾◌ ◌or◌ arg args names brackets include register call_of named_call cx_call measure barrier reset gate if_equal statement
at_gate k = refl

at_name : Begins Name named_call
unfolding next may_end ◌⨾◌ ◌or◌ arg args names brackets include register call_of named_call cx_call measure barrier reset gate if_equal statement
at_name k = refl

at_pauli : Begins Pauli named_call
unfolding next may_end ◌⨾◌ ◌or◌ arg args names brackets include register call_of named_call cx_call measure barrier reset gate if_equal statement
at_pauli k = refl

at_callee : Begins Callee named_call
unfolding next may_end ◌⨾◌ ◌or◌ arg args names brackets include register call_of named_call cx_call measure barrier reset gate if_equal statement
at_callee k = refl

at_cx : Begins Cx cx_call
unfolding next may_end ◌⨾◌ ◌or◌ arg args names brackets include register call_of named_call cx_call measure barrier reset gate if_equal statement
at_cx k = refl

at_measure : Begins Measure measure
unfolding next may_end ◌⨾◌ ◌or◌ arg args names brackets include register call_of named_call cx_call measure barrier reset gate if_equal statement
at_measure k = refl

at_barrier : Begins Barrier barrier
unfolding next may_end ◌⨾◌ ◌or◌ arg args names brackets include register call_of named_call cx_call measure barrier reset gate if_equal statement
at_barrier k = refl

at_reset : Begins Reset reset
unfolding next may_end ◌⨾◌ ◌or◌ arg args names brackets include register call_of named_call cx_call measure barrier reset gate if_equal statement
at_reset k = refl

at_if : Begins If if_equal
unfolding next may_end ◌⨾◌ ◌or◌ arg args names brackets include register call_of named_call cx_call measure barrier reset gate if_equal statement
at_if k = refl

at_opaque : Begins Opaque (never Unsupported Opaque)
unfolding next may_end ◌⨾◌ ◌or◌ arg args names brackets include register call_of named_call cx_call measure barrier reset gate if_equal statement
at_opaque k = refl

at_taken : Begins Taken (never Unsupported Taken)
unfolding next may_end ◌⨾◌ ◌or◌ arg args names brackets include register call_of named_call cx_call measure barrier reset gate if_equal statement
at_taken k = refl

inside_name : BeginsInside Name body_call
unfolding next may_end ◌⨾◌ ◌or◌ names brackets body body_call names_after
inside_name k = refl

inside_pauli : BeginsInside Pauli body_call
unfolding next may_end ◌⨾◌ ◌or◌ names brackets body body_call names_after
inside_pauli k = refl

inside_callee : BeginsInside Callee body_call
unfolding next may_end ◌⨾◌ ◌or◌ names brackets body body_call names_after
inside_callee k = refl

inside_cx : BeginsInside Cx (names_after Cx)
unfolding next may_end ◌⨾◌ ◌or◌ names brackets body body_call names_after
inside_cx k = refl

inside_barrier : BeginsInside Barrier (names_after Barrier)
unfolding next may_end ◌⨾◌ ◌or◌ names brackets body body_call names_after
inside_barrier k = refl

inside_opaque : BeginsInside Opaque (never Unsupported Opaque)
unfolding next may_end ◌⨾◌ ◌or◌ names brackets body body_call names_after
inside_opaque k = refl

inside_taken : BeginsInside Taken (never Unsupported Taken)
unfolding next may_end ◌⨾◌ ◌or◌ names brackets body body_call names_after
inside_taken k = refl

statement_waits : (k : Form) → is_done (statement ⨾ k) ≡ false
unfolding ◌⨾◌ ◌or◌ include register call_of named_call cx_call measure barrier reset gate if_equal statement
statement_waits k = refl

body_waits : (k : Form) → is_done (body ⨾ k) ≡ false
unfolding ◌⨾◌ ◌or◌ body body_call names_after
body_waits k = refl

-- where the next token begins a production, a statement is read as that production
reads_begun : (s : Terminal) (f k : Form) (ts : List Terminal) (n : ℕ) → ((t : Terminal) → fits t s ≡ true → Begins t f) → is_done (f ⨾ k) ≡ false → is_next s ts ≡ true → reads (statement ⨾ k) ts n ≡ reads (f ⨾ k) ts n
reads_begun s f k [] n b d e = cc
reads_begun s f k (t ∷ ts) n b d e = same_next (statement ⨾ k) (f ⨾ k) t ts n (statement_waits k) d (b t e k)

reads_inside : (s : Terminal) (f k : Form) (ts : List Terminal) (n : ℕ) → ((t : Terminal) → fits t s ≡ true → BeginsInside t f) → is_done (f ⨾ k) ≡ false → is_next s ts ≡ true → reads (body ⨾ k) ts n ≡ reads (f ⨾ k) ts n
reads_inside s f k [] n b d e = cc
reads_inside s f k (t ∷ ts) n b d e = same_next (body ⨾ k) (f ⨾ k) t ts n (body_waits k) d (b t e k)

-- a token that is read as itself begins the production of its row
row : (s : Terminal) (f : Form) → alone s ≡ true → Begins s f → (t : Terminal) → fits t s ≡ true → Begins t f
row s f o b t e = subst (λ (u : Terminal). Begins u f) (sym (own s o t e)) b

row_inside : (s : Terminal) (f : Form) → alone s ≡ true → BeginsInside s f → (t : Terminal) → fits t s ≡ true → BeginsInside t f
row_inside s f o b t e = subst (λ (u : Terminal). BeginsInside u f) (sym (own s o t e)) b

never_stops : (kind : Refusal) (s t : Terminal) (k : Form) → fits t s ≡ true → next (never kind s ⨾ k) t ≡ refused kind
unfolding next may_end ◌⨾◌
never_stops kind s t k e = rw e refl

never_other : (kind : Refusal) (s t : Terminal) → fits t s ≡ false → next (never kind s) t ≡ refused Syntax
unfolding next
never_other kind s t e = rw e refl

-- a choice goes on as its second form does where the first refuses a token
either_next : (f g : Form) (t : Terminal) → next f t ≡ refused Syntax → next (either f g) t ≡ next g t
unfolding next ◌or◌
either_next f g t e = ap (λ (x : Form). x or next g t) e

both_next : (f g : Form) (t : Terminal) → may_end f ≡ false → next (both f g) t ≡ next f t ⨾ g
unfolding next
both_next f g t e = rw e refl

-- a form that wants more, and refuses a token
both_refuses : (f k : Form) (t : Terminal) → may_end f ≡ false → next f t ≡ refused Syntax → next (both f k) t ≡ refused Syntax
unfolding ◌⨾◌
both_refuses f k t m e = both_next f k t m ∙ ap (λ (x : Form). x ⨾ k) e

pub statement_include : (k : Form) (ts : List Terminal) (n : ℕ) → is_next Include ts ≡ true → reads (statement ⨾ k) ts n ≡ reads (include ⨾ k) ts n
unfolding ◌⨾◌ include
statement_include k ts n e = reads_begun Include include k ts n (row Include include refl at_include) refl e

pub statement_qreg : (k : Form) (ts : List Terminal) (n : ℕ) → is_next Qreg ts ≡ true → reads (statement ⨾ k) ts n ≡ reads (register Qreg ⨾ k) ts n
unfolding ◌⨾◌ register
statement_qreg k ts n e = reads_begun Qreg (register Qreg) k ts n (row Qreg (register Qreg) refl at_qreg) refl e

pub statement_creg : (k : Form) (ts : List Terminal) (n : ℕ) → is_next Creg ts ≡ true → reads (statement ⨾ k) ts n ≡ reads (register Creg ⨾ k) ts n
unfolding ◌⨾◌ register
statement_creg k ts n e = reads_begun Creg (register Creg) k ts n (row Creg (register Creg) refl at_creg) refl e

pub statement_cx_call : (k : Form) (ts : List Terminal) (n : ℕ) → is_next Cx ts ≡ true → reads (statement ⨾ k) ts n ≡ reads (cx_call ⨾ k) ts n
unfolding ◌⨾◌ cx_call
statement_cx_call k ts n e = reads_begun Cx cx_call k ts n (row Cx cx_call refl at_cx) refl e

pub statement_measure : (k : Form) (ts : List Terminal) (n : ℕ) → is_next Measure ts ≡ true → reads (statement ⨾ k) ts n ≡ reads (measure ⨾ k) ts n
unfolding ◌⨾◌ measure
statement_measure k ts n e = reads_begun Measure measure k ts n (row Measure measure refl at_measure) refl e

pub statement_barrier : (k : Form) (ts : List Terminal) (n : ℕ) → is_next Barrier ts ≡ true → reads (statement ⨾ k) ts n ≡ reads (barrier ⨾ k) ts n
unfolding ◌⨾◌ barrier
statement_barrier k ts n e = reads_begun Barrier barrier k ts n (row Barrier barrier refl at_barrier) refl e

pub statement_reset : (k : Form) (ts : List Terminal) (n : ℕ) → is_next Reset ts ≡ true → reads (statement ⨾ k) ts n ≡ reads (reset ⨾ k) ts n
unfolding ◌⨾◌ reset
statement_reset k ts n e = reads_begun Reset reset k ts n (row Reset reset refl at_reset) refl e

pub statement_gate : (k : Form) (ts : List Terminal) (n : ℕ) → is_next Gate ts ≡ true → reads (statement ⨾ k) ts n ≡ reads (gate ⨾ k) ts n
unfolding ◌⨾◌ gate
statement_gate k ts n e = reads_begun Gate gate k ts n (row Gate gate refl at_gate) refl e

pub statement_if_equal : (k : Form) (ts : List Terminal) (n : ℕ) → is_next If ts ≡ true → reads (statement ⨾ k) ts n ≡ reads (if_equal ⨾ k) ts n
unfolding ◌⨾◌ if_equal
statement_if_equal k ts n e = reads_begun If if_equal k ts n (row If if_equal refl at_if) refl e

pub statement_named_call : (k : Form) (ts : List Terminal) (n : ℕ) → is_next Callee ts ≡ true → reads (statement ⨾ k) ts n ≡ reads (named_call ⨾ k) ts n
unfolding ◌⨾◌ named_call call_of
statement_named_call k ts n e = reads_begun Callee named_call k ts n (by_callee (λ u. Begins u named_call) at_name at_pauli at_callee) refl e

-- a token that is refused on purpose
statement_never : (s : Terminal) (k : Form) (ts : List Terminal) (n : ℕ) → alone s ≡ true → Begins s (never Unsupported s) → is_next s ts ≡ true → reads (statement ⨾ k) ts n ≡ Err (stop_at n Unsupported)
statement_never s k [] n o b e = cc
statement_never s k (t ∷ ts) n o b e =
    halt (statement ⨾ k) t ts n Unsupported (statement_waits k) (row s (never Unsupported s) o b t e k ∙ never_stops Unsupported s t k e)

pub statement_opaque : (k : Form) (ts : List Terminal) (n : ℕ) → is_next Opaque ts ≡ true → reads (statement ⨾ k) ts n ≡ Err (stop_at n Unsupported)
statement_opaque k ts n e = statement_never Opaque k ts n refl at_opaque e

pub statement_taken : (k : Form) (ts : List Terminal) (n : ℕ) → is_next Taken ts ≡ true → reads (statement ⨾ k) ts n ≡ Err (stop_at n Unsupported)
statement_taken k ts n e = statement_never Taken k ts n refl at_taken e

-- a production refuses a token that isn't its first
no_include : (t : Terminal) → fits t Include ≡ false → next include t ≡ refused Syntax
unfolding ◌⨾◌ include
no_include t e = one_other Include t _ e

no_register : (kind t : Terminal) → fits t kind ≡ false → next (register kind) t ≡ refused Syntax
unfolding ◌⨾◌ register
no_register kind t e = one_other kind t _ e

no_gate : (t : Terminal) → fits t Gate ≡ false → next gate t ≡ refused Syntax
unfolding ◌⨾◌ gate
no_gate t e = one_other Gate t _ e

no_named_call : (t : Terminal) → fits t Callee ≡ false → next named_call t ≡ refused Syntax
unfolding ◌⨾◌ named_call call_of
no_named_call t e = one_other Callee t _ e

no_cx_call : (t : Terminal) → fits t Cx ≡ false → next cx_call t ≡ refused Syntax
unfolding ◌⨾◌ cx_call
no_cx_call t e = one_other Cx t _ e

no_measure : (t : Terminal) → fits t Measure ≡ false → next measure t ≡ refused Syntax
unfolding ◌⨾◌ measure
no_measure t e = one_other Measure t _ e

no_barrier : (t : Terminal) → fits t Barrier ≡ false → next barrier t ≡ refused Syntax
unfolding ◌⨾◌ barrier
no_barrier t e = one_other Barrier t _ e

no_reset : (t : Terminal) → fits t Reset ≡ false → next reset t ≡ refused Syntax
unfolding ◌⨾◌ reset
no_reset t e = one_other Reset t _ e

no_if_equal : (t : Terminal) → fits t If ≡ false → next if_equal t ≡ refused Syntax
unfolding ◌⨾◌ if_equal
no_if_equal t e = one_other If t _ e

-- a statement is a choice among its productions
abbrev productions : Form
productions =
    either (never Unsupported Opaque) (either (never Unsupported Taken) (either include (either (register Qreg) (either (register Creg) (either gate (either named_call (either cx_call (either measure (either barrier (either reset if_equal))))))))))

statement_is : statement ≡ productions
unfolding ◌⨾◌ ◌or◌ include register call_of named_call cx_call measure barrier reset gate if_equal statement
statement_is = refl

statement_then : (k : Form) → statement ⨾ k ≡ both statement k
unfolding ◌⨾◌ ◌or◌ include register call_of named_call cx_call measure barrier reset gate if_equal statement
statement_then k = refl

statement_has_more : may_end statement ≡ false
unfolding may_end ◌⨾◌ ◌or◌ include register call_of named_call cx_call measure barrier reset gate if_equal statement
statement_has_more = refl

-- a token that begins no production
no_row : (t : Terminal) (k : Form) → fits t Include ≡ false → fits t Qreg ≡ false → fits t Creg ≡ false → fits t Callee ≡ false → fits t Cx ≡ false → fits t Measure ≡ false → fits t Barrier ≡ false → fits t Reset ≡ false → fits t Gate ≡ false → fits t If ≡ false → fits t Opaque ≡ false → fits t Taken ≡ false → next (statement ⨾ k) t ≡ refused Syntax
no_row t k h0 h1 h2 h3 h4 h5 h6 h7 h8 h9 h10 h11 =
    ap (λ (f : Form). next f t) (statement_then k)
    ∙ both_refuses statement k t statement_has_more
    (ap (λ (f : Form). next f t) statement_is
    ∙ either_next (never Unsupported Opaque) _ t (never_other Unsupported Opaque t h10)
    ∙ either_next (never Unsupported Taken) _ t (never_other Unsupported Taken t h11)
    ∙ either_next include _ t (no_include t h0)
    ∙ either_next (register Qreg) _ t (no_register Qreg t h1)
    ∙ either_next (register Creg) _ t (no_register Creg t h2)
    ∙ either_next gate _ t (no_gate t h8)
    ∙ either_next named_call _ t (no_named_call t h3)
    ∙ either_next cx_call _ t (no_cx_call t h4)
    ∙ either_next measure _ t (no_measure t h5)
    ∙ either_next barrier _ t (no_barrier t h6)
    ∙ either_next reset _ t (no_reset t h7)
    ∙ no_if_equal t h9)

statement_ends : (k : Form) (n : ℕ) → reads (statement ⨾ k) [] n ≡ Err (stop_at n Syntax)
unfolding may_end at_end reads ◌⨾◌ ◌or◌ include register call_of named_call cx_call measure barrier reset gate if_equal statement
statement_ends k n = refl

pub statement_none : (k : Form) (ts : List Terminal) (n : ℕ) → is_next Include ts ≡ false → is_next Qreg ts ≡ false → is_next Creg ts ≡ false → is_next Callee ts ≡ false → is_next Cx ts ≡ false → is_next Measure ts ≡ false → is_next Barrier ts ≡ false → is_next Reset ts ≡ false → is_next Gate ts ≡ false → is_next If ts ≡ false → is_next Opaque ts ≡ false → is_next Taken ts ≡ false → reads (statement ⨾ k) ts n ≡ Err (stop_at n Syntax)
statement_none k [] n h0 h1 h2 h3 h4 h5 h6 h7 h8 h9 h10 h11 = statement_ends k n
statement_none k (t ∷ ts) n h0 h1 h2 h3 h4 h5 h6 h7 h8 h9 h10 h11 = halt (statement ⨾ k) t ts n Syntax (statement_waits k) (no_row t k h0 h1 h2 h3 h4 h5 h6 h7 h8 h9 h10 h11)

-- the same in a body
pub body_body_call : (k : Form) (ts : List Terminal) (n : ℕ) → is_next Callee ts ≡ true → reads (body ⨾ k) ts n ≡ reads (body_call ⨾ k) ts n
unfolding ◌⨾◌ body_call
body_body_call k ts n e = reads_inside Callee body_call k ts n (by_callee (λ u. BeginsInside u body_call) inside_name inside_pauli inside_callee) refl e

pub body_body_cx : (k : Form) (ts : List Terminal) (n : ℕ) → is_next Cx ts ≡ true → reads (body ⨾ k) ts n ≡ reads (names_after Cx ⨾ k) ts n
unfolding ◌⨾◌ names_after
body_body_cx k ts n e = reads_inside Cx (names_after Cx) k ts n (row_inside Cx (names_after Cx) refl inside_cx) refl e

pub body_body_barrier : (k : Form) (ts : List Terminal) (n : ℕ) → is_next Barrier ts ≡ true → reads (body ⨾ k) ts n ≡ reads (names_after Barrier ⨾ k) ts n
unfolding ◌⨾◌ names_after
body_body_barrier k ts n e = reads_inside Barrier (names_after Barrier) k ts n (row_inside Barrier (names_after Barrier) refl inside_barrier) refl e

body_never : (s : Terminal) (k : Form) (ts : List Terminal) (n : ℕ) → alone s ≡ true → BeginsInside s (never Unsupported s) → is_next s ts ≡ true → reads (body ⨾ k) ts n ≡ Err (stop_at n Unsupported)
body_never s k [] n o b e = cc
body_never s k (t ∷ ts) n o b e = halt (body ⨾ k) t ts n Unsupported (body_waits k) (row_inside s (never Unsupported s) o b t e k ∙ never_stops Unsupported s t k e)

pub body_opaque : (k : Form) (ts : List Terminal) (n : ℕ) → is_next Opaque ts ≡ true → reads (body ⨾ k) ts n ≡ Err (stop_at n Unsupported)
body_opaque k ts n e = body_never Opaque k ts n refl inside_opaque e

pub body_taken : (k : Form) (ts : List Terminal) (n : ℕ) → is_next Taken ts ≡ true → reads (body ⨾ k) ts n ≡ Err (stop_at n Unsupported)
body_taken k ts n e = body_never Taken k ts n refl inside_taken e

no_body_call : (t : Terminal) → fits t Callee ≡ false → next body_call t ≡ refused Syntax
unfolding ◌⨾◌ body_call
no_body_call t e = one_other Callee t _ e

no_names_after : (word t : Terminal) → fits t word ≡ false → next (names_after word) t ≡ refused Syntax
unfolding ◌⨾◌ names_after
no_names_after word t e = one_other word t _ e

body_is : body ≡ either (never Unsupported Opaque) (either (never Unsupported Taken) (either body_call (either (names_after Cx) (names_after Barrier))))
unfolding ◌⨾◌ ◌or◌ body body_call names_after
body_is = refl

body_is_both : (k : Form) → body ⨾ k ≡ both body k
unfolding ◌⨾◌ ◌or◌ body body_call names_after
body_is_both k = refl

body_has_more : may_end body ≡ false
unfolding may_end ◌⨾◌ ◌or◌ body body_call names_after
body_has_more = refl

no_row_inside : (t : Terminal) (k : Form) → fits t Callee ≡ false → fits t Cx ≡ false → fits t Barrier ≡ false → fits t Opaque ≡ false → fits t Taken ≡ false → next (body ⨾ k) t ≡ refused Syntax
no_row_inside t k h0 h1 h2 h3 h4 =
    ap (λ (f : Form). next f t) (body_is_both k)
    ∙ both_refuses body k t body_has_more
    (ap (λ (f : Form). next f t) body_is
    ∙ either_next (never Unsupported Opaque) _ t (never_other Unsupported Opaque t h3)
    ∙ either_next (never Unsupported Taken) _ t (never_other Unsupported Taken t h4)
    ∙ either_next body_call _ t (no_body_call t h0)
    ∙ either_next (names_after Cx) _ t (no_names_after Cx t h1)
    ∙ no_names_after Barrier t h2)

body_ends : (k : Form) (n : ℕ) → reads (body ⨾ k) [] n ≡ Err (stop_at n Syntax)
unfolding may_end at_end reads ◌⨾◌ ◌or◌ body body_call names_after
body_ends k n = refl

pub body_none : (k : Form) (ts : List Terminal) (n : ℕ) → is_next Callee ts ≡ false → is_next Cx ts ≡ false → is_next Barrier ts ≡ false → is_next Opaque ts ≡ false → is_next Taken ts ≡ false → reads (body ⨾ k) ts n ≡ Err (stop_at n Syntax)
body_none k [] n h0 h1 h2 h3 h4 = body_ends k n
body_none k (t ∷ ts) n h0 h1 h2 h3 h4 = halt (body ⨾ k) t ts n Syntax (body_waits k) (no_row_inside t k h0 h1 h2 h3 h4)

-- one form or another, where the other refuses a token as the grammar does
or_syntax : (f : Form) → f or refused Syntax ≡ f
unfolding ◌or◌
or_syntax (refused Version) = refl
or_syntax (refused Syntax) = refl
or_syntax (refused Parameters) = refl
or_syntax (refused Unsupported) = refl
or_syntax done = refl
or_syntax (one s) = refl
or_syntax (must kind s) = refl
or_syntax (never kind s) = refl
or_syntax (both f g) = refl
or_syntax (either f g) = refl
or_syntax (many f) = refl

-- a form that stands again, where what follows it doesn't begin with the token
many_next : (f g : Form) (t : Terminal) → next g t ≡ refused Syntax → next (both (many f) g) t ≡ next f t ⨾ both (many f) g
unfolding next may_end ◌⨾◌
many_next f g t e = ap (λ (x : Form). ((next f t ⨾ many f) ⨾ g) or x) e ∙ or_syntax ((next f t ⨾ many f) ⨾ g) ∙ then_assoc (next f t) (many f) g

abbrev again : Form → Form
again k = both (many body) (both (one CloseBrace) k)

again_next : (t : Terminal) (k : Form) → fits t CloseBrace ≡ false → next (again k) t ≡ next (body ⨾ again k) t
again_next t k e =
    many_next body (both (one CloseBrace) k) t (one_other CloseBrace t k e)
    ∙ sym (both_next body (again k) t body_has_more)
    ∙ ap (λ (f : Form). next f t) (sym (body_is_both (again k)))

again_ends : (k : Form) (n : ℕ) → reads (again k) [] n ≡ reads (body ⨾ again k) [] n
unfolding may_end at_end reads ◌⨾◌ ◌or◌ names brackets body body_call names_after
again_ends k n = refl

pub bodies_go : (k : Form) (ts : List Terminal) (n : ℕ) → is_next CloseBrace ts ≡ false → reads (both (many body) (both (one CloseBrace) k)) ts n ≡ reads (body ⨾ both (many body) (both (one CloseBrace) k)) ts n
bodies_go k [] n e = again_ends k n
bodies_go k (t ∷ ts) n e = same_next (again k) (body ⨾ again k) t ts n refl (body_waits (again k)) (again_next t k e)

closing_next : (k : Form) → next (again k) CloseBrace ≡ next (both (one CloseBrace) k) CloseBrace
unfolding next may_end ◌⨾◌ ◌or◌ names brackets body body_call names_after
closing_next k = refl

pub bodies_end : (k : Form) (ts : List Terminal) (n : ℕ) → is_next CloseBrace ts ≡ true → reads (both (many body) (both (one CloseBrace) k)) ts n ≡ reads (both (one CloseBrace) k) ts n
bodies_end k [] n e = cc
bodies_end k (t ∷ ts) n e =
    let here : t ≡ CloseBrace = own CloseBrace refl t e in
    same_next (again k) (both (one CloseBrace) k) t ts n refl refl
    (ap (λ (u : Terminal). next (again k) u) here ∙ closing_next k ∙ ap (λ (u : Terminal). next (both (one CloseBrace) k) u) (sym here))

-- a form, or tokens that are refused on purpose
abbrev pub unless : Form → Terminal → Form → Form
unless f s k = both (either f (never Unsupported s)) k

unless_goes : (f k : Form) (s t : Terminal) → may_end f ≡ false → fits t s ≡ false → next (unless f s k) t ≡ next f t ⨾ k
unfolding next may_end
unless_goes f k s t m e = rw (m, e) (ap (λ (x : Form). x ⨾ k) (or_syntax (next f t)))

unless_stops : (f k : Form) (s t : Terminal) → may_end f ≡ false → next f t ≡ refused Syntax → fits t s ≡ true → next (unless f s k) t ≡ refused Unsupported
unfolding next may_end ◌or◌ ◌⨾◌
unless_stops f k s t m x e = rw (m, x, e) refl

pub reads_unless : (f k : Form) (s : Terminal) (ts : List Terminal) (n : ℕ) → may_end f ≡ false → is_done (f ⨾ k) ≡ false → ((t : Terminal) → next (f ⨾ k) t ≡ next f t ⨾ k) → reads (unless f s k) [] n ≡ reads (f ⨾ k) [] n
    → is_next s ts ≡ false → reads (unless f s k) ts n ≡ reads (f ⨾ k) ts n
reads_unless f k s [] n m d x out e = out
reads_unless f k s (t ∷ ts) n m d x out e = same_next (unless f s k) (f ⨾ k) t ts n refl d (unless_goes f k s t m e ∙ sym (x t))

pub stops_unless : (f k : Form) (s : Terminal) (ts : List Terminal) (n : ℕ) → may_end f ≡ false → ((t : Terminal) → fits t s ≡ true → next f t ≡ refused Syntax) → is_next s ts ≡ true → reads (unless f s k) ts n ≡ Err (stop_at n Unsupported)
stops_unless f k s [] n m x e = cc
stops_unless f k s (t ∷ ts) n m x e = halt (unless f s k) t ts n Unsupported refl (unless_stops f k s t m (x t e) e)

word_no_pauli : (t : Terminal) → fits t Word ≡ true → fits t Pauli ≡ false
word_no_pauli t e = by (fits t Pauli) refl
  where
    by : (b : Bool) → fits t Pauli ≡ b → b ≡ false
    by true h = absurd (never_false (sym e ∙ ap (λ (u : Terminal). fits u Word) (own Pauli refl t h)))
    by false h = refl

one_then_next : (s : Terminal) (g k : Form) (t : Terminal) → next (both (one s) g ⨾ k) t ≡ next (both (one s) g) t ⨾ k
unfolding next may_end ◌⨾◌
one_then_next s g k t = by_test (fits t s)
  where
    by_test : (b : Bool) → cond b done (refused Syntax) ⨾ (g ⨾ k) ≡ (cond b done (refused Syntax) ⨾ g) ⨾ k
    by_test true = refl
    by_test false = refl

call_next : (t : Terminal) (k : Form) → next (call_of Pauli ⨾ k) t ≡ next (call_of Pauli) t ⨾ k
unfolding call_of ◌⨾◌
call_next t k = one_then_next Pauli (brackets ⨾ args ⨾ one Semicolon) k t

no_call : (t : Terminal) → fits t Pauli ≡ false → next (call_of Pauli) t ≡ refused Syntax
unfolding call_of ◌⨾◌
no_call t e = one_other Pauli t (brackets ⨾ args ⨾ one Semicolon) e

call_form : (k : Form) → (call_of Pauli or never Unsupported Word) ⨾ k ≡ unless (call_of Pauli) Word k
unfolding call_of ◌⨾◌ ◌or◌
call_form k = refl

call_has_more : may_end (call_of Pauli) ≡ false
unfolding call_of may_end ◌⨾◌
call_has_more = refl

call_waits : (k : Form) → is_done (call_of Pauli ⨾ k) ≡ false
unfolding call_of ◌⨾◌
call_waits k = refl

call_ends : (k : Form) (n : ℕ) → reads (unless (call_of Pauli) Word k) [] n ≡ reads (call_of Pauli ⨾ k) [] n
unfolding may_end at_end reads ◌⨾◌ call_of
call_ends k n = refl

pub if_word : (k : Form) (ts : List Terminal) (n : ℕ) → is_next Word ts ≡ true → reads ((call_of Pauli or never Unsupported Word) ⨾ k) ts n ≡ Err (stop_at n Unsupported)
if_word k ts n e = ap (λ (f : Form). reads f ts n) (call_form k) ∙ stops_unless (call_of Pauli) k Word ts n call_has_more (λ t f. no_call t (word_no_pauli t f)) e

pub if_named : (k : Form) (ts : List Terminal) (n : ℕ) → is_next Word ts ≡ false → reads ((call_of Pauli or never Unsupported Word) ⨾ k) ts n ≡ reads (call_of Pauli ⨾ k) ts n
if_named k ts n e =
    ap (λ (f : Form). reads f ts n) (call_form k) ∙ reads_unless (call_of Pauli) k Word ts n call_has_more (call_waits k) (λ t. call_next t k) (call_ends k n) e
