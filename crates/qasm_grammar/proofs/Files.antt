-- The text of an include.
use Rattle.std.proofs.Common.{◌≡◌, ℕ, true, false, List, [], Err, refl, ap, ◌∙◌}
use Rattle.qasm_grammar.specs.declared.follow.Refusal.TheVariants.{Syntax, Unsupported}
use Rattle.qasm_grammar.specs.declared.terminal.Terminal.{Terminal}
use Rattle.qasm_grammar.specs.declared.terminal.Terminal.TheVariants.{Qelib, Quoted}
use Rattle.qasm_grammar.specs.Forms.{Form, refused, one, never, ◌⨾◌, ◌or◌, next, may_end, at_end, reads, fits}
use Rattle.qasm_grammar.specs.inside.Forms.{is_next}
use Rattle.qasm_grammar.proofs.Steps.{own, stop_at}
use Rattle.qasm_grammar.proofs.Starts.{unless, reads_unless, stops_unless}

abbrev pub file : Form → Form
file k = (one Qelib or never Unsupported Quoted) ⨾ k

file_is : (k : Form) → file k ≡ unless (one Qelib) Quoted k
unfolding ◌⨾◌ ◌or◌
file_is k = refl

no_qelib : (t : Terminal) → fits t Quoted ≡ true → next (one Qelib) t ≡ refused Syntax
unfolding next
no_qelib t e = ap (next (one Qelib)) (own Quoted refl t e)

qelib_next : (k : Form) (t : Terminal) → next (one Qelib ⨾ k) t ≡ next (one Qelib) t ⨾ k
unfolding next may_end ◌⨾◌
qelib_next k t = refl

qelib_ends : (k : Form) (n : ℕ) → reads (unless (one Qelib) Quoted k) [] n ≡ reads (one Qelib ⨾ k) [] n
unfolding may_end at_end reads ◌⨾◌
qelib_ends k n = refl

pub other_file : (k : Form) (ts : List Terminal) (n : ℕ) → is_next Quoted ts ≡ true → reads (file k) ts n ≡ Err (stop_at n Unsupported)
unfolding may_end
other_file k ts n e = ap (λ (f : Form). reads f ts n) (file_is k) ∙ stops_unless (one Qelib) k Quoted ts n refl no_qelib e

pub known_file : (k : Form) (ts : List Terminal) (n : ℕ) → is_next Quoted ts ≡ false → reads (file k) ts n ≡ reads (one Qelib ⨾ k) ts n
unfolding may_end ◌⨾◌
known_file k ts n e = ap (λ (f : Form). reads f ts n) (file_is k) ∙ reads_unless (one Qelib) k Quoted ts n refl refl (qelib_next k) (qelib_ends k n) e
