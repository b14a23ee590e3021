-- How a form goes on at one token.
use Rattle.std.proofs.Common.{◌≡◌, ℕ, ◌+◌, ◌<◌, Bool, true, false, not, ◌&&◌, ◌||◌, List, [], ◌∷◌, ◌-◌, ◌≤◌, length, get_or, drop, add-one, drop-cons, length-drop, None, Result, Ok, Err, ◌⊎◌, inl, inr, refl, sym, ap, subst, ◌∙◌, arith}
use Rattle.std.proofs.lemmas.List.{drop-drop}
use denote.Enum.Bare.{same_true}
use Rattle.qasm_grammar.specs.declared.follow.Refusal.{Refusal}
use Rattle.qasm_grammar.specs.declared.follow.Refusal.TheVariants.{Syntax}
use Rattle.qasm_grammar.specs.declared.terminal.Terminal.{Terminal}
use Rattle.qasm_grammar.specs.declared.terminal.Terminal.TheVariants.{Name, Taken, Pauli, Callee, Word}
use Rattle.qasm_grammar.specs.declared.follow.Halt.{Halt}
use Rattle.qasm_grammar.specs.declared.follow.Unread.{Unread}
use Rattle.qasm_grammar.specs.declared.follow.Unread.TheVariants.{Memory, Halted}
use Rattle.qasm_grammar.specs.contracts.terminal.Terminal.{the_type}
use Rattle.qasm_grammar.specs.Forms.{Form, refused, done, one, must, never, both, either, many, optional, ◌⨾◌, ◌or◌, may_end, next, is_done, refusal, at_end, reads, same, fits, is_other_word, Stopped, GoesOn}
use Rattle.qasm_grammar.specs.inside.Forms.{is_next, tokens_then}

abbrev pub stop_at : ℕ → Refusal → Halt
stop_at n kind = record { at = n; kind = kind }

step : (f : Form) (t : Terminal) (ts : List Terminal) (n : ℕ) (g : Form) → is_done f ≡ false → next f t ≡ g → refusal g ≡ None → reads f (t ∷ ts) n ≡ reads g ts (n + 1)
unfolding reads
step f t ts n g d e r = rw (d, e, r) refl

pub halt : (f : Form) (t : Terminal) (ts : List Terminal) (n : ℕ) (kind : Refusal) → is_done f ≡ false → next f t ≡ refused kind → reads f (t ∷ ts) n ≡ Err (stop_at n kind)
unfolding reads
halt f t ts n kind d e = rw (d, e) refl

pub halts_at : (s : Terminal) (f : Form) (ts : List Terminal) (n : ℕ) (kind : Refusal) → is_done f ≡ false → ((t : Terminal) → fits t s ≡ true → next f t ≡ refused kind) → is_next s ts ≡ true → reads f ts n ≡ Err (stop_at n kind)
halts_at s f [] n kind d a e = cc
halts_at s f (t ∷ ts) n kind d a e = halt f t ts n kind d (a t e)

-- a token of the grammar that one token of a text alone fits
abbrev pub alone : Terminal → Bool
alone s = not (same s Name || (same s Callee || same s Word))

last_one : (a b c x y z r : Bool) → not (a || (b || c)) ≡ true → (a && x) || ((b && y) || ((c && z) || r)) ≡ true → r ≡ true
last_one true b c x y z r h e = cc
last_one false true c x y z r h e = cc
last_one false false true x y z r h e = cc
last_one false false false x y z r h e = e

pub own : (s : Terminal) → alone s ≡ true → (t : Terminal) → fits t s ≡ true → t ≡ s
own s o t e = same_true the_type tt t s (last_one (same s Name) (same s Callee) (same s Word) (same t Taken || same t Pauli) (same t Name || same t Pauli) (is_other_word t) (same t s) o e)

one_of : (a b c : Bool) → (a || b) || c ≡ true → (a ≡ true) ⊎ ((b ≡ true) ⊎ (c ≡ true))
one_of true b c e = inl refl
one_of false true c e = inr (inl refl)
one_of false false c e = inr (inr e)

-- what holds of the tokens that fit a called name
pub by_callee : (P : Terminal → Type 0) → P Name → P Pauli → P Callee → (t : Terminal) → fits t Callee ≡ true → P t
by_callee P name pauli callee t e = elim (one_of (same t Name) (same t Pauli) (same t Callee) e) [
  | inl a ↦ subst P (sym (same_true the_type tt t Name a)) name
  | inr b ↦ elim b [
    | inl a ↦ subst P (sym (same_true the_type tt t Pauli a)) pauli
    | inr a ↦ subst P (sym (same_true the_type tt t Callee a)) callee
  ]
]

or_refused : (f : Form) → refusal f ≡ None → f or refused Syntax ≡ f
unfolding ◌or◌
or_refused (refused kind) r = cc
or_refused done r = refl
or_refused (one s) r = refl
or_refused (must kind s) r = refl
or_refused (never kind s) r = refl
or_refused (both f g) r = refl
or_refused (either f g) r = refl
or_refused (many f) r = refl

pub then_lives : (f k : Form) → refusal f ≡ None → refusal k ≡ None → refusal (f ⨾ k) ≡ None
unfolding ◌⨾◌
then_lives (refused kind) k r q = cc
then_lives done k r q = q
then_lives (one s) k r q = refl
then_lives (must kind s) k r q = refl
then_lives (never kind s) k r q = refl
then_lives (both f g) k r q = refl
then_lives (either f g) k r q = refl
then_lives (many f) k r q = refl

pub then_assoc : (f g k : Form) → (f ⨾ g) ⨾ k ≡ f ⨾ (g ⨾ k)
unfolding ◌⨾◌
then_assoc (refused kind) g k = refl
then_assoc done g k = refl
then_assoc (one s) g k = refl
then_assoc (must kind s) g k = refl
then_assoc (never kind s) g k = refl
then_assoc (both f h) g k = ap (both f) (then_assoc h g k)
then_assoc (either f h) g k = refl
then_assoc (many f) g k = refl

one_next : (s t : Terminal) (k : Form) → fits t s ≡ true → next (both (one s) k) t ≡ k
unfolding next may_end ◌⨾◌
one_next s t k e = rw e refl

pub one_other : (s t : Terminal) (k : Form) → fits t s ≡ false → next (both (one s) k) t ≡ refused Syntax
unfolding next may_end ◌⨾◌
one_other s t k e = rw e refl

pub one_goes : (s : Terminal) (k : Form) (ts : List Terminal) (n : ℕ) → refusal k ≡ None → is_next s ts ≡ true → reads (both (one s) k) ts n ≡ reads k (drop 1 ts) (n + 1)
one_goes s k [] n r e = cc
one_goes s k (t ∷ ts) n r e = step (both (one s) k) t ts n k refl (one_next s t k e) r

pub one_stops : (s : Terminal) (k : Form) (ts : List Terminal) (n : ℕ) → is_next s ts ≡ false → reads (both (one s) k) ts n ≡ Err (stop_at n Syntax)
unfolding reads at_end may_end
one_stops s k [] n e = refl
one_stops s k (t ∷ ts) n e = halt (both (one s) k) t ts n Syntax refl (one_other s t k e)

pub same_next : (f g : Form) (t : Terminal) (ts : List Terminal) (n : ℕ) → is_done f ≡ false → is_done g ≡ false → next f t ≡ next g t → reads f (t ∷ ts) n ≡ reads g (t ∷ ts) n
unfolding reads
same_next f g t ts n d q e = rw (d, q, e) refl

-- a part that may be left out, or may stand again, begins with its own token
opt_next : (s t : Terminal) (f k : Form) → fits t s ≡ true → alone s ≡ true → refusal f ≡ None → refusal k ≡ None → next k s ≡ refused Syntax → next (both (optional (both (one s) f)) k) t ≡ f ⨾ k
unfolding next may_end
opt_next s t f k e o r q a =
    let a' : next k t ≡ refused Syntax = ap (next k) (own s o t e) ∙ a in
    ap (λ (x : Form). (x or refused Syntax) ⨾ k or next k t) (one_next s t f e)
    ∙ ap (λ (x : Form). x ⨾ k or next k t) (or_refused f r)
    ∙ ap (λ (x : Form). f ⨾ k or x) a'
    ∙ or_refused (f ⨾ k) (then_lives f k r q)

opt_other : (s t : Terminal) (f k : Form) → fits t s ≡ false → next (both (optional (both (one s) f)) k) t ≡ next k t
unfolding next may_end ◌⨾◌ ◌or◌
opt_other s t f k e = ap (λ (x : Form). (x or refused Syntax) ⨾ k or next k t) (one_other s t f e)

many_next : (s t : Terminal) (f k : Form) → fits t s ≡ true → alone s ≡ true → refusal f ≡ None → refusal k ≡ None → next k s ≡ refused Syntax → next (both (many (both (one s) f)) k) t ≡ f ⨾ both (many (both (one s) f)) k
unfolding next may_end ◌⨾◌
many_next s t f k e o r q a =
    let a' : next k t ≡ refused Syntax = ap (next k) (own s o t e) ∙ a in
    let again = many (both (one s) f) in
    ap (λ (x : Form). (x ⨾ again) ⨾ k or next k t) (one_next s t f e)
    ∙ ap (λ (x : Form). (f ⨾ again) ⨾ k or x) a'
    ∙ or_refused ((f ⨾ again) ⨾ k) (then_lives (f ⨾ again) k (then_lives f again r refl) q)
    ∙ then_assoc f again k

many_other : (s t : Terminal) (f k : Form) → fits t s ≡ false → next (both (many (both (one s) f)) k) t ≡ next k t
unfolding next may_end ◌⨾◌ ◌or◌
many_other s t f k e = ap (λ (x : Form). (x ⨾ many (both (one s) f)) ⨾ k or next k t) (one_other s t f e)

pub opt_skips : (s : Terminal) (f k : Form) (ts : List Terminal) (n : ℕ) → is_done k ≡ false → is_next s ts ≡ false → reads (both (optional (both (one s) f)) k) ts n ≡ reads k ts n
unfolding reads at_end may_end
opt_skips s f k [] n w e = refl
opt_skips s f k (t ∷ ts) n w e = same_next (both (optional (both (one s) f)) k) k t ts n refl w (opt_other s t f k e)

pub many_skips : (s : Terminal) (f k : Form) (ts : List Terminal) (n : ℕ) → is_done k ≡ false → is_next s ts ≡ false → reads (both (many (both (one s) f)) k) ts n ≡ reads k ts n
unfolding reads at_end may_end
many_skips s f k [] n w e = refl
many_skips s f k (t ∷ ts) n w e = same_next (both (many (both (one s) f)) k) k t ts n refl w (many_other s t f k e)

opt_goes : (s : Terminal) (f k : Form) (ts : List Terminal) (n : ℕ) → alone s ≡ true → refusal f ≡ None → refusal k ≡ None → next k s ≡ refused Syntax → is_next s ts ≡ true → reads (both (optional (both (one s) f)) k) ts n ≡ reads (f ⨾ k) (drop 1 ts) (n + 1)
opt_goes s f k [] n o r q a e = cc
opt_goes s f k (t ∷ ts) n o r q a e = step (both (optional (both (one s) f)) k) t ts n (f ⨾ k) refl (opt_next s t f k e o r q a) (then_lives f k r q)

many_goes : (s : Terminal) (f k : Form) (ts : List Terminal) (n : ℕ) → alone s ≡ true → refusal f ≡ None → refusal k ≡ None → next k s ≡ refused Syntax → is_next s ts ≡ true → reads (both (many (both (one s) f)) k) ts n ≡ reads (f ⨾ both (many (both (one s) f)) k) (drop 1 ts) (n + 1)
many_goes s f k [] n o r q a e = cc
many_goes s f k (t ∷ ts) n o r q a e = step (both (many (both (one s) f)) k) t ts n (f ⨾ both (many (both (one s) f)) k) refl (many_next s t f k e o r q a) (then_lives f (both (many (both (one s) f)) k) r refl)

-- the same at a place of the tokens
moved : (found : List Terminal) (at : ℕ) (k : Form) → reads k (drop 1 (drop at found)) (at + 1) ≡ reads k (drop (at + 1) found) (at + 1)
moved found at k = ap (λ (ts : List Terminal). reads k ts (at + 1)) (drop-drop 1 at found)

pub at_one_goes : (found : List Terminal) (at : ℕ) (s : Terminal) (k : Form) → refusal k ≡ None → is_next s (drop at found) ≡ true → reads (both (one s) k) (drop at found) at ≡ reads k (drop (at + 1) found) (at + 1)
at_one_goes found at s k r e = one_goes s k (drop at found) at r e ∙ moved found at k

pub at_opt_goes : (found : List Terminal) (at : ℕ) (s : Terminal) (f k : Form) → alone s ≡ true → refusal f ≡ None → refusal k ≡ None → next k s ≡ refused Syntax → is_next s (drop at found) ≡ true → reads (both (optional (both (one s) f)) k) (drop at found) at ≡ reads (f ⨾ k) (drop (at + 1) found) (at + 1)
at_opt_goes found at s f k o r q a e = opt_goes s f k (drop at found) at o r q a e ∙ moved found at (f ⨾ k)

pub at_many_goes : (found : List Terminal) (at : ℕ) (s : Terminal) (f k : Form) → alone s ≡ true → refusal f ≡ None → refusal k ≡ None → next k s ≡ refused Syntax → is_next s (drop at found) ≡ true → reads (both (many (both (one s) f)) k) (drop at found) at ≡ reads (f ⨾ both (many (both (one s) f)) k) (drop (at + 1) found) (at + 1)
at_many_goes found at s f k o r q a e = many_goes s f k (drop at found) at o r q a e ∙ moved found at (f ⨾ both (many (both (one s) f)) k)

pub tokens_live : (ss : List Terminal) (k : Form) → refusal k ≡ None → refusal (tokens_then ss k) ≡ None
tokens_live [] k r = r
tokens_live (s ∷ ss) k r = refl

-- the next token that is wanted, and those after it
pub next_of : (ss : List Terminal) (i : ℕ) (d : Terminal) → i < length ss → drop i ss ≡ get_or ss i d ∷ drop (i + 1) ss
next_of ss i d lt = rw (add-one, drop-cons ss i d) refl

pub next_within : (found : List Terminal) (at : ℕ) (s : Terminal) → is_next s (drop at found) ≡ true → at + 1 ≤ length found
next_within found at s e = within (drop at found) e (length-drop at found)
  where
    within : (ts : List Terminal) → is_next s ts ≡ true → length ts ≡ length found - at → at + 1 ≤ length found
    within [] e l = cc
    within (t ∷ ts) e l = omega arith

-- an answer for an equal reading
pub stopped_along : (fault : Unread) (a b : Result ℕ Halt) → a ≡ b → Stopped fault b → Stopped fault a
stopped_along Memory a b e s = tt
stopped_along (Halted stop) a b e s = e ∙ s

pub goes_along : {X : Type 0} (end_of : X → ℕ) (r : Result X Unread) (k : Form) (found : List Terminal) (a b : Result ℕ Halt) → a ≡ b → GoesOn end_of r k found b → GoesOn end_of r k found a
goes_along end_of (Ok x) k found a b e s = e ∙ s
goes_along end_of (Err fault) k found a b e s = stopped_along fault a b e s

pub many_follows : (s t : Terminal) (f k : Form) → fits t s ≡ false → next k t ≡ refused Syntax → next (both (many (both (one s) f)) k) t ≡ refused Syntax
many_follows s t f k e a = many_other s t f k e ∙ a

must_next : (kind : Refusal) (s t : Terminal) (k : Form) → fits t s ≡ true → next (both (must kind s) k) t ≡ k
unfolding next may_end ◌⨾◌
must_next kind s t k e = rw e refl

must_other : (kind : Refusal) (s t : Terminal) (k : Form) → fits t s ≡ false → next (both (must kind s) k) t ≡ refused kind
unfolding next may_end ◌⨾◌
must_other kind s t k e = rw e refl

must_goes : (kind : Refusal) (s : Terminal) (k : Form) (ts : List Terminal) (n : ℕ) → refusal k ≡ None → is_next s ts ≡ true → reads (both (must kind s) k) ts n ≡ reads k (drop 1 ts) (n + 1)
must_goes kind s k [] n r e = cc
must_goes kind s k (t ∷ ts) n r e = step (both (must kind s) k) t ts n k refl (must_next kind s t k e) r

pub must_stops : (kind : Refusal) (s : Terminal) (k : Form) (ts : List Terminal) (n : ℕ) → is_next s ts ≡ false → reads (both (must kind s) k) ts n ≡ Err (stop_at n kind)
unfolding reads at_end may_end
must_stops kind s k [] n e = refl
must_stops kind s k (t ∷ ts) n e = halt (both (must kind s) k) t ts n kind refl (must_other kind s t k e)

pub at_must_goes : (found : List Terminal) (at : ℕ) (kind : Refusal) (s : Terminal) (k : Form) → refusal k ≡ None → is_next s (drop at found) ≡ true → reads (both (must kind s) k) (drop at found) at ≡ reads k (drop (at + 1) found) (at + 1)
at_must_goes found at kind s k r e = must_goes kind s k (drop at found) at r e ∙ moved found at k
