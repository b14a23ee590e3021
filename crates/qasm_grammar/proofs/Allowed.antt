-- Following a form token by token, and the lists that it allows.
use Rattle.std.proofs.Common.{◌≡◌, ◌⊎◌, inl, inr, ℕ, suc, zero, ◌+◌, Bool, true, false, ◌&&◌, ◌||◌, cond, List, [], ◌∷◌, ◌++◌, take, Option, None, Some, Result, Ok, Err, refl, sym, ap, subst, ◌∙◌, append_assoc, arith}
use Rattle.qasm_grammar.specs.declared.follow.Refusal.{Refusal}
use Rattle.qasm_grammar.specs.declared.follow.Refusal.TheVariants.{Syntax}
use Rattle.qasm_grammar.specs.declared.terminal.Terminal.{Terminal}
use Rattle.qasm_grammar.specs.declared.terminal.Terminal.TheVariants.{Name, Callee, Word, OtherWord}
use Rattle.qasm_grammar.specs.declared.follow.Halt.{Halt}
use Rattle.qasm_grammar.specs.Forms.{Form, refused, done, one, must, never, both, either, many, ◌⨾◌, ◌or◌, may_end, next, is_done, refusal, at_end, onward, reads, fits}
use Rattle.qasm_grammar.specs.Meaning.{Allows, Each, joined, Live, StopsAt, ReadsTo}

-- a front and a back, one after the other
pub from_then : (f g : Form) (ts : List Terminal) → Allows (f ⨾ g) ts → Allows (both f g) ts
unfolding ◌⨾◌
from_then (refused kind) g ts a = absurd a
from_then done g ts a = ([], ts, refl, refl, a)
from_then (one s) g ts a = a
from_then (must kind s) g ts a = a
from_then (never kind s) g ts a = a
from_then (both f h) g ts a =
    let p = from_then h g a.1 a.4 in
    (a.0 ++ p.0, p.1, a.2 ∙ ap (λ (xs : List Terminal). a.0 ++ xs) p.2 ∙ sym (append_assoc a.0 p.0 p.1), (a.0, p.0, refl, a.3, p.3), p.4)
from_then (either f h) g ts a = a
from_then (many f) g ts a = a

to_then : (f g : Form) (ts : List Terminal) → Allows (both f g) ts → Allows (f ⨾ g) ts
unfolding ◌⨾◌
to_then (refused kind) g ts a = absurd a.3
to_then done g ts a = subst (Allows g) (sym (a.2 ∙ ap (λ (xs : List Terminal). xs ++ a.1) a.3)) a.4
to_then (one s) g ts a = a
to_then (must kind s) g ts a = a
to_then (never kind s) g ts a = a
to_then (both f h) g ts a =
    let fh = a.3 in
    (fh.0, fh.1 ++ a.1, a.2 ∙ ap (λ (xs : List Terminal). xs ++ a.1) fh.2 ∙ append_assoc fh.0 fh.1 a.1, fh.3, to_then h g (fh.1 ++ a.1) (fh.1, a.1, refl, fh.4, a.4))
to_then (either f h) g ts a = a
to_then (many f) g ts a = a

pub from_or : (f g : Form) (ts : List Terminal) → Allows (f or g) ts → Allows f ts ⊎ Allows g ts
unfolding ◌or◌
from_or (refused Syntax) g ts a = inr a
from_or (refused kind) (refused other) ts a = absurd a
from_or (refused kind) g ts a = inr a
from_or f (refused kind) ts a = inl a
from_or f g ts a = a

to_or : (f g : Form) (ts : List Terminal) → Allows f ts ⊎ Allows g ts → Allows (f or g) ts
unfolding ◌or◌
to_or (refused Syntax) g ts (inl a) = absurd a
to_or (refused Syntax) g ts (inr a) = a
to_or (refused kind) (refused other) ts (inl a) = absurd a
to_or (refused kind) (refused other) ts (inr a) = absurd a
to_or (refused kind) g ts (inl a) = absurd a
to_or (refused kind) g ts (inr a) = a
to_or f (refused kind) ts (inl a) = a
to_or f (refused kind) ts (inr a) = absurd a
to_or f g ts a = a

and_both : (a b : Bool) → (a && b) ≡ true → (a ≡ true) × (b ≡ true)
and_both true b e = (refl, e)
and_both false b e = cc

or_one : (a b : Bool) → (a || b) ≡ true → (a ≡ true) ⊎ (b ≡ true)
or_one true b e = inl refl
or_one false b e = inr e

or_left : (a b : Bool) → a ≡ true → (a || b) ≡ true
or_left a b e = rw e refl

or_right : (a b : Bool) → b ≡ true → (a || b) ≡ true
or_right true b e = refl
or_right false b e = e

ends : (f : Form) → may_end f ≡ true → Allows f []
unfolding may_end
ends (refused kind) e = cc
ends done e = refl
ends (one s) e = cc
ends (must kind s) e = cc
ends (never kind s) e = cc
ends (both f g) e =
    let p = and_both (may_end f) (may_end g) e in
    ([], [], refl, ends f p.0, ends g p.1)
ends (either f g) e = elim (or_one (may_end f) (may_end g) e) [ inl p ↦ inl (ends f p) | inr p ↦ inr (ends g p) ]
ends (many f) e = ([], refl, tt)

nil_front : (xs ys : List Terminal) → [] ≡ xs ++ ys → (xs ≡ []) × (ys ≡ [])
nil_front [] ys e = (refl, sym e)
nil_front (x ∷ xs) ys e = cc

may : (f : Form) → Allows f [] → may_end f ≡ true
unfolding may_end
may (refused kind) a = absurd a
may done a = refl
may (one s) a = (let w = a.1 in cc)
may (must kind s) a = (let w = a.1 in cc)
may (never kind s) a = absurd a
may (both f g) a =
    let p = nil_front a.0 a.1 a.2 in
    rw (may f (subst (Allows f) p.0 a.3), may g (subst (Allows g) p.1 a.4)) refl
may (either f g) a = elim a [ inl p ↦ or_left (may_end f) (may_end g) (may f p) | inr p ↦ or_right (may_end f) (may_end g) (may g p) ]
may (many f) a = refl

never_sound : (kind : Refusal) (b : Bool) (ts : List Terminal) → Allows (cond b (refused kind) (refused Syntax)) ts → ⊥
never_sound kind true ts a = a
never_sound kind false ts a = a

both_sound : (f g : Form) (t : Terminal) (ts : List Terminal) → ((front : List Terminal) → Allows (next f t) front → Allows f (t ∷ front)) → (Allows (next g t) ts → Allows g (t ∷ ts))
    → (b : Bool) → may_end f ≡ b → Allows (cond b ((next f t ⨾ g) or next g t) (next f t ⨾ g)) ts → Allows (both f g) (t ∷ ts)
both_sound f g t ts on_f on_g false e a =
    let p = from_then (next f t) g ts a in
    (t ∷ p.0, p.1, ap (λ (xs : List Terminal). t ∷ xs) p.2, on_f p.0 p.3, p.4)
both_sound f g t ts on_f on_g true e a = elim (from_or (next f t ⨾ g) (next g t) ts a) [
  | inl a' ↦ (let p = from_then (next f t) g ts a' in (t ∷ p.0, p.1, ap (λ (xs : List Terminal). t ∷ xs) p.2, on_f p.0 p.3, p.4))
  | inr a' ↦ ([], t ∷ ts, refl, ends f e, on_g a')
]

-- what is left after a token is what is allowed after it
sound : (f : Form) (t : Terminal) (ts : List Terminal) → Allows (next f t) ts → Allows f (t ∷ ts)
unfolding next
sound (refused kind) t ts a = absurd a
sound done t ts a = absurd a
sound (one s) t ts a = by_test (fits t s) refl a
  where
    by_test : (b : Bool) → fits t s ≡ b → Allows (cond b done (refused Syntax)) ts → Allows (one s) (t ∷ ts)
    by_test true e a' = (t, ap (λ (xs : List Terminal). t ∷ xs) a', e)
    by_test false e a' = absurd a'
sound (must kind s) t ts a = by_test (fits t s) refl a
  where
    by_test : (b : Bool) → fits t s ≡ b → Allows (cond b done (refused kind)) ts → Allows (one s) (t ∷ ts)
    by_test true e a' = (t, ap (λ (xs : List Terminal). t ∷ xs) a', e)
    by_test false e a' = absurd a'
sound (never kind s) t ts a = never_sound kind (fits t s) ts a
sound (both f g) t ts a = both_sound f g t ts (λ front. sound f t front) (sound g t ts) (may_end f) refl a
sound (either f g) t ts a = elim (from_or (next f t) (next g t) ts a) [ inl p ↦ inl (sound f t ts p) | inr p ↦ inr (sound g t ts p) ]
sound (many f) t ts a =
    let p = from_then (next f t) (many f) ts a in
    ((t ∷ p.0) ∷ p.4.0, ap (λ (xs : List Terminal). t ∷ xs) (p.2 ∙ ap (λ (xs : List Terminal). p.0 ++ xs) p.4.1), (sound f t p.0 p.3, p.4.2))

many_on : (f : Form) (t : Terminal) → ((front : List Terminal) → Allows f (t ∷ front) → Allows (next f t) front) → (parts : List (List Terminal)) (ts : List Terminal) → t ∷ ts ≡ joined parts → Each (Allows f) parts → Allows (both (next f t) (many f)) ts
many_on f t ih [] ts e each = cc
many_on f t ih ([] ∷ parts) ts e each = many_on f t ih parts ts e each.1
many_on f t ih ((x ∷ front) ∷ parts) ts e each =
    let same_token : x ≡ t = cc in
    (front, joined parts, cc, ih front (subst (λ (y : Terminal). Allows f (y ∷ front)) same_token each.0), (parts, refl, each.1))

in_front : (f g : Form) (ts : List Terminal) (b : Bool) → Allows f ts → Allows (cond b (f or g) f) ts
in_front f g ts true p = to_or f g ts (inl p)
in_front f g ts false p = p

both_complete : (f g : Form) (t : Terminal) (ts : List Terminal) → ((front : List Terminal) → Allows f (t ∷ front) → Allows (next f t) front) → (Allows g (t ∷ ts) → Allows (next g t) ts)
    → (front back : List Terminal) → t ∷ ts ≡ front ++ back → Allows f front → Allows g back → Allows (cond (may_end f) ((next f t ⨾ g) or next g t) (next f t ⨾ g)) ts
both_complete f g t ts on_f on_g [] back e af ag =
    subst (λ (b : Bool). Allows (cond b ((next f t ⨾ g) or next g t) (next f t ⨾ g)) ts) (sym (may f af)) (to_or (next f t ⨾ g) (next g t) ts (inr (on_g (subst (Allows g) (sym e) ag))))
both_complete f g t ts on_f on_g (x ∷ front) back e af ag =
    let same_token : x ≡ t = cc in
    let behind : ts ≡ front ++ back = cc in
    in_front (next f t ⨾ g) (next g t) ts (may_end f) (to_then (next f t) g ts (front, back, behind, on_f front (subst (λ (y : Terminal). Allows f (y ∷ front)) same_token af), ag))

pub complete : (f : Form) (t : Terminal) (ts : List Terminal) → Allows f (t ∷ ts) → Allows (next f t) ts
unfolding next
complete (refused kind) t ts a = absurd a
complete done t ts a = cc
complete (one s) t ts a =
    let w = a.1 in
    let same_token : a.0 ≡ t = cc in
    let e : fits t s ≡ true = subst (λ (x : Terminal). fits x s ≡ true) same_token a.2 in
    let n : ts ≡ [] = cc in
    subst (λ (b : Bool). Allows (cond b done (refused Syntax)) ts) (sym e) n
complete (must kind s) t ts a =
    let w = a.1 in
    let same_token : a.0 ≡ t = cc in
    let e : fits t s ≡ true = subst (λ (x : Terminal). fits x s ≡ true) same_token a.2 in
    let n : ts ≡ [] = cc in
    subst (λ (b : Bool). Allows (cond b done (refused kind)) ts) (sym e) n
complete (never kind s) t ts a = absurd a
complete (both f g) t ts a = both_complete f g t ts (λ front. complete f t front) (complete g t ts) a.0 a.1 a.2 a.3 a.4
complete (either f g) t ts a = elim a [ inl p ↦ to_or (next f t) (next g t) ts (inl (complete f t ts p)) | inr p ↦ to_or (next f t) (next g t) ts (inr (complete g t ts p)) ]
complete (many f) t ts a = to_then (next f t) (many f) ts (many_on f t (λ front. complete f t front) a.0 ts a.1 a.2)

-- a token of a text that is the one meant
word_for : Terminal → Terminal
word_for Callee = Name
word_for Word = OtherWord
word_for s = s

word_fits : (s : Terminal) → fits (word_for s) s ≡ true
unfolding word_for
word_fits Callee = refl
word_fits Word = refl
word_fits s = refl

some_list : (f : Form) → Live f → (ts : List Terminal) × Allows f ts
some_list (refused kind) l = absurd l
some_list done l = ([], refl)
some_list (one s) l = (word_for s ∷ [], (word_for s, refl, word_fits s))
some_list (must kind s) l = (word_for s ∷ [], (word_for s, refl, word_fits s))
some_list (never kind s) l = absurd l
some_list (both f g) l =
    let p = some_list f l.0 in
    let q = some_list g l.1 in
    (p.0 ++ q.0, (p.0, q.0, refl, p.1, q.1))
some_list (either (never kind s) g) l = let p = some_list g l in (p.0, inr p.1)
some_list (either f (never kind s)) l = let p = some_list f l in (p.0, inl p.1)
some_list (either f g) l = let p = some_list f l.0 in (p.0, inl p.1)
some_list (many f) l = ([], ([], refl, tt))

live_then : (f g : Form) → Live f → Live g → Live (f ⨾ g)
unfolding ◌⨾◌
live_then (refused kind) g lf lg = absurd lf
live_then done g lf lg = lg
live_then (one s) g lf lg = (tt, lg)
live_then (must kind s) g lf lg = (tt, lg)
live_then (never kind s) g lf lg = absurd lf
live_then (both f h) g lf lg = (lf.0, live_then h g lf.1 lg)
live_then (either f h) g lf lg = (lf, lg)
live_then (many f) g lf lg = (lf, lg)

then_live : (f g : Form) → (refusal f ≡ None → Live f) → Live g → refusal (f ⨾ g) ≡ None → Live (f ⨾ g)
unfolding ◌⨾◌
then_live (refused kind) g lf lg r = lf r
then_live done g lf lg r = lg
then_live (one s) g lf lg r = (tt, lg)
then_live (must kind s) g lf lg r = (tt, lg)
then_live (never kind s) g lf lg r = absurd (lf refl)
then_live (both f h) g lf lg r = live_then (both f h) g (lf refl) lg
then_live (either f h) g lf lg r = (lf refl, lg)
then_live (many f) g lf lg r = (lf refl, lg)

or_live : (f g : Form) → (refusal f ≡ None → Live f) → (refusal g ≡ None → Live g) → refusal (f or g) ≡ None → Live (f or g)
unfolding ◌or◌
or_live (refused Syntax) g lf lg r = lg r
or_live (refused kind) (refused other) lf lg r = cc
or_live (refused kind) g lf lg r = lg r
or_live f (refused kind) lf lg r = lf r
or_live (never kind s) g lf lg r = absurd (lf refl)
or_live f (never kind s) lf lg r = absurd (lg refl)
or_live f g lf lg r = (lf refl, lg refl)

test_live : (kind : Refusal) (b : Bool) → refusal (cond b done (refused kind)) ≡ None → Live (cond b done (refused kind))
test_live kind true r = tt
test_live kind false r = cc

never_live : (kind : Refusal) (b : Bool) → refusal (cond b (refused kind) (refused Syntax)) ≡ None → Live (cond b (refused kind) (refused Syntax))
never_live kind true r = cc
never_live kind false r = cc

both_live : (f g : Form) (t : Terminal) → (refusal (next f t) ≡ None → Live (next f t)) → (refusal (next g t) ≡ None → Live (next g t)) → Live g
    → (b : Bool) → refusal (cond b ((next f t ⨾ g) or next g t) (next f t ⨾ g)) ≡ None → Live (cond b ((next f t ⨾ g) or next g t) (next f t ⨾ g))
both_live f g t on_f on_g lg true r = or_live (next f t ⨾ g) (next g t) (then_live (next f t) g on_f lg) on_g r
both_live f g t on_f on_g lg false r = then_live (next f t) g on_f lg r

next_live : (f : Form) (t : Terminal) → Live f → refusal (next f t) ≡ None → Live (next f t)
unfolding next
next_live (refused kind) t l r = absurd l
next_live done t l r = cc
next_live (one s) t l r = test_live Syntax (fits t s) r
next_live (must kind s) t l r = test_live kind (fits t s) r
next_live (never kind s) t l r = absurd l
next_live (both f g) t l r = both_live f g t (next_live f t l.0) (next_live g t l.1) l.1 (may_end f) r
next_live (either (never kind s) g) t l r = or_live (next (never kind s) t) (next g t) (never_live kind (fits t s)) (next_live g t l) r
next_live (either f (never kind s)) t l r = or_live (next f t) (next (never kind s) t) (next_live f t l) (never_live kind (fits t s)) r
next_live (either f g) t l r = or_live (next f t) (next g t) (next_live f t l.0) (next_live g t l.1) r
next_live (many f) t l r = then_live (next f t) (many f) (next_live f t l) l r

dead : (f : Form) (kind : Refusal) (ts : List Terminal) → refusal f ≡ Some kind → Allows f ts → ⊥
dead (refused k) kind ts r a = a
dead done kind ts r a = cc
dead (one s) kind ts r a = cc
dead (must k s) kind ts r a = cc
dead (never k s) kind ts r a = cc
dead (both f g) kind ts r a = cc
dead (either f g) kind ts r a = cc
dead (many f) kind ts r a = cc

done_allows : (f : Form) → is_done f ≡ true → Allows f []
done_allows (refused k) e = cc
done_allows done e = refl
done_allows (one s) e = cc
done_allows (must k s) e = cc
done_allows (never k s) e = cc
done_allows (both f g) e = cc
done_allows (either f g) e = cc
done_allows (many f) e = cc

abbrev ended : ℕ → Result ℕ Halt
ended n = Ok n

abbrev stopped : ℕ → Refusal → Result ℕ Halt
stopped n kind = Err (record { at = n; kind = kind })

here : (f : Form) (ts : List Terminal) (n end : ℕ) → is_done f ≡ true → ended n ≡ Ok end → ReadsTo f ts n end
here f ts n end e h = record { taken = zero; place = (let w : n ≡ end = cc in omega arith); within = omega arith; allowed = done_allows f e }

further : (f : Form) (t : Terminal) (ts : List Terminal) (n end : ℕ) → ReadsTo (next f t) ts (n + 1) end → ReadsTo f (t ∷ ts) n end
further f t ts n end r = record { taken = suc r.taken; place = omega (arith, r.place); within = omega (arith, r.within); allowed = sound f t (take r.taken ts) r.allowed }

reads_on : (f : Form) (t : Terminal) (ts : List Terminal) (n end : ℕ) → (reads (next f t) ts (n + 1) ≡ Ok end → ReadsTo (next f t) ts (n + 1) end)
    → (b : Bool) (o : Option Refusal) → is_done f ≡ b → cond b (Ok n) (onward n o (reads (next f t) ts (n + 1))) ≡ Ok end → ReadsTo f (t ∷ ts) n end
reads_on f t ts n end ih true o e h = here f (t ∷ ts) n end e h
reads_on f t ts n end ih false None e h = further f t ts n end (ih h)
reads_on f t ts n end ih false (Some kind) e h = cc

reads_out : (f : Form) (n end : ℕ) (b : Bool) → may_end f ≡ b → cond b (ended n) (stopped n (at_end f)) ≡ Ok end → ReadsTo f [] n end
reads_out f n end true e h = record { taken = zero; place = (let w : n ≡ end = cc in omega arith); within = omega arith; allowed = ends f e }
reads_out f n end false e h = cc

pub reads_to : (f : Form) (ts : List Terminal) (n end : ℕ) → reads f ts n ≡ Ok end → ReadsTo f ts n end
unfolding reads
reads_to f [] n end h = reads_out f n end (may_end f) refl h
reads_to f (t ∷ ts) n end h = reads_on f t ts n end (reads_to (next f t) ts (n + 1) end) (is_done f) (refusal (next f t)) refl h

stops_further : (f : Form) (t : Terminal) (ts : List Terminal) (n : ℕ) (stop : Halt) → refusal (next f t) ≡ None → StopsAt (next f t) ts (n + 1) stop → StopsAt f (t ∷ ts) n stop
stops_further f t ts n stop r s = record {
  taken = suc s.taken;
  place = omega (arith, s.place);
  begins = λ l. (let p = s.begins (next_live f t l r) in (p.0, sound f t (take s.taken ts ++ p.0) p.1));
  ends = λ u rest stands a. s.ends u rest stands (complete f t (take s.taken ts ++ u ∷ rest) a);
  short = λ e a. s.short (omega (arith, e)) (complete f t ts a);
}

stops_here : (f : Form) (t : Terminal) (ts : List Terminal) (n : ℕ) (stop : Halt) (kind : Refusal) → refusal (next f t) ≡ Some kind → stopped n kind ≡ Err stop → StopsAt f (t ∷ ts) n stop
stops_here f t ts n stop kind r h = record {
  taken = zero;
  place = (let w : n ≡ stop.at = ap (λ (s : Halt). s.at) {x = record { at = n; kind = kind }} {y = stop} cc in omega arith);
  begins = λ l. some_list f l;
  ends = λ u rest stands a. (let same_token : u ≡ t = cc in dead (next f t) kind rest r (complete f t rest (subst (λ (x : Terminal). Allows f (x ∷ rest)) same_token a)));
  short = λ e a. absurd (omega (arith, e));
}

stops_on : (f : Form) (t : Terminal) (ts : List Terminal) (n : ℕ) (stop : Halt) → (reads (next f t) ts (n + 1) ≡ Err stop → StopsAt (next f t) ts (n + 1) stop)
    → (b : Bool) (o : Option Refusal) → is_done f ≡ b → refusal (next f t) ≡ o → cond b (Ok n) (onward n o (reads (next f t) ts (n + 1))) ≡ Err stop → StopsAt f (t ∷ ts) n stop
stops_on f t ts n stop ih true o e r h = cc
stops_on f t ts n stop ih false None e r h = stops_further f t ts n stop r (ih h)
stops_on f t ts n stop ih false (Some kind) e r h = stops_here f t ts n stop kind r h

stops_out : (f : Form) (n : ℕ) (stop : Halt) (b : Bool) → may_end f ≡ b → cond b (ended n) (stopped n (at_end f)) ≡ Err stop → StopsAt f [] n stop
stops_out f n stop true e h = cc
stops_out f n stop false e h = record {
  taken = zero;
  place = (let w : n ≡ stop.at = ap (λ (s : Halt). s.at) {x = record { at = n; kind = at_end f }} {y = stop} cc in omega arith);
  begins = λ l. some_list f l;
  ends = λ u rest stands a. cc;
  short = λ _ a. (let m = may f a in cc);
}

pub stops_at : (f : Form) (ts : List Terminal) (n : ℕ) (stop : Halt) → reads f ts n ≡ Err stop → StopsAt f ts n stop
unfolding reads
stops_at f [] n stop h = stops_out f n stop (may_end f) refl h
stops_at f (t ∷ ts) n stop h = stops_on f t ts n stop (stops_at (next f t) ts (n + 1) stop) (is_done f) (refusal (next f t)) refl refl h
