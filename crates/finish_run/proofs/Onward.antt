-- How histories go on from one another.
use Rattle.std.proofs.Common.{◌≡◌, ◌⊎◌, inl, inr, ℕ, zero, suc, ◌+◌, ◌-◌, ◌<◌, ◌≤◌, List, [], ◌∷◌, ◌++◌, length, take, slice_get, Some, refl, ap, sym, ◌∙◌, subst, arith, append_assoc}
use Rattle.std.proofs.Math.Seq.{take-append-add}
use Rattle.std.proofs.lemmas.Bool.{cases_order}
use Rattle.std.proofs.lemmas.Option.{same_Some, none-some}
use Rattle.std.proofs.lemmas.List.{append-nil, map-append, take-append-le}
use Rattle.source_model.specs.declared.Given.{Given}
use Rattle.board_core.specs.declared.Entry.{Entry}
use Rattle.board_core.specs.declared.Entry.TheVariants.{Claim, Deliver, Release, Step, Settle}
use Rattle.board_core.specs.declared.Noted.{Noted}
use Rattle.board_core.specs.History.{entries}
use Rattle.board_core.specs.Position.{Position, past, with_entry, with_history, note}
use Rattle.finish_run.specs.Next.{Meeting, ComesNext, never}
use Rattle.finish_run.specs.Finished.{by_zero, behind, GoesOn}

-- ---- entries behind entries
zero_entries : (es : List Entry) → entries (by_zero es) ≡ es
zero_entries [] = refl
zero_entries (e ∷ es) = ap (λ (l : List Entry). e ∷ l) (zero_entries es)

pub past_behind : (b : Position) (es : List Entry) → past (behind b es) ≡ past b ++ es
past_behind b es = map-append (λ (n : Noted). n.entry) b.history (by_zero es) ∙ ap (λ (l : List Entry). past b ++ l) (zero_entries es)

pub behind_none : (b : Position) → behind b [] ≡ b
behind_none b = ap (λ (l : List Noted). with_history b l) (append-nil b.history)

pub behind_more : (b : Position) (es fs : List Entry) → behind (behind b es) fs ≡ behind b (es ++ fs)
behind_more b es fs =
    ap (λ (l : List Noted). with_history b l)
    (append_assoc b.history (by_zero es) (by_zero fs) ∙ ap (λ (l : List Noted). b.history ++ l) (sym (map-append (λ (e : Entry). note 0 e) es fs)))

get_front : {A : Type 0} (xs ys : List A) (n : ℕ) → n < length xs → slice_get (xs ++ ys) n ≡ slice_get xs n
get_front [] ys n l = absurd (omega arith)
get_front (x ∷ xs) ys zero l = refl
get_front (x ∷ xs) ys (suc n) l = get_front xs ys n (omega arith)

get_back : {A : Type 0} (xs ys : List A) (n : ℕ) → slice_get (xs ++ ys) (length xs + n) ≡ slice_get ys n
get_back [] ys n = ap (λ (k : ℕ). slice_get ys k) (let e : 0 + n ≡ n = omega arith in e)
get_back (x ∷ xs) ys n = ap (λ (k : ℕ). slice_get (x ∷ (xs ++ ys)) k) (let e : suc (length xs) + n ≡ suc (length xs + n) = omega arith in e) ∙ get_back xs ys n

-- ---- boards behind boards
pub goes_none : (M : Meeting) (given : List Given) (b : Position) → GoesOn M given b b
goes_none M given b = record { added = []; is = sym (behind_none b); next = λ n e at. absurd (none-some e at) }

pub goes_one : (M : Meeting) (given : List Given) (b c : Position) (e : Entry) → c ≡ with_entry b 0 e → ComesNext M given b e → GoesOn M given b c
goes_one M given b c e is comes = record {
  added = e ∷ [];
  is = is;
  next = go;
}
  where
    go : (n : ℕ) (f : Entry) → slice_get (e ∷ []) n ≡ Some f → ComesNext M given (behind b (take n (e ∷ []))) f
    go zero f at = subst (λ (x : Entry). ComesNext M given (behind b []) x) (same_Some e f at) (subst (λ (x : Position). ComesNext M given x e) (sym (behind_none b)) comes)
    go (suc n) f at = absurd (none-some f at)

pub goes_more : (M : Meeting) (given : List Given) (b c d : Position) → GoesOn M given b c → GoesOn M given c d → GoesOn M given b d
goes_more M given b c d x y = record {
  added = x.added ++ y.added;
  is = y.is ∙ ap (λ (p : Position). behind p y.added) x.is ∙ behind_more b x.added y.added;
  next = λ n e at. go n e at (cases_order n (length x.added));
}
  where
    early : (n : ℕ) (e : Entry) → n < length x.added → slice_get (x.added ++ y.added) n ≡ Some e → ComesNext M given (behind b (take n (x.added ++ y.added))) e
    early n e l at =
        subst (λ (es : List Entry). ComesNext M given (behind b es) e) (sym (take-append-le n x.added y.added (omega arith)))
        (x.next n e (sym (get_front x.added y.added n l) ∙ at))

    late : (k : ℕ) (e : Entry) → slice_get (x.added ++ y.added) (length x.added + k) ≡ Some e → ComesNext M given (behind b (take (length x.added + k) (x.added ++ y.added))) e
    late k e at =
        subst (λ (es : List Entry). ComesNext M given (behind b es) e) (sym (take-append-add x.added y.added k))
        (subst (λ (p : Position). ComesNext M given p e) (ap (λ (p : Position). behind p (take k y.added)) x.is ∙ behind_more b x.added (take k y.added))
        (y.next k e (sym (get_back x.added y.added k) ∙ at)))

    later : (n : ℕ) (e : Entry) → length x.added ≤ n → slice_get (x.added ++ y.added) n ≡ Some e → ComesNext M given (behind b (take n (x.added ++ y.added))) e
    later n e l at =
        let k = n - length x.added in
        let s : length x.added + k ≡ n = omega arith in
        subst (λ (m : ℕ). ComesNext M given (behind b (take m (x.added ++ y.added))) e) s (late k e (ap (λ (m : ℕ). slice_get (x.added ++ y.added) m) s ∙ at))

    go : (n : ℕ) (e : Entry) → slice_get (x.added ++ y.added) n ≡ Some e → (n ≡ length x.added) ⊎ ((n < length x.added) ⊎ (length x.added < n)) → ComesNext M given (behind b (take n (x.added ++ y.added))) e
    go n e at (inl s) = later n e (omega arith) at
    go n e at (inr (inl l)) = early n e l at
    go n e at (inr (inr l)) = later n e (omega arith) at

comes_any : (M : Meeting) (given : List Given) (b : Position) (e : Entry) → ComesNext never given b e → ComesNext M given b e
comes_any M given b (Claim p axis port state cells) x = absurd x.1.2
comes_any M given b (Deliver p g) x = x
comes_any M given b (Release p) x = x
comes_any M given b (Step f) x = x
comes_any M given b (Settle p flip) x = x

-- where nothing is claimed, every planner's relation is met
pub goes_any : (M : Meeting) (given : List Given) (b c : Position) → GoesOn never given b c → GoesOn M given b c
goes_any M given b c x = record { added = x.added; is = x.is; next = λ n e at. comes_any M given (behind b (take n x.added)) e (x.next n e at) }

-- ---- what stays
pub goes_job : (M : Meeting) (given : List Given) (b c : Position) → GoesOn M given b c → c.job ≡ b.job
goes_job M given b c x = ap (λ (p : Position). p.job) x.is

pub goes_past : (M : Meeting) (given : List Given) (b c : Position) (x : GoesOn M given b c) → past c ≡ past b ++ x.added
goes_past M given b c x = ap past x.is ∙ past_behind b x.added
