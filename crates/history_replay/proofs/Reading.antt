-- A reading of lines: a header, the entry lines of a legal history, and behind a complete one lines of bits.
use Rattle.std.proofs.Common.{◌≡◌, ℕ, zero, suc, ◌+◌, ◌-◌, ◌≤◌, ◌<◌, ◌%◌, ◌^◌, ◌⊎◌, Bool, List, [], ◌∷◌, ◌++◌, length, take, refl, sym, ◌∙◌, ap, subst, arith, inl, inr, get_or, drop, append-nil}
use Rattle.std.specs.Prelude.{Some, map, decimal, slice_get}
use Rattle.std.proofs.lemmas.Option.{same_Some, none-some, slice_get_within}
use Rattle.std.proofs.lemmas.List.{length-map}
use Rattle.std.proofs.lemmas.Bool.{cases_lt}
use Rattle.std.proofs.lemmas.Fmt.{decimal_by_steps}
use Rattle.patch_base.specs.Texts.{spaced}
use Rattle.source_model.specs.declared.Given.{Given}
use Rattle.source_model.specs.declared.Register.{Register}
use Rattle.board_core.specs.declared.Noted.{Noted}
use Rattle.board_core.specs.declared.Entry.{Entry}
use Rattle.board_core.specs.declared.Entry.TheVariants.{Claim, Deliver, Release, Step, Settle}
use Rattle.board_core.specs.History.{entries}
use Rattle.board_core.specs.Legal.{Legal, Complete}
use Rattle.board_core.proofs.Going.{legal_take}
use Rattle.schedule_text.specs.Text.{Version, one, two, header_line, entry_words, bits_line}
use Rattle.schedule_text.specs.Lines.{IsEntryLine}
use Rattle.schedule_text.proofs.OneText.{Free, free_append, first, line_one, some_words}
use Rattle.history_replay.specs.Replay.{Question, Agrees, AreEntryLines, Reads, MayFollow}
use Rattle.history_replay.specs.inside.Joining.{AgreeAll}

-- lines that are read: each of them may stand where it stands
pub record Stands (q : Question) (v : Version) (h : List Noted) (k : ℕ) (lines : List (List ℕ)) : Type 0 where
  pub said : List (List ℕ)
  pub are : AreEntryLines v said h
  pub lines_are : lines ≡ header_line v ∷ said ++ map (bits_line q.bit) (take k q.registers)
  pub legal : Legal q.job (entries h)
  pub agree : AgreeAll q.table h
  pub complete : 0 < k → Complete q.job (entries h) q.table
  pub few : k ≤ length q.registers

pub reads_of : (q : Question) (v : Version) (h : List Noted) (k : ℕ) (lines : List (List ℕ)) → Stands q v h k lines → Reads q v h k lines
reads_of q v h k lines s = (s.said, s.are, s.lines_are)

-- ---- a line of bits is no entry line
free_decimal_b : (n : ℕ) → n < 2 ^ 64 → Free 98 (decimal n)
free_decimal_b n =
    decimal_by_steps (λ m ds. Free 98 ds) (λ m small. (λ e. omega (arith, e, small), tt)) (λ m ds big f. free_append 98 ds ((48 + m % 10) ∷ []) f (λ e. omega (arith, e), tt)) n

not_b : (w rest : List ℕ) → Free 98 w → first (w ++ 32 ∷ rest) ≡ 98 → ⊥
not_b [] rest f e = omega (arith, e)
not_b (b ∷ bs) rest (ne, f) e = ne e

spaced_more : (w : List ℕ) (ws : List (List ℕ)) → 0 < length ws → spaced (w ∷ ws) ≡ w ++ 32 ∷ spaced ws
spaced_more w [] some = absurd (omega arith)
spaced_more w (v ∷ vs) some = refl

words_not_b : (e : Entry) → first (spaced (entry_words e)) ≡ 98 → ⊥
words_not_b (Claim p axis port state cells) e = omega (arith, e)
words_not_b (Deliver p g) e = omega (arith, e)
words_not_b (Release p) e = omega (arith, e)
words_not_b (Step f) e = omega (arith, e)
words_not_b (Settle p flip) e = omega (arith, e)

entry_not_b : (v : Version) (line : List ℕ) (n : Noted) → IsEntryLine v line n → first line ≡ 98 → ⊥
entry_not_b one line n is e = words_not_b n.entry (sym (ap first is.text) ∙ e)
entry_not_b two line n is e =
    not_b (decimal n.by) (spaced (entry_words n.entry)) (free_decimal_b n.by (omega (arith, is.prints.0)))
    (sym (ap first (spaced_more (decimal n.by) (entry_words n.entry) (some_words n.entry))) ∙ (sym (ap first is.text) ∙ e))

pub bits_no_entry : (v : Version) (line : List ℕ) (n : Noted) (bit : ℕ → Bool) (r : Register) → IsEntryLine v line n → line ≡ bits_line bit r → ⊥
bits_no_entry v line n bit r is e = entry_not_b v line n is (ap first e)

-- ---- lines are read in one way
said_one : (v : Version) (bit : ℕ → Bool) (said other : List (List ℕ)) (h g : List Noted) (rs ss : List Register) → AreEntryLines v said h → AreEntryLines v other g → said ++ map (bits_line bit) rs ≡ other ++ map (bits_line bit) ss → (h ≡ g) × (length rs ≡ length ss)
said_one v bit [] [] [] [] rs ss f g e = (refl, sym (length-map rs (bits_line bit)) ∙ (ap length e ∙ length-map ss (bits_line bit)))
said_one v bit [] [] [] (n ∷ g) rs ss a b e = absurd b
said_one v bit [] [] (n ∷ h) g rs ss a b e = absurd a
said_one v bit [] (l ∷ ls) (n ∷ h) g rs ss a b e = absurd a
said_one v bit [] (l ∷ ls) [] [] rs ss a b e = absurd b
said_one v bit [] (l ∷ ls) [] (n ∷ g) [] ss a b e = cc
said_one v bit [] (l ∷ ls) [] (n ∷ g) (r ∷ rs) ss a b e =
    let same : l ≡ bits_line bit r = sym (ap (λ xs. get_or xs 0 []) e) in absurd (bits_no_entry v l n bit r b.0 same)
said_one v bit (l ∷ ls) other [] g rs ss a b e = absurd a
said_one v bit (l ∷ ls) [] (n ∷ h) (m ∷ g) rs ss a b e = absurd b
said_one v bit (l ∷ ls) [] (n ∷ h) [] rs [] a b e = cc
said_one v bit (l ∷ ls) [] (n ∷ h) [] rs (s ∷ ss) a b e =
    let same : l ≡ bits_line bit s = ap (λ xs. get_or xs 0 []) e in absurd (bits_no_entry v l n bit s a.0 same)
said_one v bit (l ∷ ls) (m ∷ ms) (n ∷ h) [] rs ss a b e = absurd b
said_one v bit (l ∷ ls) (m ∷ ms) (n ∷ h) (o ∷ g) rs ss (a, as') (b, bs) e =
    let lines : l ≡ m = ap (λ xs. get_or xs 0 []) e in
    let rest : ls ++ map (bits_line bit) rs ≡ ms ++ map (bits_line bit) ss = ap (drop 1) e in
    let same : n ≡ o = line_one v n o a.prints b.prints (sym a.text ∙ (lines ∙ b.text)) in
    let (more, count) = said_one v bit ls ms h g rs ss as' bs rest in
    (cc (same, more), count)

header_one : (v w : Version) (xs ys : List (List ℕ)) → header_line v ∷ xs ≡ header_line w ∷ ys → v ≡ w
header_one one one xs ys e = refl
header_one two two xs ys e = refl
header_one one two xs ys e = absurd (omega (arith, ap (λ ls. get_or (get_or ls 0 []) 9 0) e))
header_one two one xs ys e = absurd (omega (arith, ap (λ ls. get_or (get_or ls 0 []) 9 0) e))

pub record Same (q : Question) (v w : Version) (h g : List Noted) (k m : ℕ) : Type 0 where
  pub version : v ≡ w
  pub history : h ≡ g
  pub count : length (take k q.registers) ≡ length (take m q.registers)

pub reads_one : (q : Question) (v w : Version) (h g : List Noted) (k m : ℕ) (lines : List (List ℕ)) → Reads q v h k lines → Reads q w g m lines → Same q v w h g k m
reads_one q v w h g k m lines (said, a, e) (other, b, f) =
    let both : header_line v ∷ said ++ map (bits_line q.bit) (take k q.registers) ≡ header_line w ∷ other ++ map (bits_line q.bit) (take m q.registers) = sym e ∙ f in
    let versions = header_one v w _ _ both in
    let P : Version → Type 0 = λ x. AreEntryLines x other g in
    let (same, count) = said_one v q.bit said other h g (take k q.registers) (take m q.registers) a (subst P (sym versions) b) (ap (drop 1) both) in
    record { version = versions; history = same; count = count }

pub length_take : {X : Type 0} (xs : List X) (k : ℕ) → k ≤ length xs → length (take k xs) ≡ k
length_take xs zero l = refl
length_take [] (suc k) l = absurd (omega arith)
length_take (x ∷ xs) (suc k) l = ap suc (length_take xs k (omega arith))

-- what may follow lines that are read: an entry line before any bits, or the next line of bits behind a complete history
pub record Entry_next (q : Question) (v : Version) (h : List Noted) (k : ℕ) (line : List ℕ) : Type 0 where
  pub none : k ≡ 0
  pub noted : Noted
  pub is : IsEntryLine v line noted
  pub legal : Legal q.job (entries (h ++ noted ∷ []))
  pub agrees : Agrees q.table noted.entry

pub record Bits_next (q : Question) (h : List Noted) (k : ℕ) (line : List ℕ) : Type 0 where
  pub complete : Complete q.job (entries h) q.table
  pub register : Register
  pub at : slice_get q.registers k ≡ Some register
  pub is : line ≡ bits_line q.bit register

pub what_follows : (q : Question) (v : Version) (h : List Noted) (k : ℕ) (lines : List (List ℕ)) (line : List ℕ) → Stands q v h k lines → MayFollow q lines line → Entry_next q v h k line ⊎ Bits_next q h k line
what_follows q v h k lines line s (inl (empty, rest)) =
    let e : header_line v ∷ s.said ++ map (bits_line q.bit) (take k q.registers) ≡ [] = sym s.lines_are ∙ empty in cc
what_follows q v h k lines line s (inr (inl (w, g, n, reads, is, legal, agrees))) =
    let same = reads_one q w v g h 0 k lines reads (reads_of q v h k lines s) in
    let P : Version → Type 0 = λ x. IsEntryLine x line n in
    let Q : List Noted → Type 0 = λ x. Legal q.job (entries (x ++ n ∷ [])) in
    inl (record {
      none = omega (arith, same.count, length_take q.registers k s.few);
      noted = n;
      is = subst P same.version is;
      legal = subst Q same.history legal;
      agrees = agrees;
    })
what_follows q v h k lines line s (inr (inr (w, g, m, r, reads, complete, at, is))) =
    let same = reads_one q w v g h m k lines reads (reads_of q v h k lines s) in
    let within = slice_get_within q.registers m r at in
    let count : m ≡ k = omega (arith, same.count, length_take q.registers k s.few, length_take q.registers m (omega (arith, within))) in
    let P : ℕ → Type 0 = λ x. slice_get q.registers x ≡ Some r in
    let Q : List Noted → Type 0 = λ x. Complete q.job (entries x) q.table in
    inr (record { complete = subst Q same.history complete; register = r; at = subst P count at; is = is })

-- ---- each line that is read may stand where it stands
bits_at : (f : Register → List ℕ) (rs : List Register) (k m : ℕ) (line : List ℕ) → slice_get (map f (take k rs)) m ≡ Some line → (r : Register) × (slice_get rs m ≡ Some r) × (line ≡ f r) × (take m (map f (take k rs)) ≡ map f (take m rs)) × (m < k)
bits_at f [] zero m line e = absurd (none-some line e)
bits_at f [] (suc k) m line e = absurd (none-some line e)
bits_at f (r ∷ rs) zero m line e = absurd (none-some line e)
bits_at f (r ∷ rs) (suc k) zero line e = (r, refl, sym (same_Some (f r) line e), refl, omega arith)
bits_at f (r ∷ rs) (suc k) (suc m) line e =
    let (s, at, is, taken, low) = bits_at f rs k m line e in (s, at, is, ap (λ xs. f r ∷ xs) taken, omega (arith, low))

said_at : (v : Version) (said : List (List ℕ)) (h : List Noted) (more : List (List ℕ)) (j : ℕ) (line : List ℕ) → AreEntryLines v said h → j < length said → slice_get (said ++ more) j ≡ Some line → (n : Noted) × (slice_get h j ≡ Some n) × IsEntryLine v line n × AreEntryLines v (take j said) (take j h) × (take j (said ++ more) ≡ take j said) × (entries (take j h ++ n ∷ []) ≡ take (suc j) (entries h))
said_at v [] h more j line a low e = absurd (omega arith)
said_at v (l ∷ ls) [] more j line a low e = absurd a
said_at v (l ∷ ls) (n ∷ h) more zero line (a, as') low e =
    let P : List ℕ → Type 0 = λ x. IsEntryLine v x n in (n, refl, subst P (same_Some l line e) a, tt, refl, refl)
said_at v (l ∷ ls) (n ∷ h) more (suc j) line (a, as') low e =
    let (m, at, is, before, taken, whole) = said_at v ls h more j line as' (omega (arith, low)) e in
    (m, at, is, (a, before), ap (λ xs. l ∷ xs) taken, ap (λ xs. n.entry ∷ xs) whole)

past_said : {X : Type 0} (said more : List X) (j : ℕ) → length said ≤ j → (slice_get (said ++ more) j ≡ slice_get more (j - length said)) × (take j (said ++ more) ≡ said ++ take (j - length said) more)
past_said [] more j low = (ap (slice_get more) (let e : j ≡ j - 0 = omega arith in e), ap (λ n. take n more) (let e : j ≡ j - 0 = omega arith in e))
past_said (x ∷ xs) more zero low = absurd (omega arith)
past_said (x ∷ xs) more (suc j) low =
    let (at, taken) = past_said xs more j (omega (arith, low)) in
    let e : suc j - suc (length xs) ≡ j - length xs = omega arith in
    (at ∙ ap (slice_get more) (sym e), ap (λ ys. x ∷ ys) taken ∙ ap (λ n. x ∷ xs ++ take n more) (sym e))

good_at : (q : Question) (v : Version) (h : List Noted) (k : ℕ) (lines : List (List ℕ)) (s : Stands q v h k lines) (i : ℕ) (line : List ℕ) → slice_get (header_line v ∷ s.said ++ map (bits_line q.bit) (take k q.registers)) i ≡ Some line → MayFollow q (take i (header_line v ∷ s.said ++ map (bits_line q.bit) (take k q.registers))) line
good_at q v h k lines s zero line e = inl (refl, (v, sym (same_Some (header_line v) line e)))
good_at q v h k lines s (suc j) line e =
    let B = map (bits_line q.bit) (take k q.registers) in
    elim (cases_lt j (length s.said)) [
      | inl low ↦
          let (n, at, is, before, taken, whole) = said_at v s.said h B j line s.are low e in
          let P : List Entry → Type 0 = λ x. Legal q.job x in
          inr (inl (v, take j h, n, (take j s.said, before, ap (λ xs. header_line v ∷ xs) (taken ∙ sym (append-nil (take j s.said)))), is, subst P (sym whole) (legal_take q.job (entries h) (suc j) s.legal), agrees_at q.table h j n at s.agree))
      | inr high ↦
          let (at, taken) = past_said s.said B j high in
          let (r, there, is, bits, low) = bits_at (bits_line q.bit) q.registers k (j - length s.said) line (sym at ∙ e) in
          inr (inr (v, h, j - length s.said, r, (s.said, s.are, ap (λ xs. header_line v ∷ xs) (taken ∙ ap (λ xs. s.said ++ xs) bits)), s.complete (omega (arith, low)), there, is))
    ]
  where
    agrees_at : (table : List Given) (h : List Noted) (j : ℕ) (n : Noted) → slice_get h j ≡ Some n → AgreeAll table h → Agrees table n.entry
    agrees_at table [] j n at agree = absurd (none-some n at)
    agrees_at table (m ∷ h) zero n at agree = let P : Noted → Type 0 = λ x. Agrees table x.entry in subst P (same_Some m n at) (agree 0 m (omega arith))
    agrees_at table (m ∷ h) (suc j) n at agree = agrees_at table h j n at (λ i d l. agree (suc i) d (omega (arith, l)))

pub good_up_to : (q : Question) (v : Version) (h : List Noted) (k : ℕ) (lines : List (List ℕ)) → Stands q v h k lines → (i : ℕ) (line : List ℕ) → slice_get lines i ≡ Some line → MayFollow q (take i lines) line
good_up_to q v h k lines s i line e =
    let P : List (List ℕ) → Type 0 = λ xs. MayFollow q (take i xs) line in
    subst P (sym s.lines_are) (good_at q v h k lines s i line (sym (ap (λ xs. slice_get xs i) s.lines_are) ∙ e))
