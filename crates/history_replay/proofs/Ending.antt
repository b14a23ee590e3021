-- How a reading ends: at the end of a legal text, or at the first bad line.
use Rattle.std.proofs.Common.{◌≡◌, ◌≢◌, ℕ, zero, suc, ◌+◌, ◌<◌, ◌⊎◌, Bool, List, [], ◌∷◌, ◌++◌, length, take, refl, sym, ◌∙◌, ap, subst, arith, inl, inr, append_assoc, append-nil, length-append}
use Rattle.std.specs.Prelude.{Some, All, map, flat_map, slice_get}
use Rattle.std.proofs.lemmas.Bool.{cases_eq}
use Rattle.std.proofs.lemmas.List.{length-map, append_cancel_left, take-append-le}
use Rattle.std.proofs.lemmas.Grind.{flat_map-append}
use Rattle.std.proofs.lemmas.List.Elements.{All-append}
use Rattle.std.proofs.Math.Seq.{take-append_seam}
use Rattle.source_model.specs.declared.Register.{Register}
use Rattle.source_model.specs.Circuits.{IsOneLine}
use Rattle.board_core.specs.declared.Noted.{Noted}
use Rattle.board_core.specs.History.{entries}
use Rattle.board_core.specs.Legal.{Complete}
use Rattle.board_core.proofs.LegalOrder.{at_end}
use Rattle.schedule_text.specs.Text.{Version, header_line, entry_line, bits_line, Prints, lines_of, text_of, ended}
use Rattle.schedule_text.specs.Lines.{IsEntryLine, StandsIn}
use Rattle.schedule_text.proofs.OneText.{Free, AllFree, free_header, free_bits_line, free_bits_lines, all_free_append, free_entry_lines}
use Rattle.history_replay.specs.Replay.{Question, AreEntryLines, MayFollow, Splits, GoodUpTo, IsTextOf, FirstBadLine}
use Rattle.history_replay.specs.inside.Joining.{AgreeAll}
use Rattle.history_replay.proofs.Splitting.{splits_one}
use Rattle.history_replay.proofs.Reading.{Stands, Entry_next, Bits_next, what_follows, good_up_to, reads_one, reads_of, length_take}

-- ---- each text splits into lines and a rest
all_none : {X : Type 0} (P : X → Type 0) → All P []
all_none P k d l = absurd (omega arith)

all_more : {X : Type 0} (P : X → Type 0) (x : X) (xs : List X) → P x → All P xs → All P (x ∷ xs)
all_more P x xs p f zero d l = p
all_more P x xs p f (suc k) d l = f k d (omega (arith, l))

all_first : {X : Type 0} (P : X → Type 0) (x : X) (xs : List X) → All P (x ∷ xs) → P x
all_first P x xs f = f 0 x (omega arith)

all_rest : {X : Type 0} (P : X → Type 0) (x : X) (xs : List X) → All P (x ∷ xs) → All P xs
all_rest P x xs f k d l = f (suc k) d (omega (arith, l))

abbrev IsSplit : List ℕ → Type 0
IsSplit text = (lines : List (List ℕ)) × (rest : List ℕ) × Splits text lines rest

one_more : (b : ℕ) (bs : List ℕ) (lines : List (List ℕ)) (rest : List ℕ) → Splits bs lines rest → (b ≡ 10) ⊎ (b ≡ 10 → ⊥) → IsSplit (b ∷ bs)
one_more b bs lines rest (is, all, one) (inl feed) =
    ([] ∷ lines, rest, (cc (feed, is), all_more IsOneLine [] lines (all_none (λ c. c ≢ 10)) all, one))
one_more b bs [] rest (is, all, one) (inr other) = ([], b ∷ rest, (ap (λ t. b ∷ t) is, all_none IsOneLine, all_more (λ c. c ≢ 10) b rest other one))
one_more b bs (l ∷ ls) rest (is, all, one) (inr other) =
    ((b ∷ l) ∷ ls, rest, (ap (λ t. b ∷ t) is, all_more IsOneLine (b ∷ l) ls (all_more (λ c. c ≢ 10) b l other (all_first IsOneLine l ls all)) (all_rest IsOneLine l ls all), one))

pub split_text : (text : List ℕ) → IsSplit text
split_text [] = ([], [], (refl, all_none IsOneLine, all_none (λ c. c ≢ 10)))
split_text (b ∷ bs) = let (lines, rest, s) = split_text bs in one_more b bs lines rest s (cases_eq b 10)

-- ---- lines that are read have no line feed
one_line : (l : List ℕ) → Free 10 l → IsOneLine l
one_line [] f = all_none (λ c. c ≢ 10)
one_line (b ∷ bs) (ne, f) = all_more (λ c. c ≢ 10) b bs ne (one_line bs f)

one_lines : (ls : List (List ℕ)) → AllFree 10 ls → All IsOneLine ls
one_lines [] f = all_none IsOneLine
one_lines (l ∷ ls) (f, fs) = all_more IsOneLine l ls (one_line l f) (one_lines ls fs)

pub header_one_line : (v : Version) → IsOneLine (header_line v)
header_one_line v = one_line (header_line v) (free_header v)

pub bits_one_line : (bit : ℕ → Bool) (r : Register) → IsOneLine r.name → IsOneLine (bits_line bit r)
bits_one_line bit r f = one_line (bits_line bit r) (free_bits_line bit r f)

-- entry lines are those of their entries
pub said_is : (v : Version) (said : List (List ℕ)) (h : List Noted) → AreEntryLines v said h → (said ≡ map (entry_line v) h) × All (StandsIn v) h
said_is v [] [] a = (refl, all_none (StandsIn v))
said_is v [] (n ∷ h) a = absurd a
said_is v (l ∷ ls) [] a = absurd a
said_is v (l ∷ ls) (n ∷ h) (a, as') =
    let (e, f) = said_is v ls h as' in (cc (a.text, e), all_more (StandsIn v) n h (a.prints, a.shaped) f)

pub entry_one_line : (v : Version) (line : List ℕ) (n : Noted) → IsEntryLine v line n → IsOneLine line
entry_one_line v line n is =
    let f = free_entry_lines v (n ∷ []) (all_more (Prints v) n [] is.prints (all_none (Prints v))) in
    let P : List ℕ → Type 0 = λ l. IsOneLine l in
    subst P (sym is.text) (one_line (entry_line v n) f.0)

pub said_of : (v : Version) (h : List Noted) → All (StandsIn v) h → AreEntryLines v (map (entry_line v) h) h
said_of v [] f = tt
said_of v (n ∷ h) f =
    let (prints, shaped) = all_first (StandsIn v) n h f in
    (record { prints = prints; shaped = shaped; text = refl }, said_of v h (all_rest (StandsIn v) n h f))

prints_of : (v : Version) (h : List Noted) → All (StandsIn v) h → All (Prints v) h
prints_of v h f k d l = (f k d l).0

lines_free : (v : Version) (h : List Noted) (rs : List Register) (bit : ℕ → Bool) → All (StandsIn v) h → All (λ r. IsOneLine r.name) rs → All IsOneLine (header_line v ∷ map (entry_line v) h ++ map (bits_line bit) rs)
lines_free v h rs bit f names =
    one_lines (header_line v ∷ map (entry_line v) h ++ map (bits_line bit) rs) (free_header v, all_free_append 10 (map (entry_line v) h) (map (bits_line bit) rs) (free_entry_lines v h (prints_of v h f)) (free_bits_lines bit rs names))

take_names : (rs : List Register) (k : ℕ) → All (λ r. IsOneLine r.name) rs → All (λ r. IsOneLine r.name) (take k rs)
take_names rs zero f = all_none (λ r. IsOneLine r.name)
take_names [] (suc k) f = f
take_names (r ∷ rs) (suc k) f = all_more (λ r. IsOneLine r.name) r (take k rs) (all_first (λ r. IsOneLine r.name) r rs f) (take_names rs k (all_rest (λ r. IsOneLine r.name) r rs f))

stands_free : (q : Question) (v : Version) (h : List Noted) (k : ℕ) (lines : List (List ℕ)) → All (λ r. IsOneLine r.name) q.registers → Stands q v h k lines → All IsOneLine lines
stands_free q v h k lines names s =
    let (e, f) = said_is v s.said h s.are in
    let P : List (List ℕ) → Type 0 = λ ls. All IsOneLine ls in
    let same : header_line v ∷ map (entry_line v) h ++ map (bits_line q.bit) (take k q.registers) ≡ lines =
    ap (λ ls. header_line v ∷ ls ++ map (bits_line q.bit) (take k q.registers)) (sym e) ∙ sym s.lines_are in
    subst P same (lines_free v h (take k q.registers) q.bit f (take_names q.registers k names))

-- ---- the number of lines
said_length : (v : Version) (said : List (List ℕ)) (h : List Noted) → AreEntryLines v said h → length said ≡ length h
said_length v [] [] a = refl
said_length v [] (n ∷ h) a = absurd a
said_length v (l ∷ ls) [] a = absurd a
said_length v (l ∷ ls) (n ∷ h) (a, as') = ap suc (said_length v ls h as')

lines_length : (q : Question) (v : Version) (h : List Noted) (k : ℕ) (lines : List (List ℕ)) → Stands q v h k lines → length lines ≡ length h + 1 + k
lines_length q v h k lines s =
    omega (arith, ap length s.lines_are, length-append s.said (map (bits_line q.bit) (take k q.registers)), said_length v s.said h s.are, length-map (take k q.registers) (bits_line q.bit), length_take q.registers k s.few)

-- ---- a legal text is read to its end
take_all : {X : Type 0} (xs : List X) → take (length xs) xs ≡ xs
take_all [] = refl
take_all (x ∷ xs) = ap (λ ys. x ∷ ys) (take_all xs)

pub whole_stands : (q : Question) (text : List ℕ) (v : Version) (h : List Noted) → AgreeAll q.table h → IsTextOf q text v h → Stands q v h (length q.registers) (lines_of v h q.registers q.bit)
whole_stands q text v h agree is = record {
  said = map (entry_line v) h;
  are = said_of v h is.stands;
  lines_are = ap (λ rs. header_line v ∷ map (entry_line v) h ++ map (bits_line q.bit) rs) (sym (take_all q.registers));
  legal = is.legal;
  agree = agree;
  complete = λ l. is.complete;
  few = omega arith;
}

whole_splits : (q : Question) (text : List ℕ) (v : Version) (h : List Noted) → All (λ r. IsOneLine r.name) q.registers → IsTextOf q text v h → Splits text (lines_of v h q.registers q.bit) []
whole_splits q text v h names is = (is.are ∙ sym (append-nil (text_of v h q.registers q.bit)), lines_free v h q.registers q.bit is.stands names, all_none (λ c. c ≢ 10))

-- no text is both
pub legal_or_bad : (q : Question) (text : List ℕ) (n : ℕ) (v : Version) (h : List Noted) → All (λ r. IsOneLine r.name) q.registers → AgreeAll q.table h → IsTextOf q text v h → FirstBadLine q text n → ⊥
legal_or_bad q text n v h names agree is (lines, rest, split, inl (k, line, e, at, good, bad)) =
    let same = splits_one text (lines_of v h q.registers q.bit) lines [] rest (whole_splits q text v h names is) split in
    let P : List (List ℕ) → Type 0 = λ ls. slice_get ls k ≡ Some line → MayFollow q (take k ls) line in
    bad (subst P same (good_up_to q v h (length q.registers) (lines_of v h q.registers q.bit) (whole_stands q text v h agree is) k line) at)
legal_or_bad q text n v h names agree is (lines, rest, split, inr (e, good, bad)) = bad (v, h, is)

-- a text whose reading ends with all registers' bits behind a complete history
pub whole : (q : Question) (text : List ℕ) (v : Version) (h : List Noted) (lines : List (List ℕ)) → Stands q v h (length q.registers) lines → Complete q.job (entries h) q.table → text ≡ flat_map ended lines → IsTextOf q text v h
whole q text v h lines s complete e =
    let (same, stands) = said_is v s.said h s.are in
    let are : lines ≡ lines_of v h q.registers q.bit =
    s.lines_are ∙ (ap (λ rs. header_line v ∷ s.said ++ map (bits_line q.bit) rs) (take_all q.registers) ∙ ap (λ ls. header_line v ∷ ls ++ map (bits_line q.bit) q.registers) same) in
    record { stands = stands; legal = s.legal; complete = complete; are = e ∙ ap (flat_map ended) are }

-- ---- the first bad line
-- what is behind lines that are read begins with no line that may follow, nor is it the end of a legal text
pub record Stops (q : Question) (v : Version) (h : List Noted) (k : ℕ) (rest : List ℕ) : Type 0 where
  pub entry : (line more : List ℕ) → rest ≡ line ++ 10 ∷ more → Entry_next q v h k line → ⊥
  pub bits : (line more : List ℕ) → rest ≡ line ++ 10 ∷ more → Bits_next q h k line → ⊥
  pub end : k ≡ length q.registers → Complete q.job (entries h) q.table → rest ≡ [] → ⊥

splits_behind : (text rest tail : List ℕ) (lines more : List (List ℕ)) → text ≡ flat_map ended lines ++ rest → All IsOneLine lines → Splits rest more tail → Splits text (lines ++ more) tail
splits_behind text rest tail lines more e all (f, others, one) = (
  cc (e, f, flat_map-append ended lines more, append_assoc (flat_map ended lines) (flat_map ended more) tail),
  All-append IsOneLine lines more all others,
  one,
)

good_before : (q : Question) (v : Version) (h : List Noted) (k : ℕ) (lines more : List (List ℕ)) → Stands q v h k lines → GoodUpTo q (lines ++ more) (length lines)
good_before q v h k lines more s i line low at =
    let P : List (List ℕ) → Type 0 = λ ls. MayFollow q ls line in
    subst P (sym (take-append-le i lines more (omega (arith, low)))) (good_up_to q v h k lines s i line (sym (get_before lines more i low) ∙ at))
  where
    get_before : (xs ys : List (List ℕ)) (i : ℕ) → i < length xs → slice_get (xs ++ ys) i ≡ slice_get xs i
    get_before [] ys i l = absurd (omega arith)
    get_before (x ∷ xs) ys zero l = refl
    get_before (x ∷ xs) ys (suc i) l = get_before xs ys i (omega (arith, l))

not_whole : (q : Question) (text rest : List ℕ) (v w : Version) (h g : List Noted) (k : ℕ) (lines : List (List ℕ)) → All (λ r. IsOneLine r.name) q.registers → Stands q v h k lines → Stops q v h k rest → Splits text lines rest → IsTextOf q text w g → ⊥
not_whole q text rest v w h g k lines names s stops split is =
    let other = whole_splits q text w g names is in
    let same = splits_one text (lines_of w g q.registers q.bit) lines [] rest other split in
    let none : rest ≡ [] = append_cancel_left (flat_map ended lines) rest [] (sym split.0 ∙ (other.0 ∙ ap (λ ls. flat_map ended ls ++ []) same)) in
    let reads = reads_one q w v g h (length q.registers) k lines (map (entry_line w) g, said_of w g is.stands, sym same ∙ ap (λ rs. header_line w ∷ map (entry_line w) g ++ map (bits_line q.bit) rs) (sym (take_all q.registers))) (reads_of q v h k lines s) in
    let P : List Noted → Type 0 = λ x. Complete q.job (entries x) q.table in
    stops.end (omega (arith, reads.count, length_take q.registers k s.few, ap length (take_all q.registers))) (subst P reads.history is.complete) none

pub bad_behind : (q : Question) (text rest : List ℕ) (v : Version) (h : List Noted) (k : ℕ) (lines : List (List ℕ)) → All (λ r. IsOneLine r.name) q.registers → Stands q v h k lines → text ≡ flat_map ended lines ++ rest → Stops q v h k rest → FirstBadLine q text (length h + 2 + k)
bad_behind q text rest v h k lines names s e stops =
    let (more, tail, split) = split_text rest in go more tail split
  where
    go : (more : List (List ℕ)) (tail : List ℕ) → Splits rest more tail → FirstBadLine q text (length h + 2 + k)
    go [] tail split =
        let P : List (List ℕ) → Type 0 = λ ls. Splits text ls tail in
        let here : Splits text lines tail = subst P (append-nil lines) (splits_behind text rest tail lines [] e (stands_free q v h k lines names s) split) in
        let Q : List ℕ → Type 0 = λ t. Splits text lines t in (
          lines,
          tail,
          here,
          inr (
            omega (arith, lines_length q v h k lines s),
            (λ i line low at. good_up_to q v h k lines s i line at),
            (λ (w, g, is). not_whole q text rest v w h g k lines names s stops (subst Q (sym split.0) here) is),
          ),
        )
    go (line ∷ more) tail split =
        let P : List (List ℕ) → Type 0 = λ ls. MayFollow q ls line in
        let feed : rest ≡ line ++ 10 ∷ (flat_map ended more ++ tail) =
        split.0 ∙ (append_assoc (line ++ 10 ∷ []) (flat_map ended more) tail ∙ append_assoc line (10 ∷ []) (flat_map ended more ++ tail)) in (
          lines ++ line ∷ more,
          tail,
          splits_behind text rest tail lines (line ∷ more) e (stands_free q v h k lines names s) split,
          inl (
            length lines,
            line,
            omega (arith, lines_length q v h k lines s),
            at_end lines line more,
            good_before q v h k lines (line ∷ more) s,
            (λ f. elim (what_follows q v h k lines line s (subst P (take-append_seam lines (line ∷ more)) f)) [
              | inl next ↦ stops.entry line _ feed next
              | inr next ↦ stops.bits line _ feed next
            ]),
          ),
        )
