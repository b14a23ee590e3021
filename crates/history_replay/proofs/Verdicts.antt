-- What a reading of a whole text answers.
use Rattle.std.proofs.Common.{◌≡◌, ℕ, zero, suc, ◌+◌, ◌≤◌, ◌<◌, List, [], ◌∷◌, ◌++◌, length, take, drop, refl, sym, ◌∙◌, ap, subst, arith, inl, inr, append_assoc, append-nil}
use Rattle.std.specs.Prelude.{Some, All, map, flat_map, slice_get}
use Rattle.std.proofs.lemmas.Option.{same_Some, none-some}
use Rattle.std.proofs.lemmas.Grind.{flat_map-append}
use Rattle.source_model.specs.Circuits.{IsOneLine, FirstsRunOn}
use Rattle.board_core.specs.declared.Noted.{Noted}
use Rattle.board_core.specs.History.{History, entries}
use Rattle.board_core.specs.Legal.{Legal, Complete}
use Rattle.board_core.specs.Position.{Position}
use Rattle.board_core.proofs.Going.{legal_back}
use Rattle.board_core.proofs.KeptLegal.{entries_push}
use Rattle.schedule_text.specs.Text.{Version, header_line, bits_line, bits_text, lines_of, ended, TextTellsAll}
use Rattle.schedule_text.specs.Lines.{IsEntryLine}
use Rattle.schedule_text.proofs.OneText.{line_one}
use Rattle.history_replay.specs.declared.Verdict.{Verdict}
use Rattle.history_replay.specs.declared.Verdict.TheVariants as verdict
use Rattle.history_replay.specs.Replay.{Question, MayFollow, Splits, IsTextOf, FirstBadLine, LegalOrBad, OneFirstBad}
use Rattle.history_replay.specs.Answers.{IsVerdict}
use Rattle.history_replay.specs.inside.Lines.{StopsAt}
use Rattle.history_replay.specs.inside.Joining.{Begins, BeginsEntry, MayJoin}
use Rattle.history_replay.proofs.Feeds.{line_cut}
use Rattle.history_replay.proofs.Reading.{Stands, Entry_next, Bits_next, bits_no_entry}
use Rattle.history_replay.proofs.Ending.{split_text, Stops, bad_behind, whole, entry_one_line, bits_one_line}

-- ---- a text without a header
bad_first : (q : Question) (text line more : List ℕ) → text ≡ line ++ 10 ∷ more → ((v : Version) (rest : List ℕ) → text ≡ header_line v ++ 10 ∷ rest → ⊥) → MayFollow q [] line → ⊥
bad_first q text line more e none (inl (start, (v, is))) = none v more (e ∙ ap (λ l. l ++ 10 ∷ more) is)
bad_first q text line more e none (inr (inl (v, h, n, (said, a, f), is, legal, agrees))) = cc
bad_first q text line more e none (inr (inr (v, h, k, r, (said, a, f), complete, at, is))) = cc

pub bad_header : (q : Question) (text : List ℕ) → ((v : Version) (rest : List ℕ) → text ≡ header_line v ++ 10 ∷ rest → ⊥) → FirstBadLine q text 1
bad_header q text none = let (lines, tail, split) = split_text text in go lines tail split
  where
    go : (lines : List (List ℕ)) (tail : List ℕ) → Splits text lines tail → FirstBadLine q text 1
    go [] tail split = (
      [],
      tail,
      split,
      inr (
        omega arith,
        (λ k line low at. absurd (omega (arith, low))),
        (λ (v, h, is). none v (flat_map ended (drop 1 (lines_of v h q.registers q.bit))) (is.are ∙ append_assoc (header_line v) (10 ∷ []) (flat_map ended (drop 1 (lines_of v h q.registers q.bit))))),
      ),
    )
    go (line ∷ more) tail split =
        let feed : text ≡ line ++ 10 ∷ (flat_map ended more ++ tail) =
        split.0 ∙ (append_assoc (line ++ 10 ∷ []) (flat_map ended more) tail ∙ append_assoc line (10 ∷ []) (flat_map ended more ++ tail)) in (
          line ∷ more,
          tail,
          split,
          inl (0, line, omega arith, refl, (λ k other low at. absurd (omega (arith, low))), bad_first q text line (flat_map ended more ++ tail) feed none),
        )

-- ---- behind a header
record Read (q : Question) (text : List ℕ) (v : Version) (h : List Noted) (k : ℕ) (behind : List ℕ) : Type 0 where
  lines : List (List ℕ)
  stands : Stands q v h k lines
  text_is : text ≡ flat_map ended lines ++ behind

read_so_far : (q : Question) (v : Version) (text body rest behind : List ℕ) (h : List Noted) (k : ℕ) → text ≡ header_line v ++ 10 ∷ body → Begins q.job q.table v body h rest → rest ≡ bits_text (take k q.registers) q.bit ++ behind → (0 < k → Complete q.job (entries h) q.table) → k ≤ length q.registers → Read q text v h k behind
read_so_far q v text body rest behind h k e b f complete few =
    let bits = map (bits_line q.bit) (take k q.registers) in
    record {
      lines = header_line v ∷ b.said ++ bits;
      stands = record { said = b.said; are = b.lines; lines_are = refl; legal = b.legal; agree = b.agree; complete = complete; few = few };
      text_is = together (header_line v) body (flat_map ended b.said) (flat_map ended bits) e (b.text_is ∙ ap (λ t. flat_map ended b.said ++ t) f) ∙ ap (λ t. ((header_line v ++ 10 ∷ []) ++ t) ++ behind) (sym (flat_map-append ended b.said bits));
    }
  where
    together : (head body said bits : List ℕ) → text ≡ head ++ 10 ∷ body → body ≡ said ++ (bits ++ behind) → text ≡ ((head ++ 10 ∷ []) ++ (said ++ bits)) ++ behind
    together head body said bits e g =
        e ∙ (sym (append_assoc head (10 ∷ []) body) ∙ (ap (λ t. (head ++ 10 ∷ []) ++ t) (g ∙ sym (append_assoc said bits behind)) ∙ sym (append_assoc (head ++ 10 ∷ []) (said ++ bits) behind)))

all_at : {X : Type 0} (P : X → Type 0) (xs : List X) (k : ℕ) (x : X) → All P xs → slice_get xs k ≡ Some x → P x
all_at P [] k x f e = absurd (none-some x e)
all_at P (y ∷ ys) zero x f e = subst P (same_Some y x e) (f 0 y (omega arith))
all_at P (y ∷ ys) (suc k) x f e = all_at P ys k x (λ i d l. f (suc i) d (omega (arith, l))) e

nothing : (xs tail : List ℕ) → xs ++ 10 ∷ tail ≡ [] → ⊥
nothing [] tail e = cc
nothing (x ∷ xs) tail e = cc

abbrev pub Named : Question → Type 0
Named q = All (λ r. IsOneLine r.name) q.registers

-- an entry line that may not join
pub bad_entry : (q : Question) (v : Version) (text body rest : List ℕ) (h : List Noted) (n : Noted) (line : ℕ) → Named q → text ≡ header_line v ++ 10 ∷ body → Begins q.job q.table v body h rest → BeginsEntry v rest n → (MayJoin q.table (record { job = q.job; history = h }) n → ⊥) → line ≡ length h + 2 → FirstBadLine q text line
bad_entry q v text body rest h n line names e b (own, tail, f, is) barred number =
    let read = read_so_far q v text body rest rest h 0 e b refl (λ l. absurd (omega (arith, l))) (omega arith) in
    let P : ℕ → Type 0 = λ m. FirstBadLine q text m in
    let stops : Stops q v h 0 rest = record {
      entry = λ l more g next. joins l more g next;
      bits = λ l more g next. no_bits l more g next;
      end = λ k complete g. ends g;
    } in
    let same : length h + 2 + 0 ≡ line = omega (arith, number) in
    subst P same (bad_behind q text rest v h 0 read.lines names read.stands read.text_is stops)
  where
    one : IsOneLine own
    one = entry_one_line v own n is

    joins : (l more : List ℕ) → rest ≡ l ++ 10 ∷ more → Entry_next q v h 0 l → ⊥
    joins l more g next =
        let cut = line_cut rest l more own tail (entry_one_line v l next.noted next.is) one g f in
        let P : List ℕ → Type 0 = λ x. IsEntryLine v x next.noted in
        let moved = subst P cut.0 next.is in
        let same : next.noted ≡ n = line_one v next.noted n moved.prints is.prints (sym moved.text ∙ is.text) in
        let Q : History → Type 0 = λ x. Legal q.job x in
        let back = legal_back q.job (entries h) next.noted.entry (subst Q (entries_push h next.noted.by next.noted.entry) next.legal) in
        let R : Noted → Type 0 = λ m. MayJoin q.table (record { job = q.job; history = h }) m in
        barred (subst R same (back.1, next.agrees))

    no_bits : (l more : List ℕ) → rest ≡ l ++ 10 ∷ more → Bits_next q h 0 l → ⊥
    no_bits l more g next =
        let P : List ℕ → Type 0 = λ x. IsOneLine x in
        let free = subst P (sym next.is) (bits_one_line q.bit next.register (all_at (λ r. IsOneLine r.name) q.registers 0 next.register names next.at)) in
        let cut = line_cut rest l more own tail free one g f in
        bits_no_entry v own n q.bit next.register is (sym cut.0 ∙ next.is)

    ends : rest ≡ [] → ⊥
    ends g = nothing own tail (sym f ∙ g)

-- bits behind a history that isn't complete
pub bad_bits : (q : Question) (v : Version) (text body rest : List ℕ) (h : List Noted) (line : ℕ) → Named q → text ≡ header_line v ++ 10 ∷ body → Begins q.job q.table v body h rest → ((n : Noted) → BeginsEntry v rest n → ⊥) → (Complete q.job (entries h) q.table → ⊥) → line ≡ length h + 2 → FirstBadLine q text line
bad_bits q v text body rest h line names e b none incomplete number =
    let read = read_so_far q v text body rest rest h 0 e b refl (λ l. absurd (omega (arith, l))) (omega arith) in
    let P : ℕ → Type 0 = λ m. FirstBadLine q text m in
    let stops : Stops q v h 0 rest = record {
      entry = λ l more g next. none next.noted (l, more, g, next.is);
      bits = λ l more g next. incomplete next.complete;
      end = λ k complete g. incomplete complete;
    } in
    let same : length h + 2 + 0 ≡ line = omega (arith, number) in
    subst P same (bad_behind q text rest v h 0 read.lines names read.stands read.text_is stops)

-- lines of bits that stop before the k-th register's
pub bad_stop : (q : Question) (v : Version) (text body rest : List ℕ) (h : List Noted) (k line : ℕ) → Named q → text ≡ header_line v ++ 10 ∷ body → Begins q.job q.table v body h rest → ((n : Noted) → BeginsEntry v rest n → ⊥) → Complete q.job (entries h) q.table → StopsAt q.registers q.bit rest k → line ≡ length h + 2 + k → FirstBadLine q text line
bad_stop q v text body rest h k line names e b none complete s number =
    let read = read_so_far q v text body rest s.behind h k e b s.text_is (λ l. complete) s.few in
    let P : ℕ → Type 0 = λ m. FirstBadLine q text m in
    let stops : Stops q v h k s.behind = record {
      entry = λ l more g next. no_entry k s l more g next;
      bits = λ l more g next. s.other next.register more next.at (g ∙ ap (λ x. x ++ 10 ∷ more) next.is);
      end = λ count done g. s.left count g;
    } in
    subst P (sym number) (bad_behind q text s.behind v h k read.lines names read.stands read.text_is stops)
  where
    no_entry : (k : ℕ) (s : StopsAt q.registers q.bit rest k) (l more : List ℕ) → s.behind ≡ l ++ 10 ∷ more → Entry_next q v h k l → ⊥
    no_entry zero s l more g next = none next.noted (l, more, s.text_is ∙ g, next.is)
    no_entry (suc k) s l more g next = absurd (omega (arith, next.none))

-- lines of bits that end the text
pub whole_text : (q : Question) (v : Version) (text body rest : List ℕ) (h : List Noted) → text ≡ header_line v ++ 10 ∷ body → Begins q.job q.table v body h rest → Complete q.job (entries h) q.table → rest ≡ bits_text q.registers q.bit → IsTextOf q text v h
whole_text q v text body rest h e b complete f =
    let full : rest ≡ bits_text (take (length q.registers) q.registers) q.bit ++ [] = f ∙ (ap (λ rs. bits_text rs q.bit) (sym (all q.registers)) ∙ sym (append-nil (bits_text (take (length q.registers) q.registers) q.bit))) in
    let read = read_so_far q v text body rest [] h (length q.registers) e b full (λ l. complete) (omega arith) in
    whole q text v h read.lines read.stands complete (read.text_is ∙ append-nil (flat_map ended read.lines))
  where
    all : {X : Type 0} (xs : List X) → take (length xs) xs ≡ xs
    all [] = refl
    all (x ∷ xs) = ap (λ ys. x ∷ ys) (all xs)

-- ---- a text has one verdict
pub exact_verdict : (q : Question) (text : List ℕ) (r : Verdict) → TextTellsAll → LegalOrBad → length q.table ≡ length q.job.products → Named q → FirstsRunOn 0 q.registers → IsVerdict q text r → (v : Version) (h : List Noted) → IsTextOf q text v h → r ≡ verdict.Legal (record { job = q.job; history = h })
exact_verdict q text (verdict.Legal b) tells legal_or count names runs (job, (w, is)) v h other =
    let (versions, same, bits) = tells w v b.history h q.registers q.bit q.bit (λ k d l. (is.stands k d l).0) (λ k d l. (other.stands k d l).0) names runs (sym is.are ∙ other.are) in
    ap (λ (p : Position). verdict.Legal p) (ap (λ j. record { job = j; history = b.history }) job ∙ ap (λ g. record { job = q.job; history = g }) same)
exact_verdict q text (verdict.Illegal line) tells legal_or count names runs bad v h is = absurd (legal_or q text line count names (v, h, is) bad)

pub first_verdict : (q : Question) (text : List ℕ) (r : Verdict) → OneFirstBad → LegalOrBad → length q.table ≡ length q.job.products → Named q → IsVerdict q text r → (line : ℕ) → FirstBadLine q text line → r ≡ verdict.Illegal line
first_verdict q text (verdict.Legal b) one legal_or count names (job, (v, is)) line bad = absurd (legal_or q text line count names (v, b.history, is) bad)
first_verdict q text (verdict.Illegal m) one legal_or count names first line bad = ap verdict.Illegal (one q text m line first bad)
