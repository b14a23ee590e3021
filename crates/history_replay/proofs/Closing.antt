-- The lines of bits that end a schedule.
use Rattle.std.proofs.Common.{◌≡◌, ℕ, zero, suc, ◌+◌, ◌≤◌, ◌<◌, Bool, false, List, [], ◌∷◌, ◌++◌, length, take, drop, get_or, refl, sym, ◌∙◌, ap, ap₂, subst, arith, append_assoc, append-nil, length-drop, zero-add, inr}
use Rattle.std.specs.Prelude.{Option, Some, None, All, MatchOption, map, flat_map, codes, slice_get}
use Rattle.std.proofs.lemmas.Option.{same_Some, none-some}
use Rattle.std.proofs.lemmas.Grind.{flat_map-append}
use Rattle.std.proofs.lemmas.List.Sums.{sum_by-cons}
use Rattle.std.proofs.lemmas.List.FromFn.{get_or-map-range_with_len}
use Rattle.patch_base.specs.Texts.{digit}
use Rattle.source_model.specs.declared.Given.{Given}
use Rattle.source_model.specs.declared.Item.{Item}
use Rattle.source_model.specs.declared.Register.{Register}
use Rattle.source_model.specs.Bits.{bits_after}
use Rattle.source_model.specs.Circuits.{bits_in, FirstsRunOn}
use Rattle.source_model.specs.SourceRun.{bit_after}
use Rattle.board_core.specs.Legal.{Complete}
use Rattle.board_core.specs.Position.{Position, past}
use Rattle.schedule_text.specs.Text.{digits, bits_line, bits_text, bit_in, ended}
use Rattle.history_replay.specs.inside.Lines.{StopsAt}
use Rattle.history_replay.specs.inside.Joining.{Closes, Fails}

take_more : {X : Type 0} (xs : List X) (i : ℕ) (x : X) → slice_get xs i ≡ Some x → take (i + 1) xs ≡ take i xs ++ x ∷ []
take_more [] i x e = absurd (none-some x e)
take_more (y ∷ ys) zero x e = ap (λ z. z ∷ []) (same_Some y x e)
take_more (y ∷ ys) (suc i) x e =
    let next : suc i + 1 ≡ suc (i + 1) = omega arith in ap (λ k. take k (y ∷ ys)) next ∙ ap (λ zs. y ∷ zs) (take_more ys i x e)

take_whole : {X : Type 0} (xs : List X) (n : ℕ) → length xs ≤ n → take n xs ≡ xs
take_whole [] zero l = refl
take_whole [] (suc n) l = refl
take_whole (x ∷ xs) zero l = absurd (omega arith)
take_whole (x ∷ xs) (suc n) l = ap (λ ys. x ∷ ys) (take_whole xs n (omega (arith, l)))

map-append : (f : Register → List ℕ) (xs : List Register) (r : Register) → map f (xs ++ r ∷ []) ≡ map f xs ++ f r ∷ []
map-append f [] r = refl
map-append f (x ∷ xs) r = ap (λ ys. f x ∷ ys) (map-append f xs r)

one_line_more : (lines : List (List ℕ)) (line : List ℕ) → flat_map ended (lines ++ line ∷ []) ≡ flat_map ended lines ++ (line ++ 10 ∷ [])
one_line_more lines line = flat_map-append ended lines (line ∷ []) ∙ ap (λ t. flat_map ended lines ++ t) (append-nil (line ++ 10 ∷ []))

-- one register's line more
pub closes_more : (rs : List Register) (bit : ℕ → Bool) (i : ℕ) (r : Register) (text rest more : List ℕ) → slice_get rs i ≡ Some r → text ≡ bits_text (take i rs) bit ++ rest → rest ≡ bits_line bit r ++ 10 ∷ more → text ≡ bits_text (take (i + 1) rs) bit ++ more
closes_more rs bit i r text rest more at e f =
    let lines = map (bits_line bit) (take i rs) in
    let grown : bits_text (take (i + 1) rs) bit ≡ flat_map ended lines ++ (bits_line bit r ++ 10 ∷ []) =
    ap (λ xs. bits_text xs bit) (take_more rs i r at) ∙ (ap (flat_map ended) (map-append (bits_line bit) (take i rs) r) ∙ one_line_more lines (bits_line bit r)) in
    e ∙ (ap (λ t. flat_map ended lines ++ t) (f ∙ sym (append_assoc (bits_line bit r) (10 ∷ []) more)) ∙ (sym (append_assoc (flat_map ended lines) (bits_line bit r ++ 10 ∷ []) more) ∙ ap (λ t. t ++ more) (sym grown)))

within_get : {X : Type 0} (xs : List X) (i : ℕ) (x : X) → slice_get xs i ≡ Some x → i < length xs
within_get [] i x e = absurd (none-some x e)
within_get (y ∷ ys) zero x e = omega arith
within_get (y ∷ ys) (suc i) x e = let low = within_get ys i x e in omega (arith, low)

pub stops_here : (rs : List Register) (bit : ℕ → Bool) (i : ℕ) (r : Register) (text rest : List ℕ) → slice_get rs i ≡ Some r → text ≡ bits_text (take i rs) bit ++ rest → ((more : List ℕ) → rest ≡ bits_line bit r ++ 10 ∷ more → ⊥) → StopsAt rs bit text i
stops_here rs bit i r text rest at e none = record {
  few = (let low = within_get rs i r at in omega (arith, low));
  behind = rest;
  text_is = e;
  other = λ s more there f. other s more (same_Some s r (sym there ∙ at)) f;
  left = λ k. absurd (let low = within_get rs i r at in omega (arith, low, k));
}
  where
    other : (s : Register) (more : List ℕ) → s ≡ r → rest ≡ bits_line bit s ++ 10 ∷ more → ⊥
    other s more same f = none more (f ∙ ap (λ x. bits_line bit x ++ 10 ∷ more) same)

pub stops_behind : (rs : List Register) (bit : ℕ → Bool) (n : ℕ) (text whole : List ℕ) (at : ℕ) → n ≡ length rs → text ≡ bits_text (take n rs) bit ++ drop at whole → at < length whole → StopsAt rs bit text n
stops_behind rs bit n text whole at count e low = record {
  few = omega (arith, count);
  behind = drop at whole;
  text_is = e;
  other = λ s more there f. let l = within_get rs n s there in omega (arith, l, count);
  left = λ k f. omega (arith, ap length f, length-drop at whole, low);
}

pub closes : (rs : List Register) (bit : ℕ → Bool) (n : ℕ) (text whole : List ℕ) (at : ℕ) → n ≡ length rs → text ≡ bits_text (take n rs) bit ++ drop at whole → length whole ≤ at → text ≡ bits_text rs bit
closes rs bit n text whole at count e past =
    let none : drop at whole ≡ [] = empty (drop at whole) (omega (arith, length-drop at whole)) in
    e ∙ (ap (λ t. bits_text (take n rs) bit ++ t) none ∙ (append-nil (bits_text (take n rs) bit) ∙ ap (λ xs. bits_text xs bit) (take_whole rs n (omega (arith, count)))))
  where
    empty : (xs : List ℕ) → length xs ≡ 0 → xs ≡ []
    empty [] l = refl
    empty (x ∷ xs) l = absurd (omega (arith, l))

-- ---- the lines rest on the registers' bits alone
abbrev AgreeBelow : ℕ → (ℕ → Bool) → (ℕ → Bool) → Type 0
AgreeBelow n f g = (b : ℕ) → b < n → f b ≡ g b

same_digits : (n : ℕ) (f g : ℕ → Bool) (first size : ℕ) → AgreeBelow n f g → first + size ≤ n → digits f first size ≡ digits g first size
same_digits n f g first zero agree fits = refl
same_digits n f g first (suc size) agree fits =
    ap₂ ◌++◌ (same_digits n f g (first + 1) size agree (omega arith)) (ap digit (agree first (omega arith)))

same_lines : (n before : ℕ) (f g : ℕ → Bool) (rs : List Register) → AgreeBelow n f g → FirstsRunOn before rs → before + bits_in rs ≤ n → map (bits_line f) rs ≡ map (bits_line g) rs
same_lines n before f g [] agree runs fits = refl
same_lines n before f g (r ∷ rs) agree runs fits =
    ap₂ ◌∷◌ (ap (λ ds. codes "bits " ++ r.name ++ codes " " ++ ds) (same_digits n f g r.first r.size agree (let e = sum_by-cons (λ x. x.size) r rs in omega (arith, runs.0)))) (same_lines n (before + r.size) f g rs agree runs.1 (let e = sum_by-cons (λ x. x.size) r rs in omega arith))

-- the lines of the bits after a run
pub run_lines : (rs : List Register) (items : List Item) (table : List Given) (bits : List Bool) → FirstsRunOn 0 rs → bits ≡ bits_after rs items table → map (bits_line (bit_in bits)) rs ≡ map (bits_line (bit_after items table)) rs
run_lines rs items table bits runs e =
    same_lines (bits_in rs) 0 (bit_in bits) (bit_after items table) rs (λ b below. ap (λ bs. bit_in bs b) e ∙ get_or-map-range_with_len (bit_after items table) 0 (bits_in rs) b b false below (zero-add b)) runs (omega arith)

pub stops_alike : (rs : List Register) (f g : ℕ → Bool) (text : List ℕ) (k : ℕ) → map (bits_line f) rs ≡ map (bits_line g) rs → StopsAt rs f text k → StopsAt rs g text k
stops_alike rs f g text k same s = record {
  few = s.few;
  behind = s.behind;
  text_is = s.text_is ∙ ap (λ ls. flat_map ended ls ++ s.behind) (some_lines (bits_line f) (bits_line g) rs k same);
  other = λ r more at e. s.other r more at (e ∙ ap (λ l. l ++ 10 ∷ more) (sym (line_at (bits_line f) (bits_line g) rs k r same at)));
  left = s.left;
}
  where
    some_lines : (f g : Register → List ℕ) (rs : List Register) (k : ℕ) → map f rs ≡ map g rs → map f (take k rs) ≡ map g (take k rs)
    some_lines f g rs zero e = refl
    some_lines f g [] (suc k) e = refl
    some_lines f g (r ∷ rs) (suc k) e = ap₂ ◌∷◌ (ap (λ ls. get_or ls 0 []) e) (some_lines f g rs k (ap (drop 1) e))

    line_at : (f g : Register → List ℕ) (rs : List Register) (k : ℕ) (r : Register) → map f rs ≡ map g rs → slice_get rs k ≡ Some r → f r ≡ g r
    line_at f g [] k r e at = absurd (none-some r at)
    line_at f g (x ∷ xs) zero r e at = let same = same_Some x r at in ap f (sym same) ∙ (ap (λ ls. get_or ls 0 []) e ∙ ap g same)
    line_at f g (x ∷ xs) (suc k) r e at = line_at f g xs k r (ap (drop 1) e) at

-- ---- what the lines of bits answer
pub item_at : {X : Type 0} (xs : List X) (i : ℕ) (x : X) → i < length xs → x ≡ get_or xs i x → slice_get xs i ≡ Some x
item_at [] i x low e = absurd (omega arith)
item_at (y ∷ ys) zero x low e = ap Some (sym e)
item_at (y ∷ ys) (suc i) x low e = item_at ys i x (omega (arith, low)) e

pub item_has : {X : Type 0} (P : X → Type 0) (xs : List X) (i : ℕ) (x : X) → i < length xs → x ≡ get_or xs i x → All P xs → P x
item_has P xs i x low e f = subst P (sym e) (f i x low)

close_match : (r : Option ℕ) (b : Position) (table : List Given) (rs : List Register) (items : List Item) (bits : List Bool) (text : List ℕ) (first : ℕ) → FirstsRunOn 0 rs → bits ≡ bits_after rs items table → Complete b.job (past b) table → first ≡ length b.history + 2 → MatchOption r (text ≡ bits_text rs (bit_in bits)) (λ line. (k : ℕ) × StopsAt rs (bit_in bits) text k × (line ≡ first + k)) → MatchOption r (Closes table b rs (bit_after items table) text) (Fails table b rs (bit_after items table) text)
close_match None b table rs items bits text first runs after complete number e = record {
  complete = complete;
  text_is = e ∙ ap (flat_map ended) (run_lines rs items table bits runs after);
}
close_match (Some line) b table rs items bits text first runs after complete number (k, stops, is) =
    inr (complete, (k, stops_alike rs (bit_in bits) (bit_after items table) text k (run_lines rs items table bits runs after) stops, omega (arith, is, number)))

pub close_answers : (r : Option ℕ) (b : Position) (table : List Given) (rs seen : List Register) (items : List Item) (bits now : List Bool) (text : List ℕ) (first : ℕ) → seen ≡ rs → now ≡ bits → FirstsRunOn 0 rs → bits ≡ bits_after rs items table → Complete b.job (past b) table → first ≡ length b.history + 2 → MatchOption r (text ≡ bits_text seen (bit_in now)) (λ line. (k : ℕ) × StopsAt seen (bit_in now) text k × (line ≡ first + k)) → MatchOption r (Closes table b rs (bit_after items table) text) (Fails table b rs (bit_after items table) text)
close_answers r b table rs seen items bits now text first same is runs after complete number m =
    let P : List Register → Type 0 = λ xs. MatchOption r (text ≡ bits_text xs (bit_in now)) (λ line. (k : ℕ) × StopsAt xs (bit_in now) text k × (line ≡ first + k)) in
    let Q : List Bool → Type 0 = λ bs. MatchOption r (text ≡ bits_text rs (bit_in bs)) (λ line. (k : ℕ) × StopsAt rs (bit_in bs) text k × (line ≡ first + k)) in
    close_match r b table rs items bits text first runs after complete number (subst Q is (subst P same m))
