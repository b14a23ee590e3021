-- A text tells its version, its history and its bits.
use Rattle.std.proofs.Common.{◌≡◌, ℕ, ◌+◌, ◌≤◌, ◌<◌, ◌^◌, ◌%◌, List, [], ◌∷◌, ◌++◌, length, refl, sym, ◌∙◌, ap, subst, arith, get_or, drop, append_assoc, length-append, Bool, true, false, zero, suc, inl, inr, lit<}
use Rattle.std.specs.Prelude.{Option, Some, None, flat_map, map, decimal, codes, All, IfSome}
use Rattle.patch_base.specs.Texts.{spaced, digit}
use Rattle.pauli_product.specs.declared.Letter.{Letter}
use Rattle.pauli_product.specs.declared.Letter.TheVariants.{I, X, Y, Z}
use Rattle.pauli_product.specs.Signed.{Signed}
use Rattle.pauli_product.specs.Spelling.{sign_text, letter_text, product_text}
use Rattle.source_model.specs.declared.Given.{Given}
use Rattle.source_model.specs.declared.Given.TheVariants as given
use Rattle.source_model.specs.declared.Register.{Register}
use Rattle.source_model.specs.Circuits.{IsOneLine, FirstsRunOn, bits_in}
use Rattle.board_core.specs.declared.Noted.{Noted}
use Rattle.board_core.specs.declared.Entry.{Entry}
use Rattle.board_core.specs.declared.Entry.TheVariants.{Claim, Deliver, Release, Step, Settle}
use Rattle.schedule_text.specs.Text.{Version, one, two, optional, outcome_words, entry_words, entry_line, header_line, digits, bits_line, lines_of, IsNumber, HasNumbers, Prints, TextTellsAll}
use Rattle.std.proofs.lemmas.List.{append-nil, append_cancel_left, length-map}
use Rattle.std.proofs.lemmas.List.Sums.{sum_by-cons}
use Rattle.std.proofs.lemmas.Bool.{cases_lt}
use Rattle.std.proofs.Math.Nat.{eq-or-lt_of_le}
use Rattle.std.proofs.lemmas.Fmt.{decimal_by_steps, decimal_injective}

-- the bytes without a byte c
abbrev pub Free : ℕ → List ℕ → Type 0
Free c [] = Unit {0}
Free c (b ∷ bs) = (b ≡ c → ⊥) × Free c bs

pub free_append : (c : ℕ) (xs ys : List ℕ) → Free c xs → Free c ys → Free c (xs ++ ys)
free_append c [] ys f g = g
free_append c (x ∷ xs) ys (ne, f) g = (ne, free_append c xs ys f g)

pub free_digit : (c n : ℕ) → c < 48 → Free c ((48 + n) ∷ [])
free_digit c n low = (λ e. omega (arith, e), tt)

pub free_decimal : (c n : ℕ) → c < 48 → n < 2 ^ 64 → Free c (decimal n)
free_decimal c n low =
    decimal_by_steps (λ m ds. Free c ds) (λ m small. free_digit c m low) (λ m ds big f. free_append c ds ((48 + m % 10) ∷ []) f (free_digit c (m % 10) low)) n

-- a byte that two lists don't have cuts both at one place
pub cut_at : (c : ℕ) (xs ys r s : List ℕ) → Free c xs → Free c ys → xs ++ c ∷ r ≡ ys ++ c ∷ s → (xs ≡ ys) × (r ≡ s)
cut_at c [] [] r s f g e = (refl, cc)
cut_at c [] (y ∷ ys) r s f (ne, g) e = absurd (ne (cc))
cut_at c (x ∷ xs) [] r s (ne, f) g e = absurd (ne (cc))
cut_at c (x ∷ xs) (y ∷ ys) r s (n, f) (m, g) e =
    let rest : xs ++ c ∷ r ≡ ys ++ c ∷ s = cc in
    let (same, more) = cut_at c xs ys r s f g rest in
    (cc, more)

-- words, each with a byte c behind it
abbrev pub closed : ℕ → List (List ℕ) → List ℕ
closed c words = flat_map (λ w. w ++ c ∷ []) words

abbrev pub AllFree : ℕ → List (List ℕ) → Type 0
AllFree c [] = Unit {0}
AllFree c (w ∷ ws) = Free c w × AllFree c ws

pub all_free_append : (c : ℕ) (vs ws : List (List ℕ)) → AllFree c vs → AllFree c ws → AllFree c (vs ++ ws)
all_free_append c [] ws f g = g
all_free_append c (v ∷ vs) ws (f, fs) g = (f, all_free_append c vs ws fs g)

pub closed_one : (c : ℕ) (vs ws : List (List ℕ)) → AllFree c vs → AllFree c ws → closed c vs ≡ closed c ws → vs ≡ ws
closed_one c [] [] f g e = refl
closed_one c [] (w ∷ ws) f g e = absurd (omega (arith, ap length e, length-append (w ++ c ∷ []) (closed c ws), length-append w (c ∷ [])))
closed_one c (v ∷ vs) [] f g e = absurd (omega (arith, ap length e, length-append (v ++ c ∷ []) (closed c vs), length-append v (c ∷ [])))
closed_one c (v ∷ vs) (w ∷ ws) (f, fs) (g, gs) e =
    let open_up : v ++ c ∷ closed c vs ≡ w ++ c ∷ closed c ws = cc (append_assoc v (c ∷ []) (closed c vs), append_assoc w (c ∷ []) (closed c ws)) in
    let (same, rest) = cut_at c v w (closed c vs) (closed c ws) f g open_up in
    cc (closed_one c vs ws fs gs rest)

-- words with a space between each two and one behind them
pub spaced_closed : (ws : List (List ℕ)) → 0 < length ws → spaced ws ++ 32 ∷ [] ≡ closed 32 ws
spaced_closed [] some = absurd (omega arith)
spaced_closed (w ∷ []) some = sym (append-nil (w ++ 32 ∷ []))
spaced_closed (w ∷ v ∷ vs) some =
    let more : 0 < length (v ∷ vs) = omega arith in
    cc (append_assoc w (32 ∷ spaced (v ∷ vs)) (32 ∷ []), append_assoc w (32 ∷ []) (closed 32 (v ∷ vs)), spaced_closed (v ∷ vs) more)

pub spaced_one : (vs ws : List (List ℕ)) → 0 < length vs → 0 < length ws → AllFree 32 vs → AllFree 32 ws → spaced vs ≡ spaced ws → vs ≡ ws
spaced_one vs ws m n f g e = closed_one 32 vs ws f g (cc (spaced_closed vs m, spaced_closed ws n, e))

pub free_spaced : (c : ℕ) → (32 ≡ c → ⊥) → (ws : List (List ℕ)) → AllFree c ws → Free c (spaced ws)
free_spaced c ne [] f = tt
free_spaced c ne (w ∷ []) (f, fs) = f
free_spaced c ne (w ∷ v ∷ vs) (f, fs) = free_append c w (32 ∷ spaced (v ∷ vs)) f (ne, free_spaced c ne (v ∷ vs) fs)

-- what no word of an entry has: a byte before +
pub free_letters : (c : ℕ) → c < 43 → (ls : List Letter) → Free c (flat_map letter_text ls)
free_letters c low [] = tt
free_letters c low (I ∷ ls) = ((λ e. omega (arith, e)), free_letters c low ls)
free_letters c low (X ∷ ls) = ((λ e. omega (arith, e)), free_letters c low ls)
free_letters c low (Y ∷ ls) = ((λ e. omega (arith, e)), free_letters c low ls)
free_letters c low (Z ∷ ls) = ((λ e. omega (arith, e)), free_letters c low ls)

pub free_sign : (c : ℕ) → c < 43 → (s : Bool) → Free c (sign_text s)
free_sign c low true = ((λ e. omega (arith, e)), tt)
free_sign c low false = ((λ e. omega (arith, e)), tt)

pub free_product : (c : ℕ) → c < 43 → (p : Signed) → Free c (product_text p)
free_product c low p = free_append c (sign_text p.sign) (flat_map letter_text p.letters) (free_sign c low p.sign) (free_letters c low p.letters)

pub free_bit : (c : ℕ) → c < 43 → (b : Bool) → Free c (digit b)
free_bit c low true = ((λ e. omega (arith, e)), tt)
free_bit c low false = ((λ e. omega (arith, e)), tt)

pub free_number : (c n : ℕ) → c < 43 → IsNumber n → Free c (decimal n)
free_number c n low small = free_decimal c n (omega arith) (omega arith)

pub free_optional : (c : ℕ) → c < 43 → (o : Option ℕ) → IfSome o IsNumber → Free c (optional o)
free_optional c low None small = ((λ e. omega (arith, e)), tt)
free_optional c low (Some n) small = free_number c n low small

pub free_cells : (c : ℕ) → c < 43 → (cells : List ℕ) → All IsNumber cells → AllFree c (map decimal cells)
free_cells c low [] small = tt
free_cells c low (x ∷ xs) small = (free_number c x low (small 0 0 (omega arith)), free_cells c low xs (λ k d h. small (suc k) d (omega (arith, h))))

pub free_given : (c : ℕ) → c < 43 → (g : Given) → AllFree c (outcome_words g)
free_given c low (given.Rotation raw x) = (free_bit c low raw, (free_bit c low x, tt))
free_given c low (given.Measure raw) = (free_bit c low raw, tt)
free_given c low given.Settled = tt

pub free_entry : (c : ℕ) → c < 43 → (e : Entry) → HasNumbers e → AllFree c (entry_words e)
free_entry c low (Claim p axis port state cells) f =
    (((λ e. omega (arith, e)), tt), (free_number c p low f.0, (free_product c low axis, (free_optional c low port f.1, (free_optional c low state f.2, free_cells c low cells f.3)))))
free_entry c low (Deliver p g) f = (((λ e. omega (arith, e)), tt), (free_number c p low f, free_given c low g))
free_entry c low (Release p) f = (((λ e. omega (arith, e)), tt), (free_number c p low f, tt))
free_entry c low (Step f1) f = (((λ e. omega (arith, e)), tt), (free_number c f1 low f, tt))
free_entry c low (Settle p flip) f = (((λ e. omega (arith, e)), tt), (free_number c p low f, (free_bit c low flip, tt)))

pub some_words : (e : Entry) → 0 < length (entry_words e)
some_words (Claim p axis port state cells) = omega arith
some_words (Deliver p g) = omega arith
some_words (Release p) = omega arith
some_words (Step f) = omega arith
some_words (Settle p flip) = omega arith

-- the first byte and what is behind it, and the i-th word
abbrev pub first : List ℕ → ℕ
first [] = 0
first (b ∷ bs) = b

abbrev pub rest_of : List ℕ → List ℕ
rest_of [] = []
rest_of (b ∷ bs) = bs

abbrev pub word : ℕ → List (List ℕ) → List ℕ
word i ws = get_or ws i []

-- each word is the word of one value alone
pub number_one : (m n : ℕ) → IsNumber m → IsNumber n → decimal m ≡ decimal n → m ≡ n
number_one m n f g e = decimal_injective m n (omega arith) (omega arith) e

pub digit_one : (a b : Bool) → digit a ≡ digit b → a ≡ b
digit_one true true e = refl
digit_one true false e = absurd (omega (arith, ap first e))
digit_one false true e = absurd (omega (arith, ap first e))
digit_one false false e = refl

pub optional_one : (o q : Option ℕ) → IfSome o IsNumber → IfSome q IsNumber → optional o ≡ optional q → o ≡ q
optional_one None None f g e = refl
optional_one None (Some n) f g e =
    let P : List ℕ → Type 0 = λ t. Free 45 t in
    let h : Free 45 (codes "-") = subst P (sym e) (free_decimal 45 n (lit< tt) (omega arith)) in absurd (h.0 refl)
optional_one (Some m) None f g e =
    let P : List ℕ → Type 0 = λ t. Free 45 t in
    let h : Free 45 (codes "-") = subst P e (free_decimal 45 m (lit< tt) (omega arith)) in absurd (h.0 refl)
optional_one (Some m) (Some n) f g e = ap Some (number_one m n f g e)

pub cells_one : (xs ys : List ℕ) → All IsNumber xs → All IsNumber ys → map decimal xs ≡ map decimal ys → xs ≡ ys
cells_one [] [] f g e = refl
cells_one [] (y ∷ ys) f g e = cc
cells_one (x ∷ xs) [] f g e = cc
cells_one (x ∷ xs) (y ∷ ys) f g e =
    let first : decimal x ≡ decimal y = cc in
    let rest : map decimal xs ≡ map decimal ys = cc in
    cc (number_one x y (f 0 0 (omega arith)) (g 0 0 (omega arith)) first, cells_one xs ys (λ k d h. f (suc k) d (omega (arith, h))) (λ k d h. g (suc k) d (omega (arith, h))) rest)

pub letter_cut : (l m : Letter) (xs ys : List ℕ) → letter_text l ++ xs ≡ letter_text m ++ ys → (l ≡ m) × (xs ≡ ys)
letter_cut I I xs ys e = (refl, ap rest_of e)
letter_cut I X xs ys e = absurd (omega (arith, ap first e))
letter_cut I Y xs ys e = absurd (omega (arith, ap first e))
letter_cut I Z xs ys e = absurd (omega (arith, ap first e))
letter_cut X I xs ys e = absurd (omega (arith, ap first e))
letter_cut X X xs ys e = (refl, ap rest_of e)
letter_cut X Y xs ys e = absurd (omega (arith, ap first e))
letter_cut X Z xs ys e = absurd (omega (arith, ap first e))
letter_cut Y I xs ys e = absurd (omega (arith, ap first e))
letter_cut Y X xs ys e = absurd (omega (arith, ap first e))
letter_cut Y Y xs ys e = (refl, ap rest_of e)
letter_cut Y Z xs ys e = absurd (omega (arith, ap first e))
letter_cut Z I xs ys e = absurd (omega (arith, ap first e))
letter_cut Z X xs ys e = absurd (omega (arith, ap first e))
letter_cut Z Y xs ys e = absurd (omega (arith, ap first e))
letter_cut Z Z xs ys e = (refl, ap rest_of e)

pub no_letter : {X : Type 0} {x y : X} (l : Letter) (xs : List ℕ) → [] ≡ letter_text l ++ xs → x ≡ y
no_letter I xs e = cc
no_letter X xs e = cc
no_letter Y xs e = cc
no_letter Z xs e = cc

pub letters_one : (ls ms : List Letter) → flat_map letter_text ls ≡ flat_map letter_text ms → ls ≡ ms
letters_one [] [] e = refl
letters_one [] (m ∷ ms) e = no_letter m (flat_map letter_text ms) e
letters_one (l ∷ ls) [] e = no_letter l (flat_map letter_text ls) (sym e)
letters_one (l ∷ ls) (m ∷ ms) e =
    let (first, rest) = letter_cut l m (flat_map letter_text ls) (flat_map letter_text ms) e in
    cc (first, letters_one ls ms rest)

pub sign_cut : (s t : Bool) (xs ys : List ℕ) → sign_text s ++ xs ≡ sign_text t ++ ys → (s ≡ t) × (xs ≡ ys)
sign_cut true true xs ys e = (refl, ap rest_of e)
sign_cut true false xs ys e = absurd (omega (arith, ap first e))
sign_cut false true xs ys e = absurd (omega (arith, ap first e))
sign_cut false false xs ys e = (refl, ap rest_of e)

abbrev pub signed : Bool → List Letter → Signed
signed s ls = record { sign = s; letters = ls }

pub product_one : (p q : Signed) → product_text p ≡ product_text q → p ≡ q
product_one p q e =
    let (s, t) = sign_cut p.sign q.sign (flat_map letter_text p.letters) (flat_map letter_text q.letters) e in
    ap (λ b. signed b p.letters) s ∙ ap (λ ls. signed q.sign ls) (letters_one p.letters q.letters t)

pub given_one : (g h : Given) → outcome_words g ≡ outcome_words h → g ≡ h
given_one (given.Rotation r x) (given.Rotation s y) e = cc (digit_one r s (ap (word 0) e), digit_one x y (ap (word 1) e))
given_one (given.Rotation r x) (given.Measure s) e = absurd (omega (arith, ap length e))
given_one (given.Rotation r x) given.Settled e = absurd (omega (arith, ap length e))
given_one (given.Measure r) (given.Rotation s y) e = absurd (omega (arith, ap length e))
given_one (given.Measure r) (given.Measure s) e = ap given.Measure (digit_one r s (ap (word 0) e))
given_one (given.Measure r) given.Settled e = absurd (omega (arith, ap length e))
given_one given.Settled (given.Rotation s y) e = absurd (omega (arith, ap length e))
given_one given.Settled (given.Measure s) e = absurd (omega (arith, ap length e))
given_one given.Settled given.Settled e = refl

pub entry_one : (d e : Entry) → HasNumbers d → HasNumbers e → entry_words d ≡ entry_words e → d ≡ e
entry_one (Claim p axis port state cells) (Claim q axis2 port2 state2 cells2) f g' e =
    let numbers = number_one p q f.0 g'.0 (ap (word 1) e) in
    let axes = product_one axis axis2 (ap (word 2) e) in
    let ports = optional_one port port2 f.1 g'.1 (ap (word 3) e) in
    let states = optional_one state state2 f.2 g'.2 (ap (word 4) e) in
    let all = cells_one cells cells2 f.3 g'.3 (ap (drop 5) e) in
    cc (numbers, axes, ports, states, all)
entry_one (Claim p axis port state cells) (Deliver q g2) f g' e = absurd (omega (arith, ap (λ ws. first (word 0 ws)) e))
entry_one (Claim p axis port state cells) (Release q) f g' e = absurd (omega (arith, ap (λ ws. first (word 0 ws)) e))
entry_one (Claim p axis port state cells) (Step q) f g' e = absurd (omega (arith, ap (λ ws. first (word 0 ws)) e))
entry_one (Claim p axis port state cells) (Settle q flip2) f g' e = absurd (omega (arith, ap (λ ws. first (word 0 ws)) e))
entry_one (Deliver p g) (Claim q axis2 port2 state2 cells2) f g' e = absurd (omega (arith, ap (λ ws. first (word 0 ws)) e))
entry_one (Deliver p g) (Deliver q g2) f g' e =
    cc (number_one p q f g' (ap (word 1) e), given_one g g2 (ap (drop 2) e))
entry_one (Deliver p g) (Release q) f g' e = absurd (omega (arith, ap (λ ws. first (word 0 ws)) e))
entry_one (Deliver p g) (Step q) f g' e = absurd (omega (arith, ap (λ ws. first (word 0 ws)) e))
entry_one (Deliver p g) (Settle q flip2) f g' e = absurd (omega (arith, ap (λ ws. first (word 0 ws)) e))
entry_one (Release p) (Claim q axis2 port2 state2 cells2) f g' e = absurd (omega (arith, ap (λ ws. first (word 0 ws)) e))
entry_one (Release p) (Deliver q g2) f g' e = absurd (omega (arith, ap (λ ws. first (word 0 ws)) e))
entry_one (Release p) (Release q) f g' e = ap Release (number_one p q f g' (ap (word 1) e))
entry_one (Release p) (Step q) f g' e = absurd (omega (arith, ap (λ ws. first (word 0 ws)) e))
entry_one (Release p) (Settle q flip2) f g' e = absurd (omega (arith, ap (λ ws. first (word 0 ws)) e))
entry_one (Step p) (Claim q axis2 port2 state2 cells2) f g' e = absurd (omega (arith, ap (λ ws. first (word 0 ws)) e))
entry_one (Step p) (Deliver q g2) f g' e = absurd (omega (arith, ap (λ ws. first (word 0 ws)) e))
entry_one (Step p) (Release q) f g' e = absurd (omega (arith, ap (λ ws. first (word 0 ws)) e))
entry_one (Step p) (Step q) f g' e = ap Step (number_one p q f g' (ap (word 1) e))
entry_one (Step p) (Settle q flip2) f g' e = absurd (omega (arith, ap (λ ws. first (word 0 ws)) e))
entry_one (Settle p flip) (Claim q axis2 port2 state2 cells2) f g' e = absurd (omega (arith, ap (λ ws. first (word 0 ws)) e))
entry_one (Settle p flip) (Deliver q g2) f g' e = absurd (omega (arith, ap (λ ws. first (word 0 ws)) e))
entry_one (Settle p flip) (Release q) f g' e = absurd (omega (arith, ap (λ ws. first (word 0 ws)) e))
entry_one (Settle p flip) (Step q) f g' e = absurd (omega (arith, ap (λ ws. first (word 0 ws)) e))
entry_one (Settle p flip) (Settle q flip2) f g' e =
    cc (number_one p q f g' (ap (word 1) e), digit_one flip flip2 (ap (word 2) e))

-- the words of an entry's line
abbrev pub line_words : Version → Noted → List (List ℕ)
line_words one n = entry_words n.entry
line_words two n = decimal n.by ∷ entry_words n.entry

pub line_is : (v : Version) (n : Noted) → entry_line v n ≡ spaced (line_words v n)
line_is one n = refl
line_is two n = refl

pub some_line : (v : Version) (n : Noted) → 0 < length (line_words v n)
some_line one n = some_words n.entry
some_line two n = omega arith

pub free_line : (c : ℕ) → c < 43 → (v : Version) (n : Noted) → Prints v n → AllFree c (line_words v n)
free_line c low one n (by, f) = free_entry c low n.entry f
free_line c low two n (by, f) = (free_number c n.by low (omega (arith, by)), free_entry c low n.entry f)

abbrev pub noted : ℕ → Entry → Noted
noted b e = record { by = b; entry = e }

pub noted_one : (m n : Noted) → m.by ≡ n.by → m.entry ≡ n.entry → m ≡ n
noted_one m n e f = ap (λ b. noted b m.entry) e ∙ ap (λ x. noted n.by x) f

pub words_one : (v : Version) (m n : Noted) → Prints v m → Prints v n → line_words v m ≡ line_words v n → m ≡ n
words_one one m n (b, f) (d, g) e = noted_one m n (b ∙ sym d) (entry_one m.entry n.entry f g e)
words_one two m n (b, f) (d, g) e =
    noted_one m n (number_one m.by n.by (omega (arith, b)) (omega (arith, d)) (ap (word 0) e)) (entry_one m.entry n.entry f g (ap (drop 1) e))

pub line_one : (v : Version) (m n : Noted) → Prints v m → Prints v n → entry_line v m ≡ entry_line v n → m ≡ n
line_one v m n f g e =
    words_one v m n f g (spaced_one (line_words v m) (line_words v n) (some_line v m) (some_line v n) (free_line 32 (lit< tt) v m f) (free_line 32 (lit< tt) v n g) (sym (line_is v m) ∙ (e ∙ line_is v n)))

pub entries_one : (v : Version) (h k : List Noted) → All (Prints v) h → All (Prints v) k → map (entry_line v) h ≡ map (entry_line v) k → h ≡ k
entries_one v [] [] f g e = refl
entries_one v [] (n ∷ k) f g e = cc
entries_one v (m ∷ h) [] f g e = cc
entries_one v (m ∷ h) (n ∷ k) f g e =
    let same = line_one v m n (f 0 m (omega arith)) (g 0 n (omega arith)) (ap (λ ls. get_or ls 0 []) e) in
    let others = entries_one v h k (λ i d x. f (suc i) d (omega (arith, x))) (λ i d x. g (suc i) d (omega (arith, x))) (ap (drop 1) e) in
    cc (same, others)

pub same_length : {X : Type 0} (xs ys r s : List X) → length xs ≡ length ys → xs ++ r ≡ ys ++ s → (xs ≡ ys) × (r ≡ s)
same_length [] [] r s l e = (refl, e)
same_length [] (y ∷ ys) r s l e = absurd (omega (arith, l))
same_length (x ∷ xs) [] r s l e = absurd (omega (arith, l))
same_length (x ∷ xs) (y ∷ ys) r s l e =
    let tails : xs ++ r ≡ ys ++ s = cc e in
    let (same, others) = same_length xs ys r s (omega (arith, l)) tails in
    (cc (same, e), others)

pub length-digits : (a : ℕ → Bool) (n size : ℕ) → length (digits a n size) ≡ size
length-digits a n zero = refl
length-digits a n (suc size) =
    length-append (digits a (n + 1) size) (digit (a n)) ∙ elim (a n) as (λ b. length (digits a (n + 1) size) + length (digit b) ≡ suc size) [ true ↦ omega (arith, length-digits a (n + 1) size) | false ↦ omega (arith, length-digits a (n + 1) size) ]

-- digits tell their bits
pub digits_one : (a b : ℕ → Bool) (n size : ℕ) → digits a n size ≡ digits b n size → (i : ℕ) → n ≤ i → i < n + size → a i ≡ b i
digits_one a b n zero e i low high = absurd (omega (arith, low, high))
digits_one a b n (suc size) e i low high =
    let (more, last) = same_length (digits a (n + 1) size) (digits b (n + 1) size) (digit (a n)) (digit (b n)) (length-digits a (n + 1) size ∙ sym (length-digits b (n + 1) size)) e in
    elim (eq-or-lt_of_le low) [
      | inl same ↦ (let P : ℕ → Type 0 = λ m. a m ≡ b m in subst P same (digit_one (a n) (b n) last))
      | inr below ↦ digits_one a b (n + 1) size more i (omega (arith, below)) (omega (arith, high))
    ]

pub free_digits : (c : ℕ) → c < 43 → (a : ℕ → Bool) (n size : ℕ) → Free c (digits a n size)
free_digits c low a n zero = tt
free_digits c low a n (suc size) = free_append c (digits a (n + 1) size) (digit (a n)) (free_digits c low a (n + 1) size) (free_bit c low (a n))

pub free_name : (name : List ℕ) → IsOneLine name → Free 10 name
free_name [] f = tt
free_name (b ∷ bs) f = (f 0 b (omega arith), free_name bs (λ k d h. f (suc k) d (omega (arith, h))))

pub free_bits_line : (a : ℕ → Bool) (r : Register) → IsOneLine r.name → Free 10 (bits_line a r)
free_bits_line a r f =
    free_append 10 ((codes "bits " ++ r.name) ++ codes " ") (digits a r.first r.size)
    (free_append 10 (codes "bits " ++ r.name) (codes " ") (free_append 10 (codes "bits ") r.name ((λ e. omega (arith, e)), ((λ e. omega (arith, e)), ((λ e. omega (arith, e)), ((λ e. omega (arith, e)), ((λ e. omega (arith, e)), tt))))) (free_name r.name f)) ((λ e. omega (arith, e)), tt))
    (free_digits 10 (lit< tt) a r.first r.size)

pub free_bits_lines : (a : ℕ → Bool) (rs : List Register) → All (λ r. IsOneLine r.name) rs → AllFree 10 (map (bits_line a) rs)
free_bits_lines a [] f = tt
free_bits_lines a (r ∷ rs) f = (free_bits_line a r (f 0 r (omega arith)), free_bits_lines a rs (λ k d h. f (suc k) d (omega (arith, h))))

pub free_entry_lines : (v : Version) (h : List Noted) → All (Prints v) h → AllFree 10 (map (entry_line v) h)
free_entry_lines v [] f = tt
free_entry_lines v (n ∷ h) f =
    let P : List ℕ → Type 0 = λ t. Free 10 t in
    let words_free = free_spaced 10 (λ e. omega (arith, e)) (line_words v n) (free_line 10 (lit< tt) v n (f 0 n (omega arith))) in
    (subst P (sym (line_is v n)) words_free, free_entry_lines v h (λ k d x. f (suc k) d (omega (arith, x))))

pub free_header : (v : Version) → Free 10 (header_line v)
free_header one = ((λ e. omega (arith, e)), ((λ e. omega (arith, e)), ((λ e. omega (arith, e)), ((λ e. omega (arith, e)), ((λ e. omega (arith, e)), ((λ e. omega (arith, e)), ((λ e. omega (arith, e)), ((λ e. omega (arith, e)), ((λ e. omega (arith, e)), ((λ e. omega (arith, e)), tt))))))))))
free_header two = ((λ e. omega (arith, e)), ((λ e. omega (arith, e)), ((λ e. omega (arith, e)), ((λ e. omega (arith, e)), ((λ e. omega (arith, e)), ((λ e. omega (arith, e)), ((λ e. omega (arith, e)), ((λ e. omega (arith, e)), ((λ e. omega (arith, e)), ((λ e. omega (arith, e)), tt))))))))))

pub free_lines : (v : Version) (h : List Noted) (rs : List Register) (a : ℕ → Bool) → All (Prints v) h → All (λ r. IsOneLine r.name) rs → AllFree 10 (lines_of v h rs a)
free_lines v h rs a f g = (free_header v, all_free_append 10 (map (entry_line v) h) (map (bits_line a) rs) (free_entry_lines v h f) (free_bits_lines a rs g))

-- the lines of the registers' bits tell the bits
pub bits_one : (a b : ℕ → Bool) (before : ℕ) (rs : List Register) → FirstsRunOn before rs → map (bits_line a) rs ≡ map (bits_line b) rs → (i : ℕ) → before ≤ i → i < before + bits_in rs → a i ≡ b i
bits_one a b before [] runs e i low high = absurd (omega (arith, low, high))
bits_one a b before (r ∷ rs) (at, runs) e i low high =
    let sizes = sum_by-cons (λ (s : Register). s.size) r rs in
    let this : bits_line a r ≡ bits_line b r = ap (λ ls. get_or ls 0 []) e in
    let same = append_cancel_left ((codes "bits " ++ r.name) ++ codes " ") (digits a r.first r.size) (digits b r.first r.size) this in
    elim (cases_lt i (before + r.size)) [
      | inl here ↦ digits_one a b r.first r.size same i (omega (arith, at, low)) (omega (arith, at, here))
      | inr later ↦ bits_one a b (before + r.size) rs runs (ap (drop 1) e) i later (omega (arith, sizes, high))
    ]

pub lines_one : (v : Version) (h k : List Noted) (rs : List Register) (a b : ℕ → Bool) → All (Prints v) h → All (Prints v) k → FirstsRunOn 0 rs → map (entry_line v) h ++ map (bits_line a) rs ≡ map (entry_line v) k ++ map (bits_line b) rs → (h ≡ k) × ((i : ℕ) → i < bits_in rs → a i ≡ b i)
lines_one v h k rs a b f g runs e =
    let lengths : length (map (entry_line v) h) ≡ length (map (entry_line v) k) =
    omega (arith, ap length e, length-append (map (entry_line v) h) (map (bits_line a) rs), length-append (map (entry_line v) k) (map (bits_line b) rs), length-map rs (bits_line a), length-map rs (bits_line b)) in
    let (entries, lines) = same_length (map (entry_line v) h) (map (entry_line v) k) (map (bits_line a) rs) (map (bits_line b) rs) lengths e in
    (entries_one v h k f g entries, (λ i x. bits_one a b 0 rs runs lines i (omega arith) (omega (arith, x))))

pub text_tells_all : TextTellsAll
text_tells_all one one h k rs a b f g names runs e =
    let lines = closed_one 10 (lines_of one h rs a) (lines_of one k rs b) (free_lines one h rs a f names) (free_lines one k rs b g names) e in
    let (same, bits) = lines_one one h k rs a b f g runs (ap (drop 1) lines) in (refl, same, bits)
text_tells_all two two h k rs a b f g names runs e =
    let lines = closed_one 10 (lines_of two h rs a) (lines_of two k rs b) (free_lines two h rs a f names) (free_lines two k rs b g names) e in
    let (same, bits) = lines_one two h k rs a b f g runs (ap (drop 1) lines) in (refl, same, bits)
text_tells_all one two h k rs a b f g names runs e =
    let lines = closed_one 10 (lines_of one h rs a) (lines_of two k rs b) (free_lines one h rs a f names) (free_lines two k rs b g names) e in
    absurd (omega (arith, ap (λ ls. get_or (get_or ls 0 []) 9 0) lines))
text_tells_all two one h k rs a b f g names runs e =
    let lines = closed_one 10 (lines_of two h rs a) (lines_of one k rs b) (free_lines two h rs a f names) (free_lines one k rs b g names) e in
    absurd (omega (arith, ap (λ ls. get_or (get_or ls 0 []) 9 0) lines))
