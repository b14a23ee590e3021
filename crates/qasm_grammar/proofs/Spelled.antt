-- Pieces one after another.
use Rattle.std.proofs.Common.{◌≡◌, ℕ, ◌+◌, ◌<◌, true, List, [], ◌∷◌, ◌++◌, length, get_or, take, drop, Some, refl, sym, ap, subst, ◌∙◌, arith, append-nil, append_assoc}
use Rattle.std.specs.List.{slice_get, flat_map}
use Rattle.std.proofs.lemmas.List.{length-drop, get_or-drop}
use Rattle.std.proofs.lemmas.Option.{slice_get-get_or}
use Rattle.std.proofs.lemmas.Grind.{take_at_read, flat_map-append}
use Rattle.qasm_grammar.specs.declared.terminal.Terminal.{Terminal}
use Rattle.qasm_grammar.specs.inside.Forms.{is_next}
use Rattle.qasm_grammar.specs.Spelling.{Piece, Stands, fixed, Spells, listed}
use Rattle.qasm_grammar.specs.inside.Spelling.{fixed_text}
use Rattle.qasm_grammar.specs.declared.terminal.Terminal.TheVariants.{Comma}

pub spells_more : (xs ys : List Piece) (found : List Terminal) (at mid end : ℕ) → Spells xs found at mid → Spells ys found mid end → Spells (xs ++ ys) found at end
spells_more [] ys found at mid end e s = subst (λ (n : ℕ). Spells ys found n end) (sym e) s
spells_more (x ∷ xs) ys found at mid end e s = (e.0, spells_more xs ys found (at + 1) mid end e.1 s)

fixed_more : (xs ys : List Terminal) → fixed_text (xs ++ ys) ≡ fixed_text xs ++ fixed_text ys
fixed_more [] ys = refl
fixed_more (x ∷ xs) ys = ap (λ (ps : List Piece). fixed x ∷ ps) (fixed_more xs ys)

pub fixed_push : (ws : List Terminal) (i : ℕ) (d : Terminal) (found : List Terminal) (at end : ℕ) → i < length ws → Spells (fixed_text (take i ws)) found at end → Stands (get_or ws i d) found end → Spells (fixed_text (take (i + 1) ws)) found at (end + 1)
fixed_push ws i d found at end lt s h =
    let cut : take (i + 1) ws ≡ take i ws ++ get_or ws i d ∷ [] = (take_at_read ws i d lt).1 in
    rw cut (rw fixed_more (spells_more (fixed_text (take i ws)) (fixed (get_or ws i d) ∷ []) found at end (end + 1) s (h, refl)))

-- the first of the tokens that are left stands there
pub get_drop : (found : List Terminal) (at : ℕ) (t : Terminal) (ts : List Terminal) → drop at found ≡ t ∷ ts → slice_get found at ≡ Some t
get_drop found at t ts e =
    let lt : at < length found = omega (arith, length-drop at found, ap length e) in
    let same_place : get_or (drop at found) 0 t ≡ get_or found at t = get_or-drop at found 0 t ∙ ap (λ (n : ℕ). get_or found n t) {x = at + 0} {y = at} (omega arith) in
    let head : get_or (drop at found) 0 t ≡ t = ap (λ (us : List Terminal). get_or us 0 t) e in
    slice_get-get_or found at t lt ∙ ap (λ (x : Terminal). Some x) (sym same_place ∙ head)

-- the token that is next stands there
pub next_stands : (found : List Terminal) (at : ℕ) (s : Terminal) → is_next s (drop at found) ≡ true → Stands s found at
next_stands found at s e = by_rest (drop at found) refl e
  where
    by_rest : (ts : List Terminal) → drop at found ≡ ts → is_next s ts ≡ true → Stands s found at
    by_rest [] d e = cc
    by_rest (t ∷ ts) d e = (t, get_drop found at t ts d, e)

listed_more : {X : Type 0} (text : X → List Piece) (x : X) (xs : List X) (y : X) → listed text ((x ∷ xs) ++ y ∷ []) ≡ listed text (x ∷ xs) ++ (fixed Comma ∷ text y)
listed_more {X} text x xs y =
    let g : X → List Piece = λ z. fixed Comma ∷ text z in
    ap (λ (ps : List Piece). text x ++ ps) (flat_map-append g xs (y ∷ []) ∙ ap (λ (ps : List Piece). flat_map g xs ++ ps) (append-nil (g y)))
    ∙ sym (append_assoc (text x) (flat_map g xs) (g y))

-- one more after a comma
pub listed_push : {X : Type 0} (text : X → List Piece) (xs : List X) (y : X) (found : List Terminal) (at end after : ℕ) → 0 < length xs → Spells (listed text xs) found at end → Stands Comma found end → Spells (text y) found (end + 1) after → Spells (listed text (xs ++ y ∷ [])) found at after
listed_push text [] y found at end after lt s h t = absurd (omega arith)
listed_push text (x ∷ xs) y found at end after lt s h t =
    let whole = spells_more (listed text (x ∷ xs)) (fixed Comma ∷ text y) found at end after s (h, t) in
    subst (λ (ps : List Piece). Spells ps found at after) (sym (listed_more text x xs y)) whole

pub listed_one : {X : Type 0} (text : X → List Piece) (x : X) (found : List Terminal) (at end : ℕ) → Spells (text x) found at end → Spells (listed text (x ∷ [])) found at end
listed_one text x found at end s = subst (λ (ps : List Piece). Spells ps found at end) (sym (append-nil (text x))) s

-- one more, with nothing between
pub flat_push : {X : Type 0} (text : X → List Piece) (xs : List X) (y : X) (found : List Terminal) (at end after : ℕ) → Spells (flat_map text xs) found at end → Spells (text y) found end after → Spells (flat_map text (xs ++ y ∷ [])) found at after
flat_push text xs y found at end after s t =
    let e : flat_map text (xs ++ y ∷ []) ≡ flat_map text xs ++ text y = flat_map-append text xs (y ∷ []) ∙ ap (λ (ps : List Piece). flat_map text xs ++ ps) (append-nil (text y)) in
    subst (λ (ps : List Piece). Spells ps found at after) (sym e) (spells_more (flat_map text xs) (text y) found at end after s t)
