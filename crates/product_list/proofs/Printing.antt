-- Texts appended one after another.
use Rattle.std.proofs.Common.{◌≡◌, ℕ, ◌+◌, ◌<◌, ◌-◌, Option, Bool, if◌then◌else◌, List, [], ◌∷◌, ◌++◌, take, length, get_or, codes, decimal, refl, sym, ◌∙◌, ap, append_assoc, append-nil}
use Rattle.std.specs.List.{flat_map}
use Rattle.std.proofs.lemmas.List.{take_more}
use Rattle.std.proofs.lemmas.List.Concat.{flat_map-append}
use Rattle.patch_base.specs.Texts.{spaced}
use Rattle.source_model.specs.declared.Circuit.{Circuit}
use Rattle.source_model.specs.declared.Register.{Register}
use Rattle.source_model.specs.declared.Static.{Static}
use Rattle.source_model.specs.declared.Kind.{Kind}
use Rattle.source_model.specs.declared.Kind.TheVariants as kind
use Rattle.source_model.specs.Circuits.{bits_in}
use Rattle.pauli_product.specs.Signed.{Signed}
use Rattle.pauli_product.specs.Spelling.{product_text}
use Rattle.product_list.specs.Printed.{register_with, register_of, measure_words, settle_words, needs_two, product_words, line_text, header_text, register_text, product_line, list_text}

pub header_put : (two : Bool) (n : ℕ) (x0 x1 x2 x3 x4 v : List ℕ) → x1 ≡ x0 ++ codes "products" → x2 ≡ x1 ++ 32 ∷ v → v ≡ (if two then codes "2" else codes "1") → x3 ≡ x2 ++ 32 ∷ decimal n → x4 ≡ x3 ++ 10 ∷ [] → x4 ≡ x0 ++ header_text two n
unfolding header_text line_text
header_put two n x0 x1 x2 x3 x4 v e1 e2 e e3 e4 = rw (e4, e3, e2, e1, e) (simp append_assoc)

pub register_put : (r : Register) (x0 x1 x2 x3 x4 : List ℕ) → x1 ≡ x0 ++ 99 ∷ [] → x2 ≡ x1 ++ 32 ∷ r.name → x3 ≡ x2 ++ 32 ∷ decimal r.size → x4 ≡ x3 ++ 10 ∷ [] → x4 ≡ x0 ++ register_text r
unfolding register_text line_text
register_put r x0 x1 x2 x3 x4 e1 e2 e3 e4 = rw (e4, e3, e2, e1) (simp append_assoc)

pub line_put : (ws : List (List ℕ)) (x0 x1 x2 : List ℕ) → x1 ≡ x0 ++ spaced ws → x2 ≡ x1 ++ 10 ∷ [] → x2 ≡ x0 ++ line_text ws
unfolding line_text
line_put ws x0 x1 x2 e1 e2 = rw (e2, e1) (append_assoc x0 (spaced ws) (10 ∷ []))

pub product_put : (rs : List Register) (s : Static) (x0 x1 x2 : List ℕ) → x1 ≡ x0 ++ spaced (product_words rs s.axis s.kind) → x2 ≡ x1 ++ 10 ∷ [] → x2 ≡ x0 ++ product_line rs s
unfolding product_line
product_put rs s x0 x1 x2 e1 e2 = line_put (product_words rs s.axis s.kind) x0 x1 x2 e1 e2

pub flat_more : {A : Type 0} (f : A → List ℕ) (xs : List A) (i : ℕ) (x : A) (x0 x1 x2 : List ℕ) → i < length xs → x ≡ get_or xs i x → x1 ≡ x0 ++ flat_map f (take i xs) → x2 ≡ x1 ++ f x → x2 ≡ x0 ++ flat_map f (take (i + 1) xs)
flat_more f xs i x x0 x1 x2 l e e1 e2 =
    let one : flat_map f (take (i + 1) xs) ≡ flat_map f (take i xs) ++ f x =
    ap (flat_map f) (take_more xs i x l ∙ ap (λ y. take i xs ++ y ∷ []) (sym e)) ∙ flat_map-append f (take i xs) (x ∷ []) ∙ ap (λ ys. flat_map f (take i xs) ++ ys) (append-nil (f x)) in
    e2 ∙ ap (λ ys. ys ++ f x) e1 ∙ append_assoc x0 (flat_map f (take i xs)) (f x) ∙ ap (λ ys. x0 ++ ys) (sym one)

pub list_put : (c : Circuit) (ps : List Static) (two : Bool) (rs : List Register) (x0 x1 x2 x3 : List ℕ) → x0 ≡ [] → rs ≡ c.registers → two ≡ needs_two rs ps → x1 ≡ x0 ++ header_text two c.qubits → x2 ≡ x1 ++ flat_map register_text rs → x3 ≡ x2 ++ flat_map (product_line rs) ps → x3 ≡ list_text c ps
unfolding list_text
list_put c ps two rs x0 x1 x2 x3 e0 f t e1 e2 e3 = rw (e3, e2, e1, e0, t, f) refl

-- ---- the words of a product by its kind
pub words_rotation : (rs : List Register) (axis : Signed) (k : Kind) → k ≡ kind.Rotation → product_words rs axis k ≡ codes "r" ∷ product_text axis ∷ []
unfolding product_words
words_rotation rs axis k e = rw e refl

pub words_measure : (rs : List Register) (axis : Signed) (k : Kind) (bit : ℕ) → k ≡ kind.Measure bit → product_words rs axis k ≡ measure_words axis bit (register_with rs bit)
unfolding product_words
words_measure rs axis k bit e = rw e refl

pub words_settle : (rs : List Register) (axis : Signed) (k : Kind) (first size value hidden : ℕ) (r : Option Register) → k ≡ kind.Settle first size value → hidden ≡ first - bits_in rs → r ≡ register_of rs first size → product_words rs axis k ≡ settle_words axis hidden value r
unfolding product_words
words_settle rs axis k first size value hidden r e f g = rw (e, f, g) refl
