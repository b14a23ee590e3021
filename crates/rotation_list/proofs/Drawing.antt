-- Draws, and the operations and outcomes that they give.
use Rattle.std.proofs.Common.{◌≡◌, ℕ, suc, ◌+◌, ◌*◌, ◌<◌, ◌≤◌, length, drop, get_or, List, [], ◌∷◌, ◌++◌, Some, None, refl, sym, ◌∙◌, ap, append_assoc, append-nil, add-one, codes, arith}
use Rattle.std.proofs.Math.Seq.{drop-cons}
use Rattle.patch_base.specs.Texts.{spaced}
use Rattle.source_model.specs.declared.Angle.TheVariants.{Eighth, Quarter, Half}
use Rattle.source_model.specs.declared.Item.{Item}
use Rattle.source_model.specs.declared.Item.TheVariants as item
use Rattle.std.proofs.lemmas.Grind.{common_steps}
use Rattle.source_model.specs.declared.Circuit.{Circuit}
use Rattle.source_model.specs.declared.Register.{Register}
use Rattle.source_model.specs.declared.Kind.{Kind}
use Rattle.source_model.specs.Circuits.{kinds}
use Rattle.rotation_list.specs.Gates.{measured}
use Rattle.static_products.specs.Pulled.{kind_of}
use Rattle.product_list.specs.Printed.{line_text}
use Rattle.rotation_list.specs.Generated.{next_number, draw, operation, operations, measurements, big_items, big_circuit, big_outcomes, outcome_words, outcome_lines}

pub draw_first : (n : ℕ) → draw n 0 ≡ n
unfolding draw
draw_first n = refl

pub draw_next : (n j k x y : ℕ) → x ≡ draw n j → y ≡ next_number x → k ≡ j + 1 → y ≡ draw n k
unfolding draw
draw_next n j k x y e f g = f ∙ ap next_number e ∙ ap (draw n) (sym (add-one j) ∙ sym g)

pub operations_first : (n : ℕ) → operations n 0 ≡ []
unfolding operations
operations_first n = refl

pub operations_more : (n k a b c : ℕ) → a ≡ draw n (3 * k + 1) → b ≡ draw n (3 * k + 2) → c ≡ draw n (3 * k + 3) → operations n k ++ operation a b c ≡ operations n (k + 1)
unfolding operations
operations_more n k a b c e f g = (λ i. operations n k ++ operation (e i) (f i) (g i)) ∙ ap (operations n) (sym (add-one k))

pub measurements_first : (xs : List Item) → xs ≡ xs ++ measurements 0
unfolding measurements
measurements_first xs = sym (append-nil xs)

pub measurements_more : (q : ℕ) (xs ys zs : List Item) → ys ≡ xs ++ measurements q → zs ≡ ys ++ measured 8 q q → zs ≡ xs ++ measurements (q + 1)
unfolding measurements
measurements_more q xs ys zs e f = f ∙ ap (λ is. is ++ measured 8 q q) e ∙ append_assoc xs (measurements q) (measured 8 q q) ∙ ap (λ k. xs ++ measurements k) (sym (add-one q))

pub items_whole : (n : ℕ) (xs ys : List Item) → xs ≡ operations n n → ys ≡ xs ++ measurements 8 → ys ≡ big_items n
unfolding big_items
items_whole n xs ys e f = rw (f, e) refl

-- ---- outcomes
same_kind : (k j : Kind) → Some k ≡ Some j → k ≡ j
same_kind k j e = cc

kinds_product : (i : Item) (k : Kind) (is : List Item) → kind_of i ≡ Some k → kinds (i ∷ is) ≡ k ∷ kinds is
kinds_product (item.Turn axis Eighth) k is e = ap (λ x. x ∷ kinds is) (same_kind _ k e)
kinds_product (item.Turn axis Quarter) k is e = absurd (cc)
kinds_product (item.Turn axis Half) k is e = absurd (cc)
kinds_product (item.Measure axis bit) k is e = ap (λ x. x ∷ kinds is) (same_kind _ k e)
kinds_product (item.If axis first size value) k is e = ap (λ x. x ∷ kinds is) (same_kind _ k e)

kinds_turn : (i : Item) (is : List Item) → kind_of i ≡ None → kinds (i ∷ is) ≡ kinds is
kinds_turn (item.Turn axis Eighth) is e = absurd (cc)
kinds_turn (item.Turn axis Quarter) is e = refl
kinds_turn (item.Turn axis Half) is e = refl
kinds_turn (item.Measure axis bit) is e = absurd (cc)
kinds_turn (item.If axis first size value) is e = absurd (cc)

pub next_item : (items : List Item) (k : ℕ) (i : Item) → k < length items → i ≡ get_or items k i → drop k items ≡ i ∷ drop (k + 1) items
next_item items k i l e = drop-cons items k i l ∙ ap (λ x. x ∷ drop (suc k) items) (sym e) ∙ ap (λ m. i ∷ drop m items) (sym (add-one k))

pub line_put : (ws : List (List ℕ)) (x0 x1 x2 : List ℕ) → x1 ≡ x0 ++ spaced ws → x2 ≡ x1 ++ 10 ∷ [] → x2 ≡ x0 ++ line_text ws
unfolding line_text
line_put ws x0 x1 x2 e1 e2 = rw (e2, e1) (append_assoc x0 (spaced ws) (10 ∷ []))

-- the text so far, and the lines that are still to come
pub Remains : (whole text : List ℕ) (n drawn p : ℕ) (rest : List Item) → Type 0
Remains whole text n drawn p rest = (e : ℕ) × (drawn ≡ draw n e) × (whole ≡ text ++ outcome_lines n e p (kinds rest))

pub remains_first : (whole text : List ℕ) (n d drawn : ℕ) (items : List Item) → drawn ≡ draw n d → whole ≡ text ++ outcome_lines n d 0 (kinds items) → Remains whole text n drawn 0 items
unfolding Remains
remains_first whole text n d drawn items e f = (d, e, f)

pub remains_product : (whole text text' : List ℕ) (n drawn drawn' p : ℕ) (rest : List Item) (i : Item) (is : List Item) (k : Kind) → Remains whole text n drawn p rest → rest ≡ i ∷ is → kind_of i ≡ Some k → drawn' ≡ next_number drawn → text' ≡ text ++ line_text (outcome_words k p drawn') → Remains whole text' n drawn' (p + 1) is
unfolding Remains outcome_lines
remains_product whole text text' n drawn drawn' p rest i is k (e, d, w) r h s t =
    let new : drawn' ≡ draw n (e + 1) = draw_next n e (e + 1) drawn drawn' d s refl in (
      e + 1,
      new,
      w ∙ ap (λ xs. text ++ outcome_lines n e p (kinds xs)) r ∙ ap (λ ks. text ++ outcome_lines n e p ks) (kinds_product i k is h)
          ∙ ap (λ x. text ++ (line_text (outcome_words k p x) ++ outcome_lines n (e + 1) (p + 1) (kinds is))) (sym new)
          ∙ sym (append_assoc text (line_text (outcome_words k p drawn')) (outcome_lines n (e + 1) (p + 1) (kinds is)))
          ∙ ap (λ xs. xs ++ outcome_lines n (e + 1) (p + 1) (kinds is)) (sym t),
    )

pub remains_turn : (whole text : List ℕ) (n drawn p : ℕ) (rest : List Item) (i : Item) (is : List Item) → Remains whole text n drawn p rest → rest ≡ i ∷ is → kind_of i ≡ None → Remains whole text n drawn p is
unfolding Remains
remains_turn whole text n drawn p rest i is (e, d, w) r h = (e, d, w ∙ ap (λ xs. text ++ outcome_lines n e p (kinds xs)) r ∙ ap (λ ks. text ++ outcome_lines n e p ks) (kinds_turn i is h))

pub remains_none : (whole text text' : List ℕ) (n drawn p : ℕ) (rest : List Item) → Remains whole text n drawn p rest → rest ≡ [] → text' ≡ text ++ codes "f 0 0\n" → text' ≡ whole ++ codes "f 0 0\n"
unfolding Remains outcome_lines
remains_none whole text text' n drawn p rest (e, d, w) r t = t ∙ ap (λ xs. xs ++ codes "f 0 0\n") (sym (w ∙ ap (λ xs. text ++ outcome_lines n e p (kinds xs)) r ∙ append-nil text))

pub drop_past : (items : List Item) (k : ℕ) → length items ≤ k → drop k items ≡ []
drop_past items k past = grind (arith, common_steps)

pub circuit_is : (n : ℕ) (qubits hidden : ℕ) (rs : List Register) (is : List Item) → qubits ≡ 8 → hidden ≡ 0 → rs ≡ record { name = codes "c"; first = 0; size = 8 } ∷ [] → is ≡ big_items n → (let made : Circuit = record { qubits = qubits; registers = rs; items = is; hidden = hidden } in made ≡ big_circuit n)
unfolding big_circuit
circuit_is n qubits hidden rs is e f g h = (λ i. record { qubits = e i; registers = g i; items = h i; hidden = f i })

pub outcomes_are : (n last : ℕ) (items : List Item) (text : List ℕ) → items ≡ big_items n → last ≡ draw n (3 * n) → ((m d : ℕ) → last ≡ draw m d → text ≡ codes "outcomes 1\n" ++ outcome_lines m d 0 (kinds items) ++ codes "f 0 0\n") → text ≡ big_outcomes n
unfolding big_outcomes
outcomes_are n last items text e l h = h n (3 * n) l ∙ ap (λ is. codes "outcomes 1\n" ++ outcome_lines n (3 * n) 0 (kinds is) ++ codes "f 0 0\n") e
