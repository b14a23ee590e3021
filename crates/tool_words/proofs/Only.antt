-- Words give one command.
use Rattle.std.proofs.Common.{◌≡◌, ◌≢◌, ℕ, ◌-◌, ◌/◌, ◌%◌, ◌<◌, ◌≤◌, ◌^◌, List, [], ◌∷◌, length, map, take, drop, get_or, decimal, codes, sym, ◌∙◌, ap, subst, arith}
use Rattle.std.proofs.lemmas.Fmt.{decimal_injective}
use Rattle.std.proofs.lemmas.List.{length-map, take_all}
use Rattle.tool_words.specs.Commands.{Run, run, bits, big, side, ArePairs, IsRun, run_words}

-- lists whose first words begin with different bytes
other_heads : (a b : ℕ) (xs ys : List ℕ) (us vs : List (List ℕ)) → a ≢ b → (a ∷ xs) ∷ us ≡ (b ∷ ys) ∷ vs → ⊥
other_heads a b xs ys us vs apart e = apart (cc)

pub same_number : (m n : ℕ) → m < 2 ^ 32 → n < 2 ^ 32 → decimal m ≡ decimal n → m ≡ n
same_number m n h k e = decimal_injective m n (omega arith) (omega arith) e

pub only_big : (n k : List ℕ) (m j : ℕ) → m ≤ 4000 → j ≤ 16 → n ≡ decimal m → k ≡ decimal j → (r : Run) → codes "big" ∷ n ∷ k ∷ [] ≡ run_words r → IsRun r → big m j ≡ r
only_big n k m j m_fits j_fits n_is k_is (run c l o i) e h = absurd (cc)
only_big n k m j m_fits j_fits n_is k_is (bits c l o i) e h = absurd (cc)
only_big n k m j m_fits j_fits n_is k_is (big x i) e h =
    let x_fits = h.1 in
    let i_fits = h.2.1 in
    let x_is : m ≡ x = same_number m x (omega arith) (omega arith) (cc) in
    let i_is : j ≡ i = same_number j i (omega arith) (omega arith) (cc) in
    cc
only_big n k m j m_fits j_fits n_is k_is (side l i names) e h = absurd (other_heads 98 115 _ _ _ _ (omega arith) e)

pub only_run : (name c l o k : List ℕ) (j : ℕ) → j ≤ 16 → k ≡ decimal j → name ≡ codes "run" → (r : Run) → name ∷ c ∷ l ∷ o ∷ k ∷ [] ≡ run_words r → IsRun r → run c l o j ≡ r
only_run name c l o k j fits k_is name_is (run c' l' o' i) e h =
    let i_fits = h.1 in
    let i_is : j ≡ i = same_number j i (omega arith) (omega arith) (cc) in
    cc
only_run name c l o k j fits k_is name_is (bits c' l' o' i) e h =
    let P : List ℕ → Type 0 = λ w. w ∷ c ∷ l ∷ o ∷ k ∷ [] ≡ codes "bits" ∷ c' ∷ l' ∷ o' ∷ decimal i ∷ [] in
    absurd (other_heads 114 98 _ _ _ _ (omega arith) (subst P name_is e))
only_run name c l o k j fits k_is name_is (big x i) e h = absurd (cc)
only_run name c l o k j fits k_is name_is (side l' i names) e h =
    let P : List ℕ → Type 0 = λ w. w ∷ c ∷ l ∷ o ∷ k ∷ [] ≡ codes "side" ∷ l' ∷ decimal i ∷ names in
    absurd (other_heads 114 115 _ _ _ _ (omega arith) (subst P name_is e))

pub only_bits : (name c l o k : List ℕ) (j : ℕ) → j ≤ 16 → k ≡ decimal j → name ≡ codes "bits" → (r : Run) → name ∷ c ∷ l ∷ o ∷ k ∷ [] ≡ run_words r → IsRun r → bits c l o j ≡ r
only_bits name c l o k j fits k_is name_is (run c' l' o' i) e h =
    let P : List ℕ → Type 0 = λ w. w ∷ c ∷ l ∷ o ∷ k ∷ [] ≡ codes "run" ∷ c' ∷ l' ∷ o' ∷ decimal i ∷ [] in
    absurd (other_heads 98 114 _ _ _ _ (omega arith) (subst P name_is e))
only_bits name c l o k j fits k_is name_is (bits c' l' o' i) e h =
    let i_fits = h.1 in
    let i_is : j ≡ i = same_number j i (omega arith) (omega arith) (cc) in
    cc
only_bits name c l o k j fits k_is name_is (big x i) e h = absurd (cc)
only_bits name c l o k j fits k_is name_is (side l' i names) e h =
    let P : List ℕ → Type 0 = λ w. w ∷ c ∷ l ∷ o ∷ k ∷ [] ≡ codes "side" ∷ l' ∷ decimal i ∷ names in
    absurd (other_heads 98 115 _ _ _ _ (omega arith) (subst P name_is e))

pub only_side : (l k : List ℕ) (names : List (List ℕ)) (j : ℕ) → j ≤ 16 → k ≡ decimal j → (r : Run) → codes "side" ∷ l ∷ k ∷ names ≡ run_words r → IsRun r → side l j names ≡ r
only_side l k names j fits k_is (run c' l' o' i) e h = absurd (other_heads 115 114 _ _ _ _ (omega arith) e)
only_side l k names j fits k_is (bits c' l' o' i) e h = absurd (other_heads 115 98 _ _ _ _ (omega arith) e)
only_side l k names j fits k_is (big x i) e h = absurd (other_heads 115 98 _ _ _ _ (omega arith) e)
only_side l k names j fits k_is (side l' i names') e h =
    let i_fits = h.0.1 in
    let i_is : j ≡ i = same_number j i (omega arith) (omega arith) (cc) in
    cc

pub are_pairs : {A : Type 0} (f : A → List ℕ) (names : List A) → 0 < length names → length names % 2 ≡ 0 → length names / 2 ≤ 8 → ArePairs (map f names)
are_pairs f names some even few =
    let long : length (map f names) ≡ length names = length-map names f in
    (length names / 2, omega arith, few, omega arith)

-- the first three words, and the others
pub front : {A B : Type 0} (f : A → B) (ws : List A) (a b c : A) → 3 ≤ length ws → a ≡ get_or ws 0 a → b ≡ get_or ws 1 b → c ≡ get_or ws 2 c → map f ws ≡ f a ∷ f b ∷ f c ∷ map f (take (length ws - 3) (drop 3 ws))
front f [] a b c n p q r = absurd (omega arith)
front f (w ∷ []) a b c n p q r = absurd (omega arith)
front f (w ∷ x ∷ []) a b c n p q r = absurd (omega arith)
front f (w ∷ x ∷ y ∷ ws) a b c n p q r =
    let long : length (w ∷ x ∷ y ∷ ws) - 3 ≡ length ws = omega arith in
    let rest : take (length (w ∷ x ∷ y ∷ ws) - 3) ws ≡ ws = ap (λ n. take n ws) long ∙ take_all (length ws) ws (omega arith) in
    let here : f w ∷ f x ∷ f y ∷ map f ws ≡ f a ∷ f b ∷ f c ∷ map f ws = cc in
    here ∙ ap (λ xs. f a ∷ f b ∷ f c ∷ map f xs) (sym rest)

pub three : {A B : Type 0} (f : A → B) (ws : List A) (a b c : A) → length ws ≡ 3 → a ≡ get_or ws 0 a → b ≡ get_or ws 1 b → c ≡ get_or ws 2 c → map f ws ≡ f a ∷ f b ∷ f c ∷ []
three f [] a b c n p q r = absurd (omega arith)
three f (w ∷ []) a b c n p q r = absurd (omega arith)
three f (w ∷ x ∷ []) a b c n p q r = absurd (omega arith)
three f (w ∷ x ∷ y ∷ []) a b c n p q r = cc
three f (w ∷ x ∷ y ∷ z ∷ ws) a b c n p q r = absurd (omega arith)
