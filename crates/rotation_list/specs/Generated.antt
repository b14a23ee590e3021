-- The job that is made from a number.
use Rattle.std.specs.Prelude.{ℕ, zero, suc, true, false, ◌+◌, ◌*◌, ◌/◌, ◌%◌, ◌==◌, nat_lt, if◌then◌else◌, List, [], ◌∷◌, ◌++◌, codes, decimal}
use Rattle.patch_base.specs.Texts.{digit}
use Rattle.pauli_product.specs.declared.Letter.TheVariants.{X, Z}
use Rattle.source_model.specs.declared.Circuit.{Circuit}
use Rattle.source_model.specs.declared.Item.{Item}
use Rattle.source_model.specs.declared.Kind.{Kind}
use Rattle.source_model.specs.declared.Kind.TheVariants as kind
use Rattle.source_model.specs.Circuits.{kinds}
use Rattle.rotation_list.specs.Gates.{t_gate, h_gate, s_gate, controlled, measured}
use Rattle.product_list.specs.Printed.{line_text}

-- the number after one
abbrev pub next_number : ℕ → ℕ
next_number x = (75 * x + 74) % 65537

-- a draw is one of these numbers, the first one that after n
unfoldable pub draw : ℕ → ℕ → ℕ
draw n zero = n
draw n (suc j) = next_number (draw n j)

-- the operation that three draws give, on 8 qubits
unfoldable pub operation : ℕ → ℕ → ℕ → List Item
operation a b c =
    let u = b % 8 in
    let v = (u + 1 + c % 7) % 8 in
    if nat_lt (a % 8) 2 then t_gate 8 false u
    else if a % 8 == 2 then t_gate 8 true u
    else if nat_lt (a % 8) 5 then h_gate 8 u
    else if a % 8 == 5 then s_gate 8 false u
    else if a % 8 == 6 then controlled 8 X u v
    else controlled 8 Z u v

-- the first so many operations, three draws each
unfoldable pub operations : ℕ → ℕ → List Item
operations n zero = []
operations n (suc k) = operations n k ++ operation (draw n (3 * k + 1)) (draw n (3 * k + 2)) (draw n (3 * k + 3))

-- each of the first so many qubits is measured into the bit of its number
unfoldable pub measurements : ℕ → List Item
measurements zero = []
measurements (suc i) = measurements i ++ measured 8 i i

unfoldable pub big_items : ℕ → List Item
big_items n = operations n n ++ measurements 8

unfoldable pub big_circuit : ℕ → Circuit
big_circuit n = record {
  qubits = 8;
  registers = record { name = codes "c"; first = 0; size = 8 } ∷ [];
  items = big_items n;
  hidden = 0;
}

-- the outcomes of a product by its draw
abbrev pub outcome_words : Kind → ℕ → ℕ → List (List ℕ)
outcome_words kind.Rotation p e = codes "r" ∷ decimal p ∷ digit ((e / 256) % 2 == 1) ∷ digit ((e / 512) % 2 == 1) ∷ []
outcome_words (kind.Measure bit) p e = codes "m" ∷ decimal p ∷ digit ((e / 256) % 2 == 1) ∷ []
outcome_words (kind.Settle first size value) p e = []

-- a line for each product from number p on; d is the number of draws before them
unfoldable pub outcome_lines : ℕ → ℕ → ℕ → List Kind → List ℕ
outcome_lines n d p [] = []
outcome_lines n d p (k ∷ ks) = line_text (outcome_words k p (draw n (d + 1))) ++ outcome_lines n (d + 1) (p + 1) ks

-- the outcomes, and one failing run
unfoldable pub big_outcomes : ℕ → List ℕ
big_outcomes n = codes "outcomes 1\n" ++ outcome_lines n (3 * n) 0 (kinds (big_items n)) ++ codes "f 0 0\n"

unfoldable pub big_layout : List ℕ
big_layout =
    codes "layout 1 5 9\n"
    ++ codes "patch 0 10 h\n" ++ codes "patch 1 12 h\n" ++ codes "patch 2 14 h\n" ++ codes "patch 3 16 h\n"
    ++ codes "patch 4 28 h\n" ++ codes "patch 5 30 h\n" ++ codes "patch 6 32 h\n" ++ codes "patch 7 34 h\n"
    ++ codes "port 0 0 h 2\n" ++ codes "port 1 8 h 2\n" ++ codes "port 2 36 h 2\n" ++ codes "port 3 44 h 2\n"
