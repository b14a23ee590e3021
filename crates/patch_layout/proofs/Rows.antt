-- The row layout: its cells, and that it is sound and open.
use Rattle.std.proofs.Common.{◌≡◌, ◌≢◌, ℕ, zero, suc, Bool, true, ◌+◌, ◌-◌, ◌*◌, ◌%◌, ◌<◌, ◌≤◌, ◌⊎◌, inl, inr, length, slice_get, replicate, Option, Some, List, [], ◌∷◌, ◌++◌, refl, sym, subst, ap, arith, min, Contains, append_assoc, length-append, lit<}
use Rattle.std.proofs.lemmas.Option.{slice_get_within}
use Rattle.std.proofs.lemmas.List.{length-replicate}
use Rattle.std.proofs.lemmas.Bool.{cases_lt}
use Rattle.std.proofs.Math.Nat.{mod-eq_of_lt, add-mod_left}
use Rattle.patch_layout.specs.declared.layout.Edge.{Edge}
use Rattle.patch_layout.specs.declared.layout.Edge.TheVariants as edge
use Rattle.patch_layout.specs.declared.layout.Site.{Site}
use Rattle.patch_layout.specs.declared.layout.Site.TheVariants as site
use Rattle.patch_layout.specs.Grid.{Grid, Sound, Open, IsAncilla, IsPatch, IsPort, Adjacent, Joins, OnPatch, OnPort, sides, sides_at, ancilla, if_ancilla, left, right, above, below}
use Rattle.patch_layout.specs.Kept.{grid_of}
use Rattle.patch_layout.specs.Row.{patch_row, row_grid, demand, IsUsed}
use Rattle.patch_layout.proofs.Places.{same_entry}
use Rattle.patch_layout.proofs.Neighbours.{is_left, is_above}
use Rattle.patch_layout.proofs.Fits.{joins_on, joins_back}

-- the front and the back of two lists
pub get_front : {X : Type 0} (xs ys : List X) (k : ℕ) → k < length xs → slice_get (xs ++ ys) k ≡ slice_get xs k
get_front [] ys k b = absurd (omega arith)
get_front (x ∷ xs) ys zero b = refl
get_front (x ∷ xs) ys (suc k) b = get_front xs ys k (omega arith)

pub get_back : {X : Type 0} (xs ys : List X) (k : ℕ) → slice_get (xs ++ ys) (length xs + k) ≡ slice_get ys k
get_back [] ys k = ap (λ (n : ℕ). slice_get ys n) (let e : 0 + k ≡ k = omega arith in e)
get_back (x ∷ xs) ys k =
    let e : suc (length xs) + k ≡ suc (length xs + k) = omega arith in
    let P : ℕ → Type 0 = λ n. slice_get (x ∷ (xs ++ ys)) n ≡ slice_get ys k in
    subst P (sym e) (get_back xs ys k)

pub get_replicate : {X : Type 0} (x : X) (n k : ℕ) → k < n → slice_get (replicate n x) k ≡ Some x
get_replicate x zero k b = absurd (omega arith)
get_replicate x (suc n) zero b = refl
get_replicate x (suc n) (suc k) b = get_replicate x n k (omega arith)

-- a list two entries down
down_two : {X : Type 0} (x y : X) (xs : List X) (k n : ℕ) → n ≡ k + 2 → slice_get (x ∷ y ∷ xs) n ≡ slice_get xs k
down_two x y xs k n e =
    let P : ℕ → Type 0 = λ m. slice_get (x ∷ y ∷ xs) m ≡ slice_get xs k in
    let f : n ≡ suc (suc k) = omega arith in subst P (sym f) refl

pub row_length : (q n : ℕ) → length (patch_row q n) ≡ 2 * n + 2
row_length q zero = refl
row_length q (suc n) = omega (arith, row_length (q + 1) n)

pub row_ancilla : (q n j : ℕ) → j ≤ n → slice_get (patch_row q n) (2 * j) ≡ Some site.Ancilla
row_ancilla q zero zero b = refl
row_ancilla q zero (suc j) b = absurd (omega arith)
row_ancilla q (suc n) zero b = refl
row_ancilla q (suc n) (suc j) b =
    let e : slice_get (patch_row q (suc n)) (2 * suc j) ≡ slice_get (patch_row (q + 1) n) (2 * j) = down_two site.Ancilla (site.Patch q true) (patch_row (q + 1) n) (2 * j) (2 * suc j) (omega arith) in
    let ih = row_ancilla (q + 1) n j (omega arith) in cc

pub row_patch : (q n j : ℕ) → j < n → slice_get (patch_row q n) (2 * j + 1) ≡ Some (site.Patch (q + j) true)
row_patch q zero j b = absurd (omega arith)
row_patch q (suc n) zero b = let e : q + 0 ≡ q = omega arith in ap (λ (x : ℕ). Some (site.Patch x true)) (sym e)
row_patch q (suc n) (suc j) b =
    let e : slice_get (patch_row q (suc n)) (2 * suc j + 1) ≡ slice_get (patch_row (q + 1) n) (2 * j + 1) = down_two site.Ancilla (site.Patch q true) (patch_row (q + 1) n) (2 * j + 1) (2 * suc j + 1) (omega arith) in
    let ih = row_patch (q + 1) n j (omega arith) in
    let f : q + 1 + j ≡ q + suc j = omega arith in
    let P : ℕ → Type 0 = λ x. slice_get (patch_row q (suc n)) (2 * suc j + 1) ≡ Some (site.Patch x true) in
    subst P f (cc)

pub row_port : (q n : ℕ) → slice_get (patch_row q n) (2 * n + 1) ≡ Some (site.Port 0 true 1)
row_port q zero = refl
row_port q (suc n) =
    let e : slice_get (patch_row q (suc n)) (2 * suc n + 1) ≡ slice_get (patch_row (q + 1) n) (2 * n + 1) = down_two site.Ancilla (site.Patch q true) (patch_row (q + 1) n) (2 * n + 1) (2 * suc n + 1) (omega arith) in
    let ih = row_port (q + 1) n in cc

-- a cell of the lower row is one of three kinds
pub record InRow (q n k : ℕ) : Type 0 where
  pub half : ℕ
  pub kind : ((k ≡ 2 * half) × (half ≤ n)) ⊎ (((k ≡ 2 * half + 1) × (half < n)) ⊎ ((k ≡ 2 * half + 1) × (half ≡ n)))

pub in_row : (q n k : ℕ) → k < 2 * n + 2 → InRow q n k
in_row q zero zero b = record { half = 0; kind = inl (refl, omega arith) }
in_row q zero (suc zero) b = record { half = 0; kind = inr (inr (refl, refl)) }
in_row q zero (suc (suc k)) b = absurd (omega arith)
in_row q (suc n) zero b = record { half = 0; kind = inl (refl, omega arith) }
in_row q (suc n) (suc zero) b = record { half = 0; kind = inr (inl (refl, omega arith)) }
in_row q (suc n) (suc (suc k)) b =
    let r = in_row (q + 1) n k (omega arith) in
    record {
      half = r.half + 1;
      kind = elim r.kind [
        | inl w ↦ inl (omega (arith, w.0), omega (arith, w.1))
        | inr (inl w) ↦ inr (inl (omega (arith, w.0), omega (arith, w.1)))
        | inr (inr w) ↦ inr (inr (omega (arith, w.0), omega (arith, w.1)))
      ];
    }

-- the cells of the grid

pub grid_length : (n : ℕ) → length (row_grid n).sites ≡ 2 * (2 * n + 2)
grid_length n = omega (arith, length-append (replicate (2 * n + 2) site.Ancilla) (patch_row 0 n), length-replicate (2 * n + 2) site.Ancilla, row_length 0 n)

pub upper : (n k : ℕ) → k < 2 * n + 2 → IsAncilla (row_grid n) k
upper n k b =
    let l : length (replicate (2 * n + 2) site.Ancilla) ≡ 2 * n + 2 = length-replicate (2 * n + 2) site.Ancilla in
    let e = get_front (replicate (2 * n + 2) site.Ancilla) (patch_row 0 n) k (omega arith) in
    let f = get_replicate site.Ancilla (2 * n + 2) k b in cc

pub lower : (n k : ℕ) → slice_get (row_grid n).sites (2 * n + 2 + k) ≡ slice_get (patch_row 0 n) k
lower n k =
    let l : length (replicate (2 * n + 2) site.Ancilla) ≡ 2 * n + 2 = length-replicate (2 * n + 2) site.Ancilla in
    let P : ℕ → Type 0 = λ m. slice_get (row_grid n).sites (m + k) ≡ slice_get (patch_row 0 n) k in
    subst P l (get_back (replicate (2 * n + 2) site.Ancilla) (patch_row 0 n) k)

pub patch_is : (n q : ℕ) → q < n → slice_get (row_grid n).sites (2 * n + 2 + (2 * q + 1)) ≡ Some (site.Patch q true)
patch_is n q b =
    let e = lower n (2 * q + 1) in
    let f = row_patch 0 n q b in
    let z : 0 + q ≡ q = omega arith in
    let P : ℕ → Type 0 = λ x. slice_get (row_grid n).sites (2 * n + 2 + (2 * q + 1)) ≡ Some (site.Patch x true) in
    subst P z (cc)

pub patch_cell : (n q : ℕ) → q < n → IsPatch (row_grid n) q (2 * n + 2 + (2 * q + 1))
patch_cell n q b = (true, patch_is n q b)

pub port_is : (n : ℕ) → slice_get (row_grid n).sites (2 * n + 2 + (2 * n + 1)) ≡ Some (site.Port 0 true 1)
port_is n = let e = lower n (2 * n + 1) in let f = row_port 0 n in cc

pub port_cell : (n : ℕ) → IsPort (row_grid n) 0 (2 * n + 2 + (2 * n + 1))
port_cell n = (true, 1, port_is n)

-- what a cell of the grid is
pub record CellKind (n c : ℕ) (s : Site) : Type 0 where
  pub half : ℕ
  pub kind : (s ≡ site.Ancilla) ⊎ (((half < n) × (c ≡ 2 * n + 2 + (2 * half + 1)) × (s ≡ site.Patch half true)) ⊎ ((c ≡ 2 * n + 2 + (2 * n + 1)) × (s ≡ site.Port 0 true 1)))

lower_kind : (n c : ℕ) (s : Site) → slice_get (row_grid n).sites c ≡ Some s → 2 * n + 2 ≤ c → CellKind n c s
lower_kind n c s is ge =
    let within : c < length (row_grid n).sites = slice_get_within (row_grid n).sites c s is in
    let r = in_row 0 n (c - (2 * n + 2)) (omega (arith, grid_length n)) in
    let h = r.half in
    elim r.kind [
      | inl w ↦
          let e : 2 * n + 2 + 2 * h ≡ c = omega (arith, w.0) in
          let a : slice_get (row_grid n).sites c ≡ Some site.Ancilla = subst (λ (x : ℕ). slice_get (row_grid n).sites x ≡ Some site.Ancilla) e (let p = lower n (2 * h) in let q = row_ancilla 0 n h w.1 in cc) in
          record { half = h; kind = inl (same_entry (row_grid n).sites c s site.Ancilla is a) }
      | inr (inl w) ↦
          let e : 2 * n + 2 + (2 * h + 1) ≡ c = omega (arith, w.0) in
          let a : slice_get (row_grid n).sites c ≡ Some (site.Patch h true) = subst (λ (x : ℕ). slice_get (row_grid n).sites x ≡ Some (site.Patch h true)) e (patch_is n h w.1) in
          record { half = h; kind = inr (inl (w.1, sym e, same_entry (row_grid n).sites c s (site.Patch h true) is a)) }
      | inr (inr w) ↦
          let e : 2 * n + 2 + (2 * n + 1) ≡ c = omega (arith, w.0, w.1) in
          let a : slice_get (row_grid n).sites c ≡ Some (site.Port 0 true 1) = subst (λ (x : ℕ). slice_get (row_grid n).sites x ≡ Some (site.Port 0 true 1)) e (port_is n) in
          record { half = h; kind = inr (inr (sym e, same_entry (row_grid n).sites c s (site.Port 0 true 1) is a)) }
    ]

pub cell_kind : (n c : ℕ) (s : Site) → slice_get (row_grid n).sites c ≡ Some s → CellKind n c s
cell_kind n c s is = elim (cases_lt c (2 * n + 2)) [
  | inl lt ↦ record { half = 0; kind = inl (same_entry (row_grid n).sites c s site.Ancilla is (upper n c lt)) }
  | inr ge ↦ lower_kind n c s is ge
]

pub patch_place : (n q c : ℕ) → IsPatch (row_grid n) q c → (q < n) × (c ≡ 2 * n + 2 + (2 * q + 1))
patch_place n q c (level, is) =
    let r = cell_kind n c (site.Patch q level) is in
    elim r.kind [
      | inl e ↦ absurd (cc)
      | inr (inl w) ↦ let e : site.Patch q level ≡ site.Patch r.half true = w.2 in let f : q ≡ r.half = cc in (omega (arith, w.0), omega (arith, w.1))
      | inr (inr w) ↦ let e : site.Patch q level ≡ site.Port 0 true 1 = w.1 in absurd (cc)
    ]

pub port_place : (n f c : ℕ) → IsPort (row_grid n) f c → (f ≡ 0) × (c ≡ 2 * n + 2 + (2 * n + 1))
port_place n f c (level, store, is) =
    let r = cell_kind n c (site.Port f level store) is in
    elim r.kind [
      | inl e ↦ absurd (cc)
      | inr (inl w) ↦ let e : site.Port f level store ≡ site.Patch r.half true = w.2 in absurd (cc)
      | inr (inr w) ↦ let e : site.Port f level store ≡ site.Port 0 true 1 = w.1 in (cc, w.0)
    ]

port_store : (n f c : ℕ) (level : Bool) (store : ℕ) → slice_get (row_grid n).sites c ≡ Some (site.Port f level store) → store ≡ 1
port_store n f c level store is =
    let r = cell_kind n c (site.Port f level store) is in
    elim r.kind [
      | inl e ↦ absurd (cc)
      | inr (inl w) ↦ let e : site.Port f level store ≡ site.Patch r.half true = w.2 in absurd (cc)
      | inr (inr w) ↦ let e : site.Port f level store ≡ site.Port 0 true 1 = w.1 in cc
    ]

pub row_sound : (n : ℕ) → n ≤ 64 → Sound (row_grid n)
row_sound n few = record {
  cells = grid_length n;
  some = omega (arith, grid_length n);
  few = omega (arith, grid_length n);
  rows = omega arith;
  columns = omega arith;
  one_patch = λ q c d p r. omega (arith, (patch_place n q c p).1, (patch_place n q d r).1);
  one_port = λ f c d p r. omega (arith, (port_place n f c p).1, (port_place n f d r).1);
  patches = λ q c p. omega (arith, (patch_place n q c p).0);
  stores = λ f store (c, level, is). (omega (arith, (port_place n f c (level, store, is)).0), omega (arith, port_store n f c level store is), omega (arith, port_store n f c level store is));
}

-- each ancilla cell is joined to cell 0

pub top_joined : (n k : ℕ) → k < 2 * n + 2 → Joins (row_grid n) (IsAncilla (row_grid n)) k 0
top_joined n zero b = ([], upper n 0 b, refl)
top_joined n (suc k) b =
    let g = row_grid n in
    let m : (k + 1) % (2 * n + 2) ≡ k + 1 = mod-eq_of_lt (let w : k + 1 < 2 * n + 2 = omega arith in w) in
    let l : left g (k + 1) ≡ Some k = is_left g k (omega arith) in
    let e : k + 1 ≡ suc k = omega arith in
    let P : ℕ → Type 0 = λ x. left g x ≡ Some k in
    let adj : Adjacent g (suc k) k = (1, lit< tt, subst P e l) in
    joins_on g (IsAncilla g) (suc k) k 0 (k ∷ [], upper n (suc k) b, (adj, upper n k (omega arith), refl)) (top_joined n k (omega arith))

above_of : (n c : ℕ) → 2 * n + 2 ≤ c → c < length (row_grid n).sites → (d : ℕ) × (d < 2 * n + 2) × (above (row_grid n) c ≡ Some d)
above_of n c ge within =
    let g = row_grid n in
    let d = c - (2 * n + 2) in
    let e : d + (2 * n + 2) ≡ c = omega arith in
    let P : ℕ → Type 0 = λ x. above g x ≡ Some d in
    (d, omega (arith, grid_length n), subst P e (is_above g d))

pub joined_to_first : (n c : ℕ) → IsAncilla (row_grid n) c → Joins (row_grid n) (IsAncilla (row_grid n)) c 0
joined_to_first n c is = elim (cases_lt c (2 * n + 2)) [
  | inl lt ↦ top_joined n c lt
  | inr ge ↦
      let g = row_grid n in
      let (d, lt, up) = above_of n c ge (slice_get_within g.sites c site.Ancilla is) in
      let adj : Adjacent g c d = (0, lit< tt, up) in
      joins_on g (IsAncilla g) c d 0 (d ∷ [], is, (adj, upper n d lt, refl)) (top_joined n d lt)
]

pub row_joined : (n a b : ℕ) → IsAncilla (row_grid n) a → IsAncilla (row_grid n) b → Joins (row_grid n) (IsAncilla (row_grid n)) a b
row_joined n a b ia ib =
    let g = row_grid n in
    joins_on g (IsAncilla g) a 0 b (joined_to_first n a ia) (joins_back g (IsAncilla g) (λ x p. slice_get_within g.sites x site.Ancilla p) b 0 (joined_to_first n b ib))

-- the sides of the patches and of the port

pub ancilla_at : (g : Grid) (o : Option ℕ) (d : ℕ) → o ≡ Some d → IsAncilla g d → ancilla g o ≡ Some d
ancilla_at g o d e is =
    let P : Option ℕ → Type 0 = λ x. ancilla g x ≡ Some d in
    let Q : Option Site → Type 0 = λ x. if_ancilla x d ≡ Some d in
    subst P (sym e) (subst Q (sym is) refl)

-- an ancilla cell to the left, or above
pub left_side : (g : Grid) (c d : ℕ) (s : Site) (e : Edge) → slice_get g.sites c ≡ Some s → left g c ≡ Some d → IsAncilla g d
    → sides_at g c e (Some s) ≡ ancilla g (left g c) ∷ ancilla g (right g c) ∷ [] → Contains (sides g c e) (Some d)
left_side g c d s e is l anc at' =
    let P : List (Option ℕ) → Type 0 = λ x. Contains x (Some d) in
    let Q : Option Site → Type 0 = λ x. Contains (sides_at g c e x) (Some d) in
    subst Q (sym is) (subst P (sym at') (0, lit< tt, ancilla_at g (left g c) d l anc))

pub above_side : (g : Grid) (c d : ℕ) (s : Site) (e : Edge) → slice_get g.sites c ≡ Some s → above g c ≡ Some d → IsAncilla g d
    → sides_at g c e (Some s) ≡ ancilla g (above g c) ∷ ancilla g (below g c) ∷ [] → Contains (sides g c e) (Some d)
above_side g c d s e is l anc at' =
    let P : List (Option ℕ) → Type 0 = λ x. Contains x (Some d) in
    let Q : Option Site → Type 0 = λ x. Contains (sides_at g c e x) (Some d) in
    subst Q (sym is) (subst P (sym at') (0, lit< tt, ancilla_at g (above g c) d l anc))

left_of : (n k : ℕ) → k + 1 < 2 * n + 2 → left (row_grid n) (2 * n + 2 + (k + 1)) ≡ Some (2 * n + 2 + k)
left_of n k b =
    let g = row_grid n in
    let m : (2 * n + 2 + (k + 1)) % (2 * n + 2) ≡ (k + 1) % (2 * n + 2) = add-mod_left (2 * n + 2) (k + 1) in
    let p : (k + 1) % (2 * n + 2) ≡ k + 1 = mod-eq_of_lt b in
    let e : 2 * n + 2 + k + 1 ≡ 2 * n + 2 + (k + 1) = omega arith in
    let P : ℕ → Type 0 = λ x. x % (2 * n + 2) ≢ 0 in
    let Q : ℕ → Type 0 = λ x. left g x ≡ Some (2 * n + 2 + k) in
    subst Q e (is_left g (2 * n + 2 + k) (subst P (sym e) (let w : (2 * n + 2 + (k + 1)) % (2 * n + 2) ≢ 0 = omega arith in w)))

pub patch_side : (n q : ℕ) (e : Edge) → q < n → (d : ℕ) × OnPatch (row_grid n) q e d
patch_side n q edge.X b =
    let g = row_grid n in
    let p = patch_cell n q b in
    let l = left_of n (2 * q) (omega arith) in
    let anc : IsAncilla g (2 * n + 2 + 2 * q) = (let u = lower n (2 * q) in let v = row_ancilla 0 n q (omega arith) in cc) in
    (2 * n + 2 + 2 * q, (2 * n + 2 + (2 * q + 1), p, left_side g (2 * n + 2 + (2 * q + 1)) (2 * n + 2 + 2 * q) (site.Patch q true) edge.X (patch_is n q b) l anc refl))
patch_side n q edge.Z b =
    let g = row_grid n in
    let p = patch_cell n q b in
    let (d, lt, up) = above_of n (2 * n + 2 + (2 * q + 1)) (omega arith) (omega (arith, grid_length n)) in
    (d, (2 * n + 2 + (2 * q + 1), p, above_side g (2 * n + 2 + (2 * q + 1)) d (site.Patch q true) edge.Z (patch_is n q b) up (upper n d lt) refl))

pub port_side : (n : ℕ) → (d : ℕ) × OnPort (row_grid n) 0 d
port_side n =
    let g = row_grid n in
    let (d, lt, up) = above_of n (2 * n + 2 + (2 * n + 1)) (omega arith) (omega (arith, grid_length n)) in
    (d, (2 * n + 2 + (2 * n + 1), port_cell n, above_side g (2 * n + 2 + (2 * n + 1)) d (site.Port 0 true 1) edge.Z (port_is n) up (upper n d lt) refl))

-- open for all qubits that have a patch
pub row_open : (n : ℕ) (used : List Bool) (rotations : Bool) → ((q : ℕ) → IsUsed used q → q < n) → Open (row_grid n) (demand used rotations)
row_open n used rotations within = record {
  joined = row_joined n;
  sides = λ q e is. patch_side n q e (within q is);
  ports = λ c f port. let P : ℕ → Type 0 = λ x. (d : ℕ) × OnPort (row_grid n) x d in subst P (sym (port_place n f c port).0) (port_side n);
  port = λ _. (2 * n + 2 + (2 * n + 1), 0, port_cell n);
}

-- where no qubit from 64 on is used, each used one has a patch
pub all_patched : (used : List Bool) (qubits : ℕ) → length used ≡ qubits → ((q : ℕ) → 64 ≤ q → IsUsed used q → ⊥) → (q : ℕ) → IsUsed used q → q < min qubits 64
all_patched used qubits size none q is =
    elim (cases_lt q 64) [
      | inl lt ↦ let w : q < length used = slice_get_within used q true is in omega arith
      | inr ge ↦ absurd (none q ge is)
    ]

-- one more qubit's cells
pub row_more : (all start once twice : List Site) (q n : ℕ) → ((m : ℕ) → q + m ≡ n → start ++ patch_row q m ≡ all) → once ≡ start ++ site.Ancilla ∷ [] → twice ≡ once ++ site.Patch q true ∷ []
    → (m : ℕ) → q + 1 + m ≡ n → twice ++ patch_row (q + 1) m ≡ all
row_more all start once twice q n inv e f m size =
    let h = inv (suc m) (omega arith) in
    rw (f, append_assoc, e, append_assoc) h

-- the last two cells
pub row_done : (all start once twice : List Site) (q n : ℕ) → ((m : ℕ) → q + m ≡ n → start ++ patch_row q m ≡ all) → once ≡ start ++ site.Ancilla ∷ [] → twice ≡ once ++ site.Port 0 true 1 ∷ []
    → q ≡ n → twice ≡ all
row_done all start once twice q n inv e f size =
    let h = inv 0 (omega arith) in
    rw (f, e, append_assoc) h

-- of sites that are those of the row layout
pub sound_sites : (n : ℕ) (sites : List Site) → n ≤ 64 → sites ≡ (row_grid n).sites → Sound (grid_of 2 (2 * n + 2) sites)
sound_sites n sites few e = let P : List Site → Type 0 = λ ss. Sound (grid_of 2 (2 * n + 2) ss) in subst P (sym e) (row_sound n few)

pub row_made : (n : ℕ) (sites : List Site) (g : Grid) → sites ≡ (row_grid n).sites → g ≡ grid_of 2 (2 * n + 2) sites → g ≡ row_grid n
row_made n sites g e f = let P : List Site → Type 0 = λ ss. g ≡ grid_of 2 (2 * n + 2) ss in subst P e f

pub made_open : (qubits n : ℕ) (used : List Bool) (rotations : Bool) (g : Grid) → g ≡ row_grid n → n ≡ min qubits 64 → length used ≡ qubits → ((q : ℕ) → 64 ≤ q → IsUsed used q → ⊥)
    → Open g (demand used rotations)
made_open qubits n used rotations g e f size none =
    let P : Grid → Type 0 = λ x. Open x (demand used rotations) in
    subst P (sym e) (row_open n used rotations (λ q is. let w = all_patched used qubits size none q is in omega arith))
