-- Words taken off a line one by one.
use Rattle.std.proofs.Common.{◌≡◌, ℕ, Bool, ◌<◌, ◌≤◌, ◌^◌, Option, Some, None, IfSome, IfNone, List, [], ◌∷◌, arith, decimal, codes, sym, ap, get_or}
use Rattle.std.proofs.lemmas.Fmt.{decimal_injective}
use Rattle.patch_layout.specs.declared.line.Line.{Line}
use Rattle.patch_layout.specs.declared.line.Line.TheVariants as line
use Rattle.patch_base.specs.Texts.{words}
use Rattle.patch_layout.specs.LayoutText.{side_word, words_of, InRange, Spells, Header}
use Rattle.patch_layout.specs.inside.Reading.{PatchAfter, PortAfter, WallAfter}

abbrev pub NoNumber : List (List ℕ) → Type 0
NoNumber ws = (v : ℕ) (rest : List (List ℕ)) → v < 2 ^ 32 → ws ≡ decimal v ∷ rest → ⊥

pub patch_high : (old w1 : List (List ℕ)) (q : ℕ) → old ≡ decimal q ∷ w1 → q < 2 ^ 32 → 1024 ≤ q → (l : Line) → PatchAfter old l → ⊥
patch_high old w1 q e lt high (line.Patch q' c level) (f, r) =
    let same : decimal q ≡ decimal q' = cc in
    let h : q ≡ q' = decimal_injective q q' (omega arith) (omega (arith, r.0)) same in omega (arith, r.0)
patch_high old w1 q e lt high (line.Port f c level s) p = p
patch_high old w1 q e lt high (line.Wall c) p = p

pub port_fourth : (old w1 w2 w3 : List (List ℕ)) (f c : ℕ) (level : Bool) → old ≡ decimal f ∷ w1 → w1 ≡ decimal c ∷ w2 → w2 ≡ side_word level ∷ w3 → NoNumber w3 → (l : Line) → PortAfter old l → ⊥
port_fourth old w1 w2 w3 f c level e h k none (line.Patch q c' level') p = p
port_fourth old w1 w2 w3 f c level e h k none (line.Port f' c' level' s) (g, r) = none s [] (omega (arith, r.3)) (cc)
port_fourth old w1 w2 w3 f c level e h k none (line.Wall c') p = p

-- the store of the port that the words are
pub port_numbers : (old w1 w2 w3 w4 : List (List ℕ)) (f c s : ℕ) (level : Bool) → old ≡ decimal f ∷ w1 → w1 ≡ decimal c ∷ w2 → w2 ≡ side_word level ∷ w3 → w3 ≡ decimal s ∷ w4 → f < 2 ^ 32 → s < 2 ^ 32
    → (l : Line) → PortAfter old l → (f < 16) × (1 ≤ s) × (s ≤ 16) × (w4 ≡ [])
port_numbers old w1 w2 w3 w4 f c s level e h k m flt slt (line.Patch q c' level') p = absurd p
port_numbers old w1 w2 w3 w4 f c s level e h k m flt slt (line.Port f' c' level' s') (g, r) =
    let same : decimal f ≡ decimal f' = cc in
    let store : decimal s ≡ decimal s' = cc in
    let a : f ≡ f' = decimal_injective f f' (omega arith) (omega (arith, r.0)) same in
    let b : s ≡ s' = decimal_injective s s' (omega arith) (omega (arith, r.3)) store in
    (omega (arith, r.0), omega (arith, r.2), omega (arith, r.3), cc)
port_numbers old w1 w2 w3 w4 f c s level e h k m flt slt (line.Wall c') p = absurd p

-- the first words differ
pub differ : (a b : List ℕ) (k : ℕ) → (get_or a k 0 ≡ get_or b k 0 → ⊥) → a ≡ b → ⊥
differ a b k other e = other (ap (λ (xs : List ℕ). get_or xs k 0) e)

pub patch_port : codes "patch" ≡ codes "port" → ⊥
patch_port = differ (codes "patch") (codes "port") 1 (λ e. omega arith)

pub patch_wall : codes "patch" ≡ codes "wall" → ⊥
patch_wall = differ (codes "patch") (codes "wall") 0 (λ e. omega arith)

pub port_wall : codes "port" ≡ codes "wall" → ⊥
port_wall = differ (codes "port") (codes "wall") 0 (λ e. omega arith)

-- a line by its first word
patch_only : (ws rest : List (List ℕ)) (l : Line) → ws ≡ codes "patch" ∷ rest → (PatchAfter rest l → ⊥) → (ws ≡ words_of l) × InRange l → ⊥
patch_only ws rest (line.Patch q c level) e none (is, r) = none (cc, r)
patch_only ws rest (line.Port f c level s) e none (is, r) = let w : codes "patch" ≡ codes "port" = cc in absurd (patch_port w)
patch_only ws rest (line.Wall c) e none (is, r) = let w : codes "patch" ≡ codes "wall" = cc in absurd (patch_wall w)

port_only : (ws rest : List (List ℕ)) (l : Line) → ws ≡ codes "port" ∷ rest → (PortAfter rest l → ⊥) → (ws ≡ words_of l) × InRange l → ⊥
port_only ws rest (line.Patch q c level) e none (is, r) = let w : codes "port" ≡ codes "patch" = cc in absurd (patch_port (sym w))
port_only ws rest (line.Port f c level s) e none (is, r) = none (cc, r)
port_only ws rest (line.Wall c) e none (is, r) = let w : codes "port" ≡ codes "wall" = cc in absurd (port_wall w)

wall_only : (ws rest : List (List ℕ)) (l : Line) → ws ≡ codes "wall" ∷ rest → (WallAfter rest l → ⊥) → (ws ≡ words_of l) × InRange l → ⊥
wall_only ws rest (line.Patch q c level) e none (is, r) = let w : codes "wall" ≡ codes "patch" = cc in absurd (patch_wall (sym w))
wall_only ws rest (line.Port f c level s) e none (is, r) = let w : codes "wall" ≡ codes "port" = cc in absurd (port_wall (sym w))
wall_only ws rest (line.Wall c) e none (is, r) = none (cc, r)

pub first_patch : (text : List ℕ) (all rest : List (List ℕ)) (r : Option Line) → all ≡ words text → all ≡ codes "patch" ∷ rest → IfNone r ((l : Line) → PatchAfter rest l → ⊥) → IfNone r ((l : Line) → Spells text l → ⊥)
first_patch text all rest (Some l) s e none = tt
first_patch text all rest None s e none = λ l. patch_only (words text) rest l (cc) (none l)

pub first_port : (text : List ℕ) (all rest : List (List ℕ)) (r : Option Line) → all ≡ words text → all ≡ codes "port" ∷ rest → IfNone r ((l : Line) → PortAfter rest l → ⊥) → IfNone r ((l : Line) → Spells text l → ⊥)
first_port text all rest (Some l) s e none = tt
first_port text all rest None s e none = λ l. port_only (words text) rest l (cc) (none l)

pub first_wall : (text : List ℕ) (all rest : List (List ℕ)) (r : Option Line) → all ≡ words text → all ≡ codes "wall" ∷ rest → IfNone r ((l : Line) → WallAfter rest l → ⊥) → IfNone r ((l : Line) → Spells text l → ⊥)
first_wall text all rest (Some l) s e none = tt
first_wall text all rest None s e none = λ l. wall_only (words text) rest l (cc) (none l)

-- a header up to its columns
pub no_columns : (text : List ℕ) (all w1 w2 w3 : List (List ℕ)) (r : ℕ) → all ≡ words text → all ≡ codes "layout" ∷ w1 → w1 ≡ codes "1" ∷ w2 → w2 ≡ decimal r ∷ w3 → NoNumber w3
    → (rows columns : ℕ) → Header rows columns text → ⊥
no_columns text all w1 w2 w3 r s e f h none rows columns (is, lt, clt) = none columns [] clt (cc)

pub none_any : (P : Type 0) (r : Option Line) → P → IfNone r P
none_any P None p = p
none_any P (Some l) p = tt

pub none_header : (P : Type 0) (r : Option (ℕ × ℕ)) → P → IfNone r P
none_header P None p = p
none_header P (Some l) p = tt

-- a line begins with one of the three words
pub first_other : (text word : List ℕ) (all rest : List (List ℕ)) → all ≡ words text → all ≡ word ∷ rest → (word ≡ codes "patch" → ⊥) → (word ≡ codes "port" → ⊥) → (word ≡ codes "wall" → ⊥) → (l : Line) → Spells text l → ⊥
first_other text word all rest s e no-patch no-port no-wall (line.Patch q c level) (is, r) = no-patch (cc)
first_other text word all rest s e no-patch no-port no-wall (line.Port f c level t) (is, r) = no-port (cc)
first_other text word all rest s e no-patch no-port no-wall (line.Wall c) (is, r) = no-wall (cc)

first_value : (text : List ℕ) (all rest : List (List ℕ)) (word : List ℕ) → all ≡ words text → all ≡ word ∷ rest → (l : Line) → words_of l ≡ word ∷ rest → InRange l → Spells text l
first_value text all rest word s e l is r = (let h : words text ≡ words_of l = cc in h, r)

pub value_patch : (text : List ℕ) (all rest : List (List ℕ)) (r : Option Line) → all ≡ words text → all ≡ codes "patch" ∷ rest → IfSome r (PatchAfter rest) → IfSome r (Spells text)
value_patch text all rest None s e p = tt
value_patch text all rest (Some (line.Patch q c level)) s e (is, r) = first_value text all rest (codes "patch") s e (line.Patch q c level) (ap (λ (ws : List (List ℕ)). codes "patch" ∷ ws) (sym is)) r
value_patch text all rest (Some (line.Port f c level t)) s e p = absurd p
value_patch text all rest (Some (line.Wall c)) s e p = absurd p

pub value_port : (text : List ℕ) (all rest : List (List ℕ)) (r : Option Line) → all ≡ words text → all ≡ codes "port" ∷ rest → IfSome r (PortAfter rest) → IfSome r (Spells text)
value_port text all rest None s e p = tt
value_port text all rest (Some (line.Patch q c level)) s e p = absurd p
value_port text all rest (Some (line.Port f c level t)) s e (is, r) = first_value text all rest (codes "port") s e (line.Port f c level t) (ap (λ (ws : List (List ℕ)). codes "port" ∷ ws) (sym is)) r
value_port text all rest (Some (line.Wall c)) s e p = absurd p

pub value_wall : (text : List ℕ) (all rest : List (List ℕ)) (r : Option Line) → all ≡ words text → all ≡ codes "wall" ∷ rest → IfSome r (WallAfter rest) → IfSome r (Spells text)
value_wall text all rest None s e p = tt
value_wall text all rest (Some (line.Patch q c level)) s e p = absurd p
value_wall text all rest (Some (line.Port f c level t)) s e p = absurd p
value_wall text all rest (Some (line.Wall c)) s e (is, r) = first_value text all rest (codes "wall") s e (line.Wall c) (ap (λ (ws : List (List ℕ)). codes "wall" ∷ ws) (sym is)) r
