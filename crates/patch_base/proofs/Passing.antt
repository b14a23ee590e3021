-- Bytes that went through a pen in turn.
use Rattle.std.proofs.Common.{◌≡◌, ℕ, ◌≤◌, List, [], ◌++◌, length, take, drop, refl, sym, ap, subst, arith, append_assoc, length-append}
use Rattle.std.specs.Prelude.{Option, Some, None, Result, Ok, Err, OnErr, OnOk}
use Rattle.std.proofs.lemmas.List.{append-nil, take-append-drop}
use Rattle.std.proofs.lemmas.Grind.{common_steps}
use Rattle.patch_base.specs.Outside.{Grew, AppendsPrefix}
use Rattle.patch_base.specs.Passes.{Passes}

pub grew_on : (a b c : Option (List ℕ)) (x y : List ℕ) → Grew a b x → Grew b c y → Grew a c (x ++ y)
grew_on None b c x y e f = let P : Option (List ℕ) → Type 0 = λ o. Grew o c y in subst P e f
grew_on (Some t) b c x y e f =
    let P : Option (List ℕ) → Type 0 = λ o. Grew o c y in
    let g : c ≡ Some ((t ++ x) ++ y) = subst P e f in
    cc (append_assoc t x y)

pub grew_none : (a : Option (List ℕ)) → Grew a a []
grew_none None = refl
grew_none (Some t) = ap Some (sym (append-nil t))

-- a prefix of a text went to the sink
pub began_of : (a c : Option (List ℕ)) (text p r : List ℕ) → text ≡ p ++ r → Grew a c p → AppendsPrefix a c text
began_of a c text p r e g =
    let P : List ℕ → Type 0 = λ x. Grew a c x in
    let whole : take (length p) text ≡ p = grind (arith, common_steps) in
    let short : length p ≤ length text = omega (arith, length-append p r, ap length e) in
    (length p, (short, subst P (sym whole) g))

pub passes_start : (a : Option (List ℕ)) (h : List ℕ) → Passes a a h h []
passes_start a h = record { sent = []; grew = grew_none a; whole = append-nil h }

pub passes_then : {a b c : Option (List ℕ)} {h i j x y : List ℕ} → Passes a b h i x → Passes b c i j y → Passes a c h j (x ++ y)
passes_then {a} {b} {c} {h} {i} {j} {x} {y} p q = record {
  sent = p.sent ++ q.sent;
  grew = grew_on a b c p.sent q.sent p.grew q.grew;
  whole = cc (append_assoc h x y, append_assoc p.sent i y, append_assoc p.sent q.sent j, p.whole, q.whole);
}

pub passes_put : {a b : Option (List ℕ)} {h i x : List ℕ} (j y : List ℕ) → Passes a b h i x → j ≡ i ++ y → Passes a b h j (x ++ y)
passes_put {a} {b} {h} {i} {x} j y p e = record {
  sent = p.sent;
  grew = p.grew;
  whole = cc (append_assoc h x y, append_assoc p.sent i y, p.whole, e);
}

pub began_then : {a b : Option (List ℕ)} {h i x : List ℕ} (c : Option (List ℕ)) (y : List ℕ) → Passes a b h i x → AppendsPrefix b c (i ++ y) → AppendsPrefix a c (h ++ (x ++ y))
began_then {a} {b} {h} {i} {x} c y p (n, (short, grew)) =
    let whole : h ++ (x ++ y) ≡ (p.sent ++ take n (i ++ y)) ++ drop n (i ++ y) =
    cc (append_assoc h x y, append_assoc p.sent i y, append_assoc p.sent (take n (i ++ y)) (drop n (i ++ y)), take-append-drop n (i ++ y), p.whole) in
    began_of a c (h ++ (x ++ y)) (p.sent ++ take n (i ++ y)) (drop n (i ++ y)) whole (grew_on a b c p.sent (take n (i ++ y)) p.grew grew)

pub began_more : (a c : Option (List ℕ)) (x y : List ℕ) → AppendsPrefix a c x → AppendsPrefix a c (x ++ y)
began_more a c x y (n, (short, grew)) =
    let whole : x ++ y ≡ take n x ++ (drop n x ++ y) = cc (take-append-drop n x, append_assoc (take n x) (drop n x) y) in
    began_of a c (x ++ y) (take n x) (drop n x ++ y) whole grew

-- a text that goes on after what was begun
pub began_in : (a c : Option (List ℕ)) (x y text : List ℕ) → text ≡ x ++ y → AppendsPrefix a c x → AppendsPrefix a c text
began_in a c x y text e b = let P : List ℕ → Type 0 = λ z. AppendsPrefix a c z in subst P (sym e) (began_more a c x y b)

-- nothing more was handed over
pub passes_room : {a b c : Option (List ℕ)} {h i j x : List ℕ} → Passes a b h i x → Passes b c i j [] → Passes a c h j x
passes_room {a} {b} {c} {h} {i} {j} {x} p q = let P : List ℕ → Type 0 = λ z. Passes a c h j z in subst P (append-nil x) (passes_then p q)

-- all that was held went on, and then these bytes
pub passes_on : (a b c d : Option (List ℕ)) (h i j y : List ℕ) → Passes a b h i [] → Grew b c i → j ≡ [] → Grew c d y → Passes a d h j y
passes_on a b c d h i j y p f e g = record {
  sent = (p.sent ++ i) ++ y;
  grew = grew_on a c d (p.sent ++ i) y (grew_on a b c p.sent i p.grew f) g;
  whole = cc (append-nil h, append-nil ((p.sent ++ i) ++ y), p.whole, e);
}

pub begun_on : (a b c d : Option (List ℕ)) (h i y : List ℕ) → Passes a b h i [] → Grew b c i → AppendsPrefix c d y → AppendsPrefix a d (h ++ y)
begun_on a b c d h i y p f g =
    let q : Passes a c h [] [] = passes_on a b c c h i [] [] p f refl (grew_none c) in
    began_then d y q g

-- what was begun after this is a beginning of the whole
pub began_rest : {a b : Option (List ℕ)} {h i x : List ℕ} (c : Option (List ℕ)) (y rest text : List ℕ) → Passes a b h i x → text ≡ (x ++ y) ++ rest → AppendsPrefix b c (i ++ y) → AppendsPrefix a c (h ++ text)
began_rest {a} {b} {h} {i} {x} c y rest text p e q =
    began_in a c (h ++ (x ++ y)) rest (h ++ text) (cc (append_assoc h (x ++ y) rest, e)) (began_then c y p q)

-- what is begun of what is held is begun of the whole
pub began_here : {a b : Option (List ℕ)} {h i x : List ℕ} (c : Option (List ℕ)) (rest text : List ℕ) → Passes a b h i x → text ≡ x ++ rest → AppendsPrefix b c i → AppendsPrefix a c (h ++ text)
began_here {a} {b} {h} {i} {x} c rest text p e q =
    began_rest c [] rest text p (cc (append-nil x, e)) (began_more b c i [] q)

-- what was held went on
pub grew_all : {a b : Option (List ℕ)} {h i x : List ℕ} (c : Option (List ℕ)) (text : List ℕ) → h ≡ [] → text ≡ x → Passes a b h i x → Grew b c i → Grew a c text
grew_all {a} {b} {h} {i} {x} c text e f p g =
    let P : List ℕ → Type 0 = λ z. Grew a c z in
    let whole : p.sent ++ i ≡ text = cc (p.whole, e, f) in
    subst P whole (grew_on a b c p.sent i p.grew g)

pub began_all : {a b : Option (List ℕ)} {h i x : List ℕ} (c : Option (List ℕ)) (text : List ℕ) → h ≡ [] → text ≡ x → Passes a b h i x → AppendsPrefix b c i → AppendsPrefix a c text
began_all {a} {b} {h} {i} {x} c text e f p g =
    let P : List ℕ → Type 0 = λ z. AppendsPrefix a c z in
    let whole : h ++ text ≡ text = cc e in
    subst P whole (began_here c [] text p (cc (f, append-nil x)) g)

-- a text that was handed over to a pen that held nothing
pub began_first : {a b : Option (List ℕ)} {h i x : List ℕ} (c : Option (List ℕ)) (y rest text : List ℕ) → h ≡ [] → text ≡ (x ++ y) ++ rest → Passes a b h i x → AppendsPrefix b c (i ++ y) → AppendsPrefix a c text
began_first {a} {b} {h} {i} {x} c y rest text e f p q =
    let P : List ℕ → Type 0 = λ z. AppendsPrefix a c z in
    let whole : h ++ text ≡ text = cc e in
    subst P whole (began_rest c y rest text p f q)

pub on_err : {E X : Type 0} (P : Type 0) (r : Result X E) → P → OnErr r P
on_err P (Ok x) p = tt
on_err P (Err e) p = p

pub map_ok : {E X : Type 0} {P Q : Type 0} (r : Result X E) → (P → Q) → OnOk r P → OnOk r Q
map_ok (Ok x) f p = f p
map_ok (Err e) f p = tt

pub map_err : {E X : Type 0} {P Q : Type 0} (r : Result X E) → (P → Q) → OnErr r P → OnErr r Q
map_err (Ok x) f p = tt
map_err (Err e) f p = f p
