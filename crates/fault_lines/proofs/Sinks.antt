-- What a sink took of one text and then of another.
use Rattle.std.proofs.Common.{ℕ, ◌+◌, List, ◌++◌, length, take, Option, Some, None, sym, ◌∙◌, ap, subst, arith, length-append, append_assoc}
use Rattle.std.proofs.lemmas.List.{take-append-le}
use Rattle.std.proofs.Math.Seq.{take-append-add}
use Rattle.patch_base.specs.Outside.{Grew, AppendsPrefix}

-- one text, and then another
pub grew_on : (a b c : Option (List ℕ)) (x y : List ℕ) → Grew a b x → Grew b c y → Grew a c (x ++ y)
grew_on None b c x y g h = subst (λ (o : Option (List ℕ)). Grew o c y) g h
grew_on (Some text) b c x y g h = subst (λ (o : Option (List ℕ)). Grew o c y) g h ∙ ap Some (append_assoc text x y)

-- a first part of one text is one of that text and another behind it
pub part_longer : (a b : Option (List ℕ)) (x y : List ℕ) → AppendsPrefix a b x → AppendsPrefix a b (x ++ y)
part_longer a b x y (n, (few, grew)) =
    (n, (omega (arith, length-append x y), let P : List ℕ → Type 0 = λ t. Grew a b t in subst P (sym (take-append-le n x y few)) grew))

-- one text whole, and then a first part of another
pub part_on : (a b c : Option (List ℕ)) (x y : List ℕ) → Grew a b x → AppendsPrefix b c y → AppendsPrefix a c (x ++ y)
part_on a b c x y whole (n, (few, grew)) =
    let P : List ℕ → Type 0 = λ t. Grew a c t in
    (length x + n, (omega (arith, length-append x y), subst P (sym (take-append-add x y n)) (grew_on a b c x (take n y) whole grew)))
