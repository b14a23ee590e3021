-- What several writes append, and what several reads give.
use Rattle.std.proofs.Common.{◌≡◌, ℕ, ◌+◌, ◌≤◌, List, ◌++◌, length, take, drop, refl, arith, ap, ◌∙◌, Option, Some, None, IfSome}
use mathlib.Core.List.{append_assoc}
use Rattle.std.proofs.lemmas.Grind.{common_steps}
use Rattle.std.proofs.lemmas.List.{take-append-drop}
use Rattle.std.proofs.Math.Seq.{take-append-add}
use Rattle.patch_base.specs.Outside.{Grew, Gives, GivesFrom}

pub take_add : (w n : ℕ) (bytes : List ℕ) → w ≤ length bytes → take (w + n) bytes ≡ take w bytes ++ take n (drop w bytes)
take_add w n bytes within =
    let whole = take-append-add (take w bytes) (drop w bytes) n in
    let len : length (take w bytes) ≡ w = grind (arith, common_steps) in
    rw (take-append-drop w bytes, len) at whole

-- a piece, and then the next bytes
pub Grew-more : (a b c : Option (List ℕ)) (bytes : List ℕ) (w n : ℕ) → w ≤ length bytes → Grew a b (take w bytes) → Grew b c (take n (drop w bytes)) → Grew a c (take (w + n) bytes)
Grew-more None None c bytes w n within first next = next
Grew-more None (Some t) c bytes w n within first next = absurd (cc)
Grew-more (Some text) None c bytes w n within first next = absurd (cc)
Grew-more (Some text) (Some t) c bytes w n within first next =
    let t_is : t ≡ text ++ take w bytes = cc in
    next ∙ ap Some (rw (take_add w n bytes within, t_is) (simp append_assoc))

-- the bytes read so far, and those of one more call
pub reads_more : (told now : Option (List ℕ)) (text into : List ℕ) (at n : ℕ) → now ≡ told → at ≡ length text
    → IfSome told (λ bytes. (text ≡ take (length text) bytes) × (length text ≤ length bytes))
    → Gives now at n into
    → IfSome told (λ bytes. (text ++ take n into ≡ take (length (text ++ take n into)) bytes) × (length (text ++ take n into) ≤ length bytes))
reads_more None now text into at n same e so_far given = tt
reads_more (Some bytes) now text into at n same e so_far given =
    let more : (n ≤ length into) × GivesFrom bytes at n into = rw same at given in
    let len : length (text ++ take n into) ≡ length text + n = grind (arith, common_steps, more.0) in
    let enough : length text + n ≤ length bytes = omega (arith, more.1.enough, so_far.1) in
    let next : take n into ≡ take n (drop (length text) bytes) = rw e at more.1.bytes in
    let joined : text ++ take n into ≡ take (length text + n) bytes = rw (take_add (length text) n bytes so_far.1, next, ← so_far.0) refl in
    (rw len joined, rw len enough)
