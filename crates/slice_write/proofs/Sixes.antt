-- Texts at the right of six columns.
use Rattle.std.proofs.Common.{◌≡◌, ℕ, zero, suc, ◌-◌, ◌≤◌, List, [], ◌∷◌, ◌++◌, length, take, drop, refl, ap, arith, append-nil}
use Rattle.std.specs.Prelude.{replicate}
use borrow.Rule.Slice.PartMut.{put_mid}

abbrev pub six : List ℕ
six = 32 ∷ 32 ∷ 32 ∷ 32 ∷ 32 ∷ 32 ∷ []

pub six_room : (m : ℕ) → m ≤ 6 → length (take (6 - (6 - m)) (drop (6 - m) six)) ≡ m
six_room zero few = refl
six_room (suc zero) few = refl
six_room (suc (suc zero)) few = refl
six_room (suc (suc (suc zero))) few = refl
six_room (suc (suc (suc (suc zero)))) few = refl
six_room (suc (suc (suc (suc (suc zero))))) few = refl
six_room (suc (suc (suc (suc (suc (suc zero)))))) few = refl
six_room (suc (suc (suc (suc (suc (suc (suc m))))))) few = absurd (omega arith)

pub six_pad : (m : ℕ) (ds : List ℕ) → m ≤ 6 → put_mid (6 - m) (6 - (6 - m)) six ds ≡ replicate (6 - m) 32 ++ ds
six_pad zero ds few = ap (λ l. six ++ l) (append-nil ds)
six_pad (suc zero) ds few = ap (λ l. take 5 six ++ l) (append-nil ds)
six_pad (suc (suc zero)) ds few = ap (λ l. take 4 six ++ l) (append-nil ds)
six_pad (suc (suc (suc zero))) ds few = ap (λ l. take 3 six ++ l) (append-nil ds)
six_pad (suc (suc (suc (suc zero)))) ds few = ap (λ l. take 2 six ++ l) (append-nil ds)
six_pad (suc (suc (suc (suc (suc zero))))) ds few = ap (λ l. take 1 six ++ l) (append-nil ds)
six_pad (suc (suc (suc (suc (suc (suc zero)))))) ds few = append-nil ds
six_pad (suc (suc (suc (suc (suc (suc (suc m))))))) ds few = absurd (omega arith)
