-- Lists of messages.
use Rattle.std.proofs.Common.{◌≡◌, true, false, true≢false, List, [], ◌∷◌, ◌++◌, sym, refl, ap}
use Rattle.arrival_line.specs.declared.arrival.Arrival.{Arrival}
use Rattle.arrival_line.specs.declared.arrival.Message.{Message}
use Rattle.arrival_line.specs.declared.arrival.Message.TheVariants.{Arrived, End}
use Rattle.arrival_line.specs.Messages.{arrivals, is_open, ends_last}

pub arrivals-append : (xs ys : List Message) → arrivals (xs ++ ys) ≡ arrivals xs ++ arrivals ys
arrivals-append [] ys = refl
arrivals-append (Arrived a ∷ xs) ys = ap (λ l. a ∷ l) (arrivals-append xs ys)
arrivals-append (End ∷ xs) ys = arrivals-append xs ys

pub open-snoc : (xs : List Message) (a : Arrival) → is_open xs ≡ true → is_open (xs ++ Arrived a ∷ []) ≡ true
open-snoc [] a h = refl
open-snoc (Arrived b ∷ xs) a h = open-snoc xs a h
open-snoc (End ∷ xs) a h = absurd (true≢false (sym h))

pub closed-snoc : (xs : List Message) → is_open (xs ++ End ∷ []) ≡ false
closed-snoc [] = refl
closed-snoc (Arrived b ∷ xs) = closed-snoc xs
closed-snoc (End ∷ xs) = refl

pub ends-snoc : (xs : List Message) (m : Message) → is_open xs ≡ true → ends_last (xs ++ m ∷ []) ≡ true
ends-snoc [] (Arrived a) h = refl
ends-snoc [] End h = refl
ends-snoc (Arrived b ∷ xs) m h = ends-snoc xs m h
ends-snoc (End ∷ xs) m h = absurd (true≢false (sym h))

-- after an end message comes nothing
pub ends-rest : (got items : List Message) → ends_last (got ++ items) ≡ true → is_open got ≡ false → items ≡ []
ends-rest [] items h c = absurd (true≢false c)
ends-rest (Arrived a ∷ got) items h c = ends-rest got items h c
ends-rest (End ∷ []) [] h c = refl
ends-rest (End ∷ []) (m ∷ items) h c = absurd (true≢false (sym h))
ends-rest (End ∷ m ∷ got) items h c = absurd (true≢false (sym h))

pub ends-prefix : (got items : List Message) → ends_last (got ++ items) ≡ true → ends_last got ≡ true
ends-prefix [] items h = refl
ends-prefix (Arrived a ∷ got) items h = ends-prefix got items h
ends-prefix (End ∷ []) items h = refl
ends-prefix (End ∷ m ∷ got) items h = h
