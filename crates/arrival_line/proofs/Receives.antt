-- What the deliverer's thread keeps.
use Rattle.std.proofs.Common.{◌≡◌, false, List, [], ◌∷◌, ◌++◌, Option, sym, refl, ap, ◌∙◌, append_assoc, append-nil, subst, ◌⊎◌, ⊎_elim}
use Rattle.arrival_line.specs.declared.arrival.Arrival.{Arrival}
use Rattle.source_model.specs.declared.Kind.{Kind}
use Rattle.arrival_line.specs.declared.arrival.Traffic.{Traffic}
use Rattle.arrival_line.specs.declared.arrival.Message.{Message}
use Rattle.arrival_line.specs.declared.arrival.Message.TheVariants.{Arrived, End}
use Rattle.arrival_line.specs.declared.receive.Next.{Next}
use Rattle.arrival_line.specs.declared.receive.Next.TheVariants.{Ended, Closed}
use Rattle.arrival_line.specs.inside.Came.{came, what_came, IsEnd}
use Rattle.arrival_line.specs.Line.{traffic}
use Rattle.arrival_line.specs.Messages.{arrivals, is_open}
use Rattle.arrival_line.specs.Strays.{Delivers}
use Rattle.arrival_line.proofs.Inboxes.{delivers_more}
use Rattle.arrival_line.proofs.Words.{arrivals-append, closed-snoc}

came_one : (m : Message) → arrivals (m ∷ []) ≡ came (what_came m)
came_one (Arrived a) = refl
came_one End = refl

module _ (v w : Traffic) (m : Message) (r : Next) (is : r ≡ what_came m) (after : w ≡ traffic v.sends v.receives v.sent (v.got ++ m ∷ [])) where
  pub came_all : arrivals w.got ≡ arrivals v.got ++ came r
  came_all = ap (λ (u : Traffic). arrivals u.got) after ∙ arrivals-append v.got (m ∷ []) ∙ ap (λ l. arrivals v.got ++ l) (came_one m ∙ ap came (sym is))

  pub came_end : IsEnd r → is_open w.got ≡ false
  came_end e = let P : Next → Type 0 = IsEnd in ap (λ (u : Traffic). is_open u.got) after ∙ at_end m (subst P is e)
    where
      at_end : (n : Message) → IsEnd (what_came n) → is_open (v.got ++ n ∷ []) ≡ false
      at_end (Arrived a) h = absurd h
      at_end End h = closed-snoc v.got

pub came_none : (v w : Traffic) → w ≡ v → arrivals w.got ≡ arrivals v.got ++ []
came_none v w same = ap (λ (u : Traffic). arrivals u.got) same ∙ sym (append-nil (arrivals v.got))

-- the end message came, or the channel is closed
pub ended_none : (all all' : List Arrival) (r : Next) → all' ≡ all ++ came r → (r ≡ Ended) ⊎ (r ≡ Closed) → all' ≡ all ++ []
ended_none all all' r h is = h ∙ ap (λ l. all ++ l) (⊎_elim (λ e. ap came e) (λ e. ap came e) is)

-- nothing came
pub none_kept : (kept kept' all all' : List Arrival) → kept ≡ all → all' ≡ all ++ [] → kept' ≡ kept → kept' ≡ all'
none_kept kept kept' all all' is none same = same ∙ is ∙ sym (none ∙ append-nil all)

pub one_kept : (kept kept' all all' : List Arrival) (a : Arrival) → kept ≡ all → all' ≡ all ++ a ∷ [] → kept' ≡ kept ++ a ∷ [] → kept' ≡ all'
one_kept kept kept' all all' a is came more = more ∙ ap (λ l. l ++ a ∷ []) is ∙ sym came

pub delivers_at : (w₀ : List (Option Kind)) (all all' made made' : List Arrival) → all ≡ all' → Delivers w₀ all made made' → Delivers w₀ all' made made'
delivers_at w₀ all all' made made' is h = let P : List Arrival → Type 0 = λ l. Delivers w₀ l made made' in subst P is h

-- memory ran out at an arrival, and the rest was dropped
pub delivers_short : (w₀ : List (Option Kind)) (kept made₀ made made' all all' all'' rest : List Arrival) (a : Arrival) → kept ≡ all → all' ≡ all ++ a ∷ [] → all'' ≡ all' ++ rest → made' ≡ made → Delivers w₀ kept made₀ made
    → Delivers w₀ all'' made₀ made'
delivers_short w₀ kept made₀ made made' all all' all'' rest a is came more same h =
    let whole : kept ++ (a ∷ [] ++ rest) ≡ all'' = sym (append_assoc kept (a ∷ []) rest) ∙ ap (λ l. (l ++ a ∷ []) ++ rest) is ∙ sym (more ∙ ap (λ l. l ++ rest) came) in
    let P : List Arrival → Type 0 = λ l. Delivers w₀ all'' made₀ l in
    subst P (sym same) (delivers_at w₀ _ _ made₀ made whole (delivers_more w₀ kept (a ∷ [] ++ rest) made₀ made h))
