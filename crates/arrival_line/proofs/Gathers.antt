-- What is left in the channel is taken.
use Rattle.std.proofs.Common.{◌≡◌, true, List, [], ◌∷◌, ◌++◌, sym, ap, ◌∙◌, append-nil}
use Rattle.arrival_line.specs.declared.arrival.Arrival.{Arrival}
use Rattle.arrival_line.specs.declared.arrival.Traffic.{Traffic}
use Rattle.arrival_line.specs.declared.arrival.Message.{Message}
use Rattle.arrival_line.specs.declared.arrival.Message.TheVariants.{Arrived, End}
use Rattle.arrival_line.specs.Line.{traffic}
use Rattle.arrival_line.specs.Messages.{arrivals}
use Rattle.arrival_line.proofs.Words.{arrivals-append}

module _ (v w : Traffic) (m : Message) (after : w ≡ traffic v.sends v.receives v.sent (v.got ++ m ∷ [])) where
  pub taken_role : (s : List Message) → v ≡ traffic true true s v.got → w ≡ traffic true true s w.got
  taken_role s is = after ∙ (λ i. traffic (is i).sends (is i).receives (is i).sent (v.got ++ m ∷ [])) ∙ ap (λ g. traffic true true s g) (sym (ap (λ (u : Traffic). u.got) after))

  taken : arrivals w.got ≡ arrivals v.got ++ arrivals (m ∷ [])
  taken = ap (λ (u : Traffic). arrivals u.got) after ∙ arrivals-append v.got (m ∷ [])

  pub taken_one : (kept kept' : List Arrival) (a : Arrival) → kept ≡ arrivals v.got → m ≡ Arrived a → kept' ≡ kept ++ a ∷ [] → kept' ≡ arrivals w.got
  taken_one kept kept' a is came more = more ∙ ap (λ l. l ++ a ∷ []) is ∙ sym (taken ∙ ap (λ n. arrivals v.got ++ arrivals (n ∷ [])) came)

  pub taken_end : (kept : List Arrival) → kept ≡ arrivals v.got → m ≡ End → kept ≡ arrivals w.got
  taken_end kept is came = is ∙ sym (taken ∙ ap (λ n. arrivals v.got ++ arrivals (n ∷ [])) came ∙ append-nil (arrivals v.got))

pub begins_sent : (sent got sent₀ got₀ : List Message) → sent₀ ≡ sent → got₀ ≡ got → (items : List Message) → sent₀ ≡ got₀ ++ items → (rest : List Arrival) × (arrivals sent ≡ arrivals got ++ rest)
begins_sent sent got sent₀ got₀ s g items is = (arrivals items, ap arrivals (sym s ∙ is) ∙ arrivals-append got₀ items ∙ ap (λ l. arrivals l ++ arrivals items) g)
