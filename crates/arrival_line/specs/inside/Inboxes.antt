-- What an inbox keeps.
use Rattle.std.specs.Prelude.{◌≡◌, List, [], Option, None, if◌then◌else◌, slice_set}
use Rattle.std.specs.List.{All}
use Rattle.arrival_line.specs.declared.arrival.Arrival.{Arrival}
use Rattle.source_model.specs.declared.Kind.{Kind}
use Rattle.arrival_line.specs.declared.inbox.Inbox.{Inbox}
use Rattle.arrival_line.specs.Strays.{fits, serves, Serves, Delivers}

-- what is wanted after one more arrival
abbrev pub sifted : List (Option Kind) → Arrival → List (Option Kind)
sifted wanted a = if fits wanted a then slice_set wanted a.product None else wanted

-- what is still wanted is what would serve, and what waits and what was delivered are no strays
pub record IsInbox (wanted₀ : List (Option Kind)) (made₀ made : List Arrival) (wanted : List (Option Kind)) (kept pending : List Arrival) : Type 0 where
  pub sifts : (a : Arrival) → fits wanted a ≡ serves wanted₀ kept a
  pub waits : All (Serves wanted₀ kept) pending
  pub delivers : Delivers wanted₀ kept made₀ made

module _ {C : Type 0} (made : C → List Arrival) where
  -- so it is since this was wanted, and that was delivered
  abbrev pub IsSince : List (Option Kind) → List Arrival → Inbox C → Type 0
  IsSince wanted₀ made₀ b = IsInbox wanted₀ made₀ (made b.courier) b.wanted.items b.kept.items b.pending.items

  -- and stays so
  abbrev pub GoesOn : Inbox C → Inbox C → Type 0
  GoesOn b c = (wanted₀ : List (Option Kind)) (made₀ : List Arrival) → IsSince wanted₀ made₀ b → IsSince wanted₀ made₀ c

  -- an inbox without arrivals
  abbrev pub IsOpened : Inbox C → Type 0
  IsOpened b = (b.kept.items ≡ []) × IsSince b.wanted.items (made b.courier) b
