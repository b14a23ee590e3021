-- What a history says: who holds which cell, what was delivered, which states were made and taken.
use Rattle.std.specs.Prelude.{ℕ, Bool, false, ◌+◌, ◌==◌, if◌then◌else◌, List, [], ◌∷◌, flat_map, position, Option, Some, None, unwrap_or, map}
use Rattle.source_model.specs.declared.Given.{Given}
use Rattle.source_model.specs.declared.Given.TheVariants as given
use Rattle.source_model.specs.declared.Kind.{Kind}
use Rattle.source_model.specs.declared.Kind.TheVariants as kind
use Rattle.source_model.specs.declared.Static.{Static}
use Rattle.board_core.specs.declared.Noted.{Noted}
use Rattle.board_core.specs.declared.Entry.{Entry}
use Rattle.board_core.specs.declared.Entry.TheVariants.{Claim, Deliver, Release, Step, Settle}

-- a history's entries, without the numbers of the workers that made them
abbrev pub History : Type 0
History = List Entry

abbrev pub entries : List Noted → History
entries noted = map (λ n. n.entry) noted

-- the outcome that an entry delivers for the product
abbrev pub delivery_in : ℕ → Entry → Option Given
delivery_in p (Claim q axis port state cells) = None
delivery_in p (Deliver q g) = if q == p then Some g else None
delivery_in p (Release q) = None
delivery_in p (Step f) = None
delivery_in p (Settle q flip) = None

abbrev pub delivered : History → ℕ → Option Given
delivered [] p = None
delivered (e ∷ es) p = elim (delivery_in p e) [ None ↦ delivered es p | Some g ↦ Some g ]

-- the place of the first entry that passes a test
abbrev pub is_claim_of : ℕ → Entry → Bool
is_claim_of p (Claim q axis port state cells) = q == p
is_claim_of p (Deliver q g) = false
is_claim_of p (Release q) = false
is_claim_of p (Step f) = false
is_claim_of p (Settle q flip) = false

-- a Deliver or a Settle of the product
abbrev pub is_done_by : ℕ → Entry → Bool
is_done_by p (Claim q axis port state cells) = false
is_done_by p (Deliver q g) = q == p
is_done_by p (Release q) = false
is_done_by p (Step f) = false
is_done_by p (Settle q flip) = q == p

abbrev pub is_release_of : ℕ → Entry → Bool
is_release_of p (Claim q axis port state cells) = false
is_release_of p (Deliver q g) = false
is_release_of p (Release q) = q == p
is_release_of p (Step f) = false
is_release_of p (Settle q flip) = false

abbrev pub claim_place : History → ℕ → Option ℕ
claim_place h p = position (is_claim_of p) h

abbrev pub done_place : History → ℕ → Option ℕ
done_place h p = position (is_done_by p) h

abbrev pub release_place : History → ℕ → Option ℕ
release_place h p = position (is_release_of p) h

-- the factory of each step, in order
abbrev pub steps_in : Entry → List ℕ
steps_in (Claim q axis port state cells) = []
steps_in (Deliver q g) = []
steps_in (Release q) = []
steps_in (Step f) = f ∷ []
steps_in (Settle q flip) = []

abbrev pub steps : History → List ℕ
steps h = flat_map steps_in h

-- the states that claims have
abbrev pub states_in : Entry → List ℕ
states_in (Claim q axis port None cells) = []
states_in (Claim q axis port (Some s) cells) = s ∷ []
states_in (Deliver q g) = []
states_in (Release q) = []
states_in (Step f) = []
states_in (Settle q flip) = []

abbrev pub taken_states : History → List ℕ
taken_states h = flat_map states_in h

-- the outcome that stands for what isn't known: 0
abbrev pub zero_of : Kind → Given
zero_of kind.Rotation = given.Rotation false false
zero_of (kind.Measure bit) = given.Measure false
zero_of (kind.Settle first size value) = given.Settled

-- the outcomes that the history delivers, and 0 everywhere else, from product p on
abbrev pub known_from : ℕ → List Static → History → List Given
known_from p [] h = []
known_from p (s ∷ ss) h = unwrap_or (delivered h p) (zero_of s.kind) ∷ known_from (p + 1) ss h

abbrev pub known : List Static → History → List Given
known products h = known_from 0 products h
