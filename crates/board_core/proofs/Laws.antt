-- Proofs of the laws, under the names of their functions.
use Rattle.std.proofs.Common.{◌≡◌, Option, Some, None, refl, ◌∙◌}
use Rattle.std.specs.Option.{option_or}
use Rattle.patch_layout.proofs.Laws.{law_certificate}
use Rattle.board_core.specs.Laws.{AxesAreSourceAxes, FlipsAreSourceFlips, EmptyIsLegal, AllowedGoesOn, LegalGoesBack, FrontIsLegal, EntriesGoOn, DeliveriesGoOn, ClaimsGoOn, ClaimsHaveAxes, DeliveriesStand, UndoneIsUndelivered, ReleasedIsClaimed, TablesFit}
use Rattle.board_core.specs.BoardLaws.{LooksAreEqual, AllowedClaimsHavePlans}
use Rattle.board_core.proofs.SourceOrder.{axes_of_source, flips_of_source}
use Rattle.board_core.proofs.Looks.{looks_equal}
use Rattle.board_core.proofs.Going as going
use Rattle.board_core.proofs.KeptLegal.{entries_push}
use Rattle.board_core.proofs.Places.{or_else, delivered-append, claimed-append, claimed_place}
use Rattle.board_core.proofs.LegalOrder.{delivered_at}
use Rattle.board_core.proofs.Releasing as releasing
use Rattle.board_core.proofs.Holding.{release_claimed}
use Rattle.board_core.proofs.WholeRun.{table_length}
use Rattle.board_core.specs.History.{delivered}
use Rattle.board_core.specs.View.{claimed_axis}

pub law_looks : LooksAreEqual
law_looks = looks_equal

pub law_plans : AllowedClaimsHavePlans
law_plans b p axis port state cells sound a =
    let x = law_certificate b.job.grid axis port cells sound a.ascending a.fits in
    (record { number = p; axis = axis; cells = cells; port = port; parents = x.0; touches = x.1 }, refl, x.2)

pub law_source_axes : AxesAreSourceAxes
law_source_axes = axes_of_source

pub law_source_flips : FlipsAreSourceFlips
law_source_flips = flips_of_source

-- ---- legal histories
pub legal_empty : EmptyIsLegal
legal_empty = going.legal_empty

pub legal_next : AllowedGoesOn
legal_next = going.legal_next

pub legal_back : LegalGoesBack
legal_back = going.legal_back

pub legal_front : FrontIsLegal
legal_front = going.legal_take

-- ---- what stands in a history
pub entries_go_on : EntriesGoOn
entries_go_on = entries_push

first_of_two : {A : Type 0} (o w : Option A) → or_else o w ≡ option_or o w
first_of_two None w = refl
first_of_two (Some a) w = refl

pub deliveries_go_on : DeliveriesGoOn
deliveries_go_on h es p = delivered-append h es p ∙ first_of_two (delivered h p) (delivered es p)

pub claims_go_on : ClaimsGoOn
claims_go_on h es p = claimed-append h es p ∙ first_of_two (claimed_axis h p) (claimed_axis es p)

pub claims_have_axes : ClaimsHaveAxes
claims_have_axes = claimed_place

pub deliveries_stand : DeliveriesStand
deliveries_stand = delivered_at

pub undone_undelivered : UndoneIsUndelivered
undone_undelivered = releasing.undone_undelivered

pub released_claimed : ReleasedIsClaimed
released_claimed = release_claimed

pub tables_fit : TablesFit
tables_fit = table_length
