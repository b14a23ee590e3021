-- Proofs of the laws, under the names of their functions.
use Rattle.region_plan.specs.Laws.{LeastJoinedIsJoined, RegionsFit}
use Rattle.region_plan.proofs.Answering.{region_fits}

pub law_joined : LeastJoinedIsJoined
law_joined g look port cells l = (l.1.0, l.1.1)

pub law_region_fits : RegionsFit
law_region_fits = region_fits
