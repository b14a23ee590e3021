-- Proofs of the laws, under the names of their functions.
use Rattle.patch_layout.specs.Laws.{FitsHaveCertificates, CertifiedFits, CertifiedAscends, NeighboursAreMutual, SidesAreAncilla, RowPatchesStand, GridOrFault, NotBoth, OneGrid, OneFault}
use Rattle.patch_layout.proofs.Answering.{grid_or_fault}
use Rattle.patch_layout.proofs.Causes.{one_fault}
use Rattle.patch_layout.proofs.Certificates.{certificate_for}
use Rattle.patch_layout.proofs.Certifying.{fits_ascending}
use Rattle.patch_layout.proofs.Fits.{certified_fits}
use Rattle.patch_layout.proofs.Neighbours.{neighbour_back}
use Rattle.patch_layout.proofs.Once.{stands_one, stands_not}
use Rattle.patch_layout.proofs.Rows.{patch_place}
use Rattle.patch_layout.proofs.Whole.{side_ancilla}

pub law_certificate : FitsHaveCertificates
law_certificate = certificate_for

pub law_certified_fits : CertifiedFits
law_certified_fits = certified_fits

pub law_certified_ascends : CertifiedAscends
law_certified_ascends c whole = fits_ascending c.grid c.cells whole.0.0.1

pub law_neighbours : NeighboursAreMutual
law_neighbours = neighbour_back

pub law_sides : SidesAreAncilla
law_sides = side_ancilla

pub law_row_patches : RowPatchesStand
law_row_patches = patch_place

pub law_answer : GridOrFault
law_answer = grid_or_fault

pub law_not_both : NotBoth
law_not_both = stands_not

pub law_one_grid : OneGrid
law_one_grid = stands_one

pub law_one_fault : OneFault
law_one_fault = one_fault
