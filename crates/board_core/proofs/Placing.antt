-- Whether a plan's region may be taken.
use Rattle.std.proofs.Common.{◌≡◌, ◌≢◌, ℕ, ◌<◌, ◌≤◌, Bool, List, [], length, All, Option, Some, None, sym, ◌∙◌, subst}
use Rattle.std.proofs.lemmas.Option.{same_Some, none-some}
use Rattle.source_model.specs.declared.Kind.{Kind}
use Rattle.source_model.specs.declared.Static.{Static}
use Rattle.patch_layout.specs.Grid.{Grid, Sound}
use Rattle.patch_layout.specs.declared.plan.Plan.{Plan}
use Rattle.patch_layout.specs.declared.plan.Fault.{Fault}
use Rattle.patch_layout.specs.Certificate.{Certified, Checked}
use Rattle.patch_layout.specs.Case.{case_of}
use Rattle.board_core.specs.declared.board.ClaimWhy.TheVariants as claim
use Rattle.board_core.specs.Legal.{ClaimCell}
use Rattle.board_core.specs.Position.{Position, past}
use Rattle.board_core.specs.inside.Cells.{LeastTaken}
use Rattle.board_core.specs.Books.{HoldersAre}
use Rattle.board_core.specs.Causes.{is_rotation, IsProduct, HasAxis, Fits, IsFree, IsClaimable, ClaimRefusedBecause, ready, case_for}
use Rattle.board_core.proofs.Claiming.{judged_case, region_within, region_few, least_is_held, none_is_held, empty_list, some_list}

module _ (b : Position) (plan : Plan) (k : Kind) (r : Bool) (g : Grid) (has : HasAxis b plan) (kind-is : (s : Static) → IsProduct b plan.number s → k ≡ s.kind) (grid : g ≡ b.job.grid) (rotation : r ≡ is_rotation k) where
  pub unfit : (fault : Fault) → Checked (case_of g r plan) (Some fault) → ClaimRefusedBecause (claim.Unfit fault) b plan
  unfit fault checked =
      let s = has.before.before.static in
      (has, judged_case b plan s k r g (Some fault) grid rotation (kind-is s has.before.before.product) checked)

  module _ (cert : Certified (case_of g r plan)) where
    pub few_cells : (cells : List ℕ) → cells ≡ plan.cells → Sound g → length cells ≤ 4096
    few_cells cells e sound = subst (λ (x : List ℕ). length x ≤ 4096) (sym e) (region_few (case_of g r plan) sound cert)

    pub cells_within : (cells : List ℕ) → cells ≡ plan.cells → All (λ c. c < length g.sites) cells
    cells_within cells e = subst (λ (x : List ℕ). All (λ c. c < length g.sites) x) (sym e) (region_within (case_of g r plan) cert)

    fits_here : Fits b plan
    fits_here =
        let s = has.before.before.static in
        record { before = has; checked = judged_case b plan s k r g None grid rotation (kind-is s has.before.before.product) cert }

    module _ (holders : List (Option ℕ)) (cells : List ℕ) (o : Option (ℕ × ℕ)) (are : HoldersAre b.job (past b) holders) (same : cells ≡ plan.cells) (least : LeastTaken (ClaimCell g plan.axis plan.port cells) holders o) where
      all_within : All (λ c. c < length b.job.grid.sites) plan.cells
      all_within = subst (λ (x : Grid). All (λ c. c < length x.sites) plan.cells) grid (region_within (case_of g r plan) cert)

      least_here : LeastTaken (ClaimCell b.job.grid plan.axis plan.port plan.cells) holders o
      least_here =
          subst (λ (x : Grid). LeastTaken (ClaimCell x plan.axis plan.port plan.cells) holders o) grid
          (subst (λ (x : List ℕ). LeastTaken (ClaimCell g plan.axis plan.port x) holders o) same least)

      pub held_here : (cell by : ℕ) → o ≡ Some (cell, by) → ClaimRefusedBecause (claim.Held cell by) b plan
      held_here cell by e =
          (fits_here, least_is_held b plan holders cell by are all_within (subst (λ (x : Option (ℕ × ℕ)). LeastTaken (ClaimCell b.job.grid plan.axis plan.port plan.cells) holders x) e least_here))

      free_here : o ≡ None → IsFree b plan
      free_here e = record {
        before = fits_here;
        free = none_is_held b plan holders are all_within (subst (λ (x : Option (ℕ × ℕ)). LeastTaken (ClaimCell b.job.grid plan.axis plan.port plan.cells) holders x) e least_here);
      }

      pub empty_here : o ≡ None → (port n : ℕ) → plan.port ≡ Some port → n ≡ length (ready b port) → n ≡ 0 → ClaimRefusedBecause (claim.NoState port) b plan
      empty_here e port n through count none = (free_here e, through, empty_list (ready b port) n count none)

      pub stocked_here : o ≡ None → (port n : ℕ) → plan.port ≡ Some port → n ≡ length (ready b port) → n ≢ 0 → IsClaimable b plan
      stocked_here e port n through count some = record {
        before = free_here e;
        stocked = λ f at. subst (λ (x : ℕ). ready b x ≢ []) (same_Some port f (sym through ∙ at)) (some_list (ready b port) n count some);
      }

      pub portless_here : o ≡ None → plan.port ≡ None → IsClaimable b plan
      portless_here e none = record { before = free_here e; stocked = λ f at. absurd (none-some f (sym none ∙ at)) }

-- a claim's cells
pub claim_few : (b : Position) (plan : Plan) (g : Grid) (cells : List ℕ) → g ≡ b.job.grid → Sound g → IsClaimable b plan → cells ≡ plan.cells → length cells ≤ 4096
claim_few b plan g cells grid sound c e =
    let fits = c.before.before in
    subst (λ (x : List ℕ). length x ≤ 4096) (sym e) (region_few (case_for b plan fits.before.before.before.static) (subst Sound grid sound) fits.checked)

pub claim_within : (b : Position) (plan : Plan) (g : Grid) (cells : List ℕ) → g ≡ b.job.grid → IsClaimable b plan → cells ≡ plan.cells → All (λ c. c < length g.sites) cells
claim_within b plan g cells grid c e =
    let fits = c.before.before in
    subst (λ (x : Grid). All (λ c. c < length x.sites) cells) (sym grid)
    (subst (λ (x : List ℕ). All (λ c. c < length b.job.grid.sites) x) (sym e) (region_within (case_for b plan fits.before.before.before.static) fits.checked))
