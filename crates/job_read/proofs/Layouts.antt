-- What a circuit asks of a layout, and layouts that are refused for it.
use Rattle.std.proofs.Common.{◌≡◌, ◌≢◌, ◌⊎◌, ℕ, ◌<◌, ◌≤◌, Bool, List, map, min, IfSome, refl, ap, sym, ◌∙◌, subst, inl, inr, arith}
use Rattle.std.specs.List.{range_with_len}
use Rattle.std.proofs.lemmas.List.{same_lists}
use Rattle.std.proofs.lemmas.List.FromFn.{get_or-map-range_with_len, length-map-range_with_len}
use Rattle.std.proofs.lemmas.Option.{get_or_from_slice_get}
use Rattle.patch_base.specs.declared.need.Need.{Need}
use Rattle.source_model.specs.declared.Static.{Static}
use Rattle.source_model.specs.Used.{is_used}
use Rattle.rotation_list.specs.Needs.{IsNeedOf}
use Rattle.patch_layout.specs.declared.layout.Edge.TheVariants as edge
use Rattle.patch_layout.specs.declared.fault.LayoutFault.{LayoutFault}
use Rattle.patch_layout.specs.declared.fault.LayoutFault.TheVariants as fault
use Rattle.patch_layout.specs.Grid.{Grid, Demand, Open, OnPatch}
use Rattle.patch_layout.specs.Row.{row_grid, demand, RowRefused}
use Rattle.patch_layout.specs.LayoutText.{StandsFor, Refused}
use Rattle.patch_layout.proofs.Rows.{patch_place}
use Rattle.source_model.specs.declared.Circuit.{Circuit}
use Rattle.job_read.specs.declared.fault.JobFault.{JobFault}
use Rattle.job_read.specs.declared.fault.JobFault.TheVariants as job
use Rattle.job_read.specs.Faults.{fault_of_layout}
use Rattle.job_read.specs.Reading.{Seen, IsRow, IsNamed}
use Rattle.job_read.specs.Jobs.{LayoutStops, IsOutside}
use Rattle.job_read.specs.Stages.{demand_of, wanted_by, LayoutStands, LayoutRefused}
use Rattle.job_read.proofs.Cut.{LongAlike, short_alike}

-- ---- what is asked
used_is : (need : Need) (qubits : ℕ) (products : List Static) → IsNeedOf qubits products need → need.used ≡ map (is_used products) (range_with_len 0 qubits)
used_is need qubits products n =
    same_lists need.used (map (is_used products) (range_with_len 0 qubits)) (n.one_each ∙ sym (length-map-range_with_len (is_used products) 0 qubits))
    (λ k d below. let within : k < qubits = let e = n.one_each in omega arith in
    get_or_from_slice_get need.used k (is_used products k) d (n.used k within) ∙ sym (get_or-map-range_with_len (is_used products) 0 qubits k k d within (omega arith)))

pub wanted_is : (need : Need) (qubits : ℕ) (products : List Static) → IsNeedOf qubits products need → demand need.used need.rotations ≡ demand_of qubits products
wanted_is need qubits products n = let u = used_is need qubits products n in let r = n.rotations in cc

-- ---- the row layout
-- a row that is open has at most 64 patches, so it is not refused
pub open_row : (n : ℕ) (w : Demand) (f : LayoutFault) → Open (row_grid (min n 64)) w → RowRefused w.used f → f ≡ fault.Memory
open_row n w fault.TooLong o r = absurd r
open_row n w (fault.Form line) o r = absurd r
open_row n w fault.Size o r = absurd r
open_row n w (fault.Overlap cell) o r = absurd r
open_row n w (fault.PatchMissing q) o (past, used, least) = absurd (reached (o.sides q edge.X used))
  where
    reached : (d : ℕ) × OnPatch (row_grid (min n 64)) q edge.X d → ⊥
    reached (d, (cell, patch, side)) = let place = patch_place (min n 64) q cell patch in let below : q < min n 64 = omega (arith, place.0) in omega arith
open_row n w (fault.Split cell) o r = absurd r
open_row n w (fault.Shut q e) o r = absurd r
open_row n w fault.NoPort o r = absurd r
open_row n w (fault.ShutPort f) o r = absurd r
open_row n w fault.Memory o r = refl

-- it is refused with at most one fault
pub one_row_fault : (used : List Bool) (e f : LayoutFault) → f ≢ fault.Memory → RowRefused used e → RowRefused used f → (e ≡ f) ⊎ (e ≡ fault.Memory)
one_row_fault used fault.Memory f other r s = inr refl
one_row_fault used (fault.PatchMissing p) (fault.PatchMissing q) other r s =
    let le : p ≤ q = r.2 q s.0 s.1 in let ge : q ≤ p = s.2 p r.0 r.1 in inl (ap fault.PatchMissing (omega arith))
one_row_fault used (fault.PatchMissing p) fault.Memory other r s = absurd (other refl)
one_row_fault used (fault.PatchMissing p) _ other r s = absurd s
one_row_fault used _ f other r s = absurd r

-- ---- texts past the limit
pub refusals_alike : (w : Demand) (f : LayoutFault) → LongAlike (λ t. Refused t w f)
refusals_alike w fault.TooLong = record { alike = λ s t long past r. past }
refusals_alike w (fault.Form line) = short_alike _ (λ t r. r.0)
refusals_alike w fault.Size = short_alike _ (λ t r. r.0)
refusals_alike w (fault.Overlap cell) = short_alike _ (λ t r. r.0)
refusals_alike w (fault.PatchMissing q) = short_alike _ (λ t r. r.1.3)
refusals_alike w (fault.Split cell) = short_alike _ (λ t r. r.1.3)
refusals_alike w (fault.Shut q e) = short_alike _ (λ t r. r.1.3)
refusals_alike w fault.NoPort = short_alike _ (λ t r. r.1.3)
refusals_alike w (fault.ShutPort f) = short_alike _ (λ t r. r.1.3)
refusals_alike w fault.Memory = record { alike = λ s t long past r. tt }

pub grids_alike : (g : Grid) → LongAlike (λ t. StandsFor t g)
grids_alike g = short_alike _ (λ t s. s.3)

-- ---- what is answered
other : (f : LayoutFault) → f ≢ fault.Memory → fault_of_layout f ≡ job.Layout f
other fault.Memory n = absurd (n refl)
other _ n = refl

pub outside : (f : LayoutFault) → f ≡ fault.Memory → IsOutside (fault_of_layout f)
outside f e = subst (λ (x : LayoutFault). IsOutside (fault_of_layout x)) (sym e) tt

pub told_fault : (f g : LayoutFault) → g ≢ fault.Memory → (f ≡ g) ⊎ (f ≡ fault.Memory) → (fault_of_layout f ≡ job.Layout g) ⊎ IsOutside (fault_of_layout f)
told_fault f g n h = elim h [ inl e ↦ inl (other f (λ m. n (sym e ∙ m)) ∙ ap job.Layout e) | inr m ↦ inr (outside f m) ]

is_memory : (f : LayoutFault) → (f ≡ fault.Memory) ⊎ (f ≢ fault.Memory)
is_memory fault.Memory = inl refl
is_memory _ = inr (λ m. cc)

pub stops : (word : List ℕ) (s : Seen) (c : Circuit) (f : LayoutFault) → (f ≢ fault.Memory → LayoutRefused word s c f) → LayoutStops word s c (fault_of_layout f)
stops word s c f cause = elim (is_memory f) [
  | inl m ↦ subst (λ (x : LayoutFault). LayoutStops word s c (fault_of_layout x)) (sym m) tt
  | inr n ↦ subst (λ (x : JobFault). LayoutStops word s c x) (sym (other f n)) (cause n)
]

pub row_open : (word : List ℕ) (s : Seen) (c : Circuit) (g : Grid) → IsRow word → LayoutStands word s c g → Open (row_grid (min c.qubits 64)) (wanted_by c)
row_open word s c g row stands = elim stands.0 [ inl x ↦ subst (λ (h : Grid). Open h (wanted_by c)) x.1 stands.1 | inr x ↦ absurd (x.0 row) ]

pub text_stands : (word : List ℕ) (s : Seen) (c : Circuit) (g : Grid) → IsNamed word → LayoutStands word s c g → IfSome s.told (λ t. StandsFor t g)
text_stands word s c g named stands = elim stands.0 [ inl x ↦ absurd (named x.0) | inr x ↦ x.1 ]

pub row_refused : (word : List ℕ) (s : Seen) (c : Circuit) (f : LayoutFault) → IsRow word → LayoutRefused word s c f → RowRefused (wanted_by c).used f
row_refused word s c f row refused = elim refused.1 [ inl x ↦ x.1 | inr x ↦ absurd (x.0 row) ]

pub text_refused : (word : List ℕ) (s : Seen) (c : Circuit) (f : LayoutFault) → IsNamed word → LayoutRefused word s c f → IfSome s.told (λ t. Refused t (wanted_by c) f)
text_refused word s c f named refused = elim refused.1 [ inl x ↦ absurd (named x.0) | inr x ↦ x.1 ]
