-- What a well-formed circuit and its table keep to.
use Rattle.std.proofs.Common.{◌≡◌, ℕ, zero, suc, ◌+◌, ◌<◌, ◌≤◌, inl, inr, List, [], ◌∷◌, length, slice_index_or, refl, ap, ◌∙◌, arith}
use Rattle.std.proofs.lemmas.List.Elements.{All-weaker}
use Rattle.std.proofs.lemmas.List.Sums.{sum_by-cons}
use Rattle.source_model.specs.declared.Circuit.{Circuit}
use Rattle.source_model.specs.declared.Given.{Given}
use Rattle.source_model.specs.declared.Item.{Item}
use Rattle.source_model.specs.declared.Item.TheVariants as item
use Rattle.source_model.specs.declared.Kind.{Kind}
use Rattle.source_model.specs.declared.Register.{Register}
use Rattle.source_model.specs.Circuits.{FirstsRunOn, ReadsWhole, WellFormed, OutcomesOf, kinds, bits_in}
use Rattle.side_by_side.specs.inside.Beside.{ReadsOneKind, Fits}
use Rattle.side_by_side.specs.Joined.{products_in}
use Rattle.side_by_side.specs.Programs.{Program, IsProgram}

pub register_within : (before : ℕ) (rs : List Register) (first size k : ℕ) (x : Register) → FirstsRunOn before rs → k < length rs → slice_index_or rs k x ≡ x → x.first ≡ first → x.size ≡ size → first + size ≤ before + bits_in rs
register_within before [] first size k x h l e f g = absurd (omega arith)
register_within before (r ∷ rs) first size zero x h l e f g =
    let one : r.first ≡ first = ap (λ (r : Register). r.first) e ∙ f in
    let two : r.size ≡ size = ap (λ (r : Register). r.size) e ∙ g in
    omega (arith, h.0, one, two, sum_by-cons (λ (r : Register). r.size) r rs)
register_within before (r ∷ rs) first size (suc k) x h l e f g =
    omega (arith, register_within (before + r.size) rs first size k x h.1 (omega arith) e f g, sum_by-cons (λ (r : Register). r.size) r rs)

reads_one_kind : (rs : List Register) (i : Item) → FirstsRunOn 0 rs → ReadsWhole rs i → ReadsOneKind (bits_in rs) i
reads_one_kind rs (item.Turn axis angle) h k = tt
reads_one_kind rs (item.Measure axis bit) h k = tt
reads_one_kind rs (item.If axis first size value) h (inl a) =
    let l : first + size ≤ bits_in rs = omega (arith, register_within 0 rs first size a.0 a.1 h a.2 a.3 a.4.0 a.4.1) in
    inl l
reads_one_kind rs (item.If axis first size value) h (inr a) = inr a.0

outcomes_length : (ks : List Kind) (gs : List Given) → OutcomesOf ks gs → length gs ≡ length ks
outcomes_length [] [] h = refl
outcomes_length [] (g ∷ gs) h = absurd h
outcomes_length (k ∷ ks) [] h = absurd h
outcomes_length (k ∷ ks) (g ∷ gs) h = omega (arith, outcomes_length ks gs h.1)

pub fits_of : (c : Circuit) → WellFormed c → Fits c
fits_of c h = record {
  axes_fit = h.axes_fit;
  bits_fit = h.bits_fit;
  reads_fit = All-weaker (ReadsWhole c.registers) (ReadsOneKind (bits_in c.registers)) (λ i. reads_one_kind c.registers i h.firsts_run_on) c.items h.reads_fit;
}

-- a program that runs beside others as it does alone
pub record Runs (p : Program) : Type 0 where
  pub fits : Fits p.circuit
  pub one_each : length p.outcomes ≡ products_in p.circuit.items

pub runs_of : (p : Program) → IsProgram p → Runs p
runs_of p h = record { fits = fits_of p.circuit h.0; one_each = outcomes_length (kinds p.circuit.items) p.outcomes h.1 }
