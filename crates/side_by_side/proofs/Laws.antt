-- The laws of programs side by side.
use Rattle.std.proofs.Common.{◌≡◌, ℕ, zero, suc, List, [], ◌∷◌, map, refl, ap, sym, ◌∙◌, subst, Some, slice_get}
use Rattle.std.specs.Prelude.{All}
use Rattle.std.proofs.lemmas.List.Elements.{All-map, All-weaker}
use Rattle.std.proofs.lemmas.Option.{same_Some}
use Rattle.source_model.specs.declared.Circuit.{Circuit}
use Rattle.source_model.specs.Statics.{statics}
use Rattle.side_by_side.specs.Places.{static_in}
use Rattle.side_by_side.specs.Joined.{bits_of, place_of, joined_items}
use Rattle.side_by_side.specs.Programs.{Program, IsProgram, circuits, share_of}
use Rattle.side_by_side.specs.Laws.{AxesAreThoseAlone, AxisIsThatAlone, EachIsOfAProgram, OwnAxesAreThoseAlone, BitsAreThoseAlone, RegistersAreThoseAlone, ClaimsAreThoseAlone, NoneSeesAnother, StaticsAreThoseAlone, ProgramsCommute, JoinedIsWellFormed, ProductsAreAdded, JoinedKindsAreRight, LettersStay}
use Rattle.side_by_side.proofs.Fitting.{Runs, runs_of}
use Rattle.side_by_side.proofs.Shares.{axes_are_those_alone, axis_is_that_alone, axis_comes_from_that_alone, own_axes_are_those_alone, bits_are_those_alone, statics_are_those_alone, each_is_of_a_program, all_products}
use Rattle.side_by_side.proofs.StaticsBeside.{Fit}
use Rattle.side_by_side.proofs.Registers.{registers_are_those_alone}
use Rattle.side_by_side.proofs.Commuting.{programs_commute}
use Rattle.side_by_side.proofs.JoinedCircuit.{all_fit, joined_is_well_formed, joined_kinds_are_right}
use Rattle.side_by_side.proofs.Letters.{letters_stay}

pub all_run : (ps : List Program) → All IsProgram ps → All Runs ps
all_run ps h = All-weaker IsProgram Runs runs_of ps h

pub axes_alone_law : AxesAreThoseAlone
axes_alone_law ps i p h e = axes_are_those_alone ps i p (all_run ps h) e

pub axis_alone_law : AxisIsThatAlone
axis_alone_law ps i k p own h e f = axis_is_that_alone ps i k p own (all_run ps h) e f

pub each_law : EachIsOfAProgram
each_law = each_is_of_a_program

pub own_axes_law : OwnAxesAreThoseAlone
own_axes_law ps i p h e = own_axes_are_those_alone ps i p (all_run ps h) e

pub bits_law : BitsAreThoseAlone
bits_law ps i k p h e l = bits_are_those_alone ps i k p (all_run ps h) e l

pub registers_law : RegistersAreThoseAlone
registers_law ps i p r h e c = registers_are_those_alone ps i p r h (all_run ps h) e c

pub claims_law : ClaimsAreThoseAlone
claims_law ps i k p grid fails h axis fit e l one claimed = axis_comes_from_that_alone ps i k p axis (all_run ps fit) e l (one.axes_are _ axis claimed)

pub unseen_law : NoneSeesAnother
unseen_law ps qs i j p h g e f = (
  own_axes_law ps i p h e ∙ sym (own_axes_law qs j p g f),
  λ k l. bits_law ps i k p h e l ∙ sym (bits_law qs j k p g f l),
)

-- circuits as programs
bare : Circuit → Program
bare c = record { circuit = c; outcomes = [] }

bare_circuits : (cs : List Circuit) → circuits (map bare cs) ≡ cs
unfolding bare
bare_circuits [] = refl
bare_circuits (c ∷ cs) = ap (λ cs. c ∷ cs) (bare_circuits cs)

bare_at : (cs : List Circuit) (i : ℕ) (c : Circuit) → slice_get cs i ≡ Some c → slice_get (map bare cs) i ≡ Some (bare c)
bare_at [] i c e = cc
bare_at (d ∷ cs) zero c e = ap (λ (x : Circuit). Some (bare x)) (same_Some d c e)
bare_at (d ∷ cs) (suc i) c e = bare_at cs i c e

pub statics_law : StaticsAreThoseAlone
unfolding bare
statics_law cs i c h e =
    subst (λ (ds : List Circuit). share_of ds i c (statics (joined_items ds)) ≡ map (static_in (place_of ds i c)) (statics c.items)) (bare_circuits cs)
    (statics_are_those_alone (map bare cs) i (bare c) (All-map Fit bare cs (all_fit cs h)) (bare_at cs i c e))

pub commuting_law : ProgramsCommute
commuting_law cs i j c d s t h n e f k l = programs_commute cs i j c d s t (all_fit cs h) n e f k l

pub circuit_law : JoinedIsWellFormed
circuit_law = joined_is_well_formed

pub products_law : ProductsAreAdded
products_law cs = all_products 0 0 (bits_of cs) cs

pub kinds_law : JoinedKindsAreRight
kinds_law = joined_kinds_are_right

pub letters_law : LettersStay
letters_law = letters_stay
