-- Two programs: their joined circuit, their tables, and what they have of the joined run.
use Rattle.std.proofs.Common.{◌≡◌, ℕ, ◌+◌, ◌≤◌, List, [], ◌∷◌, All, length, map, flat_map, refl, ap, sym, ◌∙◌, subst}
use Rattle.std.proofs.lemmas.List.Elements.{All-nil, All-cons}
use Rattle.source_model.specs.declared.Circuit.{Circuit}
use Rattle.source_model.specs.declared.Given.{Given}
use Rattle.source_model.specs.Circuits.{RightKinds, WellFormed}
use Rattle.source_model.specs.Statics.{statics}
use Rattle.outcome_table.specs.declared.Outcomes.{Outcomes}
use Rattle.finish_run.specs.Next.{Meeting}
use Rattle.board_core.specs.Legal.{BoardJob, Complete}
use Rattle.board_core.specs.Position.{Position, past}
use Rattle.finish_run.specs.Finished.{GoesOn, own_from, own_or_given}
use Rattle.job_read.specs.declared.Job.{Job}
use Rattle.job_read.specs.Kept.{IsCircuit}
use Rattle.job_read.specs.Starts.{board_job, new_position}
use Rattle.side_by_side.specs.declared.joining.Joined.{Joined}
use Rattle.side_by_side.specs.declared.joining.Span.{Span}
use Rattle.side_by_side.specs.Joined.{IsJoinOf, products_in}
use Rattle.side_by_side.specs.Laws.{HaveLetters, LettersStay}
use Rattle.side_by_side.specs.Programs.{AreTablesOf, IsProgram, Program, circuits, joined_outcomes}
use Rattle.side_tests.specs.inside.Two.{AreCarriedOut, IsOfTwo}

abbrev Lettered : Circuit → Type 0
Lettered c = HaveLetters c.items

pub circuit_is : LettersStay → (cs : List Circuit) (a b : Circuit) (j : Joined) → IsJoinOf cs j → WellFormed j.circuit → products_in j.circuit.items ≤ 16384 → cs ≡ a ∷ b ∷ [] → IsCircuit a → IsCircuit b → IsCircuit j.circuit
circuit_is law cs a b j joined formed few is first second =
    let both : All Lettered (a ∷ b ∷ []) = All-cons Lettered a (b ∷ []) first.letters (All-cons Lettered b [] second.letters (All-nil Lettered)) in
    record {
      well_formed = formed;
      few_products = few;
      letters = subst Lettered (sym joined.circuit) (law cs (subst (All Lettered) (sym is) both));
    }

-- ---- two circuits with their tables
module _ (a b : Circuit) (s t : Outcomes) where
  abbrev pub one : Program
  one = record { circuit = a; outcomes = s.given }

  abbrev pub other : Program
  other = record { circuit = b; outcomes = t.given }

  abbrev pub both : List Program
  both = one ∷ other ∷ []

  are_programs : IsCircuit a → IsCircuit b → RightKinds a.items s.given → RightKinds b.items t.given → All IsProgram both
  are_programs first second kinds others =
      All-cons IsProgram one (other ∷ []) (first.well_formed, kinds) (All-cons IsProgram other [] (second.well_formed, others) (All-nil IsProgram))

  pub tables_of : (cs : List Circuit) (os : List Outcomes) (j : Joined) → IsJoinOf cs j → cs ≡ a ∷ b ∷ [] → os ≡ s ∷ t ∷ [] → IsCircuit a → IsCircuit b → RightKinds a.items s.given → RightKinds b.items t.given → AreTablesOf j os
  tables_of cs os j joined is tables first second kinds others = record {
    programs = both;
    each = are_programs first second kinds others;
    joined = subst (λ (xs : List Circuit). IsJoinOf xs j) is joined;
    given = ap (λ (xs : List Outcomes). map (λ (o : Outcomes). o.given) xs) tables;
  }

  pub of_two : (cs : List Circuit) (os : List Outcomes) (job : Job) (spans : List Span) → IsJoinOf cs (record { circuit = job.circuit; spans = spans }) → cs ≡ a ∷ b ∷ [] → os ≡ s ∷ t ∷ [] → IsCircuit a → IsCircuit b → RightKinds a.items s.given → RightKinds b.items t.given → job.outcomes.given ≡ flat_map (λ (o : Outcomes). o.given) os → IsOfTwo job spans
  of_two cs os job spans joined is tables first second kinds others given = record {
    programs = both;
    count = refl;
    each = are_programs first second kinds others;
    joined = subst (λ (xs : List Circuit). IsJoinOf xs (record { circuit = job.circuit; spans = spans })) is joined;
    outcomes = given ∙ ap (λ (xs : List Outcomes). flat_map (λ (o : Outcomes). o.given) xs) tables;
  }

-- ---- the board that is brought to its end
own_nothing : (p : ℕ) (given : List Given) → own_from p [] given ≡ given
own_nothing p [] = refl
own_nothing p (g ∷ gs) = ap (λ xs. g ∷ xs) (own_nothing (p + 1) gs)

pub carried : (M : Meeting) (job : Job) (spans : List Span) (start b : Position) (circuit : Circuit) (o : Outcomes) → IsOfTwo job spans → circuit ≡ job.circuit → start ≡ new_position (board_job job) → o ≡ job.outcomes → Complete b.job (past b) (own_or_given (past start) o.given) → GoesOn M o.given start b → AreCarriedOut (record { circuit = circuit; spans = spans }) b
carried M job spans start b circuit o two same new is complete goes =
    let job_is : b.job ≡ board_job job = ap (λ (p : Position). p.job) goes.is ∙ ap (λ (p : Position). p.job) new in
    let table : own_or_given (past start) o.given ≡ joined_outcomes two.programs =
    ap (λ (p : Position). own_or_given (past p) o.given) new ∙ own_nothing 0 o.given ∙ ap (λ (q : Outcomes). q.given) is ∙ two.outcomes in (
      two.programs,
      record {
        each = two.each;
        joined = subst (λ (c : Circuit). IsJoinOf (circuits two.programs) (record { circuit = c; spans = spans })) (sym same) two.joined;
        products = ap (λ (j : BoardJob). j.products) job_is ∙ ap (λ (c : Circuit). statics c.items) (sym same);
        complete = subst (Complete b.job (past b)) table complete;
      },
      two.count,
    )
