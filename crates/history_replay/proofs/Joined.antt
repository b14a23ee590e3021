-- Entries that join, one by one.
use Rattle.std.proofs.Common.{◌≡◌, ◌↔◌, ℕ, zero, suc, List, [], ◌∷◌, ◌++◌, refl, sym, ◌∙◌, ap, subst, arith, append_assoc, append-nil}
use Rattle.std.specs.Prelude.{Option, Some, is_some, All, flat_map}
use Rattle.std.proofs.lemmas.Option.{same_Some}
use Rattle.std.proofs.lemmas.Grind.{flat_map-append}
use Rattle.std.proofs.lemmas.List.Elements.{All-append}
use Rattle.pauli_product.specs.Signed.{Signed}
use Rattle.source_model.specs.declared.Given.{Given}
use Rattle.source_model.specs.declared.Kind.{Kind}
use Rattle.source_model.specs.declared.Kind.TheVariants as kind
use Rattle.source_model.specs.declared.Static.{Static}
use Rattle.patch_layout.specs.Grid.{Grid}
use Rattle.patch_layout.specs.declared.plan.Plan.{Plan}
use Rattle.patch_layout.specs.Certificate.{Certified}
use Rattle.patch_layout.specs.Case.{case_of, Ascending}
use Rattle.patch_layout.specs.Region.{Fit}
use Rattle.board_core.specs.declared.Noted.{Noted}
use Rattle.magic_pool.specs.Recount.{ready_of, first_of_list}
use Rattle.board_core.specs.History.{History, entries, steps, taken_states}
use Rattle.board_core.specs.Legal.{BoardJob, Legal, Allowed, ClaimAllowed, TakesState}
use Rattle.board_core.proofs.Going.{legal_next, legal_empty}
use Rattle.board_core.proofs.KeptLegal.{entries_push}
use Rattle.schedule_text.specs.Text.{Version, ended}
use Rattle.schedule_text.specs.Lines.{IsEntryLine}
use Rattle.history_replay.specs.Replay.{Agrees, AreEntryLines}
use Rattle.history_replay.specs.inside.Joining.{CertifiedAs, AgreeAll, Begins}

-- a claim takes one state
state_of : (j : BoardJob) (h : History) (k : Kind) (through s t : Option ℕ) → TakesState j h k through s → TakesState j h k through t → s ≡ t
state_of j h kind.Rotation through s t (f, x, at, is, least) (g, y, at', is', least') =
    let same : f ≡ g = same_Some f g (sym at ∙ at') in
    let P : ℕ → Type 0 = λ m. first_of_list (ready_of j.fails (steps h) (taken_states h) m) ≡ Some x in
    is ∙ (sym (subst P same least) ∙ (least' ∙ sym is'))
state_of j h (kind.Measure bit) through s t (none, is) (none', is') = is ∙ sym is'
state_of j h (kind.Settle first size value) through s t a b = absurd a

pub one_state : (j : BoardJob) (h : History) (p : ℕ) (axis : Signed) (through s t : Option ℕ) (cells : List ℕ) → ClaimAllowed j h p axis through s cells → ClaimAllowed j h p axis through t cells → s ≡ t
one_state j h p axis through s t cells a b =
    let (x, at, takes) = a.product in
    let (y, at', takes') = b.product in
    let P : Static → Type 0 = λ z. TakesState j h z.kind through t in
    state_of j h x.kind through s t takes (subst P (same_Some y x (sym at' ∙ at)) takes')

-- a certificate of the plan's own parts
pub certified_as : (g : Grid) (plan : Plan) (axis : Signed) (port : Option ℕ) (cells : List ℕ) (of : Grid) → of ≡ g → plan.axis ≡ axis → plan.port ≡ port → plan.cells ≡ cells → (Certified (case_of of (is_some port) plan) ↔ (Ascending cells × Fit of axis port cells)) → CertifiedAs g plan
certified_as g plan axis port cells of same a p c is =
    let P : Grid → Type 0 = λ x. Certified (case_of x (is_some port) plan) ↔ (Ascending cells × Fit x axis port cells) in
    let Q : List ℕ → Type 0 = λ x. Certified (case_of g (is_some port) plan) ↔ (Ascending x × Fit g axis port x) in
    let R : Signed → Type 0 = λ x. Certified (case_of g (is_some port) plan) ↔ (Ascending plan.cells × Fit g x port plan.cells) in
    let S : Option ℕ → Type 0 = λ x. Certified (case_of g (is_some x) plan) ↔ (Ascending plan.cells × Fit g plan.axis x plan.cells) in
    subst S (sym p) (subst R (sym a) (subst Q (sym c) (subst P same is)))

-- ---- entry lines from a place on
pub begins_here : (j : BoardJob) (table : List Given) (v : Version) (text : List ℕ) (h : List Noted) → h ≡ [] → Begins j table v text h text
begins_here j table v text h none =
    let P : List Noted → Type 0 = λ x. AreEntryLines v [] x in
    let Q : List Noted → Type 0 = λ x. Legal j (entries x) in
    let R : List Noted → Type 0 = λ x. AgreeAll table x in
    record {
      said = [];
      text_is = refl;
      lines = subst P (sym none) tt;
      legal = subst Q (sym none) (legal_empty j);
      agree = subst R (sym none) (λ k d l. absurd (omega (arith, l)));
    }

lines_more : (v : Version) (said : List (List ℕ)) (h : List Noted) (line : List ℕ) (n : Noted) → AreEntryLines v said h → IsEntryLine v line n → AreEntryLines v (said ++ line ∷ []) (h ++ n ∷ [])
lines_more v [] [] line n a is = (is, tt)
lines_more v [] (m ∷ h) line n a is = absurd a
lines_more v (l ∷ ls) [] line n a is = absurd a
lines_more v (l ∷ ls) (m ∷ h) line n (a, as') is = (a, lines_more v ls h line n as' is)

single : (table : List Given) (n : Noted) → Agrees table n.entry → AgreeAll table (n ∷ [])
single table n agrees zero d l = agrees
single table n agrees (suc k) d l = absurd (omega (arith, l))

pub begins_more : (j : BoardJob) (table : List Given) (v : Version) (text rest more line : List ℕ) (h new : List Noted) (n : Noted) → Begins j table v text h rest → rest ≡ line ++ 10 ∷ more → IsEntryLine v line n → Allowed j (entries h) n.entry → Agrees table n.entry → new ≡ h ++ n ∷ [] → Begins j table v text new more
begins_more j table v text rest more line h new n b e is allowed agrees grows =
    let P : List Noted → Type 0 = λ x. AreEntryLines v (b.said ++ line ∷ []) x in
    let Q : List Noted → Type 0 = λ x. Legal j (entries x) in
    let R : List Noted → Type 0 = λ x. AgreeAll table x in
    let S : History → Type 0 = λ x. Legal j x in
    let one : All (λ m. Agrees table m.entry) (n ∷ []) = single table n agrees in
    let legal : Legal j (entries (h ++ n ∷ [])) = subst S (sym (entries_push h n.by n.entry)) (legal_next j (entries h) n.entry b.legal allowed) in
    record {
      said = b.said ++ line ∷ [];
      text_is = b.text_is ∙ (ap (λ t. flat_map ended b.said ++ t) (e ∙ sym (append_assoc line (10 ∷ []) more)) ∙ (sym (append_assoc (flat_map ended b.said) (line ++ 10 ∷ []) more) ∙ ap (λ t. t ++ more) (whole b.said)));
      lines = subst P (sym grows) (lines_more v b.said h line n b.lines is);
      legal = subst Q (sym grows) legal;
      agree = subst R (sym grows) (All-append (λ m. Agrees table m.entry) h (n ∷ []) b.agree one);
    }
  where
    whole : (said : List (List ℕ)) → flat_map ended said ++ (line ++ 10 ∷ []) ≡ flat_map ended (said ++ line ∷ [])
    whole said = ap (λ t. flat_map ended said ++ t) (sym (append-nil (line ++ 10 ∷ []))) ∙ sym (flat_map-append ended said (line ∷ []))
