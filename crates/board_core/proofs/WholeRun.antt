-- What a written history promises, of a legal history that is complete for a table.
use Rattle.std.proofs.Common.{◌≡◌, ℕ, List, [], ◌∷◌, ◌++◌, suc, length, take, Some, slice_get, refl, ap, sym, ◌∙◌, arith}
use Rattle.std.proofs.lemmas.Option.{same_Some, slice_get_within}
use Rattle.std.proofs.lemmas.List.{length-map}
use Rattle.std.proofs.lemmas.List.Elements.{All-nil, All-cons, All-head, All-tail, All-push}
use Rattle.pauli_product.specs.Signed.{Signed, OfLength}
use Rattle.pauli_product.specs.Pulls.{Turn, turn, quarter, half, pull, TurnsOfLength}
use Rattle.pauli_product.proofs.Turns.{length_pull}
use Rattle.source_model.specs.declared.Angle.TheVariants.{Eighth, Quarter, Half}
use Rattle.source_model.specs.declared.Item.{Item}
use Rattle.source_model.specs.declared.Item.TheVariants as item
use Rattle.source_model.specs.declared.Given.{Given}
use Rattle.source_model.specs.declared.Kind.{Kind}
use Rattle.source_model.specs.declared.Kind.TheVariants as kind
use Rattle.source_model.specs.declared.Static.{Static}
use Rattle.source_model.specs.SourceRun.{axis_of, axes}
use Rattle.source_model.specs.Statics.{statics_from, statics}
use Rattle.source_model.specs.Circuits.{AxesOfLength, OutcomesOf, RightKinds, kinds}
use Rattle.source_model.proofs.EqualRuns.{statics_run_alike}
use Rattle.source_model.proofs.SameKinds.{statics_keep_kinds}
use Rattle.patch_layout.specs.Grid.{Grid}
use Rattle.magic_pool.specs.declared.Fail.{Fail}
use Rattle.board_core.specs.declared.Entry.TheVariants.{Deliver}
use Rattle.board_core.specs.History.{History, delivered}
use Rattle.board_core.specs.Legal.{BoardJob, AxisOf, Legal, Complete, CompleteAt, IsKind}
use Rattle.board_core.specs.Headline.{job_of, IsOneLegalHistory}
use Rattle.board_core.specs.Laws.{DeliversBelow, ProductsOfLength, Agrees}
use Rattle.board_core.proofs.Tables.{entry_of}
use Rattle.board_core.proofs.LegalOrder.{delivered_at, legal_order, legal_claims}
use Rattle.board_core.proofs.Known.{axis_known}
use Rattle.board_core.proofs.Going.{legal_take}
use Rattle.board_core.proofs.Apart.{one_holder, states_once}

-- ---- lengths
head : (n : ℕ) (i : Item) (is : List Item) → AxesOfLength n (i ∷ is) → OfLength n (axis_of i)
head n i is h = All-head (λ i. OfLength n (axis_of i)) i is h

rest : (n : ℕ) (i : Item) (is : List Item) → AxesOfLength n (i ∷ is) → AxesOfLength n is
rest n i is h = All-tail (λ i. OfLength n (axis_of i)) i is h

one_more : (n : ℕ) (turns : List Turn) (axis : Signed) (k : Kind) (ss : List Static) → TurnsOfLength n turns → OfLength n axis → ProductsOfLength n ss → ProductsOfLength n (record { axis = pull turns axis; kind = k } ∷ ss)
one_more n turns axis k ss t e h = All-cons (λ s. OfLength n s.axis) (record { axis = pull turns axis; kind = k }) ss (length_pull n turns axis t e) h

push : (n : ℕ) (turns : List Turn) (u : Turn) → TurnsOfLength n turns → OfLength n u.axis → TurnsOfLength n (turns ++ u ∷ [])
push n turns u t e = All-push (λ u. OfLength n u.axis) turns u t e

statics_from_length : (n : ℕ) (turns : List Turn) (items : List Item) → TurnsOfLength n turns → AxesOfLength n items → ProductsOfLength n (statics_from turns items)
statics_from_length n turns [] t h = All-nil (λ s. OfLength n s.axis)
statics_from_length n turns (item.Turn axis Eighth ∷ is) t h =
    let i = item.Turn axis Eighth in
    one_more n turns axis kind.Rotation (statics_from turns is) t (head n i is h) (statics_from_length n turns is t (rest n i is h))
statics_from_length n turns (item.Turn axis Quarter ∷ is) t h =
    let i = item.Turn axis Quarter in
    statics_from_length n (turns ++ turn axis quarter ∷ []) is (push n turns (turn axis quarter) t (head n i is h)) (rest n i is h)
statics_from_length n turns (item.Turn axis Half ∷ is) t h =
    let i = item.Turn axis Half in
    statics_from_length n (turns ++ turn axis half ∷ []) is (push n turns (turn axis half) t (head n i is h)) (rest n i is h)
statics_from_length n turns (item.Measure axis bit ∷ is) t h =
    let i = item.Measure axis bit in
    one_more n turns axis (kind.Measure bit) (statics_from turns is) t (head n i is h) (statics_from_length n turns is t (rest n i is h))
statics_from_length n turns (item.If axis first size value ∷ is) t h =
    let i = item.If axis first size value in
    one_more n turns axis (kind.Settle first size value) (statics_from turns is) t (head n i is h) (statics_from_length n turns is t (rest n i is h))

pub statics_length : (n : ℕ) (items : List Item) → AxesOfLength n items → ProductsOfLength n (statics items)
statics_length n items h = statics_from_length n [] items (All-nil (λ u. OfLength n u.axis)) h

-- ---- the table has what a complete history delivers
same_outcome : (h : History) (q : ℕ) (g x : Given) (k : Kind) → IsKind k x → CompleteAt h q g k → delivered h q ≡ Some x → g ≡ x
same_outcome h q g x kind.Rotation i c e = same_Some g x (sym c.1 ∙ e)
same_outcome h q g x (kind.Measure bit) i c e = same_Some g x (sym c.1 ∙ e)
same_outcome h q g x (kind.Settle first size value) i c e = absurd i

complete_agrees : (j : BoardJob) (table : List Given) (h : History) → length table ≡ length j.products → Legal j h → Complete j h table → Agrees table h
complete_agrees j table h l legal complete q x e =
    let at = delivered_at h q x e in
    let a = legal at.0 (Deliver q x) at.1 in
    let s = a.2 in
    let g = entry_of table q (let k = slice_get_within j.products q s.0 s.1 in omega arith) in
    g.1 ∙ ap Some (same_outcome h q g.0 x s.0.kind s.2 (complete q s.0 g.0 s.1 g.1) e)

outcomes_length : (ks : List Kind) (gs : List Given) → OutcomesOf ks gs → length gs ≡ length ks
outcomes_length [] [] h = refl
outcomes_length [] (g ∷ gs) h = absurd h
outcomes_length (k ∷ ks) [] h = absurd h
outcomes_length (k ∷ ks) (g ∷ gs) h = ap suc (outcomes_length ks gs h.1)

-- a table of the right kinds has one outcome for each static product
pub table_length : (items : List Item) (table : List Given) → RightKinds items table → length table ≡ length (statics items)
table_length items table h = outcomes_length (kinds items) table h ∙ ap length (sym (statics_keep_kinds items)) ∙ length-map (statics items) (λ s. s.kind)

-- the axis by the circuit's own run
pub own_axis_known : (n : ℕ) (items : List Item) (grid : Grid) (fails : List Fail) (h : History) (table : List Given) (p : ℕ) (axis : Signed) → AxesOfLength n items → RightKinds items table → DeliversBelow (job_of items grid fails) h table p → slice_get (axes items table) p ≡ Some axis → AxisOf (job_of items grid fails) h p axis
own_axis_known n items grid fails h table p axis long kinds_fit below e =
    axis_known (job_of items grid fails) h table p axis (table_length items table kinds_fit) below (ap (λ found. slice_get found p) (sym (statics_run_alike n items table long)) ∙ e)

pub legal_run : (n : ℕ) (items : List Item) (grid : Grid) (fails : List Fail) (table : List Given) (h : History) → AxesOfLength n items → RightKinds items table → Legal (job_of items grid fails) h → Complete (job_of items grid fails) h table → IsOneLegalHistory items grid fails table h
legal_run n items grid fails table h long kinds_fit legal complete =
    let l = table_length items table kinds_fit in
    let j = job_of items grid fails in
    let agrees = complete_agrees j table h l legal complete in
    let of_length = statics_length n items long in
    record {
      legal = legal;
      complete = complete;
      apart = λ m p q c x y. one_holder j (take m h) p q c (legal_take j h m legal) x y;
      states = states_once j h legal;
      order = legal_order n j table of_length l h legal agrees;
      axes_are = λ p axis e. ap (λ found. slice_get found p) (statics_run_alike n items table long) ∙ legal_claims n j table of_length l h p axis legal agrees e;
    }
