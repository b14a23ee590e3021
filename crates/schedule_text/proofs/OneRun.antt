-- What a complete history says of its measurements is what the source run says.
use Rattle.std.proofs.Common.{◌≡◌, ℕ, zero, suc, ◌<◌, List, [], ◌∷◌, length, get_or, refl, sym, ◌∙◌, ap, ap₂, subst, arith, Bool, true, false}
use Rattle.std.specs.Prelude.{Option, Some, None, slice_get, unwrap_or}
use Rattle.std.specs.Option.{option_map}
use Rattle.std.proofs.lemmas.Option.{slice_get-map}
use Rattle.pauli_product.specs.Signed.{Signed}
use Rattle.pauli_product.specs.Corrections.{xor, effective}
use Rattle.source_model.specs.declared.Item.{Item}
use Rattle.source_model.specs.declared.Given.{Given}
use Rattle.source_model.specs.declared.Kind.{Kind}
use Rattle.source_model.specs.declared.Kind.TheVariants as kind
use Rattle.source_model.specs.declared.Static.{Static}
use Rattle.source_model.specs.Bits.{effective_outcomes, writes}
use Rattle.source_model.specs.Circuits.{kinds, RightKinds}
use Rattle.source_model.specs.Outcomes.{raw_of}
use Rattle.source_model.specs.SourceRun.{axes, fresh}
use Rattle.source_model.specs.Statics.{statics}
use Rattle.source_model.proofs.SameKinds.{statics_keep_kinds}
use Rattle.patch_layout.specs.Grid.{Grid}
use Rattle.magic_pool.specs.declared.Fail.{Fail}
use Rattle.board_core.specs.History.{History, delivered}
use Rattle.board_core.specs.Legal.{CompleteAt}
use Rattle.board_core.specs.Headline.{IsOneLegalHistory}
use Rattle.board_core.specs.View.{claimed_axis}
use Rattle.board_core.proofs.Places.{claimed_place, some_of}
use Rattle.schedule_text.specs.inside.Bits.{Tells, claimed_sign, raw_outcome, turned_round}
use Rattle.schedule_text.proofs.Hearing.{turned_at}
use Rattle.schedule_text.proofs.LastWritten.{AgreeOn, axis_stands, outcome_stands, effective_at}

-- a measurement's raw outcome, turned round by the sign of its claim, is the effective one about its axis
measured : (h : History) (p : ℕ) (b : ℕ) (k : Kind) (g : Given) (a : Signed) → CompleteAt h p g k → writes k b ≡ true → ((axis : Signed) → claimed_axis h p ≡ Some axis → axis ≡ a) → xor (unwrap_or (raw_outcome (delivered h p)) false) (unwrap_or (claimed_sign (claimed_axis h p)) false) ≡ effective a (raw_of g)
measured h p b kind.Rotation g a complete w claims = absurd (cc)
measured h p b (kind.Measure bit) g a complete w claims =
    let (axis, claimed) = some_of (claimed_axis h p) (sym (claimed_place h p) ∙ complete.0) in
    ap₂ xor (ap (λ o. unwrap_or (raw_outcome o) false) complete.1) (ap (λ o. unwrap_or (claimed_sign o) false) claimed ∙ ap (λ (x : Signed). x.sign) (claims axis claimed))
measured h p b (kind.Settle first size value) g a complete w claims = absurd (cc)

within : {X : Type 0} (xs : List X) (p : ℕ) (x : X) → slice_get xs p ≡ Some x → p < length xs
within [] p x e = absurd (cc)
within (y ∷ ys) zero x e = omega arith
within (y ∷ ys) (suc p) x e = omega (arith, within ys p x e)

some_back : (o : Option Static) (k : Kind) → option_map (λ (s : Static). s.kind) o ≡ Some k → (s : Static) × (o ≡ Some s) × (s.kind ≡ k)
some_back None k e = absurd (cc)
some_back (Some s) k e = (s, refl, cc)

pub run_agrees : (items : List Item) (grid : Grid) (fails : List Fail) (table : List Given) (h : History) (n : ℕ) (signs raws : List (Option Bool)) (b : ℕ) → RightKinds items table → IsOneLegalHistory items grid fails table h → n ≡ length (statics items) → Tells n (λ p. claimed_sign (claimed_axis h p)) signs → Tells n (λ p. raw_outcome (delivered h p)) raws → AgreeOn b (kinds items) (turned_round signs raws) (effective_outcomes (axes items table) table)
run_agrees items grid fails table h n signs raws b right is count told heard p k e =
    let kept = statics_keep_kinds items in
    let mapped : option_map (λ (s : Static). s.kind) (slice_get (statics items) p) ≡ Some k = sym (slice_get-map (λ (s : Static). s.kind) (statics items) p) ∙ (ap (λ ks. slice_get ks p) kept ∙ e) in
    let (s, product_at, kind_is) = some_back (slice_get (statics items) p) k mapped in
    let low : p < n = omega (arith, within (statics items) p s product_at, count) in
    let (g, table_at) = outcome_stands (kinds items) table p k right e in
    let (a, axis_at) = axis_stands fresh items table p k e in
    let P : Kind → Type 0 = λ x. CompleteAt h p g x in
    let complete : CompleteAt h p g k = subst P kind_is (is.complete p s g product_at table_at) in
    let claims : (axis : Signed) → claimed_axis h p ≡ Some axis → axis ≡ a = λ axis claimed. let at = is.axes_are p axis claimed in cc in
    let turned = turned_at signs raws p (omega (arith, low, told.count)) (omega (arith, low, heard.count)) in
    let same : xor (unwrap_or (get_or raws p None) false) (unwrap_or (get_or signs p None) false) ≡ xor (unwrap_or (raw_outcome (delivered h p)) false) (unwrap_or (claimed_sign (claimed_axis h p)) false) =
    ap₂ xor (ap (λ o. unwrap_or o false) (heard.each p low)) (ap (λ o. unwrap_or o false) (told.each p low)) in
    (_, _, turned, effective_at (axes items table) table p a g axis_at table_at, λ w. same ∙ measured h p b k g a complete w claims)
