-- Tables of what a history says of its products.
use Rattle.std.proofs.Common.{◌≡◌, ◌≢◌, ℕ, zero, suc, ◌<◌, List, [], ◌∷◌, ◌++◌, length, get_or, refl, sym, ◌∙◌, ap, ap₂, arith, Bool, true, false, inl, inr, get_or-set_other, ◌≤◌}
use Rattle.std.proofs.Math.ListN.{set, length-set}
use mathlib.Core.Bool.{not, beq}
use Rattle.std.proofs.lemmas.Grind.{get_or-set_at}
use Rattle.std.proofs.lemmas.Bool.{cases_eq}
use Rattle.std.proofs.lemmas.Bool.Decides.{nat_tests}
use Rattle.std.specs.Prelude.{Option, Some, None, slice_get, unwrap_or, if◌then◌else◌, ◌==◌}
use Rattle.std.specs.Option.{option_or}
use Rattle.std.proofs.lemmas.List.{map-append}
use Rattle.pauli_product.specs.Signed.{Signed}
use Rattle.pauli_product.specs.Corrections.{xor}
use Rattle.source_model.specs.declared.Given.{Given}
use Rattle.source_model.specs.Outcomes.{raw_of}
use Rattle.board_core.specs.declared.Noted.{Noted}
use Rattle.board_core.specs.declared.Entry.{Entry}
use Rattle.board_core.specs.History.{entries, delivered, delivery_in}
use Rattle.board_core.specs.View.{claimed_axis, claimed_in}
use Rattle.board_core.proofs.Places.{or_else, claimed-append, delivered-append}
use Rattle.schedule_text.specs.inside.Bits.{Hears, Tells, claimed_sign, raw_outcome, turned_round}

-- a table that heard one thing more
pub tells_more : (n : ℕ) (f g h : ℕ → Option Bool) (was now : List (Option Bool)) → Tells n f was → Hears g was now → ((p : ℕ) → h p ≡ option_or (f p) (g p)) → Tells n h now
tells_more n f g h was now tells hears more = record {
  count = hears.count ∙ tells.count;
  each = λ p low.
      let within : p < length was = omega (arith, low, tells.count) in
      hears.each p within ∙ ap (λ o. option_or o (g p)) (tells.each p low) ∙ sym (more p);
}

claimed_one : (e : Entry) (p : ℕ) → claimed_axis (e ∷ []) p ≡ claimed_in p e
claimed_one e p = go (claimed_in p e)
  where
    go : (o : Option Signed) → (elim o [ None ↦ claimed_axis [] p | Some a ↦ Some a ]) ≡ o
    go None = refl
    go (Some a) = refl

delivered_one : (e : Entry) (p : ℕ) → delivered (e ∷ []) p ≡ delivery_in p e
delivered_one e p = go (delivery_in p e)
  where
    go : (o : Option Given) → (elim o [ None ↦ delivered [] p | Some g ↦ Some g ]) ≡ o
    go None = refl
    go (Some g) = refl

sign_first : (o o' : Option Signed) → claimed_sign (or_else o o') ≡ option_or (claimed_sign o) (claimed_sign o')
sign_first None o' = refl
sign_first (Some a) o' = refl

raw_first : (o o' : Option Given) → raw_outcome (or_else o o') ≡ option_or (raw_outcome o) (raw_outcome o')
raw_first None o' = refl
raw_first (Some g) o' = refl

entries_more : (done : List Noted) (n : Noted) → entries (done ++ n ∷ []) ≡ entries done ++ n.entry ∷ []
entries_more done n = map-append (λ (m : Noted). m.entry) done (n ∷ [])

pub sign_more : (done : List Noted) (n : Noted) (p : ℕ) → claimed_sign (claimed_axis (entries (done ++ n ∷ [])) p) ≡ option_or (claimed_sign (claimed_axis (entries done) p)) (claimed_sign (claimed_in p n.entry))
sign_more done n p =
    ap claimed_sign (ap (λ h. claimed_axis h p) (entries_more done n) ∙ (claimed-append (entries done) (n.entry ∷ []) p ∙ ap (λ o. or_else (claimed_axis (entries done) p) o) (claimed_one n.entry p)))
    ∙ sign_first (claimed_axis (entries done) p) (claimed_in p n.entry)

pub raw_more : (done : List Noted) (n : Noted) (p : ℕ) → raw_outcome (delivered (entries (done ++ n ∷ [])) p) ≡ option_or (raw_outcome (delivered (entries done) p)) (raw_outcome (delivery_in p n.entry))
raw_more done n p =
    ap raw_outcome (ap (λ h. delivered h p) (entries_more done n) ∙ (delivered-append (entries done) (n.entry ∷ []) p ∙ ap (λ o. or_else (delivered (entries done) p) o) (delivered_one n.entry p)))
    ∙ raw_first (delivered (entries done) p) (delivery_in p n.entry)

or_none : (o : Option Bool) → option_or o None ≡ o
or_none None = refl
or_none (Some b) = refl

-- nothing is said
pub hears_nothing : (f : ℕ → Option Bool) (said : List (Option Bool)) → ((p : ℕ) → p < length said → f p ≡ None) → Hears f said said
hears_nothing f said none = record {
  count = refl;
  each = λ p low. sym (ap (λ o. option_or (get_or said p None) o) (none p low) ∙ or_none (get_or said p None));
}

-- the effective outcome of a product
pub turned_at : (signs raws : List (Option Bool)) (p : ℕ) → p < length signs → p < length raws → slice_get (turned_round signs raws) p ≡ Some (xor (unwrap_or (get_or raws p None) false) (unwrap_or (get_or signs p None) false))
turned_at [] raws p low small = absurd (omega (arith, low))
turned_at (s ∷ ss) [] p low small = absurd (omega (arith, small))
turned_at (s ∷ ss) (r ∷ rs) zero low small = refl
turned_at (s ∷ ss) (r ∷ rs) (suc p) low small = turned_at ss rs p (omega (arith, low)) (omega (arith, small))

other_place : (q p : ℕ) (v : Bool) → q ≢ p → (if q == p then Some v else None) ≡ None
other_place q p v other = let e : (q == p) ≡ false = grind (arith, nat_tests) in ap (λ b. if b then Some v else None) e

this_place : (q p : ℕ) (v : Bool) → q ≡ p → (if q == p then Some v else None) ≡ Some v
this_place q p v same = let e : (q == p) ≡ true = grind (arith, nat_tests) in ap (λ b. if b then Some v else None) e

-- a product past the table says nothing
pub hears_past : (said : List (Option Bool)) (q : ℕ) (v : Bool) → length said ≤ q → Hears (λ p. if q == p then Some v else None) said said
hears_past said q v past = hears_nothing (λ p. if q == p then Some v else None) said (λ p low. other_place q p v (λ e. omega (arith, e, low, past)))

-- what is said of one product
pub hears_at : (said : List (Option Bool)) (q : ℕ) (v : Bool) (x : Option Bool) → q < length said → x ≡ option_or (get_or said q None) (Some v) → Hears (λ p. if q == p then Some v else None) said (set said q x)
hears_at said q v x within is = record {
  count = length-set said q x;
  each = λ p low. elim (cases_eq p q) [
    | inl same ↦
        get_or-set_at said q p x None same within ∙ (is ∙ ap₂ (λ n o. option_or (get_or said n None) o) (sym same) (sym (this_place q p v (sym same))))
    | inr other ↦
        get_or-set_other said q p x None other ∙ (sym (or_none (get_or said p None)) ∙ ap (λ o. option_or (get_or said p None) o) (sym (other_place q p v (λ e. other (sym e)))))
  ];
}

pub hears_as : (f g : ℕ → Option Bool) (was now : List (Option Bool)) → ((p : ℕ) → f p ≡ g p) → Hears g was now → Hears f was now
hears_as f g was now same hears = record {
  count = hears.count;
  each = λ p low. hears.each p low ∙ ap (λ o. option_or (get_or was p None) o) (sym (same p));
}

pub sign_said : (q p : ℕ) (axis : Signed) → claimed_sign (if q == p then Some axis else None) ≡ (if q == p then Some axis.sign else None)
sign_said q p axis = elim (q == p) as (λ b. claimed_sign (if b then Some axis else None) ≡ (if b then Some axis.sign else None)) [ true ↦ refl | false ↦ refl ]

pub raw_said : (q p : ℕ) (g : Given) → raw_outcome (if q == p then Some g else None) ≡ (if q == p then Some (raw_of g) else None)
raw_said q p g = elim (q == p) as (λ b. raw_outcome (if b then Some g else None) ≡ (if b then Some (raw_of g) else None)) [ true ↦ refl | false ↦ refl ]

-- inside a list the default says nothing
pub any_default : (xs : List (Option Bool)) (p : ℕ) (d e : Option Bool) → p < length xs → get_or xs p d ≡ get_or xs p e
any_default [] p d e low = absurd (omega (arith, low))
any_default (x ∷ xs) zero d e low = refl
any_default (x ∷ xs) (suc p) d e low = any_default xs p d e (omega (arith, low))

pub differ_is_xor : (r s : Bool) → not (beq r s) ≡ xor r s
differ_is_xor true true = refl
differ_is_xor true false = refl
differ_is_xor false true = refl
differ_is_xor false false = refl
