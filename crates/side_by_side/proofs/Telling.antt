-- What a history delivers, entry by entry.
use Rattle.std.proofs.Common.{◌≡◌, ◌≢◌, ℕ, ◌<◌, ◌≤◌, List, [], ◌∷◌, ◌++◌, length, get_or, refl, sym, ◌∙◌, ap, ap₂, arith, true, false, inl, inr, get_or-set_other, set}
use Rattle.std.proofs.Math.ListN.{length-set}
use Rattle.std.proofs.lemmas.Grind.{get_or-set_at}
use Rattle.std.proofs.lemmas.Bool.{cases_eq}
use Rattle.std.proofs.lemmas.Bool.Decides.{nat_tests}
use Rattle.std.specs.Prelude.{Option, Some, None, if◌then◌else◌, ◌==◌}
use Rattle.std.specs.Option.{option_or}
use Rattle.source_model.specs.declared.Given.{Given}
use Rattle.board_core.specs.declared.Noted.{Noted}
use Rattle.board_core.specs.declared.Entry.{Entry}
use Rattle.board_core.specs.History.{entries, delivered, delivery_in}
use Rattle.board_core.proofs.Laws.{deliveries_go_on}
use Rattle.std.proofs.lemmas.List.{map-append}
use Rattle.side_by_side.specs.inside.Told.{Hears, Tells}

-- a table that heard one thing more
pub tells_more : (n : ℕ) (f g h : ℕ → Option Given) (was now : List (Option Given)) → Tells n f was → Hears g was now → ((p : ℕ) → h p ≡ option_or (f p) (g p)) → Tells n h now
tells_more n f g h was now tells hears more = record {
  count = hears.count ∙ tells.count;
  each = λ p low.
      let within : p < length was = omega (arith, low, tells.count) in
      hears.each p within ∙ ap (λ o. option_or o (g p)) (tells.each p low) ∙ sym (more p);
}

delivered_one : (e : Entry) (p : ℕ) → delivered (e ∷ []) p ≡ delivery_in p e
delivered_one e p = go (delivery_in p e)
  where
    go : (o : Option Given) → (elim o [ None ↦ delivered [] p | Some g ↦ Some g ]) ≡ o
    go None = refl
    go (Some g) = refl

pub delivered_more : (done : List Noted) (n : Noted) (p : ℕ) → delivered (entries (done ++ n ∷ [])) p ≡ option_or (delivered (entries done) p) (delivery_in p n.entry)
delivered_more done n p =
    ap (λ h. delivered h p) (map-append (λ (m : Noted). m.entry) done (n ∷ []))
    ∙ deliveries_go_on (entries done) (n.entry ∷ []) p
    ∙ ap (option_or (delivered (entries done) p)) (delivered_one n.entry p)

or_none : (o : Option Given) → option_or o None ≡ o
or_none None = refl
or_none (Some b) = refl

-- nothing is told
pub hears_nothing : (f : ℕ → Option Given) (told : List (Option Given)) → ((p : ℕ) → p < length told → f p ≡ None) → Hears f told told
hears_nothing f told none = record {
  count = refl;
  each = λ p low. sym (ap (option_or (get_or told p None)) (none p low) ∙ or_none (get_or told p None));
}

other_place : (q p : ℕ) (v : Given) → q ≢ p → (if q == p then Some v else None) ≡ None
other_place q p v other = let e : (q == p) ≡ false = grind (arith, nat_tests) in ap (λ b. if b then Some v else None) e

this_place : (q p : ℕ) (v : Given) → q ≡ p → (if q == p then Some v else None) ≡ Some v
this_place q p v same = let e : (q == p) ≡ true = grind (arith, nat_tests) in ap (λ b. if b then Some v else None) e

-- a product past the table tells nothing
pub hears_past : (told : List (Option Given)) (q : ℕ) (v : Given) → length told ≤ q → Hears (λ p. if q == p then Some v else None) told told
hears_past told q v past = hears_nothing (λ p. if q == p then Some v else None) told (λ p low. other_place q p v (λ e. omega (arith, e, low, past)))

-- what is told of one product
pub hears_at : (told : List (Option Given)) (q : ℕ) (v : Given) (x : Option Given) → q < length told → x ≡ option_or (get_or told q None) (Some v) → Hears (λ p. if q == p then Some v else None) told (set told q x)
hears_at told q v x within is = record {
  count = length-set told q x;
  each = λ p low. elim (cases_eq p q) [
    | inl same ↦
        get_or-set_at told q p x None same within ∙ (is ∙ ap₂ (λ n o. option_or (get_or told n None) o) (sym same) (sym (this_place q p v (sym same))))
    | inr other ↦
        get_or-set_other told q p x None other ∙ (sym (or_none (get_or told p None)) ∙ ap (option_or (get_or told p None)) (sym (other_place q p v (λ e. other (sym e)))))
  ];
}
