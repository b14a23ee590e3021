-- A circuit and its static circuit run alike.
use Rattle.std.proofs.Common.{◌≡◌, ℕ, Bool, true, false, List, [], ◌∷◌, ◌++◌, ◌==◌, if◌then◌else◌, refl, ap, ap₂, sym, ◌∙◌}
use Rattle.std.proofs.lemmas.List.Elements.{All-nil, All-head, All-tail, All-push}
use Rattle.pauli_product.specs.Signed.{Signed, OfLength}
use Rattle.pauli_product.specs.Bits.{number_of}
use Rattle.pauli_product.specs.Pulls.{Angle, Turn, turn, quarter, half, conj, pull, TurnsOfLength, SameAngles}
use Rattle.pauli_product.specs.Corrections.{effective, corrections}
use Rattle.pauli_product.proofs.Laws.{conj_length, pull_cut, pull_turns, about_long, pull_length, alike_about, corrections_alike}
use Rattle.source_model.specs.declared.Angle.TheVariants.{Eighth, Quarter, Half}
use Rattle.source_model.specs.declared.Item.{Item}
use Rattle.source_model.specs.declared.Item.TheVariants as item
use Rattle.source_model.specs.declared.Given.{Given}
use Rattle.source_model.specs.Outcomes.{raw_of, x_of, bit_of}
use Rattle.source_model.specs.SourceRun.{Progress, fresh, turned, axis_in, flips, axis_of, next_of, rest_of, axes_from, axes, progress_after, bit_after}
use Rattle.source_model.specs.Circuits.{AxesOfLength}
use Rattle.source_model.specs.Statics.{statics_from, statics, static_items}

-- a run of the items behind their own Cliffords, and a run of the static items
record Tied (n : ℕ) (own : List Turn) (f g : Progress) : Type 0 where
  pulls : (p : Signed) → OfLength n p → pull f.turns p ≡ pull g.turns (pull own p)
  writes : f.writes ≡ g.writes
  long : TurnsOfLength n own

-- the circuit's own Cliffords
own_next : (n : ℕ) (own : List Turn) (f g : Progress) (axis : Signed) (a : Angle) → OfLength n axis → Tied n own f g → Tied n (own ++ turn axis a ∷ []) (turned (turn axis a ∷ []) f) g
own_next n own f g axis a e t = record {
  pulls = λ p l.
      pull_cut f.turns (turn axis a ∷ []) p
      ∙ t.pulls (conj axis a p) (conj_length n axis a p e l)
      ∙ ap (pull g.turns) (sym (pull_cut own (turn axis a ∷ []) p));
  writes = t.writes;
  long = All-push (λ u. OfLength n u.axis) own (turn axis a) t.long e;
}

-- turns that products leave
left_next : (n : ℕ) (own : List Turn) (f g : Progress) (axis : Signed) (us ts : List Turn) → OfLength n axis → SameAngles (pull own axis) axis ts us → Tied n own f g → Tied n own (turned us f) (turned ts g)
left_next n own f g axis us ts e s t = record {
  pulls = λ p l.
      let about = alike_about (pull own axis) axis ts us s in
      pull_cut f.turns us p
      ∙ t.pulls (pull us p) (pull_length n us p (about_long n axis us e about.1) l)
      ∙ ap (pull g.turns) (pull_turns n own axis ts us p t.long e l s)
      ∙ sym (pull_cut g.turns ts (pull own p));
  writes = t.writes;
  long = t.long;
}

written_next : (n : ℕ) (own : List Turn) (f g : Progress) (bit : ℕ) (x y : Bool) → x ≡ y → Tied n own f g → Tied n own (record f { writes = (bit, x) ∷ f.writes }) (record g { writes = (bit, y) ∷ g.writes })
written_next n own f g bit x y e t = record { pulls = t.pulls; writes = ap₂ (λ z w. (bit, z) ∷ w) e t.writes; long = t.long }

eighth_next : (n : ℕ) (own : List Turn) (f g : Progress) (axis : Signed) (raw x : Bool) → OfLength n axis → Tied n own f g → Tied n own (turned (corrections (axis_in f axis) axis raw x) f) (turned (corrections (axis_in g (pull own axis)) (pull own axis) raw x) g)
eighth_next n own f g axis raw x e t =
    let a = axis_in f axis in
    rw (← (t.pulls axis e)) (left_next n own f g axis (corrections a axis raw x) (corrections a (pull own axis) raw x) e (corrections_alike a (pull own axis) axis raw x) t)

settled_next : (n : ℕ) (own : List Turn) (f g : Progress) (axis : Signed) (first size value : ℕ) → OfLength n axis → Tied n own f g →
    Tied n own (if flips f first size value then turned (turn axis half ∷ []) f else f) (if flips g first size value then turned (turn (pull own axis) half ∷ []) g else g)
settled_next n own f g axis first size value e t =
    let same : flips f first size value ≡ flips g first size value = ap (λ w. number_of (bit_of w) first size == value) t.writes in
    rw same (cases (flips g first size value))
  where
    cases : (b : Bool) → Tied n own (if b then turned (turn axis half ∷ []) f else f) (if b then turned (turn (pull own axis) half ∷ []) g else g)
    cases true = left_next n own f g axis (turn axis half ∷ []) (turn (pull own axis) half ∷ []) e (refl, refl, refl, tt) t
    cases false = t

-- the same axes, and the same bits written
record Same (f g : Progress) (items items' : List Item) (gs : List Given) : Type 0 where
  same_axes : axes_from f items gs ≡ axes_from g items' gs
  same_writes : (progress_after f items gs).writes ≡ (progress_after g items' gs).writes

items_head : (n : ℕ) (i : Item) (is : List Item) → AxesOfLength n (i ∷ is) → OfLength n (axis_of i)
items_head n i is h = All-head (λ i. OfLength n (axis_of i)) i is h

items_tail : (n : ℕ) (i : Item) (is : List Item) → AxesOfLength n (i ∷ is) → AxesOfLength n is
items_tail n i is h = All-tail (λ i. OfLength n (axis_of i)) i is h

same_from : (n : ℕ) (own : List Turn) (f g : Progress) (items : List Item) (gs : List Given) → AxesOfLength n items → Tied n own f g → Same f g items (static_items (statics_from own items)) gs
same_from n own f g [] gs h t = record { same_axes = refl; same_writes = t.writes }
same_from n own f g (item.Turn axis Eighth ∷ is) gs h t =
    let e = items_head n (item.Turn axis Eighth) is h in
    let here = t.pulls axis e in
    let o = next_of gs in
    let rest = same_from n own (turned (corrections (axis_in f axis) axis (raw_of o) (x_of o)) f) (turned (corrections (axis_in g (pull own axis)) (pull own axis) (raw_of o) (x_of o)) g) is (rest_of gs) (items_tail n (item.Turn axis Eighth) is h) (eighth_next n own f g axis (raw_of o) (x_of o) e t) in
    record { same_axes = ap₂ ◌∷◌ here rest.same_axes; same_writes = rest.same_writes }
same_from n own f g (item.Turn axis Quarter ∷ is) gs h t =
    let rest = same_from n (own ++ turn axis quarter ∷ []) (turned (turn axis quarter ∷ []) f) g is gs (items_tail n (item.Turn axis Quarter) is h) (own_next n own f g axis quarter (items_head n (item.Turn axis Quarter) is h) t) in
    record { same_axes = rest.same_axes; same_writes = rest.same_writes }
same_from n own f g (item.Turn axis Half ∷ is) gs h t =
    let rest = same_from n (own ++ turn axis half ∷ []) (turned (turn axis half ∷ []) f) g is gs (items_tail n (item.Turn axis Half) is h) (own_next n own f g axis half (items_head n (item.Turn axis Half) is h) t) in
    record { same_axes = rest.same_axes; same_writes = rest.same_writes }
same_from n own f g (item.Measure axis bit ∷ is) gs h t =
    let e = items_head n (item.Measure axis bit) is h in
    let here = t.pulls axis e in
    let o = next_of gs in
    let rest = same_from n own (record f { writes = (bit, effective (axis_in f axis) (raw_of o)) ∷ f.writes }) (record g { writes = (bit, effective (axis_in g (pull own axis)) (raw_of o)) ∷ g.writes }) is (rest_of gs) (items_tail n (item.Measure axis bit) is h)
    (written_next n own f g bit (effective (axis_in f axis) (raw_of o)) (effective (axis_in g (pull own axis)) (raw_of o)) (ap (λ a. effective a (raw_of o)) here) t) in
    record { same_axes = ap₂ ◌∷◌ here rest.same_axes; same_writes = rest.same_writes }
same_from n own f g (item.If axis first size value ∷ is) gs h t =
    let e = items_head n (item.If axis first size value) is h in
    let here = t.pulls axis e in
    let rest = same_from n own (if flips f first size value then turned (turn axis half ∷ []) f else f) (if flips g first size value then turned (turn (pull own axis) half ∷ []) g else g) is (rest_of gs) (items_tail n (item.If axis first size value) is h) (settled_next n own f g axis first size value e t) in
    record { same_axes = ap₂ ◌∷◌ here rest.same_axes; same_writes = rest.same_writes }

pub statics_run_alike : (n : ℕ) (items : List Item) (gs : List Given) → AxesOfLength n items → axes items gs ≡ axes (static_items (statics items)) gs
statics_run_alike n items gs h = (same_from n [] fresh fresh items gs h (record { pulls = λ p l. refl; writes = refl; long = All-nil (λ t. OfLength n t.axis) })).same_axes

pub statics_write_alike : (n : ℕ) (items : List Item) (gs : List Given) (bit : ℕ) → AxesOfLength n items → bit_after items gs bit ≡ bit_after (static_items (statics items)) gs bit
statics_write_alike n items gs bit h = ap (λ w. bit_of w bit) (same_from n [] fresh fresh items gs h (record { pulls = λ p l. refl; writes = refl; long = All-nil (λ t. OfLength n t.axis) })).same_writes
