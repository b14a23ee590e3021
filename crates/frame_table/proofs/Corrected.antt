-- Frames after one more correction.
use Rattle.std.proofs.Common.{◌≡◌, ◌≢◌, ◌⊎◌, inl, inr, ℕ, ◌<◌, Bool, true, false, List, ◌++◌, length, get_or, refl, ap, sym, ◌∙◌}
use Rattle.pauli_product.specs.declared.Letter.{Letter}
use Rattle.pauli_product.specs.declared.Letter.TheVariants.{I, X, Y, Z}
use Rattle.pauli_product.specs.Signed.{Signed, OfLength}
use Rattle.pauli_product.specs.Pulls.{Turn, carry, TurnsOfLength, About}
use Rattle.pauli_product.proofs.Laws.{about_long as all_long, turns_joined, carry_cut, carry_commuting, carry_idle}
use Rattle.frame_table.specs.Images.{Images, alone, CarriesEach, After, turns_about}
use Rattle.frame_table.proofs.Prefix.{length_alone, commute_alone}

about_axis : (axis : Signed) (a b : Bool) → About axis (turns_about axis a b)
about_axis axis true true = (refl, (refl, tt))
about_axis axis true false = (refl, tt)
about_axis axis false true = (refl, tt)
about_axis axis false false = tt

about_long : (n : ℕ) (axis : Signed) (a b : Bool) → OfLength n axis → TurnsOfLength n (turns_about axis a b)
about_long n axis a b e = all_long n axis (turns_about axis a b) e (about_axis axis a b)

pub carries_more : (n : ℕ) (l : Letter) (ts us : List Turn) (old new : List Signed) → length new ≡ n → CarriesEach n l ts old → ((q : ℕ) (d : Signed) → q < n → get_or new q d ≡ carry us (get_or old q d)) → CarriesEach n l (ts ++ us) new
carries_more n l ts us old new f h turned = record {
  size = f;
  image = λ q d k. turned q d k ∙ ap (carry us) (h.image q d k) ∙ sym (carry_cut ts us (alone n q l));
}

-- all images were turned
pub after_turned : (n : ℕ) (ts : List Turn) (axis : Signed) (a b : Bool) (old new : Images) → OfLength n axis → After n ts old → length new.x ≡ n → length new.z ≡ n
    → ((q : ℕ) (d : Signed) → q < n → get_or new.x q d ≡ carry (turns_about axis a b) (get_or old.x q d))
    → ((q : ℕ) (d : Signed) → q < n → get_or new.z q d ≡ carry (turns_about axis a b) (get_or old.z q d))
    → After n (ts ++ turns_about axis a b) new
after_turned n ts axis a b old new e h f g x z = record {
  long = turns_joined n ts (turns_about axis a b) h.long (about_long n axis a b e);
  x = carries_more n X ts (turns_about axis a b) old.x new.x f h.x x;
  z = carries_more n Z ts (turns_about axis a b) old.z new.z g h.z z;
}

is_plain : (l : Letter) → (l ≡ I) ⊎ (l ≢ I)
is_plain I = inl refl
is_plain X = inr (λ e. cc)
is_plain Y = inr (λ e. cc)
is_plain Z = inr (λ e. cc)

-- where an own axis has I, a turn about its image does nothing
pub turned_anyhow : (n : ℕ) (l : Letter) (ts : List Turn) (own : Signed) (a b : Bool) (old new : List Signed) → TurnsOfLength n ts → OfLength n own → CarriesEach n l ts old
    → ((q : ℕ) (d : Signed) → q < n → get_or own.letters q I ≢ I → get_or new q d ≡ carry (turns_about (carry ts own) a b) (get_or old q d))
    → ((q : ℕ) (d : Signed) → q < n → get_or own.letters q I ≡ I → get_or new q d ≡ get_or old q d)
    → (q : ℕ) (d : Signed) → q < n → get_or new q d ≡ carry (turns_about (carry ts own) a b) (get_or old q d)
turned_anyhow n l ts own a b old new long e h turned kept q d k =
    elim (is_plain (get_or own.letters q I)) [
      | inl plain ↦
          let at = h.image q d k in
          let idle = carry_commuting n ts own (alone n q l) long e (length_alone n q l) ∙ commute_alone n own q l e plain in
          let same = carry_idle (carry ts own) (turns_about (carry ts own) a b) (carry ts (alone n q l)) (about_axis (carry ts own) a b) idle in
          kept q d k plain ∙ at ∙ sym same ∙ ap (carry (turns_about (carry ts own) a b)) (sym at)
      | inr other ↦ turned q d k other
    ]
