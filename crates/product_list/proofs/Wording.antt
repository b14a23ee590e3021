-- The words of a line, and what they say.
use Rattle.std.proofs.Common.{◌≡◌, ◌≢◌, ℕ, ◌<◌, ◌^◌, Bool, true, false, ◌&&◌, if◌then◌else◌, List, [], ◌∷◌, decimal, codes, Option, Some, None, refl, sym, ◌∙◌, ap, arith}
use Rattle.std.specs.Str.{bytes_eq}
use Rattle.std.proofs.lemmas.Fmt.{digits_value-decimal}
use Rattle.patch_base.specs.Names.{is_name}
use Rattle.patch_base.proofs.Decimals.{own}
use Rattle.qasm_lex.specs.Tokens.{is_whole}
use Rattle.qasm_lex.proofs.Wholes.{whole_or_not}
use Rattle.product_list.specs.declared.line.Form.{Form}
use Rattle.std.specs.Option.{option_map}
use Rattle.product_list.specs.declared.line.Form.TheVariants as forms
use Rattle.product_list.specs.ListText.{value_of, is_axis, axis_in_text, Ending, rotation, measurement, hidden, settled, reset, register, product, form_of, at_end, number_alone, name_and_number, ending_of, product_of, formed, line_of}

pub whole : (w : List ℕ) (v : ℕ) → v < 2 ^ 32 → w ≡ decimal v → is_whole w ≡ true
whole w v l e = sym (whole_or_not w (Some v) (l, e) tt)

pub value : (w : List ℕ) (v : ℕ) → v < 2 ^ 32 → w ≡ decimal v → value_of w ≡ v
value w v l e = ap value_of e ∙ digits_value-decimal own v (omega arith)

pub not_whole : (w : List ℕ) → ((v : ℕ) → v < 2 ^ 32 → w ≢ decimal v) → is_whole w ≡ false
not_whole w h = sym (whole_or_not w None tt h)

pub ended : (ws : List (List ℕ)) (e : Ending) → ws ≡ [] → at_end ws e ≡ Some e
unfolding at_end
ended ws e none = rw none refl

pub not_ended : (ws : List (List ℕ)) (e : Ending) → ws ≢ [] → at_end ws e ≡ None
unfolding at_end
not_ended [] e some = absurd (some refl)
not_ended (w ∷ ws) e some = refl

-- ---- a number alone
pub alone_none : (ws : List (List ℕ)) → ws ≡ [] → number_alone ws ≡ None
unfolding number_alone
alone_none ws e = rw e refl

more_words : (w : List ℕ) (ws : List (List ℕ)) → ws ≢ [] → number_alone (w ∷ ws) ≡ None
unfolding number_alone
more_words w [] more = absurd (more refl)
more_words w (v ∷ vs) more = refl

pub alone_more : (ws : List (List ℕ)) (w : List ℕ) (ws' : List (List ℕ)) → ws ≡ w ∷ ws' → ws' ≢ [] → number_alone ws ≡ None
alone_more ws w ws' e more = ap number_alone e ∙ more_words w ws' more

one_word : (w : List ℕ) (b : Bool) → is_whole w ≡ b → number_alone (w ∷ []) ≡ (if b then Some (value_of w) else None)
unfolding number_alone
one_word w b e = rw e refl

pub alone_other : (ws : List (List ℕ)) (w : List ℕ) (ws' : List (List ℕ)) → ws ≡ w ∷ ws' → ws' ≡ [] → ((v : ℕ) → v < 2 ^ 32 → w ≢ decimal v) → number_alone ws ≡ None
alone_other ws w ws' e f h = ap number_alone (e ∙ ap (λ xs. w ∷ xs) f) ∙ one_word w false (not_whole w h)

pub alone_some : (ws : List (List ℕ)) (w : List ℕ) (ws' : List (List ℕ)) (v : ℕ) → ws ≡ w ∷ ws' → ws' ≡ [] → v < 2 ^ 32 → w ≡ decimal v → number_alone ws ≡ Some v
alone_some ws w ws' v e f l s = ap number_alone (e ∙ ap (λ xs. w ∷ xs) f) ∙ one_word w true (whole w v l s) ∙ ap (λ n. Some n) (value w v l s)

-- ---- a name and a number
pub pair_none : (ws : List (List ℕ)) → ws ≡ [] → name_and_number ws ≡ None
unfolding name_and_number
pair_none ws e = rw e refl

pub pair_one : (ws : List (List ℕ)) (w : List ℕ) (ws' : List (List ℕ)) → ws ≡ w ∷ ws' → ws' ≡ [] → name_and_number ws ≡ None
unfolding name_and_number
pair_one ws w ws' e f = rw (e, f) refl

third_word : (w v : List ℕ) (vs : List (List ℕ)) → vs ≢ [] → name_and_number (w ∷ v ∷ vs) ≡ None
unfolding name_and_number
third_word w v [] more = absurd (more refl)
third_word w v (u ∷ us) more = refl

two_words : (w v : List ℕ) (a b : Bool) → is_name w ≡ a → is_whole v ≡ b → name_and_number (w ∷ v ∷ []) ≡ (if a && b then Some (w, value_of v) else None)
unfolding name_and_number
two_words w v a b e f = rw (e, f) refl

-- two words, and what is after them
pub record AreTwo (ws : List (List ℕ)) (w v : List ℕ) (vs : List (List ℕ)) : Type 0 where
  pub rest : List (List ℕ)
  pub first : ws ≡ w ∷ rest
  pub second : rest ≡ v ∷ vs

both : (ws : List (List ℕ)) (w v : List ℕ) (vs us : List (List ℕ)) → AreTwo ws w v vs → vs ≡ us → ws ≡ w ∷ v ∷ us
both ws w v vs us h e = h.first ∙ ap (λ xs. w ∷ xs) (h.second ∙ ap (λ xs. v ∷ xs) e)

pub pair_more : (ws : List (List ℕ)) (w v : List ℕ) (vs : List (List ℕ)) → AreTwo ws w v vs → vs ≢ [] → name_and_number ws ≡ None
pair_more ws w v vs h more = ap name_and_number (both ws w v vs vs h refl) ∙ third_word w v vs more

no_name : (b : Bool) (x : Option (List ℕ × ℕ)) → (if false && b then x else None) ≡ None
no_name b x = refl

pub pair_unnamed : (ws : List (List ℕ)) (w v : List ℕ) (vs : List (List ℕ)) → AreTwo ws w v vs → vs ≡ [] → is_name w ≡ false → name_and_number ws ≡ None
pair_unnamed ws w v vs h e n = ap name_and_number (both ws w v vs [] h e) ∙ two_words w v false (is_whole v) n refl ∙ no_name (is_whole v) (Some (w, value_of v))

pub pair_other : (ws : List (List ℕ)) (w v : List ℕ) (vs : List (List ℕ)) → AreTwo ws w v vs → vs ≡ [] → is_name w ≡ true → ((n : ℕ) → n < 2 ^ 32 → v ≢ decimal n) → name_and_number ws ≡ None
pair_other ws w v vs h e n other = ap name_and_number (both ws w v vs [] h e) ∙ two_words w v true false n (not_whole v other)

pub pair_some : (ws : List (List ℕ)) (w v : List ℕ) (vs : List (List ℕ)) (n : ℕ) → AreTwo ws w v vs → vs ≡ [] → is_name w ≡ true → n < 2 ^ 32 → v ≡ decimal n → name_and_number ws ≡ Some (w, n)
pair_some ws w v vs n h e t l s = ap name_and_number (both ws w v vs [] h e) ∙ two_words w v true true t (whole v n l s) ∙ ap (λ m. Some (w, m)) (value v n l s)

-- ---- endings
pub ending_rotation : (form : Form) (ws : List (List ℕ)) → form ≡ forms.Rotation → ending_of form ws ≡ at_end ws rotation
unfolding ending_of
ending_rotation form ws e = rw e refl

pub ending_hidden : (form : Form) (ws : List (List ℕ)) → form ≡ forms.Hidden → ending_of form ws ≡ at_end ws hidden
unfolding ending_of
ending_hidden form ws e = rw e refl

pub ending_measurement : (form : Form) (ws : List (List ℕ)) (x : Option (List ℕ × ℕ)) → form ≡ forms.Measurement → name_and_number ws ≡ x → ending_of form ws ≡ option_map (λ p. measurement p.0 p.1) x
unfolding ending_of
ending_measurement form ws x e f = rw (e, f) refl

pub ending_settled : (form : Form) (ws : List (List ℕ)) (x : Option (List ℕ × ℕ)) → form ≡ forms.Settled → name_and_number ws ≡ x → ending_of form ws ≡ option_map (λ p. settled p.0 p.1) x
unfolding ending_of
ending_settled form ws x e f = rw (e, f) refl

pub ending_reset : (form : Form) (ws : List (List ℕ)) (x : Option ℕ) → form ≡ forms.Reset → number_alone ws ≡ x → ending_of form ws ≡ option_map reset x
unfolding ending_of
ending_reset form ws x e f = rw (e, f) refl

-- ---- products and lines
pub product_none : (form : Form) (ws : List (List ℕ)) → ws ≡ [] → product_of form ws ≡ None
unfolding product_of
product_none form ws e = rw e refl

pub product_other : (form : Form) (ws : List (List ℕ)) (w : List ℕ) (ws' : List (List ℕ)) → ws ≡ w ∷ ws' → is_axis w ≡ false → product_of form ws ≡ None
unfolding product_of
product_other form ws w ws' e f = rw (e, f) refl

pub product_unended : (form : Form) (ws : List (List ℕ)) (w : List ℕ) (ws' : List (List ℕ)) → ws ≡ w ∷ ws' → is_axis w ≡ true → ending_of form ws' ≡ None → product_of form ws ≡ None
unfolding product_of
product_unended form ws w ws' e f g = rw (e, f, g) refl

pub product_some : (form : Form) (ws : List (List ℕ)) (w : List ℕ) (ws' : List (List ℕ)) (x : Ending) → ws ≡ w ∷ ws' → is_axis w ≡ true → ending_of form ws' ≡ Some x → product_of form ws ≡ Some (product (axis_in_text w) x)
unfolding product_of
product_some form ws w ws' x e f g = rw (e, f, g) refl

pub line_none : (two : Bool) (ws : List (List ℕ)) → ws ≡ [] → line_of two ws ≡ None
unfolding line_of
line_none two ws e = rw e refl

pub line_unnamed : (two : Bool) (ws : List (List ℕ)) (key : List ℕ) (rest : List (List ℕ)) → ws ≡ key ∷ rest → bytes_eq key (codes "c") ≡ true → name_and_number rest ≡ None → line_of two ws ≡ None
unfolding line_of
line_unnamed two ws key rest e f g = rw (e, f, g) refl

pub line_register : (two : Bool) (ws : List (List ℕ)) (key : List ℕ) (rest : List (List ℕ)) (name : List ℕ) (size : ℕ) → ws ≡ key ∷ rest → bytes_eq key (codes "c") ≡ true → name_and_number rest ≡ Some (name, size) → line_of two ws ≡ Some (register name size)
unfolding line_of
line_register two ws key rest name size e f g = rw (e, f, g) refl

pub line_unformed : (two : Bool) (ws : List (List ℕ)) (key : List ℕ) (rest : List (List ℕ)) → ws ≡ key ∷ rest → bytes_eq key (codes "c") ≡ false → form_of two key ≡ None → line_of two ws ≡ None
unfolding line_of formed
line_unformed two ws key rest e f g = rw (e, f, g) refl

pub line_product : (two : Bool) (ws : List (List ℕ)) (key : List ℕ) (rest : List (List ℕ)) (form : Form) → ws ≡ key ∷ rest → bytes_eq key (codes "c") ≡ false → form_of two key ≡ Some form → line_of two ws ≡ product_of form rest
unfolding line_of formed
line_product two ws key rest form e f g = rw (e, f, g) refl
