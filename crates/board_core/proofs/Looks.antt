-- Looks that show the same product of the same board are equal, and a look's axis has a letter other than I.
use Rattle.std.proofs.Common.{◌≡◌, ◌≢◌, ℕ, zero, suc, ◌<◌, Bool, nat_le, IsTrue, List, [], ◌∷◌, length, get_or, slice_get, slice_index_or, Option, Some, None, refl, ap, sym, ◌∙◌, inl, inr, arith, subst}
use Rattle.std.proofs.lemmas.Bool.{cases_Bool, leb-true, leb-false, true≢false}
use Rattle.std.proofs.lemmas.Option.{same_Some, slice_get-get_or}
use Rattle.pauli_product.specs.declared.Letter.{Letter}
use Rattle.pauli_product.specs.declared.Letter.TheVariants.{I}
use Rattle.pauli_product.specs.Signed.{Signed, IsNotIdentity}
use Rattle.pauli_product.specs.Pulls.{carry}
use Rattle.pauli_product.proofs.Laws.{carry_letters}
use Rattle.source_model.specs.declared.Static.{Static}
use Rattle.source_model.specs.Used.{acts, acts_at}
use Rattle.patch_layout.specs.declared.look.Look.{Look}
use Rattle.board_core.specs.History.{History}
use Rattle.board_core.specs.Legal.{BoardJob}
use Rattle.board_core.specs.View.{turns_of, LeastWait}
use Rattle.board_core.specs.Books.{HoldersAre}
use Rattle.board_core.specs.Position.{Position, past, IsLegal}
use Rattle.board_core.specs.Causes.{is_rotation}
use Rattle.board_core.specs.Shows.{Shows}
use Rattle.board_core.specs.BoardLaws.{LooksAreEqual}
use Rattle.board_core.proofs.Claiming.{one_product}
use Rattle.board_core.proofs.Same.{same_lists}

-- ---- a letter other than I
acting : (ls : List Letter) (q : ℕ) → IsTrue (acts (slice_index_or ls q I)) → (l : Letter) × (slice_get ls q ≡ Some l) × (l ≢ I)
acting [] q e = absurd (true≢false (sym e))
acting (l ∷ ls) zero e = (l, refl, λ i. true≢false (sym e ∙ ap acts i))
acting (l ∷ ls) (suc q) e = acting ls q e

pub letter_at_least : (p : Signed) → ((q : ℕ) × IsTrue (acts_at p q)) → IsNotIdentity p
letter_at_least p x = (x.0, acting p.letters x.0 x.1)

pub look_letter : (b : Position) (p : ℕ) (look : Look) → IsLegal b → Shows b p look → IsNotIdentity look.axis
look_letter b p look legal s =
    subst IsNotIdentity (sym s.axis) (carry_letters (turns_of b.job.products (past b)) s.static.axis (letter_at_least s.static.axis (legal.letters p s.static s.is)))

-- ---- equal looks
options_equal : (o p : Option ℕ) → ((q : ℕ) → o ≡ Some q → p ≡ Some q) → ((q : ℕ) → p ≡ Some q → o ≡ Some q) → o ≡ p
options_equal None None f g = refl
options_equal None (Some q) f g = g q refl
options_equal (Some q) p f g = sym (f q refl)

holders_equal : (j : BoardJob) (h : History) (xs ys : List (Option ℕ)) → HoldersAre j h xs → HoldersAre j h ys → xs ≡ ys
holders_equal j h xs ys a b =
    let long : length xs ≡ length ys = a.0 ∙ sym b.0 in
    same_lists xs ys long (λ c l.
    let within : c < length j.grid.sites = omega (arith, a.0) in
    let here = slice_get-get_or xs c None l in
    let there = slice_get-get_or ys c None (omega (arith, long)) in
    here
    ∙ ap Some (options_equal (get_or xs c None) (get_or ys c None)
    (λ q e. same_Some (get_or ys c None) (Some q) (sym there ∙ (b.1 c q within).1 ((a.1 c q within).0 (here ∙ ap Some e))))
    (λ q e. same_Some (get_or xs c None) (Some q) (sym here ∙ (a.1 c q within).1 ((b.1 c q within).0 (there ∙ ap Some e)))))
    ∙ sym there)

waits_equal : (products : List Static) (h : History) (p : ℕ) (o w : Option ℕ) → LeastWait products h p o → LeastWait products h p w → o ≡ w
waits_equal products h p None None a b = refl
waits_equal products h p None (Some r) a b = absurd (a r b.0)
waits_equal products h p (Some q) None a b = absurd (b q a.0)
waits_equal products h p (Some q) (Some r) a b = elim (cases_Bool (nat_le q r)) [
  | inr more ↦ absurd (a.1 r (leb-false q r more) b.0)
  | inl le ↦ elim (cases_Bool (nat_le r q)) [
    | inr less ↦ absurd (b.1 q (leb-false r q less) a.0)
    | inl ge ↦ let x = leb-true q r le in let y = leb-true r q ge in let same : q ≡ r = omega arith in ap Some same
  ]
]

made : ℕ → ℕ → Bool → Option ℕ → Option ℕ → Signed → List (Option ℕ) → List ℕ → Look
made product long rotation taken waits axis held ready =
    record { product = product; length = long; rotation = rotation; taken = taken; waits = waits; axis = axis; held = held; ready = ready }

made_same : (x y : Look) → x.product ≡ y.product → x.length ≡ y.length → x.rotation ≡ y.rotation → x.taken ≡ y.taken → x.waits ≡ y.waits → x.axis ≡ y.axis → x.held ≡ y.held → x.ready ≡ y.ready
    → made x.product x.length x.rotation x.taken x.waits x.axis x.held x.ready ≡ made y.product y.length y.rotation y.taken y.waits y.axis y.held y.ready
made_same x y a b c d e f g h = cc

pub looks_equal : LooksAreEqual
unfolding made
looks_equal b p x y s t =
    let same : s.static ≡ t.static = one_product b p s.static t.static s.is t.is in
    made_same x y
    (s.product ∙ sym t.product)
    (s.length-is ∙ sym t.length-is)
    (s.rotation ∙ ap (λ (z : Static). is_rotation z.kind) same ∙ sym t.rotation)
    (s.taken ∙ sym t.taken)
    (waits_equal b.job.products (past b) p x.waits y.waits s.waits t.waits)
    (s.axis ∙ ap (λ (z : Static). carry (turns_of b.job.products (past b)) z.axis) same ∙ sym t.axis)
    (holders_equal b.job (past b) x.held y.held s.held t.held)
    (same_lists x.ready y.ready (s.factories ∙ sym t.factories) (λ f l. s.ready-are f (omega (arith, s.factories)) ∙ sym (t.ready-are f (omega (arith, s.factories)))))
