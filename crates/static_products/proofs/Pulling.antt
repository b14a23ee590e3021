-- Items pulled one after another through the turns of a frame.
use Rattle.std.proofs.Common.{◌≡◌, ℕ, zero, suc, ◌+◌, ◌<◌, Bool, ◌&&◌, ◌||◌, List, [], ◌∷◌, ◌++◌, length, drop, get_or, Some, None, slice_get, refl, ap, sym, ◌∙◌, append-nil, append_assoc, add-one, subst, arith}
use Rattle.std.proofs.Math.Seq.{drop-cons}
use Rattle.std.specs.List.{AllByRecursion as ByRecursion, list_any}
use Rattle.std.specs.Prelude.{All}
use Rattle.std.proofs.lemmas.List.Elements.{All-append, All-cons, All-from_recursion, All-head, All-nil, All-tail}
use Rattle.pauli_product.specs.Signed.{Signed, OfLength}
use Rattle.pauli_product.specs.Pulls.{Angle, Turn, turn, quarter, half, conj, pull, carry, TurnsOfLength}
use Rattle.pauli_product.proofs.Laws.{carry_cut, pull_length, turn_last}
use Rattle.frame_table.specs.Images.{Images, After}
use Rattle.source_model.specs.declared.Angle.TheVariants.{Eighth, Quarter, Half}
use Rattle.source_model.specs.declared.Item.{Item}
use Rattle.source_model.specs.declared.Item.TheVariants as item
use Rattle.source_model.specs.declared.Kind.{Kind}
use Rattle.source_model.specs.declared.Static.{Static}
use Rattle.source_model.specs.Circuits.{AxesOfLength}
use Rattle.source_model.specs.SourceRun.{axis_of}
use Rattle.source_model.specs.Statics.{statics_from, statics}
use Rattle.source_model.specs.Used.{acts_at, is_used, takes_region}
use Rattle.static_products.specs.Pulled.{kind_of}
use Rattle.static_products.specs.inside.Pulled.{Answers, turn_of}

one_turn : (n : ℕ) (turns : List Turn) (axis : Signed) (a : Angle) → TurnsOfLength n turns → OfLength n axis → TurnsOfLength n (turns ++ turn axis a ∷ [])
one_turn n turns axis a h e = All-append (λ (t : Turn). OfLength n t.axis) turns (turn axis a ∷ []) h (All-cons (λ (t : Turn). OfLength n t.axis) (turn axis a) [] e (All-nil (λ (t : Turn). OfLength n t.axis)))

pub answers_first : (n : ℕ) (f : Images) → After n [] f → Answers n [] f
answers_first n f h = record { corrections = []; after = h; long = h.long; pulls = λ p e. refl }

pub answers_turn : (n : ℕ) (turns : List Turn) (own : Signed) (a : Angle) (old new : Images) → OfLength n own → (h : Answers n turns old) → After n (h.corrections ++ turn (carry h.corrections own) a ∷ []) new → Answers n (turns ++ turn own a ∷ []) new
answers_turn n turns own a old new e h k = record {
  corrections = h.corrections ++ turn (carry h.corrections own) a ∷ [];
  after = k;
  long = one_turn n turns own a h.long e;
  pulls = (λ p f.
      carry_cut h.corrections (turn (carry h.corrections own) a ∷ []) p
      ∙ ap (λ x. conj x a (carry h.corrections p)) (h.pulls own e)
      ∙ ap (conj (pull turns own) a) (h.pulls p f)
      ∙ ap (λ ts. conj (pull turns own) a (pull ts p)) (sym (append-nil turns))
      ∙ sym (turn_last n turns [] own a p h.long (All-nil (λ (t : Turn). OfLength n t.axis)) e f));
}

pub answers_idle : (n : ℕ) (turns : List Turn) (f : Images) → Answers n turns f → Answers n (turns ++ []) f
answers_idle n turns f h = let P : List Turn → Type 0 = λ ts. Answers n ts f in subst P (sym (append-nil turns)) h

pub image_is : (n : ℕ) (turns : List Turn) (f : Images) (p image : Signed) → OfLength (length f.x) p → ((n : ℕ) (ts : List Turn) → After n ts f → image ≡ carry ts p) → Answers n turns f → image ≡ pull turns p
image_is n turns f p image e carried h = carried n h.corrections h.after ∙ h.pulls p (e ∙ h.after.x.size)

-- ---- the static products so far
some_kind : (k j : Kind) → Some k ≡ Some j → k ≡ j
some_kind k j e = cc

product_first : (turns : List Turn) (i : Item) (k : Kind) (is : List Item) → kind_of i ≡ Some k → statics_from turns (i ∷ is) ≡ record { axis = pull turns (axis_of i); kind = k } ∷ statics_from turns is
product_first turns (item.Turn axis Eighth) k is e = ap (λ x. record { axis = pull turns axis; kind = x } ∷ statics_from turns is) (some_kind _ k e)
product_first turns (item.Turn axis Quarter) k is e = absurd (cc)
product_first turns (item.Turn axis Half) k is e = absurd (cc)
product_first turns (item.Measure axis bit) k is e = ap (λ x. record { axis = pull turns axis; kind = x } ∷ statics_from turns is) (some_kind _ k e)
product_first turns (item.If axis first size value) k is e = ap (λ x. record { axis = pull turns axis; kind = x } ∷ statics_from turns is) (some_kind _ k e)

turn_first : (turns : List Turn) (i : Item) (is : List Item) → kind_of i ≡ None → statics_from turns (i ∷ is) ≡ statics_from (turns ++ turn_of i) is
turn_first turns (item.Turn axis Eighth) is e = absurd (cc)
turn_first turns (item.Turn axis Quarter) is e = refl
turn_first turns (item.Turn axis Half) is e = refl
turn_first turns (item.Measure axis bit) is e = absurd (cc)
turn_first turns (item.If axis first size value) is e = absurd (cc)

pub record SoFar (n : ℕ) (all : List Static) (f : Images) (found : List Static) (rest : List Item) : Type 0 where
  pub turns : List Turn
  pub answers : Answers n turns f
  pub split : all ≡ found ++ statics_from turns rest
  pub long : AxesOfLength n rest

pub begun : (n : ℕ) (items : List Item) (f : Images) → After n [] f → AxesOfLength n items → SoFar n (statics items) f [] items
begun n items f h k = record { turns = []; answers = answers_first n f h; split = refl; long = k }

-- the axis of the next item
pub next_long : (n : ℕ) (all : List Static) (f : Images) (found : List Static) (rest : List Item) (i : Item) (is : List Item) → SoFar n all f found rest → rest ≡ i ∷ is → OfLength (length f.x) (axis_of i)
next_long n all f found rest i is h e =
    let P : List Item → Type 0 = λ xs. AxesOfLength n xs in
    All-head (λ j. OfLength n (axis_of j)) i is (subst P e h.long) ∙ sym h.answers.after.x.size

rest_long : (n : ℕ) (rest : List Item) (i : Item) (is : List Item) → AxesOfLength n rest → rest ≡ i ∷ is → AxesOfLength n is
rest_long n rest i is h e = let P : List Item → Type 0 = λ xs. AxesOfLength n xs in All-tail (λ j. OfLength n (axis_of j)) i is (subst P e h)

pub product_more : (n : ℕ) (all : List Static) (f : Images) (found found' : List Static) (rest : List Item) (i : Item) (is : List Item) (axis : Signed) (k : Kind) → (h : SoFar n all f found rest) → rest ≡ i ∷ is → kind_of i ≡ Some k → ((n : ℕ) (ts : List Turn) → Answers n ts f → axis ≡ pull ts (axis_of i)) → found' ≡ found ++ record { axis = axis; kind = k } ∷ [] → SoFar n all f found' is
product_more n all f found found' rest i is axis k h e g image more =
    let one : Signed → Static = λ a. record { axis = a; kind = k } in
    record {
      turns = h.turns;
      answers = h.answers;
      split = h.split ∙ ap (λ xs. found ++ statics_from h.turns xs) e ∙ ap (λ xs. found ++ xs) (product_first h.turns i k is g) ∙ ap (λ a. found ++ (one a ∷ statics_from h.turns is)) (sym (image n h.turns h.answers)) ∙ sym (append_assoc found (one axis ∷ []) (statics_from h.turns is)) ∙ ap (λ xs. xs ++ statics_from h.turns is) (sym more);
      long = rest_long n rest i is h.long e;
    }

pub turn_more : (n : ℕ) (all : List Static) (f f' : Images) (found : List Static) (rest : List Item) (i : Item) (is : List Item) → (h : SoFar n all f found rest) → rest ≡ i ∷ is → kind_of i ≡ None → ((n : ℕ) (ts : List Turn) → Answers n ts f → Answers n (ts ++ turn_of i) f') → SoFar n all f' found is
turn_more n all f f' found rest i is h e g turned = record {
  turns = h.turns ++ turn_of i;
  answers = turned n h.turns h.answers;
  split = h.split ∙ ap (λ xs. found ++ statics_from h.turns xs) e ∙ ap (λ xs. found ++ xs) (turn_first h.turns i is g);
  long = rest_long n rest i is h.long e;
}

pub finished : (n : ℕ) (all : List Static) (f : Images) (found : List Static) (rest : List Item) → SoFar n all f found rest → rest ≡ [] → found ≡ all
finished n all f found rest h e = sym (h.split ∙ ap (λ xs. found ++ statics_from h.turns xs) e ∙ append-nil found)

pub next_item : (items : List Item) (k : ℕ) (i : Item) → k < length items → i ≡ get_or items k i → drop k items ≡ i ∷ drop (k + 1) items
next_item items k i l e = drop-cons items k i l ∙ ap (λ x. x ∷ drop (suc k) items) (sym e) ∙ ap (λ m. i ∷ drop m items) (sym (add-one k))

-- ---- needs
statics_long : (n : ℕ) (turns : List Turn) (items : List Item) → TurnsOfLength n turns → AxesOfLength n items → ByRecursion (λ s. OfLength n s.axis) (statics_from turns items)
statics_long n turns [] t h = tt
statics_long n turns (i ∷ is) t h = more i (All-head (λ j. OfLength n (axis_of j)) i is h) (statics_long n turns is t (All-tail (λ j. OfLength n (axis_of j)) i is h)) (λ us u. statics_long n us is u (All-tail (λ j. OfLength n (axis_of j)) i is h))
  where
    more : (i : Item) → OfLength n (axis_of i) → ByRecursion (λ s. OfLength n s.axis) (statics_from turns is) → ((us : List Turn) → TurnsOfLength n us → ByRecursion (λ s. OfLength n s.axis) (statics_from us is)) → ByRecursion (λ s. OfLength n s.axis) (statics_from turns (i ∷ is))
    more (item.Turn axis Eighth) e r f = (pull_length n turns axis t e, r)
    more (item.Turn axis Quarter) e r f = f (turns ++ turn axis quarter ∷ []) (one_turn n turns axis quarter t e)
    more (item.Turn axis Half) e r f = f (turns ++ turn axis half ∷ []) (one_turn n turns axis half t e)
    more (item.Measure axis bit) e r f = (pull_length n turns axis t e, r)
    more (item.If axis first size value) e r f = (pull_length n turns axis t e, r)

pub all_long : (n : ℕ) (items : List Item) (products : List Static) → TurnsOfLength n [] → AxesOfLength n items → products ≡ statics items → All (λ s. OfLength n s.axis) products
all_long n items products t h e = let P : List Static → Type 0 = λ ss. All (λ s. OfLength n s.axis) ss in subst P (sym e) (All-from_recursion (λ s. OfLength n s.axis) (statics items) (statics_long n [] items t h))

pub used_by_any : (q : ℕ) (ss : List Static) → list_any (λ s. takes_region s.kind && acts_at s.axis q) ss ≡ is_used ss q
used_by_any q [] = refl
used_by_any q (s ∷ ss) = ap (λ b. (takes_region s.kind && acts_at s.axis q) || b) (used_by_any q ss)

get_append : (xs : List Bool) (v : Bool) (f : ℕ → Bool) (k : ℕ) → (k < length xs → slice_get xs k ≡ Some (f k)) → (k ≡ length xs → v ≡ f k) → k < length xs + 1 → slice_get (xs ++ v ∷ []) k ≡ Some (f k)
get_append [] v f zero old new b = ap (λ x. Some x) (new refl)
get_append [] v f (suc k) old new b = absurd (omega arith)
get_append (x ∷ xs) v f zero old new b = old (omega arith)
get_append (x ∷ xs) v f (suc k) old new b = get_append xs v (λ j. f (suc j)) k (λ l. old (omega arith)) (λ e. new (omega arith)) (omega arith)

-- one more value of a table
pub get_more : (xs ys : List Bool) (q : ℕ) (f : ℕ → Bool) (v : Bool) → ys ≡ xs ++ v ∷ [] → length xs ≡ q → ((k : ℕ) → k < q → slice_get xs k ≡ Some (f k)) → v ≡ f q → (k : ℕ) → k < q + 1 → slice_get ys k ≡ Some (f k)
get_more xs ys q f v e l old new k below =
    ap (λ zs. slice_get zs k) e ∙ get_append xs v f k (λ b. old k (omega arith)) (λ same. new ∙ ap f (sym l ∙ sym same)) (omega arith)
