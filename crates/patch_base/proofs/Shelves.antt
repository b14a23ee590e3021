-- The books of a shelf: the one at the place of a name, and the counts.
use Rattle.std.proofs.Common.{◌≡◌, ℕ, ◌<◌, ◌≤◌, Bool, true, false, cond, not, ◌||◌, List, [], ◌∷◌, length, map, get_or, refl, arith, ap, sym, ◌∙◌, Option, Some, None, unwrap_or, is_some}
use Rattle.std.specs.List.{position, position_or_len}
use Rattle.std.specs.Str.{bytes_eq}
use Rattle.std.specs.String.{string_bytes}
use Rattle.std.proofs.lemmas.Grind.{common_steps}
use Rattle.std.proofs.lemmas.Bool.Decides.{nat_tests}
use Rattle.std.proofs.Math.ListN.{set}
use Rattle.patch_base.specs.MemoryShelf as seen
use Rattle.patch_base.specs.MemoryShelf.{text_of, count_of, faults_of, raised, one_more}
use Rattle.patch_base.specs.Outside.{Rose}
use Rattle.patch_base.specs.inside.Books.{book_of}
use Rattle.patch_base.specs.declared.memory_shelf.Book.{Book}

abbrev pub has_name : List ℕ → Book → Bool
has_name name b = bytes_eq (string_bytes b.name) name

abbrev pub place : List Book → List ℕ → ℕ
place books name = position_or_len (has_name name) books

pub text_of_place : (books : List Book) (name : List ℕ) (d : Book) → place books name < length books
    → text_of (map book_of books) name ≡ Some (get_or books (place books name) d).bytes.items
text_of_place [] name d inside = absurd (omega arith)
text_of_place (b ∷ bs) name d inside = grind (arith, common_steps, nat_tests, text_of_place bs name d)

pub no_text : (books : List Book) (name : List ℕ) → length books ≤ place books name → text_of (map book_of books) name ≡ None
no_text [] name past = refl
no_text (b ∷ bs) name past = grind (arith, common_steps, nat_tests, no_text bs name)

pub raised_place : (books : List Book) (name : List ℕ) (d : Book) → place books name < length books
    → map book_of (set books (place books name) (record (get_or books (place books name) d) { faults = one_more (get_or books (place books name) d).faults })) ≡ raised (map book_of books) name
raised_place [] name d inside = absurd (omega arith)
raised_place (b ∷ bs) name d inside = grind (arith, common_steps, nat_tests, raised_place bs name d)

pub raised_none : (books : List Book) (name : List ℕ) → length books ≤ place books name → raised (map book_of books) name ≡ map book_of books
raised_none [] name past = refl
raised_none (b ∷ bs) name past = grind (arith, common_steps, nat_tests, raised_none bs name)

pub at_place : {X : Type 0} (p : X → Bool) (xs : List X) (i : ℕ) → position p xs ≡ Some i → (i ≡ position_or_len p xs) × (position_or_len p xs < length xs)
at_place p xs i e = grind (arith, common_steps, nat_tests)

pub past_place : {X : Type 0} (p : X → Bool) (xs : List X) → position p xs ≡ None → length xs ≤ position_or_len p xs
past_place p xs e = grind (arith, common_steps, nat_tests)

-- a raised shelf tells what it told
pub text_of-raised : (books : List seen.Book) (name other : List ℕ) → text_of (raised books name) other ≡ text_of books other
text_of-raised [] name other = refl
text_of-raised (b ∷ bs) name other = grind (arith, common_steps, nat_tests, text_of-raised bs name other)

pub count_of-raised : (books : List seen.Book) (name other : List ℕ) (d : ℕ) → unwrap_or (count_of books other) d ≤ unwrap_or (count_of (raised books name) other) d
count_of-raised [] name other d = omega arith
count_of-raised (b ∷ bs) name other d = grind (arith, common_steps, nat_tests, count_of-raised bs name other d)

-- its count of the name is one more
pub count_of-raised_here : (books : List seen.Book) (name : List ℕ) (d : ℕ) → is_some (text_of books name) ≡ true → unwrap_or (count_of (raised books name) name) d ≡ one_more (unwrap_or (count_of books name) d)
count_of-raised_here [] name d held = absurd (cc)
count_of-raised_here (b ∷ bs) name d held = grind (arith, common_steps, nat_tests, count_of-raised_here bs name d)

-- the same, for the place that a search found
pub text_at : (books : List Book) (name : List ℕ) (i : ℕ) (d : Book) → position (has_name name) books ≡ Some i → text_of (map book_of books) name ≡ Some (get_or books i d).bytes.items
text_at books name i d found =
    let here = at_place (has_name name) books i found in
    rw here.0 (text_of_place books name d here.1)

pub text_past : (books : List Book) (name : List ℕ) → position (has_name name) books ≡ None → text_of (map book_of books) name ≡ None
text_past books name none = no_text books name (past_place (has_name name) books none)

pub raised_at : (books : List Book) (name : List ℕ) (i count : ℕ) (d : Book) → position (has_name name) books ≡ Some i → count ≡ one_more (get_or books i d).faults
    → map book_of (set books i (record (get_or books i d) { faults = count })) ≡ raised (map book_of books) name
raised_at books name i count d found e =
    let here = at_place (has_name name) books i found in
    rw (e, here.0) (raised_place books name d here.1)

pub raised_past : (books : List Book) (name : List ℕ) → position (has_name name) books ≡ None → map book_of books ≡ raised (map book_of books) name
raised_past books name none = sym (raised_none books name (past_place (has_name name) books none))

-- what a call leaves as it was, and what it counts
pub told_after : (s : seen.Shelved) (name other : List ℕ) → text_of (seen.after_call s name).books other ≡ text_of s.books other
told_after s name other = elim (seen.is_listed s.failing s.next_call) as (λ v. text_of (cond v (raised s.books name) s.books) other ≡ text_of s.books other) [
  | true ↦ text_of-raised s.books name other
  | false ↦ refl
]

unwrap_le : (count : Option ℕ) (a b : ℕ) → a ≤ b → unwrap_or count a ≤ unwrap_or count b
unwrap_le None a b le = le
unwrap_le (Some x) a b le = omega arith

le_absent : (held : Bool) (a : ℕ) → a ≤ cond held a (one_more a)
le_absent true a = omega arith
le_absent false a = grind (arith, nat_tests)

le_books : (listed : Bool) (books : List seen.Book) (name other : List ℕ) (d : ℕ) → unwrap_or (count_of books other) d ≤ unwrap_or (count_of (cond listed (raised books name) books) other) d
le_books true books name other d = count_of-raised books name other d
le_books false books name other d = omega arith

pub counts_after : (s : seen.Shelved) (name other : List ℕ) → faults_of s other ≤ faults_of (seen.after_call s name) other
counts_after s name other =
    let d : ℕ = (seen.after_call s name).absent_faults in
    let first : unwrap_or (count_of s.books other) s.absent_faults ≤ unwrap_or (count_of s.books other) d = unwrap_le (count_of s.books other) s.absent_faults d (le_absent (is_some (text_of s.books name)) s.absent_faults) in
    let then : unwrap_or (count_of s.books other) d ≤ faults_of (seen.after_call s name) other = le_books (seen.is_listed s.failing s.next_call) s.books name other d in
    omega arith

rose : (count : ℕ) → Rose count (one_more count)
rose count = grind (arith, nat_tests)

no_count : (books : List seen.Book) (name : List ℕ) → is_some (text_of books name) ≡ false → count_of books name ≡ None
no_count [] name none = refl
no_count (b ∷ bs) name none = grind (arith, common_steps, nat_tests, no_count bs name)

failed_held : (listed held : Bool) (books : List seen.Book) (name : List ℕ) (d : ℕ) → is_some (text_of books name) ≡ held → (listed || not held) ≡ true
    → Rose (unwrap_or (count_of books name) d) (unwrap_or (count_of (cond listed (raised books name) books) name) (cond held d (one_more d)))
failed_held true true books name d held fails = rw (count_of-raised_here books name d held) (rose (unwrap_or (count_of books name) d))
failed_held true false books name d held fails =
    let still : is_some (text_of (raised books name) name) ≡ false = ap is_some (text_of-raised books name name) ∙ held in
    rw (no_count books name held, no_count (raised books name) name still) (rose d)
failed_held false true books name d held fails = absurd (cc)
failed_held false false books name d held fails = rw (no_count books name held) (rose d)

pub failed_after : (s : seen.Shelved) (name : List ℕ) → seen.fails_for s name ≡ true → Rose (faults_of s name) (faults_of (seen.after_call s name) name)
failed_after s name fails = failed_held (seen.is_listed s.failing s.next_call) (is_some (text_of s.books name)) s.books name s.absent_faults refl fails

or_true : (listed : Bool) → (listed || true) ≡ true
or_true true = refl
or_true false = refl

-- a call for a name that isn't there fails
pub fails_absent : (s : seen.Shelved) (name : List ℕ) → text_of (seen.after_call s name).books name ≡ None → seen.fails_for s name ≡ true
fails_absent s name none =
    let absent : text_of s.books name ≡ None = sym (told_after s name name) ∙ none in
    rw absent (or_true (seen.is_listed s.failing s.next_call))
