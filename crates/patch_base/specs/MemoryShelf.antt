-- A shelf in memory, its calls that are to fail, and what a call of it does.
use Rattle.std.specs.Prelude.{ℕ, Bool, false, ◌+◌, ◌-◌, ◌^◌, ◌==◌, ◌||◌, not, min, if◌then◌else◌, is_some, nat_lt, List, [], ◌∷◌, length, Option, Some, None, unwrap_or}
use Rattle.std.specs.List.{list_any}
use Rattle.std.specs.Str.{bytes_eq}

-- a name with its bytes, and the count of its faults
pub record Book : Type 0 where
  pub name : List ℕ
  pub bytes : List ℕ
  pub faults : ℕ

-- what a shelf in memory has
pub record Shelved : Type 0 where
  pub books : List Book
  -- the one count of all names that it doesn't hold
  pub absent_faults : ℕ
  -- the number of the next call, and None once the numbers of 64 bits are used up
  pub next_call : Option ℕ
  -- the numbers of the calls that are to fail
  pub failing : List ℕ
  -- the greatest number of bytes that one call gives
  pub most : ℕ

abbrev pub text_of : List Book → List ℕ → Option (List ℕ)
text_of [] name = None
text_of (b ∷ bs) name = if bytes_eq b.name name then Some b.bytes else text_of bs name

abbrev pub count_of : List Book → List ℕ → Option ℕ
count_of [] name = None
count_of (b ∷ bs) name = if bytes_eq b.name name then Some b.faults else count_of bs name

-- the count of a name
abbrev pub faults_of : Shelved → List ℕ → ℕ
faults_of s name = unwrap_or (count_of s.books name) s.absent_faults

-- a call of this number is listed; one without a number isn't
abbrev pub is_listed : List ℕ → Option ℕ → Bool
is_listed failing None = false
is_listed failing (Some call) = list_any (λ c. c == call) failing

-- the number of the call after one
abbrev pub call_after : Option ℕ → Option ℕ
call_after None = None
call_after (Some call) = if call == 2 ^ 64 - 1 then None else Some (call + 1)

-- the next call fails if it asks for this name: it is listed, or the name isn't there
abbrev pub fails_for : Shelved → List ℕ → Bool
fails_for s name = is_listed s.failing s.next_call || not (is_some (text_of s.books name))

-- one more, or the same at the last value of the counter
abbrev pub one_more : ℕ → ℕ
one_more count = if nat_lt count (2 ^ 64 - 1) then count + 1 else count

-- the books once a call for this name has failed
abbrev pub raised : List Book → List ℕ → List Book
raised [] name = []
raised (b ∷ bs) name = if bytes_eq b.name name then (record b { faults = one_more b.faults } ∷ bs) else (b ∷ raised bs name)

-- the shelf after a call for this name
abbrev pub after_call : Shelved → List ℕ → Shelved
after_call s name = record s {
  books = if is_listed s.failing s.next_call then raised s.books name else s.books;
  absent_faults = if is_some (text_of s.books name) then s.absent_faults else one_more s.absent_faults;
  next_call = call_after s.next_call;
}

-- how many bytes a call gives: as many as the buffer, the shelf's limit and the rest of the text allow
abbrev pub given_of : Shelved → List ℕ → ℕ → ℕ → ℕ
given_of s text at room = min (min room s.most) (length text - at)
