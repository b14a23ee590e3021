-- What a call sees of a sink.
use Rattle.std.specs.Prelude.{◌≡◌, ◌⊎◌, ℕ, List, Option}
use Rattle.patch_base.specs.Outside.{Rose, Grew, AppendsPrefix}

-- a sink: the bytes that it took, where it tells them, and its count of faults, before and after the call
pub record Writing : Type 0 where
  pub taken_before : Option (List ℕ)
  pub taken_after : Option (List ℕ)
  pub before : ℕ
  pub after : ℕ

-- a sink before and after a call
abbrev pub writing : {O : Type 0} → (O → Option (List ℕ)) → (O → ℕ) → O → O → Writing
writing taken faults old new = record { taken_before = taken old; taken_after = taken new; before = faults old; after = faults new }

abbrev pub Untouched : Writing → Type 0
Untouched w = w.taken_after ≡ w.taken_before

-- the text was taken
abbrev pub Took : Writing → List ℕ → Type 0
Took w text = Grew w.taken_before w.taken_after text

-- a fault was counted, and a part of the text from its start was taken
abbrev pub TookPart : Writing → List ℕ → Type 0
TookPart w text = Rose w.before w.after × AppendsPrefix w.taken_before w.taken_after text

-- the line was taken, whole unless a fault was counted
abbrev pub Said : Writing → List ℕ → Type 0
Said e line = Took e line ⊎ TookPart e line
