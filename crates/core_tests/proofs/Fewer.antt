-- How many steps stand before a pool after each call.
use Rattle.std.proofs.Common.{◌≡◌, ℕ, ◌+◌, ◌≤◌, List, [], ◌∷◌, ◌++◌, Option, Result, Ok, Err, arith, length-append}
use Rattle.std.specs.Option.{option_to_list}
use Rattle.std.specs.Result.{OnOk, OnErr}
use Rattle.magic_pool.specs.declared.Stepped.{Stepped}
use Rattle.magic_pool.specs.declared.StepRefused.{StepRefused}
use Rattle.magic_pool.specs.Pooled.{Pooled, Recounts, HasFewer}

pub fewer_new : (p : Pooled) → Recounts p [] [] → HasFewer p 1
fewer_new p r = ([], [], r, omega arith)

pub fewer_least : (p : Pooled) (n m : ℕ) → HasFewer p n → n ≤ m → HasFewer p m
fewer_least p n m few within = (few.0, few.1, few.2, omega (arith, few.3))

pub fewer_step : (p q : Pooled) (f n : ℕ) (r : Result Stepped StepRefused) → OnOk r ((steps taken : List ℕ) → Recounts p steps taken → Recounts q (steps ++ f ∷ []) taken) → OnErr r (q ≡ p) → HasFewer p n → HasFewer q (n + 1)
fewer_step p q f n (Ok o) history refused few = (few.0 ++ f ∷ [], few.1, history few.0 few.1 few.2, omega (arith, few.3, length-append few.0 (f ∷ [])))
fewer_step p q f n (Err e) history refused few = rw refused (fewer_least p n (n + 1) few (omega arith))

pub fewer_take : (p q : Pooled) (n : ℕ) (o : Option ℕ) → ((steps taken : List ℕ) → Recounts p steps taken → Recounts q steps (taken ++ option_to_list o)) → HasFewer p n → HasFewer q n
fewer_take p q n o history few = (few.0, few.1 ++ option_to_list o, history few.0 few.1 few.2, few.3)
