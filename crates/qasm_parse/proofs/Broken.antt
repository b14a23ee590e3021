-- Rules that are broken, and those that aren't.
use Rattle.std.proofs.Common.{◌≡◌, ℕ, length, take, get_or, Bool, true, false, not, List, [], ◌∷◌, ◌++◌, Option, Some, None, Result, Ok, Err, refl, sym, ap, ◌∙◌, arith}
use Rattle.std.specs.List.{flat_map}
use Rattle.std.specs.Prelude.{◌==◌, nat_le, nat_lt, ◌<◌, ◌≤◌}
use Rattle.std.proofs.lemmas.Bool.Decides.{nat_tests}
use Rattle.qasm_lex.specs.declared.fault.FaultKind.{FaultKind}
use Rattle.qasm_parse.specs.declared.stop.Stop.{Stop}
use Rattle.qasm_parse.specs.declared.stop.Fault.{Fault}
use Rattle.qasm_parse.specs.declared.stop.Fault.TheVariants.{Memory, Stopping}
use Rattle.qasm_lex.specs.declared.fault.FaultKind.TheVariants.{Unknown}
use Rattle.qasm_parse.specs.declared.known.Called.{Called}
use Rattle.qasm_parse.specs.Faults.{broken, first_fault, named_faults}
use Rattle.qasm_parse.specs.inside.Meets.{Meets, Finds, IsOnly}
use Rattle.qasm_parse.proofs.First.{first_flat, first_front, first_behind, first_here, first_next}

abbrev pub stop_at : FaultKind → ℕ → Stop
stop_at kind at = record { at = at; kind = kind }

pub broken_is : (kind : FaultKind) (b : Bool) (at : ℕ) → b ≡ true → broken kind b at ≡ Some (stop_at kind at)
broken_is kind true at e = refl
broken_is kind false at e = cc

pub broken_not : (kind : FaultKind) (b : Bool) (at : ℕ) → b ≡ false → broken kind b at ≡ None
broken_not kind true at e = cc
broken_not kind false at e = refl

pub differs : (n m : ℕ) → (n ≡ m → ⊥) → not (n == m) ≡ true
differs n m h = grind (arith, nat_tests)

pub agrees : (n m : ℕ) → n ≡ m → not (n == m) ≡ false
agrees n m h = grind (arith, nat_tests)

pub reaches : (n m : ℕ) → n ≤ m → nat_le n m ≡ true
reaches n m h = grind (arith, nat_tests)

pub falls_short : (n m : ℕ) → m < n → nat_le n m ≡ false
falls_short n m h = grind (arith, nat_tests)

pub passes : (n m : ℕ) → n < m → nat_lt n m ≡ true
passes n m h = grind (arith, nat_tests)

pub stays : (n m : ℕ) → m ≤ n → nat_lt n m ≡ false
stays n m h = grind (arith, nat_tests)

pub negated : (b : Bool) → b ≡ false → not b ≡ true
negated b e = ap not e

pub affirmed : (b : Bool) → b ≡ true → not b ≡ false
affirmed b e = ap not e

-- this rule is broken, and none before it
pub first_this : (fs : List (Option Stop)) (kind : FaultKind) (b : Bool) (at : ℕ) (rest : List (Option Stop)) → first_fault fs ≡ None → b ≡ true → first_fault (fs ++ (broken kind b at ∷ rest)) ≡ Some (stop_at kind at)
first_this fs kind b at rest before e = first_behind fs (broken kind b at ∷ rest) before ∙ first_here (broken kind b at) rest (stop_at kind at) (broken_is kind b at e)

-- neither this rule nor one before it is broken
pub first_past : (fs : List (Option Stop)) (kind : FaultKind) (b : Bool) (at : ℕ) (rest : List (Option Stop)) → first_fault fs ≡ None → b ≡ false → first_fault (fs ++ (broken kind b at ∷ rest)) ≡ first_fault rest
first_past fs kind b at rest before e = first_behind fs (broken kind b at ∷ rest) before ∙ first_next (broken kind b at) rest (broken_not kind b at e)

pub rule_is : (kind : FaultKind) (b : Bool) (at : ℕ) (rest : List (Option Stop)) → b ≡ true → first_fault (broken kind b at ∷ rest) ≡ Some (stop_at kind at)
rule_is kind b at rest e = first_here (broken kind b at) rest (stop_at kind at) (broken_is kind b at e)

pub rule_not : (kind : FaultKind) (b : Bool) (at : ℕ) (rest : List (Option Stop)) → b ≡ false → first_fault (broken kind b at ∷ rest) ≡ first_fault rest
rule_not kind b at rest e = first_next (broken kind b at) rest (broken_not kind b at e)

-- a fault of the first rules is one of all, whatever would be answered else
pub meets_front : {X Y : Type 0} (fault : Fault) (fs gs : List (Option Stop)) (x : X) (y : Y) → Meets {X = X} (Err fault) fs x → Meets {X = Y} (Err fault) (fs ++ gs) y
meets_front Memory fs gs x y m = tt
meets_front (Stopping stop) fs gs x y m = first_front fs gs stop m

pub meets_behind : {X Y : Type 0} (fault : Fault) (fs gs : List (Option Stop)) (x : X) (y : Y) → first_fault fs ≡ None → Meets {X = X} (Err fault) gs x → Meets {X = Y} (Err fault) (fs ++ gs) y
meets_behind Memory fs gs x y before m = tt
meets_behind (Stopping stop) fs gs x y before m = first_behind fs gs before ∙ m

-- the same, where one list of rules stands for another
pub meets_same : {X Y : Type 0} (fault : Fault) (fs gs : List (Option Stop)) (x : X) (y : Y) → first_fault gs ≡ first_fault fs → Meets {X = X} (Err fault) fs x → Meets {X = Y} (Err fault) gs y
meets_same Memory fs gs x y e m = tt
meets_same (Stopping stop) fs gs x y e m = e ∙ m

-- the rules of a call by name, where the gate is known, and where it isn't
pub named_known : (found : Option Called) (name : ℕ) (others : Called → List (Option Stop)) (g : Called) → found ≡ Some g → named_faults found name others ≡ others g
named_known None name others g e = cc
named_known (Some h) name others g e = ap (λ (o : Option Called). named_faults o name others) e

pub unknown_meets : {X : Type 0} (fault : Fault) (found : Option Called) (name : ℕ) (others : Called → List (Option Stop)) (x : X) → Finds (Err fault) found name → Meets {X = X} (Err fault) (named_faults found name others) x
unknown_meets Memory found name others x f = tt
unknown_meets (Stopping stop) found name others x f =
    ap (λ (o : Option Called). first_fault (named_faults o name others)) f.0 ∙ rule_is Unknown true name [] refl ∙ ap (λ (s : Stop). Some s) (sym f.1)

pub flat_meets : {X Y Z : Type 0} (fault : Fault) (f : X → List (Option Stop)) (xs : List X) (i : ℕ) (a : X) (y : Y) (z : Z) → i < length xs → first_fault (flat_map f (take i xs)) ≡ None → a ≡ get_or xs i a → Meets {X = Y} (Err fault) (f a) y → Meets {X = Z} (Err fault) (flat_map f xs) z
flat_meets Memory f xs i a y z lt before e m = tt
flat_meets {X} (Stopping stop) f xs i a y z lt before e m = first_flat f xs i a stop lt before (ap (λ (b : X). first_fault (f b)) (sym e) ∙ m)

-- what is answered where no rule is broken
pub only_meets : {X : Type 0} (r : Result X Fault) (y z : X) (fs : List (Option Stop)) → first_fault fs ≡ None → y ≡ z → IsOnly r y → Meets r fs z
only_meets (Ok x) y z fs none e o = (none, o ∙ e)
only_meets (Err Memory) y z fs none e o = tt
only_meets (Err (Stopping stop)) y z fs none e o = absurd o

pub equals : (n m : ℕ) → n ≡ m → (n == m) ≡ true
equals n m h = grind (arith, nat_tests)

pub unequal : (n m : ℕ) → (n ≡ m → ⊥) → (n == m) ≡ false
unequal n m h = grind (arith, nat_tests)
