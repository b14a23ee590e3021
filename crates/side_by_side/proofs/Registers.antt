-- The registers of a program among the joined ones.
use Rattle.std.proofs.Common.{◌≡◌, ℕ, zero, suc, ◌+◌, ◌<◌, ◌≤◌, List, [], ◌∷◌, Some, map, take, length, slice_get, slice_index_or, refl, ap, sym, ◌∙◌, arith, subst}
use Rattle.std.specs.Prelude.{All, Contains}
use Rattle.std.proofs.lemmas.List.{length-map}
use Rattle.std.proofs.lemmas.List.Elements.{Contains-append_left, Contains-append_right}
use Rattle.std.proofs.lemmas.List.Sums.{sum_by-cons}
use Rattle.std.proofs.lemmas.Option.{same_Some}
use Rattle.source_model.specs.declared.Circuit.{Circuit}
use Rattle.source_model.specs.declared.Register.{Register}
use Rattle.source_model.specs.Circuits.{bits_in}
use Rattle.side_by_side.specs.Joined.{bits_of, named, register_at, registers_from, joined_registers}
use Rattle.side_by_side.specs.Programs.{Program, IsProgram, circuits, bit_alone, bit_joined, first_bit}
use Rattle.side_by_side.proofs.Fitting.{Runs, register_within}
use Rattle.side_by_side.proofs.Shares.{all_at, bits_are_those_alone}

get_map : {A B : Type 0} (g : A → B) (xs : List A) (k : ℕ) (x : A) → slice_index_or (map g xs) k (g x) ≡ g (slice_index_or xs k x)
get_map g [] k x = refl
get_map g (y ∷ xs) zero x = refl
get_map g (y ∷ xs) (suc k) x = get_map g xs k x

mapped : {A B : Type 0} (g : A → B) (xs : List A) (x : A) → Contains xs x → Contains (map g xs) (g x)
mapped g xs x c =
    let long : c.0 < length (map g xs) = rw (length-map xs g) c.1 in
    (c.0, long, get_map g xs c.0 x ∙ ap g c.2)

stands : (i b j first number : ℕ) (cs : List Circuit) (c : Circuit) (r : Register) → first ≡ b + bits_of (take j cs) → number ≡ i + j →
    slice_get cs j ≡ Some c → Contains c.registers r → Contains (registers_from i b cs) (register_at first (named number) r)
stands i b j first number [] c r at n e h = cc
stands i b zero first number (d ∷ cs) c r at n e h =
    let same : d ≡ c = same_Some d c e in
    let from : b ≡ first = omega (arith, at) in
    let own : i ≡ number = omega (arith, n) in
    Contains-append_left (map (register_at b (named i)) d.registers) (registers_from (suc i) (b + bits_in d.registers) cs) (register_at first (named number) r)
    (subst (λ (m : ℕ). Contains (map (register_at b (named i)) d.registers) (register_at m (named number) r)) from
    (subst (λ (m : ℕ). Contains (map (register_at b (named i)) d.registers) (register_at b (named m) r)) own
    (mapped (register_at b (named i)) d.registers r (subst (λ (x : Circuit). Contains x.registers r) (sym same) h))))
stands i b (suc j) first number (d ∷ cs) c r at n e h =
    Contains-append_right (map (register_at b (named i)) d.registers) (registers_from (suc i) (b + bits_in d.registers) cs) (register_at first (named number) r)
    (stands (suc i) (b + bits_in d.registers) j first number cs c r
    (omega (arith, at, sum_by-cons (λ (c : Circuit). bits_in c.registers) d (take j cs))) (omega (arith, n)) e h)

pub program_at : (ps : List Program) (i : ℕ) (p : Program) → slice_get ps i ≡ Some p → slice_get (circuits ps) i ≡ Some p.circuit
program_at [] i p e = cc
program_at (x ∷ ps) zero p e = ap (λ (x : Program). Some x.circuit) (same_Some x p e)
program_at (x ∷ ps) (suc i) p e = program_at ps i p e

pub registers_are_those_alone : (ps : List Program) (i : ℕ) (p : Program) (r : Register) → All IsProgram ps → All Runs ps → slice_get ps i ≡ Some p → Contains p.circuit.registers r →
    let joined = register_at (first_bit ps i) (named i) r in
    Contains (joined_registers (circuits ps)) joined × ((k : ℕ) → k < r.size → bit_joined ps (joined.first + k) ≡ bit_alone p (r.first + k))
registers_are_those_alone ps i p r h runs e c =
    let ends : r.first + r.size ≤ 0 + bits_in p.circuit.registers = register_within 0 p.circuit.registers r.first r.size c.0 r (all_at IsProgram ps i p h e).0.firsts_run_on c.1 c.2 refl refl in (
      stands 0 0 i (first_bit ps i) i (circuits ps) p.circuit r (omega arith) (omega arith) (program_at ps i p e) c,
      λ k l.
          let at : (first_bit ps i + r.first) + k ≡ first_bit ps i + (r.first + k) = omega arith in
          ap (bit_joined ps) at ∙ bits_are_those_alone ps i (r.first + k) p runs e (omega (arith, ends, l)),
    )
