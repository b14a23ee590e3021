-- The values of a program's conditions are words of 32 bits in its flat operations and its items too.
use Rattle.std.proofs.Common.{ℕ, zero, suc, ◌+◌, ◌<◌, ◌^◌, List, [], ◌∷◌, ◌++◌, map, slice_get, slice_index, All, sym, subst, arith}
use Rattle.std.specs.Prelude.{unwrap_or}
use Rattle.std.specs.List.{AllByRecursion as ByRecursion}
use Rattle.std.proofs.lemmas.List.Elements.{All-from_recursion}
use Rattle.qasm_parse.specs.declared.tree.BodyOp.{BodyOp}
use Rattle.qasm_parse.specs.declared.tree.BodyOp.TheVariants as ops
use Rattle.qasm_parse.specs.declared.tree.Callee.{Callee}
use Rattle.qasm_parse.specs.declared.tree.Callee.TheVariants.{One, Two, Ccx, Swap, Defined}
use Rattle.qasm_parse.specs.declared.tree.Gate1.{Gate1}
use Rattle.qasm_parse.specs.declared.tree.Gate1.TheVariants as ones
use Rattle.qasm_parse.specs.declared.tree.Gate2.{Gate2}
use Rattle.qasm_parse.specs.declared.tree.Gate2.TheVariants as twos
use Rattle.qasm_parse.specs.declared.tree.GateDef.{GateDef}
use Rattle.qasm_parse.specs.declared.tree.Statement.{Statement}
use Rattle.qasm_parse.specs.declared.tree.Statement.TheVariants as statements
use Rattle.qasm_parse.specs.declared.tree.Tree.{Tree}
use Rattle.qasm_expand.specs.declared.flat.Flat.{Flat}
use Rattle.qasm_expand.specs.declared.flat.Flat.TheVariants as flats
use Rattle.qasm_expand.specs.Flats.{Calls, all_flats, applied, body_flats, called, calls_of, conditional, definition_flats, each_from, flats_of, indices, measured, nothing, reset_at, statement_flats}
use Rattle.rotation_list.specs.Items.{conditional_gate, flat_items, hidden_in, items_from, one_gate, two_gate}
use Rattle.rotation_list.proofs.Each.{both_parts, each_image, each_part}
use Rattle.product_list.specs.Listable.{HasSmallValue}
use Rattle.rotation_list.proofs.Programs.{items_end, items_next}
use Rattle.rotation_list.proofs.Telling.{SmallStatement}

-- ---- flat operations

SmallFlat : Flat → Type 0
SmallFlat (flats.Gate1 gate q) = Unit {0}
SmallFlat (flats.Gate2 gate a b) = Unit {0}
SmallFlat (flats.Measure q bit) = Unit {0}
SmallFlat (flats.Reset q) = Unit {0}
SmallFlat (flats.If gate q first size value) = value < 2 ^ 32

abbrev AllSmall : List Flat → Type 0
AllSmall fs = ByRecursion SmallFlat fs

abbrev SmallCalls : Calls → Type 0
SmallCalls c = (qs : List ℕ) → AllSmall (c qs)

known_small : (known : List Calls) (number : ℕ) (qs : List ℕ) → ByRecursion SmallCalls known → AllSmall (unwrap_or (slice_get known number) nothing qs)
known_small [] number qs h = tt
known_small (c ∷ cs) zero qs h = h.0 qs
known_small (c ∷ cs) (suc number) qs h = known_small cs number qs h.1

called_small : (known : List Calls) (gate : Callee) (qs : List ℕ) → ByRecursion SmallCalls known → AllSmall (called known gate qs)
unfolding SmallFlat
called_small known (One gate) qs h = (tt, tt)
called_small known (Two gate) qs h = (tt, tt)
called_small known Ccx qs h = (tt, (tt, (tt, (tt, (tt, (tt, (tt, (tt, (tt, (tt, (tt, (tt, (tt, (tt, (tt, tt)))))))))))))))
called_small known Swap qs h = (tt, (tt, (tt, tt)))
called_small known (Defined number) qs h = known_small known number qs h

body_small : (known : List Calls) (qs : List ℕ) (op : BodyOp) → ByRecursion SmallCalls known → AllSmall (body_flats known qs op)
body_small known qs (ops.Call gate formals) h = called_small known gate (map (slice_index qs) formals) h
body_small known qs ops.Barrier h = tt

each_small : (before : List Calls) (ds : List GateDef) → ByRecursion SmallCalls before → ByRecursion SmallCalls (each_from definition_flats before ds)
unfolding each_from
each_small before [] h = h
each_small before (d ∷ ds) h = each_small (before ++ definition_flats before d ∷ []) ds (both_parts SmallCalls before (definition_flats before d ∷ []) h ((λ qs. each_part SmallFlat (body_flats before qs) d.body (λ op. body_small before qs op h)), tt))

statement_small : (known : List Calls) (s : Statement) → ByRecursion SmallCalls known → SmallStatement s → AllSmall (statement_flats known s)
unfolding SmallFlat
statement_small known (statements.Call line gate args) h small = each_part SmallFlat (applied known gate args) (indices args) (λ i. called_small known gate _ h)
statement_small known (statements.Measure line from to) h small = each_image SmallFlat (measured from to) (indices (from ∷ [])) (λ i. tt)
statement_small known (statements.Barrier line) h small = tt
statement_small known (statements.Reset line arg) h small = each_image SmallFlat (reset_at arg) (indices (arg ∷ [])) (λ i. tt)
statement_small known (statements.If line first size value gate arg) h small = each_image SmallFlat (conditional first size value gate arg) (indices (arg ∷ [])) (λ i. small)

statements_small : (known : List Calls) (ss : List Statement) → ByRecursion SmallCalls known → ByRecursion SmallStatement ss → AllSmall (all_flats known ss)
statements_small known [] h small = tt
statements_small known (s ∷ ss) h small = both_parts SmallFlat (statement_flats known s) (all_flats known ss) (statement_small known s h small.0) (statements_small known ss h small.1)

flats_small : (tree : Tree) → ByRecursion SmallStatement tree.statements → AllSmall (flats_of tree)
unfolding flats_of
flats_small tree small = statements_small (calls_of tree.gates) tree.statements (each_small [] tree.gates tt) small

-- ---- items

one_small : (n : ℕ) (gate : Gate1) (q : ℕ) → ByRecursion HasSmallValue (one_gate n gate q)
one_small n ones.Id q = tt
one_small n ones.X q = (tt, tt)
one_small n ones.Y q = (tt, tt)
one_small n ones.Z q = (tt, tt)
one_small n ones.H q = (tt, (tt, (tt, tt)))
one_small n ones.S q = (tt, tt)
one_small n ones.Sdg q = (tt, tt)
one_small n ones.Sx q = (tt, tt)
one_small n ones.Sxdg q = (tt, tt)
one_small n ones.T q = (tt, tt)
one_small n ones.Tdg q = (tt, tt)

two_small : (n : ℕ) (gate : Gate2) (a b : ℕ) → ByRecursion HasSmallValue (two_gate n gate a b)
two_small n twos.Cx a b = (tt, (tt, (tt, tt)))
two_small n twos.Cy a b = (tt, (tt, (tt, tt)))
two_small n twos.Cz a b = (tt, (tt, (tt, tt)))

if_small : (n : ℕ) (gate : Gate1) (q first size value : ℕ) → value < 2 ^ 32 → ByRecursion HasSmallValue (conditional_gate n gate q first size value)
if_small n ones.X q first size value l = (l, tt)
if_small n ones.Y q first size value l = (l, tt)
if_small n ones.Z q first size value l = (l, tt)
if_small n ones.Id q first size value l = tt
if_small n ones.H q first size value l = tt
if_small n ones.S q first size value l = tt
if_small n ones.Sdg q first size value l = tt
if_small n ones.Sx q first size value l = tt
if_small n ones.Sxdg q first size value l = tt
if_small n ones.T q first size value l = tt
if_small n ones.Tdg q first size value l = tt

flat_small : (n next : ℕ) (f : Flat) → SmallFlat f → ByRecursion HasSmallValue (flat_items n next f)
unfolding SmallFlat
flat_small n next (flats.Gate1 gate q) l = one_small n gate q
flat_small n next (flats.Gate2 gate a b) l = two_small n gate a b
flat_small n next (flats.Measure q bit) l = (tt, tt)
flat_small n next (flats.Reset q) l = (tt, (omega arith, tt))
flat_small n next (flats.If gate q first size value) l = if_small n gate q first size value l

items_small : (n next : ℕ) (fs : List Flat) → AllSmall fs → ByRecursion HasSmallValue (items_from n next fs)
items_small n next [] h = subst (ByRecursion HasSmallValue) (sym (items_end n next)) tt
items_small n next (f ∷ fs) h = subst (ByRecursion HasSmallValue) (sym (items_next n next f fs)) (both_parts HasSmallValue (flat_items n next f) (items_from n (next + hidden_in f) fs) (flat_small n next f h.0) (items_small n (next + hidden_in f) fs h.1))

pub program_small : (tree : Tree) (n next : ℕ) → ByRecursion SmallStatement tree.statements → All HasSmallValue (items_from n next (flats_of tree))
program_small tree n next small = All-from_recursion HasSmallValue (items_from n next (flats_of tree)) (items_small n next (flats_of tree) (flats_small tree small))
