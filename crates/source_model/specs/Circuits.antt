-- What every call that takes a circuit asks of it, and the outcomes that fit its products.
use Rattle.std.specs.Prelude.{◌≡◌, ◌≢◌, ◌⊎◌, ℕ, ◌+◌, ◌<◌, ◌≤◌, List, [], ◌∷◌, All, Any, length, sum_by}
use Rattle.pauli_product.specs.Signed.{OfLength}
use Rattle.source_model.specs.declared.Angle.TheVariants.{Eighth, Quarter, Half}
use Rattle.source_model.specs.declared.Circuit.{Circuit}
use Rattle.source_model.specs.declared.Given.{Given}
use Rattle.source_model.specs.declared.Given.TheVariants as given
use Rattle.source_model.specs.declared.Item.{Item}
use Rattle.source_model.specs.declared.Item.TheVariants as item
use Rattle.source_model.specs.declared.Kind.{Kind}
use Rattle.source_model.specs.declared.Kind.TheVariants as kind
use Rattle.source_model.specs.declared.Register.{Register}
use Rattle.source_model.specs.SourceRun.{axis_of}

-- the number of bits of the registers; hidden bits are numbered from here
abbrev pub bits_in : List Register → ℕ
bits_in registers = sum_by (λ r. r.size) registers

-- each axis has a letter for each qubit
abbrev pub AxesOfLength : ℕ → List Item → Type 0
AxesOfLength n items = All (λ i. OfLength n (axis_of i)) items

-- no line feed
abbrev pub IsOneLine : List ℕ → Type 0
IsOneLine name = All (λ b. b ≢ 10) name

-- each register's first bit is the number of bits before it
abbrev pub FirstsRunOn : ℕ → List Register → Type 0
FirstsRunOn before [] = Unit {0}
FirstsRunOn before (r ∷ rs) = (r.first ≡ before) × FirstsRunOn (before + r.size) rs

-- each bit that an item names is below the number of bits
abbrev pub BitsBelow : ℕ → Item → Type 0
BitsBelow bits (item.Turn axis angle) = Unit {0}
BitsBelow bits (item.Measure axis bit) = bit < bits
BitsBelow bits (item.If axis first size value) = first + size ≤ bits

-- an If reads all bits of one register, or one hidden bit with value 1
abbrev pub ReadsWhole : List Register → Item → Type 0
ReadsWhole registers (item.Turn axis angle) = Unit {0}
ReadsWhole registers (item.Measure axis bit) = Unit {0}
ReadsWhole registers (item.If axis first size value) =
    Any (λ r. (r.first ≡ first) × (r.size ≡ size)) registers ⊎ ((bits_in registers ≤ first) × (size ≡ 1) × (value ≡ 1))

-- hidden bits, numbered from `bits` on, are measured in ascending order from `next` up to `end`, each one once and before it is read
abbrev pub HiddenInOrder : ℕ → ℕ → ℕ → List Item → Type 0
HiddenInOrder bits next end [] = next ≡ end
HiddenInOrder bits next end (item.Turn axis angle ∷ is) = HiddenInOrder bits next end is
HiddenInOrder bits next end (item.Measure axis bit ∷ is) =
    ((bit < bits) × HiddenInOrder bits next end is) ⊎ ((bit ≡ next) × HiddenInOrder bits (next + 1) end is)
HiddenInOrder bits next end (item.If axis first size value ∷ is) = (first + size ≤ next) × HiddenInOrder bits next end is

-- the conditions of every call that takes a circuit
pub record WellFormed (c : Circuit) : Type 0 where
  pub few_qubits : c.qubits ≤ 1024
  pub few_registers : length c.registers ≤ 64
  pub axes_fit : AxesOfLength c.qubits c.items
  pub names_fit : All (λ r. IsOneLine r.name) c.registers
  pub firsts_run_on : FirstsRunOn 0 c.registers
  pub bits_fit : All (BitsBelow (bits_in c.registers + c.hidden)) c.items
  pub reads_fit : All (ReadsWhole c.registers) c.items
  pub hidden_in_order : HiddenInOrder (bits_in c.registers) (bits_in c.registers) (bits_in c.registers + c.hidden) c.items

-- the kinds of the items' products, in source order
abbrev pub kinds : List Item → List Kind
kinds [] = []
kinds (item.Turn axis Eighth ∷ is) = kind.Rotation ∷ kinds is
kinds (item.Turn axis Quarter ∷ is) = kinds is
kinds (item.Turn axis Half ∷ is) = kinds is
kinds (item.Measure axis bit ∷ is) = kind.Measure bit ∷ kinds is
kinds (item.If axis first size value ∷ is) = kind.Settle first size value ∷ kinds is

-- an outcome of a kind of product
abbrev pub IsOutcomeOf : Kind → Given → Type 0
IsOutcomeOf kind.Rotation (given.Rotation raw x) = Unit {0}
IsOutcomeOf (kind.Measure bit) (given.Measure raw) = Unit {0}
IsOutcomeOf (kind.Settle first size value) given.Settled = Unit {0}
IsOutcomeOf _ _ = ⊥

-- one outcome for each of these products, of its kind
abbrev pub OutcomesOf : List Kind → List Given → Type 0
OutcomesOf [] [] = Unit {0}
OutcomesOf [] (g ∷ gs) = ⊥
OutcomesOf (k ∷ ks) [] = ⊥
OutcomesOf (k ∷ ks) (g ∷ gs) = IsOutcomeOf k g × OutcomesOf ks gs

-- a table of the right kinds: one outcome for each product of the items, of its kind
abbrev pub RightKinds : List Item → List Given → Type 0
RightKinds items gs = OutcomesOf (kinds items) gs
