-- The commands of the programs, and their words.
use Rattle.std.specs.Prelude.{◌≡◌, ℕ, ◌*◌, ◌≤◌, List, [], ◌∷◌, length, map, codes, decimal}
use Rattle.std.specs.String.{string_bytes}
use Rattle.tool_words.specs.declared.run.RunCommand.{RunCommand}
use Rattle.tool_words.specs.declared.run.RunCommand.TheVariants as r
use Rattle.tool_words.specs.declared.tool.ToolCommand.{ToolCommand}
use Rattle.tool_words.specs.declared.tool.ToolCommand.TheVariants as t

-- ---- patchtool

-- a command, with the names of its texts: of a circuit, a layout, outcomes, a schedule
pub data Tool : Type 0 where
  serial : List ℕ → List ℕ → List ℕ → Tool
  lower : List ℕ → Tool
  layout : List ℕ → List ℕ → Tool
  verify : List ℕ → List ℕ → List ℕ → List ℕ → Tool
  slices : List ℕ → List ℕ → List ℕ → List ℕ → Tool
  migrate : List ℕ → List ℕ → List ℕ → List ℕ → Tool
  layers : List ℕ → Tool
  least : List ℕ → List ℕ → List ℕ → Tool

-- the words that give it
abbrev pub tool_words : Tool → List (List ℕ)
tool_words (serial c l o) = codes "serial" ∷ c ∷ l ∷ o ∷ []
tool_words (lower c) = codes "lower" ∷ c ∷ []
tool_words (layout c l) = codes "layout" ∷ c ∷ l ∷ []
tool_words (verify c l o s) = codes "verify" ∷ c ∷ l ∷ o ∷ s ∷ []
tool_words (slices c l o s) = codes "slices" ∷ c ∷ l ∷ o ∷ s ∷ []
tool_words (migrate c l o s) = codes "migrate" ∷ c ∷ l ∷ o ∷ s ∷ []
tool_words (layers c) = codes "layers" ∷ c ∷ []
tool_words (least c l o) = codes "least" ∷ c ∷ l ∷ o ∷ []

-- what an answered command says
abbrev pub tool_of : ToolCommand → Tool
tool_of (t.Serial c l o) = serial c.now l.now o.now
tool_of (t.Lower c) = lower c.now
tool_of (t.Layout c l) = layout c.now l.now
tool_of (t.Verify c l o s) = verify c.now l.now o.now s.now
tool_of (t.Slices c l o s) = slices c.now l.now o.now s.now
tool_of (t.Migrate c l o s) = migrate c.now l.now o.now s.now
tool_of (t.Layers c) = layers c.now
tool_of (t.Least c l o) = least c.now l.now o.now

-- ---- patchrun

-- a command, with the names of its texts and the number k of routers; `side` has the names of a circuit and of outcomes for each program, one after another
pub data Run : Type 0 where
  run : List ℕ → List ℕ → List ℕ → ℕ → Run
  bits : List ℕ → List ℕ → List ℕ → ℕ → Run
  big : ℕ → ℕ → Run
  side : List ℕ → ℕ → List (List ℕ) → Run

-- the words that give it
abbrev pub run_words : Run → List (List ℕ)
run_words (run c l o k) = codes "run" ∷ c ∷ l ∷ o ∷ decimal k ∷ []
run_words (bits c l o k) = codes "bits" ∷ c ∷ l ∷ o ∷ decimal k ∷ []
run_words (big n k) = codes "big" ∷ decimal n ∷ decimal k ∷ []
run_words (side l k names) = codes "side" ∷ l ∷ decimal k ∷ names

-- 1 to 16 routers
abbrev pub AreRouters : ℕ → Type 0
AreRouters k = (1 ≤ k) × (k ≤ 16)

-- two names for each of 1 to 8 programs
abbrev pub ArePairs : List (List ℕ) → Type 0
ArePairs names = (programs : ℕ) × (1 ≤ programs) × (programs ≤ 8) × (length names ≡ 2 * programs)

-- its numbers are in range
abbrev pub IsRun : Run → Type 0
IsRun (run c l o k) = AreRouters k
IsRun (bits c l o k) = AreRouters k
IsRun (big n k) = (1 ≤ n) × (n ≤ 4000) × AreRouters k
IsRun (side l k names) = AreRouters k × ArePairs names

-- what an answered command says
abbrev pub run_of : RunCommand → Run
run_of (r.Run c l o k) = run c.now l.now o.now k
run_of (r.Bits c l o k) = bits c.now l.now o.now k
run_of (r.Big n k) = big n k
run_of (r.Side l k pairs) = side l.now k (map string_bytes pairs.now)
