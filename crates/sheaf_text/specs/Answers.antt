-- What a call of the reader answers, beside the reading of its bytes.
use Rattle.std.specs.Prelude.{◌≡◌, ◌≤◌, ◌<◌, ℕ, List, length, slice_index, sum_by, All, Result, Ok, Err}
use Rattle.sheaf_words.specs.declared.query.Command.{Command}
use Rattle.sheaf_words.specs.declared.query.Command.TheVariants.{Change, Ask}
use Rattle.sheaf_words.specs.declared.query.Query.{Query}
use Rattle.sheaf_words.specs.declared.query.Query.TheVariants.{Betti, Reduce, Equiv, Basis, Class}
use Rattle.sheaf_words.specs.declared.query.Query.TheVariants.{Sections, Extend}
use Rattle.sheaf_text.specs.Readings.{Reading, Good, RefusedLine, input_value}
use Rattle.sheaf_text.specs.declared.input.Input.{Input}
use Rattle.sheaf_text.specs.declared.fault.Refusal.TheVariants.{Bad, Over}
use Rattle.sheaf_text.specs.declared.fault.TextFault.{TextFault}
use Rattle.sheaf_text.specs.declared.fault.TextFault.TheVariants as faults

-- want of memory says nothing of the bytes
abbrev pub GivesFault : TextFault → Reading → Type 0
GivesFault (faults.BadLine line cause) reading = reading ≡ RefusedLine line (Bad cause)
GivesFault (faults.Limit line which) reading = reading ≡ RefusedLine line (Over which)
GivesFault faults.NoMemory reading = Unit {0}

-- the answer is the reading, unless memory ran out
abbrev pub Gives : Result Input TextFault → Reading → Type 0
Gives (Ok input) reading = reading ≡ Good (input_value input)
Gives (Err fault) reading = GivesFault fault reading

-- s is a cell of dimension 0, where the cells have these dimensions
pub record IsVertex (dims : List ℕ) (s : ℕ) : Type 0 where
  pub is_cell : s < length dims
  pub dimension : slice_index dims s ≡ 0

-- what can be asked of a complex whose cells have these dimensions
abbrev pub CanBeServed : List ℕ → Query → Type 0
CanBeServed dims Betti = Unit {0}
CanBeServed dims Reduce = Unit {0}
CanBeServed dims Equiv = Unit {0}
CanBeServed dims (Basis k) = k ≤ 15
CanBeServed dims (Class k z) = k ≤ 15
CanBeServed dims Sections = Unit {0}
CanBeServed dims (Extend s v) = IsVertex dims s

-- the command is an edit of at most n changes, or a question that can be served
abbrev pub IsServable : List ℕ → ℕ → Command → Type 0
IsServable dims n (Change e) = length e.sets ≤ n
IsServable dims n (Ask q) = CanBeServed dims q

-- at most 8 scripts, at most 4,096 commands in all, each an edit of at most 1,000,000,000 changes or a question that
-- can be served
pub record AreServable (dims : List ℕ) (scripts : List (List Command)) : Type 0 where
  pub clients : length scripts ≤ 8
  pub commands : sum_by length scripts ≤ 4096
  pub each : All (All (IsServable dims 1000000000)) scripts
