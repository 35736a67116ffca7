-- What callers see of a source and of a sink over memory.
use Rattle.std.specs.Prelude.{ℕ, List, Contains}
use Rattle.io_edge.specs.Counts.{next_count}

-- the bytes still to come, how many of them a read gives at most, which calls fail, and the counts of calls and of
-- faults
pub record SourceState : Type 0 where
  pub left : List ℕ
  pub step : ℕ
  pub failing : List ℕ
  pub calls : ℕ
  pub faults : ℕ

-- the bytes taken, how many of them are flushed, how many there is room for, how many a write takes at most,
-- which calls fail, and the counts of calls and of faults
pub record SinkState : Type 0 where
  pub taken : List ℕ
  pub flushed : ℕ
  pub room : ℕ
  pub step : ℕ
  pub failing : List ℕ
  pub calls : ℕ
  pub faults : ℕ

-- after so many calls, the number of the next is among the failing ones
abbrev pub FailsNext : List ℕ → ℕ → Type 0
FailsNext failing calls = Contains failing (next_count calls)
