-- Counts of faults, and what carries one.
use Rattle.std.specs.Prelude.{ℕ, ◌+◌, ◌-◌, ◌^◌, min, Result, Ok, Err}

-- the count after this one in a u64, whose last value stays
abbrev pub next_count : ℕ → ℕ
next_count count = min (count + 1) (2 ^ 64 - 1)

-- the count after a call by which just the errors are counted
abbrev pub count_after : {T E : Type 0} → Result T E → ℕ → ℕ
count_after (Ok _) before = before
count_after (Err _) before = next_count before

-- a reader or a writer, and its count of faults
pub record Counted (A : Type 0) : Type 0 where
  pub inner : A
  pub faults : ℕ
