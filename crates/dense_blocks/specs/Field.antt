-- A finite field: its operations and its laws.
use Rattle.std.specs.Prelude.{ℕ}

-- the operations of a field, read on all numbers; its scalars are the numbers below the order
pub record Ops : Type 0 where
  pub order : ℕ
  pub add : ℕ → ℕ → ℕ
  pub neg : ℕ → ℕ
  pub mul : ℕ → ℕ → ℕ
  pub inv : ℕ → ℕ
