-- The first pair that fails, in order of the first number and then of the second.
use Rattle.std.specs.Prelude.{◌≡◌, ℕ, ◌<◌, true, nat_lt, ◌||◌, ◌==◌, ◌&&◌}

-- s and u are cells that fail, and all before them pass
pub record IsFirstOf (P : ℕ → ℕ → Type 0) (count s u : ℕ) : Type 0 where
  pub s_is_cell : s < count
  pub u_is_cell : u < count
  pub fails : P s u → ⊥
  pub before : (v w : ℕ) → (nat_lt v s || ((v == s) && nat_lt w u)) ≡ true → P v w
