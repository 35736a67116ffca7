-- The laws of a field.
use Rattle.std.specs.Prelude.{◌≡◌, ◌≢◌, ℕ, ◌<◌, ◌≤◌}
use Rattle.dense_blocks.specs.Field.{Ops}

-- the laws of a field; each result is a scalar, so only the neutral numbers and the inverses ask for one
pub record IsField (K : Ops) : Type 0 where
  pub order_low : 2 ≤ K.order
  pub order_high : K.order ≤ 256
  pub add_below : (a b : ℕ) → K.add a b < K.order
  pub neg_below : (a : ℕ) → K.neg a < K.order
  pub mul_below : (a b : ℕ) → K.mul a b < K.order
  pub inv_below : (a : ℕ) → K.inv a < K.order
  pub add_assoc : (a b c : ℕ) → K.add (K.add a b) c ≡ K.add a (K.add b c)
  pub add_comm : (a b : ℕ) → K.add a b ≡ K.add b a
  pub add_zero : (a : ℕ) → a < K.order → K.add a 0 ≡ a
  pub add_neg : (a : ℕ) → K.add a (K.neg a) ≡ 0
  pub mul_assoc : (a b c : ℕ) → K.mul (K.mul a b) c ≡ K.mul a (K.mul b c)
  pub mul_comm : (a b : ℕ) → K.mul a b ≡ K.mul b a
  pub mul_one : (a : ℕ) → a < K.order → K.mul a 1 ≡ a
  pub mul_inv : (a : ℕ) → a < K.order → a ≢ 0 → K.mul a (K.inv a) ≡ 1
  pub mul_add : (a b c : ℕ) → K.mul a (K.add b c) ≡ K.add (K.mul a b) (K.mul a c)
