use Rattle.std.specs.Prelude.{◌≡◌, ◌≢◌, ℕ, ◌+◌, ◌*◌, ◌%◌, ◌<◌}
use Rattle.std.proofs.Common.{arith, ap, refl, suc, zero}
use Rattle.std.proofs.lemmas.Nat.{mul-mod_first, mul-mod_second}
use Rattle.std.proofs.Math.Nat.{mul_assoc, add-mod, mul-add}
use Rattle.dense_blocks.specs.Field.{Ops}
use Rattle.dense_blocks.specs.FieldLaws.{IsField}

-- The field of two elements.
abbrev pub two : Ops
two = record { order = 2; add = λ a b. (a + b) % 2; neg = λ a. a % 2; mul = λ a b. (a * b) % 2; inv = λ a. a % 2 }

mod_mul_assoc : (q a b c : ℕ) → ((a * b) % q * c) % q ≡ (a * ((b * c) % q)) % q
mod_mul_assoc q a b c = rw (mul-mod_first (a * b) c q, mul-mod_second a (b * c) q)
    (ap (λ (n : ℕ). n % q) (mul_assoc a b c))

mod_mul_add : (q a b c : ℕ) → (a * ((b + c) % q)) % q ≡ ((a * b) % q + (a * c) % q) % q
mod_mul_add q a b c =
    rw (mul-mod_second a (b + c) q, ← add-mod (a * b) (a * c) q) (ap (λ (n : ℕ). n % q) (mul-add a b c))

two_inv : (a : ℕ) → a < 2 → a ≢ 0 → (a * (a % 2)) % 2 ≡ 1
two_inv zero h n = absurd (n refl)
two_inv (suc zero) h n = refl
two_inv (suc (suc a)) h n = absurd (omega arith)

pub two_is_field : IsField two
two_is_field = record {
  order_low = omega arith;
  order_high = omega arith;
  add_below = λ a b. omega arith;
  neg_below = λ a. omega arith;
  mul_below = λ a b. omega arith;
  inv_below = λ a. omega arith;
  add_assoc = λ a b c. omega arith;
  add_comm = λ a b. omega arith;
  add_zero = λ a h. omega arith;
  add_neg = λ a. omega arith;
  mul_assoc = λ a b c. mod_mul_assoc 2 a b c;
  mul_comm = λ a b. omega arith;
  mul_one = λ a h. omega arith;
  mul_inv = λ a h n. two_inv a h n;
  mul_add = λ a b c. mod_mul_add 2 a b c;
}
