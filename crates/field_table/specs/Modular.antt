-- Whole numbers modulo q: sums, negatives and products; an inverse is whatever multiplies to 1.
use Rattle.std.specs.Prelude.{ℕ, ◌+◌, ◌-◌, ◌*◌, ◌%◌, ◌==◌, find, unwrap_or}
use Rattle.std.specs.List.{range_with_len}
use Rattle.dense_blocks.specs.Field.{Ops}

-- the first number b below q with a * b = 1 modulo q, and 0 where there is none
unfoldable pub inverse : ℕ → ℕ → ℕ
inverse q a = unwrap_or (find (λ b. (a * b) % q == 1) (range_with_len 0 q)) 0

-- the operations of whole numbers modulo q
abbrev pub modulo : ℕ → Ops
modulo q = record {
  order = q;
  add = λ a b. (a + b) % q;
  neg = λ a. (q - a % q) % q;
  mul = λ a b. (a * b) % q;
  inv = inverse q;
}
