-- The field of an order.
use Rattle.std.specs.Prelude.{◌≡◌, ℕ}
use Rattle.dense_blocks.specs.Field.{Ops}
use Rattle.field_table.specs.ModularFacts.{IsModular}

-- K is the field of this order; the orders of the table are primes, so on its scalars it is arithmetic modulo the order
pub record IsFieldOfOrder (order : ℕ) (K : Ops) : Type 0 where
  pub order_is : K.order ≡ order
  pub operations_are : IsModular order K
