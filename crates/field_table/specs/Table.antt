-- The fields of the table.
use Rattle.std.specs.Prelude.{ℕ, List, [], ◌∷◌}
use Rattle.dense_blocks.specs.Field.{Ops}
use Rattle.field_table.specs.declared.field.Field.{Field}
use Rattle.field_table.specs.declared.field.Field.TheVariants.{Two, Three, Five, Seven, Eleven, Thirteen, Seventeen}
use Rattle.field_table.specs.declared.field.Field.TheVariants.{Nineteen, TwentyThree, TwentyNine, ThirtyOne}
use Rattle.field_table.specs.Modular.{modulo}

-- the orders of the table
abbrev pub orders : List ℕ
orders = 2 ∷ 3 ∷ 5 ∷ 7 ∷ 11 ∷ 13 ∷ 17 ∷ 19 ∷ 23 ∷ 29 ∷ 31 ∷ []

-- the order of a field
abbrev pub order_of : Field → ℕ
order_of Two = 2
order_of Three = 3
order_of Five = 5
order_of Seven = 7
order_of Eleven = 11
order_of Thirteen = 13
order_of Seventeen = 17
order_of Nineteen = 19
order_of TwentyThree = 23
order_of TwentyNine = 29
order_of ThirtyOne = 31

-- the operations of a field
abbrev pub ops_of : Field → Ops
ops_of f = modulo (order_of f)
