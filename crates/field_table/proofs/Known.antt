-- The orders of the table.
use Rattle.std.proofs.Common.{◌≡◌, ℕ, sym, ap, ◌∙◌, subst, ◌↔◌, ◌==◌, if◌then◌else◌, IsSome, Some, Contains, refl, lit<}
use Rattle.field_table.specs.declared.field.Field.{Field}
use Rattle.field_table.specs.declared.field.Field.TheVariants.{Two, Three, Five, Seven, Eleven, Thirteen, Seventeen}
use Rattle.field_table.specs.declared.field.Field.TheVariants.{Nineteen, TwentyThree, TwentyNine, ThirtyOne}
use Rattle.field_table.specs.Table.{order_of, orders}

-- the order of a field stands among the orders
contains_order : (f : Field) → Contains orders (order_of f)
contains_order Two = (0, lit< tt, refl)
contains_order Three = (1, lit< tt, refl)
contains_order Five = (2, lit< tt, refl)
contains_order Seven = (3, lit< tt, refl)
contains_order Eleven = (4, lit< tt, refl)
contains_order Thirteen = (5, lit< tt, refl)
contains_order Seventeen = (6, lit< tt, refl)
contains_order Nineteen = (7, lit< tt, refl)
contains_order TwentyThree = (8, lit< tt, refl)
contains_order TwentyNine = (9, lit< tt, refl)
contains_order ThirtyOne = (10, lit< tt, refl)

-- so there is a field at an order that is one's order
pub known_at : (f : Field) (order : ℕ) → order ≡ order_of f → IsSome (Some f) ↔ Contains orders order
known_at f order e = (λ _. subst (Contains orders) (sym e) (contains_order f), λ _. refl)

-- the field of an order, where one has it
field_at : ℕ → Field
field_at order =
    if order == 2 then Two else if order == 3 then Three else if order == 5 then Five else if order == 7 then Seven
    else if order == 11 then Eleven else if order == 13 then Thirteen else if order == 17 then
    Seventeen else if order == 19 then Nineteen
    else if order == 23 then TwentyThree else if order == 29 then TwentyNine else ThirtyOne

field_at-order_of : (f : Field) → field_at (order_of f) ≡ f
unfolding field_at
field_at-order_of Two = refl
field_at-order_of Three = refl
field_at-order_of Five = refl
field_at-order_of Seven = refl
field_at-order_of Eleven = refl
field_at-order_of Thirteen = refl
field_at-order_of Seventeen = refl
field_at-order_of Nineteen = refl
field_at-order_of TwentyThree = refl
field_at-order_of TwentyNine = refl
field_at-order_of ThirtyOne = refl

-- fields of one order are the same
pub order_of-injective : (f g : Field) → order_of f ≡ order_of g → f ≡ g
order_of-injective f g e = sym (field_at-order_of f) ∙ ap field_at e ∙ field_at-order_of g
