use Rattle.std.proofs.Common.{Contains, subst, sym}
use Rattle.field_table.specs.Table.{orders}
use Rattle.sheaf_text.proofs.Accepted.{field_accepted}
use Rattle.sheaf_text.proofs.state.State.take_field.Goals as goal

pub set_field-requires-clause-known : goal.set_field-requires-clause-known
set_field-requires-clause-known c = subst (λ q. Contains orders q) (sym c.s_value.ensures)
    (field_accepted _ _ c.requires)
