use Rattle.std.proofs.Common.{◌∙◌, Bool, cond, nat_eq, sym, ap, Some, None}
use Rattle.std.specs.List.{list_any}
use Rattle.field_table.specs.Table.{orders}
use Rattle.sheaf_text.specs.declared.fault.LineCause.TheVariants as causes
use Rattle.sheaf_text.specs.declared.fault.Refusal.TheVariants.{Bad}
use Rattle.sheaf_text.proofs.Accepted.{no_order}
use Rattle.sheaf_text.proofs.judgements.field_refusal.Goals as goal

pub returns-in-None : goal.returns-in-None
returns-in-None c =
    let absent = no_order c.s_value.result (λ h. let is_some = c.in-None.ensures.known.1 h in cc) in
    sym (ap (λ (b : Bool). cond b None (Some (Bad causes.Field)))
    (ap (λ q. list_any (nat_eq q) orders) (sym c.s_value.ensures) ∙ absent))
