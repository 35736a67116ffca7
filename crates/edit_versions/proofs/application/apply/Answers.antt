use Rattle.edit_versions.proofs.Unique.{tells}
use Rattle.edit_versions.proofs.application.apply.Goals as goal

pub returns-clause-told : goal.returns-clause-told
returns-clause-told g c =
    tells (g.F.Scalars.ops c.args.sheaf.now.field) c.args.sheaf.now c.args.edit.now c.apply_sets.result
    c.apply_sets.ensures.accepted c.apply_sets.ensures.refused
