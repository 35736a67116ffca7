use Rattle.std.proofs.Common.{length, ap, arith}
use Rattle.cell_complex.proofs.Callers.{incident_from_face}
use Rattle.edit_versions.proofs.work.Work.set_restriction.Goals as goal

pub size_at-rows-requires : goal.size_at-rows-requires
size_at-rows-requires c =
    let i = incident_from_face c.args.c.now c.requires.complex c.args.s c.args.t c.requires.face in
    omega (arith, i.t_is_cell, ap length c.deref.ensures.value)

pub size_at-cols-requires : goal.size_at-cols-requires
size_at-cols-requires c =
    let i = incident_from_face c.args.c.now c.requires.complex c.args.s c.args.t c.requires.face in
    omega (arith, i.s_is_cell, ap length c.deref-2.ensures.value)
