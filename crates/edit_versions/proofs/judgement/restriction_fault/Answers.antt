use Rattle.std.proofs.Common.{sym, ◌∙◌, arith}
use Rattle.cell_complex.proofs.Callers.{incident_from_face}
use Rattle.edit_versions.proofs.judgement.restriction_fault.Goals as goal

pub bounds-stalks-t : goal.bounds-stalks-t
bounds-stalks-t g c =
    let i = incident_from_face c.args.c.now c.requires.complex c.args.s c.args.t (sym c.is_face.ensures
    ∙ c.if-not-is_face.false) in
    omega (arith, i.t_is_cell)

pub bounds-stalks-s : goal.bounds-stalks-s
bounds-stalks-s g c =
    let i = incident_from_face c.args.c.now c.requires.complex c.args.s c.args.t (sym c.is_face.ensures
    ∙ c.if-not-is_face.false) in
    omega (arith, i.s_is_cell)
