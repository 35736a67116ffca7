use Rattle.std.proofs.Common.{ap, ◌∙◌}
use Rattle.cell_complex.specs.Complexes.{CellComplex}
use Rattle.cell_complex.specs.Invariants.{with_face}
use Rattle.cell_complex.specs.Verdicts.{face_fault}
use Rattle.cell_complex.proofs.Faults.{accepted-complex, with_first_faces-more}
use Rattle.cell_complex.proofs.complex.Complex.copy.Goals as goal

pub append-requires : goal.append-requires
append-requires c =
    ap (λ all. face_fault all c.face_at.result) c.loop-place.invariant
    ∙ accepted-complex c.args.self.now c.face_count-place-end.ensures.complex c.loop-place.place c.face_at.result
    c.face_at.ensures

pub loop-place-preserved : goal.loop-place-preserved
loop-place-preserved c =
    let self : CellComplex = c.args.self.now in
    c.in_ok-append.ensures.ok ∙ ap (λ all. with_face all c.face_at.result) c.loop-place.invariant
    ∙ with_first_faces-more self.dims self.faces c.loop-place.place c.face_at.result c.face_at.ensures
