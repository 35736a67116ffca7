use Rattle.std.proofs.Common.{sym, ap₂, ◌∙◌}
use Rattle.cell_complex.specs.Invariants.{place}
use Rattle.cell_complex.proofs.Places.{place-of_face, sign-at}
use Rattle.cell_complex.proofs.complex.Complex.face_near.Goals as goal

pub returns-then-face-t-clause-place : goal.returns-then-face-t-clause-place
returns-then-face-t-clause-place c =
    ap₂ (place c.args.self.now) (sym c.if-face-s.true) (sym c.if-face-t.true)
    ∙ place-of_face c.args.self.now c.face_count.ensures.complex c.args.guess c.face_at-face.result
    c.face_at-face.ensures

pub returns-then-face-t-clause-sign : goal.returns-then-face-t-clause-sign
returns-then-face-t-clause-sign c =
    sign-at c.args.self.now c.args.s c.args.t c.args.guess c.face_at-face.result (returns-then-face-t-clause-place c)
    c.face_at-face.ensures
