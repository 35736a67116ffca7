use Rattle.std.proofs.Common.{◌≡◌, ◌<◌, nat_eq, length, All, get_or, sym, ap, ◌∙◌, subst, arith}
use Rattle.std.specs.List.{list_any}
use Rattle.cell_complex.proofs.Places.{all-listed}
use Rattle.incidence_check.proofs.Faces.{faces_of-below, list_any-faces_of}
use Rattle.incidence_check.proofs.pairs.all_marked.Goals as goal

pub bounds-marks-s : goal.bounds-marks-s
bounds-marks-s c =
    let below : get_or c.faces_of-s-items.result.now c.loop-s.s-index 0 < length c.args.c.now.dims =
    subst (λ ss. All (λ s. s < length c.args.c.now.dims) ss) (sym c.faces_of-s-items.ensures.cells)
    (faces_of-below c.args.c.now c.args.t) c.loop-s.s-index 0 (omega arith) in
    omega (arith, below, c.requires.complex.small.few, c.requires.count)

pub returns : goal.returns
returns c = λ _ s e. all-listed (λ s. get_or c.args.marks.now s 0 ≡ c.args.mark) c.faces_of-s-items.result.now
    c.loop-s.s-index (omega arith) c.loop-s.invariant s
    (ap (list_any (nat_eq s)) c.faces_of-s-items.ensures.cells
    ∙ list_any-faces_of c.args.c.now c.requires.complex s c.args.t ∙ e)
