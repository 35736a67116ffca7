use Rattle.std.proofs.Common.{◌≡◌, ◌+◌, ◌*◌, ◌<◌, true, nat_eq, length, All, get_or, sym, ap, ◌∙◌, subst, arith}
use Rattle.std.specs.List.{list_any}
use Rattle.cell_complex.specs.Complexes.{is_face}
use Rattle.cell_complex.proofs.Places.{all-listed}
use Rattle.incidence_check.proofs.Faces.{faces_of-below, list_any-faces_of}
use Rattle.incidence_check.proofs.Passing.{passes_below}
use Rattle.incidence_check.proofs.pairs.all_cancel.Goals as goal

pub all_marked-requires-clause-t_is_cell : goal.all_marked-requires-clause-t_is_cell
all_marked-requires-clause-t_is_cell c =
    subst (λ ss. All (λ s. s < length c.args.c.now.dims) ss) (sym c.faces_of-t-items.ensures.cells)
    (faces_of-below c.args.c.now c.args.u) c.loop-t.t-index 0 (omega arith)

pub returns : goal.returns
returns c = λ _. passes_below c.args.c.now c.args.u c.args.marks.now c.requires.marks
    (λ t s up low. all-listed (λ t. is_face c.args.c.now s t ≡ true → get_or c.args.marks.now s 0 ≡ 4 * c.args.u + 3)
    c.faces_of-t-items.result.now c.loop-t.t-index (omega arith) (λ k l. c.loop-t.invariant k s l) t
    (ap (list_any (nat_eq t)) c.faces_of-t-items.ensures.cells
    ∙ list_any-faces_of c.args.c.now c.requires.complex t c.args.u ∙ up) low)
