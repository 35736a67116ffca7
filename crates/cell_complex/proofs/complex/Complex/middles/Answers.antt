use Rattle.std.proofs.Common.{ap₂, ◌∙◌}
use Rattle.cell_complex.specs.Common.{common}
use Rattle.cell_complex.specs.Complexes.{all_cells, is_face}
use Rattle.cell_complex.proofs.Numbers.{common-filter}
use Rattle.cell_complex.proofs.complex.Complex.middles.Goals as goal

pub returns : goal.returns
returns c =
    let all = c.args.self.now in
    c.of.ensures ∙ ap₂ common c.cofaces_of.ensures.cells c.faces_of-faces.ensures.cells
    ∙ common-filter (is_face all c.args.s) (λ t. is_face all t c.args.u) (all_cells all)
