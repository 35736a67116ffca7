use Rattle.std.proofs.Common.{ap, ◌∙◌}
use Rattle.cell_complex.specs.Complexes.{sign}
use Rattle.cell_complex.proofs.Entries.{lookup-sign}
use Rattle.cell_complex.proofs.complex.Complex.sign.Goals as goal

pub returns : goal.returns
returns c =
    c.copied.ensures ∙ c.get.ensures.value ∙ lookup-sign c.args.s c.args.t c.self.inside.signs.entries
    ∙ ap (λ all. sign all c.args.s c.args.t) c.self.view_is
