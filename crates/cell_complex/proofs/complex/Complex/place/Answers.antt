use Rattle.std.proofs.Common.{ap, ◌∙◌, arith}
use Rattle.std.proofs.lemmas.List.{length-map}
use Rattle.cell_complex.specs.Invariants.{place}
use Rattle.cell_complex.specs.Fields.{face_of_entry, complex_from}
use Rattle.cell_complex.proofs.Entries.{position-place}
use Rattle.cell_complex.proofs.Counts.{length-faces}
use Rattle.cell_complex.proofs.complex.Complex.place.Goals as goal

pub returns-in_err-place : goal.returns-in_err-place
returns-in_err-place c =
    c.from_residual.ensures ∙ c.in_err-place.ensures.index
    ∙ position-place c.args.s c.args.t c.self.inside.signs.entries
    ∙ ap (λ all. place all c.args.s c.args.t) c.self.view_is

pub overflow_cast-result : goal.overflow_cast-result
overflow_cast-result c =
    let all = complex_from c.self.inside.dims.items c.self.inside.signs.entries in
    omega (
      arith,
      length-faces all c.self.invariant.complex,
      length-map c.self.inside.signs.entries face_of_entry,
      c.in_ok-place.ensures.within,
    )

pub returns : goal.returns
returns c =
    c.in_ok-place.ensures.index
    ∙ position-place c.args.s c.args.t c.self.inside.signs.entries
    ∙ ap (λ all. place all c.args.s c.args.t) c.self.view_is
