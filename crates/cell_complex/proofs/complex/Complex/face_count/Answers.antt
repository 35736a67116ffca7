use Rattle.std.proofs.Common.{arith}
use Rattle.std.proofs.lemmas.List.{length-map}
use Rattle.cell_complex.specs.Fields.{face_of_entry, complex_from}
use Rattle.cell_complex.proofs.Counts.{length-faces}
use Rattle.cell_complex.proofs.complex.Complex.face_count.Goals as goal

pub overflow_cast-result : goal.overflow_cast-result
overflow_cast-result c =
    let shown_faces = complex_from c.self.inside.dims.items c.self.inside.signs.entries in
    omega (
      arith,
      length-faces shown_faces c.self.invariant.complex,
      length-map c.self.inside.signs.entries
          face_of_entry,
    )
