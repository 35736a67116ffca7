use Rattle.std.proofs.Common.{refl, ap, ◌∙◌, List, ℕ, map}
use Rattle.std.specs.Prelude.{slice_index}
use Rattle.cell_complex.specs.declared.face.Face.{Face}
use Rattle.cell_complex.specs.Invariants.{with_face}
use Rattle.sheaf_text.specs.Cut.{value_of}
use Rattle.sheaf_text.proofs.Faces.{adds_face}
use Rattle.sheaf_text.proofs.parts.Parts.add_face.Goals as goal

pub returns : goal.returns
returns c =
    let stalks = c.args.self.now.stalks.items in
    adds_face c.args.self.now _ c.args.line.now _ c.requires.parts c.requires.closed
    c.requires.fits
    (record {
      rows_are = c.stalk_of-rows.ensures.value
          ∙ ap (λ (xs : List ℕ). slice_index xs c.face_of-face.result.t) c.deref.ensures.value
          ∙ ap (λ (f : Face). slice_index stalks f.t) c.face_of-face.ensures;
      cols_are = c.stalk_of-cols.ensures.value
          ∙ ap (λ (xs : List ℕ). slice_index xs c.face_of-face.result.s) c.deref-2.ensures.value
          ∙ ap (λ (f : Face). slice_index stalks f.s) c.face_of-face.ensures;
      entries_are = c.in_ok-entries.ensures ∙ ap (map value_of) (c.text.ensures ∙ c.entries-words.ensures);
    })
    (c.in_ok-add_face.ensures ∙ ap (with_face c.args.self.now.complex) c.face_of-face.ensures)
    c.in_ok-push.ensures.items refl refl refl refl
