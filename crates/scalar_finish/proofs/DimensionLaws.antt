-- What is left at the end, of a block complex that was split, counts the dimensions of its cohomology.
use Rattle.std.proofs.Common.{◌≡◌, ℕ, suc, length, sym, ap, ◌∙◌, subst}
use Rattle.std.proofs.lemmas.List.{length-map}
use Rattle.dense_blocks.specs.Field.{Ops}
use Rattle.dense_blocks.specs.FieldLaws.{IsField}
use Rattle.dense_blocks.specs.Vectors.{IsVector, zeros}
use Rattle.dense_blocks.specs.Matrices.{image_of}
use Rattle.dense_blocks.specs.MatrixFacts.{identity}
use Rattle.dense_blocks.proofs.Shapes.{matrix-size}
use Rattle.dense_blocks.proofs.MatrixLaws.{identity-matrix}
use Rattle.cochain_vec.specs.Complexes.{CellularComplex, coordinates, coboundary}
use Rattle.cochain_vec.specs.CochainComplexes.{IsCochainComplex}
use Rattle.cochain_vec.proofs.StalklessLaws.{Agree, basis_over}
use Rattle.block_complexes.specs.Cochains.{complex_of}
use Rattle.equivalence_laws.specs.Equivalences.{GradedMatrix}
use Rattle.equivalence_laws.specs.Bases.{unit_images}
use Rattle.equivalence_laws.proofs.ReductionLaws.{pairs_have_composite, pairs_give_bases}
use Rattle.scalar_finish.specs.Laws.{FinishCountsDimensions}
use Rattle.scalar_finish.proofs.EndLaws.{finish_is_after}
use Rattle.scalar_finish.proofs.SplitLaws.{split_keeps_all}

agree-closed : (K : Ops) (F G : CellularComplex) → Agree K F G → IsCochainComplex K G → IsCochainComplex K F
agree-closed K F G same closed k z c =
    same.maps (suc k) (coboundary K F k z)
    ∙ ap (coboundary K G (suc k)) (same.maps k z)
    ∙ closed k z (subst (λ n. IsVector K n z) (same.sizes k) c)
    ∙ ap zeros (sym (same.sizes (suc (suc k))))

length-images : (K : Ops) (F : IsField K) (D : CellularComplex) (iota : GradedMatrix) (k : ℕ)
    → length (unit_images K D iota k) ≡ coordinates D k
length-images K F D iota k =
    let n = coordinates D k in
    length-map (identity n) (image_of K (iota k)) ∙ matrix-size K n n (identity n) (identity-matrix K F n)

pub finish_counts_dimensions : FinishCountsDimensions
finish_counts_dimensions K v s w pairs F is closed split f k =
    let keeps = split_keeps_all K v s F is split in
    let same : Agree K (complex_of s) (complex_of v) =
    record { sizes = keeps.sizes; maps = keeps.coboundaries } in
    let s-closed = agree-closed K (complex_of s) (complex_of v) same closed in
    let after = finish_is_after K s w pairs F keeps.block_complex f in
    let maps = pairs_have_composite K s F keeps.block_complex s-closed w pairs after.0 in
    let basis = pairs_give_bases K s F keeps.block_complex s-closed w pairs maps.0 maps.1 maps.2 after.0 maps.3 after.1 k
    in (
      unit_images K (complex_of w) maps.1 k,
      length-images K F (complex_of w) maps.1 k,
      basis_over K (complex_of s) (complex_of v) same k (unit_images K (complex_of w) maps.1 k) basis,
    )
