-- A block complex without blocks has no coboundary; removals that leave such a one give bases of cohomology.
use Rattle.std.proofs.Common.{◌≡◌, ℕ, suc, refl, sym, ap, ◌∙◌, subst, List}
use Rattle.dense_blocks.specs.Field.{Ops}
use Rattle.dense_blocks.specs.FieldLaws.{IsField}
use Rattle.dense_blocks.specs.Vectors.{zeros}
use Rattle.dense_blocks.specs.Matrices.{image_of}
use Rattle.dense_blocks.proofs.MatrixLaws.{zero_matrix-image_of}
use Rattle.cochain_vec.specs.declared.cell.Cell.{Cell}
use Rattle.cochain_vec.specs.Complexes.{sum_into}
use Rattle.cochain_vec.proofs.PathLaws.{sum_over-zeros, joined-zeros}
use Rattle.block_complexes.specs.BlockComplexes.{BlockComplex, IsBlockComplex, cells, size_of}
use Rattle.block_complexes.specs.Cochains.{complex_of, of_degree}
use Rattle.block_complexes.proofs.Sums.{sum_over-equal}
use Rattle.block_complexes.proofs.SameLaws.{same-complex}
use Rattle.block_complexes.proofs.FullLaws.{IsFull, filled, filled-full, same-filled}
use Rattle.block_complexes.proofs.ComplexLaws.{sum_into-arrives}
use Rattle.equivalence_laws.specs.RemovalMaps.{cochain_value}
use Rattle.equivalence_laws.specs.Composites.{rest_of}
use Rattle.equivalence_laws.specs.Bases.{HasNoCoboundary, HasNoBlock}
use Rattle.equivalence_laws.specs.Laws.{RemovalsGiveBases}
use Rattle.equivalence_laws.proofs.CochainValues.{each-of_degree}
use Rattle.equivalence_laws.proofs.BasisLaws.{unit_images_are_basis}
use Rattle.equivalence_laws.proofs.CompositeLaws.{complex_fits, last_fits, composite_is_equivalence, last_is}

full-no_block : (K : Ops) (F : IsField K) (v : BlockComplex) → IsFull K v → HasNoBlock v
    → HasNoCoboundary K (complex_of v)
full-no_block K F v full none k z hz =
    let value : ℕ → List ℕ = cochain_value v k z in
    joined-zeros (λ (t : Cell). sum_into K (complex_of v).arrows value t.size t.cell) (of_degree (suc k) v.live)
    (each-of_degree v full.rising (suc k) (λ (t : Cell). sum_into K (complex_of v).arrows value t.size t.cell
    ≡ zeros t.size)
    (λ t h e is.
    let n = size_of v.live t.cell in
    ap (λ n. sum_into K (complex_of v).arrows value n t.cell) (sym is)
    ∙ sum_into-arrives K F v full value t.cell h
    ∙ sum_over-equal K F n (λ s. image_of K (v.matrix s t.cell) (value s)) (λ s. zeros n) (cells v.live)
    (λ s hs. ap (λ A. image_of K A (value s)) (none s t.cell (record { from = hs; to = h }))
    ∙ zero_matrix-image_of K F n (size_of v.live s) (value s))
    ∙ sum_over-zeros K F n (λ s. zeros n) (cells v.live) (λ s. refl)
    ∙ ap zeros is))

pub no_block : (K : Ops) (F : IsField K) (v : BlockComplex) → IsBlockComplex K v → HasNoBlock v
    → HasNoCoboundary K (complex_of v)
no_block K F v is none =
    subst (HasNoCoboundary K) (same-complex v (filled v) (same-filled v))
    (full-no_block K F (filled v) (filled-full K F v is) (λ s t l. (same-filled v).matrices s t l ∙ none s t l))

pub removals_give_bases : RemovalsGiveBases
removals_give_bases K v F is closed rs pi iota h are m none k =
    unit_images_are_basis K (complex_of v) (complex_of (rest_of v rs)) pi iota h F (complex_fits K F v is)
    (last_fits K F v rs is are)
    (composite_is_equivalence K v F is closed rs pi iota h are m)
    (no_block K F (rest_of v rs) (last_is K F v rs is are) none) k
