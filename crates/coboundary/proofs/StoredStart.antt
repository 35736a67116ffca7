-- The start complex, stored: what stands at each pair of cells is what was put there.
use Rattle.std.proofs.Common.{◌≡◌, ℕ, false, List, Option, Some, None, refl, ap, ◌∙◌}
use Rattle.std.specs.Option.{option_and_then}
use Rattle.cell_complex.specs.Complexes.{CellComplex}
use Rattle.cell_complex.specs.Invariants.{IsComplex}
use Rattle.dense_blocks.specs.Field.{Ops}
use Rattle.dense_blocks.specs.FieldLaws.{IsField}
use Rattle.dense_blocks.specs.MatrixFacts.{zero_matrix}
use Rattle.dense_blocks.specs.declared.block.Block.{Block}
use Rattle.dense_blocks.proofs.Shapes.{Matrix, to_matrix}
use Rattle.block_complexes.specs.BlockComplexes.{size_of}
use Rattle.block_sparse.specs.StoredBlocks.{StoredBlocks, block_at, matrix_or, flag_of}
use Rattle.block_sparse.specs.Grids.{as_block}
use Rattle.block_sparse.proofs.StoredLaws.{matrix-as_block, flag-as_block}
use Rattle.sheaf_data.specs.Sheaves.{IsSheaf}
use Rattle.sheaf_data.specs.Arrows.{numbered_cells}
use Rattle.coboundary.specs.Start.{face_matrix, or_zeros, with_stalks}
use Rattle.coboundary.specs.Put.{IsStart}
use Rattle.coboundary.proofs.StartCoboundaryLaws.{start_is_block_complex}

matrix-put : (K : Ops) (m n : ℕ) (o : Option (List (List ℕ))) → Matrix K m n (or_zeros o m n)
    → matrix_or (option_and_then as_block o) (zero_matrix m n) ≡ or_zeros o m n
matrix-put K m n None h = refl
matrix-put K m n (Some A) h = matrix-as_block K m n A h

flag-put : (o : Option (List (List ℕ))) → flag_of (option_and_then as_block o) ≡ false
flag-put None = refl
flag-put (Some A) = flag-as_block A

pub stored-start : (K : Ops) (F : IsField K) (c : CellComplex) (stalks : List ℕ) (blocks : List Block)
    (b : StoredBlocks) → IsComplex c → IsSheaf K c stalks blocks
    → b.live ≡ with_stalks (numbered_cells 0 c.dims stalks)
    → ((s t : ℕ) → block_at b s t ≡ option_and_then as_block (face_matrix K c blocks s t))
    → IsStart K c stalks blocks b
stored-start K F c stalks blocks b complex sheaf is_live put =
    let live : List (ℕ × ℕ × ℕ) = with_stalks (numbered_cells 0 c.dims stalks) in
    let is = start_is_block_complex K c stalks blocks F complex sheaf in
    record {
      same = record {
        live = is_live;
        matrices = λ s t l.
            let m = size_of live t in
            let n = size_of live s in
            let A = face_matrix K c blocks s t in
            ap (λ ls. matrix_or (block_at b s t) (zero_matrix (size_of ls t) (size_of ls s))) is_live
            ∙ ap (λ o. matrix_or o (zero_matrix m n)) (put s t)
            ∙ matrix-put K m n A (to_matrix K m n (or_zeros A m n) (is.matrices s t l));
      };
      unflagged = λ s t. ap flag_of (put s t) ∙ flag-put (face_matrix K c blocks s t);
    }
