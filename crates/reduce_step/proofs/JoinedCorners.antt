-- The new corners of a removal, from the blocks of the joined matrices.
use Rattle.std.proofs.Common.{◌≡◌, ℕ, true, List, [], ◌∷◌, ap, ◌∙◌, subst, arith}
use Rattle.dense_blocks.specs.Field.{Ops}
use Rattle.dense_blocks.specs.Matrices.{product}
use Rattle.dense_blocks.specs.MatrixFacts.{matrix_negative, matrix_sum}
use Rattle.dense_blocks.specs.Blocks.{matrix_of}
use Rattle.dense_blocks.specs.declared.block.Block.{Block}
use Rattle.dense_blocks.proofs.Cutting.{Sized}
use Rattle.rising_lists.specs.Rising.{has, keys}
use Rattle.block_sparse.specs.StoredBlocks.{StoredBlocks, complex_in}
use Rattle.block_sparse.specs.Grids.{width, part, AreSized, IsJoined}
use Rattle.block_sparse.proofs.Windows.{sized-cut}
use Rattle.removals.specs.Removals.{corner}
use Rattle.block_complexes.proofs.Sums.{has-head}
use Rattle.reduce_step.proofs.JoinedParts.{joined-corners}

-- the joined matrices around a pair of cells x and y: that of the corners, the column from x, which has n coordinates,
-- and the row to y, which has m
pub record AreAround (v : StoredBlocks) (left below : List (ℕ × ℕ)) (x y m n : ℕ) (corners column row : Block) :
    Type 0 where
  pub sized : AreSized v.live left
  pub corners_are : IsJoined v left below (matrix_of corners)
  pub corners_cols : corners.cols ≡ width left
  pub column_is : IsJoined v ((x, n) ∷ []) below (matrix_of column)
  pub column_cols : column.cols ≡ n
  pub row_is : IsJoined v left ((y, m) ∷ []) (matrix_of row)
  pub row_rows : row.rows ≡ m

sized-block : (b : Block) → Sized b.rows b.cols (matrix_of b)
sized-block b = sized-cut b.rows b.cols b.entries (omega (arith, b.full))

-- the part from s to t of C - c (a r) is M(s, t) - M(x, t) a M(s, y)
pub part-schur_complement : (K : Ops) (v : StoredBlocks) (left below : List (ℕ × ℕ)) (x y m n : ℕ)
    (corners column row : Block) (a : List (List ℕ))
    → AreAround v left below x y m n corners column row → (s t : ℕ) → has s (keys left) ≡ true → has t (keys below)
    ≡ true
    → part left below
    (matrix_sum K (matrix_of corners)
    (matrix_negative K (product K corners.cols (matrix_of column) (product K corners.cols a (matrix_of row))))) s t
    ≡ corner K (complex_in v) x y a s t
part-schur_complement K v left below x y m n corners column row a h s t hs ht =
    let C : List (List ℕ) = matrix_of corners in
    let c : List (List ℕ) = matrix_of column in
    let r : List (List ℕ) = matrix_of row in
    ap (λ k. part left below (matrix_sum K C (matrix_negative K (product K k c (product K k a r)))) s t) h.corners_cols
    ∙ joined-corners K v x y m n column.rows row.cols left below C c a r h.sized h.corners_are
    (λ s hs. h.row_is s y hs (has-head y [])) (subst (λ k. Sized k row.cols r) h.row_rows (sized-block row))
    (λ t ht. h.column_is x t (has-head x []) ht) (subst (λ k. Sized column.rows k c) h.column_cols (sized-block column))
    s t hs ht
