-- Parts of a joined matrix where one cell stands alone below, or on the left.
use Rattle.std.proofs.Common.{◌≡◌, ℕ, List, [], ◌∷◌, refl, sym, ◌∙◌, subst, arith}
use Rattle.dense_blocks.specs.Blocks.{matrix_of}
use Rattle.dense_blocks.specs.declared.block.Block.{Block}
use Rattle.dense_blocks.proofs.Cutting.{Sized}
use Rattle.block_sparse.specs.Grids.{segment, part, columns_of}
use Rattle.block_sparse.proofs.GridLaws.{part-whole}
use Rattle.block_sparse.proofs.Windows.{sized-cut}
use Rattle.reduce_step.proofs.JoinedParts.{part-below_one, part-left_one}

sized-block : (b : Block) (m n : ℕ) → b.rows ≡ m → b.cols ≡ n → Sized m n (matrix_of b)
sized-block b m n rows cols =
    subst (λ k. Sized k n (matrix_of b)) rows
    (subst (λ k. Sized b.rows k (matrix_of b)) cols (sized-cut b.rows b.cols b.entries (omega (arith, b.full))))

-- where all rows belong to one cell, a part is its columns
pub row-part : (left : List (ℕ × ℕ)) (y n : ℕ) (b : Block) (s : ℕ) → b.rows ≡ n
    → part left ((y, n) ∷ []) (matrix_of b) s y ≡ columns_of left (matrix_of b) s
row-part left y n b s rows = part-below_one left y n b.cols (matrix_of b) s (sized-block b n b.cols rows refl)

-- where all columns belong to one cell, a part is its rows
pub column-part : (x n : ℕ) (below : List (ℕ × ℕ)) (b : Block) (t : ℕ) → b.cols ≡ n
    → part ((x, n) ∷ []) below (matrix_of b) x t ≡ segment below (matrix_of b) t
column-part x n below b t cols = part-left_one below x n b.rows (matrix_of b) t (sized-block b b.rows n refl cols)

-- the columns of the only cell are the whole matrix
pub columns-one : (x n : ℕ) (b : Block) → b.cols ≡ n → columns_of ((x, n) ∷ []) (matrix_of b) x ≡ matrix_of b
columns-one x n b cols =
    sym (row-part ((x, n) ∷ []) x b.rows b x refl)
    ∙ part-whole x x n b.rows (matrix_of b) (sized-block b b.rows n refl cols)
