-- The first blocks of a list with one for each degree, where the others have no rows.
use Rattle.std.proofs.Common.{◌≡◌, ℕ, zero, suc, ◌≤◌, List, [], ◌∷◌, length, take, Option, Some, None, slice_get}
use Rattle.std.proofs.Common.{refl, sym, ap, ◌∙◌, arith, inl, inr}
use Rattle.std.specs.Option.{option_map_or}
use Rattle.std.proofs.lemmas.List.{length-take-le}
use Rattle.std.proofs.lemmas.Option.{slice_get_cases}
use Rattle.dense_blocks.specs.Blocks.{matrix_of}
use Rattle.dense_blocks.specs.Matrices.{cut}
use Rattle.dense_blocks.specs.declared.block.Block.{Block}
use Rattle.core_machine.specs.Replies.{AreGradedBlocks}
use Rattle.equivalence_laws.specs.Equivalences.{graded_matrix}

-- the block of degree k has m k rows and n k columns
pub record HaveRowsAndColumns (m n : ℕ → ℕ) (blocks : List Block) : Type 0 where
  pub rows : (k : ℕ) (b : Block) → slice_get blocks k ≡ Some b → b.rows ≡ m k
  pub columns : (k : ℕ) (b : Block) → slice_get blocks k ≡ Some b → b.cols ≡ n k

slice_get-take : (count : ℕ) (blocks : List Block) (k : ℕ) (b : Block) → slice_get (take count blocks) k ≡ Some b
    → slice_get blocks k ≡ Some b
slice_get-take zero blocks k b e = let bad : None ≡ Some b = e in cc
slice_get-take (suc count) [] k b e = e
slice_get-take (suc count) (c ∷ blocks) zero b e = e
slice_get-take (suc count) (c ∷ blocks) (suc k) b e = slice_get-take count blocks k b e

pub graded-first : (degrees : ℕ) (m n : ℕ → ℕ) (blocks : List Block) → degrees ≤ length blocks
    → HaveRowsAndColumns m n blocks → AreGradedBlocks degrees m n (take degrees blocks)
graded-first degrees m n blocks l h = record {
  one_each = length-take-le degrees blocks l;
  rows = λ k b e. h.rows k b (slice_get-take degrees blocks k b e);
  columns = λ k b e. h.columns k b (slice_get-take degrees blocks k b e);
}

-- a block without rows has the matrix of none
empty-matrix : (blocks : List Block) (k : ℕ) → ((b : Block) → slice_get blocks k ≡ Some b → b.rows ≡ 0)
    → [] ≡ graded_matrix blocks k
empty-matrix blocks k h =
    let at : Option Block → List (List ℕ) = λ o. option_map_or matrix_of o [] in
    elim (slice_get_cases blocks k).1 [
      | inl w ↦ sym (ap at w.2 ∙ ap (λ r. cut r w.0.cols w.0.entries) (h w.0 w.2))
      | inr p ↦ sym (ap at p.1)
    ]

pub matrix-first : (degrees : ℕ) (m : ℕ → ℕ) (blocks : List Block)
    → ((k : ℕ) (b : Block) → slice_get blocks k ≡ Some b → b.rows ≡ m k) → ((k : ℕ) → degrees ≤ k → m k ≡ 0)
    → (k : ℕ) → graded_matrix (take degrees blocks) k ≡ graded_matrix blocks k
matrix-first zero m blocks rows none k = empty-matrix blocks k (λ b e. rows k b e ∙ none k (omega arith))
matrix-first (suc degrees) m [] rows none k = refl
matrix-first (suc degrees) m (b ∷ blocks) rows none zero = refl
matrix-first (suc degrees) m (b ∷ blocks) rows none (suc k) =
    matrix-first degrees (λ k. m (suc k)) blocks (λ k b e. rows (suc k) b e) (λ k l. none (suc k) (omega arith)) k
