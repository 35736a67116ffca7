-- Blocks that are the identity: known by their rows, and products with them.
use Rattle.std.proofs.Common.{◌≡◌, ℕ, zero, suc, ◌+◌, ◌-◌, ◌<◌, List, [], ◌∷◌, ◌++◌, length, take, drop, get_or, All}
use Rattle.std.proofs.Common.{refl, sym, ap, ap₂, ◌∙◌, subst, arith, suc-le-suc, add-one, length-drop}
use Rattle.std.proofs.lemmas.List.{take_all, take_more_same}
use Rattle.dense_blocks.specs.Field.{Ops}
use Rattle.dense_blocks.specs.FieldLaws.{IsField}
use Rattle.dense_blocks.specs.Vectors.{AllScalars, zeros}
use Rattle.dense_blocks.specs.Matrices.{product}
use Rattle.dense_blocks.specs.MatrixFacts.{identity}
use Rattle.dense_blocks.specs.declared.block.Block.{Block}
use Rattle.dense_blocks.specs.Blocks.{matrix_of}
use Rattle.dense_blocks.specs.BlockFacts.{IsBlock}
use Rattle.dense_blocks.proofs.BlockLaws.{block-matrix, block-matrix_at}
use Rattle.dense_blocks.proofs.Cutting.{sized-size, sized-identity, identity-row}
use Rattle.dense_blocks.proofs.MatrixLaws.{identity-product, product-identity}

zeros-all : (v : List ℕ) → All (λ a. a ≡ 0) v → v ≡ zeros (length v)
zeros-all [] h = refl
zeros-all (a ∷ v) h = ap₂ ◌∷◌ (h 0 0 (omega arith)) (zeros-all v (λ k d l. h (suc k) d (suc-le-suc l)))

-- a row of 1 at i and zeros elsewhere
unit_row : (row : List ℕ) (i : ℕ) → i < length row → get_or row i 0 ≡ 1 → All (λ a. a ≡ 0) (take i row)
    → All (λ a. a ≡ 0) (drop (suc i) row) → row ≡ zeros i ++ 1 ∷ zeros (length row - 1 - i)
unit_row [] i inside one before after = absurd (omega arith)
unit_row (a ∷ row) zero inside one before after =
    ap₂ ◌∷◌ one (zeros-all row after ∙ ap zeros same)
  where
    same : length row ≡ length (a ∷ row) - 1 - 0
    same = omega arith
unit_row (a ∷ row) (suc i) inside one before after =
    ap₂ ◌∷◌ (before 0 0 (omega arith))
    (unit_row row i (omega arith) one (λ k d l. before (suc k) d (suc-le-suc l)) after
    ∙ ap (λ n. zeros i ++ 1 ∷ zeros n) same)
  where
    same : length row - 1 - i ≡ length (a ∷ row) - 1 - suc i
    same = omega arith

-- the same of the parts before and after i
pub unit_parts : (row : List ℕ) (i : ℕ) → i < length row → get_or row i 0 ≡ 1 → All (λ a. a ≡ 0) (take i row)
    → All (λ a. a ≡ 0) (take (length row - (i + 1)) (drop (i + 1) row))
    → row ≡ zeros i ++ 1 ∷ zeros (length row - 1 - i)
unit_parts row i inside one before after =
    unit_row row i inside one before
    (subst (All (λ a. a ≡ 0))
    (take_all (length row - (i + 1)) (drop (i + 1) row) (omega (arith, length-drop (i + 1) row))
    ∙ ap (λ n. drop n row) (add-one i)) after)

identity-size : (n : ℕ) → length (identity n) ≡ n
identity-size n = sized-size n n (identity n) (sized-identity n)

-- one more row that is one of the identity
pub unit_rows-next : (n i : ℕ) (A : List (List ℕ)) (row : List ℕ) → length A ≡ n → i < n
    → take i A ≡ take i (identity n) → row ≡ get_or A i [] → length row ≡ n
    → row ≡ zeros i ++ 1 ∷ zeros (length row - 1 - i) → take (i + 1) A ≡ take (i + 1) (identity n)
unit_rows-next n i A row size inside before is_row row_size unit =
    take_more_same A (identity n) i [] (subst (λ k. i < k) (sym size) inside)
    (subst (λ k. i < k) (sym (identity-size n)) inside) before
    (sym is_row ∙ unit ∙ ap (λ k. zeros i ++ 1 ∷ zeros (k - 1 - i)) row_size ∙ sym (identity-row n i inside))

pub unit_rows-all : (n i : ℕ) (A : List (List ℕ)) → length A ≡ n → i ≡ n → take i A ≡ take i (identity n)
    → A ≡ identity n
unit_rows-all n i A size all same =
    sym (take_all i A (omega arith)) ∙ same ∙ take_all i (identity n) (omega (arith, identity-size n))

module _ (K : Ops) (F : IsField K) where
  pub identity-times : (a b c : Block) → a.cols ≡ b.rows → AllScalars K b.entries → a.cols ≡ a.rows
      → matrix_of a ≡ identity a.rows → c ≡ b
      → IsBlock c a.rows b.cols (product K b.cols (matrix_of a) (matrix_of b))
  identity-times a b c fit scalars square is copy = record {
    rows_are = ap (λ (d : Block). d.rows) copy ∙ sym fit ∙ square;
    columns_are = ap (λ (d : Block). d.cols) copy;
    matrix_is = ap matrix_of copy
        ∙ sym (ap (λ A. product K b.cols A (matrix_of b)) (is ∙ ap identity (sym square ∙ fit))
        ∙ identity-product K F b.rows b.cols (matrix_of b) (block-matrix K b scalars));
  }

  pub times-identity : (a b c : Block) → a.cols ≡ b.rows → AllScalars K a.entries → b.cols ≡ b.rows
      → matrix_of b ≡ identity b.rows → c ≡ a
      → IsBlock c a.rows b.cols (product K b.cols (matrix_of a) (matrix_of b))
  times-identity a b c fit scalars square is copy = record {
    rows_are = ap (λ (d : Block). d.rows) copy;
    columns_are = ap (λ (d : Block). d.cols) copy ∙ fit ∙ sym square;
    matrix_is = ap matrix_of copy
        ∙ sym (ap (product K b.cols (matrix_of a)) (is ∙ ap identity (sym square))
        ∙ product-identity K F a.rows b.cols (matrix_of a)
        (block-matrix_at K a a.rows b.cols refl (fit ∙ sym square) scalars));
  }
