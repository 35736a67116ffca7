-- Blocks and the matrices that they hold.
use Rattle.std.proofs.Common.{◌≡◌, ℕ, ◌+◌, ◌*◌, ◌<◌, List, [], ◌∷◌, ◌++◌, length, take, get_or, sym, ap, ap₂, ◌∙◌}
use Rattle.std.proofs.Common.{subst, arith}
use Rattle.std.proofs.lemmas.List.{take_all, take_more, get_or-map, length-map}
use Rattle.dense_blocks.specs.Field.{Ops}
use Rattle.dense_blocks.specs.FieldLaws.{IsField}
use Rattle.dense_blocks.specs.Vectors.{AllScalars, plus, multiple, dot, combination}
use Rattle.dense_blocks.specs.MatrixFacts.{negative, matrix_sum, matrix_negative}
use Rattle.dense_blocks.specs.Matrices.{cut, image_of, product}
use Rattle.dense_blocks.specs.declared.block.Block.{Block}
use Rattle.dense_blocks.specs.Blocks.{matrix_of}
use Rattle.dense_blocks.specs.BlockFacts.{IsBlock}
use Rattle.dense_blocks.proofs.Shapes.{Vector, Matrix, vector_of, vector-size, vector-scalars, matrix-size, row-vector}
use Rattle.dense_blocks.proofs.VectorLaws.{plus-vector, negative-vector, multiple-one, multiple-neg_one}
use Rattle.dense_blocks.proofs.MatrixLaws.{product-matrix, product-row, image_of-vector}
use Rattle.dense_blocks.proofs.Cutting.{flat, flat-cut, flat-scalars, cut-size, cut-matrix, cut-plus, cut-negative}
use Rattle.dense_blocks.proofs.Cutting.{matrix-sized, first_rows, first_rows-next, first_rows-size, cut-first_rows}
use Rattle.dense_blocks.proofs.Cutting.{first_rows-all}

-- the entries of a block are those of its matrix
pub block-entries : (b : Block) → flat (matrix_of b) ≡ b.entries
block-entries b = flat-cut b.rows b.cols b.entries b.full

pub block-size : (b : Block) → length (matrix_of b) ≡ b.rows
block-size b = cut-size b.rows b.cols b.entries

pub block-matrix : (K : Ops) (b : Block) → AllScalars K b.entries → Matrix K b.rows b.cols (matrix_of b)
block-matrix K b h = cut-matrix K b.rows b.cols b.entries b.full h

-- the same at the numbers that the rows and columns are known to be
pub block-matrix_at : (K : Ops) (b : Block) (m n : ℕ) → b.rows ≡ m → b.cols ≡ n → AllScalars K b.entries
    → Matrix K m n (matrix_of b)
block-matrix_at K b m n r c h = subst (λ k. Matrix K k n (matrix_of b)) r
    (subst (λ k. Matrix K b.rows k (matrix_of b)) c (block-matrix K b h))

pub block-vector : (K : Ops) (b : Block) → AllScalars K b.entries → Vector K (b.rows * b.cols) b.entries
block-vector K b h = vector_of K (b.rows * b.cols) b.entries b.full h

pub block-row : (K : Ops) (b : Block) (i : ℕ) → AllScalars K b.entries → i < b.rows
    → Vector K b.cols (get_or (matrix_of b) i [])
block-row K b i h l = row-vector K b.rows b.cols (matrix_of b) i (block-matrix K b h) l

-- what IsBlock says of the entries
pub is_block-entries : (b : Block) (m n : ℕ) (A : List (List ℕ)) → IsBlock b m n A → b.entries ≡ flat A
is_block-entries b m n A h = sym (block-entries b) ∙ ap flat h.matrix_is

pub is_block-scalars : (K : Ops) (b : Block) (m n : ℕ) (A : List (List ℕ)) → Matrix K m n A → IsBlock b m n A
    → AllScalars K b.entries
is_block-scalars K b m n A s h = subst (AllScalars K) (sym (is_block-entries b m n A h)) (flat-scalars K m n A s)

-- the list holds the entries of the matrix, which are scalars
pub record Holds (K : Ops) (m n : ℕ) (A : List (List ℕ)) (xs : List ℕ) : Type 0 where
  pub full : length xs ≡ m * n
  pub matrix : cut m n xs ≡ A
  pub scalars : AllScalars K xs

pub first_rows-hold : (K : Ops) (m n i : ℕ) (A : List (List ℕ)) (xs : List ℕ) → Matrix K m n A → i ≡ m
    → xs ≡ first_rows i A → Holds K m n A xs
first_rows-hold K m n i A xs h e now = record {
  full = first_rows-size m n i A xs (matrix-sized K m n A h) e now;
  matrix = cut-first_rows m n i A xs (matrix-sized K m n A h) e now;
  scalars = subst (AllScalars K) (sym (now ∙ first_rows-all i A (matrix-size K m n A h ∙ sym e)))
      (flat-scalars K m n A h);
}

module _ (K : Ops) (F : IsField K) where
  pub block_product-matrix : (a b : Block) → a.cols ≡ b.rows → AllScalars K a.entries → AllScalars K b.entries
      → Matrix K a.rows b.cols (product K b.cols (matrix_of a) (matrix_of b))
  block_product-matrix a b e ha hb =
      product-matrix K F a.rows b.rows b.cols (matrix_of a) (matrix_of b)
      (subst (λ k. Matrix K a.rows k (matrix_of a)) e (block-matrix K a ha)) (block-matrix K b hb)

  -- one more row of a product
  pub block_product-next : (a b : Block) (i : ℕ) (xs row more : List ℕ) → a.cols ≡ b.rows → AllScalars K a.entries
      → AllScalars K b.entries
      → i < a.rows → xs ≡ first_rows i (product K b.cols (matrix_of a) (matrix_of b))
      → row ≡ get_or (matrix_of a) i [] → length row ≡ a.cols
      → more ≡ xs ++ combination K b.cols row (cut (length row) b.cols b.entries)
      → more ≡ first_rows (i + 1) (product K b.cols (matrix_of a) (matrix_of b))
  block_product-next a b i xs row more e ha hb l now is_row size is_more =
      let M : List (List ℕ) = product K b.cols (matrix_of a) (matrix_of b) in
      is_more
      ∙ ap₂ (λ t k. t ++ combination K b.cols row (cut k b.cols b.entries)) now (size ∙ e)
      ∙ ap (λ r. first_rows i M ++ combination K b.cols r (matrix_of b)) is_row
      ∙ ap (λ t. first_rows i M ++ t)
      (sym (product-row K a.rows a.cols b.cols i (matrix_of a) (matrix_of b) (block-matrix K a ha) l))
      ∙ sym (first_rows-next i M
      (subst (λ k. i < k) (sym (matrix-size K a.rows b.cols M (block_product-matrix a b e ha hb))) l))

  pub block_sum-holds : (a b : Block) (xs : List ℕ) → a.rows ≡ b.rows → a.cols ≡ b.cols → AllScalars K a.entries
      → AllScalars K b.entries → xs ≡ plus K a.entries (multiple K 1 b.entries)
      → Holds K a.rows a.cols (matrix_sum K (matrix_of a) (matrix_of b)) xs
  block_sum-holds a b xs r c ha hb now =
      let n : ℕ = a.rows * a.cols in
      let same : length b.entries ≡ n = b.full ∙ sym (ap₂ (λ j k. j * k) r c) in
      let right : Vector K n b.entries = vector_of K n b.entries same hb in
      let whole : xs ≡ plus K a.entries b.entries = now ∙ ap (plus K a.entries) (multiple-one K F n b.entries right) in
      let is : Vector K n (plus K a.entries b.entries) =
      plus-vector K F n a.entries b.entries (block-vector K a ha) right in
      record {
        full = ap length whole ∙ vector-size K n (plus K a.entries b.entries) is;
        matrix =
            ap (cut a.rows a.cols) whole ∙ cut-plus K a.rows a.cols a.entries b.entries
            ∙ ap₂ (λ j k. matrix_sum K (matrix_of a) (cut j k b.entries)) r c;
        scalars = subst (AllScalars K) (sym whole) (vector-scalars K n (plus K a.entries b.entries) is);
      }

  pub block_negative-holds : (a : Block) (xs : List ℕ) → AllScalars K a.entries
      → xs ≡ multiple K (K.neg 1) a.entries → Holds K a.rows a.cols (matrix_negative K (matrix_of a)) xs
  block_negative-holds a xs ha now =
      let n : ℕ = a.rows * a.cols in
      let left : Vector K n a.entries = block-vector K a ha in
      let whole : xs ≡ negative K a.entries = now ∙ multiple-neg_one K F n a.entries left in
      let is : Vector K n (negative K a.entries) = negative-vector K F n a.entries left in
      record {
        full = ap length whole ∙ vector-size K n (negative K a.entries) is;
        matrix = ap (cut a.rows a.cols) whole ∙ cut-negative K a.rows a.cols a.entries;
        scalars = subst (AllScalars K) (sym whole) (vector-scalars K n (negative K a.entries) is);
      }

  -- one more coordinate of an image
  pub block_image-next : (a : Block) (v : List ℕ) (i : ℕ) (xs row more : List ℕ) (y : ℕ) → i < a.rows
      → xs ≡ take i (image_of K (matrix_of a) v)
      → row ≡ get_or (matrix_of a) i [] → y ≡ dot K row v → more ≡ xs ++ y ∷ []
      → more ≡ take (i + 1) (image_of K (matrix_of a) v)
  block_image-next a v i xs row more y l now is_row is_y is_more =
      let w : List ℕ = image_of K (matrix_of a) v in
      let inside : i < length (matrix_of a) = subst (λ k. i < k) (sym (block-size a)) l in
      is_more
      ∙ ap₂ (λ t z. t ++ z ∷ []) now (is_y ∙ ap (λ r. dot K r v) is_row
      ∙ sym (get_or-map (λ r. dot K r v) (matrix_of a) i [] 0 inside))
      ∙ sym (take_more w i 0 (subst (λ k. i < k) (sym (length-map (matrix_of a) (λ r. dot K r v))) inside))

  pub block_image-all : (a : Block) (v : List ℕ) (i : ℕ) (xs : List ℕ) → i ≡ a.rows
      → xs ≡ take i (image_of K (matrix_of a) v) → xs ≡ image_of K (matrix_of a) v
  block_image-all a v i xs e now =
      now ∙ take_all i (image_of K (matrix_of a) v)
      (omega (arith, length-map (matrix_of a) (λ r. dot K r v), block-size a))

  pub block_image-vector : (a : Block) (v : List ℕ) → AllScalars K a.entries
      → Vector K a.rows (image_of K (matrix_of a) v)
  block_image-vector a v ha = image_of-vector K F a.rows a.cols (matrix_of a) v (block-matrix K a ha)
