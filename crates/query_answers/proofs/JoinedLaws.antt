-- The joined matrix of the cells of one degree and of the next is that of the coboundary.
use Rattle.std.proofs.Common.{◌≡◌, ℕ, suc, true, false, List, length, get_or, All, sym, ap, ap₂, ◌∙◌}
use Rattle.std.proofs.lemmas.List.{length-map}
use Rattle.dense_blocks.specs.Field.{Ops}
use Rattle.dense_blocks.specs.FieldLaws.{IsField}
use Rattle.dense_blocks.specs.Vectors.{zeros, dot}
use Rattle.dense_blocks.specs.Matrices.{image_of}
use Rattle.dense_blocks.proofs.Shapes.{Vector, matrix-size, vector-size}
use Rattle.cochain_vec.specs.declared.cell.Cell.{Cell}
use Rattle.cochain_vec.specs.Complexes.{coboundary, total_size, value_at, sum_into}
use Rattle.cochain_vec.proofs.CoboundaryLaws.{image_of-rows, joined-same, value-vector}
use Rattle.rising_lists.specs.Rising.{IsRising, has, keys}
use Rattle.block_complexes.specs.BlockComplexes.{BlockComplex, cells, size_of}
use Rattle.block_complexes.specs.Cochains.{complex_of, of_degree}
use Rattle.block_complexes.proofs.ComplexLaws.{IsOfDegree, of_degree-are, size-of_degree}
use Rattle.block_complexes.proofs.FullLaws.{IsFull}
use Rattle.block_complexes.proofs.SumLaws.{sum_into-live, sum_over-some}
use Rattle.block_complexes.proofs.Sums.{sum_over-equal}
use Rattle.block_sparse.specs.Grids.{segment, columns_of}
use Rattle.block_sparse.proofs.GridLaws.{sized-live}
use Rattle.reduce_step.specs.Logs.{IsJoinedOf}
use Rattle.equivalence_laws.proofs.CochainValues.{cochain-joined}
use Rattle.query_answers.proofs.CellLists.{sized_cells, width-sized, value-segment, value-none, cell-listed, cells-rise}
use Rattle.query_answers.proofs.CellLists.{cells-sized, value-image, image-nil, image-by-cells}

module _ (K : Ops) (F : IsField K) (v : BlockComplex) (full : IsFull K v) (k : ℕ) (A : List (List ℕ))
    (joined : IsJoinedOf v (sized_cells (of_degree k v.live)) (sized_cells (of_degree (suc k) v.live)) A)
    (high : length A ≡ total_size (of_degree (suc k) v.live))
    (z : List ℕ) (cochain : Vector K (total_size (of_degree k v.live)) z) where
  abbrev from_cells : List Cell
  from_cells = of_degree k v.live

  abbrev to_cells : List Cell
  to_cells = of_degree (suc k) v.live

  abbrev left : List (ℕ × ℕ)
  left = sized_cells from_cells

  abbrev below : List (ℕ × ℕ)
  below = sized_cells to_cells

  abbrev value : ℕ → List ℕ
  value s = value_at from_cells z s

  abbrev image : List ℕ
  image = image_of K A z

  image-vector : Vector K (total_size to_cells) image
  image-vector = image_of-rows K F (total_size to_cells) A z high

  rises : IsRising (keys left)
  rises = cells-rise v.live full.rising k

  module _ (t : Cell) (is : IsOfDegree v.live (suc k) t) where
    -- what the matrix from s to t makes of the value at s
    abbrev arrives : ℕ → List ℕ
    arrives s = image_of K (v.matrix s t.cell) (value s)

    sized : (s : ℕ) → length (v.matrix s t.cell) ≡ t.size
    sized s = matrix-size K (size_of v.live t.cell) (size_of v.live s) (v.matrix s t.cell) (full.shape s t.cell)
        ∙ is.size

    rows-sized : length (segment below A t.cell) ≡ t.size
    rows-sized =
        sym (length-map (segment below A t.cell) (λ row. dot K row z))
        ∙ ap length (sym (value-image K to_cells A z t.cell))
        ∙ vector-size K _ (value_at to_cells image t.cell) (value-vector K to_cells image t.cell image-vector)
        ∙ size-of_degree v.live (suc k) t.cell is.is_live is.degree
        ∙ is.size

    nothing : (s : ℕ) → has s (keys left) ≡ false → arrives s ≡ zeros t.size
    nothing s h =
        ap (image_of K (v.matrix s t.cell)) (value-none from_cells z s h)
        ∙ image-nil K F t.size (v.matrix s t.cell) (sized s)

    image-at : has t.cell (keys below) ≡ true
        → value_at to_cells image t.cell ≡ sum_into K (complex_of v).arrows value t.size t.cell
    image-at listed =
        let rows = segment below A t.cell in
        value-image K to_cells A z t.cell
        ∙ image-by-cells K F left rises t.size rows z rows-sized
        (vector-size K (total_size from_cells) z cochain ∙ sym (width-sized from_cells))
        ∙ sum_over-equal K F t.size (λ s. image_of K (columns_of left rows s) (segment left z s)) arrives (keys left)
        (λ s hs. ap₂ (image_of K) (joined s t.cell hs listed) (sym (value-segment from_cells z s)))
        ∙ sym (sum_over-some K F t.size arrives (cells v.live) (keys left) full.rising rises
        (sized-live v.live left (cells-sized v.live full.rising k))
        (λ s. image_of-rows K F t.size (v.matrix s t.cell) (value s) (sized s)) nothing)
        ∙ sym (sum_into-live K F v value t.size t.cell sized full.rising is.is_live)

  at_cells : All (λ (t : Cell). value_at to_cells image t.cell
      ≡ sum_into K (complex_of v).arrows value t.size t.cell) to_cells
  at_cells i d l = image-at (get_or to_cells i d) (of_degree-are v.live full.rising (suc k) i d l)
      (cell-listed to_cells i d l)

  pub coboundary-joined : image_of K A z ≡ coboundary K (complex_of v) k z
  coboundary-joined =
      cochain-joined v full.rising (suc k) K image image-vector
      ∙ joined-same (λ (t : Cell). value_at to_cells image t.cell)
      (λ (t : Cell). sum_into K (complex_of v).arrows value t.size t.cell) to_cells at_cells
