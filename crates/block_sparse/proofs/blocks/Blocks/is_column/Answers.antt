use Rattle.std.proofs.Common.{◌≡◌, ◌≢◌, ◌<◌, ℕ, ap, ap₂, ◌∙◌, sym, subst, refl, true, false, length, get_or, take}
use Rattle.std.proofs.Common.{arith, inl, inr, rules}
use Rattle.std.proofs.lemmas.Bool.{cases_lt}
use Rattle.dense_blocks.specs.Blocks.{matrix_of}
use Rattle.block_complexes.specs.BlockComplexes.{size_of}
use Rattle.block_sparse.specs.StoredBlocks.{block_at}
use Rattle.block_sparse.specs.Grids.{width, window, block_matrix, nonzero}
use Rattle.block_sparse.proofs.Windows.{width-next, width-within}
use Rattle.block_sparse.proofs.blocks.Blocks.is_column.Goals as goal

pub is_column_part-requires-clause-width : goal.is_column_part-requires-clause-width
is_column_part-requires-clause-width c = ap (λ (p : ℕ × ℕ). p.1) c.cell_and_size-size.ensures

pub is_column_part-requires-clause-height : goal.is_column_part-requires-clause-height
is_column_part-requires-clause-height c = sym (c.requires.sized c.loop-j.j (0, 0) (omega arith)).1

pub is_column_part-requires-clause-cols : goal.is_column_part-requires-clause-cols
is_column_part-requires-clause-cols c =
    let w : c.cell_and_size-size.result.1 ≡ size_of c.args.self.now.live c.args.x =
    ap (λ (p : ℕ × ℕ). p.1) c.cell_and_size-size.ensures in
    omega (arith, w, c.requires.cols)

pub is_column_part-requires-clause-rows : goal.is_column_part-requires-clause-rows
is_column_part-requires-clause-rows c =
    let inside : c.loop-j.j < length c.args.below.now = omega arith in
    omega (arith, c.loop-j.invariant.row, width-within c.args.below.now c.loop-j.j inside, c.requires.rows)

pub overflow_add-row : goal.overflow_add-row
overflow_add-row c =
    let inside : c.loop-j.j < length c.args.below.now = omega arith in
    omega (
      arith,
      c.loop-j.invariant.row,
      width-within c.args.below.now c.loop-j.j inside,
      c.requires.rows,
      c.args.joined.now.rows_fit,
    )

pub loop-j-preserved : goal.loop-j-preserved
loop-j-preserved c =
    let below = c.args.below.now in
    let j : ℕ = c.loop-j.j in
    let inside : j < length below = omega arith in
    let A = matrix_of c.args.joined.now in
    let w : c.cell_and_size-size.result.1 ≡ c.args.joined.now.cols =
    ap (λ (p : ℕ × ℕ). p.1) c.cell_and_size-size.ensures ∙ sym c.requires.cols in
    let passed : c.is_column_part.result ≡ true = search rules in
    record {
      row = omega (arith, c.loop-j.invariant.row, width-next below j inside);
      same = λ k l ne. elim (cases_lt k j) [
        | inl u ↦ c.loop-j.invariant.same k u ne
        | inr u ↦
            let e : j ≡ k = omega arith in
            subst (λ n. (get_or below n (0, 0)).0 ≢ c.args.y
            → block_matrix (block_at c.args.self.now c.args.x (get_or below n (0, 0)).0)
            ≡ nonzero (window (width (take n below)) (get_or below n (0, 0)).1 0 c.args.joined.now.cols A)) e
            (λ d. c.is_column_part.ensures.0 passed d ∙ ap₂ (λ m n. nonzero (window n (get_or below j (0, 0)).1 0 m A))
            w c.loop-j.invariant.row) ne
      ];
    }

pub returns-then-not-is_column_part : goal.returns-then-not-is_column_part
returns-then-not-is_column_part c =
    let below = c.args.below.now in
    let j : ℕ = c.loop-j.j in
    let inside : j < length below = omega arith in
    let A = matrix_of c.args.joined.now in
    let w : c.cell_and_size-size.result.1 ≡ c.args.joined.now.cols =
    ap (λ (p : ℕ × ℕ). p.1) c.cell_and_size-size.ensures ∙ sym c.requires.cols in
    let failed : c.is_column_part.result ≡ false = search rules in (
      λ a. let e : false ≡ true = a in cc,
      λ a.
          let passed : c.is_column_part.result ≡ true = c.is_column_part.ensures.1
          (λ d. a j inside d ∙ sym (ap₂ (λ m n. nonzero (window n (get_or below j (0, 0)).1 0 m A)) w
          c.loop-j.invariant.row)) in
          cc,
    )

pub returns : goal.returns
returns c = (λ a j l. c.loop-j.invariant.same j (omega arith), λ a. refl)
