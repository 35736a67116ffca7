use Rattle.std.proofs.Common.{◌≡◌, ◌≢◌, ◌<◌, ℕ, ap, ap₂, ◌∙◌, sym, subst, refl, true, false, length, get_or, take}
use Rattle.std.proofs.Common.{arith, inl, inr, rules}
use Rattle.std.proofs.lemmas.Bool.{cases_lt}
use Rattle.dense_blocks.specs.Blocks.{matrix_of}
use Rattle.block_complexes.specs.BlockComplexes.{size_of}
use Rattle.block_sparse.specs.StoredBlocks.{block_at}
use Rattle.block_sparse.specs.Grids.{width, window, block_matrix, nonzero}
use Rattle.block_sparse.proofs.Windows.{width-next, width-within}
use Rattle.block_sparse.proofs.blocks.Blocks.is_row.Goals as goal

pub is_row_part-requires-clause-height : goal.is_row_part-requires-clause-height
is_row_part-requires-clause-height c = ap (λ (p : ℕ × ℕ). p.1) c.cell_and_size-height.ensures

pub is_row_part-requires-clause-width : goal.is_row_part-requires-clause-width
is_row_part-requires-clause-width c = sym (c.requires.sized c.loop-i.i (0, 0) (omega arith)).1

pub is_row_part-requires-clause-rows : goal.is_row_part-requires-clause-rows
is_row_part-requires-clause-rows c =
    let h : c.cell_and_size-height.result.1 ≡ size_of c.args.self.now.live c.args.y =
    ap (λ (p : ℕ × ℕ). p.1) c.cell_and_size-height.ensures in
    omega (arith, h, c.requires.rows)

pub is_row_part-requires-clause-cols : goal.is_row_part-requires-clause-cols
is_row_part-requires-clause-cols c =
    let inside : c.loop-i.i < length c.args.left.now = omega arith in
    omega (arith, c.loop-i.invariant.col, width-within c.args.left.now c.loop-i.i inside, c.requires.cols)

pub overflow_add-col : goal.overflow_add-col
overflow_add-col c =
    let inside : c.loop-i.i < length c.args.left.now = omega arith in
    omega (
      arith,
      c.loop-i.invariant.col,
      width-within c.args.left.now c.loop-i.i inside,
      c.requires.cols,
      c.args.joined.now.cols_fit,
    )

pub loop-i-preserved : goal.loop-i-preserved
loop-i-preserved c =
    let left = c.args.left.now in
    let i : ℕ = c.loop-i.i in
    let inside : i < length left = omega arith in
    let A = matrix_of c.args.joined.now in
    let h : c.cell_and_size-height.result.1 ≡ c.args.joined.now.rows =
    ap (λ (p : ℕ × ℕ). p.1) c.cell_and_size-height.ensures ∙ sym c.requires.rows in
    let passed : c.is_row_part.result ≡ true = search rules in
    record {
      col = omega (arith, c.loop-i.invariant.col, width-next left i inside);
      same = λ k l ne. elim (cases_lt k i) [
        | inl u ↦ c.loop-i.invariant.same k u ne
        | inr u ↦
            let e : i ≡ k = omega arith in
            subst (λ n. (get_or left n (0, 0)).0 ≢ c.args.x
            → block_matrix (block_at c.args.self.now (get_or left n (0, 0)).0 c.args.y)
            ≡ nonzero (window 0 c.args.joined.now.rows (width (take n left)) (get_or left n (0, 0)).1 A)) e
            (λ d. c.is_row_part.ensures.0 passed d ∙ ap₂ (λ m n. nonzero (window 0 m n (get_or left i (0, 0)).1 A)) h
            c.loop-i.invariant.col) ne
      ];
    }

pub returns-then-not-is_row_part : goal.returns-then-not-is_row_part
returns-then-not-is_row_part c =
    let left = c.args.left.now in
    let i : ℕ = c.loop-i.i in
    let inside : i < length left = omega arith in
    let A = matrix_of c.args.joined.now in
    let h : c.cell_and_size-height.result.1 ≡ c.args.joined.now.rows =
    ap (λ (p : ℕ × ℕ). p.1) c.cell_and_size-height.ensures ∙ sym c.requires.rows in
    let failed : c.is_row_part.result ≡ false = search rules in (
      λ a. let e : false ≡ true = a in cc,
      λ a.
          let passed : c.is_row_part.result ≡ true = c.is_row_part.ensures.1
          (λ d. a i inside d ∙ sym (ap₂ (λ m n. nonzero (window 0 m n (get_or left i (0, 0)).1 A)) h
          c.loop-i.invariant.col)) in
          cc,
    )

pub returns : goal.returns
returns c = (λ a i l. c.loop-i.invariant.same i (omega arith), λ a. refl)
