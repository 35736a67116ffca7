use Rattle.std.proofs.Common.{◌≡◌, ◌<◌, ◌≤◌, ◌+◌, ◌*◌, ap₂, ◌∙◌, sym, length, ◌++◌, arith, rules}
use Rattle.dense_blocks.specs.Blocks.{matrix_of}
use Rattle.dense_blocks.specs.Matrices.{cut}
use Rattle.dense_blocks.proofs.BlockLaws.{block-size}
use Rattle.dense_blocks.proofs.Cutting.{Sized, first_rows-none, first_rows-size, cut-first_rows}
use Rattle.block_sparse.specs.Grids.{window}
use Rattle.block_sparse.proofs.Windows.{window-next, sized-window, sized-cut}
use Rattle.block_sparse.proofs.parts.cut.Goals as goal

pub loop-i-init : goal.loop-i-init
loop-i-init c = c.in_ok-entries.ensures
    ∙ sym (first_rows-none (window c.args.row c.args.height c.args.col c.args.width (matrix_of c.args.joined.now)))

pub loop-i-preserved : goal.loop-i-preserved
loop-i-preserved c =
    let A = matrix_of c.args.joined.now in
    let size : c.args.row + c.args.height ≤ length A = omega (arith, block-size c.args.joined.now, c.requires.rows) in
    let inside : c.loop-i.i < c.args.height = omega arith in
    c.in_ok-push_all.ensures.ok ∙ ap₂ ◌++◌ c.loop-i.invariant c.row_part.ensures
    ∙ sym (window-next c.args.row c.args.height c.args.col c.args.width A c.loop-i.i size inside)

pub invariant_of-result-clause-full : goal.invariant_of-result-clause-full
invariant_of-result-clause-full c =
    let b = c.args.joined.now in
    let sized : Sized b.rows b.cols (matrix_of b) = sized-cut b.rows b.cols b.entries (omega (arith, b.full)) in
    let W = window c.args.row c.args.height c.args.col c.args.width (matrix_of b) in
    let done : c.loop-i.i ≡ c.args.height = omega arith in
    first_rows-size c.args.height c.args.width c.loop-i.i W c.loop-i.entries
    (sized-window c.args.row c.args.height c.args.col c.args.width b.rows b.cols (matrix_of b) sized c.requires.rows
    c.requires.cols) done c.loop-i.invariant
    ∙ ap₂ ◌*◌ (search rules) (search rules)

pub returns : goal.returns
returns c =
    let b = c.args.joined.now in
    let sized : Sized b.rows b.cols (matrix_of b) = sized-cut b.rows b.cols b.entries (omega (arith, b.full)) in
    let W = window c.args.row c.args.height c.args.col c.args.width (matrix_of b) in
    let done : c.loop-i.i ≡ c.args.height = omega arith in
    record {
      rows_are = search rules;
      columns_are = search rules;
      matrix_is = ap₂ (λ m n. cut m n c.loop-i.entries) (search rules) (search rules)
          ∙ cut-first_rows c.args.height c.args.width c.loop-i.i W c.loop-i.entries
          (sized-window c.args.row c.args.height c.args.col c.args.width b.rows b.cols (matrix_of b) sized
          c.requires.rows c.requires.cols) done c.loop-i.invariant;
    }
