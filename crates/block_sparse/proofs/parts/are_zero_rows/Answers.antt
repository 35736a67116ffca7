use Rattle.std.proofs.Common.{◌≡◌, ◌<◌, ◌≤◌, ◌+◌, ap, ◌∙◌, sym, true, false, eqb, length, arith, below_more, rules}
use Rattle.std.specs.List.{list_all}
use Rattle.dense_blocks.specs.Blocks.{matrix_of}
use Rattle.dense_blocks.proofs.BlockLaws.{block-size}
use Rattle.block_sparse.specs.Grids.{window}
use Rattle.block_sparse.proofs.Windows.{window-row, window-size, zero-by_rows, not_zero-by_row}
use Rattle.block_sparse.proofs.parts.are_zero_rows.Goals as goal

pub loop-i-preserved : goal.loop-i-preserved
loop-i-preserved c =
    let A = matrix_of c.args.joined.now in
    let size : c.args.row + c.args.height ≤ length A = omega (arith, block-size c.args.joined.now, c.requires.rows) in
    let inside : c.loop-i.i < c.args.height = omega arith in
    let passed : c.all_zero.result ≡ true = search rules in
    below_more _ _ c.loop-i.invariant
    (ap (list_all (λ a. eqb a 0)) (window-row c.args.row c.args.height c.args.col c.args.width A c.loop-i.i size inside
    ∙ sym c.row_part.ensures) ∙ sym c.all_zero.ensures ∙ passed)

pub returns-then-not-all_zero : goal.returns-then-not-all_zero
returns-then-not-all_zero c =
    let A = matrix_of c.args.joined.now in
    let size : c.args.row + c.args.height ≤ length A = omega (arith, block-size c.args.joined.now, c.requires.rows) in
    let inside : c.loop-i.i < c.args.height = omega arith in
    let failed : c.all_zero.result ≡ false = search rules in
    let W = window c.args.row c.args.height c.args.col c.args.width A in
    sym (not_zero-by_row W c.loop-i.i
    (omega (arith, inside, window-size c.args.row c.args.height c.args.col c.args.width A size))
    (ap (list_all (λ a. eqb a 0)) (window-row c.args.row c.args.height c.args.col c.args.width A c.loop-i.i size inside
    ∙ sym c.row_part.ensures) ∙ sym c.all_zero.ensures ∙ failed))

pub returns : goal.returns
returns c =
    let A = matrix_of c.args.joined.now in
    let size : c.args.row + c.args.height ≤ length A = omega (arith, block-size c.args.joined.now, c.requires.rows) in
    let W = window c.args.row c.args.height c.args.col c.args.width A in
    sym (zero-by_rows W (λ k l.
    c.loop-i.invariant k (omega (arith, l, window-size c.args.row c.args.height c.args.col c.args.width A size))))
