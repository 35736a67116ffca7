use Rattle.std.proofs.Common.{◌≡◌, ◌<◌, ap, ◌∙◌, sym, eqb, length, get_or, [], arith}
use Rattle.dense_blocks.specs.Blocks.{matrix_of}
use Rattle.dense_blocks.proofs.BlockLaws.{block-size}
use Rattle.block_sparse.proofs.ScalarParts.{scalar-zero}
use Rattle.block_sparse.proofs.parts.is_zero_at.Goals as goal

pub returns-then-width-eq1 : goal.returns-then-width-eq1
returns-then-width-eq1 c =
    let A = matrix_of c.args.joined.now in
    let one_row : c.args.height ≡ 1 = c.if-height-eq1.true in
    let one_col : c.args.width ≡ 1 = c.if-width-eq1.true in
    let inside : c.args.row < length A = omega (arith, block-size c.args.joined.now, c.requires.rows, one_row) in
    let within : c.args.col < length (get_or A c.args.row []) =
    omega (arith, c.scalar_at.ensures.size, c.requires.cols, one_col) in
    ap (λ x. eqb x 0) c.scalar_at.ensures.value
    ∙ sym (scalar-zero A c.args.row c.args.col c.args.height c.args.width one_row one_col inside within)
