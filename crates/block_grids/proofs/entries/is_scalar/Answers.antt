use Rattle.std.proofs.Common.{◌≡◌, ◌<◌, ap, ◌∙◌, sym, length, get_or, [], ◌∷◌, arith}
use Rattle.std.specs.Option.{option_map}
use Rattle.dense_blocks.specs.Blocks.{matrix_of}
use Rattle.dense_blocks.proofs.BlockLaws.{block-size}
use Rattle.block_rows.specs.BlockRows.{scalar_block}
use Rattle.block_grids.specs.Joined.{grid_block}
use Rattle.block_sparse.proofs.ScalarParts.{scalar-same}
use Rattle.block_grids.proofs.JoinLaws.{zero-part}
use Rattle.block_grids.proofs.entries.is_scalar.Goals as goal

pub scalar_at-requires-clause-row : goal.scalar_at-requires-clause-row
scalar_at-requires-clause-row c =
    let one = c.requires.scalar c.in-Some.e c.in-Some.is in omega (arith, one.0, c.requires.rows)

pub scalar_at-requires-clause-col : goal.scalar_at-requires-clause-col
scalar_at-requires-clause-col c =
    let one = c.requires.scalar c.in-Some.e c.in-Some.is in omega (arith, one.1, c.requires.cols)

pub returns-in-Some : goal.returns-in-Some
returns-in-Some c =
    let A = matrix_of c.args.joined.now in
    let one = c.requires.scalar c.in-Some.e c.in-Some.is in
    let inside : c.args.row < length A = omega (arith, block-size c.args.joined.now, c.requires.rows, one.0) in
    let within : c.args.col < length (get_or A c.args.row []) =
    omega (arith, c.scalar_at.ensures.size, c.requires.cols, one.1) in
    let same = scalar-same A c.args.row c.args.col c.args.height c.args.width c.scalar_at.result c.in-Some.e
    c.scalar_at.ensures.value one.0 one.1 inside within in
    let is : grid_block (option_map scalar_block c.args.entry) c.args.height c.args.width ≡ (c.in-Some.e ∷ []) ∷ [] =
    ap (λ o. grid_block (option_map scalar_block o) c.args.height c.args.width) c.in-Some.is in
    (λ t. same.0 t ∙ sym is, λ s. same.1 (s ∙ is))

pub returns-in-None : goal.returns-in-None
returns-in-None c =
    zero-part (option_map scalar_block c.args.entry) c.args.joined.now c.args.row c.args.height c.args.col c.args.width
    c.is_zero_at.result (ap (option_map scalar_block) c.in-None.is) c.requires.rows c.requires.cols c.is_zero_at.ensures
