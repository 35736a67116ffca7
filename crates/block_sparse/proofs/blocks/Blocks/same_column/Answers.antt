use Rattle.std.proofs.Common.{◌≡◌, ℕ, ap, ◌∙◌, sym, true, false, ◌≤◌, arith}
use Rattle.dense_blocks.specs.Blocks.{matrix_of}
use Rattle.dense_blocks.proofs.Cutting.{Sized}
use Rattle.block_sparse.proofs.Windows.{sized-cut}
use Rattle.block_sparse.specs.StoredBlocks.{block_at}
use Rattle.block_sparse.specs.Grids.{width, segment, nonzero}
use Rattle.block_sparse.proofs.CompareLaws.{all-same, same-at, same-listed, rows-window, rows-absent}
use Rattle.block_sparse.proofs.blocks.Blocks.same_column.Goals as goal

pub returns-then-is_column : goal.returns-then-is_column
returns-then-is_column c =
    let below = c.args.below.now in
    let A = matrix_of c.args.joined.now in
    let x : ℕ = c.args.x in
    let v = c.args.self.now in
    let b = c.args.joined.now in
    let sized : Sized b.rows b.cols A = sized-cut b.rows b.cols b.entries (omega (arith, b.full)) in
    let fits : width below ≤ b.rows = omega (arith, c.requires.rows) in (
      λ h. all-same below (λ s. block_at v x s) (λ s. nonzero (segment below A s)) c.args.y c.column.result.now
          c.column.ensures.cells (rows-absent below A)
          (λ i l ne. c.is_column.ensures.0 c.if-is_column.true i l ne
          ∙ ap nonzero (rows-window below A c.args.joined.now.rows c.args.joined.now.cols i c.requires.rising sized
          fits l))
          (c.are_listed.ensures.0 h),
      λ all. c.are_listed.ensures.1 (same-listed below (λ s. block_at v x s) (λ s. nonzero (segment below A s)) c.args.y
          c.column.result.now c.column.ensures.cells (rows-absent below A) all),
    )

pub returns-else-is_column : goal.returns-else-is_column
returns-else-is_column c =
    let below = c.args.below.now in
    let A = matrix_of c.args.joined.now in
    let x : ℕ = c.args.x in
    let v = c.args.self.now in
    let b = c.args.joined.now in
    let sized : Sized b.rows b.cols A = sized-cut b.rows b.cols b.entries (omega (arith, b.full)) in
    let fits : width below ≤ b.rows = omega (arith, c.requires.rows) in (
      λ h. let e : false ≡ true = sym c.if-is_column.false ∙ h in cc,
      λ all. c.is_column.ensures.1 (λ i l ne.
          same-at below (λ s. block_at v x s) (λ s. nonzero (segment below A s)) c.args.y all i l ne
          ∙ ap nonzero (sym (rows-window below A c.args.joined.now.rows c.args.joined.now.cols i c.requires.rising sized
          fits l))),
    )
