use Rattle.std.proofs.Common.{◌≡◌, ℕ, ap, ◌∙◌, sym, true, false, length}
use Rattle.dense_blocks.specs.Blocks.{matrix_of}
use Rattle.dense_blocks.proofs.BlockLaws.{block-size}
use Rattle.block_sparse.specs.StoredBlocks.{block_at}
use Rattle.block_sparse.specs.Grids.{columns_of, nonzero}
use Rattle.block_sparse.proofs.CompareLaws.{all-same, same-at, same-listed, columns-window, columns-absent}
use Rattle.block_sparse.proofs.blocks.Blocks.same_row.Goals as goal

pub returns-then-is_row : goal.returns-then-is_row
returns-then-is_row c =
    let left = c.args.left.now in
    let A = matrix_of c.args.joined.now in
    let y : ℕ = c.args.y in
    let v = c.args.self.now in
    let size : length A ≡ c.args.joined.now.rows = block-size c.args.joined.now in (
      λ h. all-same left (λ s. block_at v s y) (λ s. nonzero (columns_of left A s)) c.args.x c.row.result.now
          c.row.ensures.cells (columns-absent left A)
          (λ i l ne. c.is_row.ensures.0 c.if-is_row.true i l ne
          ∙ ap nonzero (columns-window left A c.args.joined.now.rows i c.requires.rising size l))
          (c.are_listed.ensures.0 h),
      λ all. c.are_listed.ensures.1 (same-listed left (λ s. block_at v s y) (λ s. nonzero (columns_of left A s))
          c.args.x c.row.result.now c.row.ensures.cells (columns-absent left A) all),
    )

pub returns-else-is_row : goal.returns-else-is_row
returns-else-is_row c =
    let left = c.args.left.now in
    let A = matrix_of c.args.joined.now in
    let y : ℕ = c.args.y in
    let v = c.args.self.now in
    let size : length A ≡ c.args.joined.now.rows = block-size c.args.joined.now in (
      λ h. let e : false ≡ true = sym c.if-is_row.false ∙ h in cc,
      λ all. c.is_row.ensures.1 (λ i l ne.
          same-at left (λ s. block_at v s y) (λ s. nonzero (columns_of left A s)) c.args.x all i l ne
          ∙ ap nonzero (sym (columns-window left A c.args.joined.now.rows i c.requires.rising size l))),
    )
