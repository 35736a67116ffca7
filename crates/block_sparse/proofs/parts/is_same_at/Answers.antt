use Rattle.std.proofs.Common.{◌≡◌, ◌<◌, ◌≤◌, ◌+◌, ap, ◌∙◌, sym, refl, true, false, length, get_or, [], arith}
use Rattle.std.proofs.Common.{below_more, rules}
use Rattle.dense_blocks.specs.Blocks.{matrix_of}
use Rattle.dense_blocks.proofs.BlockLaws.{block-size}
use Rattle.block_sparse.specs.Grids.{window}
use Rattle.block_sparse.proofs.CompareLaws.{rows-same}
use Rattle.block_sparse.proofs.Windows.{window-row, window-size}
use Rattle.block_sparse.proofs.parts.is_same_at.Goals as goal

pub loop-i-preserved : goal.loop-i-preserved
loop-i-preserved c =
    let A = matrix_of c.args.joined.now in
    let size : c.args.row + c.args.height ≤ length A = omega (arith, block-size c.args.joined.now, c.requires.rows) in
    let inside : c.loop-i.i < c.args.height = omega arith in
    let passed : c.same_entries.result ≡ true = search rules in
    below_more _ _ c.loop-i.invariant
    (sym c.row.ensures.row ∙ c.same_entries.ensures.0 passed ∙ c.row_part.ensures
    ∙ sym (window-row c.args.row c.args.height c.args.col c.args.width A c.loop-i.i size inside))

pub returns-then-not-same_entries : goal.returns-then-not-same_entries
returns-then-not-same_entries c =
    let A = matrix_of c.args.joined.now in
    let size : c.args.row + c.args.height ≤ length A = omega (arith, block-size c.args.joined.now, c.requires.rows) in
    let inside : c.loop-i.i < c.args.height = omega arith in
    let failed : c.same_entries.result ≡ false = search rules in (
      λ h. let e : false ≡ true = h in cc,
      λ h.
          let passed : c.same_entries.result ≡ true = c.same_entries.ensures.1
          (c.row.ensures.row ∙ ap (λ M. get_or M c.loop-i.i []) h ∙ window-row c.args.row c.args.height c.args.col
          c.args.width A c.loop-i.i size inside ∙ sym c.row_part.ensures) in
          cc,
    )

pub returns : goal.returns
returns c =
    let A = matrix_of c.args.joined.now in
    let size : c.args.row + c.args.height ≤ length A = omega (arith, block-size c.args.joined.now, c.requires.rows) in
    let W = window c.args.row c.args.height c.args.col c.args.width A in
    let count : length (matrix_of c.args.b.now) ≡ c.args.height = block-size c.args.b.now ∙ c.requires.height in (
      λ h. rows-same (matrix_of c.args.b.now) W
          (count ∙ sym (window-size c.args.row c.args.height c.args.col c.args.width A size))
          (λ k l. c.loop-i.invariant k (omega (arith, l, count))),
      λ h. refl,
    )
