use Rattle.std.proofs.Common.{◌≤◌, ◌<◌, ap, ◌∙◌, length, map, get_or, [], arith}
use Rattle.std.proofs.lemmas.List.{length-take-le}
use Rattle.std.specs.Option.{option_map}
use Rattle.dense_blocks.specs.Blocks.{matrix_of}
use Rattle.dense_blocks.proofs.BlockLaws.{block-size}
use Rattle.block_rows.specs.BlockRows.{scalar_block}
use Rattle.rising_lists.specs.Rising.{keys, entry, entry_after, nonzero_entry}
use Rattle.block_sparse.proofs.ScalarParts.{scalar-count, scalar_blocks, scalar_entries, parts-count, scalar-parts}
use Rattle.block_sparse.proofs.fresh.row_of_entries.Goals as goal

pub row_entries-entries-requires-clause-cols : goal.row_entries-entries-requires-clause-cols
row_entries-entries-requires-clause-cols c =
    omega (arith, scalar-count c.args.left.now c.requires.scalar, c.requires.cols)

pub with_entries-requires-clause-full : goal.with_entries-requires-clause-full
with_entries-requires-clause-full c =
    let A = matrix_of c.args.joined.now in
    let left = c.args.left.now in
    let inside : c.args.row < length A = omega (arith, block-size c.args.joined.now, c.requires.rows) in
    let long : length left ≤ length (get_or A c.args.row []) =
    omega (arith, scalar-count left c.requires.scalar, c.requires.cols, c.row_entries-entries.ensures.size) in
    ap length c.row_entries-entries.ensures.entries ∙ length-take-le (length left) (get_or A c.args.row []) long

pub returns : goal.returns
returns c =
    let A = matrix_of c.args.joined.now in
    let left = c.args.left.now in
    let inside : c.args.row < length A = omega (arith, block-size c.args.joined.now, c.requires.rows) in
    let long : length left ≤ length (get_or A c.args.row []) =
    omega (arith, scalar-count left c.requires.scalar, c.requires.cols, c.row_entries-entries.ensures.size) in
    record {
      parts = scalar_blocks (scalar_entries A c.args.row left);
      count = parts-count A c.args.row left c.requires.scalar inside long;
      are = scalar-parts A c.args.row left c.requires.scalar inside long;
      entries = λ q.
          c.in_ok-fresh.ensures q
          ∙ ap (λ es. entry_after (keys left) (map (option_map scalar_block) (map nonzero_entry es))
          (entry c.args.old.now q) q)
          c.row_entries-entries.ensures.entries;
    }
