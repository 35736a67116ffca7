use Rattle.block_sparse.proofs.fresh.column_of_blocks.Goals as goal

pub with_fresh-requires-clause-full : goal.with_fresh-requires-clause-full
with_fresh-requires-clause-full c = c.in_ok-marks.ensures.count

pub returns : goal.returns
returns c = record {
  marks = c.in_ok-marks.marks.items;
  count = c.in_ok-marks.ensures.count;
  are = c.in_ok-marks.ensures.marks;
  entries = c.in_ok-fresh.ensures;
}
