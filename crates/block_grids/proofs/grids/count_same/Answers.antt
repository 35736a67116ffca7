use Rattle.dense_blocks.specs.Blocks.{matrix_of}
use Rattle.block_grids.proofs.JoinLaws.{scalars-shaped, same-scalar}
use Rattle.block_grids.proofs.grids.count_same.Goals as goal

pub count_same_entries-requires-clause-scalars : goal.count_same_entries-requires-clause-scalars
count_same_entries-requires-clause-scalars c =
    scalars-shaped c.args.line.now c.in-Some.entries.now c.in-Some.ensures c.args.height c.args.left.now
    c.requires.shaped

pub returns-in-Some-clause-same : goal.returns-in-Some-clause-same
returns-in-Some-clause-same c = λ i l.
    (same-scalar c.args.line.now c.in-Some.entries.now c.in-Some.ensures c.args.left.now
    (matrix_of c.args.joined.now) c.args.row c.args.height i).0
    (c.count_same_entries.ensures.same i l)

pub returns-in-Some-clause-other : goal.returns-in-Some-clause-other
returns-in-Some-clause-other c = λ l s.
    c.count_same_entries.ensures.other l
    ((same-scalar c.args.line.now c.in-Some.entries.now c.in-Some.ensures c.args.left.now
    (matrix_of c.args.joined.now) c.args.row c.args.height c.count_same_entries.result).1 s)
