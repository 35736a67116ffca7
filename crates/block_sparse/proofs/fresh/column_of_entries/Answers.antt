use Rattle.std.proofs.Common.{◌≤◌, ◌*◌, ap, ◌∙◌, length, map, arith}
use Rattle.std.proofs.lemmas.Nat.{mul-le}
use Rattle.rising_lists.specs.Rising.{keys, entry, entry_after, value_if, strided}
use Rattle.block_sparse.proofs.ScalarParts.{scalar-count, scalar_mark, scalar_marks, marks-count, marks-are}
use Rattle.block_sparse.proofs.fresh.column_of_entries.Goals as goal

pub with_value-requires-clause-within : goal.with_value-requires-clause-within
with_value-requires-clause-within c =
    let b = c.args.joined.now in
    let below = c.args.below.now in
    let tall : length below ≤ b.rows = omega (arith, scalar-count below c.requires.scalar, c.requires.rows) in
    let room : length below * b.cols ≤ b.rows * b.cols =
    mul-le (length below) b.cols b.rows b.cols tall (omega arith) in
    omega (arith, room, b.full, ap length c.as_slice-entries.ensures)

pub returns : goal.returns
returns c =
    let b = c.args.joined.now in
    let below = c.args.below.now in
    let tall : length below ≤ b.rows = omega (arith, scalar-count below c.requires.scalar, c.requires.rows) in
    record {
      marks = scalar_marks b c.args.col below;
      count = marks-count b c.args.col below c.requires.scalar tall c.requires.cols;
      are = marks-are b c.args.col below c.requires.scalar tall c.requires.cols;
      entries = λ q.
          c.in_ok-fresh.ensures q
          ∙ ap (λ es. entry_after (keys below) (map (value_if scalar_mark)
          (strided es c.args.col b.cols (length below))) (entry c.args.old.now q) q)
          c.as_slice-entries.ensures;
    }
