use Rattle.std.proofs.Common.{◌<◌, ◌+◌, ◌*◌, ℕ, List, length, sym, subst, arith}
use Rattle.std.proofs.lemmas.Nat.{mul-add-lt}
use Rattle.equivalences.proofs.ColumnLaws.{IsColumnPut, column_put-skip, column_put-write}
use Rattle.equivalences.proofs.transposed.put_column.Goals as goal
use Rattle.equivalences.proofs.transposed.put_column.Goals.{then-entry-ne0, else-entry-ne0}

pub loop-j-preserved : goal.loop-j-preserved
loop-j-preserved c =
    let w : ℕ = c.args.width in
    let i : ℕ = c.args.i in
    let row : List ℕ = c.args.row.now in
    let old : List ℕ = c.args.into.now in
    let j : ℕ = c.loop-j.j in
    let now : List ℕ = c.loop-j.into in
    let inside : j * w + i < length now =
    omega (arith, mul-add-lt j w i (length row) c.loop-j-test.true c.requires.column, c.requires.full) in
    elim c.if-entry-ne0.branch [
      | then-entry-ne0 b ↦
          subst (IsColumnPut w i row old (j + 1)) (sym b.into-is)
          (column_put-write w i row old j now c.requires.column c.loop-j.invariant inside)
      | else-entry-ne0 b ↦
          subst (IsColumnPut w i row old (j + 1)) (sym b.into-is)
          (column_put-skip w i row old j now c.requires.column c.loop-j.invariant b.if-entry-ne0.false)
    ]
