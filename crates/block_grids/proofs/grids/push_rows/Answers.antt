use Rattle.std.proofs.Common.{◌++◌, ℕ, ap, ◌∙◌, sym, append_assoc, arith}
use Rattle.block_grids.specs.Joined.{joined_row, joined_rows}
use Rattle.block_grids.proofs.JoinLaws.{joined_rows-next, shaped-row}
use Rattle.block_grids.proofs.grids.push_rows.Goals as goal

pub push_row-requires-clause-row : goal.push_row-requires-clause-row
push_row-requires-clause-row c = shaped-row c.args.line.now c.args.height c.loop-k.k c.args.left.now c.requires.shaped
    (omega arith)

pub loop-k-preserved : goal.loop-k-preserved
loop-k-preserved c =
    let line = c.args.line.now in
    let left = c.args.left.now in
    let k : ℕ = c.loop-k.k in
    c.in_ok-push_row.ensures
    ∙ ap (λ e. e ++ joined_row line left k) c.loop-k.invariant
    ∙ append_assoc c.args.entries.now (joined_rows line left k) (joined_row line left k)
    ∙ ap (λ e. c.args.entries.now ++ e) (sym (joined_rows-next line left k))
