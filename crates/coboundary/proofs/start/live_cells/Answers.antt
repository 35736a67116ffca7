use Rattle.std.proofs.Common.{ap, ◌∙◌, ◌+◌, ◌++◌, drop, arith}
use Rattle.sheaf_data.specs.Arrows.{numbered_cells}
use Rattle.coboundary.specs.Start.{with_stalks}
use Rattle.coboundary.proofs.start.live_cells.Goals as goal
use Rattle.coboundary.proofs.StartLaws.{with_stalks-next}

pub loop-cell-preserved : goal.loop-cell-preserved
loop-cell-preserved c =
    let dims = c.args.dims.now in
    let stalks = c.args.stalks.now in
    let i = c.loop-cell.cell in
    ap (λ live. live ++ with_stalks (numbered_cells (i + 1) (drop (i + 1) dims) (drop (i + 1) stalks)))
    c.in_ok-push_live.ensures
    ∙ with_stalks-next i dims stalks c.loop-cell.live.items _ c.requires.one_each (omega arith) c.loop-cell.invariant
