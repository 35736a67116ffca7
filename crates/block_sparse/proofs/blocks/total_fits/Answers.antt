use Rattle.std.proofs.Common.{true, false, ◌≡◌, ◌<◌, ◌+◌, ℕ, length, arith}
use Rattle.block_complexes.proofs.LiveLaws.{total-next, total-take}
use Rattle.block_sparse.proofs.blocks.total_fits.Goals as goal

pub loop-cell-preserved : goal.loop-cell-preserved
loop-cell-preserved c =
    let live = c.args.live.now in
    let i : ℕ = c.loop-cell.cell-index in
    let inside : i < length live = omega arith in
    record {
      total = omega (arith, total-next live i inside, c.loop-cell.invariant.total);
      most =
          omega (arith, c.loop-cell.invariant.most);
    }

pub returns-then-size-total : goal.returns-then-size-total
returns-then-size-total c =
    let live = c.args.live.now in
    let i : ℕ = c.loop-cell.cell-index in
    let inside : i < length live = omega arith in (
      λ h. let e : false ≡ true = h in cc,
      λ h.
          absurd (omega (
            arith,
            total-next live i inside,
            total-take live (i + 1),
            c.loop-cell.invariant.total,
            c.loop-cell.invariant.most,
          )),
    )
