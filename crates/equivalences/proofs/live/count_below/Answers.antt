use Rattle.std.proofs.Common.{◌<◌, ◌+◌, ◌-◌, ◌/◌, ℕ, length, arith}
use Rattle.rising_lists.proofs.Keyed.{rising_le}
use Rattle.block_complexes.specs.BlockComplexes.{cells}
use Rattle.block_complexes.proofs.LiveLaws.{cell-at, length-cells}
use Rattle.equivalences.proofs.live.count_below.Goals as goal

pub loop-low-preserved-then-live-middle : goal.loop-low-preserved-then-live-middle
loop-low-preserved-then-live-middle c =
    let live = c.args.live.now in
    let middle : ℕ = c.loop-low.low + (c.loop-low.high - c.loop-low.low) / 2 in
    let inside : middle < length live = omega (arith, c.loop-low.invariant.within) in
    record {
      order = omega arith;
      within = c.loop-low.invariant.within;
      below = λ i l. omega (
        arith,
        rising_le (cells live) c.requires i middle (omega arith)
            (omega (arith, inside, length-cells live)),
        cell-at live middle inside,
        c.if-live-middle.true,
      );
      from = c.loop-low.invariant.from;
    }

pub loop-low-preserved : goal.loop-low-preserved
loop-low-preserved c =
    let live = c.args.live.now in
    let middle : ℕ = c.loop-low.low + (c.loop-low.high - c.loop-low.low) / 2 in
    let inside : middle < length live = omega (arith, c.loop-low.invariant.within) in
    record {
      order = omega arith;
      within = omega (arith, inside);
      below = c.loop-low.invariant.below;
      from = λ i l m. omega (
        arith,
        rising_le (cells live) c.requires middle i l (omega (arith, m, length-cells live)),
        cell-at live middle inside,
        c.if-live-middle.false,
      );
    }
