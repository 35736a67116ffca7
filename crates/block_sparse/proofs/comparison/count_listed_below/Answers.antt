use Rattle.std.proofs.Common.{◌<◌, ◌+◌, ◌-◌, ◌/◌, ℕ, length, arith}
use Rattle.rising_lists.proofs.Keyed.{rising_le}
use Rattle.std.proofs.lemmas.List.{get_or-map, length-map}
use Rattle.rising_lists.specs.Rising.{keys}
use Rattle.block_sparse.proofs.comparison.count_listed_below.Goals as goal

pub loop-low-preserved-then-listed-middle : goal.loop-low-preserved-then-listed-middle
loop-low-preserved-then-listed-middle c =
    let listed = c.args.listed.now in
    let middle : ℕ = c.loop-low.low + (c.loop-low.high - c.loop-low.low) / 2 in
    let inside : middle < length listed = omega (arith, c.loop-low.invariant.within) in
    record {
      order = omega arith;
      within = c.loop-low.invariant.within;
      below = λ i l. omega (
        arith,
        rising_le (keys listed) c.requires i middle (omega arith)
            (omega (arith, inside, length-map listed (λ s. s.0))),
        get_or-map (λ s. s.0) listed middle (0, 0) 0 inside,
        c.if-listed-middle.true,
      );
      from = c.loop-low.invariant.from;
    }

pub loop-low-preserved : goal.loop-low-preserved
loop-low-preserved c =
    let listed = c.args.listed.now in
    let middle : ℕ = c.loop-low.low + (c.loop-low.high - c.loop-low.low) / 2 in
    let inside : middle < length listed = omega (arith, c.loop-low.invariant.within) in
    record {
      order = omega arith;
      within = omega (arith, inside);
      below = c.loop-low.invariant.below;
      from = λ i l m. omega (
        arith,
        rising_le (keys listed) c.requires middle i l
            (omega (arith, m, length-map listed (λ s. s.0))),
        get_or-map (λ s. s.0) listed middle (0, 0) 0 inside,
        c.if-listed-middle.false,
      );
    }
