use Rattle.reduce_step.proofs.AppliedLaws.{listed-degrees}
use Rattle.sheaf_bench.proofs.merges.footprint.Goals as goal

pub returns : goal.returns
returns c =
    let foot = c.in_ok-foot.foot in
    let is = c.in_ok-foot.ensures.copied in
    record {
      left_sized = is.left_sized;
      below_sized = is.below_sized;
      degrees = listed-degrees c.args.blocks.now c.live-live.ensures.sound 0 c.args.y foot.left foot.below
          (record { stands = c.in-Some.ensures.stands; on_left = is.left; is_below = is.below });
    }
