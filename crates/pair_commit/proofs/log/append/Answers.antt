use Rattle.std.proofs.Common.{◌≡◌, List, [], ◌∷◌, ◌++◌, ◌∙◌, ap}
use Rattle.dense_blocks.specs.Blocks.{matrix_of}
use Rattle.removals.proofs.RemovalLaws.{removal_keeps_block_complex}
use Rattle.block_sparse.specs.StoredBlocks.{complex_in}
use Rattle.reduce_step.specs.declared.record.Step.{Step}
use Rattle.pair_commit.proofs.FlagLaws.{flags-removed}
use Rattle.pair_commit.proofs.log.append.Goals as goal

pushed : (log room longer : List Step) (step : Step) → room ≡ log → longer ≡ room ++ step ∷ []
    → longer ≡ log ++ step ∷ []
pushed log room longer step e f = f ∙ ap (λ l. l ++ step ∷ []) e

pub returns-in-Ok-clause-ok : goal.returns-in-Ok-clause-ok
returns-in-Ok-clause-ok g c =
    let r = c.args.r in
    let K = g.F.Scalars.ops r.f in
    let F = g.met.F.Scalars.is_field r.f in
    let v = c.args.b.now in
    let w = c.apply.new.b in
    let step = c.in-Ok.step in
    let a = matrix_of r.inverse in
    let removal = c.in-Ok.ensures.removal in
    let flags = c.in-Ok.ensures.flags in
    record {
      step = step;
      step_is = c.in-Ok.ensures.step;
      step_from = c.in-Ok.ensures.step_from;
      logged = pushed c.args.log.now.items c.reserve.new.self.items c.push_reserved.new.self.items step
          c.reserve.ensures.items c.push_reserved.ensures.items;
      removal = removal;
      flags = flags;
      block_complex =
          removal_keeps_block_complex K (complex_in v) (complex_in w) r.foot.x r.foot.y a F c.requires.over removal;
      singular =
          flags-removed K F v c.live-stands.ensures.sound c.requires.over r.foot.x r.foot.y a w removal flags;
    }
