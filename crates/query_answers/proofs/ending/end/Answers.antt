use Rattle.std.proofs.Common.{◌≡◌, All, sym, subst}
use Rattle.block_complexes.specs.BlockComplexes.{IsBlockComplex}
use Rattle.reduce_step.specs.Logs.{AreStepsFrom, pairs_of}
use Rattle.block_sparse.specs.StoredBlocks.{StoredBlocks, complex_in}
use Rattle.scalar_finish.specs.Finishes.{IsFinish}
use Rattle.scalar_finish.proofs.SplitLaws.{split_keeps_all}
use Rattle.query_answers.proofs.EndingLaws.{split-units}
use Rattle.query_answers.proofs.ending.end.Goals as goal

pub finish-requires : goal.finish-requires
finish-requires g c =
    let K = g.F.Scalars.ops c.args.f.now in
    let v = complex_in c.args.present.now in
    let w = complex_in c.in_ok-coordinates.coordinates in
    let same = sym c.in_ok-start.ensures in
    record {
      units = subst (λ (b : StoredBlocks). All (λ l. l.2 ≡ 1) b.live) same
          (split-units v w c.in_ok-coordinates.ensures.split);
      over = subst (λ (b : StoredBlocks). IsBlockComplex K (complex_in b)) same
          (split_keeps_all K v w (g.met.F.Scalars.is_field c.args.f.now) c.requires
          c.in_ok-coordinates.ensures.split).block_complex;
    }

pub returns : goal.returns
returns g c =
    let K = g.F.Scalars.ops c.args.f.now in
    let log = c.in_ok-finished.finished.log.items in
    let rest = complex_in c.in_ok-finished.finished.rest in
    record {
      split = c.in_ok-coordinates.ensures.split;
      steps = subst (λ (b : StoredBlocks). AreStepsFrom K (complex_in b) log rest) c.in_ok-start.ensures
          c.in_ok-finished.ensures.steps;
      finish = subst (λ (b : StoredBlocks). IsFinish K (complex_in b) (pairs_of log) rest) c.in_ok-start.ensures
          c.in_ok-finished.ensures.finish;
    }
