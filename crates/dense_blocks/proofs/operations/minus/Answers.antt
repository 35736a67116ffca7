use Rattle.std.proofs.Common.{ap₂, refl, ◌∙◌}
use Rattle.dense_blocks.specs.Field.{Ops}
use Rattle.dense_blocks.specs.Vectors.{multiple}
use Rattle.dense_blocks.specs.MatrixFacts.{matrix_negative}
use Rattle.dense_blocks.specs.Blocks.{matrix_of}
use Rattle.dense_blocks.proofs.BlockLaws.{Holds, block_negative-holds}
use Rattle.dense_blocks.proofs.operations.minus.Goals.{After-scale}
use Rattle.dense_blocks.proofs.operations.minus.Given.{Over}
use Rattle.dense_blocks.proofs.operations.minus.Goals as goal

negated : (g : Over) (c : After-scale g) → Holds (g.F.Scalars.ops c.args.f.now) c.args.a.now.rows c.args.a.now.cols
    (matrix_negative (g.F.Scalars.ops c.args.f.now) (matrix_of c.args.a.now)) c.scale.new.self
negated g c =
    let K : Ops = g.F.Scalars.ops c.args.f.now in
    block_negative-holds K (g.met.F.Scalars.is_field c.args.f.now) c.args.a.now c.scale.new.self c.requires
    (c.scale.ensures ∙ ap₂ (multiple K) c.neg.ensures (c.in_ok-entries.ensures ∙ c.as_slice.ensures))

pub invariant_of-result-clause-full : goal.invariant_of-result-clause-full
invariant_of-result-clause-full g c = (negated g c).full

pub returns : goal.returns
returns g c =
    let held = negated g (goal.at.returns g c).After-scale in
    record {
      block = record { rows_are = refl; columns_are = refl; matrix_is = held.matrix };
      scalars = held.scalars;
    }
