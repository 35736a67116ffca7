use Rattle.std.proofs.Common.{◌*◌, length, ap, ap₂, refl, sym, ◌∙◌}
use Rattle.dense_blocks.specs.Field.{Ops}
use Rattle.dense_blocks.specs.Vectors.{plus, multiple}
use Rattle.dense_blocks.specs.MatrixFacts.{matrix_sum}
use Rattle.dense_blocks.specs.Blocks.{matrix_of}
use Rattle.dense_blocks.proofs.BlockLaws.{Holds, block_sum-holds}
use Rattle.dense_blocks.proofs.operations.sum.Goals.{After-add_scaled}
use Rattle.dense_blocks.proofs.operations.sum.Given.{Over}
use Rattle.dense_blocks.proofs.operations.sum.Goals as goal

pub add_scaled-requires-clause-sizes : goal.add_scaled-requires-clause-sizes
add_scaled-requires-clause-sizes g c =
    ap length c.as_slice-2.ensures ∙ c.args.b.now.full
    ∙ sym (ap₂ (λ m n. m * n) c.requires.rows c.requires.cols) ∙ sym c.args.a.now.full
    ∙ sym (ap length (c.in_ok-entries.ensures ∙ c.as_slice.ensures))

added : (g : Over) (c : After-add_scaled g) → Holds (g.F.Scalars.ops c.args.f.now) c.args.a.now.rows
    c.args.a.now.cols
    (matrix_sum (g.F.Scalars.ops c.args.f.now) (matrix_of c.args.a.now) (matrix_of c.args.b.now))
    c.add_scaled.new.self
added g c =
    let K : Ops = g.F.Scalars.ops c.args.f.now in
    block_sum-holds K (g.met.F.Scalars.is_field c.args.f.now) c.args.a.now c.args.b.now c.add_scaled.new.self
    c.requires.rows c.requires.cols c.requires.a_scalars c.requires.b_scalars
    (c.add_scaled.ensures
    ∙ ap₂ (λ u v. plus K u (multiple K 1 v)) (c.in_ok-entries.ensures ∙ c.as_slice.ensures) c.as_slice-2.ensures)

pub invariant_of-result-clause-full : goal.invariant_of-result-clause-full
invariant_of-result-clause-full g c = (added g c).full

pub returns : goal.returns
returns g c =
    let held = added g (goal.at.returns g c).After-add_scaled in
    record {
      block = record { rows_are = refl; columns_are = refl; matrix_is = held.matrix };
      scalars = held.scalars;
    }
