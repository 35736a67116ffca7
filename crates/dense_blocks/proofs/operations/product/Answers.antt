use Rattle.std.proofs.Common.{◌++◌, length, subst, sym, refl, ap, arith, ◌∙◌}
use Rattle.dense_blocks.specs.Vectors.{AllScalars, combination}
use Rattle.dense_blocks.specs.Matrices.{cut, product}
use Rattle.dense_blocks.specs.Blocks.{matrix_of}
use Rattle.dense_blocks.proofs.Shapes.{vector-scalars}
use Rattle.dense_blocks.proofs.Cutting.{first_rows-none}
use Rattle.dense_blocks.proofs.BlockLaws.{block-row, first_rows-hold, block_product-matrix, block_product-next}
use Rattle.dense_blocks.proofs.operations.product.Goals as goal

pub loop-i-init : goal.loop-i-init
loop-i-init g c =
    c.in_ok-entries.ensures
    ∙ sym (first_rows-none (product (g.F.Scalars.ops c.args.f.now) c.args.b.now.cols (matrix_of c.args.a.now)
    (matrix_of c.args.b.now)))

pub push_combination-requires-clause-coefficient_scalars : goal.push_combination-requires-clause-coefficient_scalars
push_combination-requires-clause-coefficient_scalars g c =
    let K : _ = g.F.Scalars.ops c.args.f.now in
    subst (AllScalars K) (sym c.row.ensures.row)
    (vector-scalars K c.args.a.now.cols _ (block-row K c.args.a.now c.loop-i.i c.requires.a_scalars
    c.loop-i-test.true))

pub loop-i-preserved : goal.loop-i-preserved
loop-i-preserved g c =
    block_product-next (g.F.Scalars.ops c.args.f.now) (g.met.F.Scalars.is_field c.args.f.now) c.args.a.now c.args.b.now
    c.loop-i.i c.loop-i.entries
    c.row.result.now c.push_combination.new.self c.requires.shapes c.requires.a_scalars c.requires.b_scalars
    c.loop-i-test.true c.loop-i.invariant
    c.row.ensures.row c.row.ensures.size
    (c.in_ok-push_combination.ensures
    ∙ ap (λ es. c.loop-i.entries ++ combination (g.F.Scalars.ops c.args.f.now) c.args.b.now.cols c.row.result.now
    (cut (length c.row.result.now) c.args.b.now.cols es)) c.as_slice.ensures)

pub invariant_of-result-clause-full : goal.invariant_of-result-clause-full
invariant_of-result-clause-full g c =
    let K : _ = g.F.Scalars.ops c.args.f.now in
    let a : _ = c.args.a.now in
    let b : _ = c.args.b.now in
    (first_rows-hold K a.rows b.cols c.loop-i.i (product K b.cols (matrix_of a) (matrix_of b)) c.loop-i.entries
    (block_product-matrix K (g.met.F.Scalars.is_field c.args.f.now) a b c.requires.shapes c.requires.a_scalars
    c.requires.b_scalars)
    (omega arith) c.loop-i.invariant).full

pub returns : goal.returns
returns g c =
    let K : _ = g.F.Scalars.ops c.args.f.now in
    let a : _ = c.args.a.now in
    let b : _ = c.args.b.now in
    let held : _ =
    first_rows-hold K a.rows b.cols c.loop-i.i (product K b.cols (matrix_of a) (matrix_of b)) c.loop-i.entries
    (block_product-matrix K (g.met.F.Scalars.is_field c.args.f.now) a b c.requires.shapes c.requires.a_scalars
    c.requires.b_scalars)
    (omega arith) c.loop-i.invariant in
    record {
      block = record { rows_are = refl; columns_are = refl; matrix_is = held.matrix };
      scalars = held.scalars;
    }
