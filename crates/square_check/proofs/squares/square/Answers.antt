use Rattle.std.proofs.Common.{◌≡◌, ℕ, length, refl, sym, ap, ◌∙◌, subst, arith}
use Rattle.std.proofs.lemmas.Bool.{true≢false}
use Rattle.dense_blocks.specs.Field.{Ops}
use Rattle.dense_blocks.specs.Vectors.{AllScalars, combination}
use Rattle.dense_blocks.specs.Blocks.{matrix_of}
use Rattle.dense_blocks.proofs.Shapes.{vector-scalars}
use Rattle.dense_blocks.proofs.BlockLaws.{block-row, block-size}
use Rattle.square_check.proofs.Combined.{products-agree, product-rows_agree}
use Rattle.square_check.proofs.squares.square.Goals as goal

pub same_row-requires-clause-row1_scalars : goal.same_row-requires-clause-row1_scalars
same_row-requires-clause-row1_scalars g c =
    let K : Ops = g.F.Scalars.ops c.args.f.now in
    subst (AllScalars K) (sym c.row.ensures.row)
    (vector-scalars K c.args.up1.now.cols _ (block-row K c.args.up1.now c.loop-i.i c.requires.up1_scalars
    c.loop-i-test.true))

pub same_row-requires-clause-row2_scalars : goal.same_row-requires-clause-row2_scalars
same_row-requires-clause-row2_scalars g c =
    let K : Ops = g.F.Scalars.ops c.args.f.now in
    subst (AllScalars K) (sym c.row-in-loop-i.ensures.row)
    (vector-scalars K c.args.up2.now.cols _ (block-row K c.args.up2.now c.loop-i.i c.requires.up2_scalars
    (omega (arith, c.requires.rows, c.loop-i-test.true))))

pub returns-then-not-same_row : goal.returns-then-not-same_row
returns-then-not-same_row g c =
    let K : Ops = g.F.Scalars.ops c.args.f.now in
    let n : ℕ = c.args.low1.now.cols in
    let A = matrix_of c.args.up1.now in
    let B = matrix_of c.args.low1.now in
    let C = matrix_of c.args.up2.now in
    let D = matrix_of c.args.low2.now in
    let same : length A ≡ length C = block-size c.args.up1.now ∙ c.requires.rows ∙ sym (block-size c.args.up2.now) in (
      λ no. absurd (true≢false (sym no)),
      λ e. c.if-not-same_row.ensures.1
          (ap (λ r. combination K n r B) c.row.ensures.row
          ∙ product-rows_agree K n A B C D same c.loop-i.i
          (omega (arith, block-size c.args.up1.now, c.loop-i-test.true)) e
          ∙ sym (ap (λ r. combination K n r D) c.row-in-loop-i.ensures.row)),
    )

pub returns : goal.returns
returns g c =
    let K : Ops = g.F.Scalars.ops c.args.f.now in
    let up1 = c.args.up1.now in
    let up2 = c.args.up2.now in (
      λ _. products-agree K c.args.low1.now.cols (matrix_of up1) (matrix_of c.args.low1.now) (matrix_of up2)
          (matrix_of c.args.low2.now)
          (block-size up1 ∙ c.requires.rows ∙ sym (block-size up2))
          (λ k l. c.loop-i.invariant k (omega (arith, block-size up1))),
      λ _. refl,
    )
