use Rattle.std.proofs.Common.{◌≡◌, ℕ, ◌*◌, length, ap, ap₂, ◌∙◌, subst, sym}
use Rattle.dense_blocks.specs.Field.{Ops}
use Rattle.dense_blocks.specs.FieldLaws.{IsField}
use Rattle.dense_blocks.specs.Vectors.{AllScalars, zeros, plus, combination}
use Rattle.dense_blocks.specs.Matrices.{cut}
use Rattle.dense_blocks.specs.Blocks.{matrix_of}
use Rattle.dense_blocks.specs.declared.block.Block.{Block}
use Rattle.dense_blocks.proofs.Shapes.{vector-scalars}
use Rattle.dense_blocks.proofs.VectorLaws.{zeros-plus, zeros-size, zeros-vector, combination-vector}
use Rattle.dense_blocks.proofs.BlockLaws.{block-matrix}
use Rattle.square_check.proofs.squares.combine.Goals as goal

pub add_combination-requires-clause-full : goal.add_combination-requires-clause-full
add_combination-requires-clause-full g c =
    let width : length c.args.target.now ≡ c.args.block.now.cols =
    ap length c.requires.zeros ∙ zeros-size c.args.block.now.cols in
    ap length c.as_slice.ensures ∙ c.args.block.now.full ∙ ap₂ (λ m n. m * n) (sym c.requires.size) (sym width)

pub add_combination-requires-clause-target_scalars : goal.add_combination-requires-clause-target_scalars
add_combination-requires-clause-target_scalars g c =
    let K : Ops = g.F.Scalars.ops c.args.f.now in
    let n : ℕ = c.args.block.now.cols in
    subst (AllScalars K) (sym c.requires.zeros)
    (vector-scalars K n (zeros n) (zeros-vector K (g.met.F.Scalars.is_field c.args.f.now) n))

pub returns : goal.returns
returns g c =
    let K : Ops = g.F.Scalars.ops c.args.f.now in
    let F : IsField K = g.met.F.Scalars.is_field c.args.f.now in
    let b : Block = c.args.block.now in
    let cs = c.args.coefficients.now in
    let width : length c.args.target.now ≡ b.cols = ap length c.requires.zeros ∙ zeros-size b.cols in
    c.add_combination.ensures.sum
    ∙ ap₂ (λ t k. plus K t (combination K k cs (cut (length cs) k c.as_slice.result.now))) c.requires.zeros width
    ∙ ap₂ (λ m es. plus K (zeros b.cols) (combination K b.cols cs (cut m b.cols es))) c.requires.size c.as_slice.ensures
    ∙ zeros-plus K F b.cols (combination K b.cols cs (matrix_of b))
    (combination-vector K F b.rows b.cols cs (matrix_of b) (block-matrix K b c.requires.block_scalars))
