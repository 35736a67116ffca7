use Rattle.std.proofs.Common.{◌≡◌, ℕ, ◌+◌, ◌-◌, ◌*◌, List, [], length, take, drop, get_or, refl, sym, ap, ◌∙◌, subst}
use Rattle.std.proofs.Common.{arith}
use Rattle.dense_blocks.specs.Field.{Ops}
use Rattle.dense_blocks.specs.FieldLaws.{IsField}
use Rattle.dense_blocks.specs.Vectors.{plus, multiple}
use Rattle.dense_blocks.specs.Matrices.{cut}
use Rattle.dense_blocks.specs.Columns.{IsRaised}
use Rattle.dense_blocks.proofs.Shapes.{vector_of}
use Rattle.dense_blocks.proofs.Cutting.{cut-matrix, cut-row}
use Rattle.dense_blocks.proofs.ClearingLaws.{raised-same, raised-added}
use Rattle.dense_blocks.proofs.row_operations.raise.Goals as goal

pub returns-then-pivot-column-ne0 : goal.returns-then-pivot-column-ne0
returns-then-pivot-column-ne0 g c =
    let n : ℕ = length c.args.pivot.now in
    raised-same (g.F.Scalars.ops c.args.f.now) (g.met.F.Scalars.is_field c.args.f.now) n c.args.column
    (cut c.args.count n c.args.below.now) c.args.pivot.now
    (vector_of (g.F.Scalars.ops c.args.f.now) n c.args.pivot.now refl c.requires.pivot_scalars)
    c.if-pivot-column-ne0.true

pub returns-in-Some : goal.returns-in-Some
returns-in-Some g c =
    let K : Ops = g.F.Scalars.ops c.args.f.now in
    let h : IsField K = g.met.F.Scalars.is_field c.args.f.now in
    let pivot : List ℕ = c.args.pivot.now in
    let n : ℕ = length pivot in
    let i : ℕ = c.in-Some.i in
    let below : List (List ℕ) = cut c.args.count n c.args.below.now in
    let width : (i * n + n) - i * n ≡ n = omega arith in
    let row : take ((i * n + n) - i * n) (drop (i * n) c.args.below.now) ≡ get_or below i [] =
    ap (λ k. take k (drop (i * n) c.args.below.now)) width
    ∙ sym (cut-row c.args.count n c.args.below.now i c.in-Some.ensures.inside) in
    subst (IsRaised K c.args.column n below pivot)
    (sym (c.add_scaled.ensures.sum ∙ ap (λ r. plus K pivot (multiple K 1 r)) row))
    (raised-added K h c.args.count n c.args.column i below pivot (vector_of K n pivot refl c.requires.pivot_scalars)
    (cut-matrix K c.args.count n c.args.below.now c.requires.full c.requires.below_scalars)
    c.in-Some.ensures.inside c.requires.column c.if-pivot-column-ne0.false c.in-Some.ensures.not_zero)

pub returns-in-None : goal.returns-in-None
returns-in-None g c = (refl, c.if-pivot-column-ne0.false, c.in-None.ensures.none)
