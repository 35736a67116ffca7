use Rattle.std.proofs.Common.{◌≡◌, ℕ, ◌+◌, ◌-◌, ◌*◌, ◌<◌, List, ◌++◌, take, drop, ap, ap₂, sym, ◌∙◌, arith, get_or, []}
use Rattle.std.proofs.lemmas.List.Elements.{All-take, All-drop}
use Rattle.dense_blocks.specs.Field.{Ops}
use Rattle.dense_blocks.specs.FieldLaws.{IsField}
use Rattle.dense_blocks.specs.Vectors.{plus, combination}
use Rattle.dense_blocks.specs.Matrices.{cut}
use Rattle.dense_blocks.specs.Blocks.{matrix_of}
use Rattle.dense_blocks.proofs.Cutting.{cut-matrix, cut-row}
use Rattle.equivalences.specs.Rows.{with_product}
use Rattle.equivalences.proofs.RowLaws.{rows_done-start, rows_done-row, rows_done-next, rows_done-end}
use Rattle.equivalences.proofs.RowLaws.{with_product-matrix, with_product-row}
use Rattle.equivalences.proofs.rows.add_rows.Goals as goal

pub loop-i-init : goal.loop-i-init
loop-i-init g c =
    let K : Ops = g.F.Scalars.ops c.args.f.now in
    let n : ℕ = c.args.moved.now.cols in
    rows_done-start K n c.args.rows.now (with_product K n (cut c.args.count n c.args.rows.now)
    (cut c.args.count c.args.moved.now.rows c.args.coefficients.now) (matrix_of c.args.moved.now)) c.requires.row_scalars

pub add_row-requires-clause-row_scalars : goal.add_row-requires-clause-row_scalars
add_row-requires-clause-row_scalars g c =
    let K : Ops = g.F.Scalars.ops c.args.f.now in
    let n : ℕ = c.args.moved.now.cols in
    let start : ℕ = c.loop-i.i * n in
    All-take (λ a. a < K.order) ((start + n) - start) (drop start c.loop-i.rows)
    (All-drop (λ a. a < K.order) start c.loop-i.rows c.loop-i.invariant.scalars)

pub loop-i-preserved : goal.loop-i-preserved
loop-i-preserved g c =
    let K : Ops = g.F.Scalars.ops c.args.f.now in
    let h : IsField K = g.met.F.Scalars.is_field c.args.f.now in
    let m : ℕ = c.args.count in
    let n : ℕ = c.args.moved.now.cols in
    let k : ℕ = c.args.moved.now.rows in
    let i : ℕ = c.loop-i.i in
    let A : List (List ℕ) = cut m n c.args.rows.now in
    let J : List (List ℕ) = cut m k c.args.coefficients.now in
    let R : List (List ℕ) = matrix_of c.args.moved.now in
    let hA = cut-matrix K m n c.args.rows.now c.requires.full c.requires.row_scalars in
    let hJ = cut-matrix K m k c.args.coefficients.now c.requires.coefficients c.requires.coefficient_scalars in
    let hR = cut-matrix K k n c.args.moved.now.entries c.args.moved.now.full c.requires.moved_scalars in
    let B : List (List ℕ) = with_product K n A J R in
    let hB = with_product-matrix K h m k n A J R hA hJ hR in
    let now : List ℕ = c.loop-i.rows in
    let start : ℕ = i * n in
    let part : ℕ = (start + n) - start in
    let width : part ≡ n = omega arith in
    let from : ℕ = i * k in
    let height : (from + k) - from ≡ k = omega arith in
    let row : List ℕ = take part (drop start now) in
    let own : List ℕ = take ((from + k) - from) (drop from c.args.coefficients.now) in
    let done : c.add_row.new.row ≡ get_or B i [] =
    c.add_row.ensures
    ∙ ap₂ (λ u v. plus K u (combination K n v R))
    (ap (λ w. take w (drop start now)) width
    ∙ rows_done-row K m n c.args.rows.now B hB i now c.loop-i-test.true c.loop-i.invariant)
    (ap (λ w. take w (drop from c.args.coefficients.now)) height
    ∙ sym (cut-row m k c.args.coefficients.now i c.loop-i-test.true))
    ∙ sym (with_product-row K h m k n A J R hA hJ hR i c.loop-i-test.true) in
    rows_done-next K m n c.args.rows.now B hB i now (take start now ++ (c.add_row.new.row ++ drop part (drop start now)))
    c.loop-i-test.true c.loop-i.invariant
    (ap₂ (λ r w. take start now ++ (r ++ drop w (drop start now))) done width)

pub returns-clause-sum : goal.returns-clause-sum
returns-clause-sum g c =
    let K : Ops = g.F.Scalars.ops c.args.f.now in
    let h : IsField K = g.met.F.Scalars.is_field c.args.f.now in
    let m : ℕ = c.args.count in
    let n : ℕ = c.args.moved.now.cols in
    let k : ℕ = c.args.moved.now.rows in
    let A : List (List ℕ) = cut m n c.args.rows.now in
    let J : List (List ℕ) = cut m k c.args.coefficients.now in
    let R : List (List ℕ) = matrix_of c.args.moved.now in
    let hA = cut-matrix K m n c.args.rows.now c.requires.full c.requires.row_scalars in
    let hJ = cut-matrix K m k c.args.coefficients.now c.requires.coefficients c.requires.coefficient_scalars in
    let hR = cut-matrix K k n c.args.moved.now.entries c.args.moved.now.full c.requires.moved_scalars in
    rows_done-end K m n c.args.rows.now (with_product K n A J R) (with_product-matrix K h m k n A J R hA hJ hR)
    c.loop-i.i c.loop-i.rows c.requires.full (omega arith) c.loop-i.invariant
