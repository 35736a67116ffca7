use Rattle.std.proofs.Common.{◌≡◌, ℕ, ◌+◌, ◌-◌, ◌*◌, ◌<◌, List, ◌++◌, length, take, drop, ap, ap₂, ◌∙◌, arith}
use Rattle.std.proofs.lemmas.List.Elements.{All-get_or, All-take, All-drop}
use Rattle.dense_blocks.specs.Field.{Ops}
use Rattle.dense_blocks.specs.FieldLaws.{IsField}
use Rattle.dense_blocks.specs.Vectors.{plus, multiple}
use Rattle.dense_blocks.specs.Columns.{row_remainder}
use Rattle.dense_blocks.proofs.ClearingRows.{clears_rows-start, clears_rows-next, clears_rows-end, next_row-size}
use Rattle.dense_blocks.proofs.row_operations.clear_rows.Goals as goal

pub loop-i-init : goal.loop-i-init
loop-i-init g c = clears_rows-start (g.F.Scalars.ops c.args.f.now) c.args.column c.args.pivot.now c.args.count
    c.args.rows.now c.requires.row_scalars

pub neg-less-requires : goal.neg-less-requires
neg-less-requires g c =
    let K : Ops = g.F.Scalars.ops c.args.f.now in
    let n : ℕ = length c.args.pivot.now in
    let start : ℕ = c.loop-i.i * n in
    let row : List ℕ = take ((start + n) - start) (drop start c.loop-i.rows) in
    All-get_or (λ a. a < K.order) row c.args.column 0
    (omega (
      arith,
      next_row-size c.args.count n c.loop-i.i c.loop-i.rows c.loop-i-test.true (c.loop-i.auto.rows
          ∙ c.requires.full),
    ))
    (All-take (λ a. a < K.order) ((start + n) - start) (drop start c.loop-i.rows)
    (All-drop (λ a. a < K.order) start c.loop-i.rows c.loop-i.invariant.scalars))

pub add_scaled-requires-clause-target_scalars : goal.add_scaled-requires-clause-target_scalars
add_scaled-requires-clause-target_scalars g c =
    let K : Ops = g.F.Scalars.ops c.args.f.now in
    let n : ℕ = length c.args.pivot.now in
    let start : ℕ = c.loop-i.i * n in
    All-take (λ a. a < K.order) ((start + n) - start) (drop start c.loop-i.rows)
    (All-drop (λ a. a < K.order) start c.loop-i.rows c.loop-i.invariant.scalars)

pub loop-i-preserved : goal.loop-i-preserved
loop-i-preserved g c =
    let K : Ops = g.F.Scalars.ops c.args.f.now in
    let h : IsField K = g.met.F.Scalars.is_field c.args.f.now in
    let pivot : List ℕ = c.args.pivot.now in
    let n : ℕ = length pivot in
    let start : ℕ = c.loop-i.i * n in
    let now : List ℕ = c.loop-i.rows in
    let part : ℕ = (start + n) - start in
    let row : List ℕ = take part (drop start now) in
    let width : part ≡ n = omega arith in
    let cleared : c.add_scaled.new.target ≡ row_remainder K c.args.column pivot row =
    c.add_scaled.ensures.sum ∙ ap (λ k. plus K row (multiple K k pivot)) c.neg-less.ensures in
    clears_rows-next K h c.args.column pivot c.args.count c.args.rows.now c.requires.full c.requires.pivot_scalars
    c.requires.row_scalars
    c.loop-i.i now row (take start now ++ (c.add_scaled.new.target ++ drop part (drop start now))) c.loop-i-test.true
    c.loop-i.invariant
    (ap (λ k. take k (drop start now)) width)
    (ap₂ (λ r k. take start now ++ (r ++ drop k (drop start now))) cleared width)

pub returns : goal.returns
returns g c =
    clears_rows-end (g.F.Scalars.ops c.args.f.now) (g.met.F.Scalars.is_field c.args.f.now) c.args.column
    c.args.pivot.now c.args.count c.args.rows.now c.requires.full
    c.requires.pivot_scalars c.requires.row_scalars c.loop-i.i c.loop-i.rows (omega arith) c.loop-i.invariant
