use Rattle.std.proofs.Common.{◌≡◌, ℕ, ◌-◌, ◌*◌, List, ◌++◌, sym, ap, ◌∙◌}
use Rattle.dense_blocks.specs.Field.{Ops}
use Rattle.dense_blocks.specs.FieldLaws.{IsField}
use Rattle.dense_blocks.specs.Matrices.{cut}
use Rattle.dense_blocks.proofs.ClearingLaws.{below-size, column-written, column-stuck}
use Rattle.dense_blocks.proofs.row_operations.clear_column.Goals as goal

pub raise-requires-clause-full : goal.raise-requires-clause-full
raise-requires-clause-full g c =
    let above : List ℕ = c.split_at_mut-above.result.0.now in
    let pivot : List ℕ = c.split_at_mut-pivot.result.0.now in
    let below : List ℕ = c.split_at_mut-pivot.result.1.now in
    below-size c.args.size c.args.column c.args.rows.now above pivot below c.requires.column c.requires.full
    (c.split_at_mut-above.ensures.value ∙ ap (λ t. above ++ t) c.split_at_mut-pivot.ensures.value)
    c.split_at_mut-above.ensures.front_len c.split_at_mut-pivot.ensures.front_len

pub returns-then-not-raise : goal.returns-then-not-raise
returns-then-not-raise g c =
    let above : List ℕ = c.split_at_mut-above.result.0.now in
    let pivot : List ℕ = c.split_at_mut-pivot.result.0.now in
    let below : List ℕ = c.split_at_mut-pivot.result.1.now in
    let is : c.args.rows.now ≡ above ++ (pivot ++ below) = c.split_at_mut-above.ensures.value
    ∙ ap (λ t. above ++ t) c.split_at_mut-pivot.ensures.value in (
      ap (λ p. cut c.args.size (2 * c.args.size) (above ++ (p ++ below))) c.if-not-raise.ensures.0
          ∙ ap (cut c.args.size (2 * c.args.size)) (sym is),
      column-stuck (g.F.Scalars.ops c.args.f.now) c.args.size c.args.column c.args.rows.now above pivot below
          c.requires.column is
          c.split_at_mut-above.ensures.front_len c.split_at_mut-pivot.ensures.front_len c.if-not-raise.ensures.1
          c.if-not-raise.ensures.2,
    )

pub clear_rows-requires-2-clause-full : goal.clear_rows-requires-2-clause-full
clear_rows-requires-2-clause-full g c =
    let above : List ℕ = c.split_at_mut-above.result.0.now in
    let pivot : List ℕ = c.split_at_mut-pivot.result.0.now in
    let below : List ℕ = c.split_at_mut-pivot.result.1.now in
    below-size c.args.size c.args.column c.args.rows.now above pivot below c.requires.column c.requires.full
    (c.split_at_mut-above.ensures.value ∙ ap (λ t. above ++ t) c.split_at_mut-pivot.ensures.value)
    c.split_at_mut-above.ensures.front_len c.split_at_mut-pivot.ensures.front_len
    ∙ ap (λ k. ((c.args.size - c.args.column) - 1) * k) (sym (c.scale.auto.target ∙ c.raise.auto.pivot))

pub returns : goal.returns
returns g c =
    let K : Ops = g.F.Scalars.ops c.args.f.now in
    let h : IsField K = g.met.F.Scalars.is_field c.args.f.now in
    let above : List ℕ = c.split_at_mut-above.result.0.now in
    let pivot : List ℕ = c.split_at_mut-pivot.result.0.now in
    let below : List ℕ = c.split_at_mut-pivot.result.1.now in
    column-written K h c.args.size c.args.column c.args.rows.now above pivot below c.raise.new.pivot c.scale.new.target
    c.clear_rows.new.rows c.clear_rows-2.new.rows
    c.inv-inverse.result c.requires.column c.requires.full c.requires.scalars
    (c.split_at_mut-above.ensures.value ∙ ap (λ t. above ++ t) c.split_at_mut-pivot.ensures.value)
    c.split_at_mut-above.ensures.front_len c.split_at_mut-pivot.ensures.front_len
    c.if-not-raise.ensures c.inv-inverse.ensures c.scale.ensures.product c.clear_rows.ensures c.clear_rows-2.ensures
    c.clear_rows.auto.rows
