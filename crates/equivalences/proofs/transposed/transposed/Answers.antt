use Rattle.std.proofs.Common.{◌≡◌, ◌*◌, ℕ, List, length, get_or, drop, ap, ◌∙◌, arith}
use Rattle.std.proofs.lemmas.List.{take_at}
use Rattle.dense_blocks.specs.Matrices.{cut}
use Rattle.equivalences.proofs.ColumnLaws.{zeros-entries, transposed-scalars}
use Rattle.equivalences.proofs.transposed.transposed.Goals as goal

pub put_columns-requires-clause-zeros : goal.put_columns-requires-clause-zeros
put_columns-requires-clause-zeros c = λ k.
    ap (λ xs. get_or xs k 0) (c.deref_mut.ensures.value ∙ c.in_ok-entries.ensures.items)
    ∙ zeros-entries c.len.result k

pub returns-clause-block : goal.returns-clause-block
returns-clause-block c =
    let a = c.args.a.now in
    let new : List ℕ = c.put_columns.new.into in
    let is = c.in_ok-block.ensures.block in
    record {
      rows_are = is.rows_are;
      columns_are = is.columns_are;
      matrix_is = is.matrix_is
          ∙ ap (cut a.cols a.rows)
          (c.deref.ensures.value
          ∙ take_at new (drop (length new) c.in_ok-entries.entries.items) c.in_ok-entries.entries.len
          (c.put_columns.ensures.length ∙ c.deref_mut.ensures.len))
          ∙ c.put_columns.ensures.matrix;
    }

pub returns-clause-scalars : goal.returns-clause-scalars
returns-clause-scalars c = λ K F h.
    let a = c.args.a.now in
    let new : List ℕ = c.put_columns.new.into in
    let entries : List ℕ = c.in_ok-block.block.entries in
    let same : entries ≡ new =
    c.in_ok-block.ensures.entries
    ∙ c.deref.ensures.value
    ∙ take_at new (drop (length new) c.in_ok-entries.entries.items) c.in_ok-entries.entries.len
    (c.put_columns.ensures.length ∙ c.deref_mut.ensures.len) in
    let size : length entries ≡ a.cols * a.rows =
    omega (
      arith,
      ap length same,
      c.put_columns.ensures.length,
      c.deref_mut.ensures.len,
      c.in_ok-entries.ensures.len,
      c.len.ensures,
      a.full,
    ) in
    transposed-scalars K F a.rows a.cols a.entries entries a.full h size
    (ap (cut a.cols a.rows) same ∙ c.put_columns.ensures.matrix)
