use Rattle.std.proofs.Common.{ℕ, ◌*◌, List, ap, ap₂, sym, ◌∙◌, subst, length, drop}
use Rattle.std.proofs.lemmas.List.{take_at}
use Rattle.dense_blocks.specs.Field.{Ops}
use Rattle.dense_blocks.specs.Vectors.{AllScalars}
use Rattle.dense_blocks.specs.Matrices.{cut}
use Rattle.dense_blocks.specs.Blocks.{matrix_of}
use Rattle.equivalences.specs.Rows.{with_product}
use Rattle.equivalences.proofs.RowLaws.{AreWritten, are_written}
use Rattle.equivalences.proofs.rows.Rows.add_product.Goals as goal

pub add_rows-requires-clause-full : goal.add_rows-requires-clause-full
add_rows-requires-clause-full g c =
    let s = c.self.inside in
    ap length c.deref_mut.ensures.value
    ∙ (are_written (g.F.Scalars.ops c.args.f.now) c.args.moved.now.cols c.args.self.now s.count s.start s.width
    s.is_written s.entries.items c.write.new.entries.items c.self.invariant c.in_ok-write.ensures.rows
    c.in_ok-write.ensures.written c.self.view_is c.requires.rows c.requires.some).full

pub add_rows-requires-clause-coefficients : goal.add_rows-requires-clause-coefficients
add_rows-requires-clause-coefficients g c =
    let s = c.self.inside in
    c.requires.full
    ∙ ap (λ m. m * c.args.moved.now.rows)
    (are_written (g.F.Scalars.ops c.args.f.now) c.args.moved.now.cols c.args.self.now s.count s.start s.width
    s.is_written s.entries.items c.write.new.entries.items c.self.invariant c.in_ok-write.ensures.rows
    c.in_ok-write.ensures.written c.self.view_is c.requires.rows c.requires.some).count_is

pub add_rows-requires-clause-row_scalars : goal.add_rows-requires-clause-row_scalars
add_rows-requires-clause-row_scalars g c =
    let s = c.self.inside in
    subst (AllScalars (g.F.Scalars.ops c.args.f.now)) (sym c.deref_mut.ensures.value)
    (are_written (g.F.Scalars.ops c.args.f.now) c.args.moved.now.cols c.args.self.now s.count s.start s.width
    s.is_written s.entries.items c.write.new.entries.items c.self.invariant c.in_ok-write.ensures.rows
    c.in_ok-write.ensures.written c.self.view_is c.requires.rows c.requires.some).scalars

pub returns : goal.returns
returns g c =
    let K : Ops = g.F.Scalars.ops c.args.f.now in
    let s = c.self.inside in
    let n : ℕ = c.args.moved.now.cols in
    let k : ℕ = c.args.moved.now.rows in
    let R : List (List ℕ) = matrix_of c.args.moved.now in
    let new : List ℕ = c.add_rows.new.rows in
    let done : AreWritten K n c.args.self.now s.count s.width c.write.new.entries.items =
    are_written K n c.args.self.now s.count s.start s.width s.is_written s.entries.items c.write.new.entries.items
    c.self.invariant c.in_ok-write.ensures.rows c.in_ok-write.ensures.written c.self.view_is c.requires.rows
    c.requires.some in
    ap (cut s.count s.width) (take_at new (drop (length new) c.write.new.entries.items) c.write.new.entries.len
    (c.add_rows.ensures.length ∙ c.deref_mut.ensures.len))
    ∙ ap (λ w. cut s.count w new) done.width_is
    ∙ c.add_rows.ensures.sum
    ∙ ap₂ (λ A J. with_product K n A J R) (ap (cut s.count n) c.deref_mut.ensures.value ∙ done.matrix_is)
    (ap (λ m. cut m k c.args.coefficients.now) (sym done.count_is))
