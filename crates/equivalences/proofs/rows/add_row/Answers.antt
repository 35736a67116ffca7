use Rattle.equivalences.proofs.RowLaws.{add_row-zero}
use Rattle.equivalences.proofs.rows.add_row.Goals as goal

pub returns-then-are_zero : goal.returns-then-are_zero
returns-then-are_zero g c =
    add_row-zero (g.F.Scalars.ops c.args.f.now) (g.met.F.Scalars.is_field c.args.f.now) c.args.moved.now.rows
    c.args.moved.now.cols c.args.row.now c.args.coefficients.now c.args.moved.now.entries c.requires.width
    c.requires.row_scalars (c.are_zero.ensures.0 c.if-are_zero.true) c.args.moved.now.full c.requires.moved_scalars
