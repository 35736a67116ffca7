use Rattle.std.proofs.Common.{◌*◌, length, sym, ap, ◌∙◌, subst}
use Rattle.dense_blocks.specs.Vectors.{AllScalars, zeros}
use Rattle.dense_blocks.proofs.Shapes.{vector-scalars}
use Rattle.dense_blocks.proofs.VectorLaws.{zeros-vector, zeros-size}
use Rattle.dense_blocks.proofs.Tails.{tail-read}
use Rattle.dense_blocks.proofs.AddingRows.{combination-written}
use Rattle.dense_blocks.proofs.entries.Entries.push_combination.Goals as goal

pub add_combination-requires-clause-full : goal.add_combination-requires-clause-full
add_combination-requires-clause-full g c =
    c.requires.full
    ∙ ap (λ n. length c.args.coefficients.now * n)
    (sym (ap length (tail-read c.as_mut_slice-all.result.now c.args.self.now (zeros c.args.columns) c.len-start.result
    (c.as_mut_slice-all.ensures.value ∙ c.self.view_is ∙ c.in_ok-push_zeros.ensures) c.len-start.ensures)
    ∙ zeros-size c.args.columns))

pub add_combination-requires-clause-target_scalars : goal.add_combination-requires-clause-target_scalars
add_combination-requires-clause-target_scalars g c =
    subst (AllScalars (g.F.Scalars.ops c.args.f.now))
    (sym (tail-read c.as_mut_slice-all.result.now c.args.self.now (zeros c.args.columns) c.len-start.result
    (c.as_mut_slice-all.ensures.value ∙ c.self.view_is ∙ c.in_ok-push_zeros.ensures) c.len-start.ensures))
    (vector-scalars (g.F.Scalars.ops c.args.f.now) c.args.columns (zeros c.args.columns)
    (zeros-vector (g.F.Scalars.ops c.args.f.now) (g.met.F.Scalars.is_field c.args.f.now) c.args.columns))

pub returns : goal.returns
returns g c =
    combination-written (g.F.Scalars.ops c.args.f.now) (g.met.F.Scalars.is_field c.args.f.now) c.args.columns
    c.args.coefficients.now c.args.rows.now c.args.self.now c.self.inside.items.items c.as_mut_slice-all.result.now
    c.add_combination.new.target c.len-start.result c.as_mut_slice-all.ensures.value
    (c.self.view_is ∙ c.in_ok-push_zeros.ensures)
    c.len-start.ensures c.requires.full c.requires.row_scalars c.add_combination.ensures.sum
