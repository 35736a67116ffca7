use Rattle.std.proofs.Common.{◌≡◌, None, Some, length, map, refl, subst}
use Rattle.square_check.specs.Searches.{IsFirstFailure}
use Rattle.square_check.specs.Squares.{Commutes}
use Rattle.sheaf_words.specs.declared.edit.Cause.TheVariants.{Square}
use Rattle.sheaf_words.specs.declared.edit.Verdict.TheVariants.{Refused}
use Rattle.dense_blocks.specs.Blocks.{written_matrix}
use Rattle.edit_versions.specs.Verdicts.{IsSquareVerdict}
use Rattle.edit_versions.proofs.application.put_work.Goals as goal

pub returns-in-Ok-clause-accepted : goal.returns-in-Ok-clause-accepted
returns-in-Ok-clause-accepted g c =
    let K = g.F.Scalars.ops c.args.sheaf.now.field in
    let complex = c.args.sheaf.now.complex in
    record {
      blocks = c.args.work.blocks.items;
      same = refl;
      bad = None;
      first = subst (λ bs. IsFirstFailure (Commutes K complex bs) (length complex.dims) None) c.of-2.ensures
          (c.in-Ok.ensures.commute.0 refl);
      verdict = refl;
    }

pub returns-clause-refused : goal.returns-clause-refused
returns-clause-refused g c = λ cause e.
    let K = g.F.Scalars.ops c.args.sheaf.now.field in
    let complex = c.args.sheaf.now.complex in
    let same : Square c.in-Err.s c.in-Err.u ≡ cause = cc in
    subst (λ x. IsSquareVerdict K complex (map written_matrix c.args.work.blocks.items) (Refused x)) same
    (record {
      blocks = c.args.work.blocks.items;
      same = refl;
      bad = Some (c.in-Err.s, c.in-Err.u);
      first = subst (λ bs. IsFirstFailure (Commutes K complex bs) (length complex.dims) (Some (c.in-Err.s, c.in-Err.u)))
          c.of-2.ensures c.in-Err.ensures.refused;
      verdict = refl;
    })
