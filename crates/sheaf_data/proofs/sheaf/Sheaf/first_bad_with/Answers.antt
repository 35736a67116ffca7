use Rattle.square_check.proofs.Elsewhere.{others-commute}
use Rattle.sheaf_data.proofs.sheaf.Sheaf.first_bad_with.Goals as goal

pub first_bad-requires-clause-touched : goal.first_bad-requires-clause-touched
first_bad-requires-clause-touched g c =
    let faces = rw (← c.self.view_is, ← c.draft.view_is) at c.requires.faces in
    let others = rw (← c.self.view_is, ← c.draft.view_is, ← c.as_slice.ensures) at c.requires.others in
    let commutes = rw (← c.draft.view_is) at c.self.invariant.commutes in (
      faces,
      others-commute (g.F.Scalars.ops c.draft.inside.field) c.draft.inside.complex c.draft.inside.blocks
          c.as_slice.result.now c.args.touched.now others commutes,
    )

pub returns : goal.returns
returns g c = rw (← c.self.view_is, ← c.draft.view_is, ← c.as_slice.ensures) c.first_bad.ensures
