use Rattle.std.proofs.Common.{refl}
use Rattle.sheaf_data.proofs.draft.Draft.fault.Goals as goal

pub returns-in_err-s : goal.returns-in_err-s
returns-in_err-s g c =
    let commutes = rw c.as_slice-blocks.ensures at c.in_err-s.ensures in
    rw (c.from_residual.ensures, ← c.self.view_is) (record {
      regular = c.in_default.ensures.regular.0 refl;
      one_each = c.self.invariant.stalks_fit.one_each;
      low = c.self.invariant.stalks_fit.low;
      few = c.self.invariant.stalks_fit.few;
      shapes = c.self.invariant.blocks_fit.shapes;
      scalars = c.self.invariant.blocks_fit.scalars;
      commutes = commutes;
    })
