use Rattle.std.proofs.Common.{◌∙◌, ap, set}
use Rattle.plain_bases.proofs.VecLaws.{unit_row}
use Rattle.plain_bases.proofs.columns.unit.Goals as goal

pub returns : goal.returns
returns c = ap (λ v. set v c.args.j 1) c.in_ok-vector.ensures.items ∙ unit_row c.args.n c.args.j c.requires
