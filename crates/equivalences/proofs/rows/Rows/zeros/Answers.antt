use Rattle.std.proofs.Common.{ap, ◌∙◌}
use Rattle.dense_blocks.specs.Matrices.{cut}
use Rattle.dense_blocks.proofs.Cutting.{cut-zeros}
use Rattle.equivalences.proofs.rows.Rows.zeros.Goals as goal

pub returns : goal.returns
returns c = ap (cut c.args.count c.args.width) c.in_ok-zeros.ensures.items ∙ cut-zeros c.args.count c.args.width
