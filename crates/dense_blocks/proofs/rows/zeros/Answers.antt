use Rattle.std.proofs.Common.{◌≡◌, replicate, ◌∙◌, rules}
use Rattle.std.proofs.lemmas.Result.{IfOk-weaker}
use Rattle.dense_blocks.specs.Vectors.{zeros}
use Rattle.dense_blocks.proofs.RowSteps.{zeros-replicate}
use Rattle.dense_blocks.proofs.rows.zeros.Goals as goal

pub returns-clause-items : goal.returns-clause-items
returns-clause-items c =
    IfOk-weaker c.vec.result (λ v. v.items ≡ replicate c.args.n 0) (λ v. v.items ≡ zeros c.args.n)
    (λ v e. e ∙ zeros-replicate c.args.n) (search rules)
