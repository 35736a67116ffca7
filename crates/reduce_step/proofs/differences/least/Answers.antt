use Rattle.std.proofs.Common.{get_or, arith}
use Rattle.std.proofs.lemmas.Bool.Decides.{nat_tests}
use Rattle.reduce_step.proofs.DifferenceLaws.{least-first}
use Rattle.reduce_step.proofs.differences.least.Goals as goal
use Rattle.reduce_step.proofs.differences.least.Goals.{else-not-is_empty-via-then-not-is_empty+else-listed-c}
use Rattle.reduce_step.proofs.differences.least.Goals.{else-not-is_empty-via-else-not-is_empty}

pub returns-then-listed-c-clause-least : goal.returns-then-listed-c-clause-least
returns-then-listed-c-clause-least c =
    least-first c.args.c (get_or c.args.listed.now 0 (0, 0)).0 c.args.listed.now c.requires (omega arith)
    (λ l. omega arith)

pub returns-else-not-is_empty-clause-least : goal.returns-else-not-is_empty-clause-least
returns-else-not-is_empty-clause-least c =
    least-first c.args.c c.args.c c.args.listed.now c.requires (omega arith) (λ l. elim c.else-not-is_empty.branch [
      | else-not-is_empty-via-then-not-is_empty+else-listed-c w ↦ omega arith
      | else-not-is_empty-via-else-not-is_empty w ↦ grind (arith, nat_tests)
    ])
