use Rattle.std.proofs.Common.{arith}
use Rattle.std.proofs.lemmas.Grind.{common_steps}
use Rattle.std.proofs.lemmas.Result.{err_from_is_err_and}
use Rattle.io_edge.proofs.Known.{gave_then}
use Rattle.io_edge.proofs.Readings.{read_too_long, read_broken}
use Rattle.io_edge.proofs.input.read_all.Goals as goal

pub returns-in-Ok-clause-gave : goal.returns-in-Ok-clause-gave
returns-in-Ok-clause-gave g c = (
  _,
  gave_then _ _ _ _ _ c.reads.invariant.gave c.in-Ok.ensures.gave,
  read_too_long _ _ (grind (arith, common_steps)),
)

pub returns-in_err-extend_from_slice-in-Ok-2-clause-gave :
    goal.returns-in_err-extend_from_slice-in-Ok-2-clause-gave
returns-in_err-extend_from_slice-in-Ok-2-clause-gave g c =
    let p = err_from_is_err_and c.from_residual.result c.from_residual.ensures.1 in
    rw (p.1, p.2) (
      _,
      gave_then _ _ _ _ _ c.reads.invariant.gave c.in-Ok.ensures.gave,
      read_broken _ _ _ (grind (arith, common_steps)) (λ e. cc),
    )
