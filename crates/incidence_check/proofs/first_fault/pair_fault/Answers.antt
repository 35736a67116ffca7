use Rattle.std.proofs.Common.{length, inl, ap, arith}
use Rattle.cell_complex.proofs.Callers.{length-middles}
use Rattle.incidence_check.proofs.first_fault.pair_fault.Goals as goal

pub count-others-requires-clause-fits : goal.count-others-requires-clause-fits
count-others-requires-clause-fits c =
    let most = length-middles c.args.c.now c.requires.complex c.args.s c.args.u in
    inl (omega (
      arith,
      most,
      ap length c.middles-middles.ensures,
      ap length c.in_ok-first.ensures.steps,
      ap length c.in-Some.ensures.steps,
    ))

pub overflow_cast-others : goal.overflow_cast-others
overflow_cast-others c =
    let most = length-middles c.args.c.now c.requires.complex c.args.s c.args.u in
    omega (
      arith,
      most,
      c.count-others.ensures.bound,
      ap length c.middles-middles.ensures,
      ap length c.in_ok-first.ensures.steps,
      ap length c.in-Some.ensures.steps,
    )

pub overflow_add-result : goal.overflow_add-result
overflow_add-result c =
    let most = length-middles c.args.c.now c.requires.complex c.args.s c.args.u in
    omega (
      arith,
      most,
      c.count-others.ensures.bound,
      ap length c.middles-middles.ensures,
      ap length c.in_ok-first.ensures.steps,
      ap length c.in-Some.ensures.steps,
    )
