use Rattle.std.proofs.Common.{◌≡◌, ◌<◌, ◌≤◌, ⊎_elim, length, refl, ap, subst, arith}
use Rattle.std.proofs.lemmas.Bool.{cases_lt}
use Rattle.incidence_check.specs.Passes.{PassesBelow}
use Rattle.incidence_check.proofs.Passing.{all-pass, unmarked-first, unmarked-next}
use Rattle.incidence_check.proofs.pairs.all_pass.Goals as goal

pub loop-u-init : goal.loop-u-init
loop-u-init c = record {
  count = refl;
  marks = unmarked-first c.args.c.now 4096;
  passes = λ k l. absurd (omega (arith, l));
}

pub loop-u-preserved : goal.loop-u-preserved
loop-u-preserved c = record {
  count = c.mark_all.ensures.count;
  marks = unmarked-next c.args.c.now c.loop-u.u _ _ c.mark_all.ensures.marks;
  passes = λ k l. ⊎_elim (λ (before : k < c.loop-u.u). c.loop-u.invariant.passes k before)
      (λ (after : c.loop-u.u ≤ k).
      let here : c.loop-u.u ≡ k = omega (arith, l) in
      subst (PassesBelow c.args.c.now) here (c.if-not-all_cancel.ensures refl)) (cases_lt k c.loop-u.u);
}

pub returns : goal.returns
returns c = λ _. all-pass c.args.c.now c.dims.ensures.complex
    (λ u l. c.loop-u.invariant.passes u (omega (arith, l, ap length c.dims.ensures.dims)))
