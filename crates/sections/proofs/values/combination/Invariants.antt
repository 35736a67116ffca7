use Rattle.equivalences.specs.CochainLists.{values_of}
use Rattle.sections.proofs.SumLaws.{IsSumSoFar}
use Rattle.sections.proofs.values.combination.Given as goal

abbrev pub invariant-loop-i : goal.invariant-loop-i
invariant-loop-i g l =
    IsSumSoFar (g.F.Scalars.ops l.f) l.size l.i l.coefficients (values_of l.cochains) l.sum.items
