use Rattle.std.proofs.Common.{inl, inr, refl}
use Rattle.scalar_finish.proofs.reduction.visit.Goals as goal

pub remove-requires-clause-first : goal.remove-requires-clause-first
remove-requires-clause-first g c = c.in-Some.ensures

pub returns-in_ok-push-in-Some : goal.returns-in_ok-push-in-Some
returns-in_ok-push-in-Some g c =
    inr (c.in-Some.y, c.in_ok-step-in-Some.step, c.in-Some.ensures, c.in_ok-step-in-Some.ensures, c.in_ok-push-in-Some.ensures.items)

pub returns-in-None : goal.returns-in-None
returns-in-None g c = inl (c.in-None.ensures, refl, refl)
