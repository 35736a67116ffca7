use Rattle.std.proofs.Common.{sym}
use Rattle.std.proofs.lemmas.Bool.{true≢false}
use Rattle.sheaf_data.proofs.Drafts.{sheaf-replaced}
use Rattle.sheaf_data.proofs.sheaf.Sheaf.put_all.Goals as goal

pub returns-in-Some-clause-commute : goal.returns-in-Some-clause-commute
returns-in-Some-clause-commute g c =
    (λ e. absurd (true≢false (sym e)), λ all. absurd (c.in-Some.ensures.fails (all _ _)))

pub invariant_of-self : goal.invariant_of-self
invariant_of-self g c =
    let fits = rw (← c.self.view_is) at c.requires.fits in
    let commutes = rw (← c.self.view_is) at c.in_default.ensures in
    rw c.replace.ensures (sheaf-replaced (g.F.Scalars.ops c.self.inside.draft.field) c.self.inside.draft.complex
    c.self.inside.draft.stalks c.args.stalks
    c.self.inside.draft.blocks c.args.blocks c.self.invariant fits commutes)
