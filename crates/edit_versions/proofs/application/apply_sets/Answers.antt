use Rattle.std.proofs.Common.{ap, ◌∙◌, subst}
use Rattle.edit_versions.specs.Works.{IsTouched}
use Rattle.edit_versions.proofs.Putting.{touched-none}
use Rattle.edit_versions.proofs.application.apply_sets.Goals as goal

pub put_work-requires-clause-touched : goal.put_work-requires-clause-touched
put_work-requires-clause-touched g c =
    let start = c.args.sheaf.now.blocks in
    let same = c.draft.view_is ∙ c.draft-draft.ensures.draft in
    let blocks = c.in_ok-work.ensures.blocks ∙ c.as_slice-2.ensures ∙ ap (λ d. d.blocks) same in
    let begun = touched-none c.draft.inside.complex start c.in_ok-work.work blocks c.in_ok-work.ensures.touched in
    subst (λ complex. IsTouched complex start c.make_sets.new.work) (ap (λ d. d.complex) same)
    (c.in_ok-make_sets.ensures.touched start begun)
