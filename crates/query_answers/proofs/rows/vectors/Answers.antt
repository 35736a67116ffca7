use Rattle.std.proofs.Common.{slice_get, ap, sym, ◌∙◌}
use Rattle.equivalences.specs.CochainLists.{values_of}
use Rattle.query_answers.proofs.rows.vectors.Goals as goal

pub returns : goal.returns
returns c = (
  c.member-basis.result.now,
  ap (slice_get c.args.bases.now) (sym c.from.ensures) ∙ c.member-basis.ensures,
  c.in_ok-vectors.ensures ∙ ap values_of c.deref.ensures.value,
)
