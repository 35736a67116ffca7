use Rattle.std.proofs.Common.{is_some, ap, ◌∙◌}
use Rattle.edit_versions.proofs.Replacing.{is_some-place}
use Rattle.edit_versions.proofs.judgement.is_face.Goals as goal

pub returns : goal.returns
returns c = c.is_some.ensures ∙ ap is_some c.place.ensures ∙ is_some-place c.args.c.now c.args.s c.args.t
