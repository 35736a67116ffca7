use Rattle.std.proofs.Common.{sym, ◌∙◌}
use Rattle.pair_commit.proofs.KeptLaws.{pivot-stands}
use Rattle.pair_commit.proofs.next.copy_kept.Goals as goal

pub returns-clause-pivot : goal.returns-clause-pivot
returns-clause-pivot c =
    let kept = c.args.kept.now in
    let stands = c.requires.stands in
    pivot-stands c.args.b.now kept.x kept.y c.in_ok-foot.foot kept.pivot stands c.requires.square
    (c.in_ok-foot.ensures.copied.pivot ∙ sym stands.is_matrix)
