use Rattle.std.proofs.Common.{◌∙◌, sym}
use Rattle.block_complexes.proofs.WithoutLaws.{without-at, without-absent}
use Rattle.equivalences.proofs.live.remove.Goals as goal

pub returns-in-Some : goal.returns-in-Some
returns-in-Some c =
    let h = rw c.deref.ensures.value at c.in-Some.ensures in
    c.remove.ensures.items ∙ without-at c.args.c c.args.live.now.items c.in-Some.at c.requires h.0 h.1

pub returns-in_default : goal.returns-in_default
returns-in_default c =
    let none = rw c.deref.ensures.value at c.in_default.ensures in
    sym (without-absent c.args.c c.args.live.now.items none)
