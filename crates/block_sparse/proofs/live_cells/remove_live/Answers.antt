use Rattle.std.proofs.Common.{◌∙◌, sym}
use Rattle.block_complexes.proofs.WithoutLaws.{without-at, without-absent}
use Rattle.block_sparse.proofs.live_cells.remove_live.Goals as goal

pub returns-in-Some : goal.returns-in-Some
returns-in-Some c =
    let h = rw c.as_slice.ensures at c.in-Some.ensures in
    c.remove.ensures ∙ without-at c.args.c c.args.live.now c.in-Some.at c.requires h.0 h.1

pub returns-in_default : goal.returns-in_default
returns-in_default c =
    let none = rw c.as_slice.ensures at c.in_default.ensures in
    sym (without-absent c.args.c c.args.live.now none)
